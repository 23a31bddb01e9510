-- Left open for is_there: what the call of find_key asks for, and the clause meant; answered by Held.
use Rattle.std.proofs.Common.{ap}
use Rattle.std.specs.Prelude.{Option, is_some}
use Rattle.sq_store.specs.declared.table.Numbered.{Numbered}
use Rattle.sq_meaning.specs.declared.status.Status.TheVariants.{IntegrityConstraintViolation}
use Rattle.sq_meaning.specs.Constraints.{demanded}
use Rattle.sq_change.proofs.Changes.Held.{table_of_key}
use Rattle.sq_change.proofs.reference.is_there.Goals as goal

pub find_key-requires-clause-table : goal.find_key-requires-clause-table
find_key-requires-clause-table g c =
    let store = c.args.store.now in
    let referenced = c.args.referenced.now in
    table_of_key (g.S.Store.key_columns store) (g.S.Store.content_now store) referenced.table referenced.key (g.met.S.Store.keyed store) c.requires

pub returns-in-Some-clause-meant : goal.returns-in-Some-clause-meant
returns-in-Some-clause-meant g c = ap (λ (found : Option Numbered). demanded (is_some found) IntegrityConstraintViolation) c.in-Some.ensures.row

pub returns-in-None-clause-meant : goal.returns-in-None-clause-meant
returns-in-None-clause-meant g c = ap (λ (found : Option Numbered). demanded (is_some found) IntegrityConstraintViolation) c.in-None.ensures.row
