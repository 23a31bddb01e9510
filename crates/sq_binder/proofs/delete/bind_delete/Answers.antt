-- Left open for bind_delete: the clauses finds and there; answered by Bases, Turned and There.
use Rattle.std.proofs.Common.{◌≡◌}
use Rattle.std.proofs.lemmas.Result.{IfOk-weaker}
use Rattle.sq_meaning.specs.Spelled.{table_of}
use Rattle.sq_bound.specs.Fits.{under}
use Rattle.sq_bound.specs.declared.statement.BoundStatement.TheVariants as bound
use Rattle.sq_bound.specs.declared.statement.ChangeTarget.{ChangeTarget}
use Rattle.sq_binding.specs.Changeable.{changed_table}
use Rattle.sq_binder.specs.Found.{counts_of}
use Rattle.sq_binder.specs.Surroundings.{surroundings}
use Rattle.sq_binder.specs.declared.found.Found.{Found}
use Rattle.sq_binder.specs.Changeable.{changed_of, table_name}
use Rattle.sq_binder.proofs.Changes.Bases.{base_there}
use Rattle.sq_binding.specs.There.{StatementIsThere}
use Rattle.sq_binder.specs.Names.{names_at}
use Rattle.sq_binder.specs.Delete.{delete_over}
use Rattle.sq_binding.specs.SeenQuery.{change_seen}
use Rattle.sq_binder.proofs.OneByOne.Turned.{outcome_stops, outcome_then}
use Rattle.sq_binder.proofs.Statements.There.{delete_there}
use Rattle.sq_binder.proofs.delete.bind_delete.Goals as goal

pub returns-in-Ok-clause-finds : goal.returns-in-Ok-clause-finds
returns-in-Ok-clause-finds g c =
    let names = names_at g.T.Tables.named g.T.ChangeableTables.changes c.args.at.now in
    let a = surroundings g.T.Tables.named c.args.at.now in
    let cursors = g.C.Cursors.named c.args.cursors.now in
    let s = c.args.delete.now in
    outcome_then change_seen (changed_table names (table_of names.user s.table)) (delete_over names a cursors s) c.args.before (changed_of c.in-Ok.table) c.delete_from.result c.in-Ok.ensures.binds c.delete_from.ensures.finds

pub returns-in-Err-clause-finds : goal.returns-in-Err-clause-finds
returns-in-Err-clause-finds g c =
    let names = names_at g.T.Tables.named g.T.ChangeableTables.changes c.args.at.now in
    let a = surroundings g.T.Tables.named c.args.at.now in
    let cursors = g.C.Cursors.named c.args.cursors.now in
    let s = c.args.delete.now in
    outcome_stops (changed_table names (table_of names.user s.table)) (delete_over names a cursors s) (counts_of c.args.before) c.in-Err.stop c.in-Err.ensures.binds

pub returns-in-Ok-clause-there : goal.returns-in-Ok-clause-there
returns-in-Ok-clause-there g c = λ bases over.
    let table = c.in-Ok.table in
    let leaf = table.under.leaf.now in
    let base = base_there bases (g.T.ChangeableTables.changes c.args.at.now.tables.now) over (table_name table) leaf c.in-Ok.ensures.under in
    IfOk-weaker c.delete_from.result (λ (found : Found ChangeTarget). under found.part ≡ leaf) (λ (found : Found ChangeTarget). StatementIsThere bases (bound.Delete found.part)) (λ found is. delete_there bases leaf base found.part is) c.delete_from.ensures.leaf

pub returns-in-Err-clause-there : goal.returns-in-Err-clause-there
returns-in-Err-clause-there g c = λ bases over. tt
