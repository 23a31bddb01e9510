-- Left open for references_of: the clause named; answered by References.
use Rattle.sq_catalog.specs.Reference.{IsFoundAs, constraint_lent}
use Rattle.sq_catalog.specs.Written.{names_at}
use Rattle.sq_catalog.proofs.CreateTable.References.{zip_map}
use Rattle.sq_catalog.proofs.reference.references_of.Goals as goal

pub returns-in-Ok-clause-named : goal.returns-in-Ok-clause-named
returns-in-Ok-clause-named c =
    let own = c.args.own.now in
    zip_map (IsFoundAs c.args.catalog.now own.user own.full_name (names_at own.columns.now)) constraint_lent c.args.written.now c.add_found.new.references.items c.in-Ok.ensures.named
