-- Left open for Walk::key: the clause found, and that a place is unreachable; answered without a law.
use Rattle.sq_catalog.specs.Catalog.{column_kinds}
use Rattle.sq_session.proofs.walk.Walk.key.Goals as goal

pub unreachable-requires : goal.unreachable-requires
unreachable-requires g c =
    let walk = c.args.self.now in
    let memory = rw c.in-Err-Status.field-0-is at (c.in-Err-Status.ensures.memory (column_kinds walk.catalog.now) c.requires.quiet.parameters c.requires.quiet.is_target c.requires.quiet.given) in
    absurd cc

pub returns-in-Ok-clause-found : goal.returns-in-Ok-clause-found
returns-in-Ok-clause-found g c = c.in-Ok.ensures.found c.requires.quiet.quiet
