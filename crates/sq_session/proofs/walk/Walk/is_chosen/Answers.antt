-- Left open: the call of is_chosen, the result, and that a place is unreachable; answered by QuietWalks.
use Rattle.sq_catalog.specs.Catalog.{bases_there, column_kinds}
use Rattle.sq_query.proofs.Needs.Finds.{target_finds}
use Rattle.sq_session.proofs.Walks.QuietWalks.{meant, no_status}
use Rattle.sq_session.proofs.walk.Walk.is_chosen.Goals as goal

pub is_chosen-requires : goal.is_chosen-requires
is_chosen-requires g c =
    let walk = c.args.self.now in
    target_finds walk.catalog.now.bases (column_kinds walk.catalog.now) (bases_there walk.catalog.now) c.requires.quiet.parameters walk.target.now c.requires.quiet.is_target

pub unreachable-requires : goal.unreachable-requires
unreachable-requires g c =
    let walk = c.args.self.now in
    no_status (column_kinds walk.catalog.now) walk.target.now walk.values.now walk.user c.args.row.now c.in-Err-Status.field-0-0 c.requires.quiet c.requires.row (rw c.in-Err-Status.field-0-is at c.in-Err-Status.ensures.plain)

pub returns-in-Ok : goal.returns-in-Ok
returns-in-Ok g c =
    let walk = c.args.self.now in
    λ number. meant (column_kinds walk.catalog.now) walk.target.now walk.values.now walk.user number c.args.row.now c.in-Ok.chosen c.requires.quiet c.in-Ok.ensures.plain
