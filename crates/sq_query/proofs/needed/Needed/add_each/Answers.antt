-- Left open for Needed::add_each: its result; answered by Added.
use Rattle.std.proofs.Common.{refl}
use Rattle.sq_query.specs.Needed.{places_in}
use Rattle.sq_query.proofs.Needs.Added.{items_added}
use Rattle.sq_query.proofs.needed.Needed.add_each.Goals as goal

pub returns : goal.returns
returns c = items_added (places_in c.args.self.now) (places_in c.loop-table.self) c.args.tables.now c.args.tables.now c.loop-table.table-index refl c.loop-table-test.false c.loop-table.invariant
