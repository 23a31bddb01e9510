use Rattle.std.proofs.Common.{◌≡◌, length}
use Rattle.sq_query.specs.Asked.{AreThrough}
use Rattle.sq_query.proofs.plain_view.columns_asked.Given as goal

abbrev pub invariant-loop-column : goal.invariant-loop-column
invariant-loop-column l = (length l.columns.items ≡ l.column) × AreThrough l.query l.asked.through l.columns.items
