-- Left open for index_on: its result; answered by Entries and Keyed.
use Rattle.std.proofs.Common.{◌∙◌, ◌<◌, arith, length, sym}
use Rattle.sq_heap.proofs.Entries.{same_numbers}
use Rattle.sq_heap.proofs.Keyed.{columns_at_index}
use Rattle.sq_heap.proofs.indexes.index_on.Goals as goal

pub returns-then-eq : goal.returns-then-eq
returns-then-eq c =
    let lt : c.loop-place.place < length c.args.indexes.now = omega (arith, c.loop-place-test.true) in (
      lt,
      columns_at_index c.args.indexes.now c.loop-place.place c.index-indexes-place.result lt c.index-indexes-place.is
          ∙ sym c.columns.ensures ∙ same_numbers c.columns.result.now c.args.columns.now (sym c.eq.ensures ∙ c.if-eq.true),
    )
