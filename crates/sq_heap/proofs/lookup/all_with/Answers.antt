-- Left open for all_with: its result; answered by FoundRows.
use Rattle.std.proofs.Common.{◌≡◌, ◌∙◌, ap, filter}
use Rattle.sq_store.specs.Found.{has_one_of, numbered_in}
use Rattle.sq_heap.specs.Lookup.{has_place, rows_under}
use Rattle.sq_heap.specs.Slots.{rows_from}
use Rattle.sq_heap.proofs.FoundRows.{rows_found}
use Rattle.sq_heap.proofs.OnResult.{so_if_ok}
use Rattle.sq_heap.proofs.lookup.all_with.Goals as goal

pub returns : goal.returns
returns c =
    let index = c.args.index.now in
    let ss = c.args.slots.now in
    let several = c.args.several.now in
    let places = c.put_in_order.new.places.items in
    so_if_ok c.rows_under.result (λ rows. numbered_in rows ≡ rows_under ss c.as_slice.result.now)
    (λ rows. numbered_in rows ≡ filter (has_one_of index.columns several) (rows_from 1 ss))
    (λ rows h.
    h ∙ ap (rows_under ss) c.as_slice.ensures.value
    ∙ rows_found index ss several places c.requires c.put_in_order.ensures.rising
    (λ at. c.put_in_order.ensures.same at ∙ ap (λ xs. has_place xs at) c.in_ok-places.ensures))
    c.rows_under.ensures
