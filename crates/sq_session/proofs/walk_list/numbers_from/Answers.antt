-- Left open for numbers_from: its result, and that the loop keeps its invariant; answered by Listing.
use Rattle.std.proofs.Common.{◌≡◌, ◌∙◌, ◌+◌, ◌++◌, ◌∷◌, [], ℕ, List, Some, None, ap, sym, append_assoc}
use Rattle.std.proofs.lemmas.List.{append-nil}
use Rattle.std.specs.Option.{option_map}
use Rattle.sq_store.specs.Content.{table_at}
use Rattle.sq_store.specs.declared.table.Numbered.{Numbered}
use Rattle.sq_query.specs.Table.{numbered_row}
use Rattle.sq_query.specs.Target.{conditions_of}
use Rattle.sq_session.specs.Walk.{first_meant, numbers_meant}
use Rattle.sq_session.proofs.Walks.Listing.{numbers_end, numbers_next}
use Rattle.sq_session.proofs.walk_list.numbers_from.Goals as goal

pub loop-numbers-preserved : goal.loop-numbers-preserved
loop-numbers-preserved g c =
    let store = c.args.store.now in
    let walk = c.args.walk.now in
    let conditions = conditions_of walk.target.now in
    let rows = (table_at (g.S.Store.content_now store) walk.table).rows in
    let row : Numbered = record { number = c.in-Some.found; row = c.in-Some.field-0-1.now } in
    let numbers : List ℕ = c.loop-numbers.numbers in
    let others : List ℕ = numbers_meant conditions walk.values.now walk.user (c.in-Some.found + 1) c.args.mark rows in
    let meant : first_meant conditions walk.values.now walk.user c.loop-numbers.number c.args.mark rows ≡ Some row = sym c.in_ok-found.ensures.first.meant ∙ ap (option_map numbered_row) c.in-Some.is in
    let next = numbers_next (g.S.Store.row_numbers store) (g.S.Store.content_now store) walk.table conditions walk.values.now walk.user c.loop-numbers.number c.args.mark row (g.met.S.Store.rises store) meant in
    c.loop-numbers.invariant ∙ ap (λ (m : List ℕ). numbers ++ m) next ∙ sym (append_assoc numbers (c.in-Some.found ∷ []) others) ∙ ap (λ (m : List ℕ). m ++ others) (sym c.in_ok-push.ensures.ok)

pub returns : goal.returns
returns g c =
    let walk = c.args.walk.now in
    let conditions = conditions_of walk.target.now in
    let rows = (table_at (g.S.Store.content_now c.args.store.now) walk.table).rows in
    let meant : first_meant conditions walk.values.now walk.user c.loop-numbers.number c.args.mark rows ≡ None = sym c.in_ok-found.ensures.first.meant ∙ ap (option_map numbered_row) c.in_default.is in
    let ends = numbers_end conditions walk.values.now walk.user c.loop-numbers.number c.args.mark rows meant in
    sym (c.loop-numbers.invariant ∙ ap (λ (m : List ℕ). c.loop-numbers.numbers ++ m) ends ∙ append-nil c.loop-numbers.numbers)
