-- Left open for columns_at_leaf: its result, and that the loop keeps its invariant; answered by Columns.
use Rattle.std.proofs.Common.{◌≡◌, [], ◌∷◌, ◌++◌, Some, map, sym, ap, ◌∙◌}
use Rattle.std.proofs.lemmas.Option.{get_or_from_slice_get, slice_get_within}
use Rattle.std.specs.List.{slice_get}
use Rattle.std.proofs.lemmas.List.{map-append}
use Rattle.sq_binding.specs.From.{column_over}
use Rattle.sq_binder.specs.Scope.{column_of}
use Rattle.sq_binder.specs.Surroundings.{descriptor_of}
use Rattle.sq_binder.proofs.Changes.Columns.{all_at_leaf, next_at_leaf, past_end, rest_left_out}
use Rattle.sq_binder.proofs.changeable.columns_at_leaf.Goals as goal

pub returns-in_default : goal.returns-in_default
returns-in_default c =
    c.loop-position.invariant ∙ rest_left_out c.args.under.now c.args.columns.now c.loop-position.position (past_end c.args.columns.now c.loop-position.position (sym c.column_at.ensures ∙ c.in_default.is))

pub loop-position-preserved : goal.loop-position-preserved
loop-position-preserved c =
    let under = c.args.under.now in
    let columns = c.args.columns.now in
    let i = c.loop-position.position in
    let own = c.index-under-position.result in
    let column = c.in-Some.column in
    let is : slice_get columns i ≡ Some column = sym c.column_at.ensures ∙ c.in-Some.is in
    ap (map column_of) c.in_ok-push.ensures.ok ∙ map-append column_of c.loop-position.items _
    ∙ ap (λ cs. cs ++ column_over (own.leaf_column, descriptor_of column) ∷ []) c.loop-position.invariant
    ∙ sym (next_at_leaf under columns i own column c.loop-position-test.true (slice_get_within columns i column is) (sym c.index-under-position.is) (get_or_from_slice_get columns i column column is))

pub returns : goal.returns
returns c = c.loop-position.invariant ∙ all_at_leaf c.args.under.now c.args.columns.now c.loop-position.position c.loop-position-test.false
