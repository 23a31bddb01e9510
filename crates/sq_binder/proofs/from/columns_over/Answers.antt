-- Left open for columns_over: that the loop keeps its invariant; answered by FromItems.
use Rattle.std.proofs.Common.{[], ◌∷◌, ◌++◌, map, sym, ap, ◌∙◌}
use Rattle.std.proofs.lemmas.List.{map-append}
use Rattle.sq_binding.specs.From.{column_over}
use Rattle.sq_binder.specs.Scope.{column_of}
use Rattle.sq_binder.specs.Surroundings.{descriptor_of}
use Rattle.sq_binder.proofs.Clauses.FromItems.{columns_next}
use Rattle.sq_binder.proofs.from.columns_over.Goals as goal

pub loop-position-preserved : goal.loop-position-preserved
loop-position-preserved c =
    let column = c.index-columns-position.result in
    let at = c.loop-position.position in
    ap (map column_of) c.in_ok-push.ensures.ok ∙ map-append column_of c.loop-position.items _ ∙ ap (λ cs. cs ++ column_over (at, descriptor_of column) ∷ []) c.loop-position.invariant
    ∙ sym (columns_next c.args.columns.now at column c.loop-position-test.true (sym c.index-columns-position.is))
