-- Whether the truth of no condition is ever a fault, where a view adds its own.
use Rattle.std.proofs.Common.{◌≡◌, ◌∙◌, ◌&&◌, List, [], ◌∷◌, Option, Some, None, ap, sym}
use Rattle.std.proofs.lemmas.List.Folds.{list_all-append}
use Rattle.sq_value.proofs.Truths.{and_true}
use Rattle.sq_bound.specs.Names.{option_all}
use Rattle.sq_bound.specs.Quiet.{are_quiet_conds, is_quiet_cond}
use Rattle.sq_bound.specs.declared.condition.BoundCond.{BoundCond}
use Rattle.sq_catalog.specs.View.{conditions_with}

pub sure_with : (below : List BoundCond) (own : Option BoundCond) → are_quiet_conds (conditions_with below own) ≡ (are_quiet_conds below && option_all is_quiet_cond own)
sure_with below None = sym (and_true (are_quiet_conds below))
sure_with below (Some c) = list_all-append is_quiet_cond below (c ∷ []) ∙ ap (λ b. are_quiet_conds below && b) (and_true (is_quiet_cond c))
