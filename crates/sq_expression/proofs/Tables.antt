-- The rows of views.
use Rattle.std.proofs.Common.{◌≡◌, ℕ, Option, Some, None, refl, ap, ◌∙◌, Ok}
use Rattle.std.specs.Prelude.{find, nat_eq}
use Rattle.sq_meaning.specs.Status.{and_then, well_formed}
use Rattle.sq_bound.specs.declared.condition.TablePlace.{TablePlace}
use Rattle.sq_bound.specs.declared.condition.TablePlace.TheVariants.{View}
use Rattle.sq_expression.specs.Frame.{table_rows, view_outcome}
use Rattle.sq_expression.specs.Table.{view_there, unless_failed}
use Rattle.sq_expression.specs.declared.context.Context.{Context}
use Rattle.sq_expression.specs.declared.fault.Failure.{Failure}
use Rattle.sq_expression.specs.declared.table.ViewRows.{ViewRows}

pub view_rows_there : (context : Context) (place : TablePlace) (p : ℕ) → place ≡ View p → table_rows context place ≡ and_then (view_there context p) (λ view. Ok view.rows.items)
view_rows_there context place p is = ap (table_rows context) is ∙ found (find (λ t. nat_eq t.place p) context.views.now)
  where
    ended : (t : ViewRows) (f : Option Failure) → view_outcome t.rows.items f ≡ and_then (unless_failed t f) (λ view. Ok view.rows.items)
    ended t None = refl
    ended t (Some failure) = refl

    found : (o : Option ViewRows)
        → and_then (well_formed o) (λ t. view_outcome t.rows.items t.failure) ≡ and_then (and_then (well_formed o) (λ t. unless_failed t t.failure)) (λ view. Ok view.rows.items)
    found None = refl
    found (Some t) = ended t t.failure
