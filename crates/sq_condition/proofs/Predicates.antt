-- The truth of IN, part by part.
use Rattle.std.proofs.Common.{List, map}
use Rattle.sq_value.specs.declared.truth.Truth.{Truth}
use Rattle.sq_tree.specs.declared.cond.Comparison.TheVariants.{Equal}
use Rattle.sq_meaning.specs.Status.{Outcome}
use Rattle.sq_meaning.specs.Environment.{Env}
use Rattle.sq_meaning.specs.Expression.{Reading}
use Rattle.sq_meaning.specs.Placed.{Placed}
use Rattle.sq_meaning.specs.Query.{compared, any_in_turn}
use Rattle.sq_bound.specs.Expression.{PlacedExpr}
use Rattle.sq_bound.specs.declared.condition.TablePlace.{TablePlace}
use Rattle.sq_bound.specs.declared.expression.BoundExpr.{BoundExpr}

module _ (m : Reading (Placed TablePlace)) (env : Env (Unit {0})) (a : PlacedExpr) (tree : BoundExpr → PlacedExpr) where
  abbrev pub any_equal : List BoundExpr → Outcome Truth
  any_equal es = any_in_turn (λ e. compared m Equal a e env) (map tree es)
