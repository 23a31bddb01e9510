-- What reads no table means the same over any tables.
use Rattle.std.proofs.Common.{◌≡◌, false, List, refl}
use Rattle.sq_meaning.specs.Status.{Outcome}
use Rattle.sq_meaning.specs.Syntax.{SelectList, absent, present}
use Rattle.sq_meaning.specs.Environment.{Row, Line, Env, Place}
use Rattle.sq_meaning.specs.Expression.{value}
use Rattle.sq_meaning.specs.Placed.{Placed, by_place}
use Rattle.sq_meaning.specs.Query.{clause_truth, truth, scopes_of, listed_values}
use Rattle.sq_meaning.specs.Target.{clause_has_subquery, has_subquery}
use Rattle.sq_meaning.proofs.OverTables as any
use Rattle.sq_bound.specs.Condition.{PlacedCond, PlacedClause}
use Rattle.sq_bound.specs.Expression.{PlacedExpr}
use Rattle.sq_bound.specs.declared.condition.TablePlace.{TablePlace}

module _ (here there : TablePlace → Outcome (List Row)) where
  pub value_over : (e : PlacedExpr) (env : Env (Unit {0})) → value (by_place here) e env ≡ value (by_place there) e env
  value_over = any.value_over (by_place here) there

  pub truth_over : (c : PlacedCond) (env : Env (Unit {0})) → has_subquery c ≡ false → truth (by_place here) c env ≡ truth (by_place there) c env
  truth_over = any.plain_over (by_place here) there

  pub clause_over : (c : PlacedClause) (env : Env (Unit {0})) → clause_has_subquery c ≡ false → clause_truth (by_place here) c env ≡ clause_truth (by_place there) c env
  clause_over absent env plain = refl
  clause_over (present c) env plain = truth_over c env plain

  pub scopes_over : (list : SelectList (Placed TablePlace)) (by : List Place) (having : PlacedClause) (heads : List (Unit {0})) (lines : List Line) (env : Env (Unit {0}))
      → scopes_of (by_place here) list by having heads lines env ≡ scopes_of (by_place there) list by having heads lines env
  scopes_over = any.scopes_over (by_place here) there

  pub listed_over : (list : SelectList (Placed TablePlace)) (env : Env (Unit {0})) → listed_values (by_place here) list env ≡ listed_values (by_place there) list env
  listed_over = any.listed_over (by_place here) there
