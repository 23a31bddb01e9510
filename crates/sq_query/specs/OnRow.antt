-- A condition that stands on a row (ISO/IEC 9075:1992, 7.6).
use Rattle.std.specs.Prelude.{ℕ, List, []}
use Rattle.sq_value.specs.declared.domain.Kind.{Kind}
use Rattle.sq_meaning.specs.Environment.{Row}
use Rattle.sq_meaning.specs.Placed.{by_place}
use Rattle.sq_meaning.specs.Status.{Outcome}
use Rattle.sq_meaning.specs.WellFormed.{Has, IsDeclaredAt, IsRowOf, WellFormedCond, kinds_by_place}
use Rattle.sq_bound.specs.Condition.{cond_of}
use Rattle.sq_bound.specs.Noted.{CondIsNoted}
use Rattle.sq_bound.specs.Numbered.{CondWith, HaveNumbers}
use Rattle.sq_bound.specs.WellFormed.{TableKinds, of_base_at}
use Rattle.sq_bound.specs.declared.condition.BoundCond.{BoundCond}
use Rattle.sq_bound.specs.declared.condition.TablePlace.{TablePlace}
use Rattle.sq_bound.specs.declared.condition.TablePlace.TheVariants.{Base}

-- a condition on a row of a base table, of which the tree without set functions is well formed, as that of a WHERE clause is
pub record StandsOnRow (columns : TableKinds) (parameters : List Kind) (row : Row) (c : BoundCond) : Type 0 where
  pub place : ℕ
  pub stands : (rows_of : TablePlace → Outcome (List Row))
      → WellFormedCond (by_place rows_of) (kinds_by_place columns parameters) (IsDeclaredAt parameters)
      (of_base_at place) (cond_of [] c)
  pub notes : CondIsNoted c
  pub numbers : HaveNumbers CondWith c
  pub fits : Has (λ kinds. IsRowOf kinds row) (columns (Base place))
