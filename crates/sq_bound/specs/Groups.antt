-- The grouping of a bound query specification: its set functions (ISO/IEC 9075:1992, 6.5, 7.7 to 7.9).
use Rattle.std.specs.Prelude.{⊤, ◌≡◌, true, List, ◌++◌, map, Option, None, Some}
use Rattle.sq_meaning.specs.Query.{clause_functions, is_grouped, list_functions}
use Rattle.sq_meaning.specs.Syntax.{expressions}
use Rattle.sq_bound.specs.Condition.{clause_of}
use Rattle.sq_bound.specs.Expression.{expr_of, place_meant}
use Rattle.sq_bound.specs.SetFunction.{call_of}
use Rattle.sq_bound.specs.declared.condition.BoundSpecification.{BoundSpecification, out-BoundSpecification}
use Rattle.sq_bound.specs.declared.condition.Grouping.{Grouping, out-Grouping}
use Rattle.sq_bound.specs.declared.expression.BoundExpr.{BoundExpr}

-- The set functions of a group's select list and HAVING, in the order of the text, are the noted ones. The query is grouped
-- by GROUP BY, by HAVING or by a set function.
pub record AreGroupsOf (list : List BoundExpr) (grouping : Grouping) : Type 0 where
  pub functions : list_functions
      (expressions (map (expr_of (map call_of (out-Grouping grouping).set_functions)) list))
      ++ clause_functions (clause_of (map call_of (out-Grouping grouping).set_functions)
      (out-Grouping grouping).having)
      ≡ map call_of (out-Grouping grouping).set_functions
  pub grouped : is_grouped
      (expressions (map (expr_of (map call_of (out-Grouping grouping).set_functions)) list))
      (map place_meant (out-Grouping grouping).columns)
      (clause_of (map call_of (out-Grouping grouping).set_functions) (out-Grouping grouping).having) ≡ true

-- a query specification without groups has no set function at all
abbrev pub AreGroupsIfAny : List BoundExpr → Option Grouping → Type 0
AreGroupsIfAny list None = ⊤
AreGroupsIfAny list (Some grouping) = AreGroupsOf list grouping

-- the groups of a query specification are noted as they are
abbrev pub HasGroups : BoundSpecification → Type 0
HasGroups q = AreGroupsIfAny (out-BoundSpecification q).list (out-BoundSpecification q).grouping
