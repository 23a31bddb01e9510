-- The notes on query specifications and on the tests of their WHERE clauses, at any depth (ISO/IEC 9075:1992, 7.9 and
-- 8.12). They say whether these may end with a status, and how many items of FROM, from the left, a test reads at most.
-- They also say how a query specification is grouped.
use Rattle.std.specs.Prelude.{◌≡◌, ℕ, Bool, true, false, List, [], IfSome}
use Rattle.std.specs.List.{AllByRecursion}
use Rattle.sq_meaning.specs.Sure.{is_sure, is_sure_expr, is_sure_select}
use Rattle.sq_bound.specs.Columns.{ExprReadsItems, ReadsItems}
use Rattle.sq_bound.specs.Condition.{PlacedCond, select_of, test_of}
use Rattle.sq_bound.specs.Expression.{PlacedExpr, expr_of}
use Rattle.sq_bound.specs.Groups.{HasGroups}
use Rattle.sq_bound.specs.Numbered.{CondWith, SelectWith}
use Rattle.sq_bound.specs.declared.condition.BoundCond.{BoundCond, out-BoundCond}
use Rattle.sq_bound.specs.declared.condition.BoundConj.{BoundConj, out-BoundConj}
use Rattle.sq_bound.specs.declared.condition.BoundSpecification.{BoundSpecification, out-BoundSpecification}
use Rattle.sq_bound.specs.declared.condition.BoundTest.{BoundTest}
use Rattle.sq_bound.specs.declared.condition.TablePlace.{TablePlace}
use Rattle.sq_bound.specs.declared.condition.TablePlace.TheVariants.{Base, View}
use Rattle.sq_bound.specs.declared.expression.BoundExpr.{BoundExpr}

-- reading a base table never ends with a status; a view's query may
abbrev pub may_fail : TablePlace → Bool
may_fail (Base n) = false
may_fail (View n) = true

abbrev pub AreSure : List PlacedExpr → Type 0
AreSure functions = AllByRecursion (λ f. is_sure_expr f ≡ true) functions

-- an expression never ends with a status if none of the query's set functions does
abbrev pub IsSureExpr : BoundExpr → Type 0
IsSureExpr e = (functions : List PlacedExpr) → AreSure functions → is_sure_expr (expr_of functions e) ≡ true

-- a condition never ends with a status if none of the query's set functions does
abbrev pub IsSureTree : (List PlacedExpr → PlacedCond) → Type 0
IsSureTree tree = (functions : List PlacedExpr) → AreSure functions → is_sure may_fail (tree functions) ≡ true

-- an expression on a row reads no more than so many items of FROM; no set function is around it
abbrev pub IsReadExpr : (items : ℕ) → BoundExpr → Type 0
IsReadExpr items e = ExprReadsItems items (expr_of [] e)

-- a condition on a row, its subqueries included, reads no more than so many items of FROM
abbrev pub IsReadTree : (items : ℕ) → PlacedCond → Type 0
IsReadTree items tree = ReadsItems items tree

-- A test without the note that it may end with a status never does. It reads no more items of FROM, from the left, than are noted.
pub record IsNotedTest (t : BoundTest) : Type 0 where
  pub sure : t.can_fail ≡ false → IsSureTree (λ functions. test_of functions t)
  pub items : IsReadTree t.items (test_of [] t)

abbrev pub AreNotedTests : BoundConj → Type 0
AreNotedTests c = AllByRecursion IsNotedTest (out-BoundConj c).tests

-- each test of each term of a condition is noted as it is
abbrev pub HasNotes : BoundCond → Type 0
HasNotes c = AllByRecursion AreNotedTests (out-BoundCond c).terms

-- A query specification: the tests of its WHERE clause are noted as they are, and its grouping is noted. It never ends
-- with a status unless that is noted.
pub record IsNoted (q : BoundSpecification) : Type 0 where
  pub tests : IfSome (out-BoundSpecification q).condition HasNotes
  pub sure : (out-BoundSpecification q).can_fail ≡ false → is_sure_select may_fail (select_of q) ≡ true
  pub groups : HasGroups q

-- a query specification and all that are nested in it are noted as they are
abbrev pub SelectIsNoted : BoundSpecification → Type 0
SelectIsNoted q = SelectWith IsNoted q

-- the query specifications that are nested in a condition are noted as they are
abbrev pub CondIsNoted : BoundCond → Type 0
CondIsNoted c = CondWith IsNoted c
