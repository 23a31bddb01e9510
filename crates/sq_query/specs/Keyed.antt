-- Targets and query specifications that name a row by a key whose values are known in a call (own rule: then one row at most is read to
-- find it; ISO/IEC 9075:1992 asks nothing of how rows are found).
use Rattle.std.specs.Prelude.{◌≡◌, ℕ, true, false, get_or, slice_get, List, [], None, Some, Ok, Err}
use Rattle.std.specs.List.{Contains, list_any}
use Rattle.sq_lex.specs.declared.name.Name.{Name}
use Rattle.sq_value.specs.SetFunctions.{is_null}
use Rattle.sq_value.specs.declared.value.Value.{Value}
use Rattle.sq_store.specs.Keys.{Keys, keys_at}
use Rattle.sq_meaning.specs.Environment.{Row}
use Rattle.sq_meaning.specs.Expression as meaning
use Rattle.sq_meaning.specs.Placed.{by_place}
use Rattle.sq_meaning.specs.Status.{Outcome}
use Rattle.sq_meaning.specs.Target.{has_subquery}
use Rattle.sq_bound.specs.Condition.{cond_of, select_of}
use Rattle.sq_bound.specs.Expression.{expr_of}
use Rattle.sq_bound.specs.Keyed.{names_key}
use Rattle.sq_bound.specs.declared.condition.BoundCond.{BoundCond, out-BoundCond}
use Rattle.sq_bound.specs.declared.condition.BoundSpecification.{BoundSpecification}
use Rattle.sq_bound.specs.declared.condition.BoundTest.{BoundTest}
use Rattle.sq_bound.specs.declared.condition.TablePlace.{TablePlace}
use Rattle.sq_bound.specs.declared.expression.BoundExpr.{BoundExpr}
use Rattle.sq_bound.specs.declared.query.Target.{Target}
use Rattle.sq_bound.specs.declared.statement.ChangeTarget.{ChangeTarget}
use Rattle.sq_bound.specs.declared.statement.ChangeTarget.TheVariants as target
use Rattle.sq_query.specs.Key.{AreFirstTests, AreKeyTests, IsEquality}
use Rattle.sq_query.specs.Needed.{inside_tables}
use Rattle.sq_query.specs.Row.{outside}
use Rattle.sq_query.specs.Specification.{IsOverBase, IsWhere}
use Rattle.sq_query.specs.Target.{conditions_of}

-- there is a value, and it is not null
abbrev pub IsKnownValue : Outcome Value → Type 0
IsKnownValue (Ok v) = is_null v ≡ false
IsKnownValue (Err status) = ⊥

-- whatever the tests say that a column is equal to has such a value in a call with these values of parameters, whatever row there is
abbrev pub AreKnownEqual : List BoundTest → List Value → Name → Type 0
AreKnownEqual tests parameters user =
    (tables : TablePlace → Outcome (List Row)) (test : BoundTest) (n : ℕ) (e : BoundExpr)
    → Contains tests test → IsEquality n e test
    → IsKnownValue (meaning.value (by_place tables) (expr_of [] e) (outside [] parameters user))

-- a key is noted for the target, and the tests that name its columns compare them with such values
pub record IsKeyed (t : Target) (parameters : List Value) (user : Name) : Type 0 where
  pub key : ℕ
  pub is_noted : t.key ≡ Some key
  pub known : (tests : List BoundTest) → AreKeyTests (get_or t.leaf.table.keys key []) t tests
      → AreKnownEqual tests parameters user

-- a condition on the rows of a base table with these keys names a row by one of them, and compares its columns with such values
pub record IsKeyedBy (keys : Keys) (own : BoundCond) (parameters : List Value) (user : Name) : Type 0 where
  pub number : ℕ
  pub columns : List ℕ
  pub is_key : slice_get keys number ≡ Some columns
  pub named : names_key columns (out-BoundCond own).terms ≡ true
  pub known : (tests : List BoundTest) → AreFirstTests columns own tests → AreKnownEqual tests parameters user

-- a target's own condition names a row by a key with known values, whether views are between or not
pub record IsKeyedUnder (t : Target) (parameters : List Value) (user : Name) : Type 0 where
  pub own : BoundCond
  pub is_own : t.condition ≡ Some own
  pub by_key : IsKeyedBy t.leaf.table.keys own parameters user

-- A search for the rows of a target reads one at most, by a key with known values: its own condition names a row by the key, the conditions of
-- the views between are never a fault and, where binding noted no key, its own condition has no subquery.
pub record IsKeyedTarget (t : Target) (parameters : List Value) (user : Name) : Type 0 where
  pub under : IsKeyedUnder t parameters user
  pub quiet_views : t.leaf.is_quiet ≡ true
  pub plain : t.key ≡ None → has_subquery (cond_of [] under.own) ≡ false

-- to test a row of its base table no other is read: a key is noted, or no condition has a subquery
abbrev pub ReadsNoTable : Target → Type 0
ReadsNoTable t = t.key ≡ None → list_any (λ c. has_subquery (cond_of [] c)) (conditions_of t) ≡ false

-- an UPDATE or DELETE over a target whose row is found by a key with known values; a positioned one searches no row
abbrev pub IsKeyedChange : ChangeTarget → List Value → Name → Type 0
IsKeyedChange (target.Searched t) parameters user = IsKeyedTarget t parameters user
IsKeyedChange (target.Positioned p) parameters user = ⊥

-- the WHERE clause of a query specification over one base table alone names a row by a key with known values, and no subquery reads a table
pub record IsKeyedSelect (q : BoundSpecification) (keys : List Keys) (parameters : List Value)
    (user : Name) : Type 0 where
  pub place : ℕ
  pub own : BoundCond
  pub over : IsOverBase q place
  pub is_where : IsWhere q own
  pub by_key : IsKeyedBy (keys_at keys place) own parameters user
  pub alone : inside_tables (select_of q) ≡ []
