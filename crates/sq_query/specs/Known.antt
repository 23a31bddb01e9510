-- Which rows of a base table a query specification outside every query reads where WHERE compares a column with the rows of a subquery: the
-- subquery reads nothing around it, and the rows of all tables that it reads were found (ISO/IEC 9075:1992, 7.6, 7.11, 8.2, 8.4 and 8.7; own
-- rule).
use Rattle.std.specs.Prelude.{⊤, ◌≡◌, ◌<◌, ◌⊎◌, ℕ, false, List, [], ◌∷◌, length, slice_get, Some, Ok}
use Rattle.std.specs.List.{AllZip}
use Rattle.sq_lex.specs.declared.name.Name.{Name}
use Rattle.sq_value.specs.declared.value.Value.{Value}
use Rattle.sq_tree.specs.declared.cond.Comparison.TheVariants.{Equal}
use Rattle.sq_store.specs.Content.{Content}
use Rattle.sq_store.specs.Keys.{Keys, key_at, keys_at}
use Rattle.sq_meaning.specs.Environment.{Env, Row, Scope, outermost}
use Rattle.sq_meaning.specs.Placed.{by_place}
use Rattle.sq_meaning.specs.Query.{rows}
use Rattle.sq_meaning.specs.Status.{Outcome}
use Rattle.sq_bound.specs.Condition.{select_of}
use Rattle.sq_bound.specs.Noted.{SelectIsNoted}
use Rattle.sq_bound.specs.Numbered.{HaveNumbers, SelectWith}
use Rattle.sq_bound.specs.WellFormed.{IsSelect, TableKinds}
use Rattle.sq_value.specs.declared.domain.Kind.{Kind}
use Rattle.sq_bound.specs.declared.condition.BoundCond.{BoundCond, out-BoundCond}
use Rattle.sq_bound.specs.declared.condition.BoundConj.{BoundConj, out-BoundConj}
use Rattle.sq_bound.specs.declared.condition.BoundSpecification.{BoundSpecification}
use Rattle.sq_bound.specs.declared.condition.BoundTest.{BoundTest}
use Rattle.sq_bound.specs.declared.condition.Compared.{Compared}
use Rattle.sq_bound.specs.declared.condition.Compared.TheVariants.{Scalar, All, Any}
use Rattle.sq_bound.specs.declared.condition.Predicate.{Predicate}
use Rattle.sq_bound.specs.declared.condition.Predicate.TheVariants as bound
use Rattle.sq_bound.specs.declared.condition.TablePlace.{TablePlace}
use Rattle.sq_bound.specs.declared.condition.TablePlace.TheVariants.{Base}
use Rattle.sq_bound.specs.declared.expression.BoundExpr.{BoundExpr}
use Rattle.sq_expression.specs.Fault.{IsRight}
use Rattle.sq_expression.specs.Frame.{inputs_of, lent}
use Rattle.sq_expression.specs.declared.table.BaseRows.{BaseRows}
use Rattle.sq_query.specs.Inner.{IsInStore}
use Rattle.sq_query.specs.Items.{IsAlone, items_of, over}
use Rattle.sq_query.specs.Named.{IsColumnOf}
use Rattle.sq_query.specs.Specification.{IsWhere}
use Rattle.sq_query.specs.Several.{rows_by_values}
use Rattle.sq_query.specs.Sought.{IsKnownIn}
use Rattle.sq_query.specs.Union.{AreFitting}
use Rattle.sq_query.specs.declared.key.KnownKeys.{KnownKeys}
use Rattle.sq_query.specs.declared.needed.Needed.{Needed}

-- ---- the test

-- these are the tests of the only term of WHERE
pub record AreOnlyTests (q : BoundSpecification) (tests : List BoundTest) : Type 0 where
  pub condition : BoundCond
  pub is_where : IsWhere q condition
  pub term : BoundConj
  pub only : (out-BoundCond condition).terms ≡ term ∷ []
  pub tests_are : tests ≡ (out-BoundConj term).tests

-- a predicate says that an expression is equal to the value of a subquery, or to one of its values
abbrev pub IsAmong : BoundExpr → Compared → BoundSpecification → Predicate → Type 0
IsAmong e Scalar s p = p ≡ bound.CompareQuery Equal Scalar e s
IsAmong e Any s p = (p ≡ bound.CompareQuery Equal Any e s) ⊎ (p ≡ bound.InQuery false e s)
IsAmong e All s p = ⊥

-- a test says so of a column of an item, without NOT
pub record IsAmongRows (item n : ℕ) (k : Compared) (s : BoundSpecification) (test : BoundTest) : Type 0 where
  pub own : BoundExpr
  pub is_column : IsColumnOf item n own
  pub plain : test.negated ≡ false
  pub says : IsAmong own k s test.predicate

-- ---- the values of the subquery

-- where a query specification stands within these scopes
abbrev pub within_scopes : List (Scope (Unit {0})) → List Value → Name → Env (Unit {0})
within_scopes scopes parameters user =
    record { scopes = scopes; inputs = inputs_of parameters; user = user }

-- A subquery has these rows, whatever stands around it, over the tables of which rows were found.
abbrev pub HasRowsOver : List BaseRows → List Value → Name → BoundSpecification → List Row → Type 0
HasRowsOver found parameters user s rs =
    SelectIsNoted s → HaveNumbers SelectWith s → (tables : TablePlace → Outcome (List Row))
    (scopes : List (Scope (Unit {0})))
    → IsRight (rows (by_place (over found tables)) (select_of s) (within_scopes scopes parameters user))
    → rows (by_place (over found tables)) (select_of s) (within_scopes scopes parameters user) ≡ Ok rs

-- so many rows have the values that are compared with
abbrev pub IsCountFor : Compared → ℕ → Type 0
IsCountFor Scalar n = n ≡ 1
IsCountFor Any n = ⊤
IsCountFor All n = ⊤

-- a subquery has these values, none of which is null
pub record AreValuesOf (found : List BaseRows) (parameters : List Value) (user : Name) (k : Compared)
    (s : BoundSpecification) (vs : List Value) : Type 0 where
  pub rs : List Row
  pub rows_are : HasRowsOver found parameters user s rs
  pub firsts : AllZip (IsKnownIn 0) rs vs
  pub count : IsCountFor k (length rs)

-- ---- the rows of the table

-- a base table stands in this item alone, and in no subquery, is in the store, and was not found before
pub record IsBaseAlone (q : BoundSpecification) (item place : ℕ) (inner : Needed) (content : Content)
    (found : List BaseRows) : Type 0 where
  pub at : slice_get (items_of q) item ≡ Some (Base place)
  pub there : place < length content
  pub alone : IsAlone q item place inner found

-- this column alone is a key of the base table at a place
pub record IsOnlyKeyColumn (keys : List Keys) (place n key : ℕ) : Type 0 where
  pub within : key < length (keys_at keys place)
  pub only : key_at keys place key ≡ n ∷ []

-- the rows of a base table are those with the values of a subquery in the only column of a key, among which a test says that the column is
pub record IsReadByRows (q : BoundSpecification) (test : BoundTest) (inner : Needed) (content : Content)
    (keys : List Keys) (parameters : List Value) (user : Name) (found : List BaseRows)
    (own : BaseRows) : Type 0 where
  pub item : ℕ
  pub base : IsBaseAlone q item own.place inner content found
  pub n : ℕ
  pub known : KnownKeys
  pub key : IsOnlyKeyColumn keys own.place n known.key
  pub k : Compared
  pub subquery : BoundSpecification
  pub among : IsAmongRows item n k subquery test
  pub values : AreValuesOf found parameters user k subquery known.values.items
  pub are : lent own.rows.items ≡ rows_by_values content keys own.place known

-- With more rows that were found a query specification outside every query has the rows that it has with those found before.
abbrev pub ServesOutside : BoundSpecification → Content → List Keys → List Value → Name
    → (before after : List BaseRows) → Type 0
ServesOutside q content keys parameters user before after =
    (columns : TableKinds) (kinds : List Kind) (tables : TablePlace → Outcome (List Row))
    → IsInStore columns kinds content keys parameters tables → IsSelect columns kinds [] q
    → AreFitting columns (over before tables)
    → AreFitting columns (over after tables)
    × (rows (by_place (over before tables)) (select_of q) (outermost (inputs_of parameters) user)
    ≡ rows (by_place (over after tables)) (select_of q) (outermost (inputs_of parameters) user))
