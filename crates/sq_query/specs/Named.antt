-- Which conditions name the rows of an item of FROM by values of a column: they are false of each line whose row of the item has none of them
-- there (ISO/IEC 9075:1992, 7.6, 8.2, 8.4 and 8.12; own rule).
use Rattle.std.specs.Prelude.{⊤, ◌≡◌, ◌<◌, ◌⊎◌, ℕ, length, slice_get, slice_index_or, true, false, if◌then◌else◌, List, [], ◌∷◌, Some, Ok}
use Rattle.std.specs.List.{AllByRecursion, AllZip}
use Rattle.sq_lex.specs.declared.name.Name.{Name}
use Rattle.sq_value.specs.declared.domain.Kind.{Kind}
use Rattle.sq_value.specs.Comparison.{is_same}
use Rattle.sq_value.specs.declared.truth.Truth.TheVariants.{False}
use Rattle.sq_value.specs.declared.value.Value.{Value}
use Rattle.sq_value.specs.declared.value.Value.TheVariants.{Null}
use Rattle.sq_value.specs.SetFunctions.{is_null}
use Rattle.sq_store.specs.Keys.{Keys, keys_at, key_at}
use Rattle.sq_meaning.specs.Environment.{Line, Row, Scope}
use Rattle.sq_meaning.specs.Placed.{by_place}
use Rattle.sq_meaning.specs.Query.{truth}
use Rattle.sq_meaning.specs.Quiet.{is_quiet}
use Rattle.sq_meaning.specs.Status.{Outcome, well_formed}
use Rattle.sq_meaning.specs.Sure.{IsSureOutcome, is_sure}
use Rattle.sq_meaning.specs.Syntax.{column}
use Rattle.sq_meaning.specs.WellFormed.{Has, IsDeclaredAt, IsRowOf, WellFormedCond, kinds_by_place, of_lines}
use Rattle.sq_bound.specs.Condition.{PlacedCond, cond_of, test_of}
use Rattle.sq_bound.specs.Expression.{expr_of}
use Rattle.sq_bound.specs.Keyed.{AreEqualled}
use Rattle.sq_bound.specs.Noted.{may_fail}
use Rattle.sq_bound.specs.WellFormed.{Levels, TableKinds}
use Rattle.sq_bound.specs.declared.condition.BoundCond.{BoundCond, out-BoundCond}
use Rattle.sq_bound.specs.declared.condition.BoundConj.{out-BoundConj}
use Rattle.sq_bound.specs.declared.condition.BoundTest.{BoundTest}
use Rattle.sq_bound.specs.declared.condition.Predicate.TheVariants as bound
use Rattle.sq_bound.specs.declared.condition.TablePlace.{TablePlace}
use Rattle.sq_bound.specs.declared.expression.BoundExpr.{BoundExpr}
use Rattle.sq_expression.specs.declared.table.BaseRows.{BaseRows}
use Rattle.sq_query.specs.Around.{AreRowsAround, IsAround, beneath}
use Rattle.sq_query.specs.Sought.{IsLineAmong, nothing_around}
use Rattle.sq_query.specs.Union.{AreFitting}
use Rattle.sq_query.specs.declared.around.Around.{Around}
use Rattle.sq_query.specs.declared.key.KnownKey.{KnownKey}
use Rattle.sq_query.specs.declared.key.KnownKeys.{KnownKeys}
use Rattle.sq_query.specs.declared.named.Sure.{Sure}
use Rattle.sq_query.specs.declared.named.Sure.TheVariants.{All, Noted, Unnoted}
use Rattle.sq_query.specs.declared.sought.Sought.{Sought}

-- ---- tests

-- a column of an item
abbrev pub IsColumnOf : (item n : ℕ) → BoundExpr → Type 0
IsColumnOf item n e = expr_of [] e ≡ column (record { depth = 0; item = item; column = n })

-- a test says that a column of an item is equal to an expression, on whichever side
pub record IsEqualTo (item n : ℕ) (e : BoundExpr) (test : BoundTest) : Type 0 where
  pub own : BoundExpr
  pub is_column : IsColumnOf item n own
  pub sides : AreEqualled test own e ⊎ AreEqualled test e own

-- a test is this condition in brackets, without NOT
abbrev pub IsBracketed : BoundCond → BoundTest → Type 0
IsBracketed own test = (test.negated ≡ false) × (test.predicate ≡ bound.Bracketed own)

-- ---- tests that never end with a status

-- a test never does over these tables, of which no base table does
pub record IsSureTest (test : BoundTest) (columns : TableKinds)
    (tables : TablePlace → Outcome (List Row)) : Type 0 where
  pub fitting : AreFitting columns tables
  pub bases : (t : TablePlace) → may_fail t ≡ false → IsSureOutcome (tables t)
  pub sure : is_sure may_fail (test_of [] test) ≡ true

-- as far as it is known beforehand, a test never does
abbrev pub IsTrusted : Sure → BoundTest → TableKinds → (TablePlace → Outcome (List Row)) → Type 0
IsTrusted All test columns tables = IsSureTest test columns tables
IsTrusted Noted test columns tables = test.can_fail ≡ false → IsSureTest test columns tables
IsTrusted Unnoted test columns tables = ⊤

abbrev pub AreTrusted : Sure → List BoundTest → TableKinds → (TablePlace → Outcome (List Row)) → Type 0
AreTrusted sure tests columns tables = AllByRecursion (λ test. IsTrusted sure test columns tables) tests

-- nor do those of a condition
abbrev pub AreTrustedIn : Sure → BoundCond → TableKinds → (TablePlace → Outcome (List Row)) → Type 0
AreTrustedIn sure own columns tables =
    AllByRecursion (λ term. AreTrusted sure (out-BoundConj term).tests columns tables)
    (out-BoundCond own).terms

-- what is known of the tests in its brackets
abbrev pub sure_within : Sure → BoundTest → Sure
sure_within All test = All
sure_within Noted test = if test.can_fail then Unnoted else All
sure_within Unnoted test = Unnoted

-- a test has a truth on each line, since it never ends with a status or because its form shows that
abbrev pub IsPassed : Sure → BoundTest → Type 0
IsPassed sure test =
    (columns : TableKinds) (tables : TablePlace → Outcome (List Row)) → IsTrusted sure test columns tables
    → IsSureTest test columns tables ⊎ (is_quiet (test_of [] test) ≡ true)

-- ---- lines on which a condition is false

-- a row has none of these values in a column, and not null
pub record HasOther (row : Row) (n : ℕ) (vs : List Value) : Type 0 where
  pub not_null : (x : Value) → well_formed (slice_get row n) ≡ Ok x → is_null x ≡ false
  pub differs : AllByRecursion (λ v. is_same v (slice_index_or row n Null) ≡ false) vs

-- a line of these items, with the rows that were found of their tables, within such scopes
pub record IsLineOf (ts : List TablePlace) (found : List BaseRows) (a : Around) (columns : TableKinds)
    (kinds : List Kind) (levels : Levels) (parameters : List Value) (scopes : List (Scope (Unit {0})))
    (line : Line) : Type 0 where
  pub given : IsRowOf kinds parameters
  pub is_around : IsAround a scopes
  pub rows_around : AreRowsAround columns kinds levels scopes
  pub fits : AllZip (λ t row. Has (λ ks. IsRowOf ks row) (columns t)) ts line
  pub among : IsLineAmong found ts line

-- a condition that may stand on lines of these items within such scopes, whatever rows the tables have
abbrev pub StandsOnLines : TableKinds → List Kind → Levels → List TablePlace → PlacedCond → Type 0
StandsOnLines columns kinds levels ts c =
    (rows_of : TablePlace → Outcome (List Row))
    → WellFormedCond (by_place rows_of) (kinds_by_place columns kinds) (IsDeclaredAt kinds)
    (of_lines ts ∷ levels) c

-- A condition names the rows of an item by values of a column: it is false of each line whose row of the item has none of them there, and
-- does not end with a status on it, whatever tests stand behind. Beforehand this is known of its tests.
abbrev pub IsFalseOn : (item : ℕ) → List TablePlace → List BaseRows → Around → List Value → Name
    → (TableKinds → (TablePlace → Outcome (List Row)) → Type 0) → PlacedCond → ℕ → List Value → Type 0
IsFalseOn item ts found a parameters user Known c n vs =
    (columns : TableKinds) (kinds : List Kind) (levels : Levels) (tables : TablePlace → Outcome (List Row))
    (scopes : List (Scope (Unit {0}))) (line : Line) (row : Row)
    → IsLineOf ts found a columns kinds levels parameters scopes line → StandsOnLines columns kinds levels ts c
    → Known columns tables → slice_get line item ≡ Some row → HasOther row n vs
    → truth (by_place tables) c (beneath scopes line parameters user) ≡ Ok False

abbrev pub IsFalseAt : Sought → List Value → Name
    → (TableKinds → (TablePlace → Outcome (List Row)) → Type 0) → PlacedCond → ℕ → List Value → Type 0
IsFalseAt s = IsFalseOn s.item s.tables.now s.found.now s.around

-- of a condition, and of a test
abbrev pub IsFalseOf : Sought → Sure → List Value → Name → BoundCond → ℕ → List Value → Type 0
IsFalseOf s sure parameters user own = IsFalseAt s parameters user (AreTrustedIn sure own) (cond_of [] own)

abbrev pub IsFalseBy : Sought → Sure → List Value → Name → BoundTest → ℕ → List Value → Type 0
IsFalseBy s sure parameters user test = IsFalseAt s parameters user (IsTrusted sure test) (test_of [] test)

-- of a condition on the rows of one table outside every query
abbrev pub IsFalseBut : TablePlace → List Value → Name → PlacedCond → ℕ → List Value → Type 0
IsFalseBut t parameters user = IsFalseOn 0 (t ∷ []) [] nothing_around parameters user (λ columns tables. ⊤)

-- ---- keys by which it names them

-- by one value
abbrev pub IsOneOf : (ℕ → List Value → Type 0) → ℕ → Value → Type 0
IsOneOf IsFalse n v = IsFalse n (v ∷ [])

-- by values of the only one of these columns
abbrev pub IsNamedByOne : (ℕ → List Value → Type 0) → List ℕ → List Value → Type 0
IsNamedByOne IsFalse columns vs = (n : ℕ) × (columns ≡ n ∷ []) × IsFalse n vs

-- a key of the base table at a place, by one value of each of whose columns a condition names rows
pub record IsKeyBy (IsFalse : ℕ → List Value → Type 0) (keys : List Keys) (place : ℕ)
    (known : KnownKey) : Type 0 where
  pub key : known.key < length (keys_at keys place)
  pub named : AllZip (IsOneOf IsFalse) (key_at keys place known.key) known.values

-- a key of one column of it, by values of which a condition does
pub record AreKeysBy (IsFalse : ℕ → List Value → Type 0) (keys : List Keys) (place : ℕ)
    (known : KnownKeys) : Type 0 where
  pub key : known.key < length (keys_at keys place)
  pub named : IsNamedByOne IsFalse (key_at keys place known.key) known.values.items
