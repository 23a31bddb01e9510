-- A key whose values are known in a call is found, and one row at most is read then.
use Rattle.std.proofs.Common.{◌≡◌, ◌+◌, ◌-◌, ◌^◌, ◌≤◌, ◌∙◌, ℕ, Bool, true, false, List, [], Option, Some, None, Result, ap, arith, if◌then◌else◌, slice_index_or, subst, sym, Ok, Err}
use Rattle.std.specs.Prelude.{IfOk, IsSome, is_some, not}
use Rattle.std.specs.List.{Contains}
use Rattle.std.proofs.Math.Nat.{min-le_left}
use Rattle.sq_lex.specs.declared.name.Name.{Name}
use Rattle.sq_value.specs.SetFunctions.{is_null}
use Rattle.sq_value.specs.declared.value.Value.{Value}
use Rattle.sq_store.specs.Meter.{counted}
use Rattle.sq_meaning.specs.Environment.{Row}
use Rattle.sq_meaning.specs.Expression.{value}
use Rattle.sq_meaning.specs.Placed.{by_place}
use Rattle.sq_meaning.specs.Status.{Outcome}
use Rattle.sq_bound.specs.Expression.{expr_of}
use Rattle.sq_bound.specs.declared.condition.BoundCond.{BoundCond}
use Rattle.sq_bound.specs.declared.condition.BoundTest.{BoundTest}
use Rattle.sq_bound.specs.declared.condition.TablePlace.{TablePlace}
use Rattle.sq_bound.specs.declared.expression.BoundExpr.{BoundExpr}
use Rattle.sq_bound.specs.declared.query.Target.{Target}
use Rattle.sq_bound.proofs.QuietRows.{no_tables}
use Rattle.sq_query.specs.Key.{AreFirstTests, AreKeyTests, IsEquality}
use Rattle.sq_query.specs.Keyed.{AreKnownEqual, IsKeyed, IsKnownValue}
use Rattle.sq_query.specs.Row.{outside}

-- ---- what is found

pub not_none : {A : Type 0} (o : Option A) → o ≡ None → IsSome o → ⊥
not_none None e h = let k : false ≡ true = h in cc
not_none (Some x) e h = cc

pub same_some : {A : Type 0} (x y : A) (o : Option A) → o ≡ Some x → o ≡ Some y → x ≡ y
same_some x y o h k = cc

-- the value with which a test compares a column, which is known
pub known_found : (tests : List BoundTest) (parameters : List Value) (caller : Name) (n : ℕ) (e : BoundExpr) (v : Value) (o : Option Value) → (test : BoundTest) × Contains tests test × IsEquality n e test
    → ((tables : TablePlace → Outcome (List Row)) → value (by_place tables) (expr_of [] e) (outside [] parameters caller) ≡ Ok v) → is_some o ≡ not (is_null v) → AreKnownEqual tests parameters caller → IsSome o
known_found tests parameters caller n e v o found has is known =
    let not_null : is_null v ≡ false = subst IsKnownValue (has no_tables) (known no_tables found.0 n e found.1 found.2) in
    is ∙ ap not not_null

-- where no key is noted
pub key_noted : (t : Target) (parameters : List Value) (caller : Name) → t.key ≡ None → IsKeyed t parameters caller → ⊥
key_noted t parameters caller none keyed = let some : t.key ≡ Some keyed.key = keyed.is_noted in cc

-- what the tests that name the columns of the key that is noted compare them with is known
pub tests_known : (t : Target) (own : BoundCond) (key : ℕ) (columns : List ℕ) (tests : List BoundTest) (parameters : List Value) (caller : Name) → t.key ≡ Some key → t.condition ≡ Some own
    → columns ≡ slice_index_or t.leaf.table.keys key [] → AreFirstTests columns own tests → IsKeyed t parameters caller → AreKnownEqual tests parameters caller
tests_known t own key columns tests parameters caller is is_own columns_are r keyed =
    let same : key ≡ keyed.key = same_some key keyed.key t.key is keyed.is_noted in
    keyed.known tests
    (subst (λ (c : List ℕ). AreKeyTests c t tests) (columns_are ∙ ap (λ (k : ℕ). slice_index_or t.leaf.table.keys k []) same)
    (record { own = own; is_own = is_own; term = r.term; only_term = r.only_term; firsts = r.firsts }))

-- what is found where one thing is known is found where that follows from another
pub known_if : {A E : Type 0} (r : Result (Option A) E) (P Q : Type 0) → (Q → P) → IfOk r (λ found. P → IsSome found) → IfOk r (λ found. Q → IsSome found)
known_if (Ok found) P Q f h = λ q. h (f q)
known_if (Err e) P Q f h = tt

-- ---- the meter

-- a row that is handed out
pub counted_at_most : (old new : ℕ) → new ≡ counted old → new ≤ old + 1
counted_at_most old new h = subst (λ m. m ≤ old + 1) (sym h) (min-le_left (old + 1) (2 ^ 64 - 1))

-- at most one row is counted where one may be found
pub one_at_most : (found : Bool) (old new : ℕ) → new ≡ (if found then counted old else old) → new ≤ old + 1
one_at_most true old new h = counted_at_most old new h
one_at_most false old new h = subst (λ m. m ≤ old + 1) (sym h) (omega arith)
