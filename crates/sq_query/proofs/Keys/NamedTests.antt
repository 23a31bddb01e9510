-- Whether a test `column = x` names this column of the row.
use Rattle.std.proofs.Common.{◌≡◌, ℕ, zero, suc, ◌<◌, Bool, true, false, ◌&&◌, ◌||◌, List, [], ◌∷◌, length, map, drop, eqb, Option, Some, None, refl, sym, ap, ◌∙◌, arith}
use Rattle.std.specs.Prelude.{if◌then◌else◌, nat_eq, option_to_list}
use Rattle.std.specs.List.{list_any}
use Rattle.std.specs.Option.{option_eq}
use Rattle.std.proofs.lemmas.Bool.{eq-eqb, eqb-true}
use Rattle.sq_tree.specs.declared.cond.Comparison.TheVariants as comparison
use Rattle.sq_meaning.specs.Syntax.{compare, literal, parameter, user, column, count_rows, set_function, signed, added, scaled, bracketed}
use Rattle.sq_meaning.specs.Environment as meaning
use Rattle.sq_bound.specs.Condition.{test_of}
use Rattle.sq_bound.specs.Expression.{PlacedExpr, expr_of}
use Rattle.sq_bound.specs.Keyed.{AreEqualled, is_constant, names_column, own_column}
use Rattle.sq_bound.specs.declared.condition.BoundTest.{BoundTest}
use Rattle.sq_bound.specs.declared.expression.BoundExpr.{BoundExpr}
use Rattle.sq_bound.proofs.ColumnTests.{column_of, compared}
use Rattle.sq_query.specs.Key.{IsEquality}

-- a column of the row
abbrev IsColumn : ℕ → PlacedExpr → Type 0
IsColumn n x = (item : ℕ) × (x ≡ column (record { depth = 0; item = item; column = n }))

found_at : (p : meaning.Place) (n : ℕ) (b : Bool) → nat_eq p.depth 0 ≡ b → option_eq eqb (if b then Some p.column else None) (Some n) ≡ true → IsColumn n (column p)
found_at p n true e same = (p.item, (λ i. column (record { depth = eqb-true p.depth 0 e i; item = p.item; column = eqb-true p.column n same i })))
found_at p n false e same = cc

found_column : (x : PlacedExpr) (n : ℕ) → option_eq eqb (own_column x) (Some n) ≡ true → IsColumn n x
found_column (column p) n h = found_at p n (nat_eq p.depth 0) refl h
found_column (literal v) n h = cc
found_column (parameter p) n h = cc
found_column user n h = cc
found_column count_rows n h = cc
found_column (set_function f d e) n h = cc
found_column (signed s e) n h = cc
found_column (added s a b) n h = cc
found_column (scaled s a b) n h = cc
found_column (bracketed e) n h = cc

pub names_so : (t : BoundTest) (left right : BoundExpr) (n : ℕ) (found : Option ℕ) → AreEqualled t left right → found ≡ column_of left → option_eq eqb found (Some n) ≡ true → IsEquality n right t
names_so t left right n found is seen same =
    let at = found_column (expr_of [] left) n (ap (λ (o : Option ℕ). option_eq eqb o (Some n)) (sym seen) ∙ same) in
    (at.0, compared t comparison.Equal left right is.0 is.1 ∙ ap (λ (x : PlacedExpr). compare comparison.Equal x (expr_of [] right)) at.1)

not_named : (m n : ℕ) (b : Bool) → eqb m n ≡ false → list_any (nat_eq n) (option_to_list (if b then Some m else None)) ≡ false
not_named m n false h = refl
not_named m n true h = by (nat_eq n m) refl
  where
    by : (b : Bool) → nat_eq n m ≡ b → (b || false) ≡ false
    by false e = refl
    by true e = let same : eqb m n ≡ true = eq-eqb m n (sym (eqb-true n m e)) in cc

not_column : (l x : PlacedExpr) (n : ℕ) → option_eq eqb (own_column l) (Some n) ≡ false → names_column n (compare comparison.Equal l x) ≡ false
not_column (column p) x n h = by (nat_eq p.depth 0) h
  where
    by : (b : Bool) → option_eq eqb (if b then Some p.column else None) (Some n) ≡ false → list_any (nat_eq n) (option_to_list (if b && is_constant x then Some p.column else None)) ≡ false
    by true other = not_named p.column n (is_constant x) other
    by false other = refl
not_column (literal v) x n h = refl
not_column (parameter p) x n h = refl
not_column user x n h = refl
not_column count_rows x n h = refl
not_column (set_function f d e) x n h = refl
not_column (signed s e) x n h = refl
not_column (added s a b) x n h = refl
not_column (scaled s a b) x n h = refl
not_column (bracketed e) x n h = refl

pub names_not : (t : BoundTest) (left right : BoundExpr) (n : ℕ) (found : Option ℕ) → AreEqualled t left right → found ≡ column_of left → option_eq eqb found (Some n) ≡ false → names_column n (test_of [] t) ≡ false
names_not t left right n found is seen other =
    ap (names_column n) (compared t comparison.Equal left right is.0 is.1)
    ∙ not_column (expr_of [] left) (expr_of [] right) n (ap (λ (o : Option ℕ). option_eq eqb o (Some n)) (sym seen) ∙ other)

-- ---- tests, one after the other

-- a test from here on names the column
abbrev pub IsNamedFrom : ℕ → List BoundTest → ℕ → Type 0
IsNamedFrom n tests i = list_any (names_column n) (map (test_of []) (drop i tests)) ≡ true

pub named_within : (n : ℕ) (tests : List BoundTest) (i : ℕ) → IsNamedFrom n tests i → i < length tests
named_within n [] zero h = cc
named_within n [] (suc i) h = cc
named_within n (t ∷ tests) zero h = omega arith
named_within n (t ∷ tests) (suc i) h = let later : i < length tests = named_within n tests i h in omega arith
