-- A row that is given whole: its values are for all columns of the table, in their order.
use Rattle.std.proofs.Common.{◌≡◌, ℕ, zero, suc, ◌+◌, ◌<◌, List, [], ◌∷◌, length, get_or, nat_eq, slice_get, Option, Some, Ok, ap, subst, sym, refl, ◌∙◌, arith}
use Rattle.std.specs.List.{AllByRecursion, enumerate_from, position}
use Rattle.std.specs.Option.{option_and_then}
use Rattle.sq_lex.specs.declared.name.Name.{Name}
use Rattle.sq_value.specs.Domain.{IsInDomain}
use Rattle.sq_value.specs.declared.value.Value.{Value}
use Rattle.sq_meaning.specs.Status.{Outcome, and_then, each}
use Rattle.sq_bound.specs.Fits.{IsColumnOf, IsRowIn}
use Rattle.sq_bound.specs.declared.names.BaseColumn.{BaseColumn}
use Rattle.sq_bound.specs.declared.names.BaseTable.{BaseTable}
use Rattle.sq_bound.specs.declared.names.ObjectColumn.{ObjectColumn}
use Rattle.sq_change.specs.Given.{AreStored}
use Rattle.sq_change.specs.Made.{or_default, row_completed, value_at, value_completed}
use Rattle.sq_change.proofs.NewRows.Domains.{found_stored, given_in}

-- Each of the first columns stands in the list at its own place.
abbrev pub AreInOrder : List ObjectColumn → ℕ → Type 0
AreInOrder columns count = (place : ℕ) → place < count → position (λ c. nat_eq c.position place) columns ≡ Some place

-- ---- the values

there : {X : Type 0} (xs : List X) (i : ℕ) (x : X) → slice_get xs i ≡ Some x → i < length xs
there [] i x e = cc
there (y ∷ ys) zero x e = omega arith
there (y ∷ ys) (suc i) x e = let lt = there ys i x e in omega (arith, lt)

-- if each of these columns has the value at its place, the columns from a place on are completed to the values
module _ (user : Name) (columns : List ObjectColumn) (given : List Value) where
  each_given : (cs : List BaseColumn) (vs : List Value) (k : ℕ) → length vs ≡ length cs → ((i : ℕ) (v : Value) → slice_get vs i ≡ Some v → value_at columns given (k + i) ≡ Some v)
      → each (value_completed user columns given) (enumerate_from k cs) ≡ Ok vs
  each_given [] [] k e h = refl
  each_given [] (v ∷ vs) k e h = absurd (omega (arith, e))
  each_given (c ∷ cs) [] k e h = absurd (omega (arith, e))
  each_given (c ∷ cs) (v ∷ vs) k e h =
      let f : ℕ × BaseColumn → Outcome Value = value_completed user columns given in
      let same : k + 0 ≡ k = omega arith in
      let here : value_at columns given k ≡ Some v = subst (λ (n : ℕ). value_at columns given n ≡ Some v) same (h 0 v refl) in
      let later : each f (enumerate_from (k + 1) cs) ≡ Ok vs = each_given cs vs (k + 1) (omega (arith, e)) (λ i w at. next i w (h (suc i) w at)) in
      ap (λ (o : Option Value). and_then (or_default user c o) (λ y. and_then (each f (enumerate_from (k + 1) cs)) (λ ys. Ok (y ∷ ys)))) here
      ∙ ap (λ (o : Outcome (List Value)). and_then o (λ ys. let all : Outcome (List Value) = Ok (v ∷ ys) in all)) later
    where
      next : (i : ℕ) (w : Value) → value_at columns given (k + suc i) ≡ Some w → value_at columns given (k + 1 + i) ≡ Some w
      next i w at = let moved : k + suc i ≡ k + 1 + i = omega arith in subst (λ (n : ℕ). value_at columns given n ≡ Some w) moved at

-- a row that is given whole is the row itself
pub whole_row : (user : Name) (t : BaseTable) (columns : List ObjectColumn) (given : List Value) → length given ≡ length t.columns → AreInOrder columns (length t.columns)
    → row_completed user t columns given ≡ Ok given
whole_row user t columns given e are = each_given user columns given t.columns given 0 e (λ i v at.
    let lt = there given i v at in
    let listed : position (λ c. nat_eq c.position i) columns ≡ Some i = are i (omega (arith, lt, e)) in
    let moved : i ≡ 0 + i = omega arith in
    subst (λ (n : ℕ). value_at columns given n ≡ Some v) moved (ap (λ (o : Option ℕ). option_and_then (slice_get given) o) listed ∙ at))

-- ---- their domains

all_in : (cs : List BaseColumn) (vs : List Value) → length vs ≡ length cs
    → ((i : ℕ) (c : BaseColumn) (v : Value) → i < length cs → c ≡ get_or cs i c → v ≡ get_or vs i v → IsInDomain c.domain v) → IsRowIn cs vs
all_in [] [] e h = tt
all_in [] (v ∷ vs) e h = absurd (omega (arith, e))
all_in (c ∷ cs) [] e h = absurd (omega (arith, e))
all_in (c ∷ cs) (v ∷ vs) e h =
    (h 0 c v (omega arith) refl refl, all_in cs vs (omega (arith, e)) (λ i d w lt is at. h (suc i) d w (omega (arith, lt)) is at))

-- its values are in the domains of the table's columns
pub whole_in : (t : BaseTable) (columns : List ObjectColumn) (given : List Value) → AllByRecursion (IsColumnOf t) columns → AreStored columns given → length given ≡ length t.columns
    → AreInOrder columns (length t.columns) → IsRowIn t.columns given
whole_in t columns given are stored e ordered = all_in t.columns given e (λ i c v lt is at.
    given_in t columns i c v are (found_stored columns given i i v stored (ordered i lt) at) lt is)
