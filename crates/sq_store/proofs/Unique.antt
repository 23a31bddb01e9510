-- Keys are unique: a row with a key is the row with that key.
use Rattle.std.proofs.Common.{◌≡◌, ℕ, Bool, true, false, nat_eq, List, [], ◌∷◌, Some, find, arith, refl, sym, ap, ◌∙◌}
use Rattle.std.specs.List.{list_any}
use Rattle.std.specs.Cmp.Lexicographic.{lists_equiv, pointwise}
use Rattle.std.proofs.lemmas.Grind.{common_steps}
use Rattle.sq_value.specs.Comparison.{is_same}
use Rattle.sq_value.specs.Key.{in_columns}
use Rattle.sq_value.specs.laws.ValueOrder.{same_equiv}
use Rattle.sq_value.specs.declared.value.Value.{Value}
use Rattle.sq_store.specs.Keys.{are_distinct, has_key}
use Rattle.sq_store.specs.declared.table.Numbered.{Numbered}

by_test : (a : Bool) {P : Type 0} → (a ≡ true → P) → (a ≡ false → P) → P
by_test true p q = p refl
by_test false p q = q refl

-- two rows with one key have the same
both_same : (key r q : List Value) → pointwise is_same key r ≡ true → pointwise is_same key q ≡ true → pointwise is_same r q ≡ true
both_same key r q h k = sym ((lists_equiv same_equiv).congr key r q h) ∙ k

-- the row under a number is one of them
one_of : (P : Numbered → Bool) (rs : List Numbered) (number : ℕ) (f : Numbered) → find (λ r. nat_eq r.number number) rs ≡ Some f → P f ≡ true → list_any P rs ≡ true
one_of P [] number f e h = cc
one_of P (r ∷ rs) number f e h = by_test (nat_eq r.number number)
    (λ t. let k : Some r ≡ Some f = rw t at e in let same : r ≡ f = cc in let here : P r ≡ true = ap P same ∙ h in grind (arith, common_steps))
    (λ n. let k : find (λ r. nat_eq r.number number) rs ≡ Some f = rw n at e in let rest : list_any P rs ≡ true = one_of P rs number f k h in grind (arith, common_steps))

-- where no two rows have the same key, the row under a number that has the key is the one with the key
pub found_with : (columns : List ℕ) (key : List Value) (rs : List Numbered) (number : ℕ) (f : Numbered) → are_distinct columns rs ≡ true → find (λ r. nat_eq r.number number) rs ≡ Some f → has_key columns key f ≡ true
    → find (has_key columns key) rs ≡ Some f
found_with columns key [] number f d e h = cc
found_with columns key (r ∷ rs) number f d e h = by_test (nat_eq r.number number)
    (λ t.
    let k : Some r ≡ Some f = rw t at e in
    let same : r ≡ f = cc in
    let here : has_key columns key r ≡ true = ap (has_key columns key) same ∙ h in
    grind (arith, common_steps))
    (λ n.
    let k : find (λ r. nat_eq r.number number) rs ≡ Some f = rw n at e in
    let rest : find (has_key columns key) rs ≡ Some f = found_with columns key rs number f (grind (arith, common_steps)) k h in
    by_test (has_key columns key r)
    (λ t.
    let two : list_any (has_key columns (in_columns r.row columns)) rs ≡ true
    = one_of (has_key columns (in_columns r.row columns)) rs number f k (both_same key (in_columns r.row columns) (in_columns f.row columns) t h) in
    absurd (grind (arith, common_steps)))
    (λ t. grind (arith, common_steps)))
