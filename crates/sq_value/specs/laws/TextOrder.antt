-- The order of texts as if padded is total, and equal texts are equal without the blanks at their ends.
use Rattle.std.proofs.Common.{◌≡◌, ℕ, ◌≤◌, max, true, List, [], ◌∷◌, length, refl, sym, ap, ◌∙◌, arith}
use Rattle.std.proofs.lemmas.Bool.Decides.{nat_tests}
use Rattle.std.proofs.lemmas.Cmp.{nat_list_cmp_total}
use Rattle.std.specs.Cmp.{IsTotalOrder}
use Rattle.std.specs.Cmp.Lexicographic.{slice_cmp}
use Rattle.std.specs.declared.cmp.Ordering.{Ordering}
use Rattle.std.specs.declared.cmp.Ordering.TheVariants.{Less, Equal, Greater}
use Rattle.std.specs.Ordering.{nat_cmp, ordering_then, ordering_reverse, is_eq}
use Rattle.sq_value.specs.Comparison.{padded, texts_compared}
use Rattle.sq_value.specs.Text.{trimmed, trim_onto}
use Rattle.sq_value.specs.laws.Padding.{from_front, front_is, padded_is}

abbrev longest : List ℕ → List ℕ → List ℕ → ℕ
longest s t u = max (length s) (max (length t) (length u))

at_one_length : (n : ℕ) (s t : List ℕ) → length s ≤ n → length t ≤ n
    → texts_compared s t ≡ slice_cmp nat_cmp (padded n s) (padded n t)
at_one_length n s t p q = front_is s t ∙ sym (padded_is n s t p q)

pub texts_total : IsTotalOrder texts_compared
texts_total = record {
  antisymm = λ s t.
      at_one_length (longest s t []) s t (omega arith) (omega arith)
      ∙ nat_list_cmp_total.antisymm (padded (longest s t []) s) (padded (longest s t []) t)
      ∙ ap ordering_reverse (sym (at_one_length (longest s t []) t s (omega arith) (omega arith)));
  trans = λ s t u p q.
      at_one_length (longest s t u) s u (omega arith) (omega arith)
      ∙ nat_list_cmp_total.trans (padded (longest s t u) s) (padded (longest s t u) t)
      (padded (longest s t u) u)
      (sym (at_one_length (longest s t u) s t (omega arith) (omega arith)) ∙ p)
      (sym (at_one_length (longest s t u) t u (omega arith) (omega arith)) ∙ q);
  congr = λ s t u p.
      at_one_length (longest s t u) s u (omega arith) (omega arith)
      ∙ nat_list_cmp_total.congr (padded (longest s t u) s) (padded (longest s t u) t)
      (padded (longest s t u) u) (sym (at_one_length (longest s t u) s t (omega arith) (omega arith)) ∙ p)
      ∙ sym (at_one_length (longest s t u) t u (omega arith) (omega arith));
}

both_equal : (o p : Ordering) → is_eq (ordering_then o p) ≡ true → (is_eq o ≡ true) × (is_eq p ≡ true)
both_equal Less p h = (h, cc)
both_equal Equal p h = (refl, h)
both_equal Greater p h = (h, cc)

same_code : (x y : ℕ) → is_eq (nat_cmp x y) ≡ true → x ≡ y
same_code x y h = grind (arith, nat_tests)

blanks_left : (ys : List ℕ) → is_eq (from_front [] ys) ≡ true → [] ≡ trimmed ys
blanks_left [] h = refl
blanks_left (y ∷ ys) h =
    let both = both_equal (nat_cmp 32 y) (from_front [] ys) h in
    (λ i. trim_onto (same_code 32 y (both.0) i) (blanks_left ys (both.1) i))

blanks_right : (xs : List ℕ) → is_eq (from_front xs []) ≡ true → trimmed xs ≡ []
blanks_right [] h = refl
blanks_right (x ∷ xs) h =
    let both = both_equal (nat_cmp x 32) (from_front xs []) h in
    (λ i. trim_onto (same_code x 32 (both.0) i) (blanks_right xs (both.1) i))

from_front_trimmed : (xs ys : List ℕ) → is_eq (from_front xs ys) ≡ true → trimmed xs ≡ trimmed ys
from_front_trimmed [] ys h = blanks_left ys h
from_front_trimmed (x ∷ xs) [] h = blanks_right (x ∷ xs) h
from_front_trimmed (x ∷ xs) (y ∷ ys) h =
    let both = both_equal (nat_cmp x y) (from_front xs ys) h in
    (λ i. trim_onto (same_code x y (both.0) i) (from_front_trimmed xs ys (both.1) i))

pub same_trimmed : (s t : List ℕ) → is_eq (texts_compared s t) ≡ true → trimmed s ≡ trimmed t
same_trimmed s t h = from_front_trimmed s t (sym (ap is_eq (front_is s t)) ∙ h)
