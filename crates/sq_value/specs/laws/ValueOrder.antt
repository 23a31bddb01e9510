-- The order of values is total, so "the same" is an equivalence, and values that are the same feed a hasher alike.
use Rattle.std.proofs.Common.{◌≡◌, ℕ, zero, suc, ◌*◌, ◌/◌, ◌+◌, ◌-◌, ◌<◌, ◌≤◌, ◌^◌, ℤ, pos, negsuc, ◌*ℤ◌, neg_ℤ, int_div, true, List, [], ◌++◌, refl, sym, ap, subst, ◌∙◌, arith}
use Rattle.std.proofs.lemmas.Cmp.{nat_cmp_total, eq_by_cmp_equiv}
use Rattle.std.proofs.lemmas.Map.Lookups.{exact_signed}
use Rattle.std.proofs.lemmas.Nat.{pow-add}
use Rattle.std.proofs.Math.Nat.{mul_comm, mul-div-mul_right, mul-div_cancel, zero-div}
use Rattle.std.specs.Cmp.{IsTotalOrder, IsEquivalence, on_total, then_total}
use Rattle.std.specs.declared.cmp.Ordering.{Ordering}
use Rattle.std.specs.declared.cmp.Ordering.TheVariants.{Less, Equal, Greater}
use Rattle.std.specs.Hash as fed
use Rattle.std.specs.Ordering.{nat_cmp, ordering_then, is_eq, on, then_cmp, eq_by_cmp}
use Rattle.sq_value.specs.Number.{Number}
use Rattle.sq_value.specs.Arithmetic.{numbers_compared, truncated, at_scale}
use Rattle.sq_value.specs.Comparison.{ordered, is_same, texts_compared}
use Rattle.sq_value.specs.private.Comparison.{kind_rank}
use Rattle.sq_value.specs.Key.{value_writes}
use Rattle.sq_value.specs.laws.NumberOrder.{numbers_total, times_twice, ten_positive}
use Rattle.sq_value.specs.laws.TextOrder.{texts_total, same_trimmed}
use Rattle.sq_value.specs.declared.value.Value.{Value}
use Rattle.sq_value.specs.declared.value.Value.TheVariants.{Null, Num, Chars}

-- ---- the order by kind, then by number, then by text

number_part : Value → Number
number_part Null = record { unscaled = pos 0; scale = 0 }
number_part (Num n) = n
number_part (Chars t) = record { unscaled = pos 0; scale = 0 }

text_part : Value → List ℕ
text_part Null = []
text_part (Num n) = []
text_part (Chars t) = t

abbrev by_parts : Value → Value → Ordering
by_parts =
    then_cmp (on kind_rank nat_cmp) (then_cmp (on number_part numbers_compared) (on text_part texts_compared))

parts_total : IsTotalOrder by_parts
parts_total = then_total (on_total kind_rank nat_cmp_total)
    (then_total (on_total number_part numbers_total) (on_total text_part texts_total))

then_equal : (o : Ordering) → o ≡ ordering_then o Equal
then_equal Less = refl
then_equal Equal = refl
then_equal Greater = refl

ordered_is : (v w : Value) → ordered v w ≡ by_parts v w
unfolding number_part text_part
ordered_is Null Null = refl
ordered_is Null (Num b) = refl
ordered_is Null (Chars t) = refl
ordered_is (Num a) Null = refl
ordered_is (Num a) (Num b) = then_equal (numbers_compared a b)
ordered_is (Num a) (Chars t) = refl
ordered_is (Chars s) Null = refl
ordered_is (Chars s) (Num b) = refl
ordered_is (Chars s) (Chars t) = refl

pub values_total : IsTotalOrder ordered
values_total = subst IsTotalOrder (λ i v w. sym (ordered_is v w) i) parts_total

pub same_is : (v w : Value) → is_same v w ≡ eq_by_cmp ordered v w
same_is Null Null = refl
same_is Null (Num b) = refl
same_is Null (Chars t) = refl
same_is (Num a) Null = refl
same_is (Num a) (Num b) = refl
same_is (Num a) (Chars t) = refl
same_is (Chars s) Null = refl
same_is (Chars s) (Num b) = refl
same_is (Chars s) (Chars t) = refl

pub same_equiv : IsEquivalence is_same
same_equiv = subst IsEquivalence (λ i v w. sym (same_is v w) i) (eq_by_cmp_equiv values_total)

-- ---- the writes to a hasher

negated_quotient : (n k : ℕ) → int_div (neg_ℤ (pos n)) (pos k) ≡ neg_ℤ (pos (n / k))
negated_quotient zero k = ap pos (zero-div k) ∙ sym (ap (λ q. neg_ℤ (pos q)) (zero-div k))
negated_quotient (suc n) k = refl

-- a factor of both goes
quotient_reduced : (x : ℤ) (d k : ℕ) → 0 < k → int_div (x *ℤ pos k) (pos (d * k)) ≡ int_div x (pos d)
quotient_reduced (pos a) d k p = ap pos (mul-div-mul_right a d p)
quotient_reduced (negsuc a) d k p =
    negated_quotient (suc a * k) (d * k) ∙ ap (λ q. neg_ℤ (pos q)) (mul-div-mul_right (suc a) d p)

whole_quotient : (x : ℤ) (k : ℕ) → 0 < k → int_div (x *ℤ pos k) (pos k) ≡ x
whole_quotient (pos a) k p = ap pos (mul-div_cancel a p)
whole_quotient (negsuc a) k p =
    negated_quotient (suc a * k) k ∙ ap (λ q. neg_ℤ (pos q)) (mul-div_cancel (suc a) p)

exchanged : (x : ℤ) (k l : ℕ) → x *ℤ pos k *ℤ pos l ≡ x *ℤ pos l *ℤ pos k
exchanged x k l = times_twice x k l ∙ ap (λ n. x *ℤ pos n) (mul_comm k l) ∙ sym (times_twice x l k)

equal_from : (o : Ordering) → is_eq o ≡ true → o ≡ Equal
equal_from Less h = cc
equal_from Equal h = refl
equal_from Greater h = cc

same_at_18 : (a b : Number) → is_eq (numbers_compared a b) ≡ true
    → (truncated 18 a).unscaled ≡ (truncated 18 b).unscaled
same_at_18 a b h =
    let equal : a.unscaled *ℤ pos (10 ^ b.scale) ≡ b.unscaled *ℤ pos (10 ^ a.scale) =
    exact_signed _ _ (equal_from (numbers_compared a b) h) in
    sym (quotient_reduced (a.unscaled *ℤ pos (10 ^ 18)) (10 ^ a.scale) (10 ^ b.scale) (ten_positive b.scale))
    ∙ ap (λ x. int_div x (pos (10 ^ a.scale * 10 ^ b.scale)))
    (exchanged a.unscaled (10 ^ 18) (10 ^ b.scale) ∙ ap
    (λ x. x *ℤ pos (10 ^ 18)) equal ∙ exchanged b.unscaled (10 ^ a.scale) (10 ^ 18))
    ∙ ap (λ d. int_div (b.unscaled *ℤ pos (10 ^ 18) *ℤ pos (10 ^ a.scale)) (pos d))
    (mul_comm (10 ^ a.scale) (10 ^ b.scale))
    ∙ quotient_reduced (b.unscaled *ℤ pos (10 ^ 18)) (10 ^ b.scale) (10 ^ a.scale) (ten_positive a.scale)

pub same_fed : (v w : Value) → is_same v w ≡ true → value_writes v ≡ value_writes w
same_fed Null Null h = refl
same_fed Null (Num b) h = cc
same_fed Null (Chars t) h = cc
same_fed (Num a) Null h = cc
same_fed (Num a) (Num b) h = ap (λ m. fed.u8 1 ++ fed.i128 m) (same_at_18 a b h)
same_fed (Num a) (Chars t) h = cc
same_fed (Chars s) Null h = cc
same_fed (Chars s) (Num b) h = cc
same_fed (Chars s) (Chars t) h = ap (λ u. fed.u8 2 ++ fed.slice fed.u8 u) (same_trimmed s t h)

-- a number of at most 18 places at scale 18
pub at_18_is : (n : Number) → n.scale ≤ 18 → at_scale 18 n ≡ (truncated 18 n).unscaled
at_18_is n h =
    let whole : 18 - n.scale + n.scale ≡ 18 = omega arith in
    let power : 10 ^ (18 - n.scale) * 10 ^ n.scale ≡ 10 ^ 18 =
    sym (pow-add 10 (18 - n.scale) n.scale) ∙ ap (λ k. 10 ^ k) whole in
    sym (whole_quotient (n.unscaled *ℤ pos (10 ^ (18 - n.scale))) (10 ^ n.scale) (ten_positive n.scale))
    ∙ ap (λ x. int_div x (pos (10 ^ n.scale)))
    (times_twice n.unscaled (10 ^ (18 - n.scale)) (10 ^ n.scale) ∙ ap (λ k. n.unscaled *ℤ pos k) power)

-- a number at its own scale
pub truncated_alike : (n : Number) (s : ℕ) → n.scale ≡ s → n.unscaled ≡ (truncated s n).unscaled
truncated_alike n s h =
    sym (whole_quotient n.unscaled (10 ^ n.scale) (ten_positive n.scale))
    ∙ ap (λ k. int_div (n.unscaled *ℤ pos (10 ^ k)) (pos (10 ^ n.scale))) h
