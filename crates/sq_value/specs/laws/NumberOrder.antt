-- The order of numbers by value is total, whatever their scales.
use Rattle.std.proofs.Common.{◌≡◌, ℕ, zero, suc, ◌*◌, ◌<◌, ◌^◌, ℤ, pos, negsuc, ◌*ℤ◌, ◌<ℤ◌, neg_ℤ, refl, sym, ap, ◌∙◌, arith}
use Rattle.std.proofs.lemmas.Int.{ints}
use Rattle.std.proofs.lemmas.Cmp.{int_cmp_total}
use Rattle.std.proofs.Math.Nat.{mul_assoc, mul_comm, one-le-pow, zero-mul, mul-lt-mul_of_pos_right}
use Rattle.std.specs.Cmp.{IsTotalOrder, int_cmp_is, int_ranks}
use Rattle.std.specs.declared.cmp.Ordering.{Ordering}
use Rattle.std.specs.declared.cmp.Ordering.TheVariants.{Less, Equal, Greater}
use Rattle.std.specs.Ordering.{int_cmp, MatchOrdering}
use Rattle.sq_value.specs.Number.{Number}
use Rattle.sq_value.specs.Arithmetic.{numbers_compared}

times_lt : (m n k : ℕ) → 0 < k → m < n → m * k < n * k
times_lt m n k p h = mul-lt-mul_of_pos_right h p

positive : (n k : ℕ) → 0 < k → 0 < suc n * k
positive n k p = omega (arith, times_lt 0 (suc n) k p (omega arith), zero-mul k)

-- a positive factor keeps the order
scaled_lt : (x y : ℤ) (k : ℕ) → 0 < k → x <ℤ y → (x *ℤ pos k) <ℤ (y *ℤ pos k)
scaled_lt (pos a) (pos b) k p h = let f = times_lt a b k p (omega (arith, ints)) in omega (arith, ints)
scaled_lt (pos a) (negsuc b) k p h = absurd (omega (arith, ints))
scaled_lt (negsuc a) (pos b) k p h = let f = positive a k p in omega (arith, ints)
scaled_lt (negsuc a) (negsuc b) k p h = let f = times_lt (suc b) (suc a) k p (omega (arith, ints)) in
    omega (arith, ints)

scaled_rank : (x y : ℤ) (k : ℕ) → 0 < k → (r : Ordering) → MatchOrdering r (x <ℤ y) (x ≡ y) (y <ℤ x)
    → MatchOrdering r ((x *ℤ pos k) <ℤ (y *ℤ pos k)) (x *ℤ pos k ≡ y *ℤ pos k) ((y *ℤ pos k) <ℤ (x *ℤ pos k))
scaled_rank x y k p Less h = scaled_lt x y k p h
scaled_rank x y k p Equal h = ap (λ z. z *ℤ pos k) h
scaled_rank x y k p Greater h = scaled_lt y x k p h

scaled_cmp : (x y : ℤ) (k : ℕ) → 0 < k → int_cmp x y ≡ int_cmp (x *ℤ pos k) (y *ℤ pos k)
scaled_cmp x y k p = int_cmp_is (x *ℤ pos k) (y *ℤ pos k) (int_cmp x y)
    (scaled_rank x y k p (int_cmp x y) (int_ranks x y))

negated_times : (n k : ℕ) → neg_ℤ (pos n) *ℤ pos k ≡ neg_ℤ (pos (n * k))
negated_times zero k = ap pos (zero-mul k) ∙ sym (ap (λ n. neg_ℤ (pos n)) (zero-mul k))
negated_times (suc n) k = refl

pub times_twice : (x : ℤ) (k l : ℕ) → x *ℤ pos k *ℤ pos l ≡ x *ℤ pos (k * l)
times_twice (pos a) k l = ap pos (mul_assoc a k l)
times_twice (negsuc a) k l = negated_times (suc a * k) l ∙ ap (λ n. neg_ℤ (pos n)) (mul_assoc (suc a) k l)

pub ten_positive : (s : ℕ) → 0 < 10 ^ s
ten_positive s = omega (arith, one-le-pow s 10 (omega arith))

-- at one scale numbers compare as their unscaled values
pub compared_alike : (a b : Number) → a.scale ≡ b.scale → int_cmp a.unscaled b.unscaled ≡ numbers_compared a b
compared_alike a b h =
    scaled_cmp a.unscaled b.unscaled (10 ^ a.scale) (ten_positive a.scale)
    ∙ ap (λ s. int_cmp (a.unscaled *ℤ pos (10 ^ s)) (b.unscaled *ℤ pos (10 ^ a.scale))) h

-- two numbers compare as both times the power of ten of a third one's scale
third : (a b : Number) (s : ℕ)
    → numbers_compared a b ≡ int_cmp (a.unscaled *ℤ pos (10 ^ b.scale * 10 ^ s))
    (b.unscaled *ℤ pos (10 ^ a.scale * 10 ^ s))
third a b s =
    scaled_cmp (a.unscaled *ℤ pos (10 ^ b.scale)) (b.unscaled *ℤ pos (10 ^ a.scale)) (10 ^ s) (ten_positive s)
    ∙ (λ i. int_cmp (times_twice a.unscaled (10 ^ b.scale) (10 ^ s) i)
    (times_twice b.unscaled (10 ^ a.scale) (10 ^ s) i))

turned : (x y : ℤ) (k l m n : ℕ) → int_cmp (x *ℤ pos (k * l)) (y *ℤ pos (m * n))
    ≡ int_cmp (x *ℤ pos (l * k)) (y *ℤ pos (n * m))
turned x y k l m n = λ i. int_cmp (x *ℤ pos (mul_comm k l i)) (y *ℤ pos (mul_comm m n i))

-- all three comparisons of three numbers, over one common power of ten
first_second : (a b c : Number)
    → numbers_compared a b ≡ int_cmp (a.unscaled *ℤ pos (10 ^ b.scale * 10 ^ c.scale))
    (b.unscaled *ℤ pos (10 ^ a.scale * 10 ^ c.scale))
first_second a b c = third a b c.scale

second_third : (a b c : Number)
    → numbers_compared b c ≡ int_cmp (b.unscaled *ℤ pos (10 ^ a.scale * 10 ^ c.scale))
    (c.unscaled *ℤ pos (10 ^ a.scale * 10 ^ b.scale))
second_third a b c = third b c a.scale ∙ turned b.unscaled c.unscaled (10 ^ c.scale) (10 ^ a.scale)
    (10 ^ b.scale) (10 ^ a.scale)

first_third : (a b c : Number)
    → numbers_compared a c ≡ int_cmp (a.unscaled *ℤ pos (10 ^ b.scale * 10 ^ c.scale))
    (c.unscaled *ℤ pos (10 ^ a.scale * 10 ^ b.scale))
first_third a b c = third a c b.scale ∙
    (λ i. int_cmp (a.unscaled *ℤ pos (mul_comm (10 ^ c.scale) (10 ^ b.scale) i))
    (c.unscaled *ℤ pos (10 ^ a.scale * 10 ^ b.scale)))

pub numbers_total : IsTotalOrder numbers_compared
numbers_total = record {
  antisymm = λ a b. int_cmp_total.antisymm (a.unscaled *ℤ pos (10 ^ b.scale))
      (b.unscaled *ℤ pos (10 ^ a.scale));
  trans = λ a b c p q. first_third a b c ∙ int_cmp_total.trans
      (a.unscaled *ℤ pos (10 ^ b.scale * 10 ^ c.scale)) (b.unscaled *ℤ pos (10 ^ a.scale * 10 ^ c.scale))
      (c.unscaled *ℤ pos (10 ^ a.scale * 10 ^ b.scale)) (sym (first_second a b c) ∙ p)
      (sym (second_third a b c) ∙ q);
  congr = λ a b c p. first_third a b c ∙ int_cmp_total.congr
      (a.unscaled *ℤ pos (10 ^ b.scale * 10 ^ c.scale)) (b.unscaled *ℤ pos (10 ^ a.scale * 10 ^ c.scale))
      (c.unscaled *ℤ pos (10 ^ a.scale * 10 ^ b.scale)) (sym (first_second a b c) ∙ p) ∙ sym
      (second_third a b c);
}
