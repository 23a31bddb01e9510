-- Laws of the truths `true` and `false` under AND, OR and NOT; the library's own laws of them are in `lemmas.Bool`.
use Rattle.std.proofs.Common.{◌≡◌, Bool, true, false, ◌&&◌, ◌||◌, refl, sym}
use Rattle.std.proofs.lemmas.Bool.{true≢false}

-- OR with what is false is the other truth.
pub or_false : (b : Bool) → (b || false) ≡ b
or_false true = refl
or_false false = refl

-- OR with what is true is true.
pub or_true : (b : Bool) → (b || true) ≡ true
or_true true = refl
or_true false = refl

-- AND with what is true is the other truth.
pub and_true : (b : Bool) → (b && true) ≡ b
and_true true = refl
and_true false = refl

-- AND with what is false is false.
pub and_false : (b : Bool) → (b && false) ≡ false
and_false true = refl
and_false false = refl

-- AND of three is false if the second is.
pub and_without : (a b c : Bool) → b ≡ false → (a && b && c) ≡ false
and_without a true c e = absurd (true≢false e)
and_without true false c e = refl
and_without false false c e = refl

-- OR with what was found false is the first truth.
pub or_without : (a b : Bool) → b ≡ false → (a || b) ≡ a
or_without true b e = refl
or_without false b e = e

-- OR of three is the same from the left and from the right.
pub or_assoc : (a b c : Bool) → ((a || b) || c) ≡ (a || (b || c))
or_assoc true b c = refl
or_assoc false b c = refl

pub or_assoc_left : (a b c : Bool) → (a || (b || c)) ≡ ((a || b) || c)
or_assoc_left a b c = sym (or_assoc a b c)

-- OR is the same in each order.
pub or_comm : (a b : Bool) → (a || b) ≡ (b || a)
or_comm true b = sym (or_true b)
or_comm false b = sym (or_false b)

-- OR of a list of two is the same in each order.
pub or_turned : (a b : Bool) → (a || (b || false)) ≡ (b || a)
or_turned true b = sym (or_true b)
or_turned false true = refl
or_turned false false = refl

-- OR of three is the same if the first two change places.
pub or_swap : (a b c : Bool) → (a || (b || c)) ≡ (b || (a || c))
or_swap true true c = refl
or_swap true false c = refl
or_swap false b c = refl

-- If AND is true, so is each of its two.
pub both_left : (a b : Bool) → (a && b) ≡ true → a ≡ true
both_left true b e = refl
both_left false b e = e

pub both_right : (a b : Bool) → (a && b) ≡ true → b ≡ true
both_right true b e = e
both_right false b e = absurd (true≢false (sym e))

-- If OR is false, so is each of its two.
pub neither_left : (a b : Bool) → (a || b) ≡ false → a ≡ false
neither_left true b e = e
neither_left false b e = refl

pub neither_right : (a b : Bool) → (a || b) ≡ false → b ≡ false
neither_right true b e = absurd (true≢false e)
neither_right false b e = e

-- Two truths are the same if each is true where the other is.
pub alike : (a b : Bool) → (a ≡ true → b ≡ true) → (b ≡ true → a ≡ true) → a ≡ b
alike true b f g = sym (f refl)
alike false true f g = g refl
alike false false f g = refl
