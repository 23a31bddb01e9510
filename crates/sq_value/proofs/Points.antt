-- The parts of a list before and after the first element that passes a test.
use Rattle.std.proofs.Common.{◌≡◌, ℕ, ◌+◌, ◌≤◌, Bool, List, [], length, take, drop, Some, None, arith, ap}
use Rattle.std.proofs.lemmas.List.{drop_all, take_all}
use Rattle.std.proofs.lemmas.Bool.Decides.{nat_tests}
use Rattle.std.specs.List.{position, position_or_len, before_first, after_first}

place_is : (p : ℕ → Bool) (xs : List ℕ) (k : ℕ) → position p xs ≡ Some k → position_or_len p xs ≡ k
place_is p xs k h = grind (arith, nat_tests)

no_place : (p : ℕ → Bool) (xs : List ℕ) → position p xs ≡ None → length xs ≤ position_or_len p xs
no_place p xs h = grind (arith, nat_tests)

pub before_place : (p : ℕ → Bool) (xs : List ℕ) (k : ℕ) → position p xs ≡ Some k → before_first p xs ≡ take k xs
before_place p xs k h = ap (λ n. take n xs) (place_is p xs k h)

pub after_place : (p : ℕ → Bool) (xs : List ℕ) (k : ℕ) → position p xs ≡ Some k → after_first p xs ≡ drop (k + 1) xs
after_place p xs k h = ap (λ n. drop (n + 1) xs) (place_is p xs k h)

pub before_none : (p : ℕ → Bool) (xs : List ℕ) → position p xs ≡ None → before_first p xs ≡ xs
before_none p xs h = take_all (position_or_len p xs) xs (no_place p xs h)

pub after_none : (p : ℕ → Bool) (xs : List ℕ) → position p xs ≡ None → after_first p xs ≡ []
after_none p xs h = let n : length xs ≤ position_or_len p xs + 1 = omega (arith, no_place p xs h) in drop_all (position_or_len p xs + 1) xs n

pub ruleset places = (before_place, after_place, before_none, after_none)
