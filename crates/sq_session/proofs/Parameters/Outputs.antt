-- Outputs whose values are taken from the assignments.
use Rattle.std.proofs.Common.{◌≡◌, ◌+◌, ℕ, zero, suc, false, List, [], ◌∷◌, get_or, nat_eq, Option, Some, None, refl, arith}
use Rattle.std.proofs.lemmas.Grind.{common_steps}
use Rattle.std.proofs.lemmas.Bool.Decides.{nat_tests}
use Rattle.std.specs.Prelude.{position, slice_set}
use Rattle.std.specs.Option.{option_map}
use Rattle.sq_value.specs.declared.value.Value.{Value}
use Rattle.sq_session.specs.Target.{AreSetAlike, set_to}
use Rattle.sq_session.specs.declared.target.Assignment.{Assignment}

abbrev value_of : Option Assignment → Option Value
value_of o = option_map (λ (a : Assignment). a.value) o

-- A parameter without an assignment is set to nothing.
pub none_to : (place : ℕ) (set : List Assignment) → position (λ a. nat_eq a.parameter place) set ≡ None → value_of (set_to set place) ≡ None
none_to place [] e = refl
none_to place (x ∷ set) e = grind (arith, common_steps, none_to place set)

-- the first assignment to a parameter
pub first_to : (place : ℕ) (set : List Assignment) (i : ℕ) (a : Assignment) → position (λ x. nat_eq x.parameter place) set ≡ Some i → a ≡ get_or set i a → set_to set place ≡ Some a
first_to place [] i a e at = cc
first_to place (x ∷ set) zero a e at = grind (arith, common_steps)
first_to place (x ∷ set) (suc i) a e at = grind (arith, common_steps, first_to place set i a)

-- another parameter is set to what it was, where the value of that assignment is taken
other_kept : (place other : ℕ) (set : List Assignment) (i : ℕ) (a b : Assignment) → nat_eq place other ≡ false → position (λ x. nat_eq x.parameter place) set ≡ Some i → a ≡ get_or set i a
    → b.parameter ≡ a.parameter → set_to set other ≡ set_to (slice_set set i b) other
other_kept place other [] i a b ne e at same = cc
other_kept place other (x ∷ set) zero a b ne e at same = grind (arith, common_steps, nat_tests)
other_kept place other (x ∷ set) (suc i) a b ne e at same = grind (arith, common_steps, nat_tests, other_kept place other set i a b)

pub others_kept : (place : ℕ) (set : List Assignment) (i : ℕ) (a b : Assignment) → position (λ x. nat_eq x.parameter place) set ≡ Some i → a ≡ get_or set i a → b.parameter ≡ a.parameter
    → AreSetAlike (place + 1) set (slice_set set i b)
others_kept place set i a b e at same = λ other le.
    let ne : nat_eq place other ≡ false = grind (arith, nat_tests) in
    other_kept place other set i a b ne e at same
