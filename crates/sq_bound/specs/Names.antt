-- Positions and kinds of columns.
use Rattle.std.specs.Prelude.{ℕ, zero, suc, nat_eq, nat_le, nat_lt, Bool, true, false, List, [], ◌∷◌, Option, None, Some}
use Rattle.std.specs.List.{list_all}
use Rattle.sq_value.specs.declared.domain.Kind.{Kind}
use Rattle.sq_value.specs.declared.domain.Kind.TheVariants.{Num, Chars, Vary}

-- positions of this many columns
abbrev pub are_positions : ℕ → List ℕ → Bool
are_positions columns places = list_all (λ p. nat_lt p columns) places

-- the test passes of the value, if there is one
abbrev pub option_all : {A : Type 0} → (A → Bool) → Option A → Bool
option_all test None = true
option_all test (Some x) = test x

abbrev pub same_kind : Kind → Kind → Bool
same_kind (Num s) (Num t) = nat_eq s t
same_kind (Chars m) (Chars n) = nat_eq m n
same_kind (Vary m) (Vary n) = nat_eq m n
same_kind _ _ = false

-- the kind is at this position
abbrev pub is_kind_at : List Kind → ℕ → Kind → Bool
is_kind_at [] position k = false
is_kind_at (l ∷ kinds) zero k = same_kind l k
is_kind_at (l ∷ kinds) (suc position) k = is_kind_at kinds position k

-- a scale of at most 18, or a length of at most 240 (own rules)
abbrev pub is_bounded : Kind → Bool
is_bounded (Num s) = nat_le s 18
is_bounded (Chars n) = nat_le n 240
is_bounded (Vary n) = nat_le n 240
