-- The numbers among values: their sum, count and first scale.
use Rattle.std.proofs.Common.{cond, ◌≡◌, ℕ, ℤ, pos, ◌+ℤ◌, ◌+◌, ◌<◌, List, [], ◌∷◌, length, fold, refl, sym, ap, ◌∙◌, arith, Some}
use Rattle.std.specs.Prelude.{count_by}
use Rattle.std.proofs.lemmas.Int.{ints, to_z-of_z}
use Rattle.std.proofs.lemmas.List.Sums.{fold_more}
use Rattle.std.proofs.lemmas.List.Recursion.{is_count_by}
use Rattle.sq_value.specs.Number.{Number}
use Rattle.sq_value.specs.SetFunctions.{numbers, total}
use Rattle.sq_value.specs.private.SetFunctions.{first_scale, is_number, unscaled_of}
use Rattle.sq_value.specs.declared.value.Value.{Value}
use Rattle.sq_value.specs.declared.value.Value.TheVariants.{Null, Num, Chars}

add_zero : (a : ℤ) → a +ℤ pos 0 ≡ a
add_zero a = omega (arith, ints)

sum_from : (a : ℤ) (vs : List Value) → fold (λ s v. s +ℤ unscaled_of v) a vs ≡ fold (λ s n. s +ℤ n.unscaled) a (numbers vs)
sum_from a [] = refl
sum_from a (Null ∷ vs) = ap (λ b. fold (λ s v. s +ℤ unscaled_of v) b vs) (add_zero a) ∙ sum_from a vs
sum_from a (Num n ∷ vs) = sum_from (a +ℤ n.unscaled) vs
sum_from a (Chars t ∷ vs) = ap (λ b. fold (λ s v. s +ℤ unscaled_of v) b vs) (add_zero a) ∙ sum_from a vs

pub total_is : (vs : List Value) → total (numbers vs) ≡ fold (λ s v. s +ℤ unscaled_of v) (pos 0) vs
total_is vs = sym (sum_from (pos 0) vs)

pub ruleset totals = (total_is, fold_more, to_z-of_z, ints)

one_more : (v : Value) (vs : List Value) → length (numbers (v ∷ vs)) ≡ cond (is_number v) (1 + length (numbers vs)) (length (numbers vs))
one_more Null vs = refl
one_more (Num n) vs = omega arith
one_more (Chars t) vs = refl

pub count_is : (vs : List Value) → length (numbers vs) ≡ count_by is_number vs
count_is vs = is_count_by (λ us. length (numbers us)) is_number refl one_more vs

pub some_number : (ns : List Number) (s : ℕ) → Some s ≡ first_scale ns → 0 < length ns
some_number [] s h = cc
some_number (n ∷ ns) s h = omega arith

pub ruleset numbers_steps = (count_is, some_number)
