-- Kinds of results are bounded: scales by 18, lengths by 240.
use Rattle.std.proofs.Common.{◌≡◌, ℕ, ◌+◌, ◌-◌, Bool, true, false, Ok, refl, subst, arith}
use Rattle.std.proofs.lemmas.Bool.Decides.{nat_tests}
use Rattle.std.specs.Prelude.{max, nat_le, if◌then◌else◌}
use Rattle.std.specs.Result.{result_ok}
use Rattle.sq_value.specs.declared.domain.Kind.{Kind}
use Rattle.sq_value.specs.declared.domain.Kind.TheVariants.{Num, Chars, Vary}
use Rattle.sq_tree.specs.declared.expr.SetFunction.{SetFunction}
use Rattle.sq_tree.specs.declared.expr.SetFunction.TheVariants.{Count, Sum, Avg, Min, Max}
use Rattle.sq_meaning.specs.Status as status
use Rattle.sq_bound.specs.Names.{is_bounded}
use Rattle.sq_bound.specs.declared.expression.Operator.{Operator}
use Rattle.sq_bound.specs.declared.expression.Operator.TheVariants as operator
use Rattle.sq_meaning.specs.declared.fault.BindingFault.TheVariants as fault
use Rattle.sq_binding.specs.Expression.{kind_of_call, kind_operated}
use Rattle.sq_binding.specs.Outcome.{or_fault}

max_bounded : (s t : ℕ) → nat_le s 18 ≡ true → nat_le t 18 ≡ true → nat_le (max s t) 18 ≡ true
max_bounded s t a b = grind (arith, nat_tests)

same_bounded : (k l : Kind) → k ≡ l → is_bounded k ≡ true → is_bounded l ≡ true
same_bounded k l is h = subst (λ (k : Kind). is_bounded k ≡ true) is h

scale_bounded : (n : ℕ) (b : Bool) (k : Kind) → nat_le n 18 ≡ b → or_fault fault.LimitExceeded (result_ok (if b then Ok (Num n) else status.not_well_formed)) ≡ Ok k → is_bounded k ≡ true
scale_bounded n true k t e = let is : Num n ≡ k = cc in same_bounded (Num n) k is t
scale_bounded n false k t e = cc

quotient_bounded : (m : ℕ) (b : Bool) (n : ℕ) (k : Kind) → nat_le m 18 ≡ true
    → or_fault fault.LimitExceeded (result_ok (status.and_then (if b then Ok (Num n) else status.not_well_formed) (λ _. Ok (Num m)))) ≡ Ok k → is_bounded k ≡ true
quotient_bounded m true n k h e = let is : Num m ≡ k = cc in same_bounded (Num m) k is h
quotient_bounded m false n k h e = cc

pub operated_bounded : (op : Operator) (l r k : Kind) → is_bounded l ≡ true → is_bounded r ≡ true → kind_operated op l r ≡ Ok k → is_bounded k ≡ true
operated_bounded op (Chars m) r k a b e = cc
operated_bounded op (Vary m) r k a b e = cc
operated_bounded op (Num s) (Chars n) k a b e = cc
operated_bounded op (Num s) (Vary n) k a b e = cc
operated_bounded operator.Plus (Num s) (Num t) k a b e = let is : Num (max s t) ≡ k = cc in same_bounded (Num (max s t)) k is (max_bounded s t a b)
operated_bounded operator.Minus (Num s) (Num t) k a b e = let is : Num (max s t) ≡ k = cc in same_bounded (Num (max s t)) k is (max_bounded s t a b)
operated_bounded operator.Times (Num s) (Num t) k a b e = scale_bounded (s + t) (nat_le (s + t) 18) k refl e
operated_bounded operator.Over (Num s) (Num t) k a b e = quotient_bounded (max s t) (nat_le (max s t + t - s) 18) (max s t + t - s) k (max_bounded s t a b) e

signed_bounded : (k l : Kind) → is_bounded k ≡ true → kind_of_call Sum k ≡ Ok l → is_bounded l ≡ true
signed_bounded (Num s) l h e = let is : Num s ≡ l = cc in same_bounded (Num s) l is h
signed_bounded (Chars n) l h e = cc
signed_bounded (Vary n) l h e = cc

pub call_bounded : (f : SetFunction) (k l : Kind) → is_bounded k ≡ true → kind_of_call f k ≡ Ok l → is_bounded l ≡ true
call_bounded Count k l h e = let is : Num 0 ≡ l = cc in same_bounded (Num 0) l is refl
call_bounded Sum k l h e = signed_bounded k l h e
call_bounded Avg k l h e = signed_bounded k l h e
call_bounded Min k l h e = let is : k ≡ l = cc in same_bounded k l is h
call_bounded Max k l h e = let is : k ≡ l = cc in same_bounded k l is h
