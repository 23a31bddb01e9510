-- An operator on operands of their kinds gives a value of the operator's kind (ISO/IEC 9075:1992, 6.5 and 6.12), or ends
-- with a status other than 42000.
use Rattle.std.proofs.Common.{◌≡◌, ℕ, Bool, true, false, ◌&&◌, List, [], ◌∷◌, Some, refl, sym, ap, subst, ◌∙◌, Ok, Err, arith, eq-eqb}
use Rattle.std.proofs.lemmas.List.{length-append, length-replicate, length-take}
use Rattle.std.specs.Prelude.{ℤ, pos, ◌+◌, ◌-◌, ◌*ℤ◌, ◌+ℤ◌, ◌-ℤ◌, int_div, min, max, nat_le, nat_lt, if◌then◌else◌, find, not, length, take, replicate, unwrap_or, unsigned_abs, ◌^◌}
use Rattle.std.specs.Ordering.{int_eq}
use Rattle.std.specs.List.{AllByRecursion, list_all}
use Rattle.sq_value.specs.Arithmetic as number
use Rattle.sq_value.specs.Arithmetic.{in_range, at_scale}
use Rattle.sq_value.specs.Comparison.{is_same}
use Rattle.sq_value.specs.Domain.{IsOfKind}
use Rattle.sq_value.specs.Number.{Number}
use Rattle.sq_value.specs.SetFunctions.{numbers, sum_of_numbers as numbers_sum, mean_of_numbers, total, extreme, without_nulls, is_null, is_unsurpassed}
use Rattle.sq_value.specs.Text.{of_length}
use Rattle.sq_value.specs.declared.domain.Kind.{Kind}
use Rattle.sq_value.specs.declared.domain.Kind.TheVariants as kind
use Rattle.sq_value.specs.declared.fault.ArithmeticFault.TheVariants as fault
use Rattle.sq_value.specs.declared.set_functions.Extreme.{Extreme}
use Rattle.sq_value.specs.declared.set_functions.Extreme.TheVariants.{Least, Greatest}
use Rattle.sq_value.specs.declared.value.Value.{Value}
use Rattle.sq_value.specs.declared.value.Value.TheVariants.{Null, Num, Chars}
use Rattle.sq_tree.specs.declared.expr.Sign.{Sign}
use Rattle.sq_tree.specs.declared.expr.Sign.TheVariants.{Plus, Minus}
use Rattle.sq_tree.specs.declared.expr.TimesSign.{TimesSign}
use Rattle.sq_tree.specs.declared.expr.TimesSign.TheVariants.{Times, Over}
use Rattle.sq_tree.specs.declared.expr.SetFunction.{SetFunction}
use Rattle.sq_tree.specs.declared.expr.SetFunction.TheVariants.{Count, Sum, Avg, Min, Max}
use Rattle.sq_meaning.specs.Status.{Outcome, and_then, not_well_formed, with_status, arithmetic_status}
use Rattle.sq_meaning.specs.Expression.{number_outcome, calculated, sum_of, with_places, product_of, with_sign, is_of_scale, are_of_one_scale, function_value, distinct_values}
use Rattle.sq_meaning.specs.Kind.{kind_of_value, of_scale, signed_kind, sum_kind, product_kind, function_kind}
use Rattle.sq_meaning.specs.WellFormed.{Answers, Fits}
use Rattle.sq_meaning.proofs.AnswerLaws.{all_filtered, all_firsts_if}

-- null is of every kind
null_fits : (o : Outcome Kind) → Fits IsOfKind o (Ok Null)
null_fits (Ok k) = tt
null_fits (Err status) = tt

pub literal_fits : (v : Value) → Fits IsOfKind (kind_of_value v) (Ok v)
literal_fits Null = tt
literal_fits (Num n) = refl
literal_fits (Chars t) = refl

-- ---- arithmetic

pub number_of_scale : (s : ℕ) (n : ℤ) → Answers (IsOfKind (kind.Num s)) (number_outcome (in_range s n))
number_of_scale s n = split (nat_lt (unsigned_abs n) (10 ^ 18))
  where
    split : (b : Bool) → Answers (IsOfKind (kind.Num s)) (number_outcome (if b then Ok (record { unscaled = n; scale = s }) else Err fault.Range))
    split true = refl
    split false = tt

-- an operator on numbers, by the scales that its operands have
of_kinds : (g : Kind → Kind → Outcome Kind) (operation : Number → Number → Outcome Value)
    → ((a b : Number) → Fits IsOfKind (g (kind.Num a.scale) (kind.Num b.scale)) (operation a b))
    → ((x y : Kind) (t : List ℕ) → IsOfKind x (Chars t) → Fits IsOfKind (g x y) not_well_formed)
    → ((x y : Kind) (t : List ℕ) → IsOfKind y (Chars t) → Fits IsOfKind (g x y) not_well_formed)
    → (x y : Kind) (v w : Value) → IsOfKind x v → IsOfKind y w → Fits IsOfKind (g x y) (calculated operation v w)
of_kinds g operation f left right (kind.Num s) (kind.Num t) (Num a) (Num b) p q =
    subst (λ i. Fits IsOfKind (g (kind.Num i) (kind.Num t)) (operation a b)) p (subst (λ i. Fits IsOfKind (g (kind.Num a.scale) (kind.Num i)) (operation a b)) q (f a b))
of_kinds g operation f left right (kind.Num s) (kind.Chars n) (Num a) (Num b) p q = absurd q
of_kinds g operation f left right (kind.Num s) (kind.Vary n) (Num a) (Num b) p q = absurd q
of_kinds g operation f left right (kind.Chars n) y (Num a) (Num b) p q = absurd p
of_kinds g operation f left right (kind.Vary n) y (Num a) (Num b) p q = absurd p
of_kinds g operation f left right x y Null Null p q = null_fits (g x y)
of_kinds g operation f left right x y Null (Num b) p q = null_fits (g x y)
of_kinds g operation f left right x y (Num a) Null p q = null_fits (g x y)
of_kinds g operation f left right x y (Chars t) w p q = left x y t p
of_kinds g operation f left right x y Null (Chars t) p q = right x y t q
of_kinds g operation f left right x y (Num a) (Chars t) p q = right x y t q

no_text_left : (x y : Kind) (t : List ℕ) → IsOfKind x (Chars t) → Fits IsOfKind (sum_kind x y) not_well_formed
no_text_left (kind.Num s) y t h = absurd h
no_text_left (kind.Chars n) y t h = tt
no_text_left (kind.Vary n) y t h = tt

no_text_right : (x y : Kind) (t : List ℕ) → IsOfKind y (Chars t) → Fits IsOfKind (sum_kind x y) not_well_formed
no_text_right x (kind.Num s) t h = absurd h
no_text_right (kind.Num s) (kind.Chars n) t h = tt
no_text_right (kind.Num s) (kind.Vary n) t h = tt
no_text_right (kind.Chars n) y t h = tt
no_text_right (kind.Vary n) y t h = tt

pub sum_fits : (sign : Sign) (x y : Kind) (v w : Value) → IsOfKind x v → IsOfKind y w → Fits IsOfKind (sum_kind x y) (sum_of sign v w)
sum_fits Plus = of_kinds sum_kind (λ a b. number_outcome (number.added a b)) (λ a b. number_of_scale (max a.scale b.scale) (at_scale (max a.scale b.scale) a +ℤ at_scale (max a.scale b.scale) b)) no_text_left no_text_right
sum_fits Minus = of_kinds sum_kind (λ a b. number_outcome (number.subtracted a b)) (λ a b. number_of_scale (max a.scale b.scale) (at_scale (max a.scale b.scale) a -ℤ at_scale (max a.scale b.scale) b)) no_text_left no_text_right

no_text_times : (sign : TimesSign) (x y : Kind) (t : List ℕ) → IsOfKind x (Chars t) → Fits IsOfKind (product_kind sign x y) not_well_formed
no_text_times sign (kind.Num s) y t h = absurd h
no_text_times Times (kind.Chars n) y t h = tt
no_text_times Times (kind.Vary n) y t h = tt
no_text_times Over (kind.Chars n) y t h = tt
no_text_times Over (kind.Vary n) y t h = tt

times_no_text : (sign : TimesSign) (x y : Kind) (t : List ℕ) → IsOfKind y (Chars t) → Fits IsOfKind (product_kind sign x y) not_well_formed
times_no_text sign x (kind.Num s) t h = absurd h
times_no_text Times (kind.Num s) (kind.Chars n) t h = tt
times_no_text Times (kind.Num s) (kind.Vary n) t h = tt
times_no_text Times (kind.Chars n) y t h = tt
times_no_text Times (kind.Vary n) y t h = tt
times_no_text Over (kind.Num s) (kind.Chars n) t h = tt
times_no_text Over (kind.Num s) (kind.Vary n) t h = tt
times_no_text Over (kind.Chars n) y t h = tt
times_no_text Over (kind.Vary n) y t h = tt

-- a product has at most 18 places, or no kind
product_places : (a b : Number) → Fits IsOfKind (of_scale (a.scale + b.scale)) (with_places (a.scale + b.scale) (number_outcome (number.multiplied a b)))
product_places a b = split (nat_le (a.scale + b.scale) 18)
  where
    split : (few : Bool) → Fits IsOfKind (if few then Ok (kind.Num (a.scale + b.scale)) else not_well_formed) (if few then number_outcome (number.multiplied a b) else not_well_formed)
    split true = number_of_scale (a.scale + b.scale) (a.unscaled *ℤ b.unscaled)
    split false = tt

abbrev quotient_unscaled : Number → Number → ℤ
quotient_unscaled a b = int_div (a.unscaled *ℤ pos (10 ^ (max a.scale b.scale + b.scale - a.scale))) b.unscaled

quotient_of_scale : (a b : Number) → Answers (IsOfKind (kind.Num (max a.scale b.scale))) (number_outcome (number.divided a b))
quotient_of_scale a b = split (int_eq b.unscaled (pos 0))
  where
    split : (zero_divisor : Bool) → Answers (IsOfKind (kind.Num (max a.scale b.scale))) (number_outcome (if zero_divisor then Err fault.ZeroDivisor else in_range (max a.scale b.scale) (quotient_unscaled a b)))
    split true = tt
    split false = number_of_scale (max a.scale b.scale) (quotient_unscaled a b)

quotient_places : (a b : Number) → Fits IsOfKind (product_kind Over (kind.Num a.scale) (kind.Num b.scale)) (with_places (max a.scale b.scale + b.scale - a.scale) (number_outcome (number.divided a b)))
quotient_places a b = split (nat_le (max a.scale b.scale + b.scale - a.scale) 18)
  where
    split : (few : Bool) → Fits IsOfKind (and_then (if few then Ok (kind.Num (max a.scale b.scale + b.scale - a.scale)) else not_well_formed) (λ _. Ok (kind.Num (max a.scale b.scale)))) (if few then number_outcome (number.divided a b) else not_well_formed)
    split true = quotient_of_scale a b
    split false = tt

pub product_fits : (sign : TimesSign) (x y : Kind) (v w : Value) → IsOfKind x v → IsOfKind y w → Fits IsOfKind (product_kind sign x y) (product_of sign v w)
product_fits Times = of_kinds (product_kind Times) (λ a b. with_places (a.scale + b.scale) (number_outcome (number.multiplied a b))) product_places (no_text_times Times) (times_no_text Times)
product_fits Over = of_kinds (product_kind Over) (λ a b. with_places (max a.scale b.scale + b.scale - a.scale) (number_outcome (number.divided a b))) quotient_places (no_text_times Over) (times_no_text Over)

pub sign_fits : (sign : Sign) (x : Kind) (v : Value) → IsOfKind x v → Fits IsOfKind (signed_kind x) (with_sign sign v)
sign_fits sign x Null h = null_fits (signed_kind x)
sign_fits Plus (kind.Num s) (Num n) h = h
sign_fits Minus (kind.Num s) (Num n) h = h
sign_fits sign (kind.Chars k) (Num n) h = absurd h
sign_fits sign (kind.Vary k) (Num n) h = absurd h
sign_fits sign (kind.Num s) (Chars t) h = absurd h
sign_fits sign (kind.Chars k) (Chars t) h = tt
sign_fits sign (kind.Vary k) (Chars t) h = tt

-- ---- set functions

numbers_of_scale : (s : ℕ) (vs : List Value) → AllByRecursion (IsOfKind (kind.Num s)) vs → AllByRecursion (λ n. n.scale ≡ s) (numbers vs)
numbers_of_scale s [] h = tt
numbers_of_scale s (Null ∷ vs) h = numbers_of_scale s vs h.1
numbers_of_scale s (Num n ∷ vs) h = (h.0, numbers_of_scale s vs h.1)
numbers_of_scale s (Chars t ∷ vs) h = absurd h.0

scaled_so : (s t : ℕ) (r : Outcome Value) → s ≡ t → Answers (IsOfKind (kind.Num s)) r → Answers (IsOfKind (kind.Num t)) r
scaled_so s t r e h = subst (λ i. Answers (IsOfKind (kind.Num i)) r) e h

sum_of_scale : (s : ℕ) (ns : List Number) → AllByRecursion (λ n. n.scale ≡ s) ns → Answers (IsOfKind (kind.Num s)) (with_status arithmetic_status (numbers_sum ns))
sum_of_scale s [] h = tt
sum_of_scale s (n ∷ ns) h = scaled_so n.scale s (with_status arithmetic_status (numbers_sum (n ∷ ns))) h.0 (number_of_scale n.scale (total (n ∷ ns)))

mean_of_scale : (s : ℕ) (ns : List Number) → AllByRecursion (λ n. n.scale ≡ s) ns → Answers (IsOfKind (kind.Num s)) (with_status arithmetic_status (mean_of_numbers ns))
mean_of_scale s [] h = tt
mean_of_scale s (n ∷ ns) h = scaled_so n.scale s (with_status arithmetic_status (mean_of_numbers (n ∷ ns))) h.0 (number_of_scale n.scale (int_div (total (n ∷ ns)) (pos (length (n ∷ ns)))))

-- the values of a kind of numbers are of one scale
all_of_scale : (s : ℕ) (vs : List Value) → AllByRecursion (IsOfKind (kind.Num s)) vs → list_all (is_of_scale s) vs ≡ true
all_of_scale s [] h = refl
all_of_scale s (Null ∷ vs) h = all_of_scale s vs h.1
all_of_scale s (Num n ∷ vs) h = (λ i. eq-eqb n.scale s h.0 i && all_of_scale s vs h.1 i)
all_of_scale s (Chars t ∷ vs) h = absurd h.0

one_scale : (s : ℕ) (vs : List Value) → AllByRecursion (IsOfKind (kind.Num s)) vs → are_of_one_scale vs ≡ true
one_scale s [] h = refl
one_scale s (Null ∷ vs) h = one_scale s vs h.1
one_scale s (Num n ∷ vs) h = all_of_scale n.scale (Num n ∷ vs) (subst (λ i. AllByRecursion (IsOfKind (kind.Num i)) (Num n ∷ vs)) (sym h.0) h)
one_scale s (Chars t ∷ vs) h = absurd h.0

if_one_scale : (s : ℕ) (vs : List Value) (r : Outcome Value) → AllByRecursion (IsOfKind (kind.Num s)) vs → Answers (IsOfKind (kind.Num s)) r
    → Answers (IsOfKind (kind.Num s)) (if are_of_one_scale vs then r else not_well_formed)
if_one_scale s vs r h answers = subst (λ (b : Bool). Answers (IsOfKind (kind.Num s)) (if b then r else not_well_formed)) (sym (one_scale s vs h)) answers

found_of_kind : (c : Kind) (test : Value → Bool) (vs : List Value) → AllByRecursion (IsOfKind c) vs → IsOfKind c (unwrap_or (find test vs) Null)
found_of_kind c test [] h = tt
found_of_kind c test (v ∷ vs) h = split (test v) (found_of_kind c test vs h.1)
  where
    split : (b : Bool) → IsOfKind c (unwrap_or (find test vs) Null) → IsOfKind c (unwrap_or (if b then Some v else find test vs) Null)
    split true q = h.0
    split false q = q

extreme_of_kind : (c : Kind) (e : Extreme) (vs : List Value) → AllByRecursion (IsOfKind c) vs → IsOfKind c (extreme e vs)
extreme_of_kind c e vs h = found_of_kind c (is_unsurpassed e (without_nulls vs)) (without_nulls vs) (all_filtered (IsOfKind c) (λ v. not (is_null v)) vs h)

of_values : (function : SetFunction) (c : Kind) (vs : List Value) → AllByRecursion (IsOfKind c) vs → Fits IsOfKind (function_kind function c) (function_value function vs)
of_values Count c vs h = number_of_scale 0 (pos (length (without_nulls vs)))
of_values Sum (kind.Num s) vs h =
    if_one_scale s vs (with_status arithmetic_status (numbers_sum (numbers vs))) h (sum_of_scale s (numbers vs) (numbers_of_scale s vs h))
of_values Sum (kind.Chars n) vs h = tt
of_values Sum (kind.Vary n) vs h = tt
of_values Avg (kind.Num s) vs h =
    if_one_scale s vs (with_status arithmetic_status (mean_of_numbers (numbers vs))) h (mean_of_scale s (numbers vs) (numbers_of_scale s vs h))
of_values Avg (kind.Chars n) vs h = tt
of_values Avg (kind.Vary n) vs h = tt
of_values Min c vs h = extreme_of_kind c Least vs h
of_values Max c vs h = extreme_of_kind c Greatest vs h

pub function_fits : (function : SetFunction) (distinct : Bool) (c : Kind) (vs : List Value) → AllByRecursion (IsOfKind c) vs → Fits IsOfKind (function_kind function c) (function_value function (distinct_values distinct vs))
function_fits function distinct c vs h = of_values function c (distinct_values distinct vs) (all_firsts_if (IsOfKind c) is_same distinct vs h)

-- ---- texts

abbrev blanks : ℕ → List ℕ
blanks n = replicate n 32

-- USER has 18 characters
pub length_fixed : (n : ℕ) (t : List ℕ) → length (of_length n t) ≡ n
length_fixed n t =
    length-append (take n t) (blanks (n - length t)) ∙ ap (λ k. k + length (blanks (n - length t))) (length-take n t)
    ∙ ap (λ k. min n (length t) + k) (length-replicate (n - length t) 32) ∙ omega arith
