-- Each spelling of a number is read as one, and its literal has that number.
use Rattle.std.proofs.Common.{◌≡◌, ℕ, ◌+◌, ◌<◌, ◌≤◌, ◌&&◌, true, not, cond, List, [], ◌∷◌, ◌++◌, length, take, drop, refl, sym, ap, subst, ◌∙◌, arith, ◌⊎◌, inl, inr}
use Rattle.std.proofs.Math.Seq.{take-append_seam, drop-append-add}
use Rattle.std.proofs.lemmas.Bool.{and_parts, lt-ltb}
use Rattle.std.proofs.lemmas.Bool.Decides.{nat_tests}
use Rattle.std.proofs.lemmas.List.{length-append, append-nil}
use Rattle.std.proofs.lemmas.List.Folds.{list_all-append}
use Rattle.std.specs.Prelude.{nat_lt, nat_le, pos, Result, Ok, Err}
use Rattle.std.specs.Result.{IsOk}
use Rattle.std.specs.Str.Parse.{digits_value}
use Rattle.std.specs.List.{list_all, position_or_len, before_first, after_first}
use Rattle.std.specs.Char.{is_ascii_digit}
use Rattle.sq_lex.specs.Number.{IsNumberSpelling}
use Rattle.sq_value.specs.Characters.{point}
use Rattle.sq_value.specs.Number.{Number}
use Rattle.sq_value.specs.declared.fault.ReadFault.{ReadFault}
use Rattle.sq_value.specs.declared.fault.ReadFault.TheVariants.{NotANumber, Range}
use Rattle.sq_value.specs.Spelling.{is_point, are_digits, read_parts, read}

no_point : (c : ℕ) → is_ascii_digit c ≡ true → not (is_point c) ≡ true
no_point c h = grind (arith, nat_tests)

-- as many bytes as digits stand before the first point, or before the end
whole_size : (whole rest : List ℕ) → list_all is_ascii_digit whole ≡ true → position_or_len is_point rest ≡ 0 → position_or_len is_point (whole ++ rest) ≡ length whole
whole_size [] rest h e = e
whole_size (c ∷ cs) rest h e =
    let both = and_parts (is_ascii_digit c) (list_all is_ascii_digit cs) h in
    ap (λ b. cond b (1 + position_or_len is_point (cs ++ rest)) 0) (no_point c (both.0)) ∙ ap (λ n. 1 + n) (whole_size cs rest (both.1) e) ∙ omega arith

-- one digit or more and 18 at most are a number
few_digits : (whole fraction : List ℕ) → list_all is_ascii_digit whole ≡ true → list_all is_ascii_digit fraction ≡ true → 0 < length whole + length fraction → length whole + length fraction ≤ 18 → IsOk (read_parts whole fraction)
few_digits whole fraction w f some few =
    let each : list_all is_ascii_digit (whole ++ fraction) ≡ true = list_all-append is_ascii_digit whole fraction ∙ ap (λ b. b && list_all is_ascii_digit fraction) w ∙ f in
    let size = length-append whole fraction in
    let filled : nat_lt 0 (length (whole ++ fraction)) ≡ true = lt-ltb 0 (length (whole ++ fraction)) (omega (arith, size, some)) in
    let digits : are_digits (whole ++ fraction) ≡ true = ap (λ b. b && list_all is_ascii_digit (whole ++ fraction)) filled ∙ each in
    let fits : nat_le (length whole + length fraction) 18 ≡ true = grind (arith, nat_tests) in
    let value : Result Number ReadFault = Ok (record { unscaled = pos (digits_value 10 (whole ++ fraction)); scale = length fraction }) in
    subst IsOk (sym ((λ i. cond (digits i) (cond (fits i) value (Err Range)) (Err NotANumber)))) refl

spelling_is_read : (bytes whole fraction : List ℕ) → (bytes ≡ whole ++ point ∷ fraction) ⊎ ((bytes ≡ whole) × (fraction ≡ [])) → list_all is_ascii_digit whole ≡ true → IsOk (read_parts whole fraction) → IsOk (read bytes)
spelling_is_read bytes whole fraction (inl e) w ok =
    let size = whole_size whole (point ∷ fraction) w refl in
    let before : before_first is_point bytes ≡ whole = ap (before_first is_point) e ∙ ap (λ n. take n (whole ++ point ∷ fraction)) size ∙ take-append_seam whole (point ∷ fraction) in
    let after : after_first is_point bytes ≡ fraction = ap (after_first is_point) e ∙ ap (λ n. drop (n + 1) (whole ++ point ∷ fraction)) size ∙ drop-append-add whole (point ∷ fraction) 1 in
    subst IsOk (sym (λ i. read_parts (before i) (after i))) ok
spelling_is_read bytes whole fraction (inr e) w ok =
    let all : bytes ≡ whole ++ [] = e.0 ∙ sym (append-nil whole) in
    let size = whole_size whole [] w refl in
    let before : before_first is_point bytes ≡ whole = ap (before_first is_point) all ∙ ap (λ n. take n (whole ++ [])) size ∙ take-append_seam whole [] in
    let after : after_first is_point bytes ≡ fraction = ap (after_first is_point) all ∙ ap (λ n. drop (n + 1) (whole ++ [])) size ∙ drop-append-add whole [] 1 ∙ sym (e.1) in
    subst IsOk (sym (λ i. read_parts (before i) (after i))) ok

pub number_is_read : (bytes : List ℕ) → IsNumberSpelling bytes → IsOk (read bytes)
number_is_read bytes n = spelling_is_read bytes n.whole n.fraction n.spelled n.whole_digits (few_digits n.whole n.fraction n.whole_digits n.fraction_digits n.some n.few)
