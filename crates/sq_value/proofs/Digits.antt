-- The number that digits write, digit by digit.
use Rattle.std.proofs.Common.{◌≡◌, ℕ, ◌+◌, ◌*◌, ◌^◌, ◌-◌, ◌≤◌, ◌<◌, List, [], ◌∷◌, ◌++◌, length, take, get_or, refl, true, zero, suc, sub-one, pos, Ok, ◌&&◌, length-append, append_assoc, ◌/◌, ◌%◌, sym, ap, ◌∙◌, arith, add-one}
use Rattle.std.proofs.lemmas.List.{take_more}
use Rattle.std.proofs.lemmas.List.Folds.{list_all_at, list_all-append}
use Rattle.std.proofs.lemmas.Bool.{true_from_ne_false}
use Rattle.std.proofs.lemmas.Bool.Decides.{nat_tests}
use Rattle.std.proofs.lemmas.Nat.{pow-add}
use Rattle.std.proofs.Math.Nat.{pow-suc, pow-le-pow_right, mul-le-mul_left, mul-le-mul_right, mul_assoc}
use Rattle.std.specs.List.{list_all}
use Rattle.std.specs.Char.{is_ascii_digit, digit_value}
use Rattle.std.specs.Str.Parse.{digits_value_after}
use Rattle.sq_value.specs.Number.{Number}
use Rattle.sq_value.specs.Spelling.{read_parts, last_digits}

pub digits_after_append : (n : ℕ) (xs ys : List ℕ) → digits_value_after 10 n (xs ++ ys) ≡ digits_value_after 10 (digits_value_after 10 n xs) ys
digits_after_append n [] ys = refl
digits_after_append n (x ∷ xs) ys = digits_after_append (n * 10 + digit_value x) xs ys

pub digits_after_more : (n : ℕ) (bs : List ℕ) (i : ℕ) → i < length bs → digits_value_after 10 n (take (i + 1) bs) ≡ digits_value_after 10 n (take i bs) * 10 + digit_value (get_or bs i 0)
digits_after_more n bs i h = ap (digits_value_after 10 n) (take_more bs i 0 h) ∙ digits_after_append n (take i bs) (get_or bs i 0 ∷ [])

raised_once : (s i : ℕ) → (s + 1) * 10 ^ (i + 1) ≡ (s + 1) * 10 ^ i * 10
raised_once s i = ap (λ e. (s + 1) * e) (ap (λ e. 10 ^ e) (add-one i) ∙ pow-suc 10 i) ∙ sym (mul_assoc (s + 1) (10 ^ i) 10)

-- one digit more leaves the number below the next power
pub room_after_digit : (n s i d : ℕ) → d < 10 → n + 1 ≤ (s + 1) * 10 ^ i → n * 10 + d + 1 ≤ (s + 1) * 10 ^ (i + 1)
room_after_digit n s i d e h = omega (arith, raised_once s i)

pub room_within : (s i k : ℕ) → i ≤ k → (s + 1) * 10 ^ i ≤ (s + 1) * 10 ^ k
room_within s i k h = mul-le-mul_left (s + 1) (pow-le-pow_right {n = 10} (omega arith) h)

digit_at : (ds : List ℕ) (i : ℕ) → list_all is_ascii_digit ds ≡ true → i < length ds → is_ascii_digit (get_or ds i 0) ≡ true
digit_at ds i all h = true_from_ne_false (is_ascii_digit (get_or ds i 0)) (λ no. let none = list_all_at is_ascii_digit ds i 0 h no in cc)

digit_is : (c : ℕ) → is_ascii_digit c ≡ true → (digit_value c ≡ c - 48) × (c - 48 < 10)
digit_is c h = grind (arith, nat_tests)

-- a loop over digits: the number so far and its bound
pub one_digit_more : (s : ℕ) (ds : List ℕ) (i n : ℕ) → list_all is_ascii_digit ds ≡ true → i < length ds → n ≡ digits_value_after 10 s (take i ds)
    → n + 1 ≤ (s + 1) * 10 ^ i
    → (n * 10 + (get_or ds i 0 - 48) ≡ digits_value_after 10 s (take (i + 1) ds)) × (n * 10 + (get_or ds i 0 - 48) + 1 ≤ (s + 1) * 10 ^ (i + 1))
one_digit_more s ds i n all h value bound =
    let d = digit_is (get_or ds i 0) (digit_at ds i all h) in
    (ap (λ v. n * 10 + v) (sym (d.0)) ∙ ap (λ v. v * 10 + digit_value (get_or ds i 0)) value ∙ sym (digits_after_more s ds i h), room_after_digit n s i (get_or ds i 0 - 48) (d.1) bound)

pub room_for_fraction : (n w f : ℕ) → w + f ≤ 18 → n + 1 ≤ 1 * 10 ^ w → (n + 1) * 10 ^ f ≤ 10 ^ 18
room_for_fraction n w f h e =
    let fewer : (n + 1) * 10 ^ f ≤ 10 ^ w * 10 ^ f = mul-le-mul_right (10 ^ f) (omega arith) in
    let most : 10 ^ (w + f) ≤ 10 ^ 18 = pow-le-pow_right {n = 10} (omega arith) h in
    omega (arith, pow-add 10 w f)

pub ruleset digit_steps = (room_within)

-- what digits before and after a point spell
pub parts_are : (w f : List ℕ) (n : Number) → 0 < length w + length f → length w + length f ≤ 18 → list_all is_ascii_digit w ≡ true → list_all is_ascii_digit f ≡ true
    → n.unscaled ≡ pos (digits_value_after 10 (digits_value_after 10 0 w) f) → n.scale ≡ length f → Ok n ≡ read_parts w f
parts_are w f n some few dw df u sc =
    let all : list_all is_ascii_digit (w ++ f) ≡ true = list_all-append is_ascii_digit w f ∙ ap (λ b. b && list_all is_ascii_digit f) dw ∙ df in
    let value = digits_after_append 0 w f in
    let long : 0 < length (w ++ f) = omega (arith, length-append w f) in
    grind (arith, nat_tests)

last_digits_more : (k n : ℕ) → 0 < k → last_digits k n ≡ last_digits (k - 1) (n / 10) ++ (48 + n % 10) ∷ []
last_digits_more zero n h = absurd (omega arith)
last_digits_more (suc k) n h = ap (λ j. last_digits j (n / 10) ++ (48 + n % 10) ∷ []) (sym (sub-one (suc k)))

-- one digit pushed after the digits before it
pub digits_pushed : (start most all : List ℕ) (k n : ℕ) → 0 < k → most ≡ start ++ last_digits (k - 1) (n / 10) → all ≡ most ++ (48 + n % 10) ∷ [] → all ≡ start ++ last_digits k n
digits_pushed start most all k n h before pushed =
    pushed ∙ ap (λ xs. xs ++ (48 + n % 10) ∷ []) before ∙ append_assoc start (last_digits (k - 1) (n / 10)) ((48 + n % 10) ∷ []) ∙ ap (λ xs. start ++ xs) (sym (last_digits_more k n h))
