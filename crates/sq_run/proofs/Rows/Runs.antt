-- Runs of characters: how long a spelling can be.
use Rattle.std.proofs.Common.{◌≡◌, ℕ, zero, suc, ◌+◌, ◌-◌, ◌<◌, ◌≤◌, ◌==◌, ◌&&◌, ◌||◌, Bool, true, false, cond, List, [], ◌∷◌, ◌++◌, length, take, drop, refl, sym, ap, ◌∙◌, arith, inl, inr, ◌⊎◌, append-nil}
use Rattle.std.proofs.Math.Seq.{take-add}
use Rattle.std.proofs.lemmas.Bool.{and_parts, eqb-true}
use Rattle.std.proofs.lemmas.List.Folds.{length-prefix_len}
use Rattle.std.specs.Prelude.{slice_index}
use Rattle.std.specs.List.{list_all, prefix_len}
use Rattle.std.specs.Char.{is_ascii_digit}
use Rattle.sq_lex.specs.Characters.{point, has}
use Rattle.sq_lex.specs.Piece.{begins_number, digits, fraction_size}
use Rattle.sq_lex.specs.declared.characters.Class.TheVariants as class
use Rattle.sq_run.specs.TextRow.{IsNumeral}

abbrev pub head : List ℕ → ℕ
head bytes = slice_index bytes 0

run_of : (p : ℕ → Bool) (x : ℕ) (xs : List ℕ) → p x ≡ true → prefix_len p (x ∷ xs) ≡ suc (prefix_len p xs)
run_of p x xs h = let more : 1 + prefix_len p xs ≡ suc (prefix_len p xs) = omega arith in ap (λ b. cond b (1 + prefix_len p xs) 0) h ∙ more

pub no_run : (p : ℕ → Bool) (x : ℕ) (xs : List ℕ) → p x ≡ false → prefix_len p (x ∷ xs) ≡ 0
no_run p x xs h = ap (λ b. cond b (1 + prefix_len p xs) 0) h

pub run_passes : (p : ℕ → Bool) (xs : List ℕ) → list_all p (take (prefix_len p xs) xs) ≡ true
run_passes p [] = refl
run_passes p (x ∷ xs) = by (p x) refl (run_passes p xs)
  where
    by : (b : Bool) → p x ≡ b → list_all p (take (prefix_len p xs) xs) ≡ true → list_all p (take (prefix_len p (x ∷ xs)) (x ∷ xs)) ≡ true
    by true h rest = ap (λ k. list_all p (take k (x ∷ xs))) (run_of p x xs h) ∙ ap (λ b. b && list_all p (take (prefix_len p xs) xs)) h ∙ rest
    by false h rest = ap (λ k. list_all p (take k (x ∷ xs))) (no_run p x xs h)

-- a prefix that passes is no longer than the run
pub run_longest : (p : ℕ → Bool) (xs : List ℕ) (n : ℕ) → n ≤ length xs → list_all p (take n xs) ≡ true → n ≤ prefix_len p xs
run_longest p xs zero h each = omega arith
run_longest p [] (suc n) h each = absurd (omega arith)
run_longest p (x ∷ xs) (suc n) h each =
    let both = and_parts (p x) (list_all p (take n xs)) each in
    omega (arith, run_of p x xs both.0, run_longest p xs n (omega arith) both.1)

pub begun : (p : ℕ → Bool) (xs : List ℕ) → p 0 ≡ false → p (head xs) ≡ true → 0 < prefix_len p xs
begun p [] zero_fails h = absurd (true_false (sym h ∙ zero_fails))
  where
    true_false : true ≡ false → ⊥
    true_false e = cc
begun p (x ∷ xs) zero_fails h = omega (arith, run_of p x xs h)

pub head_kept : (xs : List ℕ) (n : ℕ) → 0 < n → head (take n xs) ≡ head xs
head_kept xs zero h = absurd (omega arith)
head_kept [] (suc n) h = refl
head_kept (x ∷ xs) (suc n) h = refl

pub second_kept : (bytes : List ℕ) (n : ℕ) → 2 ≤ n → slice_index (take n bytes) 1 ≡ slice_index bytes 1
second_kept bytes zero h = absurd (omega arith)
second_kept bytes (suc zero) h = absurd (omega arith)
second_kept [] (suc (suc n)) h = refl
second_kept (a ∷ []) (suc (suc n)) h = refl
second_kept (a ∷ b ∷ bytes) (suc (suc n)) h = refl

-- ---- numbers

abbrev pub number_size : List ℕ → ℕ
number_size bytes = digits bytes + fraction_size (drop (digits bytes) bytes)

-- a prefix that is digits, a point and digits is no longer than the number that is read
pub number_longest : (w xs : List ℕ) (n : ℕ) (f : List ℕ) → n ≤ length xs → take n xs ≡ w ++ point ∷ f → list_all (has class.Digit) w ≡ true → list_all (has class.Digit) f ≡ true → n ≤ number_size xs
number_longest w xs zero f h e dw df = omega arith
number_longest w [] (suc n) f h e dw df = absurd (omega arith)
number_longest [] (x ∷ xs) (suc n) f h e dw df =
    let is : x ≡ point = ap (λ t. slice_index t 0) e in
    let rest : take n xs ≡ f = ap (drop 1) e in
    let none : digits (x ∷ xs) ≡ 0 = no_run (has class.Digit) x xs (ap (has class.Digit) is) in
    let shape : number_size (x ∷ xs) ≡ 0 + (1 + digits xs) = (λ i. none i + fraction_size (drop (none i) (x ∷ xs))) ∙ ap (λ c. 0 + cond (c == point) (1 + digits xs) 0) is in
    let run : n ≤ digits xs = run_longest (has class.Digit) xs n (omega arith) (ap (list_all (has class.Digit)) rest ∙ df) in
    omega (arith, shape, run)
number_longest (d ∷ w) (x ∷ xs) (suc n) f h e dw df =
    let both = and_parts (has class.Digit d) (list_all (has class.Digit) w) dw in
    let is : x ≡ d = ap (λ t. slice_index t 0) e in
    let rest : take n xs ≡ w ++ point ∷ f = ap (drop 1) e in
    let some : digits (x ∷ xs) ≡ suc (digits xs) = run_of (has class.Digit) x xs (ap (has class.Digit) is ∙ both.0) in
    let shape : number_size (x ∷ xs) ≡ suc (digits xs) + fraction_size (drop (digits xs) xs) = (λ i. some i + fraction_size (drop (some i) (x ∷ xs))) in
    omega (arith, shape, number_longest w xs n f (omega arith) rest both.1 df)

pub numeral_within : (bytes : List ℕ) (n : ℕ) → n ≤ length bytes → IsNumeral (take n bytes) → n ≤ number_size bytes
numeral_within bytes n h s = by s.spelled
  where
    by : (take n bytes ≡ s.whole ++ point ∷ s.fraction) ⊎ ((take n bytes ≡ s.whole) × (s.fraction ≡ [])) → n ≤ number_size bytes
    by (inl e) = number_longest s.whole bytes n s.fraction h e s.whole_digits s.fraction_digits
    by (inr e) = omega (arith, run_longest (has class.Digit) bytes n h (ap (list_all (has class.Digit)) e.0 ∙ s.whole_digits))

-- a number begins with a digit, or a point before a digit
pub numeral_begins : (xs w f : List ℕ) → (xs ≡ w ++ point ∷ f) ⊎ ((xs ≡ w) × (f ≡ [])) → list_all (has class.Digit) w ≡ true → list_all (has class.Digit) f ≡ true → 0 < length w + length f → begins_number xs ≡ true
numeral_begins xs [] [] s dw df some = absurd (omega arith)
numeral_begins xs [] (d ∷ f) (inl e) dw df some = ap begins_number e ∙ (and_parts (has class.Digit d) (list_all (has class.Digit) f) df).0
numeral_begins xs [] (d ∷ f) (inr e) dw df some = absurd (omega (arith, ap length e.1))
numeral_begins xs (d ∷ w) f (inl e) dw df some =
    ap begins_number e ∙ ap (λ b. b || (d == point && is_ascii_digit (slice_index (w ++ point ∷ f) 0))) (and_parts (has class.Digit d) (list_all (has class.Digit) w) dw).0
numeral_begins xs (d ∷ w) f (inr e) dw df some =
    ap begins_number e.0 ∙ ap (λ b. b || (d == point && is_ascii_digit (slice_index w 0))) (and_parts (has class.Digit d) (list_all (has class.Digit) w) dw).0

-- how many digits a number has that is read
abbrev pub places : List ℕ → ℕ
places bytes = digits bytes + (fraction_size (drop (digits bytes) bytes) - 1)

some_places : (b : ℕ) (bytes : List ℕ) (t : Bool) → is_ascii_digit b ≡ t → begins_number (b ∷ bytes) ≡ true → 0 < places (b ∷ bytes)
some_places b bytes true e h = omega (arith, begun (has class.Digit) (b ∷ bytes) refl e)
some_places b bytes false e h =
    let both = and_parts (b == point) (is_ascii_digit (slice_index bytes 0)) (ap (λ t. t || (b == point && is_ascii_digit (slice_index bytes 0))) (sym e) ∙ h) in
    let none = no_run (has class.Digit) b bytes e in
    let shape : fraction_size (drop (digits (b ∷ bytes)) (b ∷ bytes)) ≡ 1 + digits bytes = ap (λ k. fraction_size (drop k (b ∷ bytes))) none ∙ ap (λ t. cond t (1 + digits bytes) 0) both.0 in
    omega (arith, shape, begun (has class.Digit) bytes refl both.1)

pub number_some : (bytes : List ℕ) → begins_number bytes ≡ true → 0 < places bytes
number_some [] h = cc
number_some (b ∷ bytes) h = some_places b bytes (is_ascii_digit b) refl h

pub from_head : (xs : List ℕ) → (head xs == point) ≡ true → xs ≡ point ∷ drop 1 xs
from_head [] h = cc
from_head (x ∷ xs) h = ap (λ c. c ∷ xs) (eqb-true x point h)

-- what is read as a number is spelled as one, with so many digits
pub record NumberRead (bytes : List ℕ) : Type 0 where
  pub numeral : IsNumeral (take (number_size bytes) bytes)
  pub count : length numeral.whole + length numeral.fraction ≡ places bytes

pub number_read : (bytes : List ℕ) → begins_number bytes ≡ true → NumberRead bytes
number_read bytes h = by (head rest == point) refl
  where
    rest : List ℕ
    rest = drop (digits bytes) bytes

    by : (t : Bool) → (head (drop (digits bytes) bytes) == point) ≡ t → NumberRead bytes
    by true e =
        let behind : List ℕ = drop 1 (drop (digits bytes) bytes) in
        let one : 1 + digits behind ≡ suc (digits behind) = omega arith in
        let size : fraction_size (drop (digits bytes) bytes) ≡ suc (digits behind) = ap (λ b. cond b (1 + digits behind) 0) e ∙ one in
        let tail : take (fraction_size (drop (digits bytes) bytes)) (drop (digits bytes) bytes) ≡ point ∷ take (digits behind) behind = (λ i. take (size i) (from_head (drop (digits bytes) bytes) e i)) in
        let w : length (take (digits bytes) bytes) ≡ digits bytes = length-prefix_len (has class.Digit) bytes in
        let f : length (take (digits behind) behind) ≡ digits behind = length-prefix_len (has class.Digit) behind in
        record {
          numeral = record {
            whole = take (digits bytes) bytes;
            fraction = take (digits behind) behind;
            spelled = inl (take-add (digits bytes) (fraction_size (drop (digits bytes) bytes)) bytes ∙ ap (λ t. take (digits bytes) bytes ++ t) tail);
            whole_digits = run_passes (has class.Digit) bytes;
            fraction_digits = run_passes (has class.Digit) behind;
            some = omega (arith, w, f, size, number_some bytes h);
          };
          count = omega (arith, w, f, size);
        }
    by false e =
        let size : fraction_size (drop (digits bytes) bytes) ≡ 0 = ap (λ b. cond b (1 + digits (drop 1 (drop (digits bytes) bytes))) 0) e in
        let w : length (take (digits bytes) bytes) ≡ digits bytes = length-prefix_len (has class.Digit) bytes in
        record {
          numeral = record {
            whole = take (digits bytes) bytes;
            fraction = [];
            spelled = inr (take-add (digits bytes) (fraction_size (drop (digits bytes) bytes)) bytes ∙ ap (λ k. take (digits bytes) bytes ++ take k (drop (digits bytes) bytes)) size ∙ append-nil (take (digits bytes) bytes), refl);
            whole_digits = run_passes (has class.Digit) bytes;
            fraction_digits = refl;
            some = omega (arith, w, size, number_some bytes h);
          };
          count = omega (arith, w, size);
        }
