-- Runs of characters, and the heads of spellings.
use Rattle.std.proofs.Common.{◌≡◌, ℕ, zero, suc, ◌+◌, ◌<◌, ◌≤◌, ◌==◌, ◌&&◌, ◌||◌, Bool, true, false, cond, List, [], ◌∷◌, ◌++◌, length, take, drop, refl, ap, ◌∙◌, arith, inl, inr, ◌⊎◌}
use Rattle.std.proofs.lemmas.Bool.{and_parts}
use Rattle.std.proofs.lemmas.Bool.Decides.{nat_tests}
use Rattle.std.specs.Prelude.{slice_index}
use Rattle.std.specs.List.{list_all, prefix_len}
use Rattle.std.specs.Char.{is_ascii_digit, is_ascii_alphabetic}
use Rattle.sq_lex.specs.Characters.{point, has}
use Rattle.sq_lex.specs.Piece.{digits, fraction_size}
use Rattle.sq_lex.specs.Spelling.{symbol_codes}
use Rattle.sq_lex.specs.declared.characters.Class.TheVariants as class
use Rattle.sq_lex.specs.declared.symbol.Symbol.{Symbol}
use Rattle.sq_lex.specs.declared.symbol.Symbol.TheVariants as symbol

run_of : (p : ℕ → Bool) (x : ℕ) (xs : List ℕ) → p x ≡ true → prefix_len p (x ∷ xs) ≡ suc (prefix_len p xs)
run_of p x xs h = let more : 1 + prefix_len p xs ≡ suc (prefix_len p xs) = omega arith in ap (λ b. cond b (1 + prefix_len p xs) 0) h ∙ more

no_run : (p : ℕ → Bool) (x : ℕ) (xs : List ℕ) → p x ≡ false → prefix_len p (x ∷ xs) ≡ 0
no_run p x xs h = ap (λ b. cond b (1 + prefix_len p xs) 0) h

passes_on : (p : ℕ → Bool) (x : ℕ) (xs : List ℕ) → list_all p (take (prefix_len p xs) xs) ≡ true → (b : Bool) → p x ≡ b → list_all p (take (prefix_len p (x ∷ xs)) (x ∷ xs)) ≡ true
passes_on p x xs rest true h = ap (λ k. list_all p (take k (x ∷ xs))) (run_of p x xs h) ∙ ap (λ b. b && list_all p (take (prefix_len p xs) xs)) h ∙ rest
passes_on p x xs rest false h = ap (λ k. list_all p (take k (x ∷ xs))) (no_run p x xs h)

pub run_passes : (p : ℕ → Bool) (xs : List ℕ) → list_all p (take (prefix_len p xs) xs) ≡ true
run_passes p [] = refl
run_passes p (x ∷ xs) = passes_on p x xs (run_passes p xs) (p x) refl

-- a prefix that passes is no longer than the run
pub run_longest : (p : ℕ → Bool) (xs : List ℕ) (n : ℕ) → n ≤ length xs → list_all p (take n xs) ≡ true → n ≤ prefix_len p xs
run_longest p xs zero h all = omega arith
run_longest p [] (suc n) h all = absurd (omega arith)
run_longest p (x ∷ xs) (suc n) h all =
    let both = and_parts (p x) (list_all p (take n xs)) all in
    let here = run_of p x xs (both.0) in
    let rest = run_longest p xs n (omega arith) (both.1) in
    omega (arith, here, rest)

pub begun : (p : ℕ → Bool) (xs : List ℕ) → 0 < length xs → p (slice_index xs 0) ≡ true → 0 < prefix_len p xs
begun p [] some h = absurd (omega arith)
begun p (x ∷ xs) some h = let here = run_of p x xs h in omega (arith, here)

pub head_kept : (xs : List ℕ) (n : ℕ) → 0 < n → slice_index (take n xs) 0 ≡ slice_index xs 0
head_kept xs zero h = absurd (omega arith)
head_kept [] (suc n) h = refl
head_kept (x ∷ xs) (suc n) h = refl

-- ---- numbers

-- a prefix that is digits, a point and digits is no longer than the number that is read
pub number_longest : (w xs : List ℕ) (n : ℕ) (f : List ℕ) → n ≤ length xs → take n xs ≡ w ++ point ∷ f → list_all (has class.Digit) w ≡ true → list_all (has class.Digit) f ≡ true
    → n ≤ digits xs + fraction_size (drop (digits xs) xs)
number_longest w xs zero f h e dw df = omega arith
number_longest w [] (suc n) f h e dw df = absurd (omega arith)
number_longest [] (x ∷ xs) (suc n) f h e dw df =
    let is : x ≡ point = ap (λ t. slice_index t 0) e in
    let rest : take n xs ≡ f = ap (drop 1) e in
    let none : digits (x ∷ xs) ≡ 0 = no_run (has class.Digit) x xs (ap (has class.Digit) is) in
    let shape : digits (x ∷ xs) + fraction_size (drop (digits (x ∷ xs)) (x ∷ xs)) ≡ 0 + (1 + digits xs) = (λ i. none i + fraction_size (drop (none i) (x ∷ xs))) ∙ ap (λ c. 0 + cond (c == point) (1 + digits xs) 0) is in
    let run : n ≤ digits xs = run_longest (has class.Digit) xs n (omega arith) (ap (list_all (has class.Digit)) rest ∙ df) in
    omega (arith, shape, run)
number_longest (d ∷ w) (x ∷ xs) (suc n) f h e dw df =
    let both = and_parts (has class.Digit d) (list_all (has class.Digit) w) dw in
    let is : x ≡ d = ap (λ t. slice_index t 0) e in
    let rest : take n xs ≡ w ++ point ∷ f = ap (drop 1) e in
    let some : digits (x ∷ xs) ≡ suc (digits xs) = run_of (has class.Digit) x xs (ap (has class.Digit) is ∙ both.0) in
    let shape : digits (x ∷ xs) + fraction_size (drop (digits (x ∷ xs)) (x ∷ xs)) ≡ suc (digits xs) + fraction_size (drop (digits xs) xs) = (λ i. some i + fraction_size (drop (some i) (x ∷ xs))) in
    let later = number_longest w xs n f (omega arith) rest (both.1) df in
    omega (arith, shape, later)

-- ---- heads of spellings

pub number_head_of : (bytes w f : List ℕ) → (bytes ≡ w ++ point ∷ f) ⊎ ((bytes ≡ w) × (f ≡ [])) → list_all (has class.Digit) w ≡ true → 0 < length w + length f
    → (is_ascii_digit (slice_index bytes 0) || slice_index bytes 0 == point) ≡ true
number_head_of bytes [] f (inl e) dw some = ap (λ t. is_ascii_digit (slice_index t 0) || slice_index t 0 == point) e
number_head_of bytes [] f (inr e) dw some = let none = ap length (e.1) in absurd (omega (arith, none))
number_head_of bytes (d ∷ w) f (inl e) dw some =
    let both = and_parts (has class.Digit d) (list_all (has class.Digit) w) dw in
    ap (λ t. is_ascii_digit (slice_index t 0) || slice_index t 0 == point) e ∙ ap (λ b. b || d == point) (both.0)
number_head_of bytes (d ∷ w) f (inr e) dw some =
    let both = and_parts (has class.Digit d) (list_all (has class.Digit) w) dw in
    ap (λ t. is_ascii_digit (slice_index t 0) || slice_index t 0 == point) (e.0) ∙ ap (λ b. b || d == point) (both.0)

pub letter_alone : (c : ℕ) → is_ascii_alphabetic c ≡ true → (is_ascii_digit c || c == point) ≡ true → ⊥
letter_alone c l n = grind (arith, nat_tests)

-- a symbol of two characters begins with `<` or `>`
pub two_begin : (s : Symbol) → 2 ≤ length (symbol_codes s) → (slice_index (symbol_codes s) 0 ≡ 60) ⊎ (slice_index (symbol_codes s) 0 ≡ 62)
two_begin symbol.Open h = absurd (omega arith)
two_begin symbol.Close h = absurd (omega arith)
two_begin symbol.Comma h = absurd (omega arith)
two_begin symbol.Semicolon h = absurd (omega arith)
two_begin symbol.Dot h = absurd (omega arith)
two_begin symbol.Colon h = absurd (omega arith)
two_begin symbol.Star h = absurd (omega arith)
two_begin symbol.Plus h = absurd (omega arith)
two_begin symbol.Minus h = absurd (omega arith)
two_begin symbol.Slash h = absurd (omega arith)
two_begin symbol.Equal h = absurd (omega arith)
two_begin symbol.NotEqual h = inl refl
two_begin symbol.Less h = absurd (omega arith)
two_begin symbol.Greater h = absurd (omega arith)
two_begin symbol.LessOrEqual h = inl refl
two_begin symbol.GreaterOrEqual h = inr refl
