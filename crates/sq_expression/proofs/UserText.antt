-- A name padded with blanks is a text.
use Rattle.std.proofs.Common.{◌≡◌, ℕ, ◌-◌, ◌≤◌, List, ◌++◌, length, drop, replicate, sym, ap, ◌∙◌, arith, subst}
use Rattle.std.proofs.lemmas.List.{take_all, drop-replicate, length-append, length-replicate}
use Rattle.std.proofs.lemmas.List.Elements.{All-append, All-replicate}
use Rattle.std.specs.List.{All}
use Rattle.sq_value.specs.Text.{IsCode, IsText, of_length}

-- what is put into blanks, and the blanks behind it
before_blanks : (name put spelled : List ℕ) → spelled ≡ name → put ≡ spelled → put ++ drop (length spelled) (replicate 18 32) ≡ name ++ replicate (18 - length name) 32
before_blanks name put spelled is copied =
    ap (λ (t : List ℕ). t ++ drop (length spelled) (replicate 18 32)) copied
    ∙ ap (λ (t : List ℕ). t ++ drop (length t) (replicate 18 32)) is
    ∙ ap (λ (t : List ℕ). name ++ t) (drop-replicate (length name) 18 32)

pub padded_is : (name put spelled : List ℕ) → spelled ≡ name → put ≡ spelled → length name ≤ 18 → put ++ drop (length spelled) (replicate 18 32) ≡ of_length 18 name
padded_is name put spelled is copied short =
    before_blanks name put spelled is copied ∙ ap (λ (t : List ℕ). t ++ replicate (18 - length name) 32) (sym (take_all 18 name short))

long_enough : (name : List ℕ) → length name ≤ 18 → length (name ++ replicate (18 - length name) 32) ≤ 240
long_enough name short =
    let fill : List ℕ = replicate (18 - length name) 32 in
    let many : length fill ≡ 18 - length name = length-replicate (18 - length name) 32 in
    omega (arith, length-append name fill, many, short)

prints : (name : List ℕ) → All IsCode name → All IsCode (name ++ replicate (18 - length name) 32)
prints name codes = All-append IsCode name (replicate (18 - length name) 32) codes (All-replicate IsCode (18 - length name) 32 (omega arith, omega arith))

pub padded_is_text : (name put spelled : List ℕ) → spelled ≡ name → put ≡ spelled → length name ≤ 18 → All IsCode name → IsText (put ++ drop (length spelled) (replicate 18 32))
padded_is_text name put spelled is copied short codes = subst IsText (sym (before_blanks name put spelled is copied)) (long_enough name short, prints name codes)
