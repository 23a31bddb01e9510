-- The codes of a name and of a number are spellings, as the lexer gives them; the codes of a name print.
use Rattle.std.proofs.Common.{◌≡◌, ℕ, ◌+◌, ◌-◌, ◌≤◌, ◌&&◌, true, List, [], ◌∷◌, ◌++◌, length, map, take, drop, replicate, refl, sym, ap, ◌∙◌, arith, subst, ◌⊎◌, inl, inr}
use Rattle.std.proofs.Math.Seq.{take-append_seam}
use Rattle.std.proofs.lemmas.Bool.{and_parts}
use Rattle.std.proofs.lemmas.Bool.Decides.{nat_tests}
use Rattle.std.proofs.lemmas.List.{length-append, length-drop, length-map, length-replicate, drop-replicate}
use Rattle.std.proofs.lemmas.List.Sums.{AllPass-from_list_all}
use Rattle.std.specs.Prelude.{slice_index}
use Rattle.std.specs.List.{All, list_all}
use Rattle.std.specs.Char.{is_ascii_alphabetic, to_ascii_uppercase}
use Rattle.sq_lex.specs.Characters.{IsPrintable, has, point}
use Rattle.sq_lex.specs.Name.{IsWordSpelling}
use Rattle.sq_lex.specs.Name as name
use Rattle.sq_lex.specs.Number.{IsNumberSpelling}
use Rattle.sq_lex.specs.Number as number
use Rattle.sq_lex.specs.declared.characters.Class.TheVariants as class

letter_folded : (c : ℕ) → is_ascii_alphabetic c ≡ true → is_ascii_alphabetic (to_ascii_uppercase c) ≡ true
letter_folded c h = grind (arith, nat_tests)

character_folded : (c : ℕ) → has class.Word c ≡ true → has class.Word (to_ascii_uppercase c) ≡ true
character_folded c h = grind (arith, nat_tests)

character_prints : (c : ℕ) → has class.Word c ≡ true → IsPrintable c
character_prints c h = (grind (arith, nat_tests), grind (arith, nat_tests))

head_folded : (codes : List ℕ) → is_ascii_alphabetic (slice_index codes 0) ≡ true → is_ascii_alphabetic (slice_index (map to_ascii_uppercase codes) 0) ≡ true
head_folded [] h = h
head_folded (c ∷ codes) h = letter_folded c h

each_folded : (codes : List ℕ) → list_all (has class.Word) codes ≡ true → list_all (has class.Word) (map to_ascii_uppercase codes) ≡ true
each_folded [] h = refl
each_folded (c ∷ codes) h =
    let both = and_parts (has class.Word c) (list_all (has class.Word) codes) h in
    ap (λ b. b && list_all (has class.Word) (map to_ascii_uppercase codes)) (character_folded c (both.0)) ∙ each_folded codes (both.1)

-- a word that is folded to upper case is spelled as a word
pub word_folded : (codes : List ℕ) → IsWordSpelling codes → IsWordSpelling (map to_ascii_uppercase codes)
word_folded codes w = record {
  letter = head_folded codes w.letter;
  each = each_folded codes w.each;
  short = omega (arith, length-map codes to_ascii_uppercase, w.short);
}

-- the characters of a word print
pub word_prints : (codes : List ℕ) → IsWordSpelling codes → All IsPrintable codes
word_prints codes w k d within = character_prints _ (AllPass-from_list_all (has class.Word) codes w.each k d within)

-- codes at the front of a list of so many zeros
abbrev in_place : ℕ → List ℕ → List ℕ
in_place most codes = codes ++ drop (length codes) (replicate most 0)

long_in_place : (most : ℕ) (codes : List ℕ) → length codes ≤ most → length (in_place most codes) ≡ most
long_in_place most codes short =
    let zeros : List ℕ = replicate most 0 in
    let many : length zeros ≡ most = length-replicate most 0 in
    omega (arith, length-append codes (drop (length codes) zeros), length-drop (length codes) zeros, many)

taken_in_place : (most : ℕ) (codes : List ℕ) → take (length codes) (in_place most codes) ≡ codes
taken_in_place most codes = take-append_seam codes (drop (length codes) (replicate most 0))

zeros_in_place : (most : ℕ) (codes : List ℕ) → in_place most codes ≡ take (length codes) (in_place most codes) ++ replicate (most - length (take (length codes) (in_place most codes))) 0
zeros_in_place most codes =
    ap (λ t. codes ++ t) (drop-replicate (length codes) most 0) ∙ sym (ap (λ t. t ++ replicate (most - length t) 0) (taken_in_place most codes))

-- a spelling at the front of zeros is a name
pub name_in_place : (codes put : List ℕ) → put ≡ codes → IsWordSpelling codes → name.IsPadded (record { codes = put ++ drop (length codes) (replicate 18 0); len = length codes })
name_in_place codes put e w = subst (λ t. name.IsPadded (record { codes = t ++ drop (length codes) (replicate 18 0); len = length codes })) (sym e) (record {
  long = long_in_place 18 codes w.short;
  short = w.short;
  zeros = zeros_in_place 18 codes;
  spelled = subst IsWordSpelling (sym (taken_in_place 18 codes)) w;
})

number_short_by : (bytes whole fraction : List ℕ) → (bytes ≡ whole ++ point ∷ fraction) ⊎ ((bytes ≡ whole) × (fraction ≡ [])) → length whole + length fraction ≤ 18 → length bytes ≤ 19
number_short_by bytes whole fraction (inl e) few = omega (arith, ap length e, length-append whole (point ∷ fraction), few)
number_short_by bytes whole fraction (inr e) few = omega (arith, ap length (e.0), few)

-- the digits and the point
pub number_short : (bytes : List ℕ) → IsNumberSpelling bytes → length bytes ≤ 19
number_short bytes n = number_short_by bytes n.whole n.fraction n.spelled n.few

-- a spelling at the front of zeros is a number
pub number_in_place : (codes put : List ℕ) → put ≡ codes → IsNumberSpelling codes → number.IsPadded (record { codes = put ++ drop (length codes) (replicate 19 0); len = length codes })
number_in_place codes put e n = subst (λ t. number.IsPadded (record { codes = t ++ drop (length codes) (replicate 19 0); len = length codes })) (sym e) (record {
  long = long_in_place 19 codes (number_short codes n);
  short = number_short codes n;
  zeros = zeros_in_place 19 codes;
  spelled = subst IsNumberSpelling (sym (taken_in_place 19 codes)) n;
})
