-- Data types are spelled by what was read.
use Rattle.std.proofs.Common.{◌≡◌, ℕ, ◌≤◌, [], ◌∷◌, Some, None, refl, ap, arith}
use Rattle.sq_lex.specs.declared.lexeme.Lexeme.{Lexeme}
use Rattle.sq_lex.specs.declared.lexeme.Lexeme.TheVariants as lexeme
use Rattle.sq_lex.specs.declared.symbol.Symbol.TheVariants as symbol
use Rattle.sq_lex.specs.declared.word.Word.TheVariants as word
use Rattle.sq_tree.specs.declared.data_type.DataType.TheVariants.{Smallint, Integer, Int, Exact, Character, Varying}
use Rattle.sq_tree.specs.declared.data_type.ExactWord.TheVariants.{Numeric, Decimal, Dec}
use Rattle.sq_tree.specs.declared.data_type.CharacterWord.{CharacterWord}
use Rattle.sq_tree.specs.declared.data_type.CharacterWord.TheVariants as fixed
use Rattle.sq_tree.specs.declared.data_type.VaryingWord.TheVariants.{Varchar}
use Rattle.sq_tree.specs.Tree.{optional}
use Rattle.sq_tree.specs.DataType.{precision_tokens, length_tokens, character_word_tokens, data_type_tokens}
use Rattle.sq_tree.proofs.DataTypeDepth.{data_type_depth, bracket_depth}
use Rattle.sq_grammar.specs.declared.type_word.TypeWord.{TypeWord}
use Rattle.sq_grammar.specs.declared.type_word.TypeWord.TheVariants as first
use Rattle.sq_grammar.specs.Reading.{one_if_any, number, behind, comma}
use Rattle.sq_grammar.specs.DataType.{precision_from, precision, length_from, length_in, length_if_any, varying_of, character_type, type_word_of, type_by, data_type}
use Rattle.sq_grammar.proofs.Sound.Spells.{Sound, After, sound, built, never, andthen, eaten, expected, maybe, following, numbers, behinds, one_maybe, some_is}

precision_behind : (left : ℕ) → 1 ≤ left → After (lexeme.Symbol symbol.Open ∷ []) 0 left precision_from precision_tokens (λ _. 1)
unfolding precision_from
precision_behind left room = andthen number _ (numbers left) (λ p. andthen (behind comma number) _ (behinds comma number left (numbers left)) (λ s.
    expected (lexeme.Symbol symbol.Close) _ (built (record { precision = p; scale = s }) _ _ refl (λ h. room))))

a_precision : (left : ℕ) → 1 ≤ left → Sound precision (optional precision_tokens) bracket_depth left
unfolding precision
a_precision left room = sound (eaten (lexeme.Symbol symbol.Open) _
    (following precision_from _ (precision_behind left room) (λ p. built (Some p) _ _ refl (λ h. h)))
    (built None _ _ refl (λ h. omega arith)))

length_behind : (left : ℕ) → 1 ≤ left → After (lexeme.Symbol symbol.Open ∷ []) 0 left length_from length_tokens (λ _. 1)
unfolding length_from
length_behind left room = andthen number _ (numbers left) (λ n. expected (lexeme.Symbol symbol.Close) _ (built n _ _ refl (λ h. room)))

lengths : (left : ℕ) → 1 ≤ left → Sound length_in length_tokens (λ _. 1) left
unfolding length_in
lengths left room = sound (expected (lexeme.Symbol symbol.Open) _ (length_behind left room))

a_length : (left : ℕ) → 1 ≤ left → Sound length_if_any (optional length_tokens) bracket_depth left
unfolding length_if_any
a_length left room = sound (eaten (lexeme.Symbol symbol.Open) _
    (following length_from _ (length_behind left room) (λ p. built (Some p) _ _ refl (λ h. h)))
    (built None _ _ refl (λ h. omega arith)))

character_sound : (left : ℕ) → 1 ≤ left → (w : CharacterWord) → After (character_word_tokens w) 0 left (character_type w) data_type_tokens data_type_depth
unfolding character_type
character_sound left room fixed.Character = eaten (lexeme.Word word.Varying) _
    (andthen length_in _ (lengths left room) (λ n. built (Varying (varying_of fixed.Character) n) _ _ refl (λ h. room)))
    (andthen length_if_any _ (a_length left room) (λ n. built (Character fixed.Character n) _ _ refl (λ h. omega arith)))
character_sound left room fixed.Char = eaten (lexeme.Word word.Varying) _
    (andthen length_in _ (lengths left room) (λ n. built (Varying (varying_of fixed.Char) n) _ _ refl (λ h. room)))
    (andthen length_if_any _ (a_length left room) (λ n. built (Character fixed.Char n) _ _ refl (λ h. omega arith)))

-- the token that the word of a type stands for
abbrev word_token : TypeWord → Lexeme
word_token first.Smallint = lexeme.Word word.Smallint
word_token first.Integer = lexeme.Word word.Integer
word_token first.Int = lexeme.Word word.Int
word_token (first.Exact Numeric) = lexeme.Word word.Numeric
word_token (first.Exact Decimal) = lexeme.Word word.Decimal
word_token (first.Exact Dec) = lexeme.Word word.Dec
word_token (first.Character fixed.Character) = lexeme.Word word.Character
word_token (first.Character fixed.Char) = lexeme.Word word.Char
word_token first.Varchar = lexeme.Word word.Varchar

word_is : (t : Lexeme) (w : TypeWord) → type_word_of t ≡ Some w → t ≡ word_token w
word_is (lexeme.Word word.Smallint) w e = ap word_token (some_is first.Smallint w e)
word_is (lexeme.Word word.Integer) w e = ap word_token (some_is first.Integer w e)
word_is (lexeme.Word word.Int) w e = ap word_token (some_is first.Int w e)
word_is (lexeme.Word word.Numeric) w e = ap word_token (some_is (first.Exact Numeric) w e)
word_is (lexeme.Word word.Decimal) w e = ap word_token (some_is (first.Exact Decimal) w e)
word_is (lexeme.Word word.Dec) w e = ap word_token (some_is (first.Exact Dec) w e)
word_is (lexeme.Word word.Character) w e = ap word_token (some_is (first.Character fixed.Character) w e)
word_is (lexeme.Word word.Char) w e = ap word_token (some_is (first.Character fixed.Char) w e)
word_is (lexeme.Word word.Varchar) w e = ap word_token (some_is first.Varchar w e)
word_is _ w e = cc

pub data_type_sound : (left : ℕ) → 1 ≤ left → Sound data_type data_type_tokens data_type_depth left
unfolding data_type
data_type_sound left room = sound (maybe (one_if_any type_word_of) _ (one_maybe type_word_of word_token word_is left) (never _ _) by)
  where
    by : (w : TypeWord) → After (word_token w ∷ []) 0 left (type_by (Some w)) data_type_tokens data_type_depth
    by first.Smallint = built Smallint _ _ refl (λ h. omega arith)
    by first.Integer = built Integer _ _ refl (λ h. omega arith)
    by first.Int = built Int _ _ refl (λ h. omega arith)
    by (first.Exact Numeric) = andthen precision _ (a_precision left room) (λ p. built (Exact Numeric p) _ _ refl (λ h. omega arith))
    by (first.Exact Decimal) = andthen precision _ (a_precision left room) (λ p. built (Exact Decimal p) _ _ refl (λ h. omega arith))
    by (first.Exact Dec) = andthen precision _ (a_precision left room) (λ p. built (Exact Dec p) _ _ refl (λ h. omega arith))
    by (first.Character fixed.Character) = character_sound left room fixed.Character
    by (first.Character fixed.Char) = character_sound left room fixed.Char
    by first.Varchar = andthen length_in _ (lengths left room) (λ n. built (Varying Varchar n) _ _ refl (λ h. room))
