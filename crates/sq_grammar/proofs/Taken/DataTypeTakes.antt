-- The tokens of a data type are read as it.
use Rattle.std.proofs.Common.{◌≡◌, ℕ, suc, ◌≤◌, false, [], ◌∷◌, ◌++◌, Option, Some, None, refl, arith}
use Rattle.sq_lex.specs.declared.lexeme.Lexeme.TheVariants as lexeme
use Rattle.sq_lex.specs.declared.symbol.Symbol.TheVariants as symbol
use Rattle.sq_lex.specs.declared.word.Word.TheVariants as word
use Rattle.sq_lex.specs.declared.number.Number.{Number}
use Rattle.sq_tree.specs.declared.data_type.DataType.{DataType}
use Rattle.sq_tree.specs.declared.data_type.DataType.TheVariants.{Smallint, Integer, Int, Exact, Character, Varying}
use Rattle.sq_tree.specs.declared.data_type.ExactWord.{ExactWord}
use Rattle.sq_tree.specs.declared.data_type.ExactWord.TheVariants.{Numeric, Decimal, Dec}
use Rattle.sq_tree.specs.declared.data_type.CharacterWord.{CharacterWord}
use Rattle.sq_tree.specs.declared.data_type.CharacterWord.TheVariants as fixed
use Rattle.sq_tree.specs.declared.data_type.VaryingWord.TheVariants.{CharacterVarying, CharVarying, Varchar}
use Rattle.sq_tree.specs.declared.data_type.Precision.{Precision}
use Rattle.sq_tree.specs.Tree.{optional}
use Rattle.sq_tree.specs.DataType.{scale_tokens, precision_tokens, length_tokens, data_type_tokens}
use Rattle.sq_tree.proofs.DataTypeDepth.{data_type_depth}
use Rattle.sq_grammar.specs.declared.type_word.TypeWord.TheVariants as first
use Rattle.sq_grammar.specs.Reading.{Tokens, sees, number, number_of, behind, comma}
use Rattle.sq_grammar.specs.DataType.{precision_from, precision, length_from, length_in, length_if_any, varying_of, character_type, type_word_of, type_by, data_type}
use Rattle.sq_grammar.proofs.Taken.Takes.{Takes, done, fits, plainly, mapped, word, mark, opening, closing, expected, eaten, uneaten, behind_it, one, met, numbered}

-- a type could go on with a bracket, and CHARACTER with VARYING
pub record EndsType (rest : Tokens) : Type 0 where
  pub open_bracket : sees (lexeme.Symbol symbol.Open) rest ≡ false
  pub varying : sees (lexeme.Word word.Varying) rest ≡ false

-- ---- lengths and precisions

length_from_takes : (n : Number) {a left : ℕ} {rest : Tokens} → Takes length_from (lexeme.Number n ∷ lexeme.Symbol symbol.Close ∷ []) (suc a) a 0 left n rest
unfolding length_from
length_from_takes n = numbered n _ (expected closing _ done)

-- "(" number ")"
pub length_takes : (n : Number) {a left : ℕ} {rest : Tokens} → Takes length_in (length_tokens n) a a 0 left n rest
unfolding length_in
length_takes n = expected opening _ (length_from_takes n)

-- [ "(" number ")" ]
pub length_if_any_takes : (n : Option Number) {a left : ℕ} {rest : Tokens} → sees (lexeme.Symbol symbol.Open) rest ≡ false → Takes length_if_any (optional length_tokens n) a a 0 left n rest
unfolding length_if_any
length_if_any_takes None none = uneaten (lexeme.Symbol symbol.Open) _ none done
length_if_any_takes (Some n) none = behind_it opening length_from (length_from_takes n)

-- [ "," number ]
scale_takes : (scale : Option Number) {a left : ℕ} {rest : Tokens} → sees comma rest ≡ false → Takes (behind comma number) (optional scale_tokens scale) a a 0 left scale rest
scale_takes None none = uneaten comma _ none done
scale_takes (Some n) none = behind_it (mark symbol.Comma (λ k. refl)) number (one number_of (lexeme.Number n) n refl (λ k. refl))

precision_from_takes : (p : Precision) {a left : ℕ} {rest : Tokens} → Takes precision_from (lexeme.Number p.precision ∷ optional scale_tokens p.scale ++ lexeme.Symbol symbol.Close ∷ []) (suc a) a 0 left p rest
unfolding precision_from
precision_from_takes p = numbered p.precision _ (plainly (behind comma number) _ p.scale (scale_takes p.scale refl) (expected closing _ done))

-- [ "(" number [ "," number ] ")" ]
pub precision_takes : (p : Option Precision) {a left : ℕ} {rest : Tokens} → sees (lexeme.Symbol symbol.Open) rest ≡ false → Takes precision (optional precision_tokens p) a a 0 left p rest
unfolding precision
precision_takes None none = uneaten (lexeme.Symbol symbol.Open) _ none done
precision_takes (Some p) none = behind_it opening precision_from (precision_from_takes p)

-- ---- types

pub data_type_shallow : (t : DataType) → data_type_depth t ≤ 1
data_type_shallow Smallint = omega arith
data_type_shallow Integer = omega arith
data_type_shallow Int = omega arith
data_type_shallow (Exact w None) = omega arith
data_type_shallow (Exact w (Some p)) = omega arith
data_type_shallow (Character w None) = omega arith
data_type_shallow (Character w (Some n)) = omega arith
data_type_shallow (Varying w n) = omega arith

module _ {a left : ℕ} {rest : Tokens} where
  -- behind CHARACTER or CHAR
  fixed_takes : (w : CharacterWord) (n : Option Number) → EndsType rest → Takes (character_type w) (optional length_tokens n) a a 0 left (Character w n) rest
  unfolding character_type
  fixed_takes w None ends = uneaten (lexeme.Word word.Varying) _ ends.varying (mapped length_if_any _ None (length_if_any_takes None ends.open_bracket) refl)
  fixed_takes w (Some n) ends = uneaten (lexeme.Word word.Varying) _ refl (mapped length_if_any _ (Some n) (length_if_any_takes (Some n) ends.open_bracket) refl)

  varying_takes : (w : CharacterWord) (n : Number) → Takes (character_type w) (lexeme.Word word.Varying ∷ length_tokens n) a a 0 left (Varying (varying_of w) n) rest
  unfolding character_type
  varying_takes w n = eaten (word word.Varying) _ (mapped length_in _ n (length_takes n) refl)

  exact_takes : (w : ExactWord) (p : Option Precision) → EndsType rest → Takes (type_by (Some (first.Exact w))) (optional precision_tokens p) a a 0 left (Exact w p) rest
  exact_takes w p ends = mapped precision _ p (precision_takes p ends.open_bracket) refl

  -- The code does not count the bracket of a length or a precision.
  pub flat_type_takes : (t : DataType) → EndsType rest → Takes data_type (data_type_tokens t) a a 0 left t rest
  unfolding data_type
  flat_type_takes Smallint ends = met type_word_of (lexeme.Word word.Smallint) first.Smallint refl (λ n. refl) type_by done
  flat_type_takes Integer ends = met type_word_of (lexeme.Word word.Integer) first.Integer refl (λ n. refl) type_by done
  flat_type_takes Int ends = met type_word_of (lexeme.Word word.Int) first.Int refl (λ n. refl) type_by done
  flat_type_takes (Exact Numeric p) ends = met type_word_of (lexeme.Word word.Numeric) (first.Exact Numeric) refl (λ n. refl) type_by (exact_takes Numeric p ends)
  flat_type_takes (Exact Decimal p) ends = met type_word_of (lexeme.Word word.Decimal) (first.Exact Decimal) refl (λ n. refl) type_by (exact_takes Decimal p ends)
  flat_type_takes (Exact Dec p) ends = met type_word_of (lexeme.Word word.Dec) (first.Exact Dec) refl (λ n. refl) type_by (exact_takes Dec p ends)
  flat_type_takes (Character fixed.Character n) ends = met type_word_of (lexeme.Word word.Character) (first.Character fixed.Character) refl (λ k. refl) type_by (fixed_takes fixed.Character n ends)
  flat_type_takes (Character fixed.Char n) ends = met type_word_of (lexeme.Word word.Char) (first.Character fixed.Char) refl (λ k. refl) type_by (fixed_takes fixed.Char n ends)
  flat_type_takes (Varying CharacterVarying n) ends = met type_word_of (lexeme.Word word.Character) (first.Character fixed.Character) refl (λ k. refl) type_by (varying_takes fixed.Character n)
  flat_type_takes (Varying CharVarying n) ends = met type_word_of (lexeme.Word word.Char) (first.Character fixed.Char) refl (λ k. refl) type_by (varying_takes fixed.Char n)
  flat_type_takes (Varying Varchar n) ends = met type_word_of (lexeme.Word word.Varchar) first.Varchar refl (λ k. refl) type_by (mapped length_in _ n (length_takes n) refl)

  pub data_type_takes : (t : DataType) → 1 ≤ left → EndsType rest → Takes data_type (data_type_tokens t) a a (data_type_depth t) left t rest
  data_type_takes t room ends = let shallow = data_type_shallow t in fits (λ h. omega arith) (λ h. omega arith) (flat_type_takes t ends)
