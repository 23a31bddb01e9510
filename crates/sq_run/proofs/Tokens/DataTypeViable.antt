-- Data types: what is read of one is the beginning of one.
use Rattle.std.proofs.Common.{Some, refl, inl, inr}
use Rattle.sq_lex.specs.declared.lexeme.Lexeme.{Lexeme}
use Rattle.sq_lex.specs.declared.lexeme.Lexeme.TheVariants as lexeme
use Rattle.sq_lex.specs.declared.symbol.Symbol.TheVariants as symbol
use Rattle.sq_lex.specs.declared.word.Word.TheVariants as word
use Rattle.sq_tree.specs.declared.data_type.CharacterWord.{CharacterWord}
use Rattle.sq_grammar.specs.declared.type_word.TypeWord.{TypeWord}
use Rattle.sq_grammar.specs.declared.type_word.TypeWord.TheVariants as first
use Rattle.sq_grammar.specs.Reading.{Tokens, comma}
use Rattle.sq_grammar.specs.DataType.{precision_from, precision, length_from, length_in, length_if_any, by_varying, character_type, type_word_of, type_by, data_type}
use Rattle.sq_run.proofs.Tokens.Viable.{Any, Begins, Begun, Blank, Not, Starts, Viable, begun, behind_it, blank, blanks, done, done_starts, eats_expect, eats_first, if_comes, if_one, mapped, mapped_starts, must, must_starts, never, never_eats, not_begun, not_starts, one_starts, starts_with, then_part, then_some}
use Rattle.sq_run.proofs.Tokens.NamesViable.{closing, number_starts, numbers}

opening : Lexeme
opening = lexeme.Symbol symbol.Open

no_comma : Not (Begins closing) comma
no_comma = not_begun closing comma (λ ts. refl)

module _ {F : Tokens → Type 0} where
  precisions_from : Viable precision_from precision_from F
  unfolding precision_from
  precisions_from = then_part {G = Any} _ _ numbers
      (λ p. then_some {G = Begins closing} _ _ (behind_it comma numbers number_starts no_comma) (λ s. must closing (λ ts. refl) done done_starts) (λ s. must_starts closing (λ ts. refl) done_starts) (λ s other i. (_, refl)) (λ s. eats_first _ _ {F = Any} (eats_expect closing) (λ u. done)))
      (λ p. starts_with {G = Begins closing} _ (not_starts comma _ done_starts no_comma) (must_starts closing (λ ts. refl) done_starts) (λ other i. (_, refl)))
      (λ p other i. tt) (λ other i. tt)

  precision_starts : Starts precision_from F
  unfolding precision_from
  precision_starts = starts_with {G = Any} _ number_starts (starts_with {G = Begins closing} _ (not_starts comma _ done_starts no_comma) (must_starts closing (λ ts. refl) done_starts) (λ other i. (_, refl))) (λ other i. tt)

  lengths_from : Viable length_from length_from F
  unfolding length_from
  lengths_from = then_part {G = Any} _ _ numbers (λ n. must closing (λ ts. refl) done done_starts) (λ n. must_starts closing (λ ts. refl) done_starts) (λ n other i. tt) (λ other i. tt)

  length_starts : Starts length_from F
  unfolding length_from
  length_starts = starts_with {G = Any} _ number_starts (must_starts closing (λ ts. refl) done_starts) (λ other i. tt)

  lengths : Viable length_in length_in F
  unfolding length_in
  lengths = must (lexeme.Symbol symbol.Open) (λ ts. refl) lengths_from length_starts

  lengths_start : Starts length_in F
  unfolding length_in
  lengths_start = must_starts (lexeme.Symbol symbol.Open) (λ ts. refl) length_starts

  pub data_type_begun : Begun data_type F (lexeme.Word word.Smallint)
  unfolding data_type
  data_type_begun = begun (lexeme.Word word.Smallint) _ (one_starts type_word_of type_by (lexeme.Word word.Smallint) first.Smallint refl done_starts) refl

  module _ (no_open : Not F (lexeme.Symbol symbol.Open)) (no_varying : Not F (lexeme.Word word.Varying)) where
    precisions : Viable precision precision F
    unfolding precision
    precisions = behind_it (lexeme.Symbol symbol.Open) precisions_from precision_starts no_open

    precision_blank : Blank precision F
    unfolding precision
    precision_blank = blanks (not_starts (lexeme.Symbol symbol.Open) _ done_starts no_open) refl

    lengths_or_none : Viable length_if_any length_if_any F
    unfolding length_if_any
    lengths_or_none = behind_it (lexeme.Symbol symbol.Open) lengths_from length_starts no_open

    length_blank : Blank length_if_any F
    unfolding length_if_any
    length_blank = blanks (not_starts (lexeme.Symbol symbol.Open) _ done_starts no_open) refl

    character_types : (w : CharacterWord) → Viable (character_type w) (character_type w) F
    unfolding character_type
    character_types w = if_comes (lexeme.Word word.Varying) (by_varying w) (by_varying w) (inl no_varying) (mapped _ lengths) (mapped_starts _ lengths_start) (mapped _ lengths_or_none)

    character_starts : (w : CharacterWord) → Starts (character_type w) F
    unfolding character_type
    character_starts w = not_starts (lexeme.Word word.Varying) (by_varying w) (mapped_starts _ (blank length_blank)) no_varying

    types_by : (w : TypeWord) → Viable (type_by (Some w)) (type_by (Some w)) F
    types_by first.Smallint = done
    types_by first.Integer = done
    types_by first.Int = done
    types_by (first.Exact w) = mapped _ precisions
    types_by (first.Character w) = character_types w
    types_by first.Varchar = mapped _ lengths

    types_start : (w : TypeWord) → Starts (type_by (Some w)) F
    types_start first.Smallint = done_starts
    types_start first.Integer = done_starts
    types_start first.Int = done_starts
    types_start (first.Exact w) = mapped_starts _ (blank precision_blank)
    types_start (first.Character w) = character_starts w
    types_start first.Varchar = mapped_starts _ lengths_start

    pub data_types : Viable data_type data_type F
    unfolding data_type
    data_types = if_one type_word_of type_by type_by (inr never_eats) types_by types_start never
