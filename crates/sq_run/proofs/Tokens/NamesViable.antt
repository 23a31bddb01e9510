-- Names, parameters and signed numbers: what is read of them is the beginning of one.
use Rattle.std.proofs.Common.{Option, Some, None, refl, inl, codes}
use Rattle.sq_lex.specs.declared.lexeme.Lexeme.{Lexeme}
use Rattle.sq_lex.specs.declared.lexeme.Lexeme.TheVariants as lexeme
use Rattle.sq_lex.specs.declared.symbol.Symbol.TheVariants as symbol
use Rattle.sq_lex.specs.declared.word.Word.TheVariants as word
use Rattle.sq_lex.specs.declared.name.Name.{Name}
use Rattle.sq_grammar.specs.Reading.{Tokens, name, name_of, number, number_of, comma}
use Rattle.sq_grammar.specs.Names.{dot, name_behind_dot, table_name, column_by, column_from, column_reference, indicator, parameter_from, parameter, sign_if_any, signed_number, columns_from, columns, columns_if_any, by_colon, by_word}
use Rattle.sq_run.proofs.Tokens.Viable.{Any, Begins, Begun, Blank, Eats, Not, Starts, Viable, begun, behind_it, blank, blanks, commas, commas_start, done, done_starts, eats_expect, eats_first, eats_next, eats_one, from, if_comes, mapped, mapped_starts, must, must_starts, not_begun, not_starts, one, one_of_starts, starts_with, then_part, then_some}

abbrev pub a_name : Lexeme
a_name = lexeme.Name (codes "A")

abbrev pub one_digit : Lexeme
one_digit = lexeme.Number (codes "1")

abbrev pub closing : Lexeme
closing = lexeme.Symbol symbol.Close

module _ {F : Tokens → Type 0} where
  pub names : Viable name name F
  names = one name_of

  abbrev pub name_starts : Starts name F
  name_starts = one_of_starts name_of a_name (codes "A") refl

  pub numbers : Viable number number F
  numbers = one number_of

  abbrev pub number_starts : Starts number F
  number_starts = one_of_starts number_of one_digit (codes "1") refl

module _ {F : Tokens → Type 0} where
  module _ (no_dot : Not F dot) where
    second : Viable name_behind_dot name_behind_dot F
    second = behind_it dot names name_starts no_dot

    second_blank : Blank name_behind_dot F
    second_blank = blanks (not_starts dot _ done_starts no_dot) refl

    pub tables : Viable table_name table_name F
    unfolding table_name
    tables = then_part {G = Any} _ _ names (λ first. mapped _ second) (λ first. mapped_starts _ (blank second_blank)) (λ x other i. tt) (λ other i. tt)

    pub tables_begun : Begun table_name F a_name
    unfolding table_name
    tables_begun = begun a_name _ (starts_with {G = Any} _ name_starts (mapped_starts _ (blank second_blank)) (λ other i. tt)) refl

    module _ (n : Name) where
      by_column : (o : Option Name) → Viable (column_by n o) (column_by n o) F
      by_column None = done
      by_column (Some m) = mapped _ second

      by_column_blank : (o : Option Name) → Blank (column_by n o) F
      by_column_blank None = blanks done_starts refl
      by_column_blank (Some m) = blanks (mapped_starts _ (blank second_blank)) refl

      pub column_tails : Viable (column_from n) (column_from n) F
      unfolding column_from
      column_tails = then_part {G = F} _ _ second by_column (λ o. blank (by_column_blank o)) (λ o other i. i) (λ other i. i)

      pub column_blank : Blank (column_from n) F
      unfolding column_from
      column_blank = blanks (starts_with {G = F} _ (blank second_blank) (blank (by_column_blank second_blank.value)) (λ other i. i)) refl

    pub column_references : Viable column_reference column_reference F
    unfolding column_reference
    column_references = then_part {G = Any} _ _ names (λ n. column_tails n) (λ n. blank (column_blank n)) (λ n other i. tt) (λ other i. tt)

    pub column_reference_begun : Begun column_reference F a_name
    unfolding column_reference
    column_reference_begun = begun a_name _ (starts_with {G = Any} _ name_starts (blank (column_blank (codes "A"))) (λ other i. tt)) refl

  module _ (no_word : Not F (lexeme.Word word.Indicator)) (no_colon : Not F (lexeme.Symbol symbol.Colon)) where
    pub indicators : Viable indicator indicator F
    unfolding indicator
    indicators = if_comes (lexeme.Word word.Indicator) by_word by_word (inl no_word) (must (lexeme.Symbol symbol.Colon) (λ ts. refl) (mapped _ names) (mapped_starts _ name_starts)) (must_starts (lexeme.Symbol symbol.Colon) (λ ts. refl) (mapped_starts _ name_starts))
        (if_comes (lexeme.Symbol symbol.Colon) by_colon by_colon (inl no_colon) (mapped _ names) (mapped_starts _ name_starts) done)

    indicator_blank : Blank indicator F
    unfolding indicator
    indicator_blank = blanks (not_starts (lexeme.Word word.Indicator) by_word (not_starts (lexeme.Symbol symbol.Colon) by_colon done_starts no_colon) no_word) refl

    pub parameter_tails : Viable parameter_from parameter_from F
    unfolding parameter_from
    parameter_tails = then_part {G = Any} _ _ names (λ n. mapped _ indicators) (λ n. mapped_starts _ (blank indicator_blank)) (λ n other i. tt) (λ other i. tt)

    pub parameter_tail_begun : Begun parameter_from F a_name
    unfolding parameter_from
    parameter_tail_begun = begun a_name _ (starts_with {G = Any} _ name_starts (mapped_starts _ (blank indicator_blank)) (λ other i. tt)) refl

    pub parameters : Viable parameter parameter F
    unfolding parameter
    parameters = must (lexeme.Symbol symbol.Colon) (λ ts. refl) parameter_tails (from parameter_tail_begun)

    pub parameter_begun : Begun parameter F (lexeme.Symbol symbol.Colon)
    unfolding parameter
    parameter_begun = begun (lexeme.Symbol symbol.Colon) _ (must_starts (lexeme.Symbol symbol.Colon) (λ ts. refl) (from parameter_tail_begun)) refl

  module _ (no_plus : Not F (lexeme.Symbol symbol.Plus)) (no_minus : Not F (lexeme.Symbol symbol.Minus)) where
    pub signs : Viable sign_if_any sign_if_any F
    signs = if_comes _ _ _ (inl no_plus) done done_starts (if_comes _ _ _ (inl no_minus) done done_starts done)

    pub sign_blank : Blank sign_if_any F
    sign_blank = blanks (not_starts (lexeme.Symbol symbol.Plus) _ (not_starts (lexeme.Symbol symbol.Minus) _ done_starts no_minus) no_plus) refl

pub digit_signs : Viable sign_if_any sign_if_any (Begins one_digit)
digit_signs = signs (not_begun one_digit (lexeme.Symbol symbol.Plus) (λ ts. refl)) (not_begun one_digit (lexeme.Symbol symbol.Minus) (λ ts. refl))

pub digit_sign_blank : Blank sign_if_any (Begins one_digit)
digit_sign_blank = sign_blank (not_begun one_digit (lexeme.Symbol symbol.Plus) (λ ts. refl)) (not_begun one_digit (lexeme.Symbol symbol.Minus) (λ ts. refl))

close_names : Not (Begins closing) comma
close_names = not_begun closing comma (λ ts. refl)

module _ {F : Tokens → Type 0} where
  pub signed_numbers : Viable signed_number signed_number F
  unfolding signed_number
  signed_numbers = then_some {G = Begins one_digit} _ _ digit_signs (λ sign. mapped _ numbers) (λ sign. mapped_starts _ number_starts) (λ sign other i. (other, refl)) (λ sign. eats_first _ _ {F = Any} (eats_one number_of) (λ n. done))

  pub signed_begun : Begun signed_number F one_digit
  unfolding signed_number
  signed_begun = begun one_digit _ (starts_with {G = Begins one_digit} _ (blank digit_sign_blank) (mapped_starts _ number_starts) (λ other i. (other, refl))) refl

  pub column_lists : Viable columns_from columns_from F
  unfolding columns_from
  column_lists = then_some {G = Begins closing} _ _ (commas names name_starts close_names) (λ cs. must closing (λ ts. refl) done done_starts) (λ cs. must_starts closing (λ ts. refl) done_starts) (λ cs other i. (other, refl)) (λ cs. eats_first _ _ {F = Any} (eats_expect closing) (λ u. done))

  pub column_list_begun : Begun columns_from F a_name
  unfolding columns_from
  column_list_begun = begun a_name _ (starts_with {G = Begins closing} _ (commas_start names name_starts close_names) (must_starts closing (λ ts. refl) done_starts) (λ other i. (other, refl))) refl

  pub bracketed_columns : Viable columns columns F
  unfolding columns
  bracketed_columns = must (lexeme.Symbol symbol.Open) (λ ts. refl) column_lists (from column_list_begun)

  pub columns_begun : Begun columns F (lexeme.Symbol symbol.Open)
  unfolding columns
  columns_begun = begun (lexeme.Symbol symbol.Open) _ (must_starts (lexeme.Symbol symbol.Open) (λ ts. refl) (from column_list_begun)) refl

  module _ (no_open : Not F (lexeme.Symbol symbol.Open)) where
    pub columns_or_none : Viable columns_if_any columns_if_any F
    unfolding columns_if_any
    columns_or_none = behind_it (lexeme.Symbol symbol.Open) column_lists (from column_list_begun) no_open

    pub columns_blank : Blank columns_if_any F
    unfolding columns_if_any
    columns_blank = blanks (not_starts (lexeme.Symbol symbol.Open) _ done_starts no_open) refl

pub signed_eat : Eats signed_number
unfolding signed_number
signed_eat = eats_next _ digit_signs (λ sign. eats_first _ _ {F = Any} (eats_one number_of) (λ n. done))
