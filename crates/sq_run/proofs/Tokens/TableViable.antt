-- The elements of a table: what is read of one is the beginning of one. Behind it comes a bracket that closes, or a comma as before.
use Rattle.std.proofs.Common.{◌≡◌, ℕ, suc, false, ◌∷◌, None, Ok, refl, ap, inl, codes}
use Rattle.sq_lex.specs.declared.lexeme.Lexeme.{Lexeme}
use Rattle.sq_lex.specs.declared.lexeme.Lexeme.TheVariants as lexeme
use Rattle.sq_lex.specs.declared.symbol.Symbol.TheVariants as symbol
use Rattle.sq_lex.specs.declared.word.Word.TheVariants as word
use Rattle.sq_lex.specs.declared.name.Name.{Name}
use Rattle.sq_tree.specs.declared.names.TableName.{TableName}
use Rattle.sq_tree.specs.declared.schema.TableDefinition.{TableDefinition}
use Rattle.sq_grammar.specs.Reading.{Tokens, Parser, ◌>>=◌, ◌>>◌, pure, expect, sees, comma, comma_separated, first_of, text_of, name_of}
use Rattle.sq_grammar.specs.Schema.{references_from, references, by_text, by_null, by_user, default_value, default_clause, check, constraint_check, constraint_references, constraint_primary, constraint_unique, constraint_not, column_constraint, column_definition, foreign_key, element_foreign, element_primary, element_unique, table_constraint, element_name, table_element, table_definition}
use Rattle.sq_run.proofs.Tokens.Viable.{Any, Begins, Blank, Not, Starts, Viable, behind_it, blank, blanks, commas, commas_start, comes_starts, done, done_starts, eats_expect, eats_first, from, if_comes, if_one, mapped, mapped_starts, must, must_starts, not_begun, not_starts, one_starts, rows, rows_start, starts_with, then_part, then_some}
use Rattle.sq_run.proofs.Tokens.NamesViable.{a_name, bracketed_columns, closing, columns_begun, columns_blank, columns_or_none, signed_numbers, tables, tables_begun}
use Rattle.sq_run.proofs.Tokens.DataTypeViable.{data_type_begun, data_types}
use Rattle.sq_run.proofs.Tokens.CondsViable.{inners}

abbrev Close : Tokens → Type 0
Close = Begins closing

abbrev opening : Lexeme
opening = lexeme.Symbol symbol.Open

-- what closes is none of these
not_close : (u : Lexeme) → ((ts : Tokens) → sees u (closing ∷ ts) ≡ false) → Not Close u
not_close u e = not_begun closing u e

no_open : Not Close opening
no_open = not_close opening (λ ts. refl)

no_dot : Not Close (lexeme.Symbol symbol.Dot)
no_dot = not_close (lexeme.Symbol symbol.Dot) (λ ts. refl)

all_references_from : Viable references_from references_from Close
unfolding references_from
all_references_from = then_part {G = Close} _ _ (tables no_dot) (λ t. mapped _ (columns_or_none no_open)) (λ t. mapped_starts _ (blank (columns_blank no_open))) (λ t other i. i) (λ other i. i)

references_from_start : Starts references_from Close
unfolding references_from
references_from_start = starts_with {G = Close} _ (from (tables_begun no_dot)) (mapped_starts _ (blank (columns_blank no_open))) (λ other i. i)

all_references : Viable references references Close
unfolding references
all_references = must (lexeme.Word word.References) (λ ts. refl) all_references_from references_from_start

references_start : Starts references Close
unfolding references
references_start = must_starts (lexeme.Word word.References) (λ ts. refl) references_from_start

-- ---- defaults

no_text : (other : Tokens) → Close other → first_of text_of other ≡ None
no_text other i = ap (first_of text_of) i.1

default_values : Viable default_value default_value Close
unfolding default_value
default_values = if_comes (lexeme.Word word.User) by_user by_user (inl (not_close (lexeme.Word word.User) (λ ts. refl))) done done_starts
    (if_comes (lexeme.Word word.Null) by_null by_null (inl (not_close (lexeme.Word word.Null) (λ ts. refl))) done done_starts
    (if_one text_of by_text by_text (inl no_text) (λ characters. done) (λ characters. done_starts) (mapped _ signed_numbers)))

default_start : Starts default_value Close
unfolding default_value
default_start = comes_starts (lexeme.Word word.User) by_user refl done_starts

no_default : Not Close (lexeme.Word word.Default)
no_default = not_close (lexeme.Word word.Default) (λ ts. refl)

default_clauses : Viable default_clause default_clause Close
unfolding default_clause
default_clauses = behind_it (lexeme.Word word.Default) default_values default_start no_default

default_blank : Blank default_clause Close
unfolding default_clause
default_blank = blanks (not_starts (lexeme.Word word.Default) _ done_starts no_default) refl

-- ---- columns

module _ (left : ℕ) where
  checks : {F : Tokens → Type 0} → Viable (check left) (check (suc left)) F
  unfolding check
  checks = must opening (λ ts. refl)
      (then_some {G = Close} _ _ (inners left).must (λ c. must closing (λ ts. refl) done done_starts) (λ c. must_starts closing (λ ts. refl) done_starts) (λ c other i. (_, refl)) (λ c. eats_first _ _ {F = Any} (eats_expect closing) (λ u. done)))
      (starts_with {G = Close} _ (from (inners left).begins) (must_starts closing (λ ts. refl) done_starts) (λ other i. (_, refl)))

  check_start : {F : Tokens → Type 0} → Starts (check (suc left)) F
  unfolding check
  check_start = must_starts opening (λ ts. refl) (starts_with {G = Close} _ (from (inners left).begins) (must_starts closing (λ ts. refl) done_starts) (λ other i. (_, refl)))

  column_constraints : Viable (column_constraint left) (column_constraint (suc left)) Close
  unfolding column_constraint
  column_constraints =
      if_comes (lexeme.Word word.Not) (constraint_not left) (constraint_not (suc left)) (inl (not_close (lexeme.Word word.Not) (λ ts. refl))) (must (lexeme.Word word.Null) (λ ts. refl) done done_starts) (must_starts (lexeme.Word word.Null) (λ ts. refl) done_starts)
      (if_comes (lexeme.Word word.Unique) (constraint_unique left) (constraint_unique (suc left)) (inl (not_close (lexeme.Word word.Unique) (λ ts. refl))) done done_starts
      (if_comes (lexeme.Word word.Primary) (constraint_primary left) (constraint_primary (suc left)) (inl (not_close (lexeme.Word word.Primary) (λ ts. refl))) (must (lexeme.Word word.Key) (λ ts. refl) done done_starts) (must_starts (lexeme.Word word.Key) (λ ts. refl) done_starts)
      (if_comes (lexeme.Word word.References) (constraint_references left) (constraint_references (suc left)) (inl (not_close (lexeme.Word word.References) (λ ts. refl))) (mapped _ all_references_from) (mapped_starts _ references_from_start)
      (if_comes (lexeme.Word word.Check) (constraint_check left) (constraint_check (suc left)) (inl (not_close (lexeme.Word word.Check) (λ ts. refl))) (mapped _ checks) (mapped_starts _ check_start) done))))

  no_constraint : (other : Tokens) → Close other → column_constraint (suc left) other ≡ Ok (None, other)
  unfolding column_constraint
  no_constraint other i = (not_starts {F = Close} (lexeme.Word word.Not) (constraint_not (suc left))
      (not_starts (lexeme.Word word.Unique) (constraint_unique (suc left)) (not_starts (lexeme.Word word.Primary) (constraint_primary (suc left)) (not_starts (lexeme.Word word.References) (constraint_references (suc left)) (not_starts (lexeme.Word word.Check) (constraint_check (suc left)) done_starts (not_close (lexeme.Word word.Check) (λ ts. refl)))
      (not_close (lexeme.Word word.References) (λ ts. refl))) (not_close (lexeme.Word word.Primary) (λ ts. refl))) (not_close (lexeme.Word word.Unique) (λ ts. refl))) (not_close (lexeme.Word word.Not) (λ ts. refl))).reads other i

  column_definitions : (n : Name) → Viable (column_definition left n) (column_definition (suc left) n) Close
  unfolding column_definition
  column_definitions n = then_part {G = Close} _ _ (data_types no_open (not_close (lexeme.Word word.Varying) (λ ts. refl)))
      (λ t. then_part {G = Close} _ _ default_clauses (λ d. mapped _ (rows column_constraints no_constraint)) (λ d. mapped_starts _ (rows_start column_constraints no_constraint)) (λ d other i. i) (λ other i. i))
      (λ t. starts_with {G = Close} _ (blank default_blank) (mapped_starts _ (rows_start column_constraints no_constraint)) (λ other i. i)) (λ t other i. i) (λ other i. i)

  column_start : (n : Name) → Starts (column_definition (suc left) n) Close
  unfolding column_definition
  column_start n = starts_with {G = Close} _ (from data_type_begun) (starts_with {G = Close} _ (blank default_blank) (mapped_starts _ (rows_start column_constraints no_constraint)) (λ other i. i)) (λ other i. i)

-- ---- tables

foreign_keys : Viable foreign_key foreign_key Close
unfolding foreign_key
foreign_keys = must (lexeme.Word word.Key) (λ ts. refl) (then_part {G = Any} _ _ bracketed_columns (λ cs. mapped _ all_references) (λ cs. mapped_starts _ references_start) (λ cs other i. tt) (λ other i. tt))
    (starts_with {G = Any} _ (from columns_begun) (mapped_starts _ references_start) (λ other i. tt))

foreign_key_start : Starts foreign_key Close
unfolding foreign_key
foreign_key_start = must_starts (lexeme.Word word.Key) (λ ts. refl) (starts_with {G = Any} _ (from columns_begun) (mapped_starts _ references_start) (λ other i. tt))

module _ (left : ℕ) where
  table_constraints : Viable (table_constraint left) (table_constraint (suc left)) Close
  unfolding table_constraint
  table_constraints =
      if_comes (lexeme.Word word.Unique) (element_unique left) (element_unique (suc left)) (inl (not_close (lexeme.Word word.Unique) (λ ts. refl))) (mapped _ bracketed_columns) (mapped_starts _ (from columns_begun))
      (if_comes (lexeme.Word word.Primary) (element_primary left) (element_primary (suc left)) (inl (not_close (lexeme.Word word.Primary) (λ ts. refl))) (must (lexeme.Word word.Key) (λ ts. refl) (mapped _ bracketed_columns) (mapped_starts _ (from columns_begun))) (must_starts (lexeme.Word word.Key) (λ ts. refl) (mapped_starts _ (from columns_begun)))
      (if_comes (lexeme.Word word.Foreign) (element_foreign left) (element_foreign (suc left)) (inl (not_close (lexeme.Word word.Foreign) (λ ts. refl))) (mapped _ foreign_keys) (mapped_starts _ foreign_key_start)
      (must (lexeme.Word word.Check) (λ ts. refl) (mapped _ (checks left)) (mapped_starts _ (check_start left)))))

  no_name : (other : Tokens) → Close other → first_of name_of other ≡ None
  no_name other i = ap (first_of name_of) i.1

  table_elements : Viable (table_element left) (table_element (suc left)) Close
  unfolding table_element
  table_elements = if_one name_of (element_name left) (element_name (suc left)) (inl no_name) (λ n. mapped _ (column_definitions left n)) (λ n. mapped_starts _ (column_start left n)) table_constraints

  table_element_start : Starts (table_element (suc left)) Close
  unfolding table_element
  table_element_start = one_starts name_of (element_name (suc left)) a_name (codes "A") refl (mapped_starts _ (column_start left (codes "A")))

no_comma : Not Close comma
no_comma = not_close comma (λ ts. refl)

dot_opens : Not (Begins opening) (lexeme.Symbol symbol.Dot)
dot_opens = not_begun opening (lexeme.Symbol symbol.Dot) (λ ts. refl)

-- the elements behind the bracket
abbrev up_to_close : ℕ → TableName → Parser TableDefinition
up_to_close left n = comma_separated (table_element left) >>= λ es. expect closing >> pure (record { name = n; elements = es })

module _ (left : ℕ) {F : Tokens → Type 0} where
  bracketed : (n : TableName) → Viable (up_to_close left n) (up_to_close (suc left) n) F
  bracketed n = then_some {G = Close} _ _ (commas (table_elements left) (table_element_start left) no_comma) (λ es. must closing (λ ts. refl) done done_starts) (λ es. must_starts closing (λ ts. refl) done_starts) (λ es other i. (_, refl)) (λ es. eats_first _ _ {F = Any} (eats_expect closing) (λ u. done))

  bracketed_start : (n : TableName) → Starts (up_to_close (suc left) n) F
  bracketed_start n = starts_with {G = Close} _ (commas_start (table_elements left) (table_element_start left) no_comma) (must_starts closing (λ ts. refl) done_starts) (λ other i. (_, refl))

  pub table_definitions : Viable (table_definition left) (table_definition (suc left)) F
  unfolding table_definition
  table_definitions = then_some {G = Begins opening} _ _ (tables dot_opens) (λ n. must opening (λ ts. refl) (bracketed n) (bracketed_start n)) (λ n. must_starts opening (λ ts. refl) (bracketed_start n)) (λ n other i. (_, refl)) (λ n. eats_first _ _ {F = F} (eats_expect opening) (λ u. bracketed n))

  pub table_definition_start : Starts (table_definition (suc left)) F
  unfolding table_definition
  table_definition_start = starts_with {G = Begins opening} _ (from (tables_begun dot_opens)) (must_starts opening (λ ts. refl) (bracketed_start _)) (λ other i. (_, refl))
