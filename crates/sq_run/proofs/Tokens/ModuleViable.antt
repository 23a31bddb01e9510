-- Module texts: what is read of one is the beginning of one.
use Rattle.std.proofs.Common.{◌≡◌, ℕ, suc, true, false, [], Option, Some, None, Ok, refl, sym, subst, inl, inr, ap, ◌∙◌, codes}
use Rattle.sq_lex.specs.declared.lexeme.Lexeme.{Lexeme}
use Rattle.sq_lex.specs.declared.lexeme.Lexeme.TheVariants as lexeme
use Rattle.sq_lex.specs.declared.symbol.Symbol.TheVariants as symbol
use Rattle.sq_lex.specs.declared.word.Word.TheVariants as word
use Rattle.sq_tree.specs.declared.module.Declaration.{Declaration}
use Rattle.sq_grammar.specs.Reading.{Tokens, ◌>>=◌, pure, eat, name, number_of, name_of, comma, comma_separated, sees}
use Rattle.sq_tree.specs.declared.module.Declaration.TheVariants.{Parameter}
use Rattle.sq_grammar.specs.DataType.{data_type}
use Rattle.sq_grammar.specs.Module.{by_sqlstate, by_sqlcode, by_colon, declaration_if_any, declared, declaration, uncommaed, by_comma, bare_declaration, by_open, declarations, procedure, by_number, sort_key, direction_if_any, sort_specification, by_sorts, order_by, ordered_query, cursor, by_procedure, by_declare, item, module_text}
use Rattle.sq_grammar.proofs.Ends.Follows.{ends_expr, ends_table}
use Rattle.sq_run.proofs.Tokens.Viable.{Any, Begins, Begun, Blank, Not, Starts, Viable, alike, alike_starts, begun, behind_it, blank, blanks, commas, commas_start, comes_starts, done, done_starts, eaten, eats_expect, eats_first, eats_next, eats_one, from, if_comes, if_one, mapped, mapped_starts, must, must_starts, never, not_begun, not_starts, one_starts, rows, rows_start, starts_with, then_part, then_some, uneaten}
use Rattle.sq_run.proofs.Tokens.NamesViable.{closing, name_starts, names, one_digit}
use Rattle.sq_run.proofs.Tokens.DataTypeViable.{data_type_begun, data_types}
use Rattle.sq_run.proofs.Tokens.CondViable.{AfterCond, Closes}
use Rattle.sq_run.proofs.Tokens.CondsViable.{and_then_same, and_then_twice}
use Rattle.sq_run.proofs.Tokens.QueryViable.{queries, query_begun}
use Rattle.sq_run.proofs.Tokens.StatementViable.{Semi, semi_not, semicolon, statement_starts, statements}

-- nothing follows
abbrev pub End : Tokens → Type 0
End ts = ts ≡ []

pub not_ended : (u : Lexeme) → Not End u
not_ended u other i = ap (sees u) i

pub end_closes_at : Closes []
end_closes_at = record { table = ends_table _ refl refl; bare = record { expr = ends_expr _ refl; comparison = refl; is = refl; not = refl; between = refl; in_word = refl; like = refl } }

pub end_closes : AfterCond End
end_closes other i = subst Closes (sym i) end_closes_at

-- ---- declarations

-- what may follow a declaration
pub record NoMore (F : Tokens → Type 0) : Type 0 where
  pub opens : Not F (lexeme.Symbol symbol.Open)
  pub varying : Not F (lexeme.Word word.Varying)
  pub colon : Not F (lexeme.Symbol symbol.Colon)
  pub code : Not F (lexeme.Word word.Sqlcode)
  pub state : Not F (lexeme.Word word.Sqlstate)

close_more : NoMore (Begins closing)
close_more = record { opens = not_begun closing (lexeme.Symbol symbol.Open) (λ ts. refl); varying = not_begun closing (lexeme.Word word.Varying) (λ ts. refl); colon = not_begun closing (lexeme.Symbol symbol.Colon) (λ ts. refl); code = not_begun closing (lexeme.Word word.Sqlcode) (λ ts. refl); state = not_begun closing (lexeme.Word word.Sqlstate) (λ ts. refl) }

semi_more : NoMore Semi
semi_more = record { opens = semi_not (lexeme.Symbol symbol.Open) (λ ts. refl); varying = semi_not (lexeme.Word word.Varying) (λ ts. refl); colon = semi_not (lexeme.Symbol symbol.Colon) (λ ts. refl); code = semi_not (lexeme.Word word.Sqlcode) (λ ts. refl); state = semi_not (lexeme.Word word.Sqlstate) (λ ts. refl) }

module _ {F : Tokens → Type 0} (no : NoMore F) where
  parameters_of : Viable (by_colon true) (by_colon true) F
  parameters_of = then_part {G = Any} _ _ names (λ n. mapped _ (data_types no.opens no.varying)) (λ n. mapped_starts _ (from data_type_begun)) (λ n other i. tt) (λ other i. tt)

  parameter_starts : Starts (by_colon true) F
  parameter_starts = starts_with {G = Any} _ name_starts (mapped_starts _ (from data_type_begun)) (λ other i. tt)

  declarations_or_none : Viable declaration_if_any declaration_if_any F
  unfolding declaration_if_any
  declarations_or_none = if_comes (lexeme.Symbol symbol.Colon) by_colon by_colon (inl no.colon) parameters_of parameter_starts
      (if_comes (lexeme.Word word.Sqlcode) by_sqlcode by_sqlcode (inl no.code) done done_starts (if_comes (lexeme.Word word.Sqlstate) by_sqlstate by_sqlstate (inl no.state) done done_starts done))

  parameter_same : (ts : Tokens) → (by_colon true >>= declared) ts ≡ (name >>= λ n. data_type >>= λ t. pure (Parameter n t)) ts
  parameter_same ts = and_then_twice (name ts) (λ n. data_type >>= λ t. pure (Some (Parameter n t))) declared ∙ and_then_same (name ts) _ _ (λ n us. and_then_twice (data_type us) (λ t. pure (Some (Parameter n t))) declared)

  declared_parameters : Viable (by_colon true >>= declared) (by_colon true >>= declared) F
  declared_parameters = alike parameter_same parameter_same (then_part {G = Any} _ _ names (λ n. mapped _ (data_types no.opens no.varying)) (λ n. mapped_starts _ (from data_type_begun)) (λ n other i. tt) (λ other i. tt))

  declared_starts : Starts (by_colon true >>= declared) F
  declared_starts = alike_starts parameter_same (starts_with {G = Any} _ name_starts (mapped_starts _ (from data_type_begun)) (λ other i. tt))

  states : Viable (by_sqlcode false >>= declared) (by_sqlcode false >>= declared) F
  states = alike (λ ts. and_then_twice (eat (lexeme.Word word.Sqlstate) ts) by_sqlstate declared) (λ ts. and_then_twice (eat (lexeme.Word word.Sqlstate) ts) by_sqlstate declared)
      (if_comes (lexeme.Word word.Sqlstate) (λ b. by_sqlstate b >>= declared) (λ b. by_sqlstate b >>= declared) (inl no.state) done done_starts never)

  codes_or_states : Viable (by_colon false >>= declared) (by_colon false >>= declared) F
  codes_or_states = alike (λ ts. and_then_twice (eat (lexeme.Word word.Sqlcode) ts) by_sqlcode declared) (λ ts. and_then_twice (eat (lexeme.Word word.Sqlcode) ts) by_sqlcode declared)
      (if_comes (lexeme.Word word.Sqlcode) (λ b. by_sqlcode b >>= declared) (λ b. by_sqlcode b >>= declared) (inl no.code) done done_starts states)

  one_declaration : Viable declaration declaration F
  unfolding declaration declaration_if_any
  one_declaration = alike (λ ts. and_then_twice (eat (lexeme.Symbol symbol.Colon) ts) by_colon declared) (λ ts. and_then_twice (eat (lexeme.Symbol symbol.Colon) ts) by_colon declared)
      (if_comes (lexeme.Symbol symbol.Colon) (λ b. by_colon b >>= declared) (λ b. by_colon b >>= declared) (inl no.colon) declared_parameters declared_starts codes_or_states)

  declaration_begun : Begun declaration F (lexeme.Symbol symbol.Colon)
  unfolding declaration declaration_if_any
  declaration_begun = let k = declared_starts in begun (lexeme.Symbol symbol.Colon) _ (alike_starts (λ ts. and_then_twice (eat (lexeme.Symbol symbol.Colon) ts) by_colon declared) (comes_starts (lexeme.Symbol symbol.Colon) (λ b. by_colon b >>= declared) refl k)) refl

by_uncommaed : (o : Option Declaration) → Viable (uncommaed o) (uncommaed o) Semi
by_uncommaed None = done
by_uncommaed (Some d) = done

uncommaed_blank : (o : Option Declaration) → Blank (uncommaed o) Semi
uncommaed_blank None = blanks done_starts refl
uncommaed_blank (Some d) = blanks done_starts refl

semi_no_comma : Not Semi comma
semi_no_comma = semi_not comma (λ ts. refl)

bare_declarations : Viable bare_declaration bare_declaration Semi
unfolding bare_declaration
bare_declarations = if_comes comma by_comma by_comma (inl semi_no_comma) (mapped _ (one_declaration semi_more)) (mapped_starts _ (from (declaration_begun semi_more)))
    (then_part {G = Semi} _ _ (declarations_or_none semi_more) by_uncommaed (λ o. blank (uncommaed_blank o)) (λ o other i. i) (λ other i. i))

no_bare : (other : Tokens) → Semi other → bare_declaration other ≡ Ok (None, other)
unfolding bare_declaration declaration_if_any
no_bare other i =
    (not_starts {F = Semi} comma by_comma
    (starts_with {G = Semi} uncommaed (not_starts (lexeme.Symbol symbol.Colon) by_colon (not_starts (lexeme.Word word.Sqlcode) by_sqlcode (not_starts (lexeme.Word word.Sqlstate) by_sqlstate done_starts semi_more.state) semi_more.code) semi_more.colon) done_starts (λ o j. j)) semi_no_comma).reads other i

listed_declarations : Viable (comma_separated declaration) (comma_separated declaration) (Begins closing)
listed_declarations = commas (one_declaration close_more) (from (declaration_begun close_more)) (not_begun closing comma (λ ts. refl))

listed_start : Starts (comma_separated declaration) (Begins closing)
listed_start = commas_start (one_declaration close_more) (from (declaration_begun close_more)) (not_begun closing comma (λ ts. refl))

all_declarations : Viable declarations declarations Semi
unfolding declarations
all_declarations = if_comes (lexeme.Symbol symbol.Open) by_open by_open (inl (semi_not (lexeme.Symbol symbol.Open) (λ ts. refl)))
    (then_some {G = Begins closing} _ _ listed_declarations (λ ds. must closing (λ ts. refl) done done_starts) (λ ds. must_starts closing (λ ts. refl) done_starts) (λ ds other i. (_, refl)) (λ ds. eats_first _ _ {F = Semi} (eats_expect closing) (λ u. done)))
    (starts_with {G = Begins closing} _ listed_start (must_starts closing (λ ts. refl) done_starts) (λ other i. (_, refl)))
    (then_part {G = Semi} _ _ (one_declaration semi_more) (λ x. mapped _ (rows bare_declarations no_bare)) (λ x. mapped_starts _ (rows_start bare_declarations no_bare)) (λ x other i. i) (λ other i. i))

declarations_start : Starts declarations Semi
unfolding declarations
declarations_start = comes_starts (lexeme.Symbol symbol.Open) by_open refl (starts_with {G = Begins closing} _ listed_start (must_starts closing (λ ts. refl) done_starts) (λ other i. (_, refl)))

-- ---- procedures

module _ (left : ℕ) {F : Tokens → Type 0} where
  procedures : Viable (procedure left) (procedure (suc left)) F
  unfolding procedure
  procedures = then_part {G = Any} _ _ names
      (λ n. then_some {G = Semi} _ _ all_declarations
      (λ ds. must semicolon (λ ts. refl) (then_some {G = Semi} _ _ (statements left) (λ s. must semicolon (λ ts. refl) done done_starts) (λ s. must_starts semicolon (λ ts. refl) done_starts) (λ s other i. (_, refl)) (λ s. eats_first _ _ {F = Any} (eats_expect semicolon) (λ u. done)))
      (starts_with {G = Semi} _ (statement_starts left) (must_starts semicolon (λ ts. refl) done_starts) (λ other i. (_, refl))))
      (λ ds. must_starts semicolon (λ ts. refl) (starts_with {G = Semi} _ (statement_starts left) (must_starts semicolon (λ ts. refl) done_starts) (λ other i. (_, refl))))
      (λ ds other i. (_, refl))
      (λ ds. eats_first _ _ {F = F} (eats_expect semicolon) (λ u. then_some {G = Semi} _ _ (statements left) (λ s. must semicolon (λ ts. refl) done done_starts) (λ s. must_starts semicolon (λ ts. refl) done_starts) (λ s other i. (_, refl)) (λ s. eats_first _ _ {F = Any} (eats_expect semicolon) (λ v. done)))))
      (λ n. starts_with {G = Semi} _ declarations_start (must_starts semicolon (λ ts. refl) (starts_with {G = Semi} _ (statement_starts left) (must_starts semicolon (λ ts. refl) done_starts) (λ other i. (_, refl)))) (λ other i. (_, refl)))
      (λ n other i. tt) (λ other i. tt)

  procedure_start : Starts (procedure (suc left)) F
  unfolding procedure
  procedure_start = starts_with {G = Any} _ name_starts (starts_with {G = Semi} _ declarations_start (must_starts semicolon (λ ts. refl) (starts_with {G = Semi} _ (statement_starts left) (must_starts semicolon (λ ts. refl) done_starts) (λ other i. (_, refl)))) (λ other i. (_, refl))) (λ other i. tt)

-- ---- cursors

module _ {F : Tokens → Type 0} where
  sort_keys : Viable sort_key sort_key F
  unfolding sort_key
  sort_keys = if_one number_of by_number by_number (inr (eats_first _ _ {F = Any} (eats_one name_of) (λ n. done))) (λ n. done) (λ n. done_starts) (mapped _ names)

  sort_key_starts : Starts sort_key F
  unfolding sort_key
  sort_key_starts = one_starts number_of by_number one_digit (codes "1") refl done_starts

directions : Viable direction_if_any direction_if_any End
directions = if_comes _ _ _ (inl (not_ended (lexeme.Word word.Asc))) done done_starts (if_comes _ _ _ (inl (not_ended (lexeme.Word word.Desc))) done done_starts done)

abbrev direction_starts : Starts direction_if_any End
direction_starts = not_starts (lexeme.Word word.Asc) _ (not_starts (lexeme.Word word.Desc) _ done_starts (not_ended (lexeme.Word word.Desc))) (not_ended (lexeme.Word word.Asc))

sorts : Viable sort_specification sort_specification End
unfolding sort_specification
sorts = then_part {G = Any} _ _ sort_keys (λ k. mapped _ directions) (λ k. mapped_starts _ direction_starts) (λ k other i. tt) (λ other i. tt)

sort_starts : Starts sort_specification End
unfolding sort_specification
sort_starts = starts_with {G = Any} _ sort_key_starts (mapped_starts _ direction_starts) (λ other i. tt)

sort_lists : Viable by_sorts by_sorts End
unfolding by_sorts
sort_lists = must (lexeme.Word word.By) (λ ts. refl) (commas sorts sort_starts (not_ended comma)) (commas_start sorts sort_starts (not_ended comma))

sort_list_starts : Starts by_sorts End
unfolding by_sorts
sort_list_starts = must_starts (lexeme.Word word.By) (λ ts. refl) (commas_start sorts sort_starts (not_ended comma))

orders : Viable order_by order_by End
unfolding order_by
orders = behind_it (lexeme.Word word.Order) sort_lists sort_list_starts (not_ended (lexeme.Word word.Order))

order_blank : Blank order_by End
unfolding order_by
order_blank = blanks (not_starts (lexeme.Word word.Order) _ done_starts (not_ended (lexeme.Word word.Order))) refl

end_no_union : Not End (lexeme.Word word.Union)
end_no_union = not_ended (lexeme.Word word.Union)

no_insensitive : Not (Begins (lexeme.Word word.Cursor)) (lexeme.Word word.Insensitive)
no_insensitive = not_begun (lexeme.Word word.Cursor) (lexeme.Word word.Insensitive) (λ ts. refl)

no_scroll : Not (Begins (lexeme.Word word.Cursor)) (lexeme.Word word.Scroll)
no_scroll = not_begun (lexeme.Word word.Cursor) (lexeme.Word word.Scroll) (λ ts. refl)

end_semicolons : Viable (eat semicolon) (eat semicolon) End
end_semicolons = eaten semicolon (not_ended semicolon)

abbrev end_semicolon : Starts (eat semicolon) End
end_semicolon = uneaten semicolon (not_ended semicolon)

module _ (left : ℕ) where
  ordered_queries : Viable (ordered_query left) (ordered_query (suc left)) End
  unfolding ordered_query
  ordered_queries = then_part {G = End} _ _ (queries left end_closes end_no_union) (λ q. mapped _ orders) (λ q. mapped_starts _ (blank order_blank)) (λ q other i. i) (λ other i. i)

  ordered_starts : Starts (ordered_query (suc left)) End
  unfolding ordered_query
  ordered_starts = starts_with {G = End} _ (from (query_begun (suc left) end_closes end_no_union)) (mapped_starts _ (blank order_blank)) (λ other i. i)

  cursors : Viable (cursor left) (cursor (suc left)) End
  unfolding cursor
  cursors = then_part {G = Any} _ _ names
      (λ n. then_some {G = Begins (lexeme.Word word.Cursor)} _ _ (eaten (lexeme.Word word.Insensitive) no_insensitive)
      (λ i. then_some {G = Begins (lexeme.Word word.Cursor)} _ _ (eaten (lexeme.Word word.Scroll) no_scroll)
      (λ s. must (lexeme.Word word.Cursor) (λ ts. refl) (must (lexeme.Word word.For) (λ ts. refl) (then_part {G = End} _ _ ordered_queries (λ q. mapped _ end_semicolons) (λ q. mapped_starts _ end_semicolon) (λ q other i. i) (λ other i. i)) (starts_with {G = End} _ ordered_starts (mapped_starts _ end_semicolon) (λ other i. i)))
      (must_starts (lexeme.Word word.For) (λ ts. refl) (starts_with {G = End} _ ordered_starts (mapped_starts _ end_semicolon) (λ other i. i))))
      (λ s. must_starts (lexeme.Word word.Cursor) (λ ts. refl) (must_starts (lexeme.Word word.For) (λ ts. refl) (starts_with {G = End} _ ordered_starts (mapped_starts _ end_semicolon) (λ other i. i))))
      (λ s other i. (_, refl))
      (λ s. eats_first _ _ {F = End} (eats_expect (lexeme.Word word.Cursor)) (λ u. must (lexeme.Word word.For) (λ ts. refl) (then_part {G = End} _ _ ordered_queries (λ q. mapped _ end_semicolons) (λ q. mapped_starts _ end_semicolon) (λ q other i. i) (λ other i. i)) (starts_with {G = End} _ ordered_starts (mapped_starts _ end_semicolon) (λ other i. i)))))
      (λ i. starts_with {G = Begins (lexeme.Word word.Cursor)} _ (uneaten (lexeme.Word word.Scroll) no_scroll) (must_starts (lexeme.Word word.Cursor) (λ ts. refl) (must_starts (lexeme.Word word.For) (λ ts. refl) (starts_with {G = End} _ ordered_starts (mapped_starts _ end_semicolon) (λ other i. i)))) (λ other i. (_, refl)))
      (λ i other j. (_, refl))
      (λ i. eats_next _ (eaten (lexeme.Word word.Scroll) no_scroll) (λ s. eats_first _ _ {F = End} (eats_expect (lexeme.Word word.Cursor)) (λ u. must (lexeme.Word word.For) (λ ts. refl) (then_part {G = End} _ _ ordered_queries (λ q. mapped _ end_semicolons) (λ q. mapped_starts _ end_semicolon) (λ q other i. i) (λ other i. i)) (starts_with {G = End} _ ordered_starts (mapped_starts _ end_semicolon) (λ other i. i))))))
      (λ n. starts_with {G = Begins (lexeme.Word word.Cursor)} _ (uneaten (lexeme.Word word.Insensitive) no_insensitive) (starts_with {G = Begins (lexeme.Word word.Cursor)} _ (uneaten (lexeme.Word word.Scroll) no_scroll) (must_starts (lexeme.Word word.Cursor) (λ ts. refl) (must_starts (lexeme.Word word.For) (λ ts. refl) (starts_with {G = End} _ ordered_starts (mapped_starts _ end_semicolon) (λ other i. i)))) (λ other i. (_, refl))) (λ other i. (_, refl)))
      (λ n other i. tt) (λ other i. tt)

  cursor_starts : Starts (cursor (suc left)) End
  unfolding cursor
  cursor_starts = starts_with {G = Any} _ name_starts (starts_with {G = Begins (lexeme.Word word.Cursor)} _ (uneaten (lexeme.Word word.Insensitive) no_insensitive) (starts_with {G = Begins (lexeme.Word word.Cursor)} _ (uneaten (lexeme.Word word.Scroll) no_scroll) (must_starts (lexeme.Word word.Cursor) (λ ts. refl) (must_starts (lexeme.Word word.For) (λ ts. refl) (starts_with {G = End} _ ordered_starts (mapped_starts _ end_semicolon) (λ other i. i)))) (λ other i. (_, refl))) (λ other i. (_, refl))) (λ other i. tt)

  items : Viable (item left) (item (suc left)) End
  unfolding item
  items = if_comes (lexeme.Word word.Declare) (by_declare left) (by_declare (suc left)) (inl (not_ended (lexeme.Word word.Declare))) (mapped _ cursors) (mapped_starts _ cursor_starts)
      (if_comes (lexeme.Word word.Procedure) (by_procedure left) (by_procedure (suc left)) (inl (not_ended (lexeme.Word word.Procedure))) (mapped _ (procedures left)) (mapped_starts _ (procedure_start left)) done)

  no_item : (other : Tokens) → End other → item (suc left) other ≡ Ok (None, other)
  unfolding item
  no_item other i = (not_starts {F = End} (lexeme.Word word.Declare) (by_declare (suc left)) (not_starts (lexeme.Word word.Procedure) (by_procedure (suc left)) done_starts (not_ended (lexeme.Word word.Procedure))) (not_ended (lexeme.Word word.Declare))).reads other i

  pub modules : Viable (module_text left) (module_text (suc left)) End
  unfolding module_text
  modules = must (lexeme.Word word.Module) (λ ts. refl) (then_part {G = Any} _ _ names
      (λ n. must (lexeme.Word word.Language) (λ ts. refl) (then_part {G = Any} _ _ names
      (λ l. must (lexeme.Word word.Authorization) (λ ts. refl) (then_part {G = Any} _ _ names (λ a. mapped _ (rows items no_item)) (λ a. mapped_starts _ (rows_start items no_item)) (λ a other i. tt) (λ other i. tt)) (starts_with {G = Any} _ name_starts (mapped_starts _ (rows_start items no_item)) (λ other i. tt)))
      (λ l. must_starts (lexeme.Word word.Authorization) (λ ts. refl) (starts_with {G = Any} _ name_starts (mapped_starts _ (rows_start items no_item)) (λ other i. tt))) (λ l other i. tt) (λ other i. tt))
      (starts_with {G = Any} _ name_starts (must_starts (lexeme.Word word.Authorization) (λ ts. refl) (starts_with {G = Any} _ name_starts (mapped_starts _ (rows_start items no_item)) (λ other i. tt))) (λ other i. tt)))
      (λ n. must_starts (lexeme.Word word.Language) (λ ts. refl) (starts_with {G = Any} _ name_starts (must_starts (lexeme.Word word.Authorization) (λ ts. refl) (starts_with {G = Any} _ name_starts (mapped_starts _ (rows_start items no_item)) (λ other i. tt))) (λ other i. tt))) (λ n other i. tt) (λ other i. tt))
      (starts_with {G = Any} _ name_starts (must_starts (lexeme.Word word.Language) (λ ts. refl) (starts_with {G = Any} _ name_starts (must_starts (lexeme.Word word.Authorization) (λ ts. refl) (starts_with {G = Any} _ name_starts (mapped_starts _ (rows_start items no_item)) (λ other i. tt))) (λ other i. tt))) (λ other i. tt))

  pub module_starts : Starts (module_text (suc left)) End
  unfolding module_text
  module_starts = must_starts (lexeme.Word word.Module) (λ ts. refl)
      (starts_with {G = Any} _ name_starts (must_starts (lexeme.Word word.Language) (λ ts. refl) (starts_with {G = Any} _ name_starts (must_starts (lexeme.Word word.Authorization) (λ ts. refl) (starts_with {G = Any} _ name_starts (mapped_starts _ (rows_start items no_item)) (λ other i. tt))) (λ other i. tt))) (λ other i. tt))
