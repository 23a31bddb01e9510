-- Grants and views: what is read of one is the beginning of one.
use Rattle.std.proofs.Common.{◌≡◌, ℕ, suc, Bool, false, ◌∷◌, Option, refl, inl, inr}
use Rattle.sq_lex.specs.declared.lexeme.Lexeme.{Lexeme}
use Rattle.sq_lex.specs.declared.lexeme.Lexeme.TheVariants as lexeme
use Rattle.sq_lex.specs.declared.symbol.Symbol.TheVariants as symbol
use Rattle.sq_lex.specs.declared.word.Word.TheVariants as word
use Rattle.sq_tree.specs.declared.names.TableName.{TableName}
use Rattle.sq_lex.specs.declared.name.Name.{Name}
use Rattle.sq_tree.specs.declared.list.CommaList.{CommaList}
use Rattle.sq_tree.specs.declared.schema.ViewDefinition.{ViewDefinition}
use Rattle.sq_tree.specs.declared.schema.GrantStatement.{GrantStatement}
use Rattle.sq_tree.specs.declared.schema.Privileges.{Privileges}
use Rattle.sq_grammar.specs.Reading.{Tokens, Parser, ◌>>=◌, ◌>>◌, pure, eat, expect, sees, comma, comma_separated}
use Rattle.sq_grammar.specs.Names.{table_name, columns_if_any}
use Rattle.sq_grammar.specs.Cond.{query_specification}
use Rattle.sq_grammar.specs.Schema.{by_with_check, check_option, view_definition, action_update, action_delete, action_insert, action_select, action, by_all, privileges, by_public, grantee, by_with_grant, grant_option, grant}
use Rattle.sq_run.proofs.Tokens.Viable.{Begins, Begun, Blank, Eats, Not, Starts, Viable, begun, blank, blanks, commas, commas_start, comes_starts, done, done_starts, eaten, eats_expect, eats_first, eats_next, eats_one, from, if_comes, mapped, mapped_starts, must, must_starts, not_begun, not_starts, starts_with, then_part, then_some, uneaten}
use Rattle.sq_run.proofs.Tokens.NamesViable.{a_name, columns_blank, columns_or_none, names, tables, tables_begun}
use Rattle.sq_run.proofs.Tokens.CondViable.{AfterCond}
use Rattle.sq_run.proofs.Tokens.CondsViable.{query_specification_begun, query_specifications}

-- ---- views

abbrev As : Tokens → Type 0
As = Begins (lexeme.Word word.As)

no_open : Not As (lexeme.Symbol symbol.Open)
no_open = not_begun (lexeme.Word word.As) (lexeme.Symbol symbol.Open) (λ ts. refl)

no_dot : Not As (lexeme.Symbol symbol.Dot)
no_dot = not_begun (lexeme.Word word.As) (lexeme.Symbol symbol.Dot) (λ ts. refl)

-- the parts of a view behind AS, and behind its name
abbrev as_query : ℕ → TableName → Option (CommaList Name) → Parser ViewDefinition
as_query left n cs = query_specification left >>= λ q. check_option >>= λ o. pure (record { name = n; columns = cs; query = q; check_option = o })

abbrev of_columns : ℕ → TableName → Parser ViewDefinition
of_columns left n = columns_if_any >>= λ cs. expect (lexeme.Word word.As) >> as_query left n cs

module _ (left : ℕ) {F : Tokens → Type 0} (closes : AfterCond F) (no_with : Not F (lexeme.Word word.With)) where
  check_options : Viable check_option check_option F
  unfolding check_option
  check_options = if_comes (lexeme.Word word.With) by_with_check by_with_check (inl no_with)
      (must (lexeme.Word word.Check) (λ ts. refl) (must (lexeme.Word word.Option) (λ ts. refl) done done_starts) (must_starts (lexeme.Word word.Option) (λ ts. refl) done_starts))
      (must_starts (lexeme.Word word.Check) (λ ts. refl) (must_starts (lexeme.Word word.Option) (λ ts. refl) done_starts)) done

  check_blank : Blank check_option F
  unfolding check_option
  check_blank = blanks (not_starts (lexeme.Word word.With) by_with_check done_starts no_with) refl

  queries : (n : TableName) (cs : Option (CommaList Name)) → Viable (as_query left n cs) (as_query (suc left) n cs) F
  queries n cs = then_part {G = F} _ _ (query_specifications left closes) (λ q. mapped _ check_options) (λ q. mapped_starts _ (blank check_blank)) (λ q other i. i) (λ other i. i)

  query_start : (n : TableName) (cs : Option (CommaList Name)) → Starts (as_query (suc left) n cs) F
  query_start n cs = starts_with {G = F} _ (from (query_specification_begun left closes)) (mapped_starts _ (blank check_blank)) (λ other i. i)

  query_eats : (n : TableName) (cs : Option (CommaList Name)) → Eats (expect (lexeme.Word word.As) >> as_query left n cs)
  query_eats n cs = eats_first _ _ {F = F} (eats_expect (lexeme.Word word.As)) (λ u. queries n cs)

  view_queries : (n : TableName) → Viable (of_columns left n) (of_columns (suc left) n) F
  view_queries n = then_some {G = As} _ _ (columns_or_none no_open) (λ cs. must (lexeme.Word word.As) (λ ts. refl) (queries n cs) (query_start n cs)) (λ cs. must_starts (lexeme.Word word.As) (λ ts. refl) (query_start n cs)) (λ cs other i. (_, refl)) (λ cs. query_eats n cs)

  view_query_begun : (n : TableName) → Begun (of_columns (suc left) n) F (lexeme.Word word.As)
  view_query_begun n = begun (lexeme.Word word.As) _ (starts_with {G = As} _ (blank (columns_blank no_open)) (must_starts (lexeme.Word word.As) (λ ts. refl) (query_start n _)) (λ other i. (_, refl))) refl

  pub view_definitions : Viable (view_definition left) (view_definition (suc left)) F
  unfolding view_definition
  view_definitions = then_some {G = As} _ _ (tables no_dot) (λ n. view_queries n) (λ n. from (view_query_begun n)) (λ n other i. (_, refl)) (λ n. eats_next _ (columns_or_none no_open) (λ cs. query_eats n cs))

  pub view_definition_start : Starts (view_definition (suc left)) F
  unfolding view_definition
  view_definition_start = starts_with {G = As} _ (from (tables_begun no_dot)) (from (view_query_begun _)) (λ other i. (_, refl))

-- ---- grants

abbrev On : Tokens → Type 0
On = Begins (lexeme.Word word.On)

not_on : (u : Lexeme) → ((ts : Tokens) → sees u (lexeme.Word word.On ∷ ts) ≡ false) → Not On u
not_on u e = not_begun (lexeme.Word word.On) u e

on_opens : Not On (lexeme.Symbol symbol.Open)
on_opens = not_on (lexeme.Symbol symbol.Open) (λ ts. refl)

actions : Viable action action On
unfolding action
actions =
    if_comes (lexeme.Word word.Select) action_select action_select (inl (not_on (lexeme.Word word.Select) (λ ts. refl))) done done_starts
    (if_comes (lexeme.Word word.Insert) action_insert action_insert (inl (not_on (lexeme.Word word.Insert) (λ ts. refl))) done done_starts
    (if_comes (lexeme.Word word.Delete) action_delete action_delete (inl (not_on (lexeme.Word word.Delete) (λ ts. refl))) done done_starts
    (if_comes (lexeme.Word word.Update) action_update action_update (inl (not_on (lexeme.Word word.Update) (λ ts. refl))) (mapped _ (columns_or_none on_opens)) (mapped_starts _ (blank (columns_blank on_opens)))
    (must (lexeme.Word word.References) (λ ts. refl) (mapped _ (columns_or_none on_opens)) (mapped_starts _ (blank (columns_blank on_opens)))))))

action_start : Starts action On
unfolding action
action_start = comes_starts (lexeme.Word word.Select) action_select refl done_starts

on_comma : Not On comma
on_comma = not_on comma (λ ts. refl)

all_privileges : Viable privileges privileges On
unfolding privileges
all_privileges = if_comes (lexeme.Word word.All) by_all by_all (inl (not_on (lexeme.Word word.All) (λ ts. refl))) (must (lexeme.Word word.Privileges) (λ ts. refl) done done_starts) (must_starts (lexeme.Word word.Privileges) (λ ts. refl) done_starts) (mapped _ (commas actions action_start on_comma))

privileges_start : Starts privileges On
unfolding privileges
privileges_start = comes_starts (lexeme.Word word.All) by_all refl (must_starts (lexeme.Word word.Privileges) (λ ts. refl) done_starts)

abbrev Named : Tokens → Type 0
Named = Begins a_name

no_table : Not Named (lexeme.Word word.Table)
no_table = not_begun a_name (lexeme.Word word.Table) (λ ts. refl)

abbrev To : Tokens → Type 0
To = Begins (lexeme.Word word.To)

to_dot : Not To (lexeme.Symbol symbol.Dot)
to_dot = not_begun (lexeme.Word word.To) (lexeme.Symbol symbol.Dot) (λ ts. refl)

module _ {F : Tokens → Type 0} where
  grantees : Viable grantee grantee F
  unfolding grantee
  grantees = if_comes (lexeme.Word word.Public) by_public by_public (inr (eats_first _ _ {F = F} (eats_one _) (λ n. done))) done done_starts (mapped _ names)

  grantee_start : Starts grantee F
  unfolding grantee
  grantee_start = comes_starts (lexeme.Word word.Public) by_public refl done_starts

-- the parts of a grant behind TO, and behind ON
abbrev to_grantees : Privileges → Bool → TableName → Parser GrantStatement
to_grantees ps w t = comma_separated grantee >>= λ gs. grant_option >>= λ o. pure (record { privileges = ps; table_word = w; table = t; grantees = gs; grant_option = o })

abbrev on_table : Privileges → Bool → Parser GrantStatement
on_table ps w = table_name >>= λ t. expect (lexeme.Word word.To) >> to_grantees ps w t

abbrev on_object : Privileges → Parser GrantStatement
on_object ps = eat (lexeme.Word word.Table) >>= λ w. on_table ps w

module _ {F : Tokens → Type 0} (no_comma : Not F comma) (no_with : Not F (lexeme.Word word.With)) where
  grant_options : Viable grant_option grant_option F
  unfolding grant_option
  grant_options = if_comes (lexeme.Word word.With) by_with_grant by_with_grant (inl no_with)
      (must (lexeme.Word word.Grant) (λ ts. refl) (must (lexeme.Word word.Option) (λ ts. refl) done done_starts) (must_starts (lexeme.Word word.Option) (λ ts. refl) done_starts))
      (must_starts (lexeme.Word word.Grant) (λ ts. refl) (must_starts (lexeme.Word word.Option) (λ ts. refl) done_starts)) done

  option_blank : Blank grant_option F
  unfolding grant_option
  option_blank = blanks (not_starts (lexeme.Word word.With) by_with_grant done_starts no_with) refl

  grantee_lists : (ps : Privileges) (w : Bool) (t : TableName) → Viable (to_grantees ps w t) (to_grantees ps w t) F
  grantee_lists ps w t = then_part {G = F} _ _ (commas grantees grantee_start no_comma) (λ gs. mapped _ grant_options) (λ gs. mapped_starts _ (blank option_blank)) (λ gs other i. i) (λ other i. i)

  grantees_start : (ps : Privileges) (w : Bool) (t : TableName) → Starts (to_grantees ps w t) F
  grantees_start ps w t = starts_with {G = F} _ (commas_start grantees grantee_start no_comma) (mapped_starts _ (blank option_blank)) (λ other i. i)

  to_eats : (ps : Privileges) (w : Bool) (t : TableName) → Eats (expect (lexeme.Word word.To) >> to_grantees ps w t)
  to_eats ps w t = eats_first _ _ {F = F} (eats_expect (lexeme.Word word.To)) (λ u. grantee_lists ps w t)

  granted_tables : (ps : Privileges) (w : Bool) → Viable (on_table ps w) (on_table ps w) F
  granted_tables ps w = then_some {G = To} _ _ (tables to_dot) (λ t. must (lexeme.Word word.To) (λ ts. refl) (grantee_lists ps w t) (grantees_start ps w t)) (λ t. must_starts (lexeme.Word word.To) (λ ts. refl) (grantees_start ps w t)) (λ t other i. (_, refl)) (λ t. to_eats ps w t)

  granted_table_begun : (ps : Privileges) (w : Bool) → Begun (on_table ps w) F a_name
  granted_table_begun ps w = begun a_name _ (starts_with {G = To} _ (from (tables_begun to_dot)) (must_starts (lexeme.Word word.To) (λ ts. refl) (grantees_start ps w _)) (λ other i. (_, refl))) refl

  objects : (ps : Privileges) → Viable (on_object ps) (on_object ps) F
  objects ps = then_some {G = Named} _ _ (eaten (lexeme.Word word.Table) no_table) (λ w. granted_tables ps w) (λ w. from (granted_table_begun ps w)) (λ w other i. (_, refl)) (λ w. eats_next _ (tables to_dot) (λ t. to_eats ps w t))

  object_start : (ps : Privileges) → Starts (on_object ps) F
  object_start ps = starts_with {G = Named} _ (uneaten (lexeme.Word word.Table) no_table) (from (granted_table_begun ps false)) (λ other i. (_, refl))

  pub grants : Viable grant grant F
  unfolding grant
  grants = then_some {G = On} _ _ all_privileges (λ ps. must (lexeme.Word word.On) (λ ts. refl) (objects ps) (object_start ps)) (λ ps. must_starts (lexeme.Word word.On) (λ ts. refl) (object_start ps)) (λ ps other i. (_, refl)) (λ ps. eats_first _ _ {F = F} (eats_expect (lexeme.Word word.On)) (λ u. objects ps))

  pub grant_start : Starts grant F
  unfolding grant
  grant_start = starts_with {G = On} _ privileges_start (must_starts (lexeme.Word word.On) (λ ts. refl) (object_start _)) (λ other i. (_, refl))
