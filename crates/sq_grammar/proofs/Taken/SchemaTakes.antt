-- The tokens of schema texts are read as them.
use Rattle.std.proofs.Common.{◌≡◌, ℕ, suc, ◌<◌, ◌≤◌, Bool, true, false, List, [], ◌∷◌, ◌++◌, length, Option, Some, None, Ok, refl, arith}
use Rattle.sq_lex.specs.declared.lexeme.Lexeme.TheVariants as lexeme
use Rattle.sq_lex.specs.declared.symbol.Symbol.TheVariants as symbol
use Rattle.sq_lex.specs.declared.word.Word.TheVariants as word
use Rattle.sq_lex.specs.declared.name.Name.{Name}
use Rattle.sq_tree.specs.Tree.{optional, if_written}
use Rattle.sq_tree.specs.List.{comma_tokens, row_tokens}
use Rattle.sq_tree.proofs.ListDepth.{row_depth}
use Rattle.sq_tree.specs.Names.{table_name_tokens, columns_tokens}
use Rattle.sq_tree.specs.DataType.{data_type_tokens}
use Rattle.sq_tree.specs.Cond.{cond_tokens, query_specification_tokens}
use Rattle.sq_tree.proofs.CondDepth.{cond_depth, query_specification_depth}
use Rattle.sq_tree.specs.Schema as tree
use Rattle.sq_tree.proofs.SchemaDepth as depths
use Rattle.sq_tree.specs.declared.list.CommaList.{CommaList}
use Rattle.sq_tree.specs.declared.names.TableName.{TableName}
use Rattle.sq_tree.specs.declared.data_type.DataType.{DataType}
use Rattle.sq_tree.specs.declared.cond.Cond.{Cond}
use Rattle.sq_tree.specs.declared.cond.QuerySpecification.{QuerySpecification}
use Rattle.sq_tree.specs.declared.schema.SchemaText.{SchemaText}
use Rattle.sq_tree.specs.declared.schema.SchemaDefinition.{SchemaDefinition}
use Rattle.sq_tree.specs.declared.schema.SchemaElement.{SchemaElement}
use Rattle.sq_tree.specs.declared.schema.SchemaElement.TheVariants.{Table, View, Grant}
use Rattle.sq_tree.specs.declared.schema.ViewDefinition.{ViewDefinition}
use Rattle.sq_tree.specs.declared.schema.GrantStatement.{GrantStatement}
use Rattle.sq_tree.specs.declared.schema.Privileges.{Privileges}
use Rattle.sq_tree.specs.declared.schema.Privileges.TheVariants as privilege
use Rattle.sq_tree.specs.declared.schema.Action.{Action}
use Rattle.sq_tree.specs.declared.schema.Action.TheVariants as actions
use Rattle.sq_tree.specs.declared.schema.Grantee.{Grantee}
use Rattle.sq_tree.specs.declared.schema.Grantee.TheVariants as grantees
use Rattle.sq_grammar.specs.Reading.{Tokens, Parser, sees, name, comma, comma_separated, all}
use Rattle.sq_grammar.specs.Names.{dot, table_name, columns_if_any}
use Rattle.sq_grammar.specs.DataType.{data_type}
use Rattle.sq_grammar.specs.Cond as conditions
use Rattle.sq_grammar.specs.Cond.{must_be_cond, query_specification}
use Rattle.sq_grammar.specs.Schema.{table_definition, check_option, view_definition, action, privileges, grantee, grant_option, grant, sees_created, created, nothing, element, schema_definition, next_definition, schema_text}
use Rattle.sq_grammar.proofs.Taken.Takes.{Takes, done, fits, andthen, plainly, mapped, word, mark, expected, eaten, uneaten, either, behind_it, a_name, named, seeing, unseeing, rows, follows, none_behind, commas, flat_commas}
use Rattle.sq_grammar.proofs.Ends.Follows.{EndsCond, EndsTable, ends_table}
use Rattle.sq_grammar.proofs.Taken.NamesTakes.{table_takes, columns_if_any_takes}
use Rattle.sq_grammar.proofs.Taken.TableTakes.{grouped, bracket_low, table_definition_takes}

-- what may not follow a view, a table or a grant
pub record EndsElement (rest : Tokens) : Type 0 where
  pub table : EndsTable rest
  pub with_word : sees (lexeme.Word word.With) rest ≡ false

-- what may not follow a schema definition without a semicolon
pub record EndsDefinition (rest : Tokens) : Type 0 where
  pub element : EndsElement rest
  pub grant : sees (lexeme.Word word.Grant) rest ≡ false
  pub created : sees_created rest ≡ false
  pub semicolon : sees (lexeme.Symbol symbol.Semicolon) rest ≡ false

-- the tokens that end a query, a view, a table or a grant
with_ends : (rest : Tokens) → EndsTable (lexeme.Word word.With ∷ rest)
with_ends rest = ends_table _ refl refl

create_ends : (rest : Tokens) → EndsElement (lexeme.Word word.Create ∷ rest)
create_ends rest = record { table = ends_table _ refl refl; with_word = refl }

grant_ends : (rest : Tokens) → EndsElement (lexeme.Word word.Grant ∷ rest)
grant_ends rest = record { table = ends_table _ refl refl; with_word = refl }

semicolon_ends : (rest : Tokens) → EndsElement (lexeme.Symbol symbol.Semicolon ∷ rest)
semicolon_ends rest = record { table = ends_table _ refl refl; with_word = refl }

text_ends : EndsElement []
text_ends = record { table = ends_table _ refl refl; with_word = refl }

abbrev check_words : Tokens
check_words = lexeme.Word word.With ∷ lexeme.Word word.Check ∷ lexeme.Word word.Option ∷ []

abbrev grant_words : Tokens
grant_words = lexeme.Word word.With ∷ lexeme.Word word.Grant ∷ lexeme.Word word.Option ∷ []

pub check_option_takes : (o : Bool) {a left : ℕ} {rest : Tokens} → sees (lexeme.Word word.With) rest ≡ false → Takes check_option (if_written o check_words) a a 0 left o rest
unfolding check_option
check_option_takes true none = eaten (word word.With) _ (expected (word word.Check) _ (expected (word word.Option) _ done))
check_option_takes false none = uneaten _ _ none done

pub grant_option_takes : (o : Bool) {a left : ℕ} {rest : Tokens} → sees (lexeme.Word word.With) rest ≡ false → Takes grant_option (if_written o grant_words) a a 0 left o rest
unfolding grant_option
grant_option_takes true none = eaten (word word.With) _ (expected (word word.Grant) _ (expected (word word.Option) _ done))
grant_option_takes false none = uneaten _ _ none done

-- ---- views

module _ (specification_takes : (left : ℕ) (q : QuerySpecification) (rest : Tokens) → EndsTable rest → Takes (query_specification left) (query_specification_tokens q) 0 0 (query_specification_depth q) left q rest) where
  -- behind CREATE VIEW
  pub view_definition_takes : (left : ℕ) → 0 < left → (v : ViewDefinition) (rest : Tokens) → EndsElement rest → Takes (view_definition left) (table_name_tokens v.name ++ optional columns_tokens v.columns ++ lexeme.Word word.As ∷ query_specification_tokens v.query ++ if_written v.check_option check_words) 0 0 (depths.view_definition_depth v) left v rest
  unfolding view_definition
  view_definition_takes left room v rest ends =
      let name : Tokens = table_name_tokens v.name in
      let cs : Tokens = optional columns_tokens v.columns in
      let query : Tokens = lexeme.Word word.As ∷ query_specification_tokens v.query in
      let option : Tokens = if_written v.check_option check_words in
      let low = bracket_low v.columns in
      grouped (name ++ cs) query option (grouped name cs (query ++ option) (fits (λ h. omega arith) (λ h. omega (arith, low, room))
      (plainly table_name _ v.name (table_takes v.name (behind_name v.columns))
      (plainly columns_if_any _ v.columns (columns_if_any_takes v.columns refl)
      (expected (word word.As) _
      (andthen (query_specification left) _ v.query (specification_takes left v.query (option ++ rest) (behind_query v.check_option))
      (mapped check_option _ v.check_option (check_option_takes v.check_option ends.with_word) refl)))))))
    where
      behind_name : (o : Option (CommaList Name)) → sees dot ((optional columns_tokens o ++ lexeme.Word word.As ∷ (query_specification_tokens v.query ++ if_written v.check_option check_words)) ++ rest) ≡ false
      behind_name None = refl
      behind_name (Some cs) = refl

      behind_query : (o : Bool) → EndsTable (if_written o check_words ++ rest)
      behind_query true = with_ends (lexeme.Word word.Check ∷ lexeme.Word word.Option ∷ rest)
      behind_query false = ends.table

-- ---- grants

pub action_takes : (x : Action) {a left : ℕ} {rest : Tokens} → 0 < left → sees (lexeme.Symbol symbol.Open) rest ≡ false → Takes action (tree.action_tokens x) a a (depths.action_depth x) left x rest
unfolding action
action_takes actions.Select room none = eaten (word word.Select) _ done
action_takes actions.Insert room none = uneaten _ _ refl (eaten (word word.Insert) _ done)
action_takes actions.Delete room none = uneaten _ _ refl (uneaten _ _ refl (eaten (word word.Delete) _ done))
action_takes (actions.Update o) room none =
    let low = bracket_low o in
    fits (λ h. omega arith) (λ h. omega (arith, low, room)) (uneaten _ _ refl (uneaten _ _ refl (uneaten _ _ refl (eaten (word word.Update) _ (mapped columns_if_any _ o (columns_if_any_takes o none) refl)))))
action_takes (actions.References o) room none =
    let low = bracket_low o in
    fits (λ h. omega arith) (λ h. omega (arith, low, room)) (uneaten _ _ refl (uneaten _ _ refl (uneaten _ _ refl (uneaten _ _ refl (expected (word word.References) _ (mapped columns_if_any _ o (columns_if_any_takes o none) refl))))))

-- no action starts with ALL
action_no_all : (x : Action) (more rest : Tokens) → sees (lexeme.Word word.All) ((tree.action_tokens x ++ more) ++ rest) ≡ false
action_no_all actions.Select more rest = refl
action_no_all actions.Insert more rest = refl
action_no_all actions.Delete more rest = refl
action_no_all (actions.Update o) more rest = refl
action_no_all (actions.References o) more rest = refl

pub privileges_takes : (ps : Privileges) {a left : ℕ} {rest : Tokens} → 0 < left → sees (lexeme.Symbol symbol.Open) rest ≡ false → sees comma rest ≡ false → Takes privileges (tree.privileges_tokens ps) a a (depths.privileges_depth ps) left ps rest
unfolding privileges
privileges_takes privilege.All room no_open no_comma = eaten (word word.All) _ (expected (word word.Privileges) _ done)
privileges_takes (privilege.Actions xs) {a = a} {left = left} {rest = rest} room no_open no_comma =
    let items = commas action tree.action_tokens depths.action_depth a left (λ ts. sees (lexeme.Symbol symbol.Open) ts ≡ false) (λ x ts none. action_takes x room none) (λ ts. refl) xs rest no_open no_comma in
    uneaten _ _ (action_no_all xs.first _ rest) (mapped (comma_separated action) _ xs items refl)

pub grantee_takes : (g : Grantee) {a left : ℕ} {rest : Tokens} → Takes grantee (tree.grantee_tokens g) a a 0 left g rest
unfolding grantee
grantee_takes grantees.Public = eaten (word word.Public) _ done
grantee_takes (grantees.User n) = uneaten _ _ refl (mapped name _ n (a_name n) refl)

-- a table's name is no TABLE
name_no_table : (t : TableName) (more rest : Tokens) → sees (lexeme.Word word.Table) ((table_name_tokens t ++ more) ++ rest) ≡ false
name_no_table t more rest = by t.schema
  where
    by : (schema : Option Name) → sees (lexeme.Word word.Table) ((table_name_tokens (record { schema = schema; table = t.table }) ++ more) ++ rest) ≡ false
    by None = refl
    by (Some s) = refl

-- behind GRANT
pub grant_takes : (g : GrantStatement) {a left : ℕ} {rest : Tokens} → 0 < left → sees comma rest ≡ false → sees (lexeme.Word word.With) rest ≡ false → Takes grant (tree.privileges_tokens g.privileges ++ lexeme.Word word.On ∷ if_written g.table_word (lexeme.Word word.Table ∷ []) ++ table_name_tokens g.table ++ lexeme.Word word.To ∷ comma_tokens tree.grantee_tokens g.grantees ++ if_written g.grant_option grant_words) a a (depths.grant_depth g) left g rest
unfolding grant
grant_takes g {a = a} {left = left} {rest = rest} room no_comma no_with =
    let ps : Tokens = tree.privileges_tokens g.privileges in
    let on : Tokens = lexeme.Word word.On ∷ if_written g.table_word (lexeme.Word word.Table ∷ []) in
    let table : Tokens = table_name_tokens g.table in
    let to : Tokens = lexeme.Word word.To ∷ comma_tokens tree.grantee_tokens g.grantees in
    let option : Tokens = if_written g.grant_option grant_words in
    let each = flat_commas grantee tree.grantee_tokens a left (λ _. Unit {0}) (λ x ts f. grantee_takes x) (λ ts. tt) g.grantees (option ++ rest) tt (behind_grantees g.grant_option) in
    grouped ((ps ++ on) ++ table) to option (grouped (ps ++ on) table (to ++ option) (grouped ps on (table ++ (to ++ option)) (fits (λ h. omega arith) (λ h. omega arith)
    (andthen privileges _ g.privileges (privileges_takes g.privileges room refl refl)
    (expected (word word.On) _
    (either (word word.Table) g.table_word _ (name_no_table g.table (to ++ option) rest)
    (plainly table_name _ g.table (table_takes g.table refl)
    (expected (word word.To) _
    (plainly (comma_separated grantee) _ g.grantees each
    (mapped grant_option _ g.grant_option (grant_option_takes g.grant_option no_with) refl))))))))))
  where
    behind_grantees : (o : Bool) → sees comma (if_written o grant_words ++ rest) ≡ false
    behind_grantees true = refl
    behind_grantees false = no_comma

-- ---- schema texts

element_starts : (x : SchemaElement) (rest : Tokens) → EndsElement (tree.schema_element_tokens x ++ rest)
element_starts (Table t) rest = create_ends _
element_starts (View v) rest = create_ends _
element_starts (Grant g) rest = grant_ends _

element_long : (x : SchemaElement) → 0 < length (tree.schema_element_tokens x)
element_long (Table t) = omega arith
element_long (View v) = omega arith
element_long (Grant g) = omega arith

no_element : (left inner : ℕ) (rest : Tokens) → sees (lexeme.Word word.Grant) rest ≡ false → sees_created rest ≡ false → element left inner rest ≡ Ok (None, rest)
unfolding element
no_element left inner rest no_grant none =
    let s : Takes (element left inner) [] 0 0 0 0 None rest = uneaten _ _ no_grant (unseeing sees_created (created left inner) nothing none done) in
    s.taken (omega arith)

definition_starts : (s : SchemaDefinition) (rest : Tokens) → EndsDefinition (tree.schema_definition_tokens s ++ rest)
definition_starts s rest = record { element = create_ends _; grant = refl; created = refl; semicolon = refl }

definition_long : (s : SchemaDefinition) → 0 < length (tree.schema_definition_tokens s)
definition_long s = omega arith

module _ (data_type_takes : (t : DataType) (a left : ℕ) (rest : Tokens) → sees (lexeme.Symbol symbol.Open) rest ≡ false → sees (lexeme.Word word.Varying) rest ≡ false → Takes data_type (data_type_tokens t) a a 0 left t rest)
    (inner_cond_takes : (left : ℕ) (c : Cond) (rest : Tokens) → 0 < left → EndsCond rest → Takes (must_be_cond (conditions.inside left)) (cond_tokens c) 1 1 (suc (cond_depth c)) left c rest)
    (specification_takes : (left : ℕ) (q : QuerySpecification) (rest : Tokens) → EndsTable rest → Takes (query_specification left) (query_specification_tokens q) 0 0 (query_specification_depth q) left q rest)
    (inner : ℕ) (room : 1 ≤ inner) where
  pub element_takes : (x : SchemaElement) (rest : Tokens) → EndsElement rest → Takes (element (suc inner) inner) (tree.schema_element_tokens x) 0 0 (depths.schema_element_depth x) (suc inner) (Some x) rest
  unfolding element created
  element_takes (Table t) rest ends = uneaten _ _ refl (seeing sees_created (created (suc inner) inner) nothing refl
      (expected (word word.Create) _ (eaten (word word.Table) _ (mapped (table_definition inner) _ t (table_definition_takes data_type_takes inner_cond_takes inner room t) refl))))
  element_takes (View v) rest ends = uneaten _ _ refl (seeing sees_created (created (suc inner) inner) nothing refl
      (expected (word word.Create) _ (uneaten _ _ refl (expected (word word.View) _ (mapped (view_definition (suc inner)) _ v (view_definition_takes specification_takes (suc inner) (omega arith) v rest ends) refl)))))
  element_takes (Grant g) rest ends = eaten (word word.Grant) _ (mapped grant _ g (grant_takes g (omega arith) ends.table.comma ends.with_word) refl)

  elements_take : (xs : List SchemaElement) (rest : Tokens) → EndsElement rest → sees (lexeme.Word word.Grant) rest ≡ false → sees_created rest ≡ false → Takes (all (element (suc inner) inner)) (row_tokens tree.schema_element_tokens xs) 0 0 (row_depth depths.schema_element_depth xs) (suc inner) xs rest
  elements_take xs rest ends no_grant none = rows (element (suc inner) inner) tree.schema_element_tokens depths.schema_element_depth 0 (suc inner) EndsElement element_takes element_starts element_long xs rest ends (no_element (suc inner) inner rest no_grant none)

  -- behind CREATE
  pub schema_definition_takes : (s : SchemaDefinition) (rest : Tokens) → EndsDefinition rest → Takes (schema_definition (suc inner) inner) (lexeme.Word word.Schema ∷ lexeme.Word word.Authorization ∷ lexeme.Name s.authorization ∷ row_tokens tree.schema_element_tokens s.elements ++ if_written s.semicolon (lexeme.Symbol symbol.Semicolon ∷ [])) 0 0 (depths.schema_definition_depth s) (suc inner) s rest
  unfolding schema_definition
  schema_definition_takes s rest ends = by s.semicolon
    where
      by : (semicolon : Bool) → Takes (schema_definition (suc inner) inner) (lexeme.Word word.Schema ∷ lexeme.Word word.Authorization ∷ lexeme.Name s.authorization ∷ row_tokens tree.schema_element_tokens s.elements ++ if_written semicolon (lexeme.Symbol symbol.Semicolon ∷ [])) 0 0 (depths.schema_definition_depth s) (suc inner) (record { authorization = s.authorization; elements = s.elements; semicolon = semicolon }) rest
      by true = expected (word word.Schema) _ (expected (word word.Authorization) _ (named s.authorization _ (fits (λ h. omega arith) (λ h. omega arith)
          (andthen (all (element (suc inner) inner)) _ s.elements (elements_take s.elements (lexeme.Symbol symbol.Semicolon ∷ rest) (semicolon_ends rest) refl refl) (eaten (mark symbol.Semicolon (λ n. refl)) _ done)))))
      by false = expected (word word.Schema) _ (expected (word word.Authorization) _ (named s.authorization _ (fits (λ h. omega arith) (λ h. omega arith)
          (andthen (all (element (suc inner) inner)) _ s.elements (elements_take s.elements rest ends.element ends.grant ends.created) (uneaten _ _ ends.semicolon done)))))

  next_definition_takes : (s : SchemaDefinition) (rest : Tokens) → EndsDefinition rest → Takes (next_definition (suc inner) inner) (tree.schema_definition_tokens s) 0 0 (depths.schema_definition_depth s) (suc inner) (Some s) rest
  next_definition_takes s rest ends = behind_it (word word.Create) (schema_definition (suc inner) inner) (schema_definition_takes s rest ends)

  pub schema_text_takes : (s : SchemaText) (rest : Tokens) → EndsDefinition rest → sees (lexeme.Word word.Create) rest ≡ false → Takes (schema_text (suc inner) inner) (tree.schema_tokens s) 0 0 (depths.schema_text_depth s) (suc inner) s rest
  unfolding schema_text
  schema_text_takes s rest ends none =
      let item : Parser (Option SchemaDefinition) = next_definition (suc inner) inner in
      let first = schema_definition_takes s.first _ (follows item tree.schema_definition_tokens depths.schema_definition_depth 0 (suc inner) EndsDefinition next_definition_takes definition_starts definition_long s.rest rest ends) in
      let others = rows item tree.schema_definition_tokens depths.schema_definition_depth 0 (suc inner) EndsDefinition next_definition_takes definition_starts definition_long s.rest rest ends (none_behind (lexeme.Word word.Create) (schema_definition (suc inner) inner) rest none) in
      expected (word word.Create) _ (andthen (schema_definition (suc inner) inner) _ s.first first (mapped (all item) _ s.rest others refl))

  -- a whole text
  pub schema_takes : (s : SchemaText) → Takes (schema_text (suc inner) inner) (tree.schema_tokens s) 0 0 (depths.schema_text_depth s) (suc inner) s []
  schema_takes s = schema_text_takes s [] (record { element = text_ends; grant = refl; created = refl; semicolon = refl }) refl
