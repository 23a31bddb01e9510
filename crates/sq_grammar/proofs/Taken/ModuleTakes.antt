-- The tokens of a module text are read as it.
use Rattle.std.proofs.Common.{◌≡◌, ℕ, zero, suc, ◌≤◌, ◌<◌, Bool, true, false, List, [], ◌∷◌, ◌++◌, length, Option, Some, None, Ok, refl, sym, subst, arith, append_assoc}
use Rattle.sq_lex.specs.declared.lexeme.Lexeme.TheVariants as lexeme
use Rattle.sq_lex.specs.declared.symbol.Symbol.TheVariants as symbol
use Rattle.sq_lex.specs.declared.word.Word.TheVariants as word
use Rattle.sq_tree.specs.Tree.{optional, if_written}
use Rattle.sq_tree.specs.List.{comma_tokens}
use Rattle.sq_tree.specs.Query.{query_tokens}
use Rattle.sq_tree.proofs.QueryDepth.{query_depth}
use Rattle.sq_tree.specs.Statement.{statement_tokens}
use Rattle.sq_tree.proofs.StatementDepth.{statement_depth}
use Rattle.sq_tree.specs.Module as tree
use Rattle.sq_tree.proofs.ModuleDepth as depths
use Rattle.sq_tree.specs.declared.list.CommaList.{CommaList}
use Rattle.sq_tree.specs.declared.module.ModuleText.{ModuleText}
use Rattle.sq_tree.specs.declared.module.ModuleItem.{ModuleItem}
use Rattle.sq_tree.specs.declared.module.ModuleItem.TheVariants as items
use Rattle.sq_tree.specs.declared.module.Cursor.{Cursor}
use Rattle.sq_tree.specs.declared.module.SortSpecification.{SortSpecification}
use Rattle.sq_tree.specs.declared.module.SortKey.{SortKey}
use Rattle.sq_tree.specs.declared.module.SortKey.TheVariants.{Column, Position}
use Rattle.sq_tree.specs.declared.module.SortDirection.{SortDirection}
use Rattle.sq_tree.specs.declared.module.SortDirection.TheVariants.{Asc, Desc}
use Rattle.sq_tree.specs.declared.module.Procedure.{Procedure}
use Rattle.sq_tree.specs.declared.module.Declarations.{Declarations}
use Rattle.sq_tree.specs.declared.module.Declarations.TheVariants.{Bracketed, Bare}
use Rattle.sq_tree.specs.declared.module.BareDeclaration.{BareDeclaration}
use Rattle.sq_tree.specs.declared.module.Declaration.{Declaration}
use Rattle.sq_tree.specs.declared.module.Declaration.TheVariants.{Parameter, Sqlcode, Sqlstate}
use Rattle.sq_tree.specs.declared.query.Query.{Query}
use Rattle.sq_tree.specs.declared.statement.Statement.{Statement}
use Rattle.sq_grammar.specs.Reading.{Tokens, Parser, ◌>>=◌, eat, sees, first_of, name_of, number_of, comma, comma_separated, all}
use Rattle.sq_grammar.specs.DataType.{data_type}
use Rattle.sq_grammar.specs.Query.{query}
use Rattle.sq_grammar.specs.Statement.{statement}
use Rattle.sq_grammar.specs.Module.{declaration_if_any, declaration, bare_declaration, declarations, procedure, by_number, sort_key, direction_if_any, sort_specification, by_sorts, order_by, ordered_query, cursor, item, module_text}
use Rattle.sq_grammar.proofs.Taken.Takes.{Takes, Token, done, fits, lifted, andthen, plainly, mapped, word, mark, opening, closing, expected, eaten, uneaten, either, behind_it, met, unmet, named, commas, flat_commas, follows, rows}
use Rattle.sq_grammar.proofs.Ends.Follows.{EndsFactor, EndsTerm, EndsExpr, EndsConj, EndsQuery}
use Rattle.sq_grammar.proofs.Taken.NamesTakes.{a_colon}
use Rattle.sq_grammar.proofs.Taken.DataTypeTakes.{EndsType, data_type_takes}

a_comma : {a : ℕ} → Token comma a a
a_comma = mark symbol.Comma (λ n. refl)

a_semicolon : {a : ℕ} → Token (lexeme.Symbol symbol.Semicolon) a a
a_semicolon = mark symbol.Semicolon (λ n. refl)

-- ---- declarations of parameters

declaration_if_any_takes : (d : Declaration) {a left : ℕ} {rest : Tokens} → 1 ≤ left → EndsType rest → Takes declaration_if_any (tree.declaration_tokens d) a a (depths.declaration_depth d) left (Some d) rest
unfolding declaration_if_any
declaration_if_any_takes (Parameter n t) room ends = eaten a_colon _ (named n _ (mapped data_type _ t (data_type_takes t room ends) refl))
declaration_if_any_takes Sqlcode room ends = uneaten (lexeme.Symbol symbol.Colon) _ refl (eaten (word word.Sqlcode) _ done)
declaration_if_any_takes Sqlstate room ends = uneaten (lexeme.Symbol symbol.Colon) _ refl (uneaten (lexeme.Word word.Sqlcode) _ refl (eaten (word word.Sqlstate) _ done))

pub declaration_takes : (d : Declaration) {a left : ℕ} {rest : Tokens} → 1 ≤ left → EndsType rest → Takes declaration (tree.declaration_tokens d) a a (depths.declaration_depth d) left d rest
unfolding declaration
declaration_takes d room ends = mapped declaration_if_any _ (Some d) (declaration_if_any_takes d room ends) refl

declaration_no_comma : (d : Declaration) (rest : Tokens) → sees comma (tree.declaration_tokens d ++ rest) ≡ false
declaration_no_comma (Parameter n t) rest = refl
declaration_no_comma Sqlcode rest = refl
declaration_no_comma Sqlstate rest = refl

declaration_no_bracket : (d : Declaration) (more rest : Tokens) → sees (lexeme.Symbol symbol.Open) ((tree.declaration_tokens d ++ more) ++ rest) ≡ false
declaration_no_bracket (Parameter n t) more rest = refl
declaration_no_bracket Sqlcode more rest = refl
declaration_no_bracket Sqlstate more rest = refl

-- [ "," ] declaration
pub bare_declaration_takes : (b : BareDeclaration) {a left : ℕ} {rest : Tokens} → 1 ≤ left → EndsType rest → Takes bare_declaration (tree.bare_declaration_tokens b) a a (depths.bare_declaration_depth b) left (Some b) rest
unfolding bare_declaration
bare_declaration_takes b {a = a} {left = left} {rest = rest} room ends = by b.comma b.declaration
  where
    by : (written : Bool) (d : Declaration) → Takes bare_declaration (if_written written (comma ∷ []) ++ tree.declaration_tokens d) a a (depths.declaration_depth d) left (Some (record { comma = written; declaration = d })) rest
    by true d = eaten a_comma _ (mapped declaration _ d (declaration_takes d room ends) refl)
    by false d = uneaten comma _ (declaration_no_comma d rest) (mapped declaration_if_any _ (Some d) (declaration_if_any_takes d room ends) refl)

bare_starts : (b : BareDeclaration) (rest : Tokens) → EndsType (tree.bare_declaration_tokens b ++ rest)
bare_starts b rest = by b.comma b.declaration
  where
    by : (written : Bool) (d : Declaration) → EndsType ((if_written written (comma ∷ []) ++ tree.declaration_tokens d) ++ rest)
    by true d = record { open_bracket = refl; varying = refl }
    by false (Parameter n t) = record { open_bracket = refl; varying = refl }
    by false Sqlcode = record { open_bracket = refl; varying = refl }
    by false Sqlstate = record { open_bracket = refl; varying = refl }

bare_long : (b : BareDeclaration) → 0 < length (tree.bare_declaration_tokens b)
bare_long b = by b.comma b.declaration
  where
    by : (written : Bool) (d : Declaration) → 0 < length (if_written written (comma ∷ []) ++ tree.declaration_tokens d)
    by true d = omega arith
    by false (Parameter n t) = omega arith
    by false Sqlcode = omega arith
    by false Sqlstate = omega arith

bare_ends : (rest : Tokens) → bare_declaration (lexeme.Symbol symbol.Semicolon ∷ rest) ≡ Ok (None, lexeme.Symbol symbol.Semicolon ∷ rest)
unfolding bare_declaration declaration_if_any eat
bare_ends rest = refl

-- declaration { [ "," ] declaration }
bare_takes : (first : Declaration) (others : List BareDeclaration) {left : ℕ} {rest : Tokens} → 1 ≤ left → Takes declarations (tree.declarations_tokens (Bare first others)) 0 0 (depths.declarations_depth (Bare first others)) left (Bare first others) (lexeme.Symbol symbol.Semicolon ∷ rest)
unfolding declarations
bare_takes first others {left = left} {rest = rest} room =
    let after : EndsType (lexeme.Symbol symbol.Semicolon ∷ rest) = record { open_bracket = refl; varying = refl } in
    let each : (b : BareDeclaration) (ts : Tokens) → EndsType ts → Takes bare_declaration (tree.bare_declaration_tokens b) 0 0 (depths.bare_declaration_depth b) left (Some b) ts = λ b ts ends. bare_declaration_takes b room ends in
    let behind_first = follows bare_declaration tree.bare_declaration_tokens depths.bare_declaration_depth 0 left EndsType each bare_starts bare_long others _ after in
    let the_others = rows bare_declaration tree.bare_declaration_tokens depths.bare_declaration_depth 0 left EndsType each bare_starts bare_long others _ after (bare_ends rest) in
    uneaten (lexeme.Symbol symbol.Open) _ (declaration_no_bracket first _ _) (andthen declaration _ first (declaration_takes first room behind_first) (mapped (all bare_declaration) _ others the_others refl))

-- The code does not count the bracket of the list.
bracketed_takes : (list : CommaList Declaration) {left : ℕ} {rest : Tokens} → 1 ≤ left → Takes declarations (tree.declarations_tokens (Bracketed list)) 0 0 (depths.declarations_depth (Bracketed list)) (suc left) (Bracketed list) rest
unfolding declarations
bracketed_takes list {left = left} room =
    let starts : (ts : Tokens) → EndsType (comma ∷ ts) = λ ts. record { open_bracket = refl; varying = refl } in
    let within = commas declaration tree.declaration_tokens depths.declaration_depth 0 left EndsType (λ d ts ends. declaration_takes d room ends) starts list _ (record { open_bracket = refl; varying = refl }) refl in
    eaten opening _ (fits (λ h. omega arith) (λ h. omega arith) (andthen (comma_separated declaration) _ list (lifted within) (expected closing _ done)))

pub declarations_takes : (left : ℕ) → 2 ≤ left → (ds : Declarations) (rest : Tokens) → Takes declarations (tree.declarations_tokens ds) 0 0 (depths.declarations_depth ds) left ds (lexeme.Symbol symbol.Semicolon ∷ rest)
declarations_takes zero room ds rest = absurd (omega arith)
declarations_takes (suc left) room (Bracketed list) rest = bracketed_takes list (omega arith)
declarations_takes (suc left) room (Bare first others) rest = bare_takes first others (omega arith)

-- ---- the order of a cursor's rows

pub record EndsSort (rest : Tokens) : Type 0 where
  pub asc : sees (lexeme.Word word.Asc) rest ≡ false
  pub desc : sees (lexeme.Word word.Desc) rest ≡ false

sort_key_takes : (k : SortKey) {a left : ℕ} {rest : Tokens} → Takes sort_key (tree.sort_key_token k ∷ []) a a 0 left k rest
unfolding sort_key
sort_key_takes (Column n) = unmet number_of by_number refl (named n _ done)
sort_key_takes (Position n) = met number_of (lexeme.Number n) n refl (λ k. refl) by_number done

pub direction_takes : (d : Option SortDirection) {a left : ℕ} {rest : Tokens} → EndsSort rest → Takes direction_if_any (optional tree.direction_tokens d) a a 0 left d rest
direction_takes None ends = uneaten (lexeme.Word word.Asc) _ ends.asc (uneaten (lexeme.Word word.Desc) _ ends.desc done)
direction_takes (Some Asc) ends = eaten (word word.Asc) _ done
direction_takes (Some Desc) ends = uneaten (lexeme.Word word.Asc) _ refl (eaten (word word.Desc) _ done)

pub sort_specification_takes : (s : SortSpecification) {a left : ℕ} {rest : Tokens} → EndsSort rest → Takes sort_specification (tree.sort_specification_tokens s) a a 0 left s rest
unfolding sort_specification
sort_specification_takes s ends = plainly sort_key _ s.key {tx = tree.sort_key_token s.key ∷ []} {more = optional tree.direction_tokens s.direction} (sort_key_takes s.key) (mapped direction_if_any _ s.direction (direction_takes s.direction ends) refl)

by_sorts_takes : (list : CommaList SortSpecification) {a left : ℕ} {rest : Tokens} → EndsSort rest → sees comma rest ≡ false → Takes by_sorts (lexeme.Word word.By ∷ comma_tokens tree.sort_specification_tokens list) a a 0 left list rest
unfolding by_sorts
by_sorts_takes list {a = a} {left = left} ends none = expected (word word.By) _ (flat_commas sort_specification tree.sort_specification_tokens a left EndsSort (λ s ts e. sort_specification_takes s e) (λ ts. record { asc = refl; desc = refl }) list _ ends none)

-- [ ORDER BY sort { "," sort } ]
pub order_by_takes : (o : Option (CommaList SortSpecification)) {a left : ℕ} {rest : Tokens} → sees (lexeme.Word word.Order) rest ≡ false → EndsSort rest → sees comma rest ≡ false → Takes order_by (optional tree.order_by_tokens o) a a 0 left o rest
unfolding order_by
order_by_takes None no_order ends none = uneaten (lexeme.Word word.Order) _ no_order done
order_by_takes (Some list) no_order ends none = behind_it (word word.Order) by_sorts (by_sorts_takes list ends none)

-- ---- cursors

-- what follows a cursor without a semicolon: neither its query nor its order goes on
pub record EndsCursor (rest : Tokens) : Type 0 where
  pub query : EndsQuery rest
  pub order : sees (lexeme.Word word.Order) rest ≡ false
  pub sort : EndsSort rest
  pub semicolon : sees (lexeme.Symbol symbol.Semicolon) rest ≡ false

module _ {rest : Tokens} where
  -- each token that would go on with a query
  query_ends : sees (lexeme.Symbol symbol.Dot) rest ≡ false → sees (lexeme.Symbol symbol.Colon) rest ≡ false → sees (lexeme.Word word.Indicator) rest ≡ false
      → sees (lexeme.Symbol symbol.Star) rest ≡ false → sees (lexeme.Symbol symbol.Slash) rest ≡ false → sees (lexeme.Symbol symbol.Plus) rest ≡ false → sees (lexeme.Symbol symbol.Minus) rest ≡ false
      → sees (lexeme.Word word.Escape) rest ≡ false → sees (lexeme.Word word.And) rest ≡ false → sees (lexeme.Word word.Or) rest ≡ false
      → sees comma rest ≡ false → sees (lexeme.Word word.As) rest ≡ false → first_of name_of rest ≡ None
      → sees (lexeme.Word word.Where) rest ≡ false → sees (lexeme.Word word.Group) rest ≡ false → sees (lexeme.Word word.Having) rest ≡ false → sees (lexeme.Word word.Union) rest ≡ false → EndsQuery rest
  query_ends dot colon indicator star slash plus minus escape and or comma as_word name where_word group having union =
      let factor : EndsFactor rest = record { dot = dot; colon = colon; indicator = indicator } in
      let term : EndsTerm rest = record { factor = factor; star = star; slash = slash } in
      let expr : EndsExpr rest = record { term = term; plus = plus; minus = minus } in
      let conj : EndsConj rest = record { test = record { expr = expr; escape = escape }; and = and } in
      record { table = record { cond = record { conj = conj; or = or }; comma = comma; as_word = as_word; name = name; where_word = where_word; group = group; having = having }; union = union }

-- behind a cursor's query come its order, its semicolon, or the next item
query_ends_there : (o : Option (CommaList SortSpecification)) (semicolon : Bool) (rest : Tokens) → EndsCursor rest → EndsQuery (optional tree.order_by_tokens o ++ (if_written semicolon (lexeme.Symbol symbol.Semicolon ∷ []) ++ rest))
query_ends_there (Some list) semicolon rest ends = query_ends refl refl refl refl refl refl refl refl refl refl refl refl refl refl refl refl refl
query_ends_there None true rest ends = query_ends refl refl refl refl refl refl refl refl refl refl refl refl refl refl refl refl refl
query_ends_there None false rest ends = ends.query

item_starts : (x : ModuleItem) (rest : Tokens) → EndsCursor (tree.module_item_tokens x ++ rest)
item_starts (items.Cursor c) rest = record { query = query_ends refl refl refl refl refl refl refl refl refl refl refl refl refl refl refl refl refl; order = refl; sort = record { asc = refl; desc = refl }; semicolon = refl }
item_starts (items.Procedure p) rest = record { query = query_ends refl refl refl refl refl refl refl refl refl refl refl refl refl refl refl refl refl; order = refl; sort = record { asc = refl; desc = refl }; semicolon = refl }

item_long : (x : ModuleItem) → 0 < length (tree.module_item_tokens x)
item_long (items.Cursor c) = omega arith
item_long (items.Procedure p) = omega arith

none_left : (left : ℕ) → item left [] ≡ Ok (None, [])
unfolding item eat
none_left left = refl

text_ends : EndsCursor []
text_ends = record { query = query_ends refl refl refl refl refl refl refl refl refl refl refl refl refl refl refl refl refl; order = refl; sort = record { asc = refl; desc = refl }; semicolon = refl }

order_takes : (o : Option (CommaList SortSpecification)) (semicolon : Bool) {left : ℕ} (rest : Tokens) → EndsCursor rest → Takes order_by (optional tree.order_by_tokens o) 0 0 0 left o (if_written semicolon (lexeme.Symbol symbol.Semicolon ∷ []) ++ rest)
order_takes o true rest ends = order_by_takes o refl (record { asc = refl; desc = refl }) refl
order_takes o false rest ends = order_by_takes o ends.order ends.sort ends.query.table.comma

-- [ ";" ]
semicolon_takes : (f : Bool → Parser Cursor) (written : Bool) {left : ℕ} {c : Cursor} {rest : Tokens} → EndsCursor rest → Takes (f written) [] 0 0 0 left c rest → Takes (eat (lexeme.Symbol symbol.Semicolon) >>= f) (if_written written (lexeme.Symbol symbol.Semicolon ∷ [])) 0 0 0 left c rest
semicolon_takes f true ends s = eaten a_semicolon f s
semicolon_takes f false ends s = uneaten (lexeme.Symbol symbol.Semicolon) f ends.semicolon s

-- the tokens of a cursor, in the order of its parts
cursor_text : (insensitive scroll : Bool) (q o e : Tokens) →
    if_written insensitive (lexeme.Word word.Insensitive ∷ []) ++ (if_written scroll (lexeme.Word word.Scroll ∷ []) ++ (lexeme.Word word.Cursor ∷ lexeme.Word word.For ∷ ((q ++ o) ++ e)))
    ≡ if_written insensitive (lexeme.Word word.Insensitive ∷ []) ++ if_written scroll (lexeme.Word word.Scroll ∷ []) ++ lexeme.Word word.Cursor ∷ lexeme.Word word.For ∷ q ++ o ++ e
cursor_text true true q o e = refl
cursor_text true false q o e = refl
cursor_text false true q o e = refl
cursor_text false false q o e = refl

no_insensitive : (scroll : Bool) (more rest : Tokens) → sees (lexeme.Word word.Insensitive) ((if_written scroll (lexeme.Word word.Scroll ∷ []) ++ lexeme.Word word.Cursor ∷ more) ++ rest) ≡ false
no_insensitive true more rest = refl
no_insensitive false more rest = refl

module _
    (query_takes : (left : ℕ) (q : Query) (rest : Tokens) → EndsQuery rest → Takes (query left) (query_tokens q) 0 0 (query_depth q) left q rest)
    (statement_takes : (left : ℕ) → 1 ≤ left → (s : Statement) (rest : Tokens) → Takes (statement left) (statement_tokens s) 0 0 (statement_depth s) left s (lexeme.Symbol symbol.Semicolon ∷ rest)) where
  pub ordered_query_takes : (left : ℕ) (q : Query) (o : Option (CommaList SortSpecification)) (semicolon : Bool) (rest : Tokens) → EndsCursor rest → Takes (ordered_query left) (query_tokens q ++ optional tree.order_by_tokens o) 0 0 (query_depth q) left (q, o) (if_written semicolon (lexeme.Symbol symbol.Semicolon ∷ []) ++ rest)
  unfolding ordered_query
  ordered_query_takes left q o semicolon rest ends = fits (λ h. omega arith) (λ h. omega arith) (andthen (query left) _ q (query_takes left q _ (query_ends_there o semicolon rest ends)) (mapped order_by _ o (order_takes o semicolon rest ends) refl))

  -- behind DECLARE
  pub cursor_takes : (left : ℕ) (c : Cursor) (rest : Tokens) → EndsCursor rest
      → Takes (cursor left) (lexeme.Name c.name ∷ if_written c.insensitive (lexeme.Word word.Insensitive ∷ []) ++ if_written c.scroll (lexeme.Word word.Scroll ∷ []) ++ lexeme.Word word.Cursor ∷ lexeme.Word word.For ∷ query_tokens c.query ++ optional tree.order_by_tokens c.order_by ++ if_written c.semicolon (lexeme.Symbol symbol.Semicolon ∷ [])) 0 0 (depths.cursor_depth c) left c rest
  unfolding cursor
  cursor_takes left c rest ends =
      let same = cursor_text c.insensitive c.scroll (query_tokens c.query) (optional tree.order_by_tokens c.order_by) (if_written c.semicolon (lexeme.Symbol symbol.Semicolon ∷ [])) in
      let ordered = ordered_query_takes left c.query c.order_by c.semicolon rest ends in
      subst (λ ts. Takes (cursor left) (lexeme.Name c.name ∷ ts) 0 0 (depths.cursor_depth c) left c rest) same (named c.name _
      (either (word word.Insensitive) c.insensitive _ (no_insensitive c.scroll _ rest) (either (word word.Scroll) c.scroll _ refl (expected (word word.Cursor) _ (expected (word word.For) _
      (fits (λ h. omega arith) (λ h. omega arith) (andthen (ordered_query left) _ (c.query, c.order_by) ordered (semicolon_takes _ c.semicolon ends done))))))))

  -- behind PROCEDURE
  pub procedure_takes : (left : ℕ) → 2 ≤ left → (p : Procedure) (rest : Tokens)
      → Takes (procedure left) (lexeme.Name p.name ∷ tree.declarations_tokens p.declarations ++ lexeme.Symbol symbol.Semicolon ∷ statement_tokens p.statement ++ lexeme.Symbol symbol.Semicolon ∷ []) 0 0 (depths.procedure_depth p) left p rest
  unfolding procedure
  procedure_takes left room p rest =
      let same = append_assoc (tree.declarations_tokens p.declarations) (lexeme.Symbol symbol.Semicolon ∷ statement_tokens p.statement) (lexeme.Symbol symbol.Semicolon ∷ []) in
      let ended = andthen (statement left) _ p.statement (statement_takes left (omega arith) p.statement rest) (expected a_semicolon _ done) in
      subst (λ ts. Takes (procedure left) (lexeme.Name p.name ∷ ts) 0 0 (depths.procedure_depth p) left p rest) (sym same) (named p.name _
      (fits (λ h. omega arith) (λ h. omega arith) (andthen declarations _ p.declarations (declarations_takes left room p.declarations _) (expected a_semicolon _ ended))))

  -- ---- items

  pub item_takes : (left : ℕ) → 2 ≤ left → (x : ModuleItem) (rest : Tokens) → EndsCursor rest → Takes (item left) (tree.module_item_tokens x) 0 0 (depths.module_item_depth x) left (Some x) rest
  unfolding item
  item_takes left room (items.Cursor c) rest ends = eaten (word word.Declare) _ (mapped (cursor left) _ c (cursor_takes left c rest ends) refl)
  item_takes left room (items.Procedure p) rest ends = uneaten (lexeme.Word word.Declare) _ refl (eaten (word word.Procedure) _ (mapped (procedure left) _ p (procedure_takes left room p rest) refl))

  pub module_takes : (left : ℕ) → 2 ≤ left → (m : ModuleText) → Takes (module_text left) (tree.module_tokens m) 0 0 (depths.module_text_depth m) left m []
  unfolding module_text
  module_takes left room m =
      let the_items = rows (item left) tree.module_item_tokens depths.module_item_depth 0 left EndsCursor (item_takes left room) item_starts item_long m.items [] text_ends (none_left left) in
      expected (word word.Module) _ (named m.name _ (expected (word word.Language) _ (named m.language _ (expected (word word.Authorization) _ (named m.authorization _ (mapped (all (item left)) _ m.items the_items refl))))))
