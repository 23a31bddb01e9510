-- The tokens of a statement are read as it.
use Rattle.std.proofs.Common.{◌≡◌, ℕ, suc, ◌+◌, ◌<◌, ◌≤◌, max, Bool, true, false, [], ◌∷◌, ◌++◌, Option, Some, None, refl, arith, append_assoc}
use Rattle.sq_lex.specs.declared.lexeme.Lexeme.TheVariants as lexeme
use Rattle.sq_lex.specs.declared.symbol.Symbol.{Symbol}
use Rattle.sq_lex.specs.declared.symbol.Symbol.TheVariants as symbol
use Rattle.sq_lex.specs.declared.word.Word.{Word}
use Rattle.sq_lex.specs.declared.word.Word.TheVariants as word
use Rattle.sq_lex.specs.declared.name.Name.{Name}
use Rattle.sq_lex.specs.declared.number.Number.{Number}
use Rattle.sq_tree.specs.declared.list.CommaList.{CommaList}
use Rattle.sq_tree.specs.declared.names.Parameter.{Parameter}
use Rattle.sq_tree.specs.declared.expr.Expr.{Expr}
use Rattle.sq_tree.specs.declared.expr.Sign.{Sign}
use Rattle.sq_tree.specs.declared.expr.Sign.TheVariants.{Plus, Minus}
use Rattle.sq_tree.specs.declared.cond.Body.{Body}
use Rattle.sq_tree.specs.declared.cond.Test.{Test}
use Rattle.sq_tree.specs.declared.cond.Conj.{Conj, out-Conj}
use Rattle.sq_tree.specs.declared.cond.Cond.{Cond, out-Cond}
use Rattle.sq_tree.specs.declared.cond.SelectList.{SelectList}
use Rattle.sq_tree.specs.declared.cond.SelectList.TheVariants.{Star, Items}
use Rattle.sq_tree.specs.declared.cond.TableExpression.{TableExpression}
use Rattle.sq_tree.specs.declared.cond.QuerySpecification.{QuerySpecification}
use Rattle.sq_tree.specs.declared.statement.Statement.{Statement}
use Rattle.sq_tree.specs.declared.statement.Statement.TheVariants as statements
use Rattle.sq_tree.specs.declared.statement.Fetch.{Fetch}
use Rattle.sq_tree.specs.declared.statement.FetchFrom.{FetchFrom}
use Rattle.sq_tree.specs.declared.statement.Orientation.{Orientation}
use Rattle.sq_tree.specs.declared.statement.Orientation.TheVariants.{Next, Prior, First, Last, Absolute, Relative}
use Rattle.sq_tree.specs.declared.statement.Position.{Position}
use Rattle.sq_tree.specs.declared.statement.Position.TheVariants as positions
use Rattle.sq_tree.specs.declared.statement.Select.{Select}
use Rattle.sq_tree.specs.declared.statement.Insert.{Insert}
use Rattle.sq_tree.specs.declared.statement.InsertSource.{InsertSource}
use Rattle.sq_tree.specs.declared.statement.InsertSource.TheVariants as sources
use Rattle.sq_tree.specs.declared.statement.NewValue.{NewValue}
use Rattle.sq_tree.specs.declared.statement.NewValue.TheVariants as values
use Rattle.sq_tree.specs.declared.statement.Update.{Update}
use Rattle.sq_tree.specs.declared.statement.Assignment.{Assignment}
use Rattle.sq_tree.specs.declared.statement.Delete.{Delete}
use Rattle.sq_tree.specs.declared.statement.Where.{Where}
use Rattle.sq_tree.specs.declared.statement.Where.TheVariants.{Condition, CurrentOf}
use Rattle.sq_tree.specs.Tree.{optional}
use Rattle.sq_tree.proofs.TreeDepth.{optional_depth}
use Rattle.sq_tree.specs.List.{comma_tokens}
use Rattle.sq_tree.proofs.ListDepth.{comma_depth}
use Rattle.sq_tree.specs.Names.{table_name_tokens, parameter_tokens, columns_tokens}
use Rattle.sq_tree.specs.Expr.{expr_tokens, quantifier_tokens, signed_number_tokens}
use Rattle.sq_tree.proofs.ExprDepth.{expr_depth}
use Rattle.sq_tree.specs.Cond.{not_tokens, body_tokens, test_tokens, conj_tokens, cond_tokens, select_list_tokens, table_expression_tokens, query_specification_tokens}
use Rattle.sq_tree.proofs.CondDepth.{cond_depth, select_list_depth, table_expression_depth, query_specification_depth}
use Rattle.sq_tree.proofs.DataTypeDepth.{bracket_depth}
use Rattle.sq_tree.specs.Statement.{position_tokens, orientation_tokens, fetch_from_tokens, new_value_tokens, insert_source_tokens, target_tokens, assignment_tokens, statement_tokens}
use Rattle.sq_tree.proofs.StatementDepth.{select_depth, new_value_depth, insert_source_depth, insert_depth, target_depth, assignment_depth, update_depth, delete_depth, statement_depth}
use Rattle.sq_tree.proofs.CondLaws as law
use Rattle.sq_tree.proofs.CondLaws.{body_cases}
use Rattle.sq_grammar.specs.declared.verb.Verb.TheVariants as verb
use Rattle.sq_grammar.specs.Reading.{Tokens, Parser, sees, first_of, comma, comma_separated}
use Rattle.sq_grammar.specs.Names.{dot, table_name, parameter, signed_number, columns_if_any}
use Rattle.sq_grammar.specs.Expr as expressions
use Rattle.sq_grammar.specs.Expr.{expr, quantifier_if_any}
use Rattle.sq_grammar.specs.Cond.{cond, query_specification}
use Rattle.sq_grammar.specs.Select.{select_list, table_expression}
use Rattle.sq_grammar.specs.Statement.{position, orientation_of, orientation, fetch_from, fetch, new_value, target, select, insert_source, insert, assignment, update, delete, verb_of, statement}
use Rattle.sq_grammar.proofs.Taken.Takes.{Takes, done, fits, andthen, plainly, mapped, word, mark, opening, closing, expected, eaten, uneaten, met, unmet, named, commas, flat_commas, deeper_commas}
use Rattle.sq_grammar.proofs.Ends.Follows.{EndsFactor, EndsExpr, EndsCond, EndsTable, ends_expr}
use Rattle.sq_grammar.proofs.Taken.ExprTakes.{quantifier_takes, expr_starts, foreign, not_all, not_distinct, close_ends, expr_takes, inside_takes}
use Rattle.sq_grammar.proofs.Taken.NamesTakes.{a_colon, table_takes, parameter_takes, signed_takes, columns_if_any_takes}

-- ---- FETCH

pub position_takes : (p : Position) {a left : ℕ} {rest : Tokens} → Takes position (position_tokens p) a a 0 left p rest
unfolding position
position_takes (positions.Parameter n) = eaten a_colon _ (named n _ done)
position_takes (positions.Number n) {a = a} {left = left} {rest = rest} = uneaten (lexeme.Symbol symbol.Colon) _ (signed n.sign n.number) (mapped signed_number _ n (signed_takes n) refl)
  where
    signed : (sign : Option Sign) (number : Number) → sees (lexeme.Symbol symbol.Colon) (signed_number_tokens (record { sign = sign; number = number }) ++ rest) ≡ false
    signed None number = refl
    signed (Some Plus) number = refl
    signed (Some Minus) number = refl

pub orientation_takes : (o : Option Orientation) {a left : ℕ} {rest : Tokens} → first_of orientation_of rest ≡ None → sees (lexeme.Word word.Absolute) rest ≡ false → sees (lexeme.Word word.Relative) rest ≡ false → Takes orientation (optional orientation_tokens o) a a 0 left o rest
unfolding orientation
orientation_takes None none no_absolute no_relative = unmet orientation_of _ none (uneaten (lexeme.Word word.Absolute) _ no_absolute (uneaten (lexeme.Word word.Relative) _ no_relative done))
orientation_takes (Some Next) none no_absolute no_relative = met orientation_of (lexeme.Word word.Next) Next refl (λ n. refl) _ done
orientation_takes (Some Prior) none no_absolute no_relative = met orientation_of (lexeme.Word word.Prior) Prior refl (λ n. refl) _ done
orientation_takes (Some First) none no_absolute no_relative = met orientation_of (lexeme.Word word.First) First refl (λ n. refl) _ done
orientation_takes (Some Last) none no_absolute no_relative = met orientation_of (lexeme.Word word.Last) Last refl (λ n. refl) _ done
orientation_takes (Some (Absolute p)) none no_absolute no_relative = unmet orientation_of _ refl (eaten (word word.Absolute) _ (mapped position _ p (position_takes p) refl))
orientation_takes (Some (Relative p)) none no_absolute no_relative = unmet orientation_of _ refl (uneaten (lexeme.Word word.Absolute) _ refl (eaten (word word.Relative) _ (mapped position _ p (position_takes p) refl)))

-- a cursor's name follows
pub fetch_from_takes : (f : Option FetchFrom) (cursor : Name) {a left : ℕ} {rest : Tokens} → Takes fetch_from (optional fetch_from_tokens f) a a 0 left f (lexeme.Name cursor ∷ rest)
unfolding fetch_from
fetch_from_takes None cursor = plainly orientation _ None {tx = []} (orientation_takes None refl refl refl) (uneaten (lexeme.Word word.From) _ refl done)
fetch_from_takes (Some f) cursor {a = a} {left = left} {rest = rest} = by f.orientation
  where
    by : (o : Option Orientation) → Takes fetch_from (fetch_from_tokens (record { orientation = o })) a a 0 left (Some (record { orientation = o })) (lexeme.Name cursor ∷ rest)
    by None = plainly orientation _ None {tx = []} (orientation_takes None refl refl refl) (eaten (word word.From) _ done)
    by (Some o) = plainly orientation _ (Some o) (orientation_takes (Some o) refl refl refl) (expected (word word.From) _ done)

-- INTO .., whose word is read already
pub targets_takes : (targets : CommaList Parameter) {a left : ℕ} {rest : Tokens} → EndsFactor rest → sees comma rest ≡ false → Takes (comma_separated parameter) (comma_tokens parameter_tokens targets) a a 0 left targets rest
targets_takes targets {a = a} {left = left} {rest = rest} ends none =
    flat_commas parameter parameter_tokens a left EndsFactor (λ p r e. parameter_takes p e.indicator e.colon) (λ r. record { dot = refl; colon = refl; indicator = refl }) targets rest ends none

-- its first word is read already
pub fetch_takes : (f : Fetch) {a left : ℕ} {rest : Tokens} → EndsFactor rest → sees comma rest ≡ false → Takes fetch (optional fetch_from_tokens f.from ++ lexeme.Name f.cursor ∷ lexeme.Word word.Into ∷ comma_tokens parameter_tokens f.targets) a a 0 left f rest
unfolding fetch
fetch_takes f ends none = plainly fetch_from _ f.from (fetch_from_takes f.from f.cursor) (named f.cursor _ (expected (word word.Into) _ (mapped (comma_separated parameter) _ f.targets (targets_takes f.targets ends none) refl)))

-- ---- what may follow

comma_ends : (rest : Tokens) → EndsExpr (comma ∷ rest)
comma_ends rest = ends_expr _ refl

into_ends : (rest : Tokens) → EndsExpr (lexeme.Word word.Into ∷ rest)
into_ends rest = ends_expr _ refl

where_ends : (rest : Tokens) → EndsExpr (lexeme.Word word.Where ∷ rest)
where_ends rest = ends_expr _ refl

-- a statement has a semicolon behind it
semicolon_ends : (rest : Tokens) → EndsTable (lexeme.Symbol symbol.Semicolon ∷ rest)
semicolon_ends rest = record {
  cond = record { conj = record { test = record { expr = expr_ends; escape = refl }; and = refl }; or = refl };
  comma = refl;
  as_word = refl;
  name = refl;
  where_word = refl;
  group = refl;
  having = refl;
}
  where
    expr_ends : EndsExpr (lexeme.Symbol symbol.Semicolon ∷ rest)
    expr_ends = ends_expr _ refl

table_expr_ends : {rest : Tokens} → EndsTable rest → EndsExpr rest
table_expr_ends e = e.cond.conj.test.expr

-- a table expression begins with FROM
from_ends : (t : TableExpression) (rest : Tokens) → EndsFactor (table_expression_tokens t ++ rest)
from_ends t rest = rw (law.table_expression_tokens-out t) (record { dot = refl; colon = refl; indicator = refl })

no_comma_from : (t : TableExpression) (rest : Tokens) → sees comma (table_expression_tokens t ++ rest) ≡ false
no_comma_from t rest = rw (law.table_expression_tokens-out t) refl

-- a source begins with VALUES or SELECT
source_starts : (s : Symbol) (source : InsertSource) (rest : Tokens) → sees (lexeme.Symbol s) (insert_source_tokens source ++ rest) ≡ false
source_starts s (sources.Values values) rest = refl
source_starts s (sources.Query q) rest = rw (law.query_specification_tokens-out q) refl

no_dot_before_source : (columns : Option (CommaList Name)) (source : InsertSource) (rest : Tokens) → sees dot ((optional columns_tokens columns ++ insert_source_tokens source) ++ rest) ≡ false
no_dot_before_source None source rest = source_starts symbol.Dot source rest
no_dot_before_source (Some c) source rest = refl

no_values : (q : QuerySpecification) (rest : Tokens) → sees (lexeme.Word word.Values) (query_specification_tokens q ++ rest) ≡ false
no_values q rest = rw (law.query_specification_tokens-out q) refl

target_ends : (t : Option Where) (rest : Tokens) → EndsExpr rest → EndsExpr (optional target_tokens t ++ rest)
target_ends None rest e = e
target_ends (Some (Condition c)) rest e = where_ends _
target_ends (Some (CurrentOf c)) rest e = where_ends _

target_starts : (s : Symbol) (t : Option Where) (rest : Tokens) → sees (lexeme.Symbol s) rest ≡ false → sees (lexeme.Symbol s) (optional target_tokens t ++ rest) ≡ false
target_starts s None rest e = e
target_starts s (Some (Condition c)) rest e = refl
target_starts s (Some (CurrentOf c)) rest e = refl

-- ---- what may not come first

-- NULL begins no expression
no_null : (e : Expr) (rest : Tokens) → sees (lexeme.Word word.Null) (expr_tokens e ++ rest) ≡ false
no_null = expr_starts _ (foreign word.Null refl refl refl refl refl refl)

-- CURRENT begins no condition
current_no_body : (b : Body) (rest : Tokens) → sees (lexeme.Word word.Current) (body_tokens b ++ rest) ≡ false
current_no_body b rest = body_cases (λ c. sees (lexeme.Word word.Current) (body_tokens c ++ rest) ≡ false)
    (λ e t. rw (law.body_tokens-Predicate e t, append_assoc (expr_tokens e)) (expr_starts _ (foreign word.Current refl refl refl refl refl refl) e _))
    (λ q. rw (law.body_tokens-Exists q) refl)
    (λ c. rw (law.body_tokens-Bracketed c) refl) b

current_no_test : (t : Test) (rest : Tokens) → sees (lexeme.Word word.Current) (test_tokens t ++ rest) ≡ false
current_no_test t rest = rw (law.test_tokens-out t) (by t.negated t.body)
  where
    by : (negated : Bool) (b : Body) → sees (lexeme.Word word.Current) ((not_tokens negated ++ body_tokens b) ++ rest) ≡ false
    by true b = refl
    by false b = current_no_body b rest

current_no_conj : (c : Conj) (rest : Tokens) → sees (lexeme.Word word.Current) (conj_tokens c ++ rest) ≡ false
current_no_conj c rest = rw (law.conj_tokens-out c, append_assoc (test_tokens (out-Conj c).first)) (current_no_test (out-Conj c).first _)

no_current : (c : Cond) (rest : Tokens) → sees (lexeme.Word word.Current) (cond_tokens c ++ rest) ≡ false
no_current c rest = rw (law.cond_tokens-out c, append_assoc (conj_tokens (out-Cond c).first)) (current_no_conj (out-Cond c).first _)

-- ---- parts of statements

-- a word that begins no expression begins no select list
list_starts : (w : Word) → ((e : Expr) (rest : Tokens) → sees (lexeme.Word w) (expr_tokens e ++ rest) ≡ false) → (l : SelectList) (more rest : Tokens) → sees (lexeme.Word w) ((select_list_tokens l ++ more) ++ rest) ≡ false
list_starts w starts Star more rest = refl
list_starts w starts (Items items) more rest =
    rw (append_assoc (comma_tokens expr_tokens items) more rest, append_assoc (expr_tokens items.first)) (starts items.first _)

-- over a parser of expressions that are `deeper` by what is open before them
pub new_value_takes : (exprs : Parser Expr) (deeper : ℕ → ℕ) {a left : ℕ} → deeper 0 ≤ left → ((e : Expr) (rest : Tokens) → EndsExpr rest → Takes exprs (expr_tokens e) a a (deeper (expr_depth e)) left e rest) → (v : NewValue) (rest : Tokens) → EndsExpr rest → Takes (new_value exprs) (new_value_tokens v) a a (deeper (new_value_depth v)) left v rest
unfolding new_value
new_value_takes exprs deeper room each (values.Expr e) rest ends = uneaten (lexeme.Word word.Null) _ (no_null e rest) (mapped exprs _ e (each e rest ends) refl)
new_value_takes exprs deeper room each values.Null rest ends = fits (λ h. omega arith) (λ h. absurd (omega arith)) (eaten (word word.Null) _ done)

pub assignment_takes : (left : ℕ) (x : Assignment) (rest : Tokens) → EndsExpr rest → Takes (assignment left) (assignment_tokens x) 0 0 (assignment_depth x) left x rest
unfolding assignment
assignment_takes left x rest ends = named x.column _ (expected (mark symbol.Equal (λ n. refl)) _ (mapped (new_value (expr left)) _ x.value (new_value_takes (expr left) (λ n. n) (omega arith) (expr_takes left) x.value rest ends) refl))

-- VALUES ( .. ), whose word is read already: a bracket is open before its values
values_takes : (left : ℕ) → 1 ≤ left → (vs : CommaList NewValue) (rest : Tokens) → Takes (comma_separated (new_value (expressions.inside left))) (comma_tokens new_value_tokens vs) 1 1 (comma_depth new_value_depth vs + 1) left vs (lexeme.Symbol symbol.Close ∷ rest)
values_takes left room vs rest =
    let each = new_value_takes (expressions.inside left) (λ n. suc n) {a = 1} {left = left} room (λ e r ends. inside_takes left e r room ends) in
    let same = deeper_commas new_value_depth vs in
    fits (λ h. omega arith) (λ h. omega arith) (commas (new_value (expressions.inside left)) new_value_tokens (λ v. suc (new_value_depth v)) 1 left EndsExpr each comma_ends vs _ (close_ends rest) refl)

module _
    (cond_takes : (left : ℕ) (c : Cond) (rest : Tokens) → EndsCond rest → Takes (cond left) (cond_tokens c) 0 0 (cond_depth c) left c rest)
    (specification_takes : (left : ℕ) (q : QuerySpecification) (rest : Tokens) → EndsTable rest → Takes (query_specification left) (query_specification_tokens q) 0 0 (query_specification_depth q) left q rest)
    (table_expression_takes : (left : ℕ) (t : TableExpression) (rest : Tokens) → EndsTable rest → Takes (table_expression (cond left)) (table_expression_tokens t) 0 0 (table_expression_depth t) left t rest)
    (select_list_takes : (left : ℕ) (l : SelectList) (rest : Tokens) → EndsExpr rest → sees comma rest ≡ false → Takes (select_list (expr left)) (select_list_tokens l) 0 0 (select_list_depth l) left l rest) where
  -- [ WHERE condition | WHERE CURRENT OF name ]
  pub target_takes : (left : ℕ) (t : Option Where) (rest : Tokens) → EndsCond rest → sees (lexeme.Word word.Where) rest ≡ false → Takes (target left) (optional target_tokens t) 0 0 (optional_depth target_depth t) left t rest
  unfolding target
  target_takes left None rest ends none = uneaten (lexeme.Word word.Where) _ none done
  target_takes left (Some (Condition c)) rest ends none = eaten (word word.Where) _ (uneaten (lexeme.Word word.Current) _ (no_current c rest) (mapped (cond left) _ c (cond_takes left c rest ends) refl))
  target_takes left (Some (CurrentOf c)) rest ends none = eaten (word word.Where) _ (eaten (word word.Current) _ (expected (word word.Of) _ (named c _ done)))

  pub insert_source_takes : (left : ℕ) → 1 ≤ left → (s : InsertSource) (rest : Tokens) → EndsTable rest → Takes (insert_source left) (insert_source_tokens s) 0 0 (insert_source_depth s) left s rest
  unfolding insert_source
  insert_source_takes left room (sources.Values vs) rest ends = fits (λ h. omega arith) (λ h. omega arith) (eaten (word word.Values) _ (expected opening _ (andthen (comma_separated (new_value (expressions.inside left))) _ vs (values_takes left room vs rest) (expected closing _ done))))
  insert_source_takes left room (sources.Query q) rest ends = uneaten (lexeme.Word word.Values) _ (no_values q rest) (mapped (query_specification left) _ q (specification_takes left q rest ends) refl)

  -- ---- the statements, whose first words are read already

  pub select_takes : (left : ℕ) (s : Select) (rest : Tokens) → EndsTable rest → Takes (select left) (optional quantifier_tokens s.quantifier ++ select_list_tokens s.list ++ lexeme.Word word.Into ∷ comma_tokens parameter_tokens s.targets ++ table_expression_tokens s.table) 0 0 (select_depth s) left s rest
  unfolding select
  select_takes left s rest ends =
      let first : Tokens = optional quantifier_tokens s.quantifier in
      rw (append_assoc (first ++ select_list_tokens s.list), append_assoc first (select_list_tokens s.list))
      (plainly quantifier_if_any _ s.quantifier (quantifier_takes s.quantifier (list_starts word.All not_all s.list _ rest) (list_starts word.Distinct not_distinct s.list _ rest))
      (andthen (select_list (expr left)) _ s.list (select_list_takes left s.list _ (into_ends _) refl) (expected (word word.Into) _
      (plainly (comma_separated parameter) _ s.targets (targets_takes s.targets (from_ends s.table rest) (no_comma_from s.table rest))
      (mapped (table_expression (cond left)) _ s.table (table_expression_takes left s.table rest ends) refl)))))

  pub insert_takes : (left : ℕ) → 1 ≤ left → (i : Insert) (rest : Tokens) → EndsTable rest → Takes (insert left) (lexeme.Word word.Into ∷ table_name_tokens i.table ++ optional columns_tokens i.columns ++ insert_source_tokens i.source) 0 0 (insert_depth i) left i rest
  unfolding insert
  insert_takes left room i rest ends =
      fits (λ h. omega arith) (λ h. by i.columns h)
      (expected (word word.Into) _ (rw (append_assoc (table_name_tokens i.table) (optional columns_tokens i.columns) (insert_source_tokens i.source))
      (plainly table_name _ i.table (table_takes i.table (no_dot_before_source i.columns i.source rest))
      (plainly columns_if_any _ i.columns (columns_if_any_takes i.columns (source_starts symbol.Open i.source rest))
      (mapped (insert_source left) _ i.source (insert_source_takes left room i.source rest ends) refl)))))
    where
      by : (columns : Option (CommaList Name)) → left < max (bracket_depth columns) (insert_source_depth i.source) → left < insert_source_depth i.source
      by None h = omega arith
      by (Some c) h = omega arith

  pub update_takes : (left : ℕ) (u : Update) (rest : Tokens) → EndsTable rest → Takes (update left) (table_name_tokens u.table ++ lexeme.Word word.Set ∷ comma_tokens assignment_tokens u.assignments ++ optional target_tokens u.target) 0 0 (update_depth u) left u rest
  unfolding update
  update_takes left u rest ends =
      let sets = commas (assignment left) assignment_tokens assignment_depth 0 left EndsExpr (assignment_takes left) comma_ends u.assignments (optional target_tokens u.target ++ rest) (target_ends u.target rest (table_expr_ends ends)) (target_starts symbol.Comma u.target rest ends.comma) in
      rw (append_assoc (table_name_tokens u.table) (lexeme.Word word.Set ∷ comma_tokens assignment_tokens u.assignments) (optional target_tokens u.target))
      (plainly table_name _ u.table (table_takes u.table refl) (expected (word word.Set) _
      (andthen (comma_separated (assignment left)) _ u.assignments sets
      (mapped (target left) _ u.target (target_takes left u.target rest ends.cond ends.where_word) refl))))

  pub delete_takes : (left : ℕ) (d : Delete) (rest : Tokens) → EndsTable rest → Takes (delete left) (lexeme.Word word.From ∷ table_name_tokens d.table ++ optional target_tokens d.target) 0 0 (delete_depth d) left d rest
  unfolding delete
  delete_takes left d rest ends =
      expected (word word.From) _ (plainly table_name _ d.table (table_takes d.table (target_starts symbol.Dot d.target rest (table_expr_ends ends).term.factor.dot))
      (mapped (target left) _ d.target (target_takes left d.target rest ends.cond ends.where_word) refl))

  -- a statement, which has a semicolon behind it
  pub statement_takes : (left : ℕ) → 1 ≤ left → (s : Statement) (rest : Tokens) → Takes (statement left) (statement_tokens s) 0 0 (statement_depth s) left s (lexeme.Symbol symbol.Semicolon ∷ rest)
  unfolding statement
  statement_takes left room (statements.Open c) rest = met verb_of (lexeme.Word word.Open) verb.Open refl (λ n. refl) _ (named c _ done)
  statement_takes left room (statements.Fetch f) rest = met verb_of (lexeme.Word word.Fetch) verb.Fetch refl (λ n. refl) _ (mapped fetch _ f (fetch_takes f (table_expr_ends (semicolon_ends rest)).term.factor refl) refl)
  statement_takes left room (statements.Close c) rest = met verb_of (lexeme.Word word.Close) verb.Close refl (λ n. refl) _ (named c _ done)
  statement_takes left room (statements.Select s) rest = met verb_of (lexeme.Word word.Select) verb.Select refl (λ n. refl) _ (mapped (select left) _ s (select_takes left s _ (semicolon_ends rest)) refl)
  statement_takes left room (statements.Insert i) rest = met verb_of (lexeme.Word word.Insert) verb.Insert refl (λ n. refl) _ (mapped (insert left) _ i (insert_takes left room i _ (semicolon_ends rest)) refl)
  statement_takes left room (statements.Update u) rest = met verb_of (lexeme.Word word.Update) verb.Update refl (λ n. refl) _ (mapped (update left) _ u (update_takes left u _ (semicolon_ends rest)) refl)
  statement_takes left room (statements.Delete d) rest = met verb_of (lexeme.Word word.Delete) verb.Delete refl (λ n. refl) _ (mapped (delete left) _ d (delete_takes left d _ (semicolon_ends rest)) refl)
  statement_takes left room (statements.Commit true) rest = met verb_of (lexeme.Word word.Commit) verb.Commit refl (λ n. refl) _ (eaten (word word.Work) _ done)
  statement_takes left room (statements.Commit false) rest = met verb_of (lexeme.Word word.Commit) verb.Commit refl (λ n. refl) _ (uneaten (lexeme.Word word.Work) _ refl done)
  statement_takes left room (statements.Rollback true) rest = met verb_of (lexeme.Word word.Rollback) verb.Rollback refl (λ n. refl) _ (eaten (word word.Work) _ done)
  statement_takes left room (statements.Rollback false) rest = met verb_of (lexeme.Word word.Rollback) verb.Rollback refl (λ n. refl) _ (uneaten (lexeme.Word word.Work) _ refl done)
