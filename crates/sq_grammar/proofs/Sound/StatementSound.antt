-- Statements are spelled by what was read.
use Rattle.std.proofs.Common.{◌≡◌, ℕ, ◌-◌, ◌≤◌, [], ◌∷◌, ◌++◌, Some, None, refl, sym, ap, arith, append_assoc}
use Rattle.sq_lex.specs.declared.lexeme.Lexeme.{Lexeme}
use Rattle.sq_lex.specs.declared.lexeme.Lexeme.TheVariants as lexeme
use Rattle.sq_lex.specs.declared.symbol.Symbol.TheVariants as symbol
use Rattle.sq_lex.specs.declared.word.Word.TheVariants as word
use Rattle.sq_tree.specs.declared.expr.Expr.{Expr}
use Rattle.sq_tree.specs.declared.statement.Statement.TheVariants as statements
use Rattle.sq_tree.specs.declared.statement.Orientation.{Orientation}
use Rattle.sq_tree.specs.declared.statement.Orientation.TheVariants.{Next, Prior, First, Last, Absolute, Relative}
use Rattle.sq_tree.specs.declared.statement.Position.TheVariants as positions
use Rattle.sq_tree.specs.declared.statement.InsertSource.TheVariants as sources
use Rattle.sq_tree.specs.declared.statement.NewValue.TheVariants as values
use Rattle.sq_tree.specs.declared.statement.Where.TheVariants.{Condition, CurrentOf}
use Rattle.sq_tree.specs.Tree.{optional}
use Rattle.sq_tree.proofs.TreeDepth.{optional_depth}
use Rattle.sq_tree.specs.List.{comma_tokens}
use Rattle.sq_tree.specs.Names.{parameter_tokens}
use Rattle.sq_tree.specs.Expr.{expr_tokens, quantifier_tokens}
use Rattle.sq_tree.proofs.ExprDepth.{expr_depth}
use Rattle.sq_tree.specs.Cond.{select_list_tokens, table_expression_tokens}
use Rattle.sq_tree.specs.Statement.{position_tokens, orientation_tokens, fetch_from_tokens, fetch_tokens, select_tokens, new_value_tokens, insert_source_tokens, insert_tokens, target_tokens, assignment_tokens, update_tokens, delete_tokens, statement_tokens}
use Rattle.sq_tree.proofs.StatementDepth.{select_depth, new_value_depth, insert_source_depth, insert_depth, target_depth, assignment_depth, update_depth, delete_depth, statement_depth}
use Rattle.sq_grammar.specs.declared.verb.Verb.{Verb}
use Rattle.sq_grammar.specs.declared.verb.Verb.TheVariants as verb
use Rattle.sq_grammar.specs.Reading.{Parser, eat, one_if_any, name, comma_separated}
use Rattle.sq_grammar.specs.Names.{table_name, parameter, signed_number, columns_if_any}
use Rattle.sq_grammar.specs.Expr as expressions
use Rattle.sq_grammar.specs.Expr.{expr, quantifier_if_any}
use Rattle.sq_grammar.specs.Cond.{cond, query_specification}
use Rattle.sq_grammar.specs.Select.{select_list, table_expression}
use Rattle.sq_grammar.specs.Statement.{position, orientation_of, orientation, fetch_from, fetch, new_value, target, select, insert_source, insert, assignment, update, delete, verb_of, by_verb, statement}
use Rattle.sq_grammar.proofs.Sound.Spells.{Sound, After, sound, built, never, andthen, eats, eaten, expected, maybe, following, names, lists, one_maybe, one_spelled, some_is, lowered, lifted}
use Rattle.sq_grammar.proofs.Sound.NamesSound.{table_names, parameters, signed_numbers, a_column_list}
use Rattle.sq_grammar.proofs.Sound.ExprSound as expr_proof
use Rattle.sq_grammar.proofs.Sound.ExprSound.{quantifiers}
use Rattle.sq_grammar.proofs.Sound.SelectSound.{select_list_sound, table_expression_sound}
use Rattle.sq_grammar.proofs.Sound.CondSound.{cond_sound, query_specification_sound}

positions_sound : (left : ℕ) → Sound position position_tokens (λ _. 0) left
unfolding position
positions_sound left = sound (eaten (lexeme.Symbol symbol.Colon) _
    (andthen name _ (names left) (λ n. built (positions.Parameter n) _ _ refl (λ h. omega arith)))
    (andthen signed_number _ (signed_numbers left) (λ n. built (positions.Number n) _ _ refl (λ h. omega arith))))

orientation_is : (t : Lexeme) (o : Orientation) → orientation_of t ≡ Some o → t ∷ [] ≡ orientation_tokens o
orientation_is (lexeme.Word word.Next) o e = ap orientation_tokens (some_is Next o e)
orientation_is (lexeme.Word word.Prior) o e = ap orientation_tokens (some_is Prior o e)
orientation_is (lexeme.Word word.First) o e = ap orientation_tokens (some_is First o e)
orientation_is (lexeme.Word word.Last) o e = ap orientation_tokens (some_is Last o e)
orientation_is _ o e = cc

orientation_sound : (left : ℕ) → Sound orientation (optional orientation_tokens) (λ _. 0) left
unfolding orientation
orientation_sound left = sound (maybe (one_if_any orientation_of) _ (one_spelled orientation_of orientation_tokens orientation_is left)
    (eaten (lexeme.Word word.Absolute) _
    (andthen position _ (positions_sound left) (λ p. built (Some (Absolute p)) _ _ refl (λ h. omega arith)))
    (eaten (lexeme.Word word.Relative) _
    (andthen position _ (positions_sound left) (λ p. built (Some (Relative p)) _ _ refl (λ h. omega arith)))
    (built None _ _ refl (λ h. omega arith))))
    (λ o. built (Some o) _ _ refl (λ h. omega arith)))

fetch_from_sound : (left : ℕ) → Sound fetch_from (optional fetch_from_tokens) (λ _. 0) left
unfolding fetch_from
fetch_from_sound left = sound (maybe orientation _ (orientation_sound left)
    (eaten (lexeme.Word word.From) _
    (built (Some (record { orientation = None })) _ _ refl (λ h. omega arith))
    (built None _ _ refl (λ h. omega arith)))
    (λ o. expected (lexeme.Word word.From) _ (built (Some (record { orientation = Some o })) _ _ refl (λ h. omega arith))))

fetch_sound : (left : ℕ) → After (lexeme.Word word.Fetch ∷ []) 0 left fetch fetch_tokens (λ _. 0)
unfolding fetch
fetch_sound left = andthen fetch_from _ (fetch_from_sound left) (λ f. andthen name _ (names left) (λ c. expected (lexeme.Word word.Into) _ (andthen (comma_separated parameter) _ (lists parameter left (parameters left)) (λ ts.
    built (record { from = f; cursor = c; targets = ts }) _ _ (simp append_assoc) (λ h. omega arith)))))

new_value_sound : (left : ℕ) (exprs : Parser Expr) → Sound exprs expr_tokens expr_depth left → Sound (new_value exprs) new_value_tokens new_value_depth left
unfolding new_value
new_value_sound left exprs es = sound (eaten (lexeme.Word word.Null) _
    (built values.Null _ _ refl (λ h. omega arith))
    (andthen exprs _ es (λ e. built (values.Expr e) _ _ refl (λ h. omega arith))))

target_sound : (left : ℕ) → Sound (target left) (optional target_tokens) (optional_depth target_depth) left
unfolding target
target_sound left = sound (eaten (lexeme.Word word.Where) _
    (eaten (lexeme.Word word.Current) _
    (expected (lexeme.Word word.Of) _ (andthen name _ (names left) (λ c. built (Some (CurrentOf c)) _ _ refl (λ h. omega arith))))
    (andthen (cond left) _ (cond_sound left) (λ c. built (Some (Condition c)) _ _ refl (λ h. omega arith))))
    (built None _ _ refl (λ h. omega arith)))

select_sound : (left : ℕ) → After (lexeme.Word word.Select ∷ []) 0 left (select left) select_tokens select_depth
unfolding select
select_sound left = andthen quantifier_if_any _ (quantifiers left) (λ q. andthen (select_list (expr left)) _ (select_list_sound left (expr left) (expr_proof.expr_sound left)) (λ l.
    expected (lexeme.Word word.Into) _ (andthen (comma_separated parameter) _ (lists parameter left (parameters left)) (λ ts. andthen (table_expression (cond left)) _ (table_expression_sound left (cond left) (cond_sound left)) (λ t.
    built (record { quantifier = q; list = l; targets = ts; table = t }) _ _ (ap (λ u. u ++ table_expression_tokens t) (sym (append_assoc (lexeme.Word word.Select ∷ optional quantifier_tokens q ++ select_list_tokens l) (lexeme.Word word.Into ∷ []) (comma_tokens parameter_tokens ts)))) (λ h. omega arith))))))

insert_source_sound : (left : ℕ) → 1 ≤ left → Sound (insert_source left) insert_source_tokens insert_source_depth left
unfolding insert_source
insert_source_sound left room = sound (eaten (lexeme.Word word.Values) _
    (expected (lexeme.Symbol symbol.Open) _ (andthen (comma_separated (new_value (expressions.inside left))) _ (lifted left (omega arith) (lists (new_value (expressions.inside left)) (left - 1) (new_value_sound (left - 1) (expressions.inside left) (lowered left (expr_proof.inside_sound left))))) (λ vs.
    expected (lexeme.Symbol symbol.Close) _ (built (sources.Values vs) _ _ refl (λ h. omega arith)))))
    (andthen (query_specification left) _ (query_specification_sound left) (λ q. built (sources.Query q) _ _ refl (λ h. omega arith))))

insert_sound : (left : ℕ) → 1 ≤ left → After (lexeme.Word word.Insert ∷ []) 0 left (insert left) insert_tokens insert_depth
unfolding insert
insert_sound left room = expected (lexeme.Word word.Into) _ (andthen table_name _ (table_names left) (λ t. andthen columns_if_any _ (a_column_list left room) (λ cs. andthen (insert_source left) _ (insert_source_sound left room) (λ x.
    built (record { table = t; columns = cs; source = x }) _ _ (simp append_assoc) (λ h. omega arith)))))

assignment_sound : (left : ℕ) → Sound (assignment left) assignment_tokens assignment_depth left
unfolding assignment
assignment_sound left = sound (andthen name _ (names left) (λ c. expected (lexeme.Symbol symbol.Equal) _ (andthen (new_value (expr left)) _ (new_value_sound left (expr left) (expr_proof.expr_sound left)) (λ v.
    built (record { column = c; value = v }) _ _ refl (λ h. omega arith)))))

update_sound : (left : ℕ) → After (lexeme.Word word.Update ∷ []) 0 left (update left) update_tokens update_depth
unfolding update
update_sound left = andthen table_name _ (table_names left) (λ t. expected (lexeme.Word word.Set) _ (andthen (comma_separated (assignment left)) _ (lists (assignment left) left (assignment_sound left)) (λ xs. andthen (target left) _ (target_sound left) (λ w.
    built (record { table = t; assignments = xs; target = w }) _ _ (simp append_assoc) (λ h. omega arith)))))

delete_sound : (left : ℕ) → After (lexeme.Word word.Delete ∷ []) 0 left (delete left) delete_tokens delete_depth
unfolding delete
delete_sound left = expected (lexeme.Word word.From) _ (andthen table_name _ (table_names left) (λ t. andthen (target left) _ (target_sound left) (λ w.
    built (record { table = t; target = w }) _ _ (simp append_assoc) (λ h. omega arith))))

abbrev verb_token : Verb → Lexeme
verb_token verb.Open = lexeme.Word word.Open
verb_token verb.Fetch = lexeme.Word word.Fetch
verb_token verb.Close = lexeme.Word word.Close
verb_token verb.Select = lexeme.Word word.Select
verb_token verb.Insert = lexeme.Word word.Insert
verb_token verb.Update = lexeme.Word word.Update
verb_token verb.Delete = lexeme.Word word.Delete
verb_token verb.Commit = lexeme.Word word.Commit
verb_token verb.Rollback = lexeme.Word word.Rollback

verb_is : (t : Lexeme) (v : Verb) → verb_of t ≡ Some v → t ≡ verb_token v
verb_is (lexeme.Word word.Open) v e = ap verb_token (some_is verb.Open v e)
verb_is (lexeme.Word word.Fetch) v e = ap verb_token (some_is verb.Fetch v e)
verb_is (lexeme.Word word.Close) v e = ap verb_token (some_is verb.Close v e)
verb_is (lexeme.Word word.Select) v e = ap verb_token (some_is verb.Select v e)
verb_is (lexeme.Word word.Insert) v e = ap verb_token (some_is verb.Insert v e)
verb_is (lexeme.Word word.Update) v e = ap verb_token (some_is verb.Update v e)
verb_is (lexeme.Word word.Delete) v e = ap verb_token (some_is verb.Delete v e)
verb_is (lexeme.Word word.Commit) v e = ap verb_token (some_is verb.Commit v e)
verb_is (lexeme.Word word.Rollback) v e = ap verb_token (some_is verb.Rollback v e)
verb_is _ v e = cc

pub statement_sound : (left : ℕ) → 1 ≤ left → Sound (statement left) statement_tokens statement_depth left
unfolding statement
statement_sound left room = sound (maybe (one_if_any verb_of) _ (one_maybe verb_of verb_token verb_is left) (never _ _) by)
  where
    by : (v : Verb) → After (verb_token v ∷ []) 0 left (by_verb left (Some v)) statement_tokens statement_depth
    by verb.Open = andthen name _ (names left) (λ c. built (statements.Open c) _ _ refl (λ h. omega arith))
    by verb.Fetch = following fetch _ (fetch_sound left) (λ f. built (statements.Fetch f) _ _ refl (λ h. omega arith))
    by verb.Close = andthen name _ (names left) (λ c. built (statements.Close c) _ _ refl (λ h. omega arith))
    by verb.Select = following (select left) _ (select_sound left) (λ x. built (statements.Select x) _ _ refl (λ h. h))
    by verb.Insert = following (insert left) _ (insert_sound left room) (λ x. built (statements.Insert x) _ _ refl (λ h. h))
    by verb.Update = following (update left) _ (update_sound left) (λ x. built (statements.Update x) _ _ refl (λ h. h))
    by verb.Delete = following (delete left) _ (delete_sound left) (λ x. built (statements.Delete x) _ _ refl (λ h. h))
    by verb.Commit = andthen (eat (lexeme.Word word.Work)) _ (eats (lexeme.Word word.Work) left) (λ w. built (statements.Commit w) _ _ refl (λ h. omega arith))
    by verb.Rollback = andthen (eat (lexeme.Word word.Work)) _ (eats (lexeme.Word word.Work) left) (λ w. built (statements.Rollback w) _ _ refl (λ h. omega arith))
