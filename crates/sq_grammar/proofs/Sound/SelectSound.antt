-- Query specifications are spelled by what was read, if their expressions and conditions are.
use Rattle.std.proofs.Common.{ℕ, true, false, ◌∷◌, Some, None, refl, arith}
use Rattle.sq_lex.specs.declared.lexeme.Lexeme.TheVariants as lexeme
use Rattle.sq_lex.specs.declared.symbol.Symbol.TheVariants as symbol
use Rattle.sq_lex.specs.declared.word.Word.TheVariants as word
use Rattle.sq_tree.specs.declared.expr.Expr.{Expr}
use Rattle.sq_tree.specs.declared.cond.Cond.{Cond}
use Rattle.sq_tree.specs.declared.cond.SelectList.TheVariants as list
use Rattle.sq_tree.specs.declared.cond.TableExpression.{roll-TableExpression}
use Rattle.sq_tree.specs.declared.cond.QuerySpecification.{roll-QuerySpecification}
use Rattle.sq_tree.specs.Tree.{optional}
use Rattle.sq_tree.proofs.TreeDepth.{optional_depth}
use Rattle.sq_tree.specs.List.{comma_tokens}
use Rattle.sq_tree.proofs.ListDepth.{comma_depth}
use Rattle.sq_tree.specs.Names.{column_reference_tokens}
use Rattle.sq_tree.specs.Expr.{expr_tokens}
use Rattle.sq_tree.proofs.ExprDepth.{expr_depth}
use Rattle.sq_tree.specs.Cond.{correlation_tokens, table_reference_tokens, select_list_tokens, group_by_tokens, cond_tokens, table_expression_tokens, query_specification_tokens}
use Rattle.sq_tree.proofs.CondDepth.{select_list_depth, cond_depth, table_expression_depth, query_specification_depth}
use Rattle.sq_tree.proofs.CondLaws as law
use Rattle.sq_grammar.specs.Reading.{Parser, name, name_of, one_if_any, behind, comma_separated}
use Rattle.sq_grammar.specs.Names.{table_name, column_reference}
use Rattle.sq_grammar.specs.Expr.{quantifier_if_any}
use Rattle.sq_grammar.specs.Select.{correlation, table_reference, from_clause, by_columns, group_by, select_list, table_expression, specification}
use Rattle.sq_grammar.proofs.Sound.Spells.{Sound, sound, built, andthen, eaten, expected, maybe, names, a_name, behinds, lists, finally}
use Rattle.sq_grammar.proofs.Sound.NamesSound.{table_names, column_references}
use Rattle.sq_grammar.proofs.Sound.ExprSound.{quantifiers}

correlations : (left : ℕ) → Sound correlation (optional correlation_tokens) (λ _. 0) left
unfolding correlation
correlations left = sound (eaten (lexeme.Word word.As) _
    (andthen name _ (names left) (λ n. built (Some (record { as_word = true; name = n })) _ _ refl (λ h. omega arith)))
    (maybe (one_if_any name_of) _ (a_name left)
    (built None _ _ refl (λ h. omega arith))
    (λ n. built (Some (record { as_word = false; name = n })) _ _ refl (λ h. omega arith))))

table_references : (left : ℕ) → Sound table_reference table_reference_tokens (λ _. 0) left
unfolding table_reference
table_references left = sound (andthen table_name _ (table_names left) (λ t. andthen correlation _ (correlations left) (λ c. built (record { table = t; correlation = c }) _ _ refl (λ h. omega arith))))

from_sound : (left : ℕ) → Sound from_clause (λ l. lexeme.Word word.From ∷ comma_tokens table_reference_tokens l) (comma_depth (λ _. 0)) left
unfolding from_clause
from_sound left = sound (expected (lexeme.Word word.From) _ (finally (comma_separated table_reference) (lists table_reference left (table_references left)) (λ x. refl) (λ x h i. i)))

by_columns_sound : (left : ℕ) → Sound by_columns (λ l. lexeme.Word word.By ∷ comma_tokens column_reference_tokens l) (comma_depth (λ _. 0)) left
unfolding by_columns
by_columns_sound left = sound (expected (lexeme.Word word.By) _ (finally (comma_separated column_reference) (lists column_reference left (column_references left)) (λ x. refl) (λ x h i. i)))

group_by_sound : (left : ℕ) → Sound group_by (optional group_by_tokens) (optional_depth (comma_depth (λ _. 0))) left
unfolding group_by
group_by_sound left = behinds (lexeme.Word word.Group) by_columns left (by_columns_sound left)

pub select_list_sound : (left : ℕ) (exprs : Parser Expr) → Sound exprs expr_tokens expr_depth left → Sound (select_list exprs) select_list_tokens select_list_depth left
unfolding select_list
select_list_sound left exprs es = sound (eaten (lexeme.Symbol symbol.Star) _
    (built list.Star _ _ refl (λ h. omega arith))
    (andthen (comma_separated exprs) _ (lists exprs left es) (λ items. built (list.Items items) _ _ refl (λ h. omega arith))))

pub table_expression_sound : (left : ℕ) (conds : Parser Cond) → Sound conds cond_tokens cond_depth left → Sound (table_expression conds) table_expression_tokens table_expression_depth left
unfolding table_expression
table_expression_sound left conds cs = sound (andthen from_clause _ (from_sound left) (λ f.
    andthen (behind (lexeme.Word word.Where) conds) _ (behinds (lexeme.Word word.Where) conds left cs) (λ w.
    andthen group_by _ (group_by_sound left) (λ g.
    andthen (behind (lexeme.Word word.Having) conds) _ (behinds (lexeme.Word word.Having) conds left cs) (λ h.
    built (roll-TableExpression (record { from = f; where_clause = w; group_by = g; having = h })) _ _ (law.table_expression_tokens-roll f w g h) (λ i. rw (law.table_expression_depth-roll f w g h) (omega arith)))))))

pub specifications : (left : ℕ) (exprs : Parser Expr) (conds : Parser Cond) → Sound exprs expr_tokens expr_depth left → Sound conds cond_tokens cond_depth left → Sound (specification exprs conds) query_specification_tokens query_specification_depth left
unfolding specification
specifications left exprs conds es cs = sound (expected (lexeme.Word word.Select) _
    (andthen quantifier_if_any _ (quantifiers left) (λ q.
    andthen (select_list exprs) _ (select_list_sound left exprs es) (λ l.
    andthen (table_expression conds) _ (table_expression_sound left conds cs) (λ t.
    built (roll-QuerySpecification (record { quantifier = q; list = l; table = t })) _ _ (law.query_specification_tokens-roll q l t) (λ h. rw (law.query_specification_depth-roll q l t) (omega arith)))))))
