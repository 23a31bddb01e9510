-- Two search conditions with one list of tokens are one, and so for their parts and for query specifications.
use Rattle.std.proofs.Common.{◌≡◌, ℕ, max, [], ◌∷◌, Some, arith, refl}
use Rattle.sq_tree.specs.declared.cond.Comparison.{Comparison}
use Rattle.sq_tree.specs.declared.cond.Quantifier.{Quantifier}
use Rattle.sq_tree.specs.declared.cond.Correlation.{Correlation}
use Rattle.sq_tree.specs.declared.cond.TableReference.{TableReference}
use Rattle.sq_tree.specs.declared.cond.SelectList.{SelectList}
use Rattle.sq_tree.specs.declared.cond.Cond.{Cond}
use Rattle.sq_tree.specs.declared.cond.Conj.{Conj}
use Rattle.sq_tree.specs.declared.cond.Test.{Test}
use Rattle.sq_tree.specs.declared.cond.Body.{Body}
use Rattle.sq_tree.specs.declared.cond.Tail.{Tail}
use Rattle.sq_tree.specs.declared.cond.TableExpression.{TableExpression}
use Rattle.sq_tree.specs.declared.cond.QuerySpecification.{QuerySpecification}
use Rattle.sq_tree.specs.Cond.{comparison_token, compared_token, correlation_tokens, table_reference_tokens, select_list_tokens, cond_tokens, conj_tokens, test_tokens, body_tokens, tail_tokens, table_expression_tokens, query_specification_tokens}
use Rattle.sq_tree.proofs.CondDepth.{select_list_depth, cond_depth, conj_depth, test_depth, body_depth, tail_depth, table_expression_depth, query_specification_depth}
use Rattle.sq_grammar.specs.declared.cond_or_expr.CondOrExpr.TheVariants as came
use Rattle.sq_grammar.specs.Cond.{comparison_of, inside}
use Rattle.sq_grammar.proofs.Sound.Spells.{some_is}
use Rattle.sq_grammar.proofs.Unique.OneTree.{one_tree}
use Rattle.sq_grammar.proofs.Unique.OneToken.{one_token}
use Rattle.sq_grammar.proofs.Unique.OneExpr.{end_of_expr}
use Rattle.sq_grammar.proofs.Taken.SelectTakes.{correlation_takes, reference_takes}
use Rattle.sq_grammar.proofs.Taken.TailTakes.{comparison_is, compared_takes, tail_takes}
use Rattle.sq_grammar.proofs.Taken.CondTakes.{body_takes, test_takes, conj_takes, inside_takes, cond_takes}
use Rattle.sq_grammar.proofs.Taken.QueryTakes.{select_list_takes, table_expression_takes, specification_takes}
use Rattle.sq_grammar.proofs.Ends.Follows.{EndsTable}

pub one_comparison : (a b : Comparison) → comparison_token a ∷ [] ≡ comparison_token b ∷ [] → a ≡ b
one_comparison = one_token comparison_of comparison_token comparison_is

pub one_quantifier : (a b : Quantifier) → compared_token a ∷ [] ≡ compared_token b ∷ [] → a ≡ b
one_quantifier a b same = some_is a b (one_tree (compared_takes (Some a) {a = 0} {left = 0} {rest = []} refl refl refl) (compared_takes (Some b) {a = 0} {rest = []} refl refl refl) (omega arith) (omega arith) same)

pub one_correlation : (a b : Correlation) → correlation_tokens a ≡ correlation_tokens b → a ≡ b
one_correlation a b same = some_is a b (one_tree (correlation_takes (Some a) {a = 0} {left = 0} {rest = []} refl refl) (correlation_takes (Some b) {a = 0} {rest = []} refl refl) (omega arith) (omega arith) same)

pub one_table_reference : (a b : TableReference) → table_reference_tokens a ≡ table_reference_tokens b → a ≡ b
one_table_reference a b same =
    let takes = λ (t : TableReference). reference_takes t {a = 0} {left = 0} [] (record { dot = refl; as_word = refl; name = refl }) in
    one_tree (takes a) (takes b) (omega arith) (omega arith) same

pub one_select_list : (a b : SelectList) → select_list_tokens a ≡ select_list_tokens b → a ≡ b
one_select_list a b same =
    let left : ℕ = max (select_list_depth a) (select_list_depth b) in
    one_tree (select_list_takes left a [] end_of_expr refl) (select_list_takes left b [] end_of_expr refl) (omega arith) (omega arith) same

pub end_of_table : EndsTable []
end_of_table = record {
  cond = record { conj = record { test = record { expr = end_of_expr; escape = refl }; and = refl }; or = refl };
  comma = refl;
  as_word = refl;
  name = refl;
  where_word = refl;
  group = refl;
  having = refl;
}

whole_is : {A : Type 0} (x y : A) → came.Cond x ≡ came.Cond y → x ≡ y
whole_is x y e = cc

pub one_tail : (a b : Tail) → tail_tokens a ≡ tail_tokens b → a ≡ b
one_tail a b same =
    let left : ℕ = max (tail_depth a) (tail_depth b) in
    let takes = tail_takes left (inside left) (inside_takes left).whole in
    some_is a b (one_tree (takes a [] end_of_table.cond.conj.test) (takes b [] end_of_table.cond.conj.test) (omega arith) (omega arith) same)

pub one_body : (a b : Body) → body_tokens a ≡ body_tokens b → a ≡ b
one_body a b same =
    let left : ℕ = max (body_depth a) (body_depth b) in
    let takes = body_takes left (inside left) (inside_takes left).whole (inside_takes left).bare in
    whole_is a b (one_tree (takes a [] end_of_table.cond.conj.test) (takes b [] end_of_table.cond.conj.test) (omega arith) (omega arith) same)

pub one_test : (a b : Test) → test_tokens a ≡ test_tokens b → a ≡ b
one_test a b same =
    let left : ℕ = max (test_depth a) (test_depth b) in
    let takes = test_takes left (inside left) (inside_takes left).whole (inside_takes left).bare in
    whole_is a b (one_tree (takes a [] end_of_table.cond.conj.test) (takes b [] end_of_table.cond.conj.test) (omega arith) (omega arith) same)

pub one_conj : (a b : Conj) → conj_tokens a ≡ conj_tokens b → a ≡ b
one_conj a b same =
    let left : ℕ = max (conj_depth a) (conj_depth b) in
    let takes = conj_takes left (inside left) (inside_takes left).whole (inside_takes left).bare in
    whole_is a b (one_tree (takes a [] end_of_table.cond.conj) (takes b [] end_of_table.cond.conj) (omega arith) (omega arith) same)

pub one_cond : (a b : Cond) → cond_tokens a ≡ cond_tokens b → a ≡ b
one_cond a b same =
    let left : ℕ = max (cond_depth a) (cond_depth b) in
    one_tree (cond_takes left a [] end_of_table.cond) (cond_takes left b [] end_of_table.cond) (omega arith) (omega arith) same

pub one_table_expression : (a b : TableExpression) → table_expression_tokens a ≡ table_expression_tokens b → a ≡ b
one_table_expression a b same =
    let left : ℕ = max (table_expression_depth a) (table_expression_depth b) in
    one_tree (table_expression_takes left a [] end_of_table) (table_expression_takes left b [] end_of_table) (omega arith) (omega arith) same

pub one_query_specification : (a b : QuerySpecification) → query_specification_tokens a ≡ query_specification_tokens b → a ≡ b
one_query_specification a b same =
    let left : ℕ = max (query_specification_depth a) (query_specification_depth b) in
    one_tree (specification_takes left a [] end_of_table) (specification_takes left b [] end_of_table) (omega arith) (omega arith) same
