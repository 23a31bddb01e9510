-- Two query expressions with one list of tokens are one, and so for their parts.
use Rattle.std.proofs.Common.{◌≡◌, ℕ, max, [], arith, refl}
use Rattle.sq_tree.specs.declared.query.Query.{Query}
use Rattle.sq_tree.specs.declared.query.UnionTerm.{UnionTerm}
use Rattle.sq_tree.specs.declared.query.QueryTerm.{QueryTerm}
use Rattle.sq_tree.specs.Query.{query_tokens, union_term_tokens, query_term_tokens}
use Rattle.sq_tree.proofs.QueryDepth.{query_depth, union_term_depth, query_term_depth}
use Rattle.sq_grammar.specs.Query.{inside}
use Rattle.sq_grammar.proofs.Sound.Spells.{some_is}
use Rattle.sq_grammar.proofs.Unique.OneTree.{one_tree}
use Rattle.sq_grammar.proofs.Unique.OneCond.{end_of_table}
use Rattle.sq_grammar.proofs.Taken.QueryTakes.{term_takes, union_each, inside_takes, query_takes}
use Rattle.sq_grammar.proofs.Ends.Follows.{EndsQuery}

pub one_query_term : (a b : QueryTerm) → query_term_tokens a ≡ query_term_tokens b → a ≡ b
one_query_term a b same =
    let left : ℕ = max (query_term_depth a) (query_term_depth b) in
    let takes = term_takes left (inside left) (λ h q rest f. inside_takes left q rest h f) in
    one_tree (takes a [] end_of_table) (takes b [] end_of_table) (omega arith) (omega arith) same

pub one_union_term : (a b : UnionTerm) → union_term_tokens a ≡ union_term_tokens b → a ≡ b
one_union_term a b same =
    let left : ℕ = max (union_term_depth a) (union_term_depth b) in
    let takes = union_each left (inside left) (λ h q rest f. inside_takes left q rest h f) in
    some_is a b (one_tree (takes a [] end_of_table) (takes b [] end_of_table) (omega arith) (omega arith) same)

pub end_of_query : EndsQuery []
end_of_query = record { table = end_of_table; union = refl }

pub one_query : (a b : Query) → query_tokens a ≡ query_tokens b → a ≡ b
one_query a b same =
    let left : ℕ = max (query_depth a) (query_depth b) in
    one_tree (query_takes left a [] end_of_query) (query_takes left b [] end_of_query) (omega arith) (omega arith) same
