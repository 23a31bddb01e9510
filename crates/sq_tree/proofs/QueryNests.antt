-- Query expressions close the brackets that they open, and are as deep as their parts say.
use Rattle.std.proofs.Common.{refl, ◌∙◌, subst, arith}
use Rattle.sq_tree.specs.Query.{query_tokens, query_term_tokens, union_term_tokens}
use Rattle.sq_tree.proofs.QueryDepth.{query_depth, query_term_depth, union_term_depth}
use Rattle.sq_tree.proofs.Nests.{Nests, nests-is, nests-plain, nests-append, nests-bracketed, nests-if_written, nests-none, nests-proved}
use Rattle.sq_tree.proofs.CondNests.{query_specification_nests}
use Rattle.sq_tree.specs.declared.query.Query.{Query, Query-F, roll-Query, fold-roll-Query, map-Query, ind-Query}
use Rattle.sq_tree.specs.declared.query.UnionTerm.{UnionTerm, UnionTerm-F, roll-UnionTerm, fold-roll-UnionTerm, map-UnionTerm}
use Rattle.sq_tree.specs.declared.query.QueryTerm.{QueryTerm, QueryTerm-F, roll-QueryTerm, fold-roll-QueryTerm, map-QueryTerm}
use Rattle.sq_tree.specs.declared.query.QueryTerm.TheOpen as layer

abbrev TermNests : QueryTerm → Type 0
TermNests t = Nests (query_term_tokens t) (query_term_depth t)

abbrev QueryNests : Query → Type 0
QueryNests q = Nests (query_tokens q) (query_depth q)

abbrev UnionNests : UnionTerm → Type 0
UnionNests u = Nests (union_term_tokens u) (union_term_depth u)

-- each part with a proof beside it
abbrev T : Type 0
T = (t : QueryTerm) × TermNests t

abbrev Q : Type 0
Q = (q : Query) × QueryNests q

abbrev U : Type 0
U = (u : UnionTerm) × UnionNests u

term_step : (y : QueryTerm-F T Q U) → TermNests (roll-QueryTerm (map-QueryTerm T Q U QueryTerm Query UnionTerm (λ e. e.0) (λ e. e.0) (λ e. e.0) y))
unfolding query_term_tokens query_term_depth query_tokens query_depth
term_step (layer.Specification s) = nests-is (query_specification_nests s) (fold-roll-QueryTerm _ _ _ _ _ _ _) (fold-roll-QueryTerm _ _ _ _ _ _ _)
term_step (layer.Bracketed e) = nests-is (nests-bracketed e.1) (fold-roll-QueryTerm _ _ _ _ _ _ _) (fold-roll-QueryTerm _ _ _ _ _ _ _)

query_step : (y : Query-F T Q U) → QueryNests (roll-Query (map-Query T Q U QueryTerm Query UnionTerm (λ e. e.0) (λ e. e.0) (λ e. e.0) y))
unfolding query_tokens query_depth query_term_tokens query_term_depth union_term_tokens union_term_depth
query_step y = nests-is (nests-append y.first.1 (nests-proved union_term_tokens union_term_depth (λ ts. ts) (λ ts d h. h) y.rest)) (fold-roll-Query _ _ _ _ _ _ _) (fold-roll-Query _ _ _ _ _ _ _)

union_step : (y : UnionTerm-F T Q U) → UnionNests (roll-UnionTerm (map-UnionTerm T Q U QueryTerm Query UnionTerm (λ e. e.0) (λ e. e.0) (λ e. e.0) y))
unfolding union_term_tokens union_term_depth query_term_tokens query_term_depth
union_step y = nests-is (nests-plain _ (λ n. refl) (nests-append (nests-if_written y.all (nests-plain _ (λ n. refl) nests-none)) y.term.1)) (fold-roll-UnionTerm _ _ _ _ _ _ _) (fold-roll-UnionTerm _ _ _ _ _ _ _ ∙ omega arith)

pub query_nests : (q : Query) → QueryNests q
query_nests q = ind-Query TermNests QueryNests UnionNests
    (λ x y is. subst (λ z. TermNests (roll-QueryTerm z)) is (term_step y))
    (λ x y is. subst (λ z. QueryNests (roll-Query z)) is (query_step y))
    (λ x y is. subst (λ z. UnionNests (roll-UnionTerm z)) is (union_step y))
    q
