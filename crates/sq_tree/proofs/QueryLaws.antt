-- The tokens and the depth of one level of a query expression, from its parts.
use Rattle.std.proofs.Common.{◌≡◌, ◌+◌, max, List, [], ◌∷◌, ◌++◌, refl, sym, ◌∙◌, ap, map, subst}
use Rattle.std.specs.List.{flat_map}
use Rattle.std.proofs.lemmas.List.Folds.{flat_map-map}
use Rattle.sq_lex.specs.declared.lexeme.Lexeme.TheVariants as lexeme
use Rattle.sq_lex.specs.declared.word.Word.TheVariants as word
use Rattle.sq_tree.specs.Tree.{if_written, bracketed}
use Rattle.sq_tree.proofs.TreeDepth.{greatest}
use Rattle.sq_tree.specs.Cond.{query_specification_tokens}
use Rattle.sq_tree.proofs.CondDepth.{query_specification_depth}
use Rattle.sq_tree.specs.Query.{query_tokens, query_term_tokens, union_term_tokens}
use Rattle.sq_tree.proofs.QueryDepth.{query_depth, query_term_depth, union_term_depth}
use Rattle.sq_tree.specs.declared.cond.QuerySpecification.{QuerySpecification}
use Rattle.sq_tree.specs.declared.query.Query.{Query, out-Query, fold_out-Query, roll-Query, out-roll-Query}
use Rattle.sq_tree.specs.declared.query.UnionTerm.{UnionTerm, fold_out-UnionTerm}
use Rattle.sq_tree.specs.declared.query.QueryTerm.{QueryTerm, QueryTerm-F, fold-roll-QueryTerm, out-QueryTerm, roll-QueryTerm, roll-out-QueryTerm}
use Rattle.sq_tree.specs.declared.query.QueryTerm.TheVariants as term
use Rattle.sq_tree.specs.declared.query.QueryTerm.TheOpen as layer

pub query_tokens-out : (q : Query) → query_tokens q ≡ query_term_tokens (out-Query q).first ++ flat_map union_term_tokens (out-Query q).rest
unfolding query_tokens query_term_tokens union_term_tokens
query_tokens-out q = fold_out-Query _ _ _ _ _ _ q ∙ ap (λ ts. query_term_tokens (out-Query q).first ++ ts) (flat_map-map (λ ts. ts) union_term_tokens (out-Query q).rest)

pub union_term_tokens-out : (u : UnionTerm) → union_term_tokens u ≡ lexeme.Word word.Union ∷ if_written u.all (lexeme.Word word.All ∷ []) ++ query_term_tokens u.term
unfolding union_term_tokens query_term_tokens
union_term_tokens-out u = fold_out-UnionTerm _ _ _ _ _ _ u

pub query_term_tokens-Specification : (s : QuerySpecification) → query_term_tokens (term.Specification s) ≡ query_specification_tokens s
unfolding query_term_tokens
query_term_tokens-Specification s = ap query_term_tokens (sym (term.rolls-Specification s)) ∙ fold-roll-QueryTerm _ _ _ _ _ _ (layer.Specification s)

pub query_term_tokens-Bracketed : (q : Query) → query_term_tokens (term.Bracketed q) ≡ bracketed (query_tokens q)
unfolding query_term_tokens query_tokens
query_term_tokens-Bracketed q = ap query_term_tokens (sym (term.rolls-Bracketed q)) ∙ fold-roll-QueryTerm _ _ _ _ _ _ (layer.Bracketed q)

pub query_depth-out : (q : Query) → query_depth q ≡ max (query_term_depth (out-Query q).first) (greatest (map union_term_depth (out-Query q).rest))
unfolding query_depth query_term_depth union_term_depth
query_depth-out q = fold_out-Query _ _ _ _ _ _ q

pub union_term_depth-out : (u : UnionTerm) → union_term_depth u ≡ query_term_depth u.term
unfolding union_term_depth query_term_depth
union_term_depth-out u = fold_out-UnionTerm _ _ _ _ _ _ u

pub query_term_depth-Specification : (s : QuerySpecification) → query_term_depth (term.Specification s) ≡ query_specification_depth s
unfolding query_term_depth
query_term_depth-Specification s = ap query_term_depth (sym (term.rolls-Specification s)) ∙ fold-roll-QueryTerm _ _ _ _ _ _ (layer.Specification s)

pub query_term_depth-Bracketed : (q : Query) → query_term_depth (term.Bracketed q) ≡ query_depth q + 1
unfolding query_term_depth query_depth
query_term_depth-Bracketed q = ap query_term_depth (sym (term.rolls-Bracketed q)) ∙ fold-roll-QueryTerm _ _ _ _ _ _ (layer.Bracketed q)

pub ruleset query_tokens_levels = (query_tokens-out, union_term_tokens-out, query_term_tokens-Specification, query_term_tokens-Bracketed)

pub ruleset query_depth_levels = (query_depth-out, union_term_depth-out, query_term_depth-Specification, query_term_depth-Bracketed)

-- The tokens and depths of a tree that is put together from its parts.

pub query_tokens-roll : (t : QueryTerm) (rest : List UnionTerm) → query_tokens (roll-Query (record { first = t; rest = rest })) ≡ query_term_tokens t ++ flat_map union_term_tokens rest
query_tokens-roll t rest = query_tokens-out _ ∙ rw out-roll-Query refl

pub query_depth-roll : (t : QueryTerm) (rest : List UnionTerm) → query_depth (roll-Query (record { first = t; rest = rest })) ≡ max (query_term_depth t) (greatest (map union_term_depth rest))
query_depth-roll t rest = query_depth-out _ ∙ rw out-roll-Query refl

-- What holds of each kind of query term holds of all.
pub query_term_cases : (P : QueryTerm → Type 0)
    → ((s : QuerySpecification) → P (term.Specification s))
    → ((q : Query) → P (term.Bracketed q))
    → (t : QueryTerm) → P t
query_term_cases P specification bracket t = subst P (roll-out-QueryTerm t) (go (out-QueryTerm t))
  where
    go : (x : QueryTerm-F QueryTerm Query UnionTerm) → P (roll-QueryTerm x)
    go (layer.Specification s) = subst P (sym (term.rolls-Specification s)) (specification s)
    go (layer.Bracketed q) = subst P (sym (term.rolls-Bracketed q)) (bracket q)
