-- The meanings of bound query expressions, level by level.
use Rattle.std.proofs.Common.{◌≡◌, sym, ◌∙◌, ap}
use Rattle.std.specs.Prelude.{fold}
use Rattle.sq_meaning.specs.Syntax.{specification, union}
use Rattle.sq_bound.specs.Condition.{select_of}
use Rattle.sq_bound.specs.Query.{PlacedQuery, query_of, term_of, union_of}
use Rattle.sq_bound.proofs.ExpressionLaws.{fold_mapped}
use Rattle.sq_bound.specs.declared.condition.BoundSpecification.{BoundSpecification}
use Rattle.sq_bound.specs.declared.query.BoundQuery.{BoundQuery, out-BoundQuery, fold_out-BoundQuery}
use Rattle.sq_bound.specs.declared.query.BoundUnion.{BoundUnion, fold_out-BoundUnion}
use Rattle.sq_bound.specs.declared.query.BoundTerm.{fold-roll-BoundTerm}
use Rattle.sq_bound.specs.declared.query.BoundTerm.TheVariants as bound
use Rattle.sq_bound.specs.declared.query.BoundTerm.TheOpen as layer

pub query_of-out : (q : BoundQuery) → query_of q ≡ fold (λ left u. union_of u left) (term_of (out-BoundQuery q).first) (out-BoundQuery q).rest
unfolding query_of union_of term_of
query_of-out q = fold_out-BoundQuery _ _ _ _ _ _ q ∙ fold_mapped (λ left u. u left) union_of (term_of (out-BoundQuery q).first) (out-BoundQuery q).rest

pub union_of-out : (u : BoundUnion) (left : PlacedQuery) → union_of u left ≡ union u.all left (term_of u.term)
unfolding union_of term_of
union_of-out u left = ap (λ (f : PlacedQuery → PlacedQuery). f left) (fold_out-BoundUnion _ _ _ _ _ _ u)

pub term_of-Specification : (s : BoundSpecification) → term_of (bound.Specification s) ≡ specification (select_of s)
unfolding term_of
term_of-Specification s = ap term_of (sym (bound.rolls-Specification s)) ∙ fold-roll-BoundTerm _ _ _ _ _ _ (layer.Specification s)

pub term_of-Bracketed : (q : BoundQuery) → term_of (bound.Bracketed q) ≡ query_of q
unfolding term_of query_of
term_of-Bracketed q = ap term_of (sym (bound.rolls-Bracketed q)) ∙ fold-roll-BoundTerm _ _ _ _ _ _ (layer.Bracketed q)
