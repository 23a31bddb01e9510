-- The parts of bound query expressions, and the kinds of their columns, level by level.
use Rattle.std.proofs.Common.{◌≡◌, refl, sym, ◌∙◌, ap}
use Rattle.std.specs.Prelude.{List, [], ◌∷◌, ◌++◌, flat_map, fold, map, Ok}
use Rattle.sq_meaning.specs.Status.{◌>>=◌}
use Rattle.sq_meaning.specs.Kind.{common_kinds}
use Rattle.sq_bound.specs.Joined.{Kinds, brought_kinds, kept_kinds, specifications_of, term_specifications, union_specifications, joined_kinds, term_kinds, union_kinds}
use Rattle.sq_bound.proofs.ExpressionLaws.{fold_mapped}
use Rattle.sq_bound.specs.declared.condition.BoundSpecification.{BoundSpecification, out-BoundSpecification}
use Rattle.sq_bound.specs.declared.query.BoundQuery.{BoundQuery, out-BoundQuery, fold_out-BoundQuery}
use Rattle.sq_bound.specs.declared.query.BoundUnion.{BoundUnion, fold_out-BoundUnion}
use Rattle.sq_bound.specs.declared.query.BoundTerm.{fold-roll-BoundTerm}
use Rattle.sq_bound.specs.declared.query.BoundTerm.TheVariants as bound
use Rattle.sq_bound.specs.declared.query.BoundTerm.TheOpen as layer

-- ---- query specifications

flat_mapped : {A B : Type 0} (f : A → List B) (xs : List A) → flat_map (λ y. y) (map f xs) ≡ flat_map f xs
flat_mapped f [] = refl
flat_mapped f (x ∷ xs) = ap (λ rest. f x ++ rest) (flat_mapped f xs)

pub specifications_of-out : (q : BoundQuery) → specifications_of q ≡ term_specifications (out-BoundQuery q).first ++ flat_map union_specifications (out-BoundQuery q).rest
unfolding specifications_of term_specifications union_specifications
specifications_of-out q = fold_out-BoundQuery _ _ _ _ _ _ q ∙ ap (λ rest. term_specifications (out-BoundQuery q).first ++ rest) (flat_mapped union_specifications (out-BoundQuery q).rest)

pub union_specifications-out : (u : BoundUnion) → union_specifications u ≡ term_specifications u.term
unfolding union_specifications term_specifications
union_specifications-out u = fold_out-BoundUnion _ _ _ _ _ _ u

pub term_specifications-Specification : (s : BoundSpecification) → term_specifications (bound.Specification s) ≡ s ∷ []
unfolding term_specifications
term_specifications-Specification s = ap term_specifications (sym (bound.rolls-Specification s)) ∙ fold-roll-BoundTerm _ _ _ _ _ _ (layer.Specification s)

pub term_specifications-Bracketed : (q : BoundQuery) → term_specifications (bound.Bracketed q) ≡ specifications_of q
unfolding term_specifications specifications_of
term_specifications-Bracketed q = ap term_specifications (sym (bound.rolls-Bracketed q)) ∙ fold-roll-BoundTerm _ _ _ _ _ _ (layer.Bracketed q)

-- ---- kinds

pub joined_kinds-out : (q : BoundQuery) → joined_kinds q ≡ (fold (λ left union. union_kinds union left) (term_kinds (out-BoundQuery q).first) (out-BoundQuery q).rest >>= kept_kinds (out-BoundQuery q).columns)
unfolding joined_kinds term_kinds union_kinds
joined_kinds-out q = fold_out-BoundQuery _ _ _ _ _ _ q ∙ ap (λ kinds. kinds >>= kept_kinds (out-BoundQuery q).columns) (fold_mapped (λ left union. union left) union_kinds (term_kinds (out-BoundQuery q).first) (out-BoundQuery q).rest)

pub union_kinds-out : (u : BoundUnion) (left : Kinds) → union_kinds u left ≡ (left >>= λ ls. term_kinds u.term >>= λ rs. common_kinds ls rs >>= brought_kinds u.columns)
unfolding union_kinds term_kinds
union_kinds-out u left = ap (λ (f : Kinds → Kinds). f left) (fold_out-BoundUnion _ _ _ _ _ _ u)

pub term_kinds-Specification : (s : BoundSpecification) → term_kinds (bound.Specification s) ≡ Ok (map (λ c. c.kind) (out-BoundSpecification s).columns)
unfolding term_kinds
term_kinds-Specification s = ap term_kinds (sym (bound.rolls-Specification s)) ∙ fold-roll-BoundTerm _ _ _ _ _ _ (layer.Specification s)

pub term_kinds-Bracketed : (q : BoundQuery) → term_kinds (bound.Bracketed q) ≡ joined_kinds q
unfolding term_kinds joined_kinds
term_kinds-Bracketed q = ap term_kinds (sym (bound.rolls-Bracketed q)) ∙ fold-roll-BoundTerm _ _ _ _ _ _ (layer.Bracketed q)
