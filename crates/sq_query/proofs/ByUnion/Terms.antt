-- Query expressions, term by term (ISO/IEC 9075:1992, 7.10).
use Rattle.std.proofs.Common.{List, [], ◌∷◌, map, sym, subst}
use Rattle.std.specs.Prelude.{fold, flat_map}
use Rattle.std.specs.List.{AllByRecursion}
use Rattle.sq_meaning.specs.Syntax.{specification, union}
use Rattle.sq_bound.specs.Condition.{PlacedSelect, select_of}
use Rattle.sq_bound.specs.Joined.{term_specifications, union_specifications}
use Rattle.sq_bound.specs.Query.{PlacedQuery, term_of, union_of}
use Rattle.sq_bound.specs.declared.condition.BoundSpecification.{BoundSpecification}
use Rattle.sq_bound.specs.declared.query.BoundQuery.{BoundQuery, BoundQuery-F, roll-BoundQuery, out-BoundQuery, out-roll-BoundQuery, map-BoundQuery}
use Rattle.sq_bound.specs.declared.query.BoundTerm.{BoundTerm, BoundTerm-F, roll-BoundTerm, map-BoundTerm, ind-BoundTerm}
use Rattle.sq_bound.specs.declared.query.BoundTerm.TheOpen as layer
use Rattle.sq_bound.specs.declared.query.BoundTerm.TheVariants.{Specification, Bracketed, rolls-Specification, rolls-Bracketed}
use Rattle.sq_bound.specs.declared.query.BoundUnion.{BoundUnion, BoundUnion-F, roll-BoundUnion, map-BoundUnion}
use Rattle.sq_bound.proofs.JoinedLaws.{union_specifications-out, term_specifications-Specification}
use Rattle.sq_bound.proofs.QueryLaws.{union_of-out, term_of-Specification}
use Rattle.sq_query.proofs.ByUnion.JoinedTerms.{all_left, all_right}

-- ---- what holds of every term

module _ (P : BoundTerm → Type 0) where
  abbrev pub HasParts : BoundQuery → Type 0
  HasParts q = P (out-BoundQuery q).first × AllByRecursion (λ u. P u.term) (out-BoundQuery q).rest

  abbrev pub HasPart : BoundUnion → Type 0
  HasPart u = P u.term

  abbrev T : Type 0
  T = (t : BoundTerm) × P t

  abbrev Q : Type 0
  Q = (q : BoundQuery) × HasParts q

  abbrev U : Type 0
  U = (u : BoundUnion) × HasPart u

  module _ (one : (s : BoundSpecification) → P (Specification s)) (more : (q : BoundQuery) → HasParts q → P (Bracketed q)) where
    term_step : (y : BoundTerm-F T Q U) → P (roll-BoundTerm (map-BoundTerm T Q U BoundTerm BoundQuery BoundUnion (λ e. e.0) (λ e. e.0) (λ e. e.0) y))
    term_step (layer.Specification s) = subst P (sym (rolls-Specification s)) (one s)
    term_step (layer.Bracketed q) = subst P (sym (rolls-Bracketed q.0)) (more q.0 q.1)

    all_parts : (us : List U) → AllByRecursion (λ (u : BoundUnion). P u.term) (map (λ e. e.0) us)
    all_parts [] = tt
    all_parts (u ∷ us) = (u.1, all_parts us)

    query_step : (y : BoundQuery-F T Q U) → HasParts (roll-BoundQuery (map-BoundQuery T Q U BoundTerm BoundQuery BoundUnion (λ e. e.0) (λ e. e.0) (λ e. e.0) y))
    query_step y = subst (λ o. P o.first × AllByRecursion (λ (u : BoundUnion). P u.term) o.rest) (sym (out-roll-BoundQuery (map-BoundQuery T Q U BoundTerm BoundQuery BoundUnion (λ e. e.0) (λ e. e.0) (λ e. e.0) y))) (y.first.1, all_parts y.rest)

    union_step : (y : BoundUnion-F T Q U) → HasPart (roll-BoundUnion (map-BoundUnion T Q U BoundTerm BoundQuery BoundUnion (λ e. e.0) (λ e. e.0) (λ e. e.0) y))
    union_step y = y.term.1

    pub every_term : (t : BoundTerm) → P t
    every_term t = ind-BoundTerm P HasParts HasPart
        (λ x y is. subst (λ z. P (roll-BoundTerm z)) is (term_step y))
        (λ x y is. subst (λ z. HasParts (roll-BoundQuery z)) is (query_step y))
        (λ x y is. subst (λ z. HasPart (roll-BoundUnion z)) is (union_step y))
        t

-- ---- what holds of all query specifications

abbrev pub AllSelects : (PlacedSelect → Type 0) → PlacedQuery → Type 0
AllSelects P (specification s) = P s
AllSelects P (union all left right) = AllSelects P left × AllSelects P right

module _ (P : PlacedSelect → Type 0) where
  abbrev IsMeant : BoundSpecification → Type 0
  IsMeant s = P (select_of s)

  abbrev InTerm : BoundTerm → Type 0
  InTerm t = AllByRecursion IsMeant (term_specifications t) → AllSelects P (term_of t)

  one_select : (s : BoundSpecification) → InTerm (Specification s)
  one_select s h = subst (AllSelects P) (sym (term_of-Specification s)) (subst (AllByRecursion IsMeant) (term_specifications-Specification s) h).0

  union_selects : (us : List BoundUnion) (left : PlacedQuery) → AllByRecursion (λ u. InTerm u.term) us → AllSelects P left → AllByRecursion IsMeant (flat_map union_specifications us)
      → AllSelects P (fold (λ l u. union_of u l) left us)
  union_selects [] left terms h all = h
  union_selects (u ∷ us) left terms h all =
      let own = subst (AllByRecursion IsMeant) (union_specifications-out u) (all_left IsMeant (union_specifications u) (flat_map union_specifications us) all) in
      union_selects us (union_of u left) terms.1 (subst (AllSelects P) (sym (union_of-out u left)) (h, terms.0 own)) (all_right IsMeant (union_specifications u) (flat_map union_specifications us) all)
