-- No literal of a query expression that a text spells is the null value (ISO/IEC 9075:1992, 5.3).
use Rattle.std.proofs.Common.{Bool, List, [], ◌∷◌, map, subst, sym}
use Rattle.std.specs.Prelude.{fold}
use Rattle.sq_lex.specs.declared.name.Name.{Name}
use Rattle.sq_tree.specs.declared.query.Query.{Query as SpelledQuery, Query-F, ind-Query, map-Query, roll-Query}
use Rattle.sq_tree.specs.declared.query.QueryTerm.{QueryTerm, QueryTerm-F, map-QueryTerm, roll-QueryTerm}
use Rattle.sq_tree.specs.declared.query.QueryTerm.TheOpen as layer
use Rattle.sq_tree.specs.declared.query.QueryTerm.TheVariants as term
use Rattle.sq_tree.specs.declared.query.UnionTerm.{UnionTerm, UnionTerm-F, map-UnionTerm, roll-UnionTerm}
use Rattle.sq_meaning.specs.Spelled.{Named, query_of, query_term_of, union_term_of}
use Rattle.sq_meaning.specs.Syntax.{Query, union}
use Rattle.sq_meaning.proofs.SpelledLevels.{query_of-roll, query_term_of-Bracketed, query_term_of-Specification, union_term_of-out}
use Rattle.sq_run.proofs.Sites.CondLiterals.{select_spells}
use Rattle.sq_run.proofs.Sites.QuerySites.{QuerySpellsNoNull}

module _ (own : Name) where
  abbrev OfTerm : QueryTerm → Type 0
  OfTerm t = QuerySpellsNoNull (query_term_of own t)

  abbrev OfQuery : SpelledQuery → Type 0
  OfQuery q = QuerySpellsNoNull (query_of own q)

  abbrev OfUnion : UnionTerm → Type 0
  OfUnion u = QuerySpellsNoNull (union_term_of own u).1

  -- each part with a proof beside it
  abbrev T : Type 0
  T = (t : QueryTerm) × OfTerm t

  abbrev Q : Type 0
  Q = (q : SpelledQuery) × OfQuery q

  abbrev U : Type 0
  U = (u : UnionTerm) × OfUnion u

  unions_spell : (left : Query Named) → QuerySpellsNoNull left → (rest : List U) → QuerySpellsNoNull (fold (λ l u. union u.0 l u.1) left (map (union_term_of own) (map (λ e. e.0) rest)))
  unions_spell left h [] = h
  unions_spell left h (u ∷ rest) = unions_spell (union (union_term_of own u.0).0 left (union_term_of own u.0).1) (h, u.1) rest

  term_step : (y : QueryTerm-F T Q U) → OfTerm (roll-QueryTerm (map-QueryTerm T Q U QueryTerm SpelledQuery UnionTerm (λ e. e.0) (λ e. e.0) (λ e. e.0) y))
  term_step (layer.Specification q) = subst OfTerm (sym (term.rolls-Specification q)) (subst QuerySpellsNoNull (sym (query_term_of-Specification own q)) (select_spells own q))
  term_step (layer.Bracketed q) = subst OfTerm (sym (term.rolls-Bracketed q.0)) (subst QuerySpellsNoNull (sym (query_term_of-Bracketed own q.0)) q.1)

  query_step : (y : Query-F T Q U) → OfQuery (roll-Query (map-Query T Q U QueryTerm SpelledQuery UnionTerm (λ e. e.0) (λ e. e.0) (λ e. e.0) y))
  query_step y = subst QuerySpellsNoNull (sym (query_of-roll own y.first.0 (map (λ e. e.0) y.rest))) (unions_spell (query_term_of own y.first.0) y.first.1 y.rest)

  union_step : (y : UnionTerm-F T Q U) → OfUnion (roll-UnionTerm (map-UnionTerm T Q U QueryTerm SpelledQuery UnionTerm (λ e. e.0) (λ e. e.0) (λ e. e.0) y))
  union_step y = subst (λ (u : Bool × Query Named). QuerySpellsNoNull u.1) (sym (union_term_of-out own (record { all = y.all; term = y.term.0 }))) y.term.1

  -- no literal of a spelled query expression is the null value
  pub query_spells : (q : SpelledQuery) → OfQuery q
  query_spells q = ind-Query OfTerm OfQuery OfUnion
      (λ x y is. subst (λ z. OfTerm (roll-QueryTerm z)) is (term_step y))
      (λ x y is. subst (λ z. OfQuery (roll-Query z)) is (query_step y))
      (λ x y is. subst (λ z. OfUnion (roll-UnionTerm z)) is (union_step y))
      q
