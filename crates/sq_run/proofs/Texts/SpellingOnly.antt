-- What meets the equations of `Spelling` is the reading of the definitions.
use Rattle.std.proofs.Common.{◌≡◌, Bool, List, [], ◌∷◌, ◌++◌, sym, ◌∙◌, ap, map, subst}
use Rattle.std.specs.Prelude.{fold}
use Rattle.sq_lex.specs.declared.name.Name.{Name}
use Rattle.sq_tree.specs.declared.query.Query.{Query as SpelledQuery, Query-F, roll-Query, map-Query, ind-Query}
use Rattle.sq_tree.specs.declared.query.UnionTerm.{UnionTerm, UnionTerm-F, roll-UnionTerm, map-UnionTerm}
use Rattle.sq_tree.specs.declared.query.QueryTerm.{QueryTerm, QueryTerm-F, roll-QueryTerm, map-QueryTerm}
use Rattle.sq_tree.specs.declared.query.QueryTerm.TheVariants as query_term
use Rattle.sq_tree.specs.declared.query.QueryTerm.TheOpen as layer
use Rattle.sq_meaning.specs.Syntax.{Query, union, specification}
use Rattle.sq_meaning.specs.Spelled.{Named, query_of, query_term_of, union_term_of}
use Rattle.sq_meaning.proofs.SpelledLevels.{query_of-roll, union_term_of-out, query_term_of-Specification, query_term_of-Bracketed}
use Rattle.sq_run.specs.Spelling.{Reading, union_of, Reads, reading_of, SpelledIsSpelling}
use Rattle.sq_run.proofs.Texts.SpelledExpressions.{joined, seen_alike, expression_is, term_is, factor_is, primary_is}
use Rattle.sq_run.proofs.Texts.SpelledConditions.{list_is, boolean_primary_is, boolean_factor_is, boolean_term_is, condition_is, selection_is, query_specification_is}
use Rattle.sq_run.proofs.Texts.SpellingMet.{spelling_met}

module _ (own : Name) (r : Reading) (m : Reads own r) where
  -- ---- query expressions

  union_read : UnionTerm → Bool × Query Named
  union_read u = (u.all, r.query_term u.term)

  abbrev TermIs : QueryTerm → Type 0
  TermIs t = r.query_term t ≡ query_term_of own t

  abbrev QueryIs : SpelledQuery → Type 0
  QueryIs q = r.query_expression q ≡ query_of own q

  abbrev UnionIs : UnionTerm → Type 0
  UnionIs u = union_read u ≡ union_term_of own u

  -- each part with a proof beside it
  abbrev T : Type 0
  T = (t : QueryTerm) × TermIs t

  abbrev Q : Type 0
  Q = (q : SpelledQuery) × QueryIs q

  abbrev U : Type 0
  U = (u : UnionTerm) × UnionIs u

  term_step : (y : QueryTerm-F T Q U) → TermIs (roll-QueryTerm (map-QueryTerm T Q U QueryTerm SpelledQuery UnionTerm (λ e. e.0) (λ e. e.0) (λ e. e.0) y))
  term_step (layer.Specification q) = subst TermIs (sym (query_term.rolls-Specification q)) (m.queries.alone q ∙ ap specification (query_specification_is own r m q) ∙ sym (query_term_of-Specification own q))
  term_step (layer.Bracketed q) = subst TermIs (sym (query_term.rolls-Bracketed q.0)) (m.queries.brackets q.0 ∙ q.1 ∙ sym (query_term_of-Bracketed own q.0))

  last_united : (t : QueryTerm) (before : List UnionTerm) (last : UnionTerm) → r.query_expression (union_of t (before ++ last ∷ [])) ≡ union (union_read last).0 (r.query_expression (union_of t before)) (union_read last).1
  unfolding union_read
  last_united t before last = m.queries.last_query_term t before last.all last.term

  query_step : (y : Query-F T Q U) → QueryIs (roll-Query (map-Query T Q U QueryTerm SpelledQuery UnionTerm (λ e. e.0) (λ e. e.0) (λ e. e.0) y))
  query_step y =
      joined (λ rest. r.query_expression (union_of y.first.0 rest)) (λ left u. union u.0 left u.1) union_read (last_united y.first.0) (map (λ e. e.0) y.rest)
      ∙ (λ i. fold (λ left u. union u.0 left u.1) ((m.queries.one_query_term y.first.0 ∙ y.first.1) i) (seen_alike union_read (union_term_of own) y.rest i))
      ∙ sym (query_of-roll own y.first.0 (map (λ e. e.0) y.rest))

  union_step : (y : UnionTerm-F T Q U) → UnionIs (roll-UnionTerm (map-UnionTerm T Q U QueryTerm SpelledQuery UnionTerm (λ e. e.0) (λ e. e.0) (λ e. e.0) y))
  unfolding union_read
  union_step y = ap (λ t. (y.all, t)) y.term.1 ∙ sym (union_term_of-out own (record { all = y.all; term = y.term.0 }))

  query_expression_is : (q : SpelledQuery) → QueryIs q
  query_expression_is q = ind-Query TermIs QueryIs UnionIs
      (λ x y is. subst (λ z. TermIs (roll-QueryTerm z)) is (term_step y))
      (λ x y is. subst (λ z. QueryIs (roll-Query z)) is (query_step y))
      (λ x y is. subst (λ z. UnionIs (roll-UnionTerm z)) is (union_step y))
      q

  query_term_is : (t : QueryTerm) → TermIs t
  query_term_is t = sym (m.queries.one_query_term t) ∙ query_expression_is (union_of t []) ∙ query_of-roll own t []

  -- ---- all of it

  spelling_only : r ≡ reading_of own
  spelling_only = λ i. record {
    expression = λ e. expression_is r m.expressions e i;
    term = λ t. term_is r m.expressions t i;
    factor = λ f. factor_is r m.expressions f i;
    primary = λ p. primary_is r m.expressions p i;
    condition = λ c. condition_is own r m c i;
    boolean_term = λ t. boolean_term_is own r m t i;
    boolean_factor = λ f. boolean_factor_is own r m f i;
    boolean_primary = λ b. boolean_primary_is own r m b i;
    select_list = λ l. list_is own r m l i;
    selection = λ q l t. selection_is own r m q l t i;
    query_specification = λ s. query_specification_is own r m s i;
    query_expression = λ q. query_expression_is q i;
    query_term = λ t. query_term_is t i;
  }

pub spelled_is_spelling : SpelledIsSpelling
spelled_is_spelling = record { meets = spelling_met; only = spelling_only }
