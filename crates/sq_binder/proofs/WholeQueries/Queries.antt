-- Query expressions of one term, or with a further one, and the terms that are joined one after the other.
use Rattle.std.proofs.Common.{◌≡◌, ℕ, ◌+◌, ◌<◌, ◌≤◌, Bool, List, [], ◌∷◌, ◌++◌, length, drop, map, get_or, take, take_all, None, refl, sym, ap, subst, ◌∙◌}
use Rattle.std.proofs.lemmas.List.{map-append, take-append-drop, take_more}
use Rattle.std.proofs.lemmas.List.Sums.{fold-append}
use Rattle.std.specs.List.{AllByRecursion}
use Rattle.std.specs.Prelude.{fold}
use Rattle.sq_lex.specs.declared.name.Name.{Name}
use Rattle.sq_tree.specs.declared.query.Query.{Query as SpelledQuery, out-Query, roll-out-Query}
use Rattle.sq_tree.specs.declared.query.UnionTerm.{UnionTerm}
use Rattle.sq_meaning.proofs.AnswerLaws.{all_appended}
use Rattle.sq_meaning.proofs.SpelledLevels.{query_of-roll, union_term_of-out}
use Rattle.sq_meaning.specs.Spelled.{Named, query_of, query_term_of, union_term_of}
use Rattle.sq_meaning.specs.Syntax.{Query, union}
use Rattle.sq_meaning.specs.WellFormedStatement.{only_specification}
use Rattle.sq_bound.specs.declared.condition.BoundSpecification.{BoundSpecification, out-BoundSpecification}
use Rattle.sq_bound.specs.declared.condition.ResultColumn.{ResultColumn}
use Rattle.sq_bound.specs.declared.query.BoundQuery.{BoundQuery, BoundQuery-F, out-BoundQuery, out-roll-BoundQuery, roll-BoundQuery}
use Rattle.sq_bound.specs.declared.query.BoundUnion.{BoundUnion}
use Rattle.sq_bound.specs.declared.query.BoundTerm.{BoundTerm}
use Rattle.sq_bound.specs.declared.query.BoundTerm.TheVariants as bound
use Rattle.sq_binding.proofs.Standing.SeenLevels.{columns_seen}
use Rattle.sq_binding.specs.Found.{Counts, ◌>>=◌, after, pure, then_joined}
use Rattle.sq_binding.specs.QueryExpression.{NumberedQuery, columns_of_query, common_columns, query_bound}
use Rattle.sq_binding.specs.Seen.{column_of}
use Rattle.sq_binding.specs.Select.{Surroundings}
use Rattle.sq_binder.specs.Binds.{Stops}
use Rattle.sq_binder.specs.declared.stop.Stop.{Stop}
use Rattle.sq_binder.proofs.OneByOne.Steps.{stops_as, stops_here}
use Rattle.sq_binding.specs.SeenQuery.{HaveTheirColumns, TermHasColumns, UnionHasColumns, query_seen, term_seen, union_seen}
use Rattle.sq_binding.proofs.Standing.SeenQueries.{query_itself, query_made, query_parts, query_seen-out, term_seen-Bracketed, term_seen-Specification, union_made, union_seen-out}

-- ---- queries of a term, and of a further one

module _ (first : BoundTerm) (rest : List BoundUnion) (columns : List ResultColumn) where
  abbrev made : BoundQuery
  made = roll-BoundQuery (record { first = first; rest = rest; columns = columns })

  pub made_seen : query_seen made ≡ fold (λ left u. union_seen u left) (term_seen first) rest
  made_seen = query_seen-out made ∙ ap (λ o. fold (λ left u. union_seen u left) (term_seen o.first) o.rest) (out-roll-BoundQuery (record { first = first; rest = rest; columns = columns }))

  pub made_columns : (out-BoundQuery made).columns ≡ columns
  made_columns = ap (λ o. o.columns) (out-roll-BoundQuery (record { first = first; rest = rest; columns = columns }))

  pub made_has : TermHasColumns first → AllByRecursion UnionHasColumns rest → map column_of columns ≡ columns_of_query (query_seen made) → HaveTheirColumns made
  made_has term unions are =
      let o = out-roll-BoundQuery (record { first = first; rest = rest; columns = columns }) in
      query_made made (subst (λ (q : BoundQuery-F BoundTerm BoundQuery BoundUnion). TermHasColumns q.first) (sym o) term)
      (subst (λ (q : BoundQuery-F BoundTerm BoundQuery BoundUnion). AllByRecursion UnionHasColumns q.rest) (sym o) unions) (ap (map column_of) made_columns ∙ are)

-- one term
pub alone_seen : (first : BoundTerm) (rest : List BoundUnion) (columns : List ResultColumn) → rest ≡ [] → query_seen (roll-BoundQuery (record { first = first; rest = rest; columns = columns })) ≡ term_seen first
alone_seen first rest columns none = made_seen first rest columns ∙ ap (fold (λ left u. union_seen u left) (term_seen first)) none

pub further_seen : (q : BoundQuery) (u : BoundUnion) (rest : List BoundUnion) (columns : List ResultColumn) → rest ≡ (out-BoundQuery q).rest ++ u ∷ []
    → query_seen (roll-BoundQuery (record { first = (out-BoundQuery q).first; rest = rest; columns = columns })) ≡ NumberedQuery.joined u.all (query_seen q) (term_seen u.term) (map column_of u.columns)
further_seen q u rest columns is =
    let step = λ (left : NumberedQuery) (u : BoundUnion). union_seen u left in
    made_seen (out-BoundQuery q).first rest columns ∙ ap (fold step (term_seen (out-BoundQuery q).first)) is
    ∙ fold-append step (term_seen (out-BoundQuery q).first) (out-BoundQuery q).rest (u ∷ [])
    ∙ ap (union_seen u) (sym (query_seen-out q)) ∙ union_seen-out u (query_seen q)

-- the further terms of a query, and one more
pub further_have : (q : BoundQuery) (u : BoundUnion) (rest : List BoundUnion) → HaveTheirColumns q → TermHasColumns u.term → rest ≡ (out-BoundQuery q).rest ++ u ∷ [] → AllByRecursion UnionHasColumns rest
further_have q u rest has term is =
    subst (AllByRecursion UnionHasColumns) (sym is) (all_appended UnionHasColumns (out-BoundQuery q).rest (u ∷ []) (query_parts q has).1 (union_made u term, tt))

-- ---- columns

pub specification_columns : (s : BoundSpecification) → map column_of (out-BoundSpecification s).columns ≡ columns_of_query (term_seen (bound.Specification s))
specification_columns s = sym (columns_seen s) ∙ ap columns_of_query (sym (term_seen-Specification s))

pub bracketed_columns : (q : BoundQuery) → HaveTheirColumns q → map column_of (out-BoundQuery q).columns ≡ columns_of_query (term_seen (bound.Bracketed q))
bracketed_columns q has = query_itself q has ∙ ap columns_of_query (sym (term_seen-Bracketed q))

-- ---- terms one after the other

abbrev joins : Query Named → Bool × Query Named → Query Named
joins left u = union u.0 left u.1

-- the first term and some of those behind it
pub so_far : Name → SpelledQuery → List UnionTerm → Query Named
so_far own q rest = fold joins (query_term_of own (out-Query q).first) (map (union_term_of own) rest)

pub query_begun : (own : Name) (q : SpelledQuery) (rest : List UnionTerm) → so_far own q (take 0 rest) ≡ query_term_of own (out-Query q).first
unfolding so_far
query_begun own q rest = refl

pub query_next : (own : Name) (q : SpelledQuery) (rest : List UnionTerm) (i : ℕ) (u : UnionTerm) → i < length rest → u ≡ get_or rest i u
    → so_far own q (take (i + 1) rest) ≡ union u.all (so_far own q (take i rest)) (query_term_of own u.term)
unfolding so_far
query_next own q rest i u within at =
    let first = query_term_of own (out-Query q).first in
    ap (λ l. fold joins first (map (union_term_of own) l)) (take_more rest i u within ∙ ap (λ x. take i rest ++ x ∷ []) (sym at))
    ∙ ap (fold joins first) (map-append (union_term_of own) (take i rest) (u ∷ []))
    ∙ fold-append joins first (map (union_term_of own) (take i rest)) (union_term_of own u ∷ [])
    ∙ ap (joins (fold joins first (map (union_term_of own) (take i rest)))) (union_term_of-out own u)

whole_is : (own : Name) (q : SpelledQuery) → query_of own q ≡ so_far own q (out-Query q).rest
unfolding so_far
whole_is own q = ap (query_of own) (sym (roll-out-Query q)) ∙ query_of-roll own (out-Query q).first (out-Query q).rest

pub query_whole : (own : Name) (q : SpelledQuery) (rest : List UnionTerm) (i : ℕ) → rest ≡ (out-Query q).rest → length rest ≤ i → so_far own q (take i rest) ≡ query_of own q
query_whole own q rest i is past = ap (so_far own q) (take_all i rest past ∙ is) ∙ sym (whole_is own q)

-- the terms that are left
left_over : (own : Name) (q : SpelledQuery) (rest : List UnionTerm) (i : ℕ) → rest ≡ (out-Query q).rest → query_of own q ≡ fold joins (so_far own q (take i rest)) (map (union_term_of own) (drop i rest))
unfolding so_far
left_over own q rest i is =
    let first = query_term_of own (out-Query q).first in
    whole_is own q ∙ ap (so_far own q) (sym is ∙ sym (take-append-drop i rest)) ∙ ap (fold joins first) (map-append (union_term_of own) (take i rest) (drop i rest))
    ∙ fold-append joins first (map (union_term_of own) (take i rest)) (map (union_term_of own) (drop i rest))

-- binding stops at a left side, and so at the whole
stops_left : (a : Surroundings) (counts : Counts) (stop : Stop) (us : List (Bool × Query Named)) (q : Query Named) → Stops (query_bound a q counts) stop → Stops (query_bound a (fold joins q us) counts) stop
stops_left a counts stop [] q s = s
stops_left a counts stop (u ∷ us) q s =
    stops_left a counts stop us (union u.0 q u.1)
    (stops_here (query_bound a q counts)
    (λ x. then_joined x ((query_bound a u.1 >>= λ y. common_columns (columns_of_query x.part) (columns_of_query y) >>= λ columns. pure (NumberedQuery.joined u.0 x.part y columns)) (after counts x))) stop s)

pub stops_later : (a : Surroundings) (counts : Counts) (stop : Stop) (own : Name) (q : SpelledQuery) (rest : List UnionTerm) (i : ℕ) → rest ≡ (out-Query q).rest → Stops (query_bound a (so_far own q (take i rest)) counts) stop
    → Stops (query_bound a (query_of own q) counts) stop
stops_later a counts stop own q rest i is s =
    stops_as (query_bound a (query_of own q) counts) (query_bound a (fold joins (so_far own q (take i rest)) (map (union_term_of own) (drop i rest))) counts) stop
    (ap (λ q. query_bound a q counts) (left_over own q rest i is))
    (stops_left a counts stop (map (union_term_of own) (drop i rest)) (so_far own q (take i rest)) s)

-- ---- query specifications alone

pub query_alone : (own : Name) (q : SpelledQuery) → (out-Query q).rest ≡ [] → query_of own q ≡ query_term_of own (out-Query q).first
unfolding so_far
query_alone own q none = whole_is own q ∙ ap (so_far own q) none

joined_none : (us : List (Bool × Query Named)) (q : Query Named) → only_specification q ≡ None → only_specification (fold joins q us) ≡ None
joined_none [] q none = none
joined_none (u ∷ us) q none = joined_none us (union u.0 q u.1) refl

several_at : (own : Name) (q : SpelledQuery) (rest : List UnionTerm) → (rest ≡ [] → ⊥) → only_specification (so_far own q rest) ≡ None
unfolding so_far
several_at own q [] some = absurd (some refl)
several_at own q (u ∷ us) some = joined_none (map (union_term_of own) us) (joins (query_term_of own (out-Query q).first) (union_term_of own u)) refl

pub several_none : (own : Name) (q : SpelledQuery) → ((out-Query q).rest ≡ [] → ⊥) → only_specification (query_of own q) ≡ None
several_none own q some = ap only_specification (whole_is own q) ∙ several_at own q (out-Query q).rest some
