-- Where `*` stands: in no query specification that is grouped (ISO/IEC 9075:1992, 7.9), at any depth.
use Rattle.std.specs.Prelude.{◌≡◌, ⊤, false, List}
use Rattle.sq_meaning.specs.Syntax.{Naming, SelectList, all_columns, expressions, Cond, Conds, Clause, Select, compare, compare_subquery, compare_quantified, between, in_subquery, in_list, like, is_null, exists, negated, conjunction, disjunction, no_cond, a_cond, absent, present, select, Query, specification, union}
use Rattle.sq_meaning.specs.Query.{is_grouped}

abbrev pub ListStars : {N : Naming} → SelectList N → List N.Column → Clause N → Type 0
ListStars all_columns by having = is_grouped all_columns by having ≡ false
ListStars (expressions es) by having = ⊤

abbrev mutual
  pub CondStars : {N : Naming} → Cond N → Type 0
  CondStars (compare op a b) = ⊤
  CondStars (compare_subquery op a q) = SelectStars q
  CondStars (compare_quantified op k a q) = SelectStars q
  CondStars (between a low high) = ⊤
  CondStars (in_subquery a q) = SelectStars q
  CondStars (in_list a es) = ⊤
  CondStars (like text pattern escape) = ⊤
  CondStars (is_null a) = ⊤
  CondStars (exists q) = SelectStars q
  CondStars (negated c) = CondStars c
  CondStars (conjunction cs) = CondsStars cs
  CondStars (disjunction cs) = CondsStars cs

  pub CondsStars : {N : Naming} → Conds N → Type 0
  CondsStars no_cond = ⊤
  CondsStars (a_cond c cs) = CondStars c × CondsStars cs

  pub ClauseStars : {N : Naming} → Clause N → Type 0
  ClauseStars absent = ⊤
  ClauseStars (present c) = CondStars c

  pub SelectStars : {N : Naming} → Select N → Type 0
  SelectStars (select distinct list from filter by having) = ListStars list by having × ClauseStars filter × ClauseStars having

abbrev pub QueryStars : {N : Naming} → Query N → Type 0
QueryStars (specification q) = SelectStars q
QueryStars (union all left right) = QueryStars left × QueryStars right
