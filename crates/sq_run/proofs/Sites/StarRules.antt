-- What is well formed has `*` in no query specification that is grouped (ISO/IEC 9075:1992, 7.9).
use Rattle.std.specs.Prelude.{List, [], ◌∷◌}
use Rattle.sq_meaning.specs.Expression.{Reading}
use Rattle.sq_meaning.specs.Kind.{Kinds}
use Rattle.sq_meaning.specs.Query.{is_grouped}
use Rattle.sq_meaning.specs.Syntax.{Naming, SelectList, all_columns, expressions, Cond, Conds, Clause, Select, compare, compare_subquery, compare_quantified, between, in_subquery, in_list, like, is_null, exists, negated, conjunction, disjunction, no_cond, a_cond, absent, present, select, Query, specification, union}
use Rattle.sq_meaning.specs.WellFormed.{Level, WellFormedClause, WellFormedCond, WellFormedConds, WellFormedList, WellFormedQuery, WellFormedSelect, of_lines, shown_level}
use Rattle.sq_run.proofs.Sites.Stars.{ClauseStars, CondStars, CondsStars, ListStars, QueryStars, SelectStars}

module _ {N : Naming} (m : Reading N) (k : Kinds N) (IsDeclared : N.Parameter → Type 0) where
  list_stars : (levels : List (Level N)) (list : SelectList N) (by : List N.Column) (having : Clause N)
      → WellFormedList m k IsDeclared levels (is_grouped list by having) list → ListStars list by having
  list_stars levels all_columns by having h = h
  list_stars levels (expressions es) by having h = tt

  mutual
    pub cond_stars : (levels : List (Level N)) (c : Cond N) → WellFormedCond m k IsDeclared levels c → CondStars c
    cond_stars levels (compare op a b) h = tt
    cond_stars levels (compare_subquery op a q) h = select_stars levels q h.2
    cond_stars levels (compare_quantified op quantifier a q) h = select_stars levels q h.2
    cond_stars levels (between a low high) h = tt
    cond_stars levels (in_subquery a q) h = select_stars levels q h.2
    cond_stars levels (in_list a es) h = tt
    cond_stars levels (like text pattern escape) h = tt
    cond_stars levels (is_null a) h = tt
    cond_stars levels (exists q) h = select_stars levels q h
    cond_stars levels (negated c) h = cond_stars levels c h
    cond_stars levels (conjunction cs) h = conds_stars levels cs h
    cond_stars levels (disjunction cs) h = conds_stars levels cs h

    conds_stars : (levels : List (Level N)) (cs : Conds N) → WellFormedConds m k IsDeclared levels cs → CondsStars cs
    conds_stars levels no_cond h = tt
    conds_stars levels (a_cond c cs) h = (cond_stars levels c h.0, conds_stars levels cs h.1)

    pub clause_stars : (levels : List (Level N)) (c : Clause N) → WellFormedClause m k IsDeclared levels c → ClauseStars c
    clause_stars levels absent h = tt
    clause_stars levels (present c) h = cond_stars levels c h

    pub select_stars : (levels : List (Level N)) (q : Select N) → WellFormedSelect m k IsDeclared levels q → SelectStars q
    select_stars levels (select distinct list from filter by having) h =
        (list_stars (shown_level list from by having ∷ levels) list by having h.1, clause_stars (of_lines from ∷ levels) filter h.2, clause_stars (shown_level list from by having ∷ levels) having h.4)

  pub query_stars : (q : Query N) → WellFormedQuery m k IsDeclared q → QueryStars q
  query_stars (specification q) h = select_stars [] q h
  query_stars (union all left right) h = (query_stars left h.0, query_stars right h.1)
