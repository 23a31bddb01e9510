-- What is well formed where some parameters are declared is so where more are (ISO/IEC 9075:1992, 6.2), and
-- the query of a view, which has none, where none is.
use Rattle.std.specs.Prelude.{List, [], ◌∷◌, Option, Some, None}
use Rattle.sq_meaning.specs.Database.{IsDeclaredIn}
use Rattle.sq_meaning.specs.Expression.{Reading}
use Rattle.sq_meaning.specs.Kind.{Kinds}
use Rattle.sq_meaning.specs.Query.{is_grouped}
use Rattle.sq_meaning.specs.Spelled.{Named}
use Rattle.sq_meaning.specs.Syntax.{Naming, Expr, literal, parameter, user, column, count_rows, set_function, signed, added, scaled, bracketed, SelectList, all_columns, expressions, Cond, Conds, Clause, Select, compare, compare_subquery, compare_quantified, between, in_subquery, in_list, like, is_null, exists, negated, conjunction, disjunction, no_cond, a_cond, absent, present, select}
use Rattle.sq_meaning.specs.WellFormed.{Level, MayStand, WellFormedClause, WellFormedColumn, WellFormedCond, WellFormedConds, WellFormedEscape, WellFormedExpr, WellFormedList, WellFormedPair, WellFormedSelect, WellFormedText, inside_function, of_lines, shown_level}
use Rattle.sq_meaning.proofs.AnswerLaws.{all_weaker}

module _ {N : Naming} (m : Reading N) (k : Kinds N) (P Q : N.Parameter → Type 0) (more : (p : N.Parameter) → P p → Q p) where
  stands : (levels : List (Level N)) (e : Expr N) → MayStand m k P levels e → MayStand m k Q levels e
  stands levels (literal v) h = tt
  stands levels (parameter p) h = more p h
  stands levels user h = tt
  stands levels (column c) h = h
  stands levels count_rows h = h
  stands levels (set_function f distinct e) h = (h.0, stands (inside_function levels) e h.1)
  stands levels (signed sign e) h = stands levels e h
  stands levels (added sign a b) h = (stands levels a h.0, stands levels b h.1)
  stands levels (scaled sign a b) h = (stands levels a h.0, stands levels b h.1)
  stands levels (bracketed e) h = stands levels e h

  expr_well : (levels : List (Level N)) (e : Expr N) → WellFormedExpr m k P levels e → WellFormedExpr m k Q levels e
  expr_well levels e h = (h.0, stands levels e h.1)

  pair_well : (levels : List (Level N)) (a b : Expr N) → WellFormedPair m k P levels a b → WellFormedPair m k Q levels a b
  pair_well levels a b h = (expr_well levels a h.0, expr_well levels b h.1, h.2)

  text_well : (levels : List (Level N)) (e : Expr N) → WellFormedText m k P levels e → WellFormedText m k Q levels e
  text_well levels e h = (expr_well levels e h.0, h.1)

  escape_well : (levels : List (Level N)) (e : Option (Expr N)) → WellFormedEscape m k P levels e → WellFormedEscape m k Q levels e
  escape_well levels None h = tt
  escape_well levels (Some e) h = text_well levels e h

  list_well : (levels : List (Level N)) (list : SelectList N) (by : List N.Column) (having : Clause N)
      → WellFormedList m k P levels (is_grouped list by having) list → WellFormedList m k Q levels (is_grouped list by having) list
  list_well levels all_columns by having h = h
  list_well levels (expressions es) by having h =
      all_weaker (WellFormedExpr m k P levels) (WellFormedExpr m k Q levels) (expr_well levels) es h

  mutual
    cond_well : (levels : List (Level N)) (c : Cond N) → WellFormedCond m k P levels c → WellFormedCond m k Q levels c
    cond_well levels (compare op a b) h = pair_well levels a b h
    cond_well levels (compare_subquery op a q) h = (expr_well levels a h.0, h.1, select_well levels q h.2)
    cond_well levels (compare_quantified op quantifier a q) h = (expr_well levels a h.0, h.1, select_well levels q h.2)
    cond_well levels (between a low high) h = (pair_well levels a low h.0, pair_well levels a high h.1)
    cond_well levels (in_subquery a q) h = (expr_well levels a h.0, h.1, select_well levels q h.2)
    cond_well levels (in_list a es) h =
        (expr_well levels a h.0, all_weaker (WellFormedPair m k P levels a) (WellFormedPair m k Q levels a) (pair_well levels a) es h.1)
    cond_well levels (like text pattern escape) h = (text_well levels text h.0, text_well levels pattern h.1, escape_well levels escape h.2)
    cond_well levels (is_null a) h = expr_well levels a h
    cond_well levels (exists q) h = select_well levels q h
    cond_well levels (negated c) h = cond_well levels c h
    cond_well levels (conjunction cs) h = conds_well levels cs h
    cond_well levels (disjunction cs) h = conds_well levels cs h

    conds_well : (levels : List (Level N)) (cs : Conds N) → WellFormedConds m k P levels cs → WellFormedConds m k Q levels cs
    conds_well levels no_cond h = tt
    conds_well levels (a_cond c cs) h = (cond_well levels c h.0, conds_well levels cs h.1)

    clause_well : (levels : List (Level N)) (c : Clause N) → WellFormedClause m k P levels c → WellFormedClause m k Q levels c
    clause_well levels absent h = tt
    clause_well levels (present c) h = cond_well levels c h

    pub select_well : (levels : List (Level N)) (q : Select N) → WellFormedSelect m k P levels q → WellFormedSelect m k Q levels q
    select_well levels (select distinct list from filter by having) h = (
      h.0,
      list_well (shown_level list from by having ∷ levels) list by having h.1,
      clause_well (of_lines from ∷ levels) filter h.2,
      all_weaker (WellFormedColumn m k P (of_lines from ∷ levels)) (WellFormedColumn m k Q (of_lines from ∷ levels)) (λ c w. w) by h.3,
      clause_well (shown_level list from by having ∷ levels) having h.4,
    )

pub without_parameters : (m : Reading Named) (k : Kinds Named) (q : Select Named) → WellFormedSelect m k (IsDeclaredIn []) [] q
    → WellFormedSelect m k (λ p. ⊥) [] q
without_parameters m k q h = select_well m k (IsDeclaredIn []) (λ p. ⊥) (λ p d. absurd d.0) [] q h
