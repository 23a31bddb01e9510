-- Conditions whose truth is never a fault: they hold no arithmetic between two operands, no ESCAPE and no subquery. A
-- cursor with such conditions alone can read its rows as late as it fetches them.
use Rattle.std.specs.Prelude.{Bool, true, false, ◌&&◌, Option, Some, None}
use Rattle.std.specs.List.{list_all}
use Rattle.sq_meaning.specs.Syntax.{Naming, Expr, literal, parameter, user, column, count_rows, set_function, signed, added, scaled, bracketed, Cond, Conds, Clause, compare, compare_subquery, compare_quantified, between, in_subquery, in_list, like, is_null, exists, negated, conjunction, disjunction, no_cond, a_cond, absent, present}
use Rattle.sq_meaning.specs.Target.{Target}

abbrev pub is_quiet_expr : {N : Naming} → Expr N → Bool
is_quiet_expr (literal v) = true
is_quiet_expr (parameter p) = true
is_quiet_expr user = true
is_quiet_expr (column c) = true
is_quiet_expr count_rows = false
is_quiet_expr (set_function function distinct operand) = false
is_quiet_expr (signed sign e) = is_quiet_expr e
is_quiet_expr (added sign a b) = false
is_quiet_expr (scaled sign a b) = false
is_quiet_expr (bracketed e) = is_quiet_expr e

abbrev pub has_no_escape : {A : Type 0} → Option A → Bool
has_no_escape None = true
has_no_escape (Some e) = false

abbrev mutual
  pub is_quiet : {N : Naming} → Cond N → Bool
  is_quiet (compare op a b) = is_quiet_expr a && is_quiet_expr b
  is_quiet (compare_subquery op a q) = false
  is_quiet (compare_quantified op k a q) = false
  is_quiet (between a low high) = is_quiet_expr a && is_quiet_expr low && is_quiet_expr high
  is_quiet (in_subquery a q) = false
  is_quiet (in_list a es) = is_quiet_expr a && list_all is_quiet_expr es
  is_quiet (like text pattern escape) = is_quiet_expr text && is_quiet_expr pattern && has_no_escape escape
  is_quiet (is_null a) = is_quiet_expr a
  is_quiet (exists q) = false
  is_quiet (negated c) = is_quiet c
  is_quiet (conjunction cs) = are_quiet cs
  is_quiet (disjunction cs) = are_quiet cs

  pub are_quiet : {N : Naming} → Conds N → Bool
  are_quiet no_cond = true
  are_quiet (a_cond c cs) = is_quiet c && are_quiet cs

abbrev pub is_quiet_clause : {N : Naming} → Clause N → Bool
is_quiet_clause absent = true
is_quiet_clause (present c) = is_quiet c

-- the conditions of the views, and the WHERE clause
abbrev pub is_quiet_target : Target → Bool
is_quiet_target t = list_all (λ level. is_quiet_clause level.condition) t.levels
