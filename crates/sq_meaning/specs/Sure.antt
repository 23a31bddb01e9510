-- Trees that never end with a status if they are well formed (ISO/IEC 9075:1992, 6.5, 6.12, 7.11 and 8.5). They hold no
-- arithmetic between two operands, no ESCAPE, no scalar subquery and no set function but MIN and MAX. They name no table
-- whose rows may be a status.
use Rattle.std.specs.Prelude.{◌≡◌, ◌⊎◌, Bool, true, false, not, ◌&&◌}
use Rattle.std.specs.List.{list_all}
use Rattle.sq_tree.specs.declared.expr.SetFunction.{SetFunction}
use Rattle.sq_tree.specs.declared.expr.SetFunction.TheVariants.{Count, Sum, Avg, Min, Max}
use Rattle.sq_meaning.specs.Status.{Outcome, not_well_formed}
use Rattle.sq_meaning.specs.Syntax.{Naming, Expr, literal, parameter, user, column, count_rows, set_function, signed, added, scaled, bracketed, SelectList, all_columns, expressions, Cond, Conds, Clause, Select, compare, compare_subquery, compare_quantified, between, in_subquery, in_list, like, is_null, exists, negated, conjunction, disjunction, no_cond, a_cond, absent, present, select}
use Rattle.sq_meaning.specs.Quiet.{has_no_escape}
use Rattle.sq_meaning.specs.WellFormed.{HasValue}

-- a value, or 42000, which a well-formed tree never gives
abbrev pub IsSureOutcome : {A : Type 0} → Outcome A → Type 0
IsSureOutcome outcome = HasValue outcome ⊎ (outcome ≡ not_well_formed)

-- a sum or an average may be out of range, and so may a count of more than 10^18 rows
abbrev pub is_extreme : SetFunction → Bool
is_extreme Min = true
is_extreme Max = true
is_extreme Count = false
is_extreme Sum = false
is_extreme Avg = false

abbrev pub is_sure_expr : {N : Naming} → Expr N → Bool
is_sure_expr (literal v) = true
is_sure_expr (parameter p) = true
is_sure_expr user = true
is_sure_expr (column c) = true
is_sure_expr count_rows = false
is_sure_expr (set_function function distinct operand) = is_extreme function && is_sure_expr operand
is_sure_expr (signed sign e) = is_sure_expr e
is_sure_expr (added sign a b) = false
is_sure_expr (scaled sign a b) = false
is_sure_expr (bracketed e) = is_sure_expr e

abbrev pub is_sure_list : {N : Naming} → SelectList N → Bool
is_sure_list all_columns = true
is_sure_list (expressions es) = list_all is_sure_expr es

-- `may_fail` says whether the rows of a table may be a status
module _ {N : Naming} (may_fail : N.Table → Bool) where
  abbrev mutual
    pub is_sure : Cond N → Bool
    is_sure (compare op a b) = is_sure_expr a && is_sure_expr b
    is_sure (compare_subquery op a q) = false
    is_sure (compare_quantified op k a q) = is_sure_expr a && is_sure_select q
    is_sure (between a low high) = is_sure_expr a && is_sure_expr low && is_sure_expr high
    is_sure (in_subquery a q) = is_sure_expr a && is_sure_select q
    is_sure (in_list a es) = is_sure_expr a && list_all is_sure_expr es
    is_sure (like text pattern escape) = is_sure_expr text && is_sure_expr pattern && has_no_escape escape
    is_sure (is_null a) = is_sure_expr a
    is_sure (exists q) = is_sure_select q
    is_sure (negated c) = is_sure c
    is_sure (conjunction cs) = are_sure cs
    is_sure (disjunction cs) = are_sure cs

    pub are_sure : Conds N → Bool
    are_sure no_cond = true
    are_sure (a_cond c cs) = is_sure c && are_sure cs

    pub is_sure_clause : Clause N → Bool
    is_sure_clause absent = true
    is_sure_clause (present c) = is_sure c

    pub is_sure_select : Select N → Bool
    is_sure_select (select distinct list from filter by having) =
        list_all (λ t. not (may_fail t)) from && is_sure_list list && is_sure_clause filter
        && is_sure_clause having
