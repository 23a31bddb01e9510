-- Whether a condition on a row of a base table reads a column that an UPDATE assigns to (ISO/IEC 9075:1992, 8.12 and 13.10).
use Rattle.std.specs.Prelude.{◌≡◌, ◌||◌, ℕ, nat_eq, slice_get, Bool, true, false, List, [], Option, None, Some}
use Rattle.std.specs.List.{list_any}
use Rattle.sq_lex.specs.declared.name.Name.{Name}
use Rattle.sq_value.specs.declared.value.Value.{Value}
use Rattle.sq_store.specs.declared.table.Numbered.{Numbered}
use Rattle.sq_meaning.specs.Environment.{Row}
use Rattle.sq_meaning.specs.Placed.{Placed}
use Rattle.sq_meaning.specs.Syntax.{Expr, literal, parameter, user, column, count_rows, set_function, signed, added, scaled, bracketed, Cond, Conds, compare, compare_subquery, compare_quantified, between, in_subquery, in_list, like, is_null, exists, negated, conjunction, disjunction, no_cond, a_cond}
use Rattle.sq_bound.specs.Condition.{cond_of}
use Rattle.sq_bound.specs.declared.condition.BoundCond.{BoundCond}
use Rattle.sq_bound.specs.declared.statement.BoundAssignment.{BoundAssignment}
use Rattle.sq_session.specs.Walk.{is_meant}

abbrev pub is_assigned : List BoundAssignment → ℕ → Bool
is_assigned assignments position = list_any (λ a. nat_eq a.column.position position) assignments

-- Two rows differ only in columns that are assigned to.
abbrev pub AreAlike : List BoundAssignment → Row → Row → Type 0
AreAlike assignments row other =
    (position : ℕ) → is_assigned assignments position ≡ false
    → slice_get row position ≡ slice_get other position

-- Whether bound expressions and conditions on one row of the base table read a column that is assigned to.
module _ {T : Type 0} (assignments : List BoundAssignment) where
  abbrev pub expr_reads : Expr (Placed T) → Bool
  expr_reads (literal v) = false
  expr_reads (parameter p) = false
  expr_reads user = false
  expr_reads (column p) = is_assigned assignments p.column
  expr_reads count_rows = false
  expr_reads (set_function function distinct e) = expr_reads e
  expr_reads (signed sign e) = expr_reads e
  expr_reads (added sign a b) = expr_reads a || expr_reads b
  expr_reads (scaled sign a b) = expr_reads a || expr_reads b
  expr_reads (bracketed e) = expr_reads e

  abbrev pub escape_reads : Option (Expr (Placed T)) → Bool
  escape_reads None = false
  escape_reads (Some e) = expr_reads e

  -- A predicate with a subquery is taken to read every column.
  abbrev mutual
    pub cond_reads : Cond (Placed T) → Bool
    cond_reads (compare op a b) = expr_reads a || expr_reads b
    cond_reads (compare_subquery op a q) = true
    cond_reads (compare_quantified op k a q) = true
    cond_reads (between a low high) = expr_reads a || expr_reads low || expr_reads high
    cond_reads (in_subquery a q) = true
    cond_reads (in_list a es) = expr_reads a || list_any expr_reads es
    cond_reads (like text pattern escape) = expr_reads text || expr_reads pattern || escape_reads escape
    cond_reads (is_null a) = expr_reads a
    cond_reads (exists q) = true
    cond_reads (negated c) = cond_reads c
    cond_reads (conjunction cs) = conds_read cs
    cond_reads (disjunction cs) = conds_read cs

    pub conds_read : Conds (Placed T) → Bool
    conds_read no_cond = false
    conds_read (a_cond c cs) = cond_reads c || conds_read cs

-- Whether one of these conditions reads a column that is assigned to.
abbrev pub one_reads : List BoundAssignment → List BoundCond → Bool
one_reads assignments conditions = list_any (λ c. cond_reads assignments (cond_of [] c)) conditions

-- ---- what follows for the rows that conditions mean

-- Of two rows that differ only in columns that are assigned to, the conditions mean both or neither.
abbrev pub AreUnread : List BoundAssignment → List BoundCond → Type 0
AreUnread assignments conditions =
    (values : List Value) (name : Name) (r other : Numbered) → AreAlike assignments r.row other.row
    → is_meant conditions values name r ≡ is_meant conditions values name other
