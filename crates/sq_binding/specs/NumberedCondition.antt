-- Search conditions and query specifications by place, with notes (ISO/IEC 9075:1992, 7.3 to 7.9, 7.11 and 8.12). The notes
-- on each test in a boolean term say how many items of FROM, from the left, hold the columns that it reads. They also say
-- whether it may answer a status. The notes on a query specification say its grouping, its columns, and whether it may
-- answer a status. They also say the number of a subquery that is evaluated once at most. Set functions of the query are
-- numbers, as in value expressions.
use Rattle.std.specs.Prelude.{ℕ, Bool, List, [], map, Option}
use Rattle.std.specs.Option.{option_map}
use Rattle.sq_lex.specs.declared.name.Name.{Name}
use Rattle.sq_value.specs.declared.domain.Kind.{Kind}
use Rattle.sq_tree.specs.declared.cond.Comparison.{Comparison}
use Rattle.sq_meaning.specs.Environment.{Place}
use Rattle.sq_meaning.specs.Placed.{Placed}
use Rattle.sq_meaning.specs.Syntax as tree
use Rattle.sq_bound.specs.Condition.{PlacedClause, PlacedCond, PlacedSelect, compared_with}
use Rattle.sq_bound.specs.Expression.{PlacedExpr}
use Rattle.sq_bound.specs.declared.condition.Compared.{Compared}
use Rattle.sq_bound.specs.declared.condition.TablePlace.{TablePlace}
use Rattle.sq_binding.specs.Numbered.{Numbered, tree_of}

-- a result column: its name, if it has one, and the kind of its values
pub record ResultColumn : Type 0 where
  pub name : Option Name
  pub kind : Kind

mutual
  pub data NumberedCond : Type 0 where
    compare : Comparison → Numbered → Numbered → NumberedCond
    compare_query : Compared → Comparison → Numbered → NumberedSelect → NumberedCond
    between : Numbered → Numbered → Numbered → NumberedCond
    in_query : Numbered → NumberedSelect → NumberedCond
    in_list : Numbered → List Numbered → NumberedCond
    like : Numbered → Numbered → Option Numbered → NumberedCond
    is_null : Numbered → NumberedCond
    exists : NumberedSelect → NumberedCond
    negated : NumberedCond → NumberedCond
    -- a test with its notes
    noted : (items : ℕ) → (can_fail : Bool) → NumberedCond → NumberedCond
    conjunction : NumberedConds → NumberedCond
    disjunction : NumberedConds → NumberedCond

  pub data NumberedConds : Type 0 where
    no_cond : NumberedConds
    a_cond : NumberedCond → NumberedConds → NumberedConds

  pub data NumberedClause : Type 0 where
    absent : NumberedClause
    present : NumberedCond → NumberedClause

  -- the grouping of a query specification: the columns of GROUP BY, the set functions in the order of the text, and HAVING
  pub data NumberedGroups : Type 0 where
    not_grouped : NumberedGroups
    grouped : (columns : List Place) → (functions : List PlacedExpr) → (having : NumberedClause)
        → NumberedGroups

  pub data NumberedSelect : Type 0 where
    select : (distinct : Bool) → (list : List Numbered) → (from : List TablePlace)
        → (where_clause : NumberedClause) → NumberedGroups
        → (columns : List ResultColumn) → (can_fail : Bool) → (number : Option ℕ) → NumberedSelect

-- ---- parts

abbrev pub columns_of : NumberedSelect → List ResultColumn
columns_of (select distinct list from filter groups columns can_fail number) = columns

abbrev pub with_number : Option ℕ → NumberedSelect → NumberedSelect
with_number number (select distinct list from filter groups columns can_fail unnumbered) =
    select distinct list from filter groups columns can_fail number

abbrev pub grouping_columns : NumberedGroups → List Place
grouping_columns not_grouped = []
grouping_columns (grouped columns functions having) = columns

abbrev pub set_functions : NumberedGroups → List PlacedExpr
set_functions not_grouped = []
set_functions (grouped columns functions having) = functions

abbrev pub trees_of : List PlacedExpr → List Numbered → List PlacedExpr
trees_of functions es = map (tree_of functions) es

-- ---- the trees without the notes, if these are the set functions of the query

abbrev mutual
  pub cond_of : List PlacedExpr → NumberedCond → PlacedCond
  cond_of functions (compare op a b) = tree.compare op (tree_of functions a) (tree_of functions b)
  cond_of functions (compare_query compared op a q) =
      compared_with compared op (tree_of functions a) (select_of q)
  cond_of functions (between a low high) =
      tree.between (tree_of functions a) (tree_of functions low) (tree_of functions high)
  cond_of functions (in_query a q) = tree.in_subquery (tree_of functions a) (select_of q)
  cond_of functions (in_list a es) = tree.in_list (tree_of functions a) (trees_of functions es)
  cond_of functions (like text pattern escape) =
      tree.like (tree_of functions text) (tree_of functions pattern) (option_map (tree_of functions) escape)
  cond_of functions (is_null a) = tree.is_null (tree_of functions a)
  cond_of functions (exists q) = tree.exists (select_of q)
  cond_of functions (negated c) = tree.negated (cond_of functions c)
  cond_of functions (noted items can_fail c) = cond_of functions c
  cond_of functions (conjunction cs) = tree.conjunction (conds_of functions cs)
  cond_of functions (disjunction cs) = tree.disjunction (conds_of functions cs)

  pub conds_of : List PlacedExpr → NumberedConds → tree.Conds (Placed TablePlace)
  conds_of functions no_cond = tree.no_cond
  conds_of functions (a_cond c cs) = tree.a_cond (cond_of functions c) (conds_of functions cs)

  pub clause_of : List PlacedExpr → NumberedClause → PlacedClause
  clause_of functions absent = tree.absent
  clause_of functions (present c) = tree.present (cond_of functions c)

  -- HAVING sees the set functions of its groups
  pub having_of : NumberedGroups → PlacedClause
  having_of not_grouped = tree.absent
  having_of (grouped columns functions having) = clause_of functions having

  -- WHERE has no set functions
  pub select_of : NumberedSelect → PlacedSelect
  select_of (select distinct list from filter groups columns can_fail number) =
      tree.select distinct (tree.expressions (trees_of (set_functions groups) list)) from
      (clause_of [] filter) (grouping_columns groups) (having_of groups)
