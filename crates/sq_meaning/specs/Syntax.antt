-- The trees that are evaluated: value expressions (ISO/IEC 9075:1992, 6.11), search conditions (8.12), query
-- specifications (7.9) and query expressions (7.10). A tree is the same whether it names columns, parameters and
-- tables as its text does, or places them.
use Rattle.std.specs.Prelude.{Bool, List, [], ◌∷◌, Option}
use Rattle.sq_value.specs.declared.value.Value.{Value}
use Rattle.sq_tree.specs.declared.expr.Sign.{Sign}
use Rattle.sq_tree.specs.declared.expr.TimesSign.{TimesSign}
use Rattle.sq_tree.specs.declared.expr.SetFunction.{SetFunction}
use Rattle.sq_tree.specs.declared.cond.Comparison.{Comparison}
use Rattle.sq_tree.specs.declared.cond.Quantifier.{Quantifier}

-- The ways in which a tree refers to a column, to a parameter with its indicator and to a table. And the head of
-- an item of FROM, known while its rows are read.
pub record Naming : Type 1 where
  pub Column : Type 0
  pub Parameter : Type 0
  pub Table : Type 0
  pub Item : Type 0

-- a value expression. A sign, and brackets, stay to be seen: `+A` and `(A)` are no column references
pub data Expr (N : Naming) : Type 0 where
  literal : Value → Expr N
  parameter : N.Parameter → Expr N
  user : Expr N
  column : N.Column → Expr N
  count_rows : Expr N
  set_function : SetFunction → (distinct : Bool) → Expr N → Expr N
  signed : Sign → Expr N → Expr N
  added : Sign → Expr N → Expr N → Expr N
  scaled : TimesSign → Expr N → Expr N → Expr N
  bracketed : Expr N → Expr N

-- a select list
pub data SelectList (N : Naming) : Type 0 where
  all_columns : SelectList N
  expressions : List (Expr N) → SelectList N

mutual
  -- a search condition. The NOT forms of predicates are negations
  pub data Cond (N : Naming) : Type 0 where
    compare : Comparison → Expr N → Expr N → Cond N
    compare_subquery : Comparison → Expr N → Select N → Cond N
    compare_quantified : Comparison → Quantifier → Expr N → Select N → Cond N
    between : Expr N → Expr N → Expr N → Cond N
    in_subquery : Expr N → Select N → Cond N
    in_list : Expr N → List (Expr N) → Cond N
    like : Expr N → Expr N → Option (Expr N) → Cond N
    is_null : Expr N → Cond N
    exists : Select N → Cond N
    negated : Cond N → Cond N
    conjunction : Conds N → Cond N
    disjunction : Conds N → Cond N

  pub data Conds (N : Naming) : Type 0 where
    no_cond : Conds N
    a_cond : Cond N → Conds N → Conds N

  -- a WHERE clause or a HAVING clause
  pub data Clause (N : Naming) : Type 0 where
    absent : Clause N
    present : Cond N → Clause N

  -- a query specification; without GROUP BY its grouping columns are none
  pub data Select (N : Naming) : Type 0 where
    select : (distinct : Bool) → SelectList N → (from : List N.Table) → (where_clause : Clause N)
        → (group_by : List N.Column) → (having : Clause N) → Select N

-- a query expression; UNION groups to the left
pub data Query (N : Naming) : Type 0 where
  specification : Select N → Query N
  union : (all : Bool) → Query N → Query N → Query N

-- the parts of a query specification
abbrev pub is_distinct : {N : Naming} → Select N → Bool
is_distinct (select d list from w by h) = d

abbrev pub select_list : {N : Naming} → Select N → SelectList N
select_list (select d list from w by h) = list

abbrev pub from_clause : {N : Naming} → Select N → List N.Table
from_clause (select d list from w by h) = from

abbrev pub where_clause : {N : Naming} → Select N → Clause N
where_clause (select d list from w by h) = w

abbrev pub grouping_columns : {N : Naming} → Select N → List N.Column
grouping_columns (select d list from w by h) = by

abbrev pub having_clause : {N : Naming} → Select N → Clause N
having_clause (select d list from w by h) = h

-- conditions as AND or OR joins them
abbrev pub conds : {N : Naming} → List (Cond N) → Conds N
conds [] = no_cond
conds (c ∷ cs) = a_cond c (conds cs)
