-- The columns that a tree by place reads (ISO/IEC 9075:1992, 6.4, 7.9 and 8.12). A place says how many queries further out
-- its column is than the reference. The parts of a query specification are one query deeper than it.
use Rattle.std.specs.Prelude.{⊤, ◌≡◌, ℕ, suc, ◌+◌, ◌<◌, List, Option, IfSome}
use Rattle.std.specs.List.{AllByRecursion}
use Rattle.sq_meaning.specs.Environment.{Place}
use Rattle.sq_meaning.specs.Placed.{Placed}
use Rattle.sq_meaning.specs.Syntax.{Expr, literal, parameter, user, column, count_rows, set_function, signed, added, scaled, bracketed, SelectList, all_columns, expressions, Cond, Conds, Clause, Select, compare, compare_subquery, compare_quantified, between, in_subquery, in_list, like, is_null, exists, negated, conjunction, disjunction, no_cond, a_cond, absent, present, select}

-- P holds for each column reference in a tree, with its depth in queries, if the tree itself is n deep
module _ {T : Type 0} (P : ℕ → Place → Type 0) where
  abbrev pub ExprReads : ℕ → Expr (Placed T) → Type 0
  ExprReads n (literal v) = ⊤
  ExprReads n (parameter p) = ⊤
  ExprReads n user = ⊤
  ExprReads n (column p) = P n p
  ExprReads n count_rows = ⊤
  ExprReads n (set_function function distinct e) = ExprReads n e
  ExprReads n (signed sign e) = ExprReads n e
  ExprReads n (added sign a b) = ExprReads n a × ExprReads n b
  ExprReads n (scaled sign a b) = ExprReads n a × ExprReads n b
  ExprReads n (bracketed e) = ExprReads n e

  abbrev pub ExprsRead : ℕ → List (Expr (Placed T)) → Type 0
  ExprsRead n es = AllByRecursion (ExprReads n) es

  abbrev pub EscapeReads : ℕ → Option (Expr (Placed T)) → Type 0
  EscapeReads n escape = IfSome escape (ExprReads n)

  -- `*` reads columns of its own query alone
  abbrev pub ListReads : ℕ → SelectList (Placed T) → Type 0
  ListReads n all_columns = ⊤
  ListReads n (expressions es) = ExprsRead n es

  abbrev mutual
    pub CondReads : ℕ → Cond (Placed T) → Type 0
    CondReads n (compare op a b) = ExprReads n a × ExprReads n b
    CondReads n (compare_subquery op a q) = ExprReads n a × SelectReads n q
    CondReads n (compare_quantified op k a q) = ExprReads n a × SelectReads n q
    CondReads n (between a low high) = ExprReads n a × ExprReads n low × ExprReads n high
    CondReads n (in_subquery a q) = ExprReads n a × SelectReads n q
    CondReads n (in_list a es) = ExprReads n a × ExprsRead n es
    CondReads n (like text pattern escape) = ExprReads n text × ExprReads n pattern × EscapeReads n escape
    CondReads n (is_null a) = ExprReads n a
    CondReads n (exists q) = SelectReads n q
    CondReads n (negated c) = CondReads n c
    CondReads n (conjunction cs) = CondsRead n cs
    CondReads n (disjunction cs) = CondsRead n cs

    pub CondsRead : ℕ → Conds (Placed T) → Type 0
    CondsRead n no_cond = ⊤
    CondsRead n (a_cond c cs) = CondReads n c × CondsRead n cs

    pub ClauseReads : ℕ → Clause (Placed T) → Type 0
    ClauseReads n absent = ⊤
    ClauseReads n (present c) = CondReads n c

    pub SelectReads : ℕ → Select (Placed T) → Type 0
    SelectReads n (select distinct list from filter by having) =
        ListReads (suc n) list × ClauseReads (suc n) filter × AllByRecursion (P (suc n)) by
        × ClauseReads (suc n) having

-- a column of a query at most so many further out than the outermost one in which the tree is
abbrev pub IsWithin : (reach : ℕ) → ℕ → Place → Type 0
IsWithin reach n p = p.depth < n + reach

-- a column of a query that is inside the tree
abbrev pub IsInside : ℕ → Place → Type 0
IsInside n p = p.depth < n

-- a query specification that reads no column of a query around it
abbrev pub IsClosed : {T : Type 0} → Select (Placed T) → Type 0
IsClosed q = SelectReads IsInside 0 q

-- a column of the query in which the tree is belongs to one of the first items of its FROM clause
abbrev pub IsAmongItems : (items : ℕ) → ℕ → Place → Type 0
IsAmongItems items n p = p.depth ≡ n → p.item < items

abbrev pub ExprReadsItems : {T : Type 0} → (items : ℕ) → Expr (Placed T) → Type 0
ExprReadsItems items = ExprReads (IsAmongItems items) 0

abbrev pub ReadsItems : {T : Type 0} → (items : ℕ) → Cond (Placed T) → Type 0
ReadsItems items = CondReads (IsAmongItems items) 0
