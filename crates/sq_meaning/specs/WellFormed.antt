-- The value expressions, search conditions and query expressions that are well formed (ISO/IEC 9075:1992, 6.3 to 6.5,
-- 6.11, 7.3 to 7.11 and clause 8), whatever their naming. And the rows and environments that are of their kinds.
use Rattle.std.specs.Prelude.{◌≡◌, ℕ, zero, suc, ⊤, Bool, true, false, not, ◌||◌, IsTrue, IsFalse, List, [], ◌∷◌, map, slice_get, Option, Some, None, Ok, Err}
use Rattle.std.specs.List.{AllByRecursion, AllZip}
use Rattle.sq_value.specs.Domain.{IsOfKind}
use Rattle.sq_value.specs.declared.domain.Kind.{Kind}
use Rattle.sq_value.specs.declared.domain.Kind.TheVariants.{Num, Chars, Vary}
use Rattle.sq_meaning.specs.Status.{Outcome, ◌>>=◌, each, well_formed}
use Rattle.sq_meaning.specs.declared.status.Status.{Status}
use Rattle.sq_meaning.specs.declared.status.Status.TheVariants.{SyntaxErrorOrAccessRuleViolation}
use Rattle.sq_meaning.specs.Syntax.{Naming, Expr, literal, parameter, user, column, count_rows, set_function, signed, added, scaled, bracketed, SelectList, all_columns, expressions, Cond, Conds, Clause, Select, compare, compare_subquery, compare_quantified, between, in_subquery, in_list, like, is_null, exists, negated, conjunction, disjunction, no_cond, a_cond, absent, present, select, Query, specification, union}
use Rattle.sq_meaning.specs.Environment.{Row, Line, Scope, Env, Input, Place, items_in}
use Rattle.sq_meaning.specs.Placed.{Placed, PlacedParameter}
use Rattle.sq_meaning.specs.Expression.{Reading}
use Rattle.sq_meaning.specs.Query.{is_grouped, is_some_of}
use Rattle.sq_meaning.specs.Kind.{Kinds, kind, select_kinds, query_kinds}

-- ---- outcomes

-- a status with which something well formed may end
abbrev pub IsNoSyntaxError : Status → Type 0
IsNoSyntaxError SyntaxErrorOrAccessRuleViolation = ⊥
IsNoSyntaxError _ = ⊤

-- there is a value for which P holds, or a status other than 42000
abbrev pub Answers : {A : Type 0} → (A → Type 0) → Outcome A → Type 0
Answers P (Ok x) = P x
Answers P (Err status) = IsNoSyntaxError status

-- there is a value, and P holds for it
abbrev pub Has : {A : Type 0} → (A → Type 0) → Outcome A → Type 0
Has P (Ok x) = P x
Has P (Err status) = ⊥

abbrev pub HasValue : {A : Type 0} → Outcome A → Type 0
HasValue outcome = Has (λ x. ⊤) outcome

-- if the first outcome is a value, the second is a value with which P holds for it, or a status other than 42000
abbrev pub Fits : {A B : Type 0} → (A → B → Type 0) → Outcome A → Outcome B → Type 0
Fits P (Ok known) outcome = Answers (P known) outcome
Fits P (Err status) outcome = ⊤

-- ---- rows of kinds

-- a row has a value of its kind in each column
abbrev pub IsRowOf : List Kind → Row → Type 0
IsRowOf = AllZip IsOfKind

abbrev pub AreRowsOf : List Kind → List Row → Type 0
AreRowsOf kinds = AllByRecursion (IsRowOf kinds)

-- ---- kinds that go together

-- both are numbers, or both are texts (8.2)
abbrev pub is_comparable : Kind → Kind → Bool
is_comparable (Num s) (Num t) = true
is_comparable (Num s) _ = false
is_comparable (Chars m) (Num t) = false
is_comparable (Vary m) (Num t) = false
is_comparable _ _ = true

abbrev pub is_text : Kind → Bool
is_text (Num s) = false
is_text (Chars n) = true
is_text (Vary n) = true

-- a subquery has one column, which can be compared with this kind (7.11)
abbrev pub IsOnlyKind : Kind → List Kind → Type 0
IsOnlyKind k [] = ⊥
IsOnlyKind k (l ∷ []) = IsTrue (is_comparable k l)
IsOnlyKind k (l ∷ next ∷ others) = ⊥

-- ---- levels

-- The tables of a FROM clause around, and whether its columns may be read outside of set functions. They may not if a
-- query specification is grouped without GROUP BY, since its one group may have no row (7.9).
pub record Level (N : Naming) : Type 0 where
  pub from : List N.Table
  pub has_line : Bool

abbrev pub froms : {N : Naming} → List (Level N) → List (List N.Table)
froms levels = map (λ level. level.from) levels

abbrev pub HasLine : {N : Naming} → List (Level N) → ℕ → Type 0
HasLine [] depth = ⊥
HasLine (level ∷ outer) zero = IsTrue level.has_line
HasLine (level ∷ outer) (suc depth) = HasLine outer depth

abbrev pub IsInQuery : {N : Naming} → List (Level N) → Type 0
IsInQuery [] = ⊥
IsInQuery (level ∷ outer) = ⊤

-- a level of lines, as WHERE, GROUP BY and the operand of a set function see it
abbrev pub of_lines : {N : Naming} → List N.Table → Level N
of_lines from = record { from = from; has_line = true }

-- the levels that the operand of a set function sees
abbrev pub inside_function : {N : Naming} → List (Level N) → List (Level N)
inside_function [] = []
inside_function (level ∷ outer) = of_lines level.from ∷ outer

-- a level as the select list and HAVING see it
abbrev pub shown_level : {N : Naming} → SelectList N → List N.Table → List N.Column → Clause N → Level N
shown_level list from by having = record {
  from = from;
  has_line = not (is_grouped list by having) || is_some_of by;
}

-- the kind of the column at a place, by the kinds of the tables' columns
abbrev pub kind_there : {T : Type 0} → (T → Outcome (List Kind)) → List (List T) → Place → Outcome Kind
kind_there columns scopes p = do
  from ← well_formed (slice_get scopes p.depth)
  t ← well_formed (slice_get from p.item)
  kinds ← columns t
  well_formed (slice_get kinds p.column)

-- The kinds of columns and tables known beforehand are the kinds that a reading finds. The meaning of a column reference
-- depends on the scopes further out only by its meaning there.
pub record Agrees {N : Naming} (m : Reading N) (k : Kinds N) : Type 0 where
  pub outer : (c : N.Column) (items : List N.Item) (xs ys : List (List N.Item)) → m.place c xs ≡ m.place c ys
      → m.place c (items ∷ xs) ≡ m.place c (items ∷ ys)
  pub columns : (c : N.Column) (scopes : List (List N.Table)) → k.column c scopes
      ≡ (each (each m.item) scopes >>= λ items. m.place c items >>= kind_there k.columns scopes)
  pub rows : (t : N.Table) → Fits AreRowsOf (k.columns t) (m.rows t)

abbrev pub OnlyIf : Bool → Type 0 → Type 0
OnlyIf true P = P
OnlyIf false P = ⊤

module _ {N : Naming} (m : Reading N) (k : Kinds N) (IsDeclared : N.Parameter → Type 0) where
  -- ---- value expressions

  -- a column reference means a column (6.4), which may be read here
  abbrev pub MayRead : List (Level N) → N.Column → Type 0
  MayRead levels c = Has (λ p. HasLine levels p.depth) (each (each m.item) (froms levels) >>= m.place c)

  -- columns may be read, parameters are declared, and set functions are in a query
  abbrev pub MayStand : List (Level N) → Expr N → Type 0
  MayStand levels (literal v) = ⊤
  MayStand levels (parameter p) = IsDeclared p
  MayStand levels user = ⊤
  MayStand levels (column c) = MayRead levels c
  MayStand levels count_rows = IsInQuery levels
  MayStand levels (set_function function distinct e) = IsInQuery levels × MayStand (inside_function levels) e
  MayStand levels (signed sign e) = MayStand levels e
  MayStand levels (added sign a b) = MayStand levels a × MayStand levels b
  MayStand levels (scaled sign a b) = MayStand levels a × MayStand levels b
  MayStand levels (bracketed e) = MayStand levels e

  -- an expression that may occur there, and that has a kind (6.11 to 6.13)
  abbrev pub WellFormedExpr : List (Level N) → Expr N → Type 0
  WellFormedExpr levels e = HasValue (kind k (froms levels) e) × MayStand levels e

  abbrev pub WellFormedExprs : List (Level N) → List (Expr N) → Type 0
  WellFormedExprs levels es = AllByRecursion (WellFormedExpr levels) es

  abbrev pub WellFormedColumn : List (Level N) → N.Column → Type 0
  WellFormedColumn levels c = WellFormedExpr levels (column c)

  -- ---- search conditions and query specifications

  -- two values that can be compared (8.2)
  abbrev pub WellFormedPair : List (Level N) → Expr N → Expr N → Type 0
  WellFormedPair levels a b =
      WellFormedExpr levels a × WellFormedExpr levels b
      × Has (λ x. Has (λ y. IsTrue (is_comparable x y)) (kind k (froms levels) b)) (kind k (froms levels) a)

  abbrev pub WellFormedText : List (Level N) → Expr N → Type 0
  WellFormedText levels e = WellFormedExpr levels e × Has (λ x. IsTrue (is_text x)) (kind k (froms levels) e)

  abbrev pub WellFormedEscape : List (Level N) → Option (Expr N) → Type 0
  WellFormedEscape levels None = ⊤
  WellFormedEscape levels (Some e) = WellFormedText levels e

  -- a subquery of one column, whose values can be compared with the expression's value (7.11)
  abbrev pub IsBeside : List (Level N) → Expr N → Select N → Type 0
  IsBeside levels a q =
      Has (λ x. Has (IsOnlyKind x) (select_kinds k (froms levels) q)) (kind k (froms levels) a)

  -- an existing table (6.3)
  abbrev pub WellFormedTable : N.Table → Type 0
  WellFormedTable t = HasValue (k.columns t) × HasValue (m.item t)

  -- `*` does not occur in a grouped query specification (7.9)
  abbrev pub WellFormedList : List (Level N) → (grouped : Bool) → SelectList N → Type 0
  WellFormedList levels grouped all_columns = IsFalse grouped
  WellFormedList levels grouped (expressions es) = WellFormedExprs levels es

  abbrev mutual
    pub WellFormedCond : List (Level N) → Cond N → Type 0
    WellFormedCond levels (compare op a b) = WellFormedPair levels a b
    WellFormedCond levels (compare_subquery op a q) =
        WellFormedExpr levels a × IsBeside levels a q × WellFormedSelect levels q
    WellFormedCond levels (compare_quantified op quantifier a q) =
        WellFormedExpr levels a × IsBeside levels a q × WellFormedSelect levels q
    WellFormedCond levels (between a low high) = WellFormedPair levels a low × WellFormedPair levels a high
    WellFormedCond levels (in_subquery a q) =
        WellFormedExpr levels a × IsBeside levels a q × WellFormedSelect levels q
    WellFormedCond levels (in_list a es) =
        WellFormedExpr levels a × AllByRecursion (WellFormedPair levels a) es
    WellFormedCond levels (like text pattern escape) =
        WellFormedText levels text × WellFormedText levels pattern × WellFormedEscape levels escape
    WellFormedCond levels (is_null a) = WellFormedExpr levels a
    WellFormedCond levels (exists q) = WellFormedSelect levels q
    WellFormedCond levels (negated c) = WellFormedCond levels c
    WellFormedCond levels (conjunction cs) = WellFormedConds levels cs
    WellFormedCond levels (disjunction cs) = WellFormedConds levels cs

    pub WellFormedConds : List (Level N) → Conds N → Type 0
    WellFormedConds levels no_cond = ⊤
    WellFormedConds levels (a_cond c cs) = WellFormedCond levels c × WellFormedConds levels cs

    pub WellFormedClause : List (Level N) → Clause N → Type 0
    WellFormedClause levels absent = ⊤
    WellFormedClause levels (present c) = WellFormedCond levels c

    pub WellFormedSelect : List (Level N) → Select N → Type 0
    WellFormedSelect levels (select distinct list from filter by having) =
        AllByRecursion WellFormedTable from
        × WellFormedList (shown_level list from by having ∷ levels) (is_grouped list by having) list
        × WellFormedClause (of_lines from ∷ levels) filter
        × AllByRecursion (WellFormedColumn (of_lines from ∷ levels)) by
        × WellFormedClause (shown_level list from by having ∷ levels) having

  -- ---- query expressions (7.10): both sides have as many columns, of common kinds

  abbrev pub WellFormedQuery : Query N → Type 0
  WellFormedQuery (specification q) = WellFormedSelect [] q
  WellFormedQuery (union all left right) =
      WellFormedQuery left × WellFormedQuery right × HasValue (query_kinds k (union all left right))

  -- ---- environments

  abbrev pub IsLineOf : List N.Table → Line → Type 0
  IsLineOf = AllZip (λ t row. Has (λ kinds. IsRowOf kinds row) (k.columns t))

  -- the rows of a scope of a level: a row of each table, and a group of such lines
  pub record HasRowsOf (level : Level N) (scope : Scope N.Item) : Type 0 where
    pub line : OnlyIf level.has_line (IsLineOf level.from scope.line)
    pub group : AllByRecursion (IsLineOf level.from) scope.group

  -- a scope of a level: it has the items of the level's tables, and its rows are of their kinds
  pub record IsScopeOf (level : Level N) (scope : Scope N.Item) : Type 0 where
    pub items : each m.item level.from ≡ Ok scope.items
    pub found : HasRowsOf level scope

  -- column references mean the same in these scopes as among the tables' items
  abbrev pub AreItemsOf : List (List N.Table) → List (List N.Item) → Type 0
  AreItemsOf scopes items =
      (xs : List (List N.Item)) × (each (each m.item) scopes ≡ Ok xs)
      × ((c : N.Column) → m.place c xs ≡ m.place c items)

  -- an environment at these levels, with a value of its kind for each parameter that is declared
  pub record IsEnvOf (levels : List (Level N)) (env : Env N.Item) : Type 0 where
    pub items : AreItemsOf (froms levels) (items_in env)
    pub scopes : AllZip HasRowsOf levels env.scopes
    pub inputs : (p : N.Parameter) → IsDeclared p → Fits IsOfKind (k.parameter p) (m.input p env.inputs)

-- ---- trees by places: the kinds of each table's columns, and of each parameter

abbrev pub kinds_by_place : {T : Type 0} → (T → Outcome (List Kind)) → List Kind → Kinds (Placed T)
kinds_by_place columns parameters = record {
  column = λ p scopes. kind_there columns scopes p;
  parameter = λ p. well_formed (slice_get parameters p.position);
  columns = columns;
}

-- a parameter exists, and so does its indicator parameter, if it has one
abbrev pub IsThere : List Kind → Option ℕ → Type 0
IsThere parameters None = ⊤
IsThere parameters (Some i) = HasValue (well_formed (slice_get parameters i))

abbrev pub IsDeclaredAt : List Kind → PlacedParameter → Type 0
IsDeclaredAt parameters p =
    HasValue (well_formed (slice_get parameters p.position)) × IsThere parameters p.indicator

-- each input has a value of its kind
abbrev pub AreInputsOf : List Kind → List Input → Type 0
AreInputsOf = AllZip (λ c i. IsOfKind c i.value)
