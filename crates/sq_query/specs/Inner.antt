-- What a condition reads in its subqueries, and in theirs: of a base table that stands in one of them alone, one row at most, where the
-- first tests of the subquery name it by a key (ISO/IEC 9075:1992, 7.6, 7.11 and 8.4 to 8.8; own rule).
use Rattle.std.specs.Prelude.{◌≡◌, ◌+◌, ◌++◌, ◌⊎◌, ℕ, Bool, true, List, [], ◌∷◌, drop, map, take}
use Rattle.std.specs.Borrow.{Bor}
use Rattle.std.specs.List.{AllByRecursion, AllZip}
use Rattle.sq_lex.specs.declared.name.Name.{Name}
use Rattle.sq_tree.specs.declared.cond.Comparison.{Comparison}
use Rattle.sq_value.specs.declared.domain.Kind.{Kind}
use Rattle.sq_value.specs.declared.value.Value.{Value}
use Rattle.sq_store.specs.Content.{Content}
use Rattle.sq_store.specs.Keys.{Keys, are_keyed}
use Rattle.sq_meaning.specs.Environment.{Env, Line, Row, Scope, alone}
use Rattle.sq_meaning.specs.Placed.{by_place}
use Rattle.sq_meaning.specs.Query.{rows, truth}
use Rattle.sq_meaning.specs.Status.{Outcome}
use Rattle.sq_meaning.specs.Syntax.{conds, select}
use Rattle.sq_meaning.specs.WellFormed.{IsDeclaredAt, IsRowOf, WellFormedCond, WellFormedSelect, kinds_by_place}
use Rattle.sq_bound.specs.Condition.{PlacedCond, PlacedSelect, cond_of, conj_of, select_of, test_of}
use Rattle.sq_bound.specs.Expression.{PlacedExpr}
use Rattle.sq_bound.specs.Fits.{keys_of_bases, not_nulls_hold}
use Rattle.sq_bound.specs.Noted.{CondIsNoted, SelectIsNoted}
use Rattle.sq_bound.specs.WellFormed.{BasesAreThere, Levels, TableKinds}
use Rattle.sq_bound.specs.declared.condition.BoundCond.{BoundCond}
use Rattle.sq_bound.specs.declared.condition.BoundConj.{BoundConj}
use Rattle.sq_bound.specs.declared.condition.BoundSpecification.{BoundSpecification}
use Rattle.sq_bound.specs.declared.condition.BoundTest.{BoundTest}
use Rattle.sq_bound.specs.declared.condition.Compared.{Compared}
use Rattle.sq_bound.specs.declared.condition.Predicate.{Predicate}
use Rattle.sq_bound.specs.declared.condition.Predicate.TheVariants as bound
use Rattle.sq_bound.specs.declared.condition.TablePlace.{TablePlace}
use Rattle.sq_bound.specs.declared.expression.BoundExpr.{BoundExpr}
use Rattle.sq_bound.specs.declared.names.BaseTable.{BaseTable}
use Rattle.sq_expression.specs.Frame.{inputs_of, lent, scopes_beyond}
use Rattle.sq_expression.specs.declared.table.BaseRows.{BaseRows}
use Rattle.sq_query.specs.Around.{AreRowsAround, IsAround, IsStanding}
use Rattle.sq_query.specs.Items.{items_of, over}
use Rattle.sq_query.specs.Needed.{IsNeeded, NeedsMore, ReadsClause, ReadsCond, clause_tables, conds_tables}
use Rattle.sq_query.specs.Row.{truth_on_row}
use Rattle.sq_query.specs.Sought.{IsLineAmong, IsRowAmong}
use Rattle.sq_query.specs.Table.{AreOfStore, rows_read}
use Rattle.sq_query.specs.Union.{AreFitting}
use Rattle.sq_query.specs.declared.around.Around.{Around}
use Rattle.sq_query.specs.declared.around.Standing.{Standing}
use Rattle.sq_query.specs.declared.needed.Needed.{Needed}
use Rattle.sq_query.specs.declared.view.Tables.{Tables}

-- the subquery of a predicate
abbrev pub IsSubqueryOf : Predicate → BoundSpecification → Type 0
IsSubqueryOf p s =
    ((op : Comparison) × (k : Compared) × (e : BoundExpr) × (p ≡ bound.CompareQuery op k e s)) ⊎
    (((n : Bool) × (e : BoundExpr) × (p ≡ bound.InQuery n e s)) ⊎ (p ≡ bound.Exists s))

-- ---- what stands elsewhere

-- of each table of a query specification but those of the subqueries of its WHERE clause P holds
abbrev pub ReadsAround : (TablePlace → Type 0) → PlacedSelect → Type 0
ReadsAround P (select distinct list from filter by having) = AllByRecursion P from × ReadsClause P having

-- these tables, in the order in which they are added
abbrev pub around_tables : PlacedSelect → List TablePlace
around_tables (select distinct list from filter by having) = from ++ clause_tables having

-- of each table of a query specification but those of the subqueries of its HAVING clause P holds
abbrev pub ReadsLines : (TablePlace → Type 0) → PlacedSelect → Type 0
ReadsLines P (select distinct list from filter by having) = AllByRecursion P from × ReadsClause P filter

-- these tables, in the order in which they are added
abbrev pub lines_tables : PlacedSelect → List TablePlace
lines_tables (select distinct list from filter by having) = from ++ clause_tables filter

-- those of tests, and of terms, whatever the set functions of the group are
abbrev pub tests_tables : List PlacedExpr → List BoundTest → List TablePlace
tests_tables functions tests = conds_tables (conds (map (test_of functions) tests))

abbrev pub terms_tables : List PlacedExpr → List BoundConj → List TablePlace
terms_tables functions terms = conds_tables (conds (map (conj_of functions) terms))

-- all these tables are needed, and those of all terms, or tests, but one
pub record AreOfOtherParts {A : Type 0} (tree : A → PlacedCond) (parts : List A) (number : ℕ)
    (tables all : Needed) : Type 0 where
  pub more : NeedsMore tables all
  pub before : AllByRecursion (λ x. ReadsCond (IsNeeded all) (tree x)) (take number parts)
  pub behind : AllByRecursion (λ x. ReadsCond (IsNeeded all) (tree x)) (drop (number + 1) parts)

-- ---- rows that serve in the place of all

-- What is read for a call: the base tables of a store that has their keys, and no null in a column with NOT NULL; and the parameters
-- have values of their kinds.
pub record IsInStore (columns : TableKinds) (parameters : List Kind) (content : Content) (keys : List Keys)
    (values : List Value) (tables : TablePlace → Outcome (List Row)) : Type 0 where
  pub bases : List BaseTable
  pub keys_are : keys ≡ keys_of_bases bases
  pub not_null : not_nulls_hold bases content ≡ true
  pub keyed : are_keyed keys content ≡ true
  pub there : BasesAreThere bases columns
  pub inputs : IsRowOf parameters values
  pub stored : AreOfStore content tables

-- Tables serve in the place of others: they are of the kinds of their columns, those that stand elsewhere are the same, and so is what is
-- evaluated within what is around.
pub record ServeAs (Same : (before after : TablePlace → Outcome (List Row)) → Env (Unit {0}) → Type 0)
    (columns : TableKinds) (parameters : List Kind) (levels : Levels) (elsewhere : Needed) (a : Around)
    (values : List Value) (user : Name) (before after : TablePlace → Outcome (List Row)) : Type 0 where
  pub fit : AreFitting columns after
  pub apart : (t : TablePlace) → IsNeeded elsewhere t → before t ≡ after t
  pub same : (scopes : List (Scope (Unit {0}))) → IsAround a scopes
      → AreRowsAround columns parameters levels scopes
      → Same before after (record { scopes = scopes; inputs = inputs_of values; user = user })

-- With more rows that were found the tables serve in the place of those with the rows that were found before, wherever this stands.
abbrev pub Serves : (Stands : TableKinds → List Kind → Levels → Type 0)
    → (Same : (before after : TablePlace → Outcome (List Row)) → Env (Unit {0}) → Type 0) → Needed → Around
    → Content → List Keys → List Value → Name → (before after : List BaseRows) → Type 0
Serves Stands Same elsewhere a content keys values user before after =
    (columns : TableKinds) (parameters : List Kind) (levels : Levels)
    (tables : TablePlace → Outcome (List Row)) → IsInStore columns parameters content keys values tables
    → Stands columns parameters levels → AreFitting columns (over before tables)
    → ServeAs Same columns parameters levels elsewhere a values user (over before tables) (over after tables)

-- a condition, which may stand there, has the same truth
abbrev pub StandsCond : PlacedCond → Type 0 → TableKinds → List Kind → Levels → Type 0
StandsCond c Notes columns parameters levels =
    ((now : TablePlace → Outcome (List Row))
    → WellFormedCond (by_place now) (kinds_by_place columns parameters) (IsDeclaredAt parameters) levels c)
    × Notes

abbrev pub ServesCond : PlacedCond → Type 0 → Needed → Around → Content → List Keys → List Value → Name
    → (before after : List BaseRows) → Type 0
ServesCond c Notes =
    Serves (StandsCond c Notes) (λ f g env. truth (by_place f) c env ≡ truth (by_place g) c env)

-- a query specification has the same rows
abbrev pub StandsSelect : BoundSpecification → TableKinds → List Kind → Levels → Type 0
StandsSelect q columns parameters levels =
    ((now : TablePlace → Outcome (List Row))
    → WellFormedSelect (by_place now) (kinds_by_place columns parameters) (IsDeclaredAt parameters) levels
    (select_of q)) × SelectIsNoted q

abbrev pub ServesSelect : BoundSpecification → Needed → Around → Content → List Keys → List Value → Name
    → (before after : List BaseRows) → Type 0
ServesSelect q =
    Serves (StandsSelect q)
    (λ f g env. rows (by_place f) (select_of q) env ≡ rows (by_place g) (select_of q) env)

-- ---- lines of which there is one

-- each row that was found of a table is this one
abbrev pub IsOnlyRow : List BaseRows → TablePlace → Row → Type 0
IsOnlyRow found t row = (other : Row) → IsRowAmong found t other → other ≡ row

abbrev pub AreOnlyRows : List BaseRows → List TablePlace → List (Bor Row) → Type 0
AreOnlyRows found = AllZip (λ t row. IsOnlyRow found t row.now)

-- this is known of each line of a query specification, within what is around
abbrev pub IsLineBeneath : BoundSpecification → Around → List BaseRows → Standing → List (Bor Row) → Type 0
IsLineBeneath q a found standing line =
    (scopes : List (Scope (Unit {0}))) (other : Line) → IsAround a scopes
    → IsLineAmong found (items_of q) other
    → IsStanding standing (alone [] (lent line) ∷ scopes_beyond a.lines) (alone [] other ∷ scopes)

-- what was found in the subqueries of a condition, where this is known of the line, and these may be the scopes
pub record ServesLine (c : BoundCond) (elsewhere : Needed) (standing : Standing)
    (scopes : List (Scope (Unit {0}))) (content : Content) (keys : List Keys) (values : List Value)
    (user : Name) (before after : List BaseRows) : Type 0 where
  pub a : Around
  pub stands : a.standing ≡ standing
  pub lines : scopes_beyond a.lines ≡ scopes
  pub serves : ServesCond (cond_of [] c) (CondIsNoted c) elsewhere a content keys values user before after

-- ---- on a row

-- the store has the keys of the base tables, and no null in a column with NOT NULL
abbrev pub HasKeys : List BaseTable → Content → List Keys → Type 0
HasKeys bases content keys = (keys ≡ keys_of_bases bases) × (not_nulls_hold bases content ≡ true)

-- what was found in the subqueries of a condition on a row
pub record AreBeneath (c : BoundCond) (row : Row) (content : Content) (keys : List Keys)
    (parameters : List Value)
    (user : Name) (found : List BaseRows) : Type 0 where
  pub a : Around
  pub is_around : IsAround a (alone [] (row ∷ []) ∷ [])
  pub elsewhere : Needed
  pub inside : ServesCond (cond_of [] c) (CondIsNoted c) elsewhere a content keys parameters user [] found

-- What was read are tables over which a condition has the truth on a row that it has over these.
pub record IsReadOnRow (tables : TablePlace → Outcome (List Row)) (c : BoundCond) (row : Row)
    (parameters : List Value)
    (user : Name) (read : Tables) : Type 0 where
  pub rows_of : TablePlace → Outcome (List Row)
  pub reads : ReadsCond (λ t. rows_read read t ≡ rows_of t) (cond_of [] c)
  pub same : truth_on_row rows_of parameters user row c ≡ truth_on_row tables parameters user row c
