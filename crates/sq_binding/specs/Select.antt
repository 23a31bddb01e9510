-- The parts of a query specification: their surroundings, value expressions, grouping columns and select lists (ISO/IEC
-- 9075:1992, 6.3 to 6.5 and 7.7 to 7.9).
use Rattle.std.specs.Prelude.{ℕ, Bool, true, false, ◌||◌, List, [], ◌∷◌, map, length, Some, None, if◌then◌else◌, Ok, Err}
use Rattle.std.specs.List.{enumerate_from, flat_map}
use Rattle.sq_value.specs.declared.domain.Kind.{Kind}
use Rattle.sq_tree.specs.declared.names.ColumnReference.{ColumnReference}
use Rattle.sq_meaning.specs.Environment.{Place}
use Rattle.sq_meaning.specs.SortKeys.{item_name}
use Rattle.sq_meaning.specs.Spelled.{Named}
use Rattle.sq_meaning.specs.Syntax.{Expr, SelectList, all_columns, expressions}
use Rattle.sq_meaning.specs.Tables.{Declared}
use Rattle.sq_meaning.specs.declared.fault.BindingFault.TheVariants as fault
use Rattle.sq_bound.specs.Expression.{PlacedExpr}
use Rattle.sq_bound.specs.declared.condition.TablePlace.{TablePlace}
use Rattle.sq_binding.specs.Expression.{Bound, bound, column_findings, place_of_found}
use Rattle.sq_binding.specs.Found.{Binding, Counts, Found, ◌>>◌, ◌>>=◌, at_most, each, from_first, has_found, must, outcome, pure}
use Rattle.sq_binding.specs.From.{NamedTables}
use Rattle.sq_binding.specs.Numbered.{Numbered}
use Rattle.sq_binding.specs.NumberedCondition.{NumberedClause, NumberedGroups, NumberedSelect, ResultColumn}
use Rattle.sq_binding.specs.Outcome.{Outcome, and_then}
use Rattle.sq_binding.specs.QueryFindings.{of_values}
use Rattle.sq_binding.specs.Scope.{FoundColumn, FromItem, ItemColumn, Scope, column_meant}

-- The surroundings of a part: the meanings of tables' names, the parameters, and the FROM items of each query around,
-- the nearest first. They say whether a set function may occur there.
pub record Surroundings : Type 0 where
  pub names : NamedTables
  pub parameters : List Declared
  pub scopes : List Scope
  pub functions_allowed : Bool

-- in WHERE and GROUP BY, which are of lines
abbrev pub of_lines : List FromItem → Surroundings → Surroundings
of_lines items a = record a {
  scopes = record { items = items; grouping = None } ∷ a.scopes;
  functions_allowed = false;
}

-- in the select list and HAVING, which are of groups by these columns if the query is grouped
abbrev pub of_groups : List FromItem → List Place → Surroundings → Surroundings
of_groups items columns a = record a {
  scopes = record { items = items; grouping = Some columns } ∷ a.scopes;
  functions_allowed = true;
}

-- ---- value expressions

pub record Typed : Type 0 where
  pub tree : Numbered
  pub kind : Kind

abbrev pub value_found : Counts → Bound → Found Typed
value_found counts b = record {
  part = record { tree = b.tree; kind = b.kind };
  calls = b.calls;
  calls_can_fail = b.calls_can_fail;
  findings = of_values b.findings;
  subqueries = counts.subqueries;
}

abbrev pub value : Surroundings → Expr Named → Binding Typed
value a e = λ counts. and_then (bound a.scopes a.parameters a.functions_allowed false e counts.functions)
    (λ b. Ok (value_found counts b))

-- ---- GROUP BY (7.7)

-- a column of a query further out is a grouping column there, or need not be one
abbrev pub grouping_place : FoundColumn → Binding Place
grouping_place found = do
  must found.is_grouped fault.UngroupedColumn
  has_found (of_values (column_findings found))
  pure (place_of_found found)

abbrev pub grouping_column : Surroundings → ColumnReference → Binding Place
grouping_column a c = outcome (column_meant c a.scopes) >>= grouping_place

-- ---- select lists (7.9)

-- a column of a select list
pub record ShownColumn : Type 0 where
  pub tree : Numbered
  pub column : ResultColumn

abbrev pub column_of_item : ℕ → ItemColumn → ShownColumn
column_of_item item c = record {
  tree = Numbered.column (record { depth = 0; item = item; column = c.position });
  column = record { name = Some c.name; kind = c.kind };
}

abbrev pub columns_of_item : ℕ × FromItem → List ShownColumn
columns_of_item i = map (column_of_item i.0) i.1.columns

-- `*` means all columns of all items
abbrev pub columns_of_items : List FromItem → List ShownColumn
columns_of_items items = flat_map columns_of_item (enumerate_from 0 items)

abbrev pub shown_column : Surroundings → Expr Named → Binding ShownColumn
shown_column a e =
    value a e >>= λ x. pure (record { tree = x.tree; column = record { name = item_name e; kind = x.kind } })

-- no select list has more columns (own rule)
abbrev pub most_columns : ℕ
most_columns = 64

abbrev pub list_bound : Surroundings → List FromItem → SelectList Named → Binding (List ShownColumn)
list_bound a items all_columns =
    at_most most_columns (length (columns_of_items items)) (pure (columns_of_items items))
list_bound a items (expressions es) = at_most most_columns (length es) (each (shown_column a) es)

-- ---- the whole

-- the parts of a query specification
pub record Parts : Type 0 where
  pub distinct : Bool
  pub from : List TablePlace
  pub filter : NumberedClause
  pub by : List Place
  pub shown : List ShownColumn
  pub having : NumberedClause

-- a query is grouped by GROUP BY, by HAVING, or by a set function
abbrev pub groups_by : List Place → NumberedClause → List PlacedExpr → NumberedGroups
groups_by [] NumberedClause.absent [] = NumberedGroups.not_grouped
groups_by by having functions = NumberedGroups.grouped by functions having

abbrev pub groups_of : Found Parts → NumberedGroups
groups_of x = groups_by x.part.by x.part.having x.calls

abbrev pub is_star : SelectList Named → Bool
is_star all_columns = true
is_star (expressions es) = false

-- evaluating a query may answer a status if evaluating a part, or computing a set function, may
abbrev pub select_can_fail : Found Parts → Bool
select_can_fail x = x.findings.values.can_fail || x.calls_can_fail

-- the set functions of a query are its own
abbrev pub select_found : Found Parts → Found NumberedSelect
select_found x = record {
  part = NumberedSelect.select x.part.distinct (map (λ c. c.tree) x.part.shown) x.part.from x.part.filter
      (groups_of x) (map (λ c. c.column) x.part.shown) (select_can_fail x) None;
  calls = [];
  calls_can_fail = false;
  findings = record x.findings { values = record x.findings.values { can_fail = select_can_fail x } };
  subqueries = x.subqueries;
}

-- in a grouped query `*` may not occur, nor, outside set functions, a column that is no grouping column
abbrev pub rightly_grouped : (star : Bool) → NumberedGroups → Found Parts → Outcome (Found NumberedSelect)
rightly_grouped star NumberedGroups.not_grouped x = Ok (select_found x)
rightly_grouped star (NumberedGroups.grouped by functions having) x =
    if star then Err fault.CountMismatch else if x.findings.values.has_ungrouped
    then Err fault.UngroupedColumn else Ok (select_found x)

-- a query specification of these parts
abbrev pub specification : (star : Bool) → Binding Parts → Binding NumberedSelect
specification star parts =
    λ counts. and_then (from_first parts counts) (λ x. rightly_grouped star (groups_of x) x)
