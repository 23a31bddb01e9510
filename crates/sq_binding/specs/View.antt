-- The bound forms of the queries of views and the conditions of CHECK (ISO/IEC 9075:1992, 11.9 and 11.19).
use Rattle.std.specs.Prelude.{Bool, false, not, ◌||◌, if◌then◌else◌, List, [], ◌∷◌, map, Option, None, Result, Ok, Err}
use Rattle.std.specs.List.{enumerate_from}
use Rattle.sq_meaning.specs.Environment.{TableName}
use Rattle.sq_meaning.specs.Spelled.{Named}
use Rattle.sq_meaning.specs.Syntax.{Cond, Select}
use Rattle.sq_meaning.specs.Tables.{ColumnDescriptor}
use Rattle.sq_meaning.specs.declared.fault.BindingFault.{BindingFault}
use Rattle.sq_binding.specs.Changeable.{NumberedUpdatable, UserNames, outside, updatable_bound}
use Rattle.sq_binding.specs.Condition.{cond_bound, select_bound}
use Rattle.sq_binding.specs.Cursor.{behind}
use Rattle.sq_binding.specs.Found.{Found}
use Rattle.sq_binding.specs.From.{column_over}
use Rattle.sq_binding.specs.NumberedCondition.{NumberedCond, NumberedSelect}
use Rattle.sq_binding.specs.Outcome.{Outcome, and_then}
use Rattle.sq_binding.specs.Scope.{FromItem}
use Rattle.sq_binding.specs.Select.{Surroundings, of_lines}
use Rattle.sq_binding.specs.Whole.{at_first}

-- ---- views

-- A view: its query, and the table that it is over if it is updatable. Then whether its owner holds SELECT on all
-- tables that it names, and with the grant option.
pub record NumberedView : Type 0 where
  pub query : NumberedSelect
  pub updatable : Option NumberedUpdatable
  pub may_select : Bool
  pub may_grant_select : Bool

abbrev pub view_of : Found NumberedSelect → Found (Option NumberedUpdatable) → NumberedView
view_of x y = record {
  query = x.part;
  updatable = y.part;
  may_select = not x.findings.lacks_privilege;
  may_grant_select = not x.findings.lacks_grant_option;
}

abbrev pub view_over : UserNames → Surroundings → Select Named → Outcome NumberedView
view_over names a q =
    and_then (select_bound a q at_first)
    (λ x. and_then (updatable_bound names a q x.part (behind x)) (λ y. Ok (view_of x y)))

-- a missing privilege is no fault of a view
abbrev pub view_bound : UserNames → Select Named → Outcome NumberedView
view_bound names q = view_over names (outside names []) q

-- ---- CHECK

-- a fault of a condition, or a subquery or USER, which a CHECK may not have (own rule)
pub data CheckFault : Type 0 where
  broken : BindingFault → CheckFault
  not_in_check : CheckFault

abbrev pub own_item : TableName → List ColumnDescriptor → FromItem
own_item t columns = record {
  reference = record { table = t; correlation = None };
  columns = map column_over (enumerate_from 0 columns);
}

-- the columns of the table that is defined, and no table, parameter or set function
abbrev pub beside_columns : TableName → List ColumnDescriptor → Surroundings
beside_columns t columns =
    of_lines (own_item t columns ∷ [])
    (record { names = λ t. None; parameters = []; scopes = []; functions_allowed = false })

abbrev pub checked : Outcome (Found NumberedCond) → Result NumberedCond CheckFault
checked (Ok x) =
    if x.findings.values.has_user || x.findings.has_subquery then Err CheckFault.not_in_check else Ok x.part
checked (Err f) = Err (CheckFault.broken f)

-- a condition on the rows of a table with these columns
abbrev pub check_bound : TableName → List ColumnDescriptor → Cond Named → Result NumberedCond CheckFault
check_bound t columns c = checked (cond_bound (beside_columns t columns) c at_first)
