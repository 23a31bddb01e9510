-- The conditions of a base table are those of its CREATE TABLE text (ISO/IEC 9075:1992, 11.9; 11.4 for those of columns).
use Rattle.std.specs.Prelude.{List, [], ◌∷◌, flat_map}
use Rattle.std.specs.List.{AllZip}
use Rattle.sq_tree.specs.declared.cond.Cond.{Cond}
use Rattle.sq_tree.specs.declared.schema.ColumnConstraint.{ColumnConstraint}
use Rattle.sq_tree.specs.declared.schema.ColumnConstraint.TheVariants as constraint
use Rattle.sq_tree.specs.declared.schema.TableDefinition.{TableDefinition}
use Rattle.sq_tree.specs.declared.schema.TableElement.{TableElement}
use Rattle.sq_tree.specs.declared.schema.TableElement.TheVariants as element
use Rattle.sq_meaning.specs.Spelled.{cond_of, listed}
use Rattle.sq_bound.specs.declared.condition.BoundCond.{BoundCond}
use Rattle.sq_bound.specs.declared.names.Column.{Column}
use Rattle.sq_lex.specs.declared.name.Name.{Name}
use Rattle.sq_meaning.specs.Environment.{TableName}
use Rattle.sq_meaning.specs.Tables.{ColumnDescriptor}
use Rattle.sq_binding.specs.NumberedCondition.{NumberedCond}
use Rattle.sq_binding.specs.View.{check_bound}
use Rattle.sq_binding.specs.ElementOutcome.{Outcome}
use Rattle.sq_binding.specs.Table.{or_bad_check}
use Rattle.sq_binding.specs.Written.{CondIs, check_placed}
use Rattle.sq_catalog.specs.Columns.{HasColumnsOf}
use Rattle.sq_catalog.specs.declared.catalog.FullName.{FullName}

-- ---- as they are written

-- CHECK of one column (11.4)
abbrev pub check_of_column : ColumnConstraint → List Cond
check_of_column constraint.NotNull = []
check_of_column constraint.Unique = []
check_of_column constraint.PrimaryKey = []
check_of_column (constraint.References to) = []
check_of_column (constraint.Check condition) = condition ∷ []

-- the conditions that a table element writes: CHECK of a table, or those of a column definition
abbrev pub checks_in : TableElement → List Cond
checks_in (element.Column w) = flat_map check_of_column w.constraints
checks_in (element.Unique columns) = []
checks_in (element.PrimaryKey columns) = []
checks_in (element.ForeignKey key) = []
checks_in (element.Check condition) = condition ∷ []

-- the conditions of a table definition, in the order of the text
abbrev pub checks_written : TableDefinition → List Cond
checks_written t = flat_map checks_in (listed t.elements)

-- ---- as their table holds them

-- a condition on a row of the table of this name with these columns, and what is bound is the one that is written
abbrev pub IsCheckOf : FullName → List Column → Cond → BoundCond → Type 0
IsCheckOf name columns written cond =
    CondIs (check_placed (record { user = name.user; name = name.name }) columns written) cond

-- each condition is the one that is written at its place
abbrev pub AreChecksOf : FullName → List Column → List Cond → List BoundCond → Type 0
AreChecksOf name columns = AllZip (IsCheckOf name columns)

-- the conditions of a table definition, on its columns as names see them
pub record HasChecksOf (name : FullName) (t : TableDefinition) (checks : List BoundCond) : Type 0 where
  pub columns : List Column
  pub columns_are : HasColumnsOf t columns
  pub checks_are : AreChecksOf name columns (checks_written t) checks

-- ---- as the definitions see it

-- a condition of CHECK that a user writes, on a row of a table of this name with these columns
abbrev pub check_over : Name → TableName → List ColumnDescriptor → Cond → Outcome NumberedCond
check_over user t columns condition = or_bad_check (check_bound t columns (cond_of user condition))
