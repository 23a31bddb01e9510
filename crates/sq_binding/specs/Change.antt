-- The bound forms of INSERT, UPDATE and DELETE (ISO/IEC 9075:1992, 13.6 to 13.10).
use Rattle.std.specs.Prelude.{ℕ, Bool, not, ◌||◌, ◌==◌, List, [], ◌∷◌, ◌++◌, length, map, find, Option, Some, None, Ok}
use Rattle.std.specs.List.{zip}
use Rattle.sq_lex.specs.declared.name.Name.{Name}
use Rattle.sq_value.specs.declared.domain.Kind.{Kind}
use Rattle.sq_value.specs.declared.value.Value.TheVariants.{Null}
use Rattle.sq_tree.specs.declared.list.CommaList.{CommaList}
use Rattle.sq_tree.specs.declared.statement.Assignment.{Assignment}
use Rattle.sq_tree.specs.declared.statement.Delete.{Delete}
use Rattle.sq_tree.specs.declared.statement.Insert.{Insert}
use Rattle.sq_tree.specs.declared.statement.InsertSource.{InsertSource}
use Rattle.sq_tree.specs.declared.statement.InsertSource.TheVariants as source
use Rattle.sq_tree.specs.declared.statement.NewValue.{NewValue}
use Rattle.sq_tree.specs.declared.statement.NewValue.TheVariants as new_value
use Rattle.sq_tree.specs.declared.statement.Update.{Update}
use Rattle.sq_tree.specs.declared.statement.Where.{Where}
use Rattle.sq_tree.specs.declared.statement.Where.TheVariants as rows_where
use Rattle.sq_meaning.specs.Environment.{TableName, same_name, same_table}
use Rattle.sq_meaning.specs.Spelled.{cond_of, expr_of, listed, select_of, table_of}
use Rattle.sq_meaning.specs.Syntax.{present}
use Rattle.sq_meaning.specs.Tables.{ColumnDescriptor, Declared}
use Rattle.sq_meaning.specs.Privilege.{Privilege}
use Rattle.sq_meaning.specs.Schema.{has_name_twice}
use Rattle.sq_meaning.specs.declared.fault.BindingFault.TheVariants as fault
use Rattle.sq_bound.specs.Known.{Under}
use Rattle.sq_binding.specs.Changeable.{ChangedTable, NumberedTarget, UserNames, changed_table, condition_bound, item_at_leaf, outside, target_over}
use Rattle.sq_binding.specs.Condition.{must_agree, select_bound}
use Rattle.sq_binding.specs.Found.{Binding, Found, ◌>>=◌, ◌>>◌, each, has_found, must, outcome, pure}
use Rattle.sq_binding.specs.Numbered.{Numbered}
use Rattle.sq_binding.specs.NumberedCondition.{NumberedClause, NumberedSelect, ResultColumn, columns_of}
use Rattle.sq_binding.specs.Outcome.{Outcome, and_then, or_fault}
use Rattle.sq_binding.specs.QueryFindings.{both}
use Rattle.sq_binding.specs.Select.{Surroundings, of_lines, value}
use Rattle.sq_binding.specs.Whole.{needed}

-- ---- columns that get values

-- a column of the table that is named: the column of the base table that it is, and the kind of its values
pub record Receiver : Type 0 where
  pub name : Name
  pub column : ℕ
  pub kind : Kind

abbrev pub receiver_over : ℕ × ColumnDescriptor → Receiver
receiver_over c = record { name = c.1.name; column = c.0; kind = c.1.kind }

abbrev pub receivers_of : ChangedTable → List Receiver
receivers_of t = map receiver_over (zip t.under.columns t.table.columns)

abbrev pub receiver_named : ChangedTable → Name → Outcome Receiver
receiver_named t name = or_fault fault.UnknownColumn (find (λ r. same_name r.name name) (receivers_of t))

-- The results of `make` on the column of each element of a list in turn, after elements with the names `before`: no name occurs twice.
abbrev pub each_column : {A B : Type 0} → ChangedTable → (A → Name) → (A → Receiver → Binding B)
    → (before : List Name) → List A → Binding (List B)
each_column t name_of make before [] = pure []
each_column t name_of make before (x ∷ xs) = do
  receiver ← outcome (receiver_named t (name_of x))
  must (not (has_name_twice (before ++ name_of x ∷ []))) fault.ColumnTwice
  y ← make x receiver
  ys ← each_column t name_of make (before ++ name_of x ∷ []) xs
  pure (y ∷ ys)

abbrev pub itself : Name → Receiver → Binding Receiver
itself name receiver = pure receiver

-- the columns that get values: the listed ones, or all
abbrev pub receivers_bound : ChangedTable → Option (CommaList Name) → Binding (List Receiver)
receivers_bound t None = pure (receivers_of t)
receivers_bound t (Some list) = each_column t (λ name. name) itself [] (listed list)

-- ---- values

-- a new value is of the kind of its column; NULL is of every kind
abbrev pub new_value_bound : Surroundings → Kind → NewValue → Binding Numbered
new_value_bound a k (new_value.Expr e) = do
  x ← value a (expr_of e)
  must_agree x.kind k
  pure x.tree
new_value_bound a k new_value.Null = pure (Numbered.literal Null)

-- ---- INSERT (13.8)

pub data NumberedSource : Type 0 where
  values : List Numbered → NumberedSource
  query : NumberedSelect → NumberedSource

pub record NumberedInsert : Type 0 where
  pub leaf : Under
  -- the columns of the base table that get the values, in the order of the values
  pub columns : List ℕ
  pub source : NumberedSource

abbrev pub value_for : Surroundings → Receiver × NewValue → Binding Numbered
value_for a p = new_value_bound a p.0.kind p.1

abbrev pub column_for : ResultColumn × Receiver → Binding (Unit {0})
column_for p = must_agree p.0.kind p.1.kind

-- there are as many values, or columns of the query, as columns that get them
abbrev pub source_bound : UserNames → Surroundings → List Receiver → InsertSource → Binding NumberedSource
source_bound names a receivers (source.Values list) = do
  must (length receivers == length (listed list)) fault.CountMismatch
  given ← each (value_for a) (zip receivers (listed list))
  pure (NumberedSource.values given)
source_bound names a receivers (source.Query q) = do
  x ← select_bound a (select_of names.user q)
  must (length receivers == length (columns_of x)) fault.CountMismatch
  each column_for (zip (columns_of x) receivers)
  pure (NumberedSource.query x)

abbrev pub insert_bound : UserNames → List Declared → Insert → Binding NumberedInsert
insert_bound names parameters i = do
  t ← outcome (changed_table names (table_of names.user i.table))
  receivers ← receivers_bound t i.columns
  source ← source_bound names (outside names parameters) receivers i.source
  has_found (needed (names.holds t.reference.table Privilege.insert))
  pure (record { leaf = t.under.leaf; columns = map (λ r. r.column) receivers; source = source })

-- ---- the rows that UPDATE and DELETE change (13.6, 13.7, 13.9 and 13.10)

-- a cursor: its number, whether it scrolls, its columns, and the table that it is over if it is updatable
pub record NamedCursor : Type 0 where
  pub number : ℕ
  pub scroll : Bool
  pub columns : List ResultColumn
  pub table : Option TableName

-- the cursors whose queries have no fault
abbrev pub NamedCursors : Type 0
NamedCursors = Name → Option NamedCursor

pub data NumberedChange : Type 0 where
  searched : NumberedTarget → NumberedChange
  -- the row that a cursor is on
  positioned : (cursor : ℕ) → Under → NumberedChange

abbrev pub cursor_named : NamedCursors → Name → Outcome NamedCursor
cursor_named cursors name = or_fault fault.UnknownCursor (cursors name)

-- an updatable cursor over the very table that is named
abbrev pub positioned_bound : NamedCursors → ChangedTable → Name → Binding NumberedChange
positioned_bound cursors t name = do
  c ← outcome (cursor_named cursors name)
  over ← outcome (or_fault fault.NotUpdatable c.table)
  must (same_table t.reference.table over) fault.NotUpdatable
  pure (NumberedChange.positioned c.number t.under.leaf)

abbrev pub rows_bound : UserNames → Surroundings → NamedCursors → ChangedTable → Option Where
    → Binding NumberedChange
rows_bound names a cursors t None = pure (NumberedChange.searched (target_over t NumberedClause.absent))
rows_bound names a cursors t (Some (rows_where.Condition c)) = do
  condition ← condition_bound a t (present (cond_of names.user c))
  pure (NumberedChange.searched (target_over t condition))
rows_bound names a cursors t (Some (rows_where.CurrentOf name)) = positioned_bound cursors t name

-- who reads a column of the table that is changed needs SELECT on it (own rule)
abbrev pub with_reading : UserNames → ChangedTable → {A : Type 0} → Found A → Found A
with_reading names t x =
    record x {
      findings = both x.findings
          (needed (not x.findings.values.reads_outermost || names.holds t.reference.table Privilege.select));
    }

abbrev pub reading : UserNames → ChangedTable → {A : Type 0} → Binding A → Binding A
reading names t b = λ counts. and_then (b counts) (λ x. Ok (with_reading names t x))

-- ---- DELETE (13.6 and 13.7)

abbrev pub delete_bound : UserNames → List Declared → NamedCursors → Delete → Binding NumberedChange
delete_bound names parameters cursors d = do
  t ← outcome (changed_table names (table_of names.user d.table))
  rows ← reading names t (rows_bound names (outside names parameters) cursors t d.target)
  has_found (needed (names.holds t.reference.table Privilege.delete))
  pure rows

-- ---- UPDATE (13.9 and 13.10)

pub record NumberedAssignment : Type 0 where
  pub column : ℕ
  pub value : Numbered

pub record NumberedUpdate : Type 0 where
  pub rows : NumberedChange
  pub assignments : List NumberedAssignment

-- a set clause: the value of a column
abbrev pub assignment_bound : UserNames → Surroundings → ChangedTable → Assignment → Receiver
    → Binding NumberedAssignment
assignment_bound names a t s receiver = do
  value ← new_value_bound (of_lines (item_at_leaf t ∷ []) a) receiver.kind s.value
  has_found (needed (names.holds t.reference.table (Privilege.update s.column)))
  pure (record { column = receiver.column; value = value })

abbrev pub update_parts : UserNames → Surroundings → NamedCursors → ChangedTable → Update
    → Binding NumberedUpdate
update_parts names a cursors t u = do
  assignments ← each_column t (λ s. s.column) (assignment_bound names a t) [] (listed u.assignments)
  rows ← rows_bound names a cursors t u.target
  pure (record { rows = rows; assignments = assignments })

abbrev pub update_bound : UserNames → List Declared → NamedCursors → Update → Binding NumberedUpdate
update_bound names parameters cursors u = do
  t ← outcome (changed_table names (table_of names.user u.table))
  reading names t (update_parts names (outside names parameters) cursors t u)
