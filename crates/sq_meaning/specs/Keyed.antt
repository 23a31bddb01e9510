-- Calls that name the rows that they change by a key, and cursors whose conditions never fail. (ISO/IEC 9075:1992 asks
-- nothing of how rows are found; of such calls and cursors it is promised how few rows the processor reads.)
use Rattle.std.specs.List.{list_all, list_any}
use Rattle.std.specs.Prelude.{ℕ, Bool, true, false, not, ◌&&◌, List, [], ◌∷◌, length, take, if◌then◌else◌, filter_map, Option, Some, None}
use Rattle.std.specs.Result.{result_ok}
use Rattle.sq_lex.specs.declared.name.Name.{Name}
use Rattle.sq_value.specs.SetFunctions.{is_null as is_null_value}
use Rattle.sq_tree.specs.declared.cond.Comparison.TheVariants as comparison
use Rattle.sq_tree.specs.declared.module.Cursor.{Cursor}
use Rattle.sq_tree.specs.declared.schema.TableDefinition.{TableDefinition}
use Rattle.sq_tree.specs.declared.statement.Statement.{Statement}
use Rattle.sq_tree.specs.declared.statement.Statement.TheVariants as statement
use Rattle.sq_tree.specs.declared.statement.Where.{Where}
use Rattle.sq_tree.specs.declared.statement.Where.TheVariants as rows_where
use Rattle.sq_meaning.specs.Environment.{Input, TableName, input_value}
use Rattle.sq_meaning.specs.Quiet.{is_quiet_target}
use Rattle.sq_meaning.specs.Spelled.{Named, cond_of, table_of}
use Rattle.sq_meaning.specs.Syntax.{Clause, Cond, Conds, Expr, a_cond, column, compare, conjunction, disjunction, literal, no_cond, parameter, present, signed}
use Rattle.sq_meaning.specs.Target.{have_subquery}
use Rattle.sq_meaning.specs.Schema.{Elements, is_among, keys, table_named}
use Rattle.sq_meaning.specs.WellFormedStatement.{Surroundings, updatable_cursor}
use Rattle.sq_meaning.specs.Words.{is_some_and}

-- a literal, signed or not, or a parameter that is not null in this call
abbrev pub is_known_value : List Input → Expr Named → Bool
is_known_value inputs (literal v) = true
is_known_value inputs (signed sign (literal v)) = true
is_known_value inputs (parameter p) =
    is_some_and (λ v. not (is_null_value v)) (result_ok (input_value p inputs))
is_known_value inputs _ = false

-- the column that a test compares with such a value by `=`
abbrev pub column_equal : List Input → Cond Named → Option Name
column_equal inputs (compare comparison.Equal (column c) e) =
    if is_known_value inputs e then Some c.column else None
column_equal inputs _ = None

abbrev pub tests_of : Conds Named → List (Cond Named)
tests_of no_cond = []
tests_of (a_cond c cs) = c ∷ tests_of cs

-- the columns that the first tests name, as many as a key has
abbrev pub columns_equal : List Input → ℕ → Conds Named → List Name
columns_equal inputs count cs = filter_map (column_equal inputs) (take count (tests_of cs))

abbrev pub is_by_key : List Input → Conds Named → List Name → Bool
is_by_key inputs cs key = list_all (is_among (columns_equal inputs (length key) cs)) key

-- one list of tests joined by AND, without a subquery, whose first tests name each column of one declared key
abbrev pub is_keyed : TableDefinition → List Input → Clause Named → Bool
is_keyed t inputs (present (disjunction (a_cond (conjunction cs) no_cond))) =
    not (have_subquery cs) && list_any (is_by_key inputs cs) (keys t)
is_keyed t inputs _ = false

-- ---- calls

abbrev pub is_keyed_where : Elements → Name → List Input → TableName → Option Where → Bool
is_keyed_where elements user inputs name (Some (rows_where.Condition c)) =
    is_some_and (λ t. is_keyed t inputs (present (cond_of user c))) (table_named elements name)
is_keyed_where elements user inputs name _ = false

-- A call with these inputs is keyed if its statement is a searched UPDATE or DELETE on a base table, by a key. It reads one
-- row at most.
abbrev pub is_keyed_statement : Elements → Name → List Input → Statement → Bool
is_keyed_statement elements user inputs (statement.Update u) =
    is_keyed_where elements user inputs (table_of user u.table) u.target
is_keyed_statement elements user inputs (statement.Delete x) =
    is_keyed_where elements user inputs (table_of user x.table) x.target
is_keyed_statement elements user inputs _ = false

-- ---- cursors

-- An updatable cursor is quiet if its WHERE clause and the conditions of the views under it are: its OPEN reads no row.
abbrev pub is_quiet_cursor : Surroundings → Cursor → Bool
is_quiet_cursor u c = is_some_and is_quiet_target (updatable_cursor u c)
