-- The definitions, computed on small cases.
use Rattle.std.specs.Fmt.{digits}
use Rattle.std.specs.Prelude.{◌≡◌, ℕ, Bool, true, false, List, [], ◌∷◌, ◌++◌, map, ℤ, pos, negsuc, codes, Option, refl, Some, None}
use Rattle.sq_value.specs.declared.domain.Domain.{Domain}
use Rattle.sq_value.specs.declared.domain.Domain.TheVariants as domain
use Rattle.sq_value.specs.declared.value.Value.{Value}
use Rattle.sq_value.specs.declared.value.Value.TheVariants as value
use Rattle.sq_tree.specs.declared.data_type.DataType.TheVariants as data_type
use Rattle.sq_tree.specs.declared.module.Declaration.{Declaration}
use Rattle.sq_tree.specs.declared.module.Declaration.TheVariants as declaration
use Rattle.sq_tree.specs.declared.module.Declarations.{Declarations}
use Rattle.sq_tree.specs.declared.module.Declarations.TheVariants as declarations
use Rattle.sq_tree.specs.declared.module.ModuleItem.{ModuleItem}
use Rattle.sq_tree.specs.declared.module.ModuleItem.TheVariants as item
use Rattle.sq_tree.specs.declared.module.ModuleText.{ModuleText}
use Rattle.sq_tree.specs.declared.names.Parameter.{Parameter}
use Rattle.sq_tree.specs.declared.names.TableName.{TableName as SpelledTable}
use Rattle.sq_tree.specs.declared.schema.Action.TheVariants as action
use Rattle.sq_tree.specs.declared.schema.ColumnConstraint.{ColumnConstraint}
use Rattle.sq_tree.specs.declared.schema.ColumnConstraint.TheVariants as constraint
use Rattle.sq_tree.specs.declared.schema.Grantee.TheVariants as grantee
use Rattle.sq_tree.specs.declared.schema.Privileges.TheVariants as privileges
use Rattle.sq_tree.specs.declared.schema.SchemaElement.{SchemaElement}
use Rattle.sq_tree.specs.declared.schema.SchemaElement.TheVariants as element
use Rattle.sq_tree.specs.declared.schema.SchemaText.{SchemaText}
use Rattle.sq_tree.specs.declared.schema.TableElement.{TableElement}
use Rattle.sq_tree.specs.declared.schema.TableElement.TheVariants as table_element
use Rattle.sq_tree.specs.declared.statement.InsertSource.TheVariants as source
use Rattle.sq_tree.specs.declared.statement.NewValue.TheVariants as new_value
use Rattle.sq_tree.specs.declared.statement.Statement.{Statement}
use Rattle.sq_tree.specs.declared.statement.Statement.TheVariants as statement
use Rattle.sq_meaning.specs.Environment.{TableName}
use Rattle.sq_meaning.specs.declared.status.Status.TheVariants as status
use Rattle.sq_meaning.specs.Cursor.{CursorState, Move, before_rows, fetched}
use Rattle.sq_meaning.specs.Machine.{Program, first_state}
use Rattle.sq_meaning.specs.ModuleRefusal.{first_module_refusal}
use Rattle.sq_meaning.specs.Parameter.{Assignment, ParameterValue, Parameters, replied_row, replied_with, integer_value}
use Rattle.sq_meaning.specs.Privilege.{Privilege}
use Rattle.sq_meaning.specs.Privileges.{holds, may_grant_on}
use Rattle.sq_meaning.specs.Report.{report}
use Rattle.sq_meaning.specs.Run.{RunItem, program_of}
use Rattle.sq_meaning.specs.SchemaRefusal.{elements_of, first_schema_refusal}
use Rattle.sq_meaning.specs.declared.refusal.ModuleFault.TheVariants as module_fault
use Rattle.sq_meaning.specs.declared.refusal.SchemaFault.TheVariants as schema_fault

-- ---- FETCH on three rows (13.3)

-- LAST, PRIOR, PRIOR, PRIOR, RELATIVE 2, RELATIVE 0, ABSOLUTE -1, ABSOLUTE 9, PRIOR, ABSOLUTE 0

abbrev row_of : ℤ → List Value
row_of n = integer_value n ∷ []

abbrev three_rows : List (List Value)
three_rows = row_of (pos 1) ∷ row_of (pos 2) ∷ row_of (pos 3) ∷ []

abbrev nothing_now : ℕ → Option (List Value)
nothing_now number = None

abbrev moves : List Move
moves =
    Move.last ∷ Move.prior ∷ Move.prior ∷ Move.prior ∷ Move.relative (pos 2) ∷ Move.relative (pos 0) ∷ Move.absolute (negsuc 0) ∷ Move.absolute (pos 9)
    ∷ Move.prior ∷ Move.absolute (pos 0) ∷ []

abbrev rows_reached : CursorState → List Move → List (Option (List Value))
rows_reached c [] = []
rows_reached c (m ∷ ms) = (fetched nothing_now m c).row ∷ rows_reached (fetched nothing_now m c).cursor ms

scrolling : rows_reached (before_rows three_rows) moves ≡
    Some (row_of (pos 3)) ∷ Some (row_of (pos 2)) ∷ Some (row_of (pos 1)) ∷ None ∷ Some (row_of (pos 2)) ∷ Some (row_of (pos 2))
    ∷ Some (row_of (pos 3)) ∷ None ∷ Some (row_of (pos 3)) ∷ None ∷ []
scrolling = refl

-- ---- retrieving (9.1): 'HELLO' into CHAR(3) with an indicator, and null without one

abbrev parameter_of : List ℕ → Domain → ParameterValue
parameter_of name d = record { name = name; domain = d; value = value.Null }

abbrev parameters : Parameters
parameters = parameter_of (codes "C") (domain.Char 3) ∷ parameter_of (codes "IC") domain.Small ∷ parameter_of (codes "A") domain.Int ∷ []

abbrev into : List Parameter
into =
    record { name = codes "C"; indicator = Some (record { word = false; name = codes "IC" }) } ∷ record { name = codes "A"; indicator = None } ∷ []

abbrev output : List ℕ → Value → Assignment
output name v = record { name = name; value = v }

cut : replied_row parameters into (value.Chars (codes "HELLO") ∷ integer_value (pos 7) ∷ []) ≡ record {
  status = status.TextTruncated;
  outputs = output (codes "C") (value.Chars (codes "HEL")) ∷ output (codes "IC") (integer_value (pos 5)) ∷ output (codes "A") (integer_value (pos 7)) ∷ [];
}
cut = refl

no_indicator : replied_row parameters into (value.Chars (codes "BYE  ") ∷ value.Null ∷ []) ≡ replied_with status.NullWithoutIndicator
no_indicator = refl

-- ---- schemas, from the trees of their texts

abbrev named : List ℕ → SpelledTable
named name = record { schema = None; table = name }

-- K INTEGER with constraints
abbrev integer_column : List ℕ → List ColumnConstraint → TableElement
integer_column name cs = table_element.Column (record { name = name; data_type = data_type.Integer; default = None; constraints = cs })

abbrev one_table : List ℕ → TableElement → SchemaElement
one_table name e = element.Table (record { name = named name; elements = record { first = e; rest = [] } })

abbrev schema_text : List ℕ → List SchemaElement → SchemaText
schema_text user es = record { first = record { authorization = user; elements = es; semicolon = false }; rest = [] }

-- CREATE SCHEMA AUTHORIZATION U CREATE TABLE D (A INTEGER UNIQUE)
abbrev nullable : SchemaText
nullable = schema_text (codes "U") (one_table (codes "D") (integer_column (codes "A") (constraint.Unique ∷ [])) ∷ [])

nullable_refused : first_schema_refusal (nullable ∷ []) ≡ Some (record { text = 0; schema = 0; element = Some 0; fault = schema_fault.NullableKey })
nullable_refused = refl

-- CREATE TABLE D (A INTEGER NOT NULL UNIQUE), and GRANT SELECT ON D to W with the grant option
abbrev keyed_table : SchemaElement
keyed_table = one_table (codes "D") (integer_column (codes "A") (constraint.NotNull ∷ constraint.Unique ∷ []))

abbrev granted_to : List ℕ → SpelledTable → Bool → SchemaElement
granted_to user t option = element.Grant (record {
  privileges = privileges.Actions (record { first = action.Select; rest = [] });
  table_word = false;
  table = t;
  grantees = record { first = grantee.User user; rest = [] };
  grant_option = option;
})

abbrev u_d : SpelledTable
u_d = record { schema = Some (codes "U"); table = codes "D" }

abbrev texts : List SchemaText
texts = schema_text (codes "U") (keyed_table ∷ granted_to (codes "W") u_d true ∷ []) ∷ schema_text (codes "W") (granted_to (codes "V") u_d false ∷ []) ∷ []

taken : first_schema_refusal texts ≡ None
taken = refl

-- V holds SELECT by a chain of three elements, but may not grant it on
abbrev d : TableName
d = record { user = codes "U"; name = codes "D" }

v_holds : holds (elements_of texts) (codes "V") d Privilege.select ≡ true
v_holds = refl

v_may_not_grant : may_grant_on (elements_of texts) (codes "V") d Privilege.select ≡ false
v_may_not_grant = refl

granted_on_refused : first_schema_refusal (texts ++ schema_text (codes "V") (granted_to (codes "X") u_d false ∷ []) ∷ []) ≡
    Some (record { text = 2; schema = 0; element = Some 0; fault = schema_fault.PrivilegeMissing })
granted_on_refused = refl

-- a user's second schema, at its own CREATE
second_schema : first_schema_refusal (texts ++ schema_text (codes "U") [] ∷ []) ≡ Some (record { text = 2; schema = 0; element = None; fault = schema_fault.NameTwice })
second_schema = refl

-- ---- modules: a cursor that no procedure opens, and a procedure without a status parameter

abbrev commit : List ℕ → Declaration → ModuleItem
commit name d = item.Procedure (record { name = name; declarations = declarations.Bracketed (record { first = d; rest = [] }); statement = statement.Commit true })

abbrev module_text : List ModuleItem → ModuleText
module_text is = record { name = codes "M"; language = codes "C"; authorization = codes "U"; items = is }

no_status : first_module_refusal (module_text (commit (codes "P") declaration.Sqlcode ∷ commit (codes "Q") (declaration.Parameter (codes "A") data_type.Int) ∷ []) ∷ []) ≡
    Some (record { text = 0; item = Some 1; fault = module_fault.StatusParameter })
no_status = refl

two_procedures : first_module_refusal (module_text (commit (codes "P") declaration.Sqlcode ∷ commit (codes "P") declaration.Sqlcode ∷ []) ∷ []) ≡
    Some (record { text = 0; item = Some 1; fault = module_fault.TwoProcedures })
two_procedures = refl

two_modules : first_module_refusal (module_text [] ∷ module_text [] ∷ []) ≡ Some (record { text = 1; item = None; fault = module_fault.TwoModules })
two_modules = refl

-- ---- a run: COMMIT, a procedure that is not there, and the table

abbrev program : Program
program = program_of texts (module_text (commit (codes "P") declaration.Sqlcode ∷ []) ∷ []) 1000000

abbrev items : List RunItem
items = RunItem.call (record { in_module = codes "M"; procedure = codes "P"; values = [] }) ∷ RunItem.show d ∷ []

the_report : report program (first_state program) items ≡ codes "M.P 00000 0\nTABLE U.D 0\n"
unfolding digits
the_report = refl

-- ---- INSERT, DELETE, COMMIT and ROLLBACK on a table with one INTEGER column, and two row numbers

abbrev sqlcode_only : Declarations
sqlcode_only = declarations.Bracketed (record { first = declaration.Sqlcode; rest = [] })

abbrev procedure_of : List ℕ → Statement → ModuleItem
procedure_of name s = item.Procedure (record { name = name; declarations = sqlcode_only; statement = s })

-- INSERT INTO D VALUES (NULL), DELETE FROM D
abbrev insert_null : Statement
insert_null = statement.Insert (record { table = named (codes "D"); columns = None; source = source.Values (record { first = new_value.Null; rest = [] }) })

abbrev delete_all : Statement
delete_all = statement.Delete (record { table = named (codes "D"); target = None })

abbrev changes : List ModuleItem
changes =
    procedure_of (codes "INS") insert_null ∷ procedure_of (codes "DEL") delete_all ∷ procedure_of (codes "CMT") (statement.Commit true)
    ∷ procedure_of (codes "RBK") (statement.Rollback true) ∷ []

abbrev nullable_table : SchemaElement
nullable_table = one_table (codes "D") (integer_column (codes "A") [])

abbrev small : SchemaElement → Program
small t = program_of (schema_text (codes "U") (t ∷ []) ∷ []) (module_text changes ∷ []) 2

abbrev calls : List (List ℕ) → List RunItem
calls names = map (λ n. RunItem.call (record { in_module = codes "M"; procedure = n; values = [] })) names

-- a deleted number is not used again, but after a ROLLBACK
changes_report :
    report (small nullable_table) (first_state (small nullable_table))
    (calls (codes "DEL" ∷ codes "INS" ∷ codes "CMT" ∷ codes "INS" ∷ codes "DEL" ∷ codes "INS" ∷ codes "RBK" ∷ codes "INS" ∷ []) ++ RunItem.show d ∷ [])
    ≡ codes "M.DEL 02000 100\nM.INS 00000 0\nM.CMT 00000 0\nM.INS 00000 0\nM.DEL 00000 0\nM.INS S1L00 -9001\n"
    ++ codes "M.RBK 00000 0\nM.INS 00000 0\nTABLE U.D 2\n  NULL\n  NULL\n"
unfolding digits
changes_report = refl

-- NOT NULL
refused_null :
    report (small keyed_table) (first_state (small keyed_table)) (calls (codes "INS" ∷ []) ++ RunItem.show d ∷ []) ≡
    codes "M.INS 23000 -2300\nTABLE U.D 0\n"
unfolding digits
refused_null = refl

-- another user's module has no privilege
abbrev stranger : Program
stranger =
    program_of (schema_text (codes "U") (nullable_table ∷ []) ∷ [])
    (record { name = codes "M"; language = codes "C"; authorization = codes "W"; items = procedure_of (codes "DEL") (statement.Delete (record { table = u_d; target = None })) ∷ [] } ∷ []) 2

no_privilege : report stranger (first_state stranger) (calls (codes "DEL" ∷ [])) ≡ codes "M.DEL 42000 -4200\n"
unfolding digits
no_privilege = refl
