-- What a SELECT INTO tells: nothing but rows of tables and views on which its module's user holds SELECT (ISO/IEC 9075:1992,
-- 4.26 and 13.5).
use Rattle.std.specs.Prelude.{◌≡◌, true, Some}
use Rattle.sq_lex.specs.declared.name.Name.{Name}
use Rattle.sq_store.specs.Content.{Content}
use Rattle.sq_tree.specs.declared.module.ModuleText.{ModuleText}
use Rattle.sq_tree.specs.declared.module.Procedure.{Procedure}
use Rattle.sq_tree.specs.declared.statement.Select.{Select as SelectStatement}
use Rattle.sq_tree.specs.declared.statement.Statement.TheVariants as statement
use Rattle.sq_meaning.specs.Environment.{TableName}
use Rattle.sq_meaning.specs.Tables.{table_rows}
use Rattle.sq_meaning.specs.Catalog.{tables_of}
use Rattle.sq_meaning.specs.Machine.{Call, Program, State, replied}
use Rattle.sq_meaning.specs.Module.{module_named, procedure_named}
use Rattle.sq_meaning.specs.Privilege.{Privilege}
use Rattle.sq_meaning.specs.Privileges.{holds}
use Rattle.sq_meaning.specs.Schema.{Elements}

-- each table and each view on which the user holds SELECT has the same rows in both databases
abbrev pub LookAlike : Elements → Name → Content → Content → Type 0
LookAlike elements user one other = (name : TableName) → holds elements user name Privilege.select ≡ true
    → table_rows (tables_of elements) one user name ≡ table_rows (tables_of elements) other user name

-- A call of SELECT INTO answers the same in two states whose tables look alike to its module's user.
unfoldable pub SelectTellsWhatMayBeRead : Program → Type 0
SelectTellsWhatMayBeRead p = (s t : State) (c : Call) (m : ModuleText) (q : Procedure) (x : SelectStatement)
    → module_named p.modules c.in_module ≡ Some m → procedure_named m c.procedure ≡ Some q
    → q.statement ≡ statement.Select x → LookAlike p.elements m.authorization s.tables t.tables
    → replied p s c ≡ replied p t c
