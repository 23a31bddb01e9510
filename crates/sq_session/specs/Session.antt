-- A session: its procedures, and what they work on.
use Rattle.std.specs.Prelude.{◌≡◌, ℕ, Bool, true, ◌&&◌, List, map, nat_eq, position, slice_get, Option}
use Rattle.std.specs.Cmp.Lexicographic.{pointwise}
use Rattle.std.specs.Option.{option_map}
use Rattle.std.specs.Result.{result_map_both}
use Rattle.sq_lex.specs.declared.name.Name.{Name}
use Rattle.sq_store.specs.Content.{Content, table_at}
use Rattle.sq_store.specs.Keys.{Keys}
use Rattle.sq_store.specs.declared.table.Numbered.{Numbered}
use Rattle.sq_tree.specs.declared.module.ModuleText.{ModuleText}
use Rattle.sq_bound.specs.Fits.{AreInDomains, keys_of_bases}
use Rattle.sq_bound.specs.WellFormed.{TableKinds}
use Rattle.sq_bound.specs.declared.names.BaseTable.{BaseTable}
use Rattle.sq_bound.specs.Known.{KnownTables}
use Rattle.sq_binding.specs.Changeable.{UserNames}
use Rattle.sq_catalog.specs.Catalog.{table_number}
use Rattle.sq_change.specs.Constraints.{constraints_hold}
use Rattle.sq_catalog.specs.declared.catalog.FullName.{FullName}
use Rattle.sq_module.specs.Computed.{IsProgramOf}
use Rattle.sq_module.specs.declared.program.BoundProcedure.{BoundProcedure}
use Rattle.sq_module.specs.declared.program.DeclaredCursor.{DeclaredCursor}
use Rattle.sq_module.specs.declared.program.ProcedureName.{ProcedureName}
use Rattle.sq_module.specs.declared.program.Program.{Program}
use Rattle.sq_module.specs.Program.{FitsProgram, ProgramIsWellFormed}
use Rattle.sq_module.specs.Written.{IsOfTexts}
use Rattle.sq_session.specs.Cursors.{IsWhole, are_over}
use Rattle.sq_session.specs.Kind.{Procedure, kind_of}
use Rattle.sq_session.specs.Parameter.{declared}
use Rattle.sq_session.specs.Schemas.{Schemas, columns_of}
use Rattle.sq_session.specs.State.{State}

-- A session: the procedures and the names of the base tables, each at its number, what the schemas define, and
-- the state that calls work on.
pub record Session : Type 0 where
  pub procedures : List Procedure
  pub tables : List FullName
  pub schemas : Schemas
  pub state : State

-- The tables of a store with which a session may start: they are legal now and as committed, and the keys are those
-- of the base tables.
pub record MayStart (bases : List BaseTable) (tables committed : Content)
    (own_keys : List Keys) : Type 0 where
  pub in_domains : AreInDomains bases tables
  pub committed_in_domains : AreInDomains bases committed
  pub constraints : constraints_hold bases tables ≡ true
  pub committed_constraints : constraints_hold bases committed ≡ true
  pub keys : own_keys ≡ keys_of_bases bases

-- What a session keeps from call to call: what its program names is there, its cursors and statements are well formed,
-- and its state is in order.
pub record SessionIsWhole (columns : TableKinds) (bases : List BaseTable) (program : Program)
    (s : State) : Type 0 where
  pub fits : FitsProgram bases program
  pub well_formed : ProgramIsWellFormed columns program
  pub whole : IsWhole columns bases program.cursors.items s

-- ---- what names mean

abbrev pub is_procedure : Name → Name → Procedure → Bool
is_procedure «module» name p = pointwise nat_eq «module» p.«module» && pointwise nat_eq name p.name

-- the number of the procedure of this module and name
abbrev pub procedure_number : List Procedure → Name → Name → Option ℕ
procedure_number procedures «module» name = position (is_procedure «module» name) procedures

-- the rows of the base table of this owner and name, with their numbers, if there is one
abbrev pub rows_named : Session → Name → Name → Option (List Numbered)
rows_named s user name = option_map (λ n. (table_at s.state.tables n).rows) (table_number s.tables user name)

-- ---- the procedures of a program

abbrev pub procedure_of : List DeclaredCursor → ProcedureName × BoundProcedure → Procedure
procedure_of cursors p = record {
  «module» = p.0.«module»;
  name = p.0.name;
  parameters = map declared p.1.parameters;
  statement = result_map_both (kind_of cursors p.1.user p.1.parameters) (λ f. f) p.1.statement;
}

abbrev pub procedures_of : List DeclaredCursor → List (ProcedureName × BoundProcedure) → List Procedure
procedures_of cursors procedures = map (procedure_of cursors) procedures

-- the names of procedures, in their order
abbrev pub name_of : Procedure → ProcedureName
name_of p = record { «module» = p.«module»; name = p.name }

abbrev pub names_of : List Procedure → List ProcedureName
names_of procedures = map name_of procedures

-- the name of the procedure with this number, if there is one
abbrev pub name_at : List Procedure → ℕ → Option ProcedureName
name_at procedures number = option_map name_of (slice_get procedures number)

-- The procedures of a session are those of a program that is bound from these modules, where the names of tables and views mean this
-- (12.1 and 12.3), as the definitions compute it, the faults included. It is well formed over the session's tables and views, the session
-- has a cursor for each that it declares, and its tables have the keys of the base tables.
pub record IsOfModules (known : KnownTables) (names : Name → UserNames) (modules : List ModuleText)
    (s : Session) : Type 0 where
  pub program : Program
  pub is_of : IsOfTexts known modules program
  pub computed : IsProgramOf names modules program
  pub fits : FitsProgram s.schemas.bases program
  pub well_formed : ProgramIsWellFormed (columns_of s.schemas) program
  pub are : s.procedures ≡ procedures_of program.cursors.items program.procedures.entries
  pub cursors : are_over program.cursors.items s.state.cursors ≡ true
  pub keys : s.state.keys ≡ keys_of_bases s.schemas.bases
