-- The surroundings of a part of a query, and its value expressions, as the definitions see them.
use Rattle.std.specs.Prelude.{map}
use Rattle.sq_meaning.specs.Tables.{ColumnDescriptor}
use Rattle.sq_bound.specs.declared.names.Column.{Column}
use Rattle.sq_binding.specs.From.{NamedTables}
use Rattle.sq_binding.specs.From as binding_from
use Rattle.sq_binding.specs.Seen.{numbered_of}
use Rattle.sq_binding.specs.Select as binding
use Rattle.sq_binder.specs.Scope.{parameters_in, scopes_in}
use Rattle.sq_binder.specs.declared.surroundings.NamedTable.{NamedTable}
use Rattle.sq_binder.specs.declared.surroundings.Surroundings.{Surroundings}
use Rattle.sq_binder.specs.declared.typed.Typed.{Typed}

abbrev pub descriptor_of : Column → ColumnDescriptor
descriptor_of c = record { name = c.name; kind = c.kind }

abbrev pub named_table_of : NamedTable → binding_from.NamedTable
named_table_of t = record {
  place = t.place;
  columns = map descriptor_of t.columns.now;
  may_select = t.may_select;
  may_grant = t.may_grant;
}

-- tables mean what their names mean to the user of the text
abbrev pub surroundings : {T : Type 0} → (T → NamedTables) → Surroundings T → binding.Surroundings
surroundings named at = record {
  names = named at.tables.now;
  parameters = parameters_in at.environment.now;
  scopes = scopes_in at.environment.now;
  functions_allowed = at.functions_allowed;
}

abbrev pub typed_of : Typed → binding.Typed
typed_of t = record { tree = numbered_of t.expr; kind = t.kind }
