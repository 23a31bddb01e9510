-- Where the definitions write a default for what can't be, accepted texts never come to it (ISO/IEC 9075:1992, 11.4, 12.3
-- and 13.1).
use Rattle.std.specs.List.{AllByRecursion, AllZip, IsAmong, list_any}
use Rattle.std.specs.Prelude.{◌≡◌, ◌⊎◌, ⊤, true, List, is_some, None, Ok}
use Rattle.sq_lex.specs.declared.name.Name.{Name}
use Rattle.sq_value.specs.declared.value.Value.{Value}
use Rattle.sq_value.specs.declared.value.Value.TheVariants as value
use Rattle.sq_tree.specs.declared.module.Cursor.{Cursor}
use Rattle.sq_tree.specs.declared.module.ModuleItem.TheVariants as item
use Rattle.sq_tree.specs.declared.module.ModuleText.{ModuleText}
use Rattle.sq_tree.specs.declared.module.Procedure.{Procedure}
use Rattle.sq_tree.specs.declared.schema.SchemaElement.{SchemaElement}
use Rattle.sq_tree.specs.declared.schema.SchemaElement.TheVariants as element
use Rattle.sq_tree.specs.declared.script.ScriptItem.TheVariants as script
use Rattle.sq_meaning.specs.Assignment.{assigned}
use Rattle.sq_meaning.specs.Spelled.{domain_of}
use Rattle.sq_meaning.specs.Tables.{Declared}
use Rattle.sq_meaning.specs.Machine.{Program, State, is_entry}
use Rattle.sq_meaning.specs.Module.{cursors, declared_parameters, parameter_declarations}
use Rattle.sq_meaning.specs.Parameter.{started}
use Rattle.sq_meaning.specs.Run.{RunItem}
use Rattle.sq_meaning.specs.Schema.{base_place, column_definitions}
use Rattle.sq_meaning.specs.Script.{fit, script_fault_of}
use Rattle.sq_run.specs.ShownRows.{state_after}

-- the type of each column of a table has a domain: `column_domain` is that one
abbrev pub HaveDomains : SchemaElement → Type 0
HaveDomains (element.Table t) =
    AllByRecursion (λ c. is_some (domain_of c.data_type) ≡ true) (column_definitions t)
HaveDomains _ = ⊤

-- the type of each parameter has a domain: `declared_parameters` leaves none out
abbrev pub ParametersHaveDomains : Procedure → Type 0
ParametersHaveDomains q =
    AllByRecursion (λ d. is_some (domain_of d.data_type) ≡ true) (parameter_declarations q)

-- each value is null, or stored as its parameter starts: `started` makes no other value of it
abbrev pub AreStarted : List Declared → List Value → Type 0
AreStarted = AllZip (λ d v. (v ≡ value.Null) ⊎ (assigned d.domain v ≡ Ok (started d.domain v)))

-- of each cursor that is declared there is a state: `cursor_at` finds it
abbrev pub HasCursors : Program → State → Type 0
HasCursors p s = (m : ModuleText) (c : Cursor) → IsAmong p.modules m → IsAmong (cursors m) c
    → list_any (is_entry m.name c.name) s.cursors ≡ true

pub record DefaultsAreNotReached (p : Program) : Type 0 where
  pub columns : AllByRecursion (λ e. HaveDomains e.element) p.elements
  pub parameters : (m : ModuleText) (q : Procedure) → IsAmong p.modules m → IsAmong m.items (item.Procedure q)
      → ParametersHaveDomains q
  pub values : (q : Procedure) (values : List Value) → fit (declared_parameters q) values ≡ true
      → AreStarted (declared_parameters q) values
  pub cursors : (items : List RunItem) → HasCursors p (state_after p items)
  pub shown : (user table : Name) → script_fault_of p.elements p.modules (script.Table user table) ≡ None
      → is_some (base_place p.elements (record { user = user; name = table })) ≡ true
