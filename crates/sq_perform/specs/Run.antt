-- What the texts of a run spell, and what a session does with them.
use Rattle.std.specs.Prelude.{◌≡◌, ℕ, List, length, map, None, Ok}
use Rattle.std.specs.List.{All}
use Rattle.sq_lex.specs.declared.name.Name.{Name}
use Rattle.sq_tree.specs.Schema.{schema_tokens, schema_depth}
use Rattle.sq_tree.specs.Module.{module_tokens, module_depth}
use Rattle.sq_tree.specs.Script.{script_tokens, script_depth}
use Rattle.sq_tree.specs.declared.module.ModuleText.{ModuleText}
use Rattle.sq_tree.specs.declared.schema.SchemaText.{SchemaText}
use Rattle.sq_tree.specs.declared.script.ScriptText.{ScriptText}
use Rattle.sq_store.specs.Content.{no_rows}
use Rattle.sq_meaning.specs.ModuleRefusal.{first_module_refusal}
use Rattle.sq_meaning.specs.Report.{Bytes}
use Rattle.sq_meaning.specs.Run.{item_of_script}
use Rattle.sq_bound.specs.Known.{KnownTables}
use Rattle.sq_binding.specs.Changeable.{UserNames}
use Rattle.sq_binding.specs.Catalog as declaring
use Rattle.sq_binding.specs.Catalog.{Catalog}
use Rattle.sq_binding.specs.Declaring.{catalog_of}
use Rattle.sq_catalog.specs.Catalog.{declared_tables}
use Rattle.sq_catalog.specs.Declares.{Declares}
use Rattle.sq_catalog.specs.UserTables.{without_conditions}
use Rattle.sq_module.specs.Program.{declared_procedures}
use Rattle.sq_session.specs.Session.{IsOfModules, Session, names_of}
use Rattle.sq_session.specs.State.{AreClosed}
use Rattle.sq_perform.specs.Action.{item_of}
use Rattle.sq_perform.specs.Items.{IsTaken}
use Rattle.sq_perform.specs.Texts.{AllSpell, SpellsTree}
use Rattle.sq_perform.specs.declared.action.Action.{Action}

-- a session with an empty table for each base table, where rows may have numbers up to this one, and with closed cursors
pub record IsStart (row_numbers : ℕ) (s : Session) : Type 0 where
  pub empty : s.state.tables ≡ no_rows (length s.tables)
  pub committed : s.state.committed ≡ no_rows (length s.tables)
  pub numbers : s.state.row_numbers ≡ row_numbers
  pub closed : AreClosed s.state.cursors

-- a session of these trees, as it is before the first call: its tables and procedures are those that they declare, in their order, its
-- base tables and views are those that are written, and the procedures are bound as they are written, where names of tables mean these.
-- The schemas declare a catalog, and where names mean to each user what it says, the procedures and cursors are what the definitions of binding
-- compute. The definitions refuse none of the modules.
pub record IsOpened (row_numbers : ℕ) (schemas : List SchemaText) (modules : List ModuleText)
    (s : Session) : Type 0 where
  pub tables : s.tables ≡ declared_tables schemas
  pub procedures : names_of s.procedures ≡ declared_procedures modules
  pub known : KnownTables
  pub declares : Declares schemas known s.schemas.bases s.schemas.views
  pub catalog : Catalog
  pub is_catalog : catalog_of schemas ≡ Ok catalog
  pub names : Name → UserNames
  pub names_are : (user : Name) → declaring.names_of catalog user ≡ without_conditions (names user)
  pub written : IsOfModules known names modules s
  pub admitted : first_module_refusal modules ≡ None
  pub start : IsStart row_numbers s

-- Trees that the texts spell, a session of them as it is before the first call, which takes each item of the script, and what it is asked for: these
-- items, each with its number or place there. Rows may have numbers up to the one that is given.
pub record Run (row_numbers : ℕ) (schemas modules : List Bytes) (script : Bytes) : Type 0 where
  pub schema_trees : List SchemaText
  pub module_trees : List ModuleText
  pub script_tree : ScriptText
  pub schemas_spell : AllSpell schema_tokens schema_depth schemas schema_trees
  pub modules_spell : AllSpell module_tokens module_depth modules module_trees
  pub script_spells : SpellsTree script_tokens script_depth script script_tree
  pub start : Session
  pub is_opened : IsOpened row_numbers schema_trees module_trees start
  pub taken : All (IsTaken start) script_tree.items
  pub actions : List Action
  pub are_items : map (item_of start.procedures start.tables) actions ≡ map item_of_script script_tree.items
