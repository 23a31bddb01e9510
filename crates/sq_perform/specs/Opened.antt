-- What schema and module texts open.
use Rattle.std.specs.Prelude.{◌≡◌, ℕ, List, None, Ok}
use Rattle.sq_tree.specs.Schema.{schema_tokens, schema_depth}
use Rattle.sq_tree.specs.Module.{module_tokens, module_depth}
use Rattle.sq_tree.specs.declared.module.ModuleText.{ModuleText}
use Rattle.sq_tree.specs.declared.schema.SchemaText.{SchemaText}
use Rattle.sq_meaning.specs.ModuleRefusal.{first_module_refusal}
use Rattle.sq_meaning.specs.Report.{Bytes}
use Rattle.sq_catalog.specs.Catalog.{Catalog, declared_tables, known}
use Rattle.sq_binding.specs.Declaring.{catalog_of}
use Rattle.sq_catalog.specs.Declares.{Declares}
use Rattle.sq_catalog.specs.Exact.{declared}
use Rattle.sq_catalog.specs.UserTables.{NamesStand, names_in}
use Rattle.sq_module.specs.Program.{declared_procedures}
use Rattle.sq_session.specs.Schemas.{schemas_of}
use Rattle.sq_session.specs.Session.{IsOfModules, Session, names_of}
use Rattle.sq_perform.specs.Run.{IsOpened, IsStart}
use Rattle.sq_perform.specs.Texts.{AllSpell}

-- a catalog of trees that the schemas spell
pub record Defined (schemas : List Bytes) (c : Catalog) : Type 0 where
  pub trees : List SchemaText
  pub spelled : AllSpell schema_tokens schema_depth schemas trees
  pub tables : c.tables ≡ declared_tables trees
  pub declares : Declares trees (known c) c.bases c.views
  pub is_catalog : catalog_of trees ≡ Ok (declared c)
  pub names_stand : NamesStand c

-- a session over the tables of this catalog, of trees that the modules spell
pub record Holds (row_numbers : ℕ) (c : Catalog) (modules : List Bytes) (s : Session) : Type 0 where
  pub trees : List ModuleText
  pub spelled : AllSpell module_tokens module_depth modules trees
  pub tables_are : s.tables ≡ c.tables
  pub schemas_are : s.schemas ≡ schemas_of c
  pub procedures : names_of s.procedures ≡ declared_procedures trees
  pub written : IsOfModules (known c) (names_in c) trees s
  pub admitted : first_module_refusal trees ≡ None
  pub start : IsStart row_numbers s

-- a session of trees that the texts spell
pub record Opened (row_numbers : ℕ) (schemas modules : List Bytes) (s : Session) : Type 0 where
  pub schema_trees : List SchemaText
  pub module_trees : List ModuleText
  pub schemas_spell : AllSpell schema_tokens schema_depth schemas schema_trees
  pub modules_spell : AllSpell module_tokens module_depth modules module_trees
  pub is_opened : IsOpened row_numbers schema_trees module_trees s
