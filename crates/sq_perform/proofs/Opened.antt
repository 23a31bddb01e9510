-- What schema and module texts open, step by step.
use Rattle.std.proofs.Common.{◌≡◌, ◌∙◌, ℕ, List, Result, Ok, Err, subst, sym}
use Rattle.std.specs.Prelude.{IfOk}
use Rattle.sq_tree.specs.Schema.{schema_tokens, schema_depth}
use Rattle.sq_tree.specs.declared.schema.SchemaText.{SchemaText}
use Rattle.sq_meaning.specs.Report.{Bytes}
use Rattle.sq_catalog.specs.Catalog.{Catalog, declared_tables, known}
use Rattle.sq_binding.specs.Declaring.{catalog_of}
use Rattle.sq_catalog.specs.Declares.{Declares}
use Rattle.sq_catalog.specs.Exact.{declared}
use Rattle.sq_catalog.specs.UserTables.{NamesStand, names_in}
use Rattle.sq_session.specs.Schemas.{Schemas}
use Rattle.sq_session.specs.Session.{Session}
use Rattle.sq_perform.specs.Fault.{TextFault}
use Rattle.sq_perform.specs.Opened.{Defined, Holds, Opened}
use Rattle.sq_perform.specs.Refused.{AreDeclared}
use Rattle.sq_perform.specs.Texts.{AllSpell}

pub defined_if : (schemas : List Bytes) (trees : List SchemaText) (answer : Result Catalog TextFault) → AllSpell schema_tokens schema_depth schemas trees
    → IfOk answer (λ c. c.tables ≡ declared_tables trees) → IfOk answer (λ c. Declares trees (known c) c.bases c.views)
    → IfOk answer (λ c. catalog_of trees ≡ Ok (declared c)) → IfOk answer NamesStand → IfOk answer (Defined schemas)
defined_if schemas trees (Ok c) spelled tables declares exact agree =
    record { trees = trees; spelled = spelled; tables = tables; declares = declares; is_catalog = exact; names_stand = agree }
defined_if schemas trees (Err fault) spelled tables declares exact agree = tables

pub declared_by : (schemas : List Bytes) (trees : List SchemaText) (c : Catalog) → AllSpell schema_tokens schema_depth schemas trees → catalog_of trees ≡ Ok (declared c)
    → AreDeclared schemas
declared_by schemas trees c spelled exact = record { trees = trees; spelled = spelled; catalog = declared c; declared = exact }

pub declared_by_defined : (schemas : List Bytes) (c : Catalog) → Defined schemas c → AreDeclared schemas
declared_by_defined schemas c d = declared_by schemas d.trees c d.spelled d.is_catalog

pub opened_by : (row_numbers : ℕ) (schemas modules : List Bytes) (c : Catalog) (s : Session) → Defined schemas c → Holds row_numbers c modules s → Opened row_numbers schemas modules s
opened_by row_numbers schemas modules c s defined holds = record {
  schema_trees = defined.trees;
  module_trees = holds.trees;
  schemas_spell = defined.spelled;
  modules_spell = holds.spelled;
  is_opened = record {
    tables = holds.tables_are ∙ defined.tables;
    procedures = holds.procedures;
    known = known c;
    catalog = declared c;
    is_catalog = defined.is_catalog;
    names = names_in c;
    names_are = defined.names_stand.are_seen;
    declares = subst (λ (x : Schemas). Declares defined.trees (known c) x.bases x.views) (sym holds.schemas_are) defined.declares;
    written = holds.written;
    admitted = holds.admitted;
    start = holds.start;
  };
}
