-- Which texts of a run are refused, and for what.
use Rattle.std.specs.Prelude.{◌≡◌, ℕ, List, slice_get, take, Ok, Err, Some, ⊤}
use Rattle.std.specs.List.{All}
use Rattle.sq_lex.specs.declared.token.Token.{Token}
use Rattle.sq_tree.specs.Schema.{schema_tokens, schema_depth}
use Rattle.sq_tree.specs.Module.{module_tokens, module_depth}
use Rattle.sq_tree.specs.Script.{script_tokens, script_depth}
use Rattle.sq_tree.specs.Starts.{script_item_start}
use Rattle.sq_tree.specs.declared.schema.SchemaText.{SchemaText}
use Rattle.sq_tree.specs.declared.script.ScriptItem.{ScriptItem}
use Rattle.sq_tree.specs.declared.script.ScriptText.{ScriptText}
use Rattle.sq_meaning.specs.SchemaRefusal.{SchemaRefusal as Found}
use Rattle.sq_meaning.specs.Report.{Bytes}
use Rattle.sq_binding.specs.Catalog.{Catalog}
use Rattle.sq_binding.specs.Declaring.{catalog_of}
use Rattle.sq_session.specs.Session.{Session}
use Rattle.sq_perform.specs.Items.{IsTaken, item_fault}
use Rattle.sq_perform.specs.Opened.{Opened}
use Rattle.sq_perform.specs.Read.{module_rule, schema_rule, script_rule}
use Rattle.sq_perform.specs.Refusal.{IsOfModules, IsOfSchema, IsRefused, IsTokenOf, Matter, Meaning, OneRefused, StandsAt, matter}
use Rattle.sq_perform.specs.Texts.{AllSpell, SpellsTree}
use Rattle.sq_perform.specs.declared.refusal.Refusal.{Refusal}
use Rattle.sq_perform.specs.declared.refusal.RunFault.{RunFault}
use Rattle.sq_perform.specs.declared.refusal.RunFault.TheVariants.{SchemaRefused, ModuleRefused, ScriptRefused, Write, NoMemory}

-- ---- schemas

-- trees that the schemas spell, which declare a catalog
pub record AreDeclared (schemas : List Bytes) : Type 0 where
  pub trees : List SchemaText
  pub spelled : AllSpell schema_tokens schema_depth schemas trees
  pub catalog : Catalog
  pub declared : catalog_of trees ≡ Ok catalog

-- Trees that the schemas spell, which declare no catalog, for this refusal.
pub record AreNotDeclared (schemas : List Bytes) (refusal : Refusal) : Type 0 where
  pub trees : List SchemaText
  pub spelled : AllSpell schema_tokens schema_depth schemas trees
  pub found : Found
  pub first : catalog_of trees ≡ Err found
  pub is : IsOfSchema schemas trees found refusal

-- what a refusal says of what the schemas mean, if it is one for that
abbrev pub IsOfSchemas : List Bytes → Refusal → Matter → Type 0
IsOfSchemas schemas refusal Meaning = AreNotDeclared schemas refusal
IsOfSchemas schemas refusal _ = ⊤

-- ---- the script

-- the script's first item that the session does not take, with its fault, at its first token
pub record IsFirstItem (start : Session) (script : Bytes) (refusal : Refusal) : Type 0 where
  pub tree : ScriptText
  pub spells : SpellsTree script_tokens script_depth script tree
  pub number : ℕ
  pub item : ScriptItem
  pub there : slice_get tree.items number ≡ Some item
  pub fault : item_fault start item ≡ Some refusal.what
  pub before : All (IsTaken start) (take number tree.items)
  pub token : Token
  pub first : IsTokenOf script (script_item_start tree number) token
  pub stands : StandsAt script token refusal

-- what a refusal says of the script: what trees it spells, or which item is refused for its fault
abbrev pub IsRefusedScript : Session → Bytes → Refusal → Matter → Type 0
IsRefusedScript start script refusal Meaning = IsFirstItem start script refusal
IsRefusedScript start script refusal m = IsRefused script_rule script_tokens script_depth script refusal m

-- the script is refused by a session that the schemas and modules open
pub record ScriptIsRefused (row_numbers : ℕ) (schemas modules : List Bytes) (script : Bytes)
    (refusal : Refusal) : Type 0 where
  pub start : Session
  pub opened : Opened row_numbers schemas modules start
  pub text : refusal.text ≡ 0
  pub refused : IsRefusedScript start script refusal (matter refusal.what)

-- ---- the texts of a run

-- A text is refused for its tokens only with the first fault of its reading. For its grammar it is refused only where no tree spells it, and for its depth
-- only where each tree that spells it is deeper than MAX_DEPTH brackets: by the name and at the token where reading it by the grammar is stuck. Those of its kind before it spell trees. For what it means a schema or a module is refused
-- only where the definitions refuse it first, for the fault that they find, at its first token, and the script only at its first item that has a fault,
-- and for that. A module is refused only where the schemas declare a catalog, and the script only where all open a session.
unfoldable pub RefusedText : ℕ → List Bytes → List Bytes → Bytes → RunFault → Type 0
RefusedText row_numbers schemas modules script (SchemaRefused refusal) =
    OneRefused schema_rule schema_tokens schema_depth schemas refusal × IsOfSchemas schemas refusal (matter refusal.what)
RefusedText row_numbers schemas modules script (ModuleRefused refusal) =
    AreDeclared schemas × OneRefused module_rule module_tokens module_depth modules refusal
    × IsOfModules modules refusal (matter refusal.what)
RefusedText row_numbers schemas modules script (ScriptRefused refusal) =
    ScriptIsRefused row_numbers schemas modules script refusal
RefusedText row_numbers schemas modules script (Write bytes) = ⊤
RefusedText row_numbers schemas modules script (NoMemory items) = ⊤
