-- Texts that are accepted: they spell trees, with at most MAX_DEPTH round brackets open at once, none of
-- which is refused, and the table machine is that of the trees.
use Rattle.std.specs.Prelude.{◌≡◌, ℕ, List, None, Ok}
use Rattle.sq_tree.specs.Schema.{schema_tokens, schema_depth}
use Rattle.sq_tree.specs.Module.{module_tokens, module_depth}
use Rattle.sq_tree.specs.Script.{script_tokens, script_depth}
use Rattle.sq_tree.specs.declared.module.ModuleText.{ModuleText}
use Rattle.sq_tree.specs.declared.schema.SchemaText.{SchemaText}
use Rattle.sq_tree.specs.declared.script.ScriptText.{ScriptText}
use Rattle.sq_meaning.specs.ModuleRefusal.{first_module_refusal}
use Rattle.sq_meaning.specs.SchemaRefusal.{elements_of, first_schema_refusal}
use Rattle.sq_meaning.specs.Script.{first_script_refusal}
use Rattle.sq_meaning.specs.Report.{Bytes}
use Rattle.sq_run.specs.Answer.{Task, answered, task_of}
use Rattle.sq_perform.specs.Texts.{AllSpell, Spells, SpellsTree}

-- the trees of accepted texts
pub record Accepted (row_numbers : ℕ) (schemas modules : List Bytes) (script : Bytes) (task : Task)
    : Type 0 where
  pub schema_trees : List SchemaText
  pub schemas_spell : AllSpell schema_tokens schema_depth schemas schema_trees
  pub schemas_accepted : first_schema_refusal schema_trees ≡ None
  pub module_trees : List ModuleText
  pub modules_spell : AllSpell module_tokens module_depth modules module_trees
  pub modules_accepted : first_module_refusal module_trees ≡ None
  pub tree : ScriptText
  pub script_spells : SpellsTree script_tokens script_depth script tree
  pub script_accepted : first_script_refusal (elements_of schema_trees) module_trees tree ≡ None
  pub task_is : task ≡ task_of schema_trees module_trees tree row_numbers

-- accepted texts spell the trees of the machine and of its items
unfoldable pub AcceptedSpellTrees : ℕ → List Bytes → List Bytes → Bytes → Type 0
AcceptedSpellTrees row_numbers schemas modules script =
    (task : Task) → answered schemas modules script row_numbers ≡ Ok task
    → Accepted row_numbers schemas modules script task

-- no text spells two trees
unfoldable pub TextsHaveOneTree : Type 0
TextsHaveOneTree =
    ((text : Bytes) (a b : SchemaText) → Spells text (schema_tokens a) → Spells text (schema_tokens b)
    → a ≡ b)
    × ((text : Bytes) (a b : ModuleText) → Spells text (module_tokens a) → Spells text (module_tokens b)
    → a ≡ b)
    × ((text : Bytes) (a b : ScriptText) → Spells text (script_tokens a) → Spells text (script_tokens b)
    → a ≡ b)
