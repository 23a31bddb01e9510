-- What a refusal says of the trees of the texts.
use Rattle.std.specs.Prelude.{◌≡◌, ℕ, List, [], ◌∷◌, Err}
use Rattle.sq_tree.specs.Schema.{schema_tokens, schema_depth}
use Rattle.sq_tree.specs.Module.{module_tokens, module_depth}
use Rattle.sq_tree.specs.Script.{script_tokens, script_depth}
use Rattle.sq_meaning.specs.Report.{Bytes}
use Rattle.sq_perform.specs.Read.{module_rule, schema_rule, script_rule}
use Rattle.sq_perform.specs.Refusal.{OneRefused}
use Rattle.sq_perform.specs.declared.refusal.RunFault.{RunFault}
use Rattle.sq_perform.specs.declared.refusal.RunFault.TheVariants.{SchemaRefused, ModuleRefused, ScriptRefused, Write, NoMemory}
use Rattle.sq_run.specs.Answer.{answered}

-- The refused text is one of its kind. It is refused for its tokens or its grammar only where no tree spells it, and for its depth
-- only where each tree that spells it is deeper than MAX_DEPTH brackets; then those of its kind before it spell trees. It is
-- refused for what it means only where all of its kind spell trees.
unfoldable pub RefusedText : List Bytes → List Bytes → Bytes → RunFault → Type 0
RefusedText schemas modules script (SchemaRefused refusal) =
    OneRefused schema_rule schema_tokens schema_depth schemas refusal
RefusedText schemas modules script (ModuleRefused refusal) =
    OneRefused module_rule module_tokens module_depth modules refusal
RefusedText schemas modules script (ScriptRefused refusal) =
    OneRefused script_rule script_tokens script_depth (script ∷ []) refusal
RefusedText schemas modules script (Write bytes) = ⊥
RefusedText schemas modules script (NoMemory items) = ⊥

-- So it is of the refusal that texts come to.
unfoldable pub RefusalsTell : ℕ → List Bytes → List Bytes → Bytes → Type 0
RefusalsTell row_numbers schemas modules script =
    (fault : RunFault) → answered schemas modules script row_numbers ≡ Err fault
    → RefusedText schemas modules script fault
