-- A run over a session answers what its texts come to: what is to be done, or the first refusal.
use Rattle.std.proofs.Common.{◌≡◌, ℕ, List, slice_get, Option, Some, None, Result, Ok, Err, refl, sym, ap, subst, ◌∙◌}
use Rattle.std.specs.Option.{option_map}
use Rattle.sq_lex.specs.declared.token.Token.{Token}
use Rattle.sq_tree.specs.Schema.{schema_tokens, schema_depth}
use Rattle.sq_tree.specs.Module.{module_tokens, module_depth}
use Rattle.sq_tree.specs.Script.{script_tokens, script_depth}
use Rattle.sq_tree.specs.Starts.{script_item_start}
use Rattle.sq_tree.specs.declared.«module».ModuleText.{ModuleText}
use Rattle.sq_tree.specs.declared.schema.SchemaText.{SchemaText}
use Rattle.sq_tree.specs.declared.script.ScriptText.{ScriptText}
use Rattle.sq_meaning.specs.ModuleRefusal.{ModuleRefusal, first_module_refusal}
use Rattle.sq_meaning.specs.Schema.{Elements}
use Rattle.sq_meaning.specs.SchemaRefusal.{SchemaRefusal, elements_of, first_schema_refusal}
use Rattle.sq_meaning.specs.Script.{ScriptRefusal, first_script_refusal}
use Rattle.sq_meaning.specs.Machine.{Program}
use Rattle.sq_meaning.specs.Report.{Bytes}
use Rattle.sq_meaning.specs.Run.{program_of}
use Rattle.sq_meaning.specs.declared.refusal.ModuleFault.{ModuleFault}
use Rattle.sq_meaning.specs.declared.refusal.SchemaFault.{SchemaFault}
use Rattle.sq_meaning.specs.declared.refusal.ScriptFault.{ScriptFault}
use Rattle.sq_meaning.specs.declared.refusal.ScriptFault.TheVariants as fault
use Rattle.sq_binding.specs.Catalog.{Catalog}
use Rattle.sq_binding.specs.Declaring.{catalog_of}
use Rattle.sq_binding.proofs.Schemas.Refused.{refusal_in}
use Rattle.sq_run.specs.Answer.{Task, accepted_modules, accepted_schemas, accepted_script, accepted_unless, and_then, answered, asked_of, refused_module, accepted_program, refused_as, refused_text, refused_schema, script_fault_name, refused_script, task_of, trees_of}
use Rattle.sq_perform.specs.Read.{ReadText, module_rule, read_text, schema_rule, script_rule}
use Rattle.sq_perform.specs.Refusal.{IsOfModules, IsOfSchema, IsFirstModule, IsTokenOf, Matter, Tokens, Grammar, Depth, Meaning, OneRefused, StandsAt, matter, module_fault, refused_part, refused_start, schema_fault, script_fault}
use Rattle.sq_perform.specs.Refused as session
use Rattle.sq_perform.specs.Run.{Run}
use Rattle.sq_perform.specs.Texts.{AllSpell, SpellsTree}
use Rattle.sq_perform.specs.declared.refusal.Refusal.{Refusal}
use Rattle.sq_perform.specs.declared.refusal.RefusalName.{RefusalName}
use Rattle.sq_perform.specs.declared.refusal.RefusalName.TheVariants as what
use Rattle.sq_perform.specs.declared.refusal.RunFault.{RunFault}
use Rattle.sq_perform.specs.declared.refusal.RunFault.TheVariants.{SchemaRefused, ModuleRefused, ScriptRefused}
use Rattle.sq_run.proofs.Steps.ExactlyBound.{accepted}
use Rattle.sq_run.proofs.Texts.ReadTexts.{IsReadAt, all_read, misread, modules_exact, placed, read_as, read_there, reads, schemas_exact, scripts_exact, texts_misread, tree_read, trees_read}
use Rattle.sq_run.proofs.Schemas.SchemasRefused.{schemas_refused}
use Rattle.sq_run.proofs.Texts.Scripts.{script_accepted, script_refused}

-- ---- names of refusals

schema_named : (name : RefusalName) (f : SchemaFault) → schema_fault name ≡ Some f → what.Schema (record { fault = f }) ≡ name
schema_named (what.Lexical kind) f is = cc
schema_named what.Unexpected f is = cc
schema_named what.TooDeep f is = cc
schema_named what.EndOfText f is = cc
schema_named (what.Schema name) f is = let same : name.fault ≡ f = cc is in (λ i. what.Schema (record { fault = sym same i }))
schema_named (what.Module fault) f is = cc
schema_named what.UnknownProcedure f is = cc
schema_named what.UnknownTable f is = cc
schema_named what.BadArguments f is = cc

module_named : (name : RefusalName) (f : ModuleFault) → module_fault name ≡ Some f → what.Module f ≡ name
module_named (what.Lexical kind) f is = cc
module_named what.Unexpected f is = cc
module_named what.TooDeep f is = cc
module_named what.EndOfText f is = cc
module_named (what.Schema name) f is = cc
module_named (what.Module fault) f is = let same : fault ≡ f = cc is in ap (λ g. what.Module g) (sym same)
module_named what.UnknownProcedure f is = cc
module_named what.UnknownTable f is = cc
module_named what.BadArguments f is = cc

same_fault : (f g : ScriptFault) → Some f ≡ Some g → f ≡ g
same_fault f g e = cc

script_named : (name : RefusalName) (f : ScriptFault) → script_fault name ≡ Some f → script_fault_name f ≡ name
script_named (what.Lexical kind) f is = cc
script_named what.Unexpected f is = cc
script_named what.TooDeep f is = cc
script_named what.EndOfText f is = cc
script_named (what.Schema name) f is = cc
script_named (what.Module fault) f is = cc
script_named what.UnknownProcedure f is = subst (λ g. script_fault_name g ≡ what.UnknownProcedure) (same_fault fault.UnknownProcedure f is) refl
script_named what.UnknownTable f is = subst (λ g. script_fault_name g ≡ what.UnknownTable) (same_fault fault.UnknownTable f is) refl
script_named what.BadArguments f is = subst (λ g. script_fault_name g ≡ what.BadArguments) (same_fault fault.BadArguments f is) refl

-- ---- a refusal at a token of a text of its kind

refused_there : {T : Type 0} (texts : List (ReadText T)) (number : ℕ) (text : Bytes) (tree : T) (token_in : T → ℕ) (name : RefusalName) (token : Token) (refusal : Refusal)
    → IsReadAt texts number text tree → refusal.text ≡ number → refusal.what ≡ name → IsTokenOf text (token_in tree) token → StandsAt text token refusal
    → refused_text number token_in name (slice_get texts number) ≡ refusal
refused_there texts number text tree token_in name token refusal r number_is name_is first stands =
    let tokens : first.tokens ≡ r.read.tokens = cc (first.read, r.tokens) in
    let there : slice_get r.read.tokens (token_in r.read.tree) ≡ Some token =
    (λ i. slice_get (sym tokens i) (token_in (r.tree_is i))) ∙ first.there in
    let at : StandsAt r.read.text token refusal = subst (λ t. StandsAt t token refusal) (sym r.text_is) stands in
    ap (refused_text number token_in name) r.there
    ∙ placed number r.read.text r.read.tokens (token_in r.read.tree) token name refusal number_is name_is there at

-- ---- schemas

declared_accepted : (trees : List SchemaText) (c : Catalog) → catalog_of trees ≡ Ok c → first_schema_refusal trees ≡ None
declared_accepted trees c is = sym (schemas_refused trees) ∙ ap refusal_in is

not_declared : (trees : List SchemaText) (r : SchemaRefusal) → catalog_of trees ≡ Err r → first_schema_refusal trees ≡ Some r
not_declared trees r is = sym (schemas_refused trees) ∙ ap refusal_in is

abbrev judged_schemas : List (ReadText SchemaText) → Result (List SchemaText) Refusal
judged_schemas texts = accepted_unless (option_map (refused_schema texts) (first_schema_refusal (trees_of texts))) (trees_of texts)

schemas_judged : (schemas : List Bytes) (trees : List SchemaText) (spelled : AllSpell schema_tokens schema_depth schemas trees) (found : Option SchemaRefusal) → first_schema_refusal trees ≡ found
    → accepted_schemas schemas ≡ accepted_unless (option_map (refused_schema (reads schema_rule schema_tokens schema_depth schemas_exact schemas trees spelled)) found) trees
schemas_judged schemas trees spelled found is =
    let same = trees_read schema_rule schema_tokens schema_depth schemas_exact schemas trees spelled in
    let texts = reads schema_rule schema_tokens schema_depth schemas_exact schemas trees spelled in
    ap (λ r. and_then r judged_schemas) (all_read schema_rule schema_tokens schema_depth schemas_exact 0 schemas trees spelled)
    ∙ ap (λ ts. accepted_unless (option_map (refused_schema texts) (first_schema_refusal ts)) ts) same
    ∙ ap (λ o. accepted_unless (option_map (refused_schema texts) o) trees) is

schemas_taken : (schemas : List Bytes) (trees : List SchemaText) → AllSpell schema_tokens schema_depth schemas trees → first_schema_refusal trees ≡ None
    → accepted_schemas schemas ≡ Ok trees
schemas_taken schemas trees spelled none = schemas_judged schemas trees spelled None none

schema_found : (schemas : List Bytes) (trees : List SchemaText) (spelled : AllSpell schema_tokens schema_depth schemas trees) (found : SchemaRefusal) (refusal : Refusal)
    → IsOfSchema schemas trees found refusal → refused_schema (reads schema_rule schema_tokens schema_depth schemas_exact schemas trees spelled) found ≡ refusal
schema_found schemas trees spelled found refusal is =
    let at = is.stands in
    refused_there (reads schema_rule schema_tokens schema_depth schemas_exact schemas trees spelled) found.text at.text at.tree (λ tree. refused_part tree found.schema found.element)
    (what.Schema (record { fault = found.fault })) at.token refusal
    (read_there schema_rule schema_tokens schema_depth schemas_exact schemas trees spelled found.text at.text at.tree at.there at.tree_there)
    is.text (sym (schema_named refusal.what found.fault is.what)) at.first at.stands

schemas_refused_by : (schemas : List Bytes) (refusal : Refusal) (m : Matter) → matter refusal.what ≡ m → OneRefused schema_rule schema_tokens schema_depth schemas refusal
    → session.IsOfSchemas schemas refusal m → accepted_schemas schemas ≡ Err refusal
schemas_refused_by schemas refusal Meaning e one is =
    schemas_judged schemas is.trees is.spelled (Some is.found) (not_declared is.trees is.found is.first)
    ∙ ap Err (schema_found schemas is.trees is.spelled is.found refusal is.is)
schemas_refused_by schemas refusal Tokens e one is =
    ap (λ r. and_then r judged_schemas) (texts_misread schema_rule schema_tokens schema_depth schemas_exact schemas refusal one (λ h. cc (h, e)))
schemas_refused_by schemas refusal Grammar e one is =
    ap (λ r. and_then r judged_schemas) (texts_misread schema_rule schema_tokens schema_depth schemas_exact schemas refusal one (λ h. cc (h, e)))
schemas_refused_by schemas refusal Depth e one is =
    ap (λ r. and_then r judged_schemas) (texts_misread schema_rule schema_tokens schema_depth schemas_exact schemas refusal one (λ h. cc (h, e)))

-- ---- modules

abbrev judged_modules : List (ReadText ModuleText) → Result (List ModuleText) Refusal
judged_modules texts = accepted_unless (option_map (refused_module texts) (first_module_refusal (trees_of texts))) (trees_of texts)

modules_judged : (modules : List Bytes) (trees : List ModuleText) (spelled : AllSpell module_tokens module_depth modules trees) (found : Option ModuleRefusal) → first_module_refusal trees ≡ found
    → accepted_modules modules ≡ accepted_unless (option_map (refused_module (reads module_rule module_tokens module_depth modules_exact modules trees spelled)) found) trees
modules_judged modules trees spelled found is =
    let same = trees_read module_rule module_tokens module_depth modules_exact modules trees spelled in
    let texts = reads module_rule module_tokens module_depth modules_exact modules trees spelled in
    ap (λ r. and_then r judged_modules) (all_read module_rule module_tokens module_depth modules_exact 0 modules trees spelled)
    ∙ ap (λ ts. accepted_unless (option_map (refused_module texts) (first_module_refusal ts)) ts) same
    ∙ ap (λ o. accepted_unless (option_map (refused_module texts) o) trees) is

modules_taken : (modules : List Bytes) (trees : List ModuleText) → AllSpell module_tokens module_depth modules trees → first_module_refusal trees ≡ None
    → accepted_modules modules ≡ Ok trees
modules_taken modules trees spelled none = modules_judged modules trees spelled None none

module_found : (modules : List Bytes) (refusal : Refusal) (is : IsFirstModule modules refusal)
    → refused_module (reads module_rule module_tokens module_depth modules_exact modules is.trees is.spelled) is.found ≡ refusal
module_found modules refusal is =
    let at = is.stands in
    refused_there (reads module_rule module_tokens module_depth modules_exact modules is.trees is.spelled) is.found.text at.text at.tree (λ tree. refused_start tree is.found.item)
    (what.Module is.found.fault) at.token refusal
    (read_there module_rule module_tokens module_depth modules_exact modules is.trees is.spelled is.found.text at.text at.tree at.there at.tree_there)
    is.text (sym (module_named refusal.what is.found.fault is.what)) at.first at.stands

modules_refused_by : (modules : List Bytes) (refusal : Refusal) (m : Matter) → matter refusal.what ≡ m → OneRefused module_rule module_tokens module_depth modules refusal
    → IsOfModules modules refusal m → accepted_modules modules ≡ Err refusal
modules_refused_by modules refusal Meaning e one is =
    modules_judged modules is.trees is.spelled (Some is.found) is.first ∙ ap Err (module_found modules refusal is)
modules_refused_by modules refusal Tokens e one is =
    ap (λ r. and_then r judged_modules) (texts_misread module_rule module_tokens module_depth modules_exact modules refusal one (λ h. cc (h, e)))
modules_refused_by modules refusal Grammar e one is =
    ap (λ r. and_then r judged_modules) (texts_misread module_rule module_tokens module_depth modules_exact modules refusal one (λ h. cc (h, e)))
modules_refused_by modules refusal Depth e one is =
    ap (λ r. and_then r judged_modules) (texts_misread module_rule module_tokens module_depth modules_exact modules refusal one (λ h. cc (h, e)))

-- ---- the script

module _ (elements : Elements) (modules : List ModuleText) (script : Bytes) where
  abbrev judged_script : ReadText ScriptText → Result ScriptText Refusal
  judged_script t = accepted_unless (option_map (refused_script t) (first_script_refusal elements modules t.tree)) t.tree

  script_judged : (tree : ScriptText) (spells : SpellsTree script_tokens script_depth script tree) (found : Option ScriptRefusal) → first_script_refusal elements modules tree ≡ found
      → accepted_script elements modules script
      ≡ accepted_unless (option_map (refused_script (read_as script_rule script_tokens script_depth scripts_exact script tree spells)) found) tree
  script_judged tree spells found is =
      let t = read_as script_rule script_tokens script_depth scripts_exact script tree spells in
      ap (λ r. and_then r judged_script) (tree_read script_rule script_tokens script_depth scripts_exact 0 script tree spells)
      ∙ ap (λ o. accepted_unless (option_map (refused_script t) o) tree) is

  script_misread : (refusal : Refusal) → refusal.text ≡ 0 → read_text script_rule refusal.text script ≡ Err refusal → accepted_script elements modules script ≡ Err refusal
  script_misread refusal number is = ap (λ r. and_then r judged_script) (ap (λ n. read_text script_rule n script) (sym number) ∙ is)

  item_found : (tree : ScriptText) (spells : SpellsTree script_tokens script_depth script tree) (found : ScriptRefusal) (token : Token) (refusal : Refusal)
      → refusal.text ≡ 0 → script_fault refusal.what ≡ Some found.fault → IsTokenOf script (script_item_start tree found.item) token → StandsAt script token refusal
      → refused_script (read_as script_rule script_tokens script_depth scripts_exact script tree spells) found ≡ refusal
  item_found tree spells found token refusal number is first stands =
      let tokens : first.tokens ≡ spells.spelled.tokens = cc (first.read, spells.spelled.read) in
      placed 0 script spells.spelled.tokens (script_item_start tree found.item) token (script_fault_name found.fault) refusal number
      (sym (script_named refusal.what found.fault is)) (ap (λ ts. slice_get ts (script_item_start tree found.item)) (sym tokens) ∙ first.there) stands

-- ---- all texts

module _ (row_numbers : ℕ) (schemas modules : List Bytes) where
  abbrev modules_step : List SchemaText → Result (List ModuleText) RunFault → Result Program RunFault
  modules_step schema_trees r = and_then r (λ module_trees. Ok (program_of schema_trees module_trees row_numbers))

  abbrev schemas_step : Result (List SchemaText) RunFault → Result Program RunFault
  schemas_step r = and_then r (λ schema_trees. modules_step schema_trees (refused_as ModuleRefused (accepted_modules modules)))

  behind_schemas : (trees : List SchemaText) → AllSpell schema_tokens schema_depth schemas trees → first_schema_refusal trees ≡ None
      → accepted_program schemas modules row_numbers ≡ modules_step trees (refused_as ModuleRefused (accepted_modules modules))
  behind_schemas trees spelled none = ap (λ r. schemas_step (refused_as SchemaRefused r)) (schemas_taken schemas trees spelled none)

  pub texts_opened : (trees : List SchemaText) (module_trees : List ModuleText) → AllSpell schema_tokens schema_depth schemas trees → first_schema_refusal trees ≡ None
      → AllSpell module_tokens module_depth modules module_trees → first_module_refusal module_trees ≡ None
      → accepted_program schemas modules row_numbers ≡ Ok (program_of trees module_trees row_numbers)
  texts_opened trees module_trees spelled none modules_spelled modules_none =
      behind_schemas trees spelled none ∙ ap (λ r. modules_step trees (refused_as ModuleRefused r)) (modules_taken modules module_trees modules_spelled modules_none)

  pub schemas_not_opened : (refusal : Refusal) → OneRefused schema_rule schema_tokens schema_depth schemas refusal → session.IsOfSchemas schemas refusal (matter refusal.what)
      → accepted_program schemas modules row_numbers ≡ Err (SchemaRefused refusal)
  schemas_not_opened refusal one is =
      ap (λ r. schemas_step (refused_as SchemaRefused r)) (schemas_refused_by schemas refusal (matter refusal.what) refl one is)

  pub modules_not_opened : (refusal : Refusal) → session.AreDeclared schemas → OneRefused module_rule module_tokens module_depth modules refusal
      → IsOfModules modules refusal (matter refusal.what) → accepted_program schemas modules row_numbers ≡ Err (ModuleRefused refusal)
  modules_not_opened refusal declared one is =
      behind_schemas declared.trees declared.spelled (declared_accepted declared.trees declared.catalog declared.declared)
      ∙ ap (λ r. modules_step declared.trees (refused_as ModuleRefused r)) (modules_refused_by modules refusal (matter refusal.what) refl one is)

module _ (row_numbers : ℕ) (schemas modules : List Bytes) (script : Bytes) where
  abbrev script_step : Program → Result ScriptText RunFault → Result Task RunFault
  script_step machine r = and_then r (λ tree. Ok (asked_of machine tree))

  abbrev opened_step : Result Program RunFault → Result Task RunFault
  opened_step r = and_then r (λ machine. script_step machine (refused_as ScriptRefused (accepted_script machine.elements machine.modules script)))

  behind_modules : (trees : List SchemaText) (module_trees : List ModuleText) → AllSpell schema_tokens schema_depth schemas trees → first_schema_refusal trees ≡ None
      → AllSpell module_tokens module_depth modules module_trees → first_module_refusal module_trees ≡ None
      → answered schemas modules script row_numbers
      ≡ script_step (program_of trees module_trees row_numbers) (refused_as ScriptRefused (accepted_script (elements_of trees) module_trees script))
  behind_modules trees module_trees spelled none modules_spelled modules_none =
      ap opened_step (texts_opened row_numbers schemas modules trees module_trees spelled none modules_spelled modules_none)

  -- the task of a run over a session
  abbrev pub asked_by : Run row_numbers schemas modules script → Task
  asked_by r = task_of r.schema_trees r.module_trees r.script_tree row_numbers

  pub task_answered : (r : Run row_numbers schemas modules script) → answered schemas modules script row_numbers ≡ Ok (asked_by r)
  task_answered r =
      behind_modules r.schema_trees r.module_trees r.schemas_spell
      (accepted r.schema_trees r.module_trees r.is_opened.admitted r.is_opened.catalog r.is_opened.is_catalog) r.modules_spell r.is_opened.admitted
      ∙ ap (λ s. script_step (program_of r.schema_trees r.module_trees row_numbers) (refused_as ScriptRefused s))
      (script_judged (elements_of r.schema_trees) r.module_trees script r.script_tree r.script_spells None
      (script_accepted row_numbers r.schema_trees r.module_trees r.start r.is_opened r.script_tree r.taken))

  script_refused_by : (refusal : Refusal) (h : session.ScriptIsRefused row_numbers schemas modules script refusal) (m : Matter)
      → session.IsRefusedScript h.start script refusal m
      → accepted_script (elements_of h.opened.schema_trees) h.opened.module_trees script ≡ Err refusal
  script_refused_by refusal h Tokens is = script_misread (elements_of h.opened.schema_trees) h.opened.module_trees script refusal h.text
      (misread script_rule script_tokens script_depth scripts_exact script refusal Tokens (λ e. cc) is)
  script_refused_by refusal h Grammar is = script_misread (elements_of h.opened.schema_trees) h.opened.module_trees script refusal h.text is.0
  script_refused_by refusal h Depth is = script_misread (elements_of h.opened.schema_trees) h.opened.module_trees script refusal h.text is.0
  script_refused_by refusal h Meaning is =
      let o = h.opened in
      let first = script_refused row_numbers o.schema_trees o.module_trees h.start o.is_opened is.tree is.number is.item refusal.what is.there is.fault is.before in
      script_judged (elements_of o.schema_trees) o.module_trees script is.tree is.spells (Some (record { item = is.number; fault = first.fault })) first.first
      ∙ ap Err (item_found (elements_of o.schema_trees) o.module_trees script is.tree is.spells (record { item = is.number; fault = first.fault }) is.token refusal h.text
      first.is is.first is.stands)

  pub schemas_answered : (refusal : Refusal) → session.RefusedText row_numbers schemas modules script (SchemaRefused refusal)
      → answered schemas modules script row_numbers ≡ Err (SchemaRefused refusal)
  unfolding session.RefusedText
  schemas_answered refusal h = ap opened_step (schemas_not_opened row_numbers schemas modules refusal h.0 h.1)

  pub modules_answered : (refusal : Refusal) → session.RefusedText row_numbers schemas modules script (ModuleRefused refusal)
      → answered schemas modules script row_numbers ≡ Err (ModuleRefused refusal)
  unfolding session.RefusedText
  modules_answered refusal h = ap opened_step (modules_not_opened row_numbers schemas modules refusal h.0 h.1 h.2)

  pub script_answered : (refusal : Refusal) → session.RefusedText row_numbers schemas modules script (ScriptRefused refusal)
      → answered schemas modules script row_numbers ≡ Err (ScriptRefused refusal)
  unfolding session.RefusedText
  script_answered refusal h =
      let o = h.opened in
      behind_modules o.schema_trees o.module_trees o.schemas_spell
      (accepted o.schema_trees o.module_trees o.is_opened.admitted o.is_opened.catalog o.is_opened.is_catalog) o.modules_spell o.is_opened.admitted
      ∙ ap (λ s. script_step (program_of o.schema_trees o.module_trees row_numbers) (refused_as ScriptRefused s)) (script_refused_by refusal h (matter refusal.what) h.refused)
