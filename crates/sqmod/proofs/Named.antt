-- A text that a run refuses is one of those that it was given.
use Rattle.std.proofs.Common.{◌≡◌, ◌<◌, ℕ, List, length, map, Option, Some, Err, slice_get, subst, Vec}
use Rattle.std.proofs.lemmas.List.{length-map}
use Rattle.std.proofs.lemmas.Option.{slice_get_within}
use Rattle.std.specs.declared.alloc.Global.{Global}
use Rattle.sq_perform.specs.Fault.{IsOpeningFault, IsScriptFault}
use Rattle.sq_perform.specs.Texts.{texts}
use Rattle.sq_perform.specs.declared.refusal.RunFault.{RunFault}
use Rattle.sq_perform.specs.declared.refusal.RunFault.TheVariants.{SchemaRefused, ModuleRefused, ScriptRefused, Write, NoMemory}
use Rattle.sq_run.specs.Answer.{answered}
use Rattle.sq_run.specs.Answers.{Answers}
use Rattle.sq_run.specs.Refused.{RefusalsTell, RefusedText}
use Rattle.sq_run.specs.Trees.{TellsOfTrees}
use Rattle.sqmod.specs.Request.{NamesOneOf, fault_of}

within : (all : List (Vec ℕ Global)) (number : ℕ) (text : List ℕ) → slice_get (texts all) number ≡ Some text → number < length all
within all number text there =
    subst (λ n. number < n) (length-map all (λ (v : Vec ℕ Global). v.items)) (slice_get_within (texts all) number text there)

pub names_one : (row_numbers : ℕ) (schemas modules : List (Vec ℕ Global)) (script : List ℕ) (old new : Option (List ℕ)) (fault : RunFault)
    → Answers (answered (texts schemas) (texts modules) script row_numbers) old new (Err fault)
    → TellsOfTrees row_numbers (texts schemas) (texts modules) script → NamesOneOf (length schemas) (length modules) (fault_of fault)
unfolding Answers RefusalsTell RefusedText
names_one row_numbers schemas modules script old new (SchemaRefused refusal) h t =
    let told = t.refused (SchemaRefused refusal) h.0 in within schemas refusal.text told.text told.there
names_one row_numbers schemas modules script old new (ModuleRefused refusal) h t =
    let told = t.refused (ModuleRefused refusal) h.0 in within modules refusal.text told.text told.there
names_one row_numbers schemas modules script old new (ScriptRefused refusal) h t = tt
names_one row_numbers schemas modules script old new (Write bytes) h t = tt
names_one row_numbers schemas modules script old new (NoMemory items) h t = tt

-- A script is the only text of its kind.
pub script_one : (start : _) (script : List ℕ) (fault : RunFault) → IsScriptFault start script fault → (schemas modules : ℕ) → NamesOneOf schemas modules (fault_of fault)
script_one start script (SchemaRefused refusal) h schemas modules = absurd h
script_one start script (ModuleRefused refusal) h schemas modules = absurd h
script_one start script (ScriptRefused refusal) h schemas modules = tt
script_one start script (Write bytes) h schemas modules = tt
script_one start script (NoMemory items) h schemas modules = tt

-- A text that a check refuses is one of those that it was given.
pub checked_one : (schemas modules : List (Vec ℕ Global)) (fault : RunFault) → IsOpeningFault (texts schemas) (texts modules) fault
    → NamesOneOf (length schemas) (length modules) (fault_of fault)
checked_one schemas modules (SchemaRefused refusal) h = within schemas refusal.text h.0.text h.0.there
checked_one schemas modules (ModuleRefused refusal) h = within modules refusal.text h.1.text h.1.there
checked_one schemas modules (ScriptRefused refusal) h = absurd h
checked_one schemas modules (Write bytes) h = absurd h
checked_one schemas modules (NoMemory items) h = tt
