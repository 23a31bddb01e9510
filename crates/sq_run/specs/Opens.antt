-- What opening a processor answers, of what its texts come to.
use Rattle.std.specs.Prelude.{◌≡◌, Result, Ok, Err, ⊤}
use Rattle.sq_meaning.specs.Machine.{Program, first_state}
use Rattle.sq_perform.specs.declared.refusal.RunFault.{RunFault}
use Rattle.sq_perform.specs.declared.refusal.RunFault.TheVariants.{SchemaRefused, ModuleRefused, ScriptRefused, Write, NoMemory}
use Rattle.sq_run.specs.Processor.{Machine}

-- A processor that opens is the machine of its texts in its first state. One that is refused is refused as they are.
unfoldable pub Opens : Result Program RunFault → Result Machine RunFault → Type 0
Opens answer (Ok m) = (answer ≡ Ok m.program) × (m.state ≡ first_state m.program)
Opens answer (Err (SchemaRefused refusal)) = answer ≡ Err (SchemaRefused refusal)
Opens answer (Err (ModuleRefused refusal)) = answer ≡ Err (ModuleRefused refusal)
Opens answer (Err (ScriptRefused refusal)) = ⊥
Opens answer (Err (Write bytes)) = ⊥
Opens answer (Err (NoMemory items)) = items ≡ 0

-- a text is refused
abbrev pub IsOfTexts : RunFault → Type 0
IsOfTexts (SchemaRefused refusal) = ⊤
IsOfTexts (ModuleRefused refusal) = ⊤
IsOfTexts (ScriptRefused refusal) = ⊤
IsOfTexts (Write bytes) = ⊥
IsOfTexts (NoMemory items) = ⊥
