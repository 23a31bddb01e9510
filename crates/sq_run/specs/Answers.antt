-- What a run answers and what its output takes, of what its texts come to.
use Rattle.std.specs.Prelude.{◌≡◌, ◌<◌, ℕ, zero, suc, List, length, take, Option, Result, Ok, Err}
use Rattle.std.specs.Io.KnownBytes.{Appends}
use Rattle.sq_run.specs.Answer.{Task, report_of_first, whole_report}
use Rattle.sq_perform.specs.declared.refusal.RunFault.{RunFault}
use Rattle.sq_perform.specs.declared.refusal.RunFault.TheVariants.{SchemaRefused, ModuleRefused, ScriptRefused, Write, NoMemory}

-- The refusal is the one that the texts come to, and nothing was written.
abbrev pub IsRefusal : Result Task RunFault → Option (List ℕ) → Option (List ℕ) → RunFault → Type 0
IsRefusal answer old new refusal = (answer ≡ Err refusal) × (new ≡ old)

-- A run that ends has written its whole report. A refused one has written nothing. Where the output failed it had taken the first
-- bytes of the report, which has more. Where memory ran out, the report of the first items was written, of which there are more.
unfoldable pub Answers : Result Task RunFault → Option (List ℕ) → Option (List ℕ) → Result (Unit {0}) RunFault
    → Type 0
Answers answer old new (Ok done) = (task : Task) × (answer ≡ Ok task) × Appends old new (whole_report task)
Answers answer old new (Err (SchemaRefused refusal)) = IsRefusal answer old new (SchemaRefused refusal)
Answers answer old new (Err (ModuleRefused refusal)) = IsRefusal answer old new (ModuleRefused refusal)
Answers answer old new (Err (ScriptRefused refusal)) = IsRefusal answer old new (ScriptRefused refusal)
Answers answer old new (Err (Write bytes)) =
    (task : Task) × (answer ≡ Ok task) × (bytes < length (whole_report task))
    × Appends old new (take bytes (whole_report task))
Answers answer old new (Err (NoMemory zero)) = new ≡ old
Answers answer old new (Err (NoMemory (suc count))) =
    (task : Task) × (answer ≡ Ok task) × (suc count < length task.items)
    × Appends old new (report_of_first task (suc count))
