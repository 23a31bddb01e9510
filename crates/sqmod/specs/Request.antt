-- The results of a request.
use Rattle.std.specs.Prelude.{◌≡◌, ℕ, ⊤, length, Option, Result, Ok, Err}
use Rattle.sq_perform.specs.declared.refusal.RunFault.{RunFault}
use Rattle.sq_perform.specs.declared.refusal.RunFault.TheVariants as run
use Rattle.sq_words.specs.Task.{IsAmong}
use Rattle.sq_words.specs.declared.task.Request.{Request}
use Rattle.sq_words.specs.declared.task.Source.TheVariants.{Schema, Module, Script}
use Rattle.sq_words.specs.declared.task.TextsRequest.{TextsRequest}
use Rattle.sqmod.specs.declared.fault.Fault.{Fault}
use Rattle.sqmod.specs.declared.fault.Fault.TheVariants.{Unread, Refused, Output, NoMemory}
use Rattle.sqmod.specs.declared.texts.Texts.{Texts}

-- There are as many texts as files.
pub record AreTexts (request : Request) (texts : Texts) : Type 0 where
  pub schemas : length texts.schemas.items ≡ length request.schemas.items
  pub modules : length texts.modules.items ≡ length request.modules.items

-- the program's fault for a fault of a run
abbrev pub fault_of : RunFault → Fault
fault_of (run.SchemaRefused refusal) = Refused (Schema refusal.text) refusal
fault_of (run.ModuleRefused refusal) = Refused (Module refusal.text) refusal
fault_of (run.ScriptRefused refusal) = Refused Script refusal
fault_of (run.Write bytes) = Output
fault_of (run.NoMemory items) = NoMemory items

-- How a run ends with the flush after it: a refusal, which wrote nothing, stays; otherwise the fault of the
-- flush takes precedence.
abbrev pub ended_with : Result ⊤ Fault → Result ⊤ Fault → Result ⊤ Fault
ended_with (Err (Refused source refusal)) flushed = Err (Refused source refusal)
ended_with ran (Err fault) = Err fault
ended_with ran (Ok done) = ran

-- How a trace ends with the flush after it, in the same way.
abbrev pub trace_ended_with : Result (Option ℕ) Fault → Result ⊤ Fault → Result (Option ℕ) Fault
trace_ended_with (Err (Refused source refusal)) flushed = Err (Refused source refusal)
trace_ended_with traced (Err fault) = Err fault
trace_ended_with traced (Ok done) = traced

-- If a fault names a text, it is one of this many schemas and modules, or the script.
abbrev pub NamesOneOf : ℕ → ℕ → Fault → Type 0
NamesOneOf schemas modules (Unread source) = IsAmong schemas modules source
NamesOneOf schemas modules (Refused source refusal) = IsAmong schemas modules source
NamesOneOf schemas modules Output = ⊤
NamesOneOf schemas modules (NoMemory items) = ⊤

-- If a fault names a text, its file is one of the request's.
abbrev pub NamesFile : Request → Fault → Type 0
NamesFile request fault = NamesOneOf (length request.schemas.items) (length request.modules.items) fault

abbrev pub NamesCheckedFile : TextsRequest → Fault → Type 0
NamesCheckedFile request fault =
    NamesOneOf (length request.schemas.items) (length request.modules.items) fault
