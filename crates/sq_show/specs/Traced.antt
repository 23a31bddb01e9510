-- A report with notes beside it: what an action's lines are, and what those of a run are.
use Rattle.std.specs.Prelude.{◌≡◌, ℕ, Bool, true, false, List, ◌++◌, flat_map, take, Option, None, Some}
use Rattle.std.specs.Io.KnownBytes.{Appends}
use Rattle.sq_meaning.specs.Report.{Bytes, call_line}
use Rattle.sq_meaning.specs.declared.status.Status.{Status}
use Rattle.sq_meaning.specs.declared.status.Status.TheVariants.{SuccessfulCompletion, TextTruncated, NoData}
use Rattle.sq_session.specs.Session.{Session}
use Rattle.sq_session.specs.declared.reply.Reply.{Reply}
use Rattle.sq_perform.specs.Action.{call_of}
use Rattle.sq_perform.specs.Steps.{Answered, Step, Steps, told}
use Rattle.sq_perform.specs.declared.action.Action.{Action}
use Rattle.sq_perform.specs.declared.action.Action.TheVariants.{Call, Show}
use Rattle.sq_perform.specs.declared.action.CallAction.{CallAction}
use Rattle.sq_show.specs.Mark.{marked}
use Rattle.sq_show.specs.Notes.{Notes}
use Rattle.sq_show.specs.declared.trace.TraceFault.{TraceFault}
use Rattle.sq_show.specs.declared.trace.TraceFault.TheVariants.{NoMemory, Output}

-- whether a call with this status failed: it is neither done, nor done with a warning, nor without a row
abbrev pub fails : Status → Bool
fails SuccessfulCompletion = false
fails TextTruncated = false
fails NoData = false
fails _ = true

-- The lines of an action: those of the report, and notes.
pub record Part : Type 0 where
  pub lines : Bytes
  pub notes : Bytes

-- the part as it is written, each line of its notes with their mark before it
abbrev pub shown : Part → Bytes
shown p = p.lines ++ marked true p.notes

-- the part as it is left without its notes
abbrev pub left : Part → Bytes
left p = p.lines

-- What is written of a call: its line in the report, and notes, which say why it did not end with 00000; and whether it failed.
pub record ToldCall (c : CallAction) (s : Session) (lines : Bytes) (t : Session)
    (failed : Bool) : Type 0 where
  pub reply : Reply
  pub answered : Answered s c reply t
  pub notes : Bytes
  pub say : Notes c t reply.status notes
  pub written : lines ≡ call_line (call_of s.procedures c) (told reply) ++ marked true notes
  pub fails_so : failed ≡ fails reply.status

-- What is written of an action, and whether it is a call that failed. A table is shown without notes.
abbrev pub Told : Action → Session → Bytes → Session → Bool → Type 0
Told (Call c) s lines t failed = ToldCall c s lines t failed
Told (Show x) s lines t failed = Step (Show x) s lines t × (failed ≡ false)

-- An output has taken the report of these actions, with notes among its lines: the report is what is left without them.
pub record Traced (actions : List Action) (start : Session) (old new : Option Bytes) : Type 0 where
  pub parts : List Part
  pub last : Session
  pub steps : Steps actions start (flat_map left parts) last
  pub taken : Appends old new (flat_map shown parts)

-- the same, of the first actions, where the trace stopped behind some
abbrev pub TracedUpTo : Option ℕ → List Action → Session → Option Bytes → Option Bytes → Type 0
TracedUpTo None actions start old new = Traced actions start old new
TracedUpTo (Some done) actions start old new = Traced (take done actions) start old new

-- what was written before memory ran out; of an output that fails nothing is said
abbrev pub IsTraceStop : List Action → Session → Option Bytes → Option Bytes → TraceFault → Type 0
IsTraceStop actions start old new (NoMemory done) = Traced (take done actions) start old new
IsTraceStop actions start old new Output = Unit {0}
