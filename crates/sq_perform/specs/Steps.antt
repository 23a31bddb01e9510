-- The report of a session: the lines of each item, one after the other.
use Rattle.std.specs.Prelude.{◌≡◌, ◌<◌, ℕ, true, List, [], ◌∷◌, ◌++◌, length, map, take, Option, Some}
use Rattle.std.specs.Io.KnownBytes.{Appends}
use Rattle.sq_store.specs.Content.{table_at}
use Rattle.sq_meaning.specs.Parameter.{Assignment, Reply as MachineReply}
use Rattle.sq_meaning.specs.Report.{Bytes, call_line, table_lines}
use Rattle.sq_catalog.specs.Catalog.{table_number}
use Rattle.sq_session.specs.Kind.{fits_at, kind_at}
use Rattle.sq_session.specs.Session.{Session, procedure_number}
use Rattle.sq_session.specs.Step.{MayCall}
use Rattle.sq_session.specs.declared.reply.Output.{Output}
use Rattle.sq_session.specs.declared.reply.Reply.{Reply}
use Rattle.sq_perform.specs.Action.{call_of, name_of, shown_name, table_of}
use Rattle.sq_perform.specs.declared.action.Action.{Action}
use Rattle.sq_perform.specs.declared.action.Action.TheVariants.{Call, Show}
use Rattle.sq_perform.specs.declared.action.CallAction.{CallAction}

-- an output and a reply as a line tells them
abbrev pub told_output : Output → Assignment
told_output o = record { name = o.name; value = o.value }

abbrev pub told : Reply → MachineReply
told r = record { status = r.status; outputs = map told_output r.outputs }

-- The procedure is the session's of its name, and takes the values; the base table is the session's of that name.
abbrev pub IsPrepared : Session → Action → Type 0
IsPrepared s (Call c) =
    (procedure_number s.procedures (name_of s.procedures c).«module» (name_of s.procedures c).name
    ≡ Some c.procedure)
    × (fits_at s.procedures c.procedure c.values ≡ true)
IsPrepared s (Show x) =
    table_number s.tables (shown_name s.tables x).user (shown_name s.tables x).name ≡ Some x.table

-- What a session may answer to a call of the procedure of that name, and the session behind it. The machine's step is to take its place.
pub record Answered (s : Session) (c : CallAction) (reply : Reply) (t : Session) : Type 0 where
  pub prepared : IsPrepared s (Call c)
  pub may : MayCall s.schemas (kind_at s.procedures c.procedure) c.values s.state
      (record { status = reply.status; outputs = reply.outputs }) t.state
  pub procedures : t.procedures ≡ s.procedures
  pub tables : t.tables ≡ s.tables
  pub schemas : t.schemas ≡ s.schemas

-- An item's lines, and the session behind it: a call is answered with the reply that its line tells, and the table of that name is shown as it is.
abbrev pub Step : Action → Session → Bytes → Session → Type 0
Step (Call c) s lines t =
    (reply : Reply) × Answered s c reply t × (lines ≡ call_line (call_of s.procedures c) (told reply))
Step (Show x) s lines t =
    IsPrepared s (Show x) × (t ≡ s) × (lines ≡ table_lines (table_of s.tables x) (table_at s.state.tables x.table))

-- all lines of these items, from one session to another
abbrev pub Steps : List Action → Session → Bytes → Session → Type 0
Steps [] s bytes t = (bytes ≡ []) × (t ≡ s)
Steps (a ∷ rest) s bytes u =
    (lines : Bytes) × (others : Bytes) × (t : Session) × Step a s lines t × Steps rest t others u
    × (bytes ≡ lines ++ others)

-- an output has taken the report of these items
pub record Reported (actions : List Action) (start : Session) (old new : Option Bytes) : Type 0 where
  pub report : Bytes
  pub last : Session
  pub steps : Steps actions start report last
  pub taken : Appends old new report

-- an output has taken this many bytes of the report of these items, which has more
pub record ReportedPart (count : ℕ) (actions : List Action) (start : Session)
    (old new : Option Bytes) : Type 0 where
  pub report : Bytes
  pub last : Session
  pub steps : Steps actions start report last
  pub fewer : count < length report
  pub taken : Appends old new (take count report)
