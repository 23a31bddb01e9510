-- A session beside the machine of the same texts: texts opened it, and both made the same calls.
use Rattle.std.specs.Prelude.{◌≡◌, ℕ, true, List, [], ◌∷◌}
use Rattle.sq_value.specs.declared.value.Value.{Value}
use Rattle.sq_tree.specs.declared.module.ModuleText.{ModuleText}
use Rattle.sq_tree.specs.declared.schema.SchemaText.{SchemaText}
use Rattle.sq_meaning.specs.Machine.{first_state}
use Rattle.sq_meaning.specs.Run.{program_of}
use Rattle.sq_session.specs.Kind.{fits_at, kind_at}
use Rattle.sq_session.specs.Session.{Session}
use Rattle.sq_session.specs.Step.{MayCall}
use Rattle.sq_session.specs.declared.reply.Reply.{Reply}
use Rattle.sq_perform.specs.Run.{IsOpened}
use Rattle.sq_run.specs.Processor.{Machine, after_call}

-- what a session may answer to a call of the procedure with this number, and the session after it
pub record Called (s : Session) (number : ℕ) (values : List Value) (reply : Reply) (t : Session)
    : Type 0 where
  pub fits : fits_at s.procedures number values ≡ true
  pub may : MayCall s.schemas (kind_at s.procedures number) values s.state
      (record { status = reply.status; outputs = reply.outputs }) t.state
  pub procedures : t.procedures ≡ s.procedures
  pub tables : t.tables ≡ s.tables
  pub schemas : t.schemas ≡ s.schemas

-- a call: the number of a procedure, and the values that are handed in
abbrev pub Numbered : Type 0
Numbered = ℕ × List Value

-- these calls, the last one first, brought a session from its start to here
abbrev pub Brought : List Numbered → Session → Session → Type 0
Brought [] start s = s ≡ start
Brought (c ∷ earlier) start s =
    (t : Session) × (reply : Reply) × Brought earlier start t × Called t c.0 c.1 reply s

-- the machine after these calls, the last one first
abbrev pub after_calls : Machine → List Numbered → Machine
after_calls m [] = m
after_calls m (c ∷ earlier) = after_call (after_calls m earlier) c.0 c.1

abbrev pub first_machine : List SchemaText → List ModuleText → ℕ → Machine
first_machine schemas modules row_numbers = record {
  program = program_of schemas modules row_numbers;
  state = first_state (program_of schemas modules row_numbers);
}

pub record IsBeside (s : Session) (m : Machine) : Type 0 where
  pub row_numbers : ℕ
  pub schemas : List SchemaText
  pub modules : List ModuleText
  pub start : Session
  pub opened : IsOpened row_numbers schemas modules start
  pub calls : List Numbered
  pub brought : Brought calls start s
  pub is : m ≡ after_calls (first_machine schemas modules row_numbers) calls
