-- A host's processor, the questions to it, and its changes by a call of a handle (own rules).
use Rattle.std.specs.Prelude.{◌≡◌, ◌<◌, ◌⊎◌, ℕ, Bool, List, [], ◌∷◌, map, Option, Some, None, option_map, Result, Ok, Err, IsErr, if◌then◌else◌, ⊤}
use Rattle.sq_lex.specs.declared.name.Name.{Name}
use Rattle.sq_value.specs.declared.value.Value.{Value}
use Rattle.sq_store.specs.declared.store.TheConstants.{MOST_ROW_NUMBERS}
use Rattle.sq_store.specs.declared.table.Numbered.{Numbered}
use Rattle.sq_meaning.specs.Machine.{first_state}
use Rattle.sq_meaning.specs.Report.{Bytes}
use Rattle.sq_run.specs.declared.Reply.{Reply}
use Rattle.sq_show.specs.declared.last.LastCall.{LastCall}
use Rattle.sq_run.specs.Answer as run
use Rattle.sq_run.specs.Texts.{texts}
use Rattle.sq_run.specs.Processor.{AllHold, FailsWithoutChange, IsStep, Machine, has_fault, number_of, rows_of, takes}
use Rattle.sq_exchange.specs.Name.{name_read}
use Rattle.sq_exchange.specs.declared.answer.Answer.{Answer}
use Rattle.sq_exchange.specs.declared.answer.Answer.TheVariants.{AlreadyOpen, BadArguments, BadValue, Done, NoMemory, NoRow, NotOpen, Refused}
use Rattle.sq_host.specs.Asked.{and_then, found}
use Rattle.sq_host.specs.declared.host.Host.{Host}

-- ---- that to which a handle leads

abbrev pub machine_of : Option Host → Option Machine
machine_of None = None
machine_of (Some h) = h.processor

abbrev pub schemas_of : Option Host → List Bytes
schemas_of None = []
schemas_of (Some h) = texts h.schemas.items

abbrev pub modules_of : Option Host → List Bytes
modules_of None = []
modules_of (Some h) = texts h.modules.items

-- the call that was made last
abbrev pub made_last : Option Host → Option LastCall
made_last None = None
made_last (Some h) = h.last

-- the rows of a table that are still to come, the next one last
abbrev pub rows_kept : Option Host → List (List Value)
rows_kept None = []
rows_kept (Some h) = h.rows.items

-- the next of these rows, if one is left
abbrev pub last_of : List (List Value) → Result (List Value) Answer
last_of [] = Err NoRow
last_of (row ∷ []) = Ok row
last_of (row ∷ other ∷ rows) = last_of (other ∷ rows)

-- the row whose values are the outputs
abbrev pub row_read : Option Host → Option (List Value)
row_read None = None
row_read (Some h) = h.row

-- ---- before and after texts are opened

-- a text is taken while the texts are not open
abbrev pub unopened : Option Machine → Result ⊤ Answer
unopened None = Ok tt
unopened (Some m) = Err AlreadyOpen

abbrev pub opened : Option Machine → Result Machine Answer
opened None = Err NotOpen
opened (Some m) = Ok m

-- the processor of these texts, all of whose constraints hold
abbrev pub IsOf : ℕ → List Bytes → List Bytes → Option Machine → Type 0
IsOf row_numbers schemas modules None = ⊥
IsOf row_numbers schemas modules (Some m) =
    (run.accepted_program schemas modules row_numbers ≡ Ok m.program)
    × (m.state ≡ first_state m.program) × AllHold m

-- the texts are refused, as `run` refuses them
abbrev pub AreRefused : ℕ → List Bytes → List Bytes → Type 0
AreRefused row_numbers schemas modules = IsErr (run.accepted_program schemas modules row_numbers)

abbrev pub IsOutOfBounds : ℕ → Type 0
IsOutOfBounds row_numbers = (row_numbers ≡ 0) ⊎ (MOST_ROW_NUMBERS < row_numbers)

-- opening has one of these answers
abbrev pub MayOpen : Answer → Type 0
MayOpen Done = ⊤
MayOpen AlreadyOpen = ⊤
MayOpen BadValue = ⊤
MayOpen Refused = ⊤
MayOpen NoMemory = ⊤
MayOpen _ = ⊥

abbrev pub RefusedOrNoMemory : Answer → Type 0
RefusedOrNoMemory Refused = ⊤
RefusedOrNoMemory NoMemory = ⊤
RefusedOrNoMemory _ = ⊥

-- ---- procedures

abbrev pub number_in : Name → Machine → Name → Result ℕ Answer
number_in in_module m name = found (number_of m.program in_module name)

abbrev pub number_named : Bytes → Machine → Name → Result ℕ Answer
number_named name m in_module = and_then (number_in in_module m) (name_read name)

-- the number of the procedure whose module and name these texts spell
abbrev pub procedure_named : Bytes → Bytes → Machine → Result ℕ Answer
procedure_named in_module name m = and_then (number_named name m) (name_read in_module)

-- ---- calls

-- whether the procedure with this number exists and takes these values
abbrev pub taken : ℕ → List Value → Machine → Result ⊤ Answer
taken number values m = if takes m.program number values then Ok tt else Err BadArguments

-- the answer by the place of a value that doesn't fit: without one the values are taken
abbrev pub place_for : Option ℕ → Result ⊤ Answer
place_for None = Ok tt
place_for (Some place) = Err BadArguments

abbrev pub fault_in : ℕ → Machine → Result Bool Answer
fault_in number m = Ok (has_fault m.program number)

-- whether each call of the procedure answers 42000
abbrev pub is_faulty : ℕ → Option Machine → Result Bool Answer
is_faulty number m = and_then (fault_in number) (opened m)

-- The call of the procedure with this number is the machine's step, and the reply the machine's.
pub record IsCall (m : Machine) (number : ℕ) (values : List Value) (reply : Reply) (after : Machine)
    : Type 0 where
  pub step : IsStep m number values reply after
  pub constraints : AllHold after
  pub failures : FailsWithoutChange m reply after

-- so it is with the call that is kept
abbrev pub Called : Option Machine → ℕ → List Value → Option LastCall → Option Machine → Type 0
Called (Some m) number values (Some call) (Some after) =
    IsCall m number values call.reply after × (call.procedure ≡ number) × (call.values ≡ values)
Called _ number values _ _ = ⊥

-- ---- rows of a base table

abbrev pub values_in : List Numbered → List (List Value)
values_in rows = map (λ r. r.row) rows

abbrev pub rows_in : Name → Machine → Name → Result (List (List Value)) Answer
rows_in user m name = found (option_map values_in (rows_of m user name))

abbrev pub rows_called : Bytes → Machine → Name → Result (List (List Value)) Answer
rows_called name m user = and_then (rows_in user m) (name_read name)

-- the rows of the base table whose owner and name these texts spell, in the order of their numbers
abbrev pub rows_named : Bytes → Bytes → Machine → Result (List (List Value)) Answer
rows_named user name m = and_then (rows_called name m) (name_read user)
