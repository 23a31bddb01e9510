-- How a run stops before its end.
use Rattle.std.specs.Prelude.{◌≡◌, ◌<◌, ◌+◌, ℕ, zero, suc, Bool, true, false, List, length, take, Option}
use Rattle.sq_meaning.specs.Report.{Bytes}
use Rattle.sq_session.specs.Session.{Session}
use Rattle.sq_perform.specs.Run.{Run}
use Rattle.sq_perform.specs.Steps.{Reported, ReportedPart}
use Rattle.sq_perform.specs.declared.action.Action.{Action}
use Rattle.sq_perform.specs.declared.refusal.RunFault.{RunFault}
use Rattle.sq_perform.specs.declared.refusal.RunFault.TheVariants.{SchemaRefused, ModuleRefused, ScriptRefused, Write, NoMemory}

abbrev pub is_write : RunFault → Bool
is_write (Write bytes) = true
is_write _ = false

-- The first bytes of the report of the items so far and one more.
pub record StoppedInside (bytes : ℕ) (actions : List Action) (start : Session)
    (old new : Option Bytes) : Type 0 where
  pub items : ℕ
  pub there : items < length actions
  pub reported : ReportedPart bytes (take (items + 1) actions) start old new

-- What a session wrote of these items, from this state on, where it stopped for this fault.
abbrev pub StoppedAt : List Action → Session → Option Bytes → Option Bytes → RunFault → Type 0
StoppedAt actions start old new (SchemaRefused refusal) = ⊥
StoppedAt actions start old new (ModuleRefused refusal) = ⊥
StoppedAt actions start old new (ScriptRefused refusal) = ⊥
StoppedAt actions start old new (Write bytes) = StoppedInside bytes actions start old new
StoppedAt actions start old new (NoMemory zero) = new ≡ old
StoppedAt actions start old new (NoMemory (suc items)) =
    (suc items < length actions) × Reported (take (suc items) actions) start old new

-- What was written, from what an output had taken to what it has taken, is the report of a run of these texts.
unfoldable pub WroteAll : ℕ → List Bytes → List Bytes → Bytes → Option Bytes → Option Bytes → Type 0
WroteAll row_numbers schemas modules script old new =
    (r : Run row_numbers schemas modules script) × Reported r.actions r.start old new

-- What was written where a run stopped for this fault.
unfoldable pub Wrote : ℕ → List Bytes → List Bytes → Bytes → Option Bytes → Option Bytes → RunFault → Type 0
Wrote row_numbers schemas modules script old new (SchemaRefused refusal) = new ≡ old
Wrote row_numbers schemas modules script old new (ModuleRefused refusal) = new ≡ old
Wrote row_numbers schemas modules script old new (ScriptRefused refusal) = new ≡ old
-- the first bytes of the report
Wrote row_numbers schemas modules script old new (Write bytes) =
    (r : Run row_numbers schemas modules script) × StoppedInside bytes r.actions r.start old new
Wrote row_numbers schemas modules script old new (NoMemory zero) = new ≡ old
-- the report of the first items
Wrote row_numbers schemas modules script old new (NoMemory (suc items)) =
    (r : Run row_numbers schemas modules script) × (suc items < length r.actions)
    × Reported (take (suc items) r.actions) r.start old new
