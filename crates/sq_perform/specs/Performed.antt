-- What a session does with a script.
use Rattle.std.specs.Prelude.{◌≡◌, ◌<◌, ℕ, zero, suc, List, length, take, Option}
use Rattle.sq_meaning.specs.Report.{Bytes}
use Rattle.sq_session.specs.Session.{Session}
use Rattle.sq_perform.specs.Asked.{AreAsked}
use Rattle.sq_perform.specs.Refused.{IsRefusedScript}
use Rattle.sq_perform.specs.Refusal.{matter}
use Rattle.sq_perform.specs.Steps.{Reported}
use Rattle.sq_perform.specs.Stop.{StoppedInside}
use Rattle.sq_perform.specs.declared.action.Action.{Action}
use Rattle.sq_perform.specs.declared.refusal.RunFault.{RunFault}
use Rattle.sq_perform.specs.declared.refusal.RunFault.TheVariants.{SchemaRefused, ModuleRefused, ScriptRefused, Write, NoMemory}

-- all that the script asks for is done and reported
pub record Performed (script : Bytes) (start : Session) (old new : Option Bytes) : Type 0 where
  pub actions : List Action
  pub asked : AreAsked start script actions
  pub reported : Reported actions start old new

pub record PerformedInside (bytes : ℕ) (script : Bytes) (start : Session)
    (old new : Option Bytes) : Type 0 where
  pub actions : List Action
  pub asked : AreAsked start script actions
  pub inside : StoppedInside bytes actions start old new

pub record PerformedFirst (items : ℕ) (script : Bytes) (start : Session)
    (old new : Option Bytes) : Type 0 where
  pub actions : List Action
  pub asked : AreAsked start script actions
  pub fewer : items < length actions
  pub reported : Reported (take items actions) start old new

-- why not all of it is done, and what was written
abbrev pub IsScriptStop : Bytes → Session → Option Bytes → Option Bytes → RunFault → Type 0
IsScriptStop script start old new (SchemaRefused refusal) = ⊥
IsScriptStop script start old new (ModuleRefused refusal) = ⊥
IsScriptStop script start old new (ScriptRefused refusal) =
    (new ≡ old) × (refusal.text ≡ 0) × IsRefusedScript start script refusal (matter refusal.what)
IsScriptStop script start old new (Write bytes) = PerformedInside bytes script start old new
IsScriptStop script start old new (NoMemory zero) = new ≡ old
IsScriptStop script start old new (NoMemory (suc items)) = PerformedFirst (suc items) script start old new
