-- What a session does with the items that are given to it, one text after the other.
use Rattle.std.specs.Prelude.{◌≡◌, ℕ, ◌++◌, Bool, true, false, List, [], ◌∷◌}
use Rattle.sq_session.specs.Session.{Session}
use Rattle.sq_perform.specs.Asked.{AreAsked}
use Rattle.sq_perform.specs.Steps.{Steps}
use Rattle.sq_perform.specs.declared.action.Action.{Action}
use Rattle.sq_perform.specs.declared.refusal.RunFault.{RunFault}
use Rattle.sq_perform.specs.declared.refusal.RunFault.TheVariants.{ScriptRefused}

-- The report of these items is added to what was reported before, and the session is as it is after them.
pub record Adds (actions : List Action) (start : Session) (old new : List ℕ) (now : Session) : Type 0 where
  pub report : List ℕ
  pub steps : Steps actions start report now
  pub added : new ≡ old ++ report

-- The session takes each item of the text, and does what it asks for.
pub record Takes (text : List ℕ) (start : Session) (old new : List ℕ) (now : Session) : Type 0 where
  pub actions : List Action
  pub asked : AreAsked start text actions
  pub done : Adds actions start old new now

-- the text is refused
abbrev pub is_refusal : RunFault → Bool
is_refusal (ScriptRefused refusal) = true
is_refusal _ = false

-- The session takes these texts, one after the other.
abbrev pub TakesAll : List (List ℕ) → Session → List ℕ → List ℕ → Session → Type 0
TakesAll [] start old new now = (new ≡ old) × (now ≡ start)
TakesAll (text ∷ others) start old new now =
    (mid : List ℕ) × (next : Session) × Takes text start old mid next × TakesAll others next mid new now
