-- What is shown of a request for a call, and of one for a table, is so of each that a script makes.
use Rattle.sq_perform.specs.declared.action.Action.{Action}
use Rattle.sq_perform.specs.declared.action.Action.TheVariants.{Call, Show}
use Rattle.sq_perform.specs.declared.action.CallAction.{CallAction}
use Rattle.sq_perform.specs.declared.action.ShowAction.{ShowAction}

pub by_action : (P : Action → Type 0) → ((c : CallAction) → P (Call c)) → ((x : ShowAction) → P (Show x)) → (a : Action) → P a
by_action P call show (Call c) = call c
by_action P call show (Show x) = show x
