-- What is said of the call that was made last.
use Rattle.std.specs.Prelude.{◌≡◌, ℕ, List, Option, None, Some, IfSome, is_some, not}
use Rattle.sq_session.specs.Session.{Session}
use Rattle.sq_session.specs.Step.{is_success}
use Rattle.sq_cause.specs.Cause.{IsCause, status_of}
use Rattle.sq_show.specs.Words.{IsContinued}
use Rattle.sq_cause.specs.declared.cause.Cause.{Cause}
use Rattle.sq_show.specs.declared.last.LastCall.{LastCall}

-- a cause is said on a line, and none is not
abbrev pub IsSaid : Option Cause → List ℕ → List ℕ → Type 0
IsSaid None old new = new ≡ old
IsSaid (Some c) old new = IsContinued old new

-- If the call did not end with 00000, a cause is added to what was there: it has the status of the reply, and what it says is true of the session.
pub record TellsWhy (s : Session) (call : LastCall) (old new : List ℕ) : Type 0 where
  pub found : Option Cause
  pub there : is_some found ≡ not (is_success call.reply.status)
  pub status : IfSome found (λ c. status_of c ≡ call.reply.status)
  pub is : IfSome found (IsCause s call.procedure call.values)
  pub said : IsSaid found old new
