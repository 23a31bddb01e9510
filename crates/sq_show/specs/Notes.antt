-- The notes on a call.
use Rattle.std.specs.Prelude.{◌≡◌, ℕ, ◌++◌, Bool, true, false, List, [], codes, IfSome}
use Rattle.sq_meaning.specs.declared.status.Status.{Status}
use Rattle.sq_session.specs.Session.{Session}
use Rattle.sq_session.specs.Step.{is_success}
use Rattle.sq_perform.specs.Action.{call_of}
use Rattle.sq_perform.specs.declared.action.CallAction.{CallAction}
use Rattle.sq_show.specs.CallWords.{call_words}
use Rattle.sq_cause.specs.Cause.{IsCause, status_of}
use Rattle.sq_show.specs.CauseWords.{without_ends, words_of}
use Rattle.sq_cause.specs.declared.cause.Cause.{Cause}

-- A line with the words of a cause of the call, which has its status.
pub record CauseLine (c : CallAction) (s : Session) (st : Status) (line : List ℕ) : Type 0 where
  pub cause : Cause
  pub is : IsCause s c.procedure c.values cause
  pub status_is : status_of cause ≡ st
  pub words : List ℕ
  pub are : IfSome (words_of cause) (λ known. words ≡ without_ends known)
  pub ended : line ≡ words ++ codes "\n"

-- the lines of the causes of a call: one, unless it ended with 00000
abbrev pub CauseLines : Bool → CallAction → Session → Status → List ℕ → Type 0
CauseLines true c s st lines = lines ≡ []
CauseLines false c s st lines = CauseLine c s st lines

-- they are added to notes
pub record AddsCause (c : CallAction) (s : Session) (st : Status) (before after : List ℕ) : Type 0 where
  pub lines : List ℕ
  pub cause : CauseLines (is_success st) c s st lines
  pub added : after ≡ before ++ lines

-- The call as a script writes it, its cause, and behind them what it did, of which nothing is said here.
pub record Notes (c : CallAction) (s : Session) (st : Status) (notes : List ℕ) : Type 0 where
  pub causes : List ℕ
  pub rest : List ℕ
  pub cause : CauseLines (is_success st) c s st causes
  pub are : notes ≡ (call_words (call_of s.procedures c) ++ codes "\n") ++ causes ++ rest
