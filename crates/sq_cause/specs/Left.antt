-- What is left to the general cause: statuses of which no cause holds that is always found.
use Rattle.std.specs.Prelude.{◌≡◌, ⊤, ℕ, List, Option, Some, None}
use Rattle.sq_value.specs.declared.value.Value.{Value}
use Rattle.sq_meaning.specs.declared.status.Status.{Status}
use Rattle.sq_session.specs.Kind.{Kind}
use Rattle.sq_session.specs.Schemas.{Schemas}
use Rattle.sq_session.specs.Session.{Session}
use Rattle.sq_session.specs.State.{State}
use Rattle.sq_cause.specs.Cause.{IsCause, IsStatementCause, status_of}
use Rattle.sq_cause.specs.declared.cause.Cause.{Cause}
use Rattle.sq_cause.specs.declared.cause.Cause.TheVariants as cause

-- causes that are found wherever they hold
abbrev pub IsAlwaysFound : Cause → Type 0
IsAlwaysFound (cause.Fault f) = ⊤
IsAlwaysFound (cause.Cursor c) = ⊤
IsAlwaysFound _ = ⊥

-- A general cause is answered only where no cause with its status holds that is always found.
abbrev pub IsLeft : Session → ℕ → List Value → Cause → Type 0
IsLeft s procedure values (cause.General st) =
    (c : Cause) → IsAlwaysFound c → status_of c ≡ st → IsCause s procedure values c → ⊥
IsLeft s procedure values _ = ⊤

-- ---- while it is looked for

-- a cause of the status that says more than the status
abbrev pub IsSpecific : Status → Option Cause → Type 0
IsSpecific st None = ⊥
IsSpecific st (Some (cause.General general)) = ⊥
IsSpecific st (Some c) = status_of c ≡ st

-- it is found, if a cause of the call holds that is always found
abbrev pub IsFound : Session → ℕ → List Value → Status → Option Cause → Type 0
IsFound s procedure values st found =
    (c : Cause) → IsAlwaysFound c → status_of c ≡ st → IsCause s procedure values c → IsSpecific st found

-- so it is, if such a cause of the statement holds
abbrev pub IsFoundOf : Schemas → Kind → List Value → State → Status → Option Cause → Type 0
IsFoundOf s k values state st found =
    (c : Cause) → IsAlwaysFound c → status_of c ≡ st → IsStatementCause s k values state c → IsSpecific st found
