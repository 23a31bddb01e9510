-- Predicates without a subquery (ISO/IEC 9075:1992, 8.2 to 8.6 and 8.12).
use Rattle.std.specs.Prelude.{Bool, if◌then◌else◌, Ok}
use Rattle.sq_value.specs.Truth.{negation}
use Rattle.sq_value.specs.declared.truth.Truth.{Truth}
use Rattle.sq_meaning.specs.Status.{Outcome, ◌>>=◌}

-- with NOT if it is written
abbrev pub with_not : Bool → Outcome Truth → Outcome Truth
with_not written outcome = if written then (outcome >>= λ t. Ok (negation t)) else outcome
