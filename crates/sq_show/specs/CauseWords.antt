-- The words of causes that say more than names, numbers and values.
use Rattle.std.specs.Prelude.{ℕ, ◌==◌, if◌then◌else◌, ◌++◌, List, [], ◌∷◌, codes, flat_map, Option, Some, None}
use Rattle.sq_meaning.specs.declared.status.Status.{Status}
use Rattle.sq_meaning.specs.declared.status.Status.TheVariants as status
use Rattle.sq_cause.specs.declared.cause.Cause.{Cause}
use Rattle.sq_cause.specs.declared.cause.Cause.TheVariants as cause
use Rattle.sq_cause.specs.declared.cause.NoRowCause.TheVariants as none
use Rattle.sq_cause.specs.declared.cause.SelectCause.TheVariants as select
use Rattle.sq_cause.specs.declared.cause.TargetCause.{TargetCause}
use Rattle.sq_cause.specs.declared.cause.TargetFault.{TargetFault}
use Rattle.sq_cause.specs.declared.cause.TargetFault.TheVariants as fault

-- what a status means
abbrev pub meaning : Status → List ℕ
meaning status.SuccessfulCompletion = codes "done"
meaning status.TextTruncated = codes "a text was cut to the length of its parameter"
meaning status.NoData = codes "no row"
meaning status.CardinalityViolation = codes "more than one row"
meaning status.TextTooLong = codes "a text is too long for its column"
meaning status.NullWithoutIndicator = codes "null for a parameter without an indicator"
meaning status.NumericValueOutOfRange = codes "a number is out of range"
meaning status.DivisionByZero = codes "a division by zero"
meaning status.InvalidEscapeCharacter = codes "the escape character of a LIKE is not one character"
meaning status.InvalidEscapeSequence = codes "the escape character of a LIKE escapes nothing"
meaning status.IntegrityConstraintViolation = codes "a constraint would not hold"
meaning status.InvalidCursorState = codes "the cursor is not in the state that the statement wants"
meaning status.SyntaxErrorOrAccessRuleViolation = codes "the statement has a fault"
meaning status.CheckOptionViolation = codes "a row would not be one of its view"
meaning status.NoRowNumberLeft = codes "no row number is left in the table"

-- of a target: the name of its parameter, and why; the length of a text that is cut is not said here
abbrev pub fault_words : TargetFault → Option (List ℕ)
fault_words fault.NullWithoutIndicator = Some (codes ": null, and it has no indicator")
fault_words fault.OutOfRange = Some (codes ": the number is out of its range")
fault_words (fault.Cut length) = None

abbrev pub behind_name : TargetCause → Option (List ℕ) → Option (List ℕ)
behind_name t None = None
behind_name t (Some words) = Some (codes "parameter " ++ t.parameter ++ words)

abbrev pub target_words : TargetCause → Option (List ℕ)
target_words t = behind_name t (fault_words t.fault)

-- the words of a cause, if it is one of these
abbrev pub words_of : Cause → Option (List ℕ)
words_of (cause.General st) = Some (meaning st)
words_of (cause.Target t) = target_words t
words_of (cause.Select (select.Target t)) = target_words t
words_of (cause.Select select.NoRow) = Some (codes "the query has no row")
words_of (cause.Select select.SeveralRows) = Some (codes "the query has more than one row")
words_of (cause.NoRow none.Given) = Some (codes "the query has no row")
words_of _ = None

-- ---- a line

-- characters without line ends
abbrev pub unless_end : ℕ → List ℕ
unless_end c = if c == 10 then [] else c ∷ []

abbrev pub without_ends : List ℕ → List ℕ
without_ends words = flat_map unless_end words
