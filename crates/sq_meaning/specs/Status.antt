-- Statuses (ISO/IEC 9075:1992, 22.1), and outcomes: a value or a status.
use Rattle.std.specs.Prelude.{ℕ, ℤ, pos, neg_ℤ, Bool, if◌then◌else◌, List, [], ◌∷◌, Option, Some, None, Result, Ok, Err, codes}
use Rattle.sq_value.specs.declared.fault.ArithmeticFault.{ArithmeticFault}
use Rattle.sq_value.specs.declared.fault.ArithmeticFault.TheVariants as arithmetic
use Rattle.sq_value.specs.declared.fault.LikeFault.{LikeFault}
use Rattle.sq_value.specs.declared.fault.LikeFault.TheVariants as like
use Rattle.sq_meaning.specs.declared.status.Status.{Status}
use Rattle.sq_meaning.specs.declared.status.Status.TheVariants.{SuccessfulCompletion, TextTruncated, NoData, CardinalityViolation, TextTooLong, NullWithoutIndicator, NumericValueOutOfRange, DivisionByZero, InvalidEscapeCharacter, InvalidEscapeSequence, IntegrityConstraintViolation, InvalidCursorState, SyntaxErrorOrAccessRuleViolation, CheckOptionViolation, NoRowNumberLeft}

-- ---- SQLSTATE and SQLCODE

-- the class and the subclass (22.1); S1L00 is an own status
abbrev pub sqlstate : Status → List ℕ
sqlstate SuccessfulCompletion = codes "00000"
sqlstate TextTruncated = codes "01004"
sqlstate NoData = codes "02000"
sqlstate CardinalityViolation = codes "21000"
sqlstate TextTooLong = codes "22001"
sqlstate NullWithoutIndicator = codes "22002"
sqlstate NumericValueOutOfRange = codes "22003"
sqlstate DivisionByZero = codes "22012"
sqlstate InvalidEscapeCharacter = codes "22019"
sqlstate InvalidEscapeSequence = codes "22025"
sqlstate IntegrityConstraintViolation = codes "23000"
sqlstate InvalidCursorState = codes "24000"
sqlstate SyntaxErrorOrAccessRuleViolation = codes "42000"
sqlstate CheckOptionViolation = codes "44000"
sqlstate NoRowNumberLeft = codes "S1L00"

-- zero on success and on a warning, 100 if there is no data (22.2); the numbers below zero are an own rule
abbrev pub sqlcode : Status → ℤ
sqlcode SuccessfulCompletion = pos 0
sqlcode TextTruncated = pos 0
sqlcode NoData = pos 100
sqlcode CardinalityViolation = neg_ℤ (pos 2100)
sqlcode TextTooLong = neg_ℤ (pos 2201)
sqlcode NullWithoutIndicator = neg_ℤ (pos 2202)
sqlcode NumericValueOutOfRange = neg_ℤ (pos 2203)
sqlcode DivisionByZero = neg_ℤ (pos 2212)
sqlcode InvalidEscapeCharacter = neg_ℤ (pos 2219)
sqlcode InvalidEscapeSequence = neg_ℤ (pos 2225)
sqlcode IntegrityConstraintViolation = neg_ℤ (pos 2300)
sqlcode InvalidCursorState = neg_ℤ (pos 2400)
sqlcode SyntaxErrorOrAccessRuleViolation = neg_ℤ (pos 4200)
sqlcode CheckOptionViolation = neg_ℤ (pos 4400)
sqlcode NoRowNumberLeft = neg_ℤ (pos 9001)

-- ---- a value or a status

-- a value, or a status with which something ends before it has one
abbrev pub Outcome : Type 0 → Type 0
Outcome A = Result A Status

-- goes on with the value, and stops at a status
abbrev pub and_then : {A B : Type 0} → Outcome A → (A → Outcome B) → Outcome B
and_then (Ok x) f = f x
and_then (Err status) f = Err status

infixl 10 ◌>>=◌
abbrev pub ◌>>=◌ : {A B : Type 0} → Outcome A → (A → Outcome B) → Outcome B
outcome >>= f = and_then outcome f

-- the outcome if a rule of the language is broken
abbrev pub not_well_formed : {A : Type 0} → Outcome A
not_well_formed = Err SyntaxErrorOrAccessRuleViolation

-- a value that exists if the rules of the language hold
abbrev pub well_formed : {A : Type 0} → Option A → Outcome A
well_formed (Some x) = Ok x
well_formed None = not_well_formed

abbrev pub well_formed_if : Bool → Outcome (Unit {0})
well_formed_if test = if test then Ok tt else not_well_formed

-- each of a list in turn: the first status met is the outcome
abbrev pub each : {A B : Type 0} → (A → Outcome B) → List A → Outcome (List B)
each f [] = Ok []
each f (x ∷ xs) = and_then (f x) (λ y. and_then (each f xs) (λ ys. Ok (y ∷ ys)))

-- the elements of a list for which the test is true; all are tested in turn
abbrev pub kept : {A : Type 0} → (A → Outcome Bool) → List A → Outcome (List A)
kept test [] = Ok []
kept test (x ∷ xs) =
    and_then (test x) (λ passes. and_then (kept test xs) (λ ys. Ok (if passes then x ∷ ys else ys)))

-- a value, or this status if there is none
abbrev pub or_status : {A : Type 0} → Status → Option A → Outcome A
or_status status (Some x) = Ok x
or_status status None = Err status

-- a value, or the status of a fault
abbrev pub with_status : {A F : Type 0} → (F → Status) → Result A F → Outcome A
with_status status (Ok x) = Ok x
with_status status (Err fault) = Err (status fault)

-- ---- the statuses of faults

abbrev pub arithmetic_status : ArithmeticFault → Status
arithmetic_status arithmetic.Range = NumericValueOutOfRange
arithmetic_status arithmetic.ZeroDivisor = DivisionByZero

abbrev pub like_status : LikeFault → Status
like_status like.EscapeLength = InvalidEscapeCharacter
like_status like.EscapeSequence = InvalidEscapeSequence
