-- The end of a statement that has no answer (ISO/IEC 9075:1992, 22.1).
use Rattle.std.specs.Prelude.{◌≡◌, ◌≢◌, List, Result, Ok, Err, Vec, ⊤}
use Rattle.std.specs.declared.alloc.Global.{Global}
use Rattle.sq_value.specs.declared.value.Value.{Value}
use Rattle.sq_value.specs.declared.fault.ArithmeticFault.{ArithmeticFault}
use Rattle.sq_value.specs.declared.fault.ArithmeticFault.TheVariants as arithmetic
use Rattle.sq_value.specs.declared.fault.LikeFault.{LikeFault}
use Rattle.sq_value.specs.declared.fault.LikeFault.TheVariants as like
use Rattle.sq_value.specs.declared.fault.RetrieveFault.{RetrieveFault}
use Rattle.sq_value.specs.declared.fault.RetrieveFault.TheVariants as retrieve
use Rattle.sq_value.specs.declared.fault.StoreFault.{StoreFault}
use Rattle.sq_value.specs.declared.fault.StoreFault.TheVariants as store
use Rattle.sq_meaning.specs.Status.{Outcome, not_well_formed}
use Rattle.sq_meaning.specs.declared.status.Status.{Status}
use Rattle.sq_meaning.specs.declared.status.Status.TheVariants as status
use Rattle.sq_expression.specs.declared.fault.Fault.{Fault}
use Rattle.sq_expression.specs.declared.fault.Fault.TheVariants as fault
use Rattle.sq_expression.specs.declared.fault.Failure.{Failure}
use Rattle.sq_expression.specs.declared.fault.Failure.TheVariants as failure

abbrev pub status_of : Failure → Status
status_of failure.NoData = status.NoData
status_of failure.CardinalityViolation = status.CardinalityViolation
status_of failure.TextTooLong = status.TextTooLong
status_of failure.NullWithoutIndicator = status.NullWithoutIndicator
status_of failure.NumericValueOutOfRange = status.NumericValueOutOfRange
status_of failure.DivisionByZero = status.DivisionByZero
status_of failure.InvalidEscapeCharacter = status.InvalidEscapeCharacter
status_of failure.InvalidEscapeSequence = status.InvalidEscapeSequence
status_of failure.IntegrityConstraintViolation = status.IntegrityConstraintViolation
status_of failure.InvalidCursorState = status.InvalidCursorState
status_of failure.SyntaxErrorOrAccessRuleViolation = status.SyntaxErrorOrAccessRuleViolation
status_of failure.CheckOptionViolation = status.CheckOptionViolation
status_of failure.NoRowNumberLeft = status.NoRowNumberLeft

abbrev pub fault_of_arithmetic : ArithmeticFault → Fault
fault_of_arithmetic arithmetic.Range = fault.Status failure.NumericValueOutOfRange
fault_of_arithmetic arithmetic.ZeroDivisor = fault.Status failure.DivisionByZero

abbrev pub fault_of_like : LikeFault → Fault
fault_of_like like.EscapeLength = fault.Status failure.InvalidEscapeCharacter
fault_of_like like.EscapeSequence = fault.Status failure.InvalidEscapeSequence

abbrev pub fault_of_retrieving : RetrieveFault → Fault
fault_of_retrieving retrieve.Range = fault.Status failure.NumericValueOutOfRange
fault_of_retrieving retrieve.NoMemory = fault.NoMemory

abbrev pub fault_of_storing : StoreFault → Fault
fault_of_storing store.Range = fault.Status failure.NumericValueOutOfRange
fault_of_storing store.TooLong = fault.Status failure.TextTooLong
fault_of_storing store.NoMemory = fault.NoMemory

-- the answer is the outcome, or memory was refused
abbrev pub Meets : {A : Type 0} → Result A Fault → Outcome A → Type 0
Meets (Ok a) outcome = outcome ≡ Ok a
Meets (Err (fault.Status f)) outcome = outcome ≡ Err (status_of f)
Meets (Err fault.NoMemory) outcome = ⊤

-- an answer, seen by an image, is the outcome that a definition computes; a refusal of memory says nothing
abbrev pub MeetsAs : {A B : Type 0} → (A → B) → Result A Fault → Outcome B → Type 0
MeetsAs view (Ok a) outcome = outcome ≡ Ok (view a)
MeetsAs view (Err (fault.Status f)) outcome = outcome ≡ Err (status_of f)
MeetsAs view (Err fault.NoMemory) outcome = ⊤

-- an outcome that the rules of the language allow: nothing well formed ends with 42000
abbrev pub IsRight : {A : Type 0} → Outcome A → Type 0
IsRight outcome = outcome ≢ not_well_formed

-- the answer is the outcome, if that is right
abbrev pub Means : {A : Type 0} → Result A Fault → Outcome A → Type 0
Means result outcome = IsRight outcome → Meets result outcome

abbrev pub MeansAs : {A B : Type 0} → (A → B) → Result A Fault → Outcome B → Type 0
MeansAs view result outcome = IsRight outcome → MeetsAs view result outcome

-- an answer, or memory was refused
abbrev pub IsAnswered : {A : Type 0} → Result A Fault → Type 0
IsAnswered (Ok a) = ⊤
IsAnswered (Err (fault.Status f)) = ⊥
IsAnswered (Err fault.NoMemory) = ⊤

abbrev pub rows_in : Vec (List Value) Global → List (List Value)
rows_in rows = rows.items

-- rows that are the outcome
abbrev pub HasRows : Result (Vec (List Value) Global) Fault → Outcome (List (List Value)) → Type 0
HasRows = MeetsAs rows_in

abbrev pub values_in : Vec Value Global → List Value
values_in values = values.items

-- the same for rows, if the outcome is right
abbrev pub MeansRows : Result (Vec (List Value) Global) Fault → Outcome (List (List Value)) → Type 0
MeansRows = MeansAs rows_in

-- values that are the outcome
abbrev pub HasValues : Result (Vec Value Global) Fault → Outcome (List Value) → Type 0
HasValues = MeetsAs values_in
