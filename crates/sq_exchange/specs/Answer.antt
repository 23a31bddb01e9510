-- The answers of a call, as numbers and in words.
use Rattle.std.specs.Prelude.{◌≡◌, ℕ, ℤ, pos, List, codes, Result, Err, Option, Some, None, if◌then◌else◌}
use Rattle.std.specs.Ordering.{int_eq}
use Rattle.sq_exchange.specs.declared.answer.Answer.{Answer}
use Rattle.sq_exchange.specs.declared.answer.Answer.TheVariants.{Done, NotOpen, AlreadyOpen, Refused, NoMemory, Unknown, BadValue, BadArguments, OtherKind, NullPointer, NoRoom, IsNull, NoRow}

abbrev pub code : Answer → ℤ
code Done = pos 0
code NotOpen = pos 1
code AlreadyOpen = pos 2
code Refused = pos 3
code NoMemory = pos 4
code Unknown = pos 5
code BadValue = pos 6
code BadArguments = pos 7
code OtherKind = pos 8
code NullPointer = pos 9
code NoRoom = pos 10
code IsNull = pos 11
code NoRow = pos 12

-- why something that is asked for isn't given: it is not there, or memory ran out
abbrev pub IsWhy : {A : Type 0} → Result A Answer → Answer → Type 0
IsWhy asked answer = ¬ (answer ≡ NoMemory) → asked ≡ Err answer

abbrev pub meaning : Answer → List ℕ
meaning Done = codes "done"
meaning NotOpen = codes "no session is open"
meaning AlreadyOpen = codes "the session is open already"
meaning Refused = codes "a text is refused"
meaning NoMemory = codes "memory ran out"
meaning Unknown = codes "no such procedure, table or output, or nothing was called"
meaning BadValue = codes "no value, or a number of rows out of bounds"
meaning BadArguments = codes "no such procedure, or the values don't fit its parameters"
meaning OtherKind = codes "the value is of another kind"
meaning NullPointer = codes "a pointer is null"
meaning NoRoom = codes "the room is too small"
meaning IsNull = codes "the value is null"
meaning NoRow = codes "no row is left"

-- the answer with a code
abbrev pub answer_of : ℤ → Option Answer
answer_of c =
    if int_eq c (pos 0) then Some Done else
    if int_eq c (pos 1) then Some NotOpen else
    if int_eq c (pos 2) then Some AlreadyOpen else
    if int_eq c (pos 3) then Some Refused else
    if int_eq c (pos 4) then Some NoMemory else
    if int_eq c (pos 5) then Some Unknown else
    if int_eq c (pos 6) then Some BadValue else
    if int_eq c (pos 7) then Some BadArguments else
    if int_eq c (pos 8) then Some OtherKind else
    if int_eq c (pos 9) then Some NullPointer else
    if int_eq c (pos 10) then Some NoRoom else
    if int_eq c (pos 11) then Some IsNull else
    if int_eq c (pos 12) then Some NoRow else None

-- a number has a meaning, whether it is a code or not
abbrev pub text_of : Option Answer → List ℕ
text_of (Some answer) = meaning answer
text_of None = codes "no code of sqmod"

abbrev pub answer_text : ℤ → List ℕ
answer_text c = text_of (answer_of c)
