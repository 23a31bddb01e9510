-- Values that come out, and texts that are handed in.
use Rattle.std.specs.Prelude.{◌≡◌, ℕ, ℤ, pos, List, Result, Ok, Err}
use Rattle.sq_value.specs.Number.{Number}
use Rattle.sq_value.specs.Spelling.{written}
use Rattle.sq_value.specs.Text as text
use Rattle.sq_value.specs.declared.value.Value.{Value}
use Rattle.sq_value.specs.declared.value.Value.TheVariants.{Null, Num, Chars}
use Rattle.sq_exchange.specs.declared.answer.Answer.{Answer}
use Rattle.sq_exchange.specs.declared.answer.Answer.TheVariants.{BadValue, IsNull, NoMemory, OtherKind}

-- the text with these codes
abbrev pub IsText : List ℕ → Value → Type 0
IsText codes v = text.IsText codes × (v ≡ Chars codes)

-- why there is none: the codes make no text, or memory ran out
abbrev pub IsNoText : List ℕ → Answer → Type 0
IsNoText codes BadValue = text.IsText codes → ⊥
IsNoText codes NoMemory = text.IsText codes
IsNoText codes _ = ⊥

abbrev pub kind_of : Value → ℤ
kind_of Null = pos 0
kind_of (Num n) = pos 1
kind_of (Chars codes) = pos 2

-- a number, or why the value is none
abbrev pub number_of : Value → Result Number Answer
number_of Null = Err IsNull
number_of (Num n) = Ok n
number_of (Chars codes) = Err OtherKind

-- the digits of a number, or why the value is none
abbrev pub digits_of : Value → Result (List ℕ) Answer
digits_of Null = Err IsNull
digits_of (Num n) = Ok (written n)
digits_of (Chars codes) = Err OtherKind

-- why there are no digits: the value is no number, or memory ran out
abbrev pub HasNoDigits : Value → Answer → Type 0
HasNoDigits Null answer = answer ≡ IsNull
HasNoDigits (Num n) answer = answer ≡ NoMemory
HasNoDigits (Chars codes) answer = answer ≡ OtherKind

-- the codes of a text, or why the value is none
abbrev pub text_of : Value → Result (List ℕ) Answer
text_of Null = Err IsNull
text_of (Num n) = Err OtherKind
text_of (Chars codes) = Ok codes
