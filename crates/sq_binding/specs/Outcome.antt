-- A part of a text is bound, or has a fault: the first one in the order in which the text is read.
use Rattle.std.specs.Prelude.{Option, Some, None, Result, Ok, Err}
use Rattle.sq_meaning.specs.declared.fault.BindingFault.{BindingFault}

abbrev pub Outcome : Type 0 → Type 0
Outcome A = Result A BindingFault

-- goes on with the part, and stops at a fault
abbrev pub and_then : {A B : Type 0} → Outcome A → (A → Outcome B) → Outcome B
and_then (Ok x) f = f x
and_then (Err fault) f = Err fault

infixl 10 ◌>>=◌
abbrev pub ◌>>=◌ : {A B : Type 0} → Outcome A → (A → Outcome B) → Outcome B
outcome >>= f = and_then outcome f

-- the value, or this fault if there is none
abbrev pub or_fault : {A : Type 0} → BindingFault → Option A → Outcome A
or_fault fault (Some x) = Ok x
or_fault fault None = Err fault
