-- A schema element, or a part of one, is accepted or refused for a fault. The fault is the first one in the order in which
-- rules are asked.
use Rattle.std.specs.Prelude.{Bool, if◌then◌else◌, List, [], ◌∷◌, Option, Some, None, Result, Ok, Err}
use Rattle.sq_meaning.specs.declared.refusal.SchemaFault.{SchemaFault}

abbrev pub Outcome : Type 0 → Type 0
Outcome A = Result A SchemaFault

-- goes on with the part, and stops at a fault
abbrev pub and_then : {A B : Type 0} → Outcome A → (A → Outcome B) → Outcome B
and_then (Ok x) f = f x
and_then (Err fault) f = Err fault

infixl 10 ◌>>=◌
abbrev pub ◌>>=◌ : {A B : Type 0} → Outcome A → (A → Outcome B) → Outcome B
outcome >>= f = and_then outcome f

infixl 10 ◌>>◌
abbrev pub ◌>>◌ : {A B : Type 0} → Outcome A → Outcome B → Outcome B
first >> second = and_then first (λ _. second)

-- the value, or this fault if there is none
abbrev pub or_fault : {A : Type 0} → SchemaFault → Option A → Outcome A
or_fault fault (Some x) = Ok x
or_fault fault None = Err fault

-- a rule that is broken, or not
abbrev pub refused_if : SchemaFault → Bool → Outcome (Unit {0})
refused_if fault broken = if broken then Err fault else Ok tt

-- each of a list in turn
abbrev pub each : {A B : Type 0} → (A → Outcome B) → List A → Outcome (List B)
each f [] = Ok []
each f (x ∷ xs) = f x >>= λ y. each f xs >>= λ ys. Ok (y ∷ ys)
