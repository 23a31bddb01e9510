-- The answers to a write that are faults.
use Rattle.std.specs.Prelude.{ℕ, Bool, true, ◌&&◌, nat_eq, nat_lt, Result, Ok, Err}

-- a fault: an error, or 0 bytes taken of at least one that was offered
abbrev pub is_fault : {E : Type 0} → Result ℕ E → ℕ → Bool
is_fault (Err e) offered = true
is_fault (Ok count) offered = nat_eq count 0 && nat_lt 0 offered
