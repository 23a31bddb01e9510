-- A list with a further element that may have a fault.
use Rattle.std.specs.Prelude.{◌≡◌, List, [], ◌∷◌, ◌++◌, Result, Ok, Err}
use Rattle.sq_binding.specs.Outcome.{Outcome, ◌>>=◌}
use Rattle.sq_binder.specs.declared.stop.Stop.{Stop}
use Rattle.sq_binder.specs.declared.stop.Stop.TheVariants.{NoMemory}

-- a list grows by a further element, or that has a fault
abbrev pub Grows : {A : Type 0} → List A → Result A Stop → Result (List A) Stop → Type 0
Grows list (Ok next) (Ok all) = all ≡ list ++ next ∷ []
Grows list (Ok next) (Err stop) = stop ≡ NoMemory
Grows list (Err earlier) (Ok all) = ⊥
Grows list (Err earlier) (Err stop) = stop ≡ earlier

-- each of a list in turn
abbrev pub in_turn : {A B : Type 0} → (A → Outcome B) → List A → Outcome (List B)
in_turn f [] = Ok []
in_turn f (x ∷ xs) = f x >>= λ y. in_turn f xs >>= λ ys. Ok (y ∷ ys)
