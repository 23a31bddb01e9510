-- Names that are added one by one, none of them twice.
use Rattle.std.proofs.Common.{◌≡◌, Bool, true, false, List, [], ◌∷◌, ◌++◌, Ok, Err, refl, sym, ap, ◌∙◌}
use Rattle.sq_lex.specs.declared.name.Name.{Name}
use Rattle.sq_meaning.specs.Schema.{has_name_twice, is_among}
use Rattle.sq_meaning.specs.declared.refusal.SchemaFault.TheVariants as fault
use Rattle.sq_binding.specs.ElementOutcome.{and_then, refused_if}
use Rattle.sq_catalog.specs.Exact.{name_added}
use Rattle.sq_catalog.specs.Fault.{Stops}
use Rattle.sq_catalog.specs.declared.fault.ElementFault.{ElementFault}
use Rattle.sq_catalog.specs.declared.fault.ElementFault.TheVariants.{NoMemory, Refused}

pub once_added : (seen new : List Name) (name : Name) → name_added seen name ≡ Ok new → (is_among seen name ≡ false) × (new ≡ seen ++ name ∷ [])
once_added seen new name made = by (is_among seen name) refl made
  where
    by : (b : Bool) → is_among seen name ≡ b → and_then (refused_if fault.NameTwice b) (λ _. Ok (seen ++ name ∷ [])) ≡ Ok new → (is_among seen name ≡ false) × (new ≡ seen ++ name ∷ [])
    by true is made = cc
    by false is made = let same : seen ++ name ∷ [] ≡ new = cc in (is, sym same)

pub twice_added : (seen : List Name) (name : Name) (names : List Name) (stop : ElementFault) → Stops (name_added seen name) stop → (is_among seen name ≡ true → has_name_twice names ≡ true)
    → Stops (refused_if fault.NameTwice (has_name_twice names)) stop
twice_added seen name names NoMemory stops twice = tt
twice_added seen name names (Refused x) stops twice = by (is_among seen name) refl stops
  where
    by : (b : Bool) → is_among seen name ≡ b → and_then (refused_if fault.NameTwice b) (λ _. Ok (seen ++ name ∷ [])) ≡ Err x → refused_if fault.NameTwice (has_name_twice names) ≡ Err x
    by true is stops = let same : fault.NameTwice ≡ x = cc in ap (refused_if fault.NameTwice) (twice is) ∙ ap (λ f. Err f) same
    by false is stops = cc
