-- Values that are lent from their places.
use Rattle.std.proofs.Common.{◌≡◌, Option, Some, None, Ok, Bor, ap, sym, ◌∙◌}
use Rattle.std.specs.Prelude.{IfSome}
use Rattle.std.specs.Option.{option_copied}
use Rattle.sq_value.specs.declared.value.Value.{Value}
use Rattle.sq_meaning.specs.Status.{Outcome, well_formed}

pub found_there : (r : Option (Bor Value)) (o : Option Value) → option_copied r ≡ o → IfSome r (λ v. well_formed o ≡ Ok v.now)
found_there None o is = tt
found_there (Some v) o is = ap well_formed (sym is)

pub found_as : (r : Option (Bor Value)) (o p : Outcome Value) → o ≡ p → IfSome r (λ v. p ≡ Ok v.now) → IfSome r (λ v. o ≡ Ok v.now)
found_as None o p same h = tt
found_as (Some v) o p same h = same ∙ h
