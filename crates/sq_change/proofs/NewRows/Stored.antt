-- The stored value is the assigned one, with the statuses of its faults.
use Rattle.std.proofs.Common.{◌≡◌, Result, Ok, Err, subst}
use Rattle.sq_value.specs.Storing.{IsStored, stored}
use Rattle.sq_value.specs.declared.domain.Domain.{Domain}
use Rattle.sq_value.specs.declared.fault.StoreFault.{StoreFault}
use Rattle.sq_value.specs.declared.fault.StoreFault.TheVariants.{Range, TooLong, NoMemory}
use Rattle.sq_value.specs.declared.value.Value.{Value}
use Rattle.sq_meaning.specs.Assignment.{IsStoreOutcome, assigned}
use Rattle.sq_meaning.proofs.AssignmentLaws.{store_statuses}
use Rattle.sq_expression.specs.Fault.{Meets, fault_of_storing}

outcome : (d : Domain) (v : Value) (r : Result Value StoreFault) → stored d v ≡ r → IsStoreOutcome r (assigned d v)
outcome d v r h = let P : Result Value StoreFault → Type 0 = λ x. IsStoreOutcome x (assigned d v) in subst P h (store_statuses d v)

pub ok_meets : (d : Domain) (v w : Value) → IsStored (Ok w) (stored d v) → Meets (Ok w) (assigned d v)
ok_meets d v w h = outcome d v (Ok w) h

pub err_meets : (d : Domain) (v : Value) (f : StoreFault) → IsStored (Err f) (stored d v) → Meets {A = Value} (Err (fault_of_storing f)) (assigned d v)
err_meets d v Range h = outcome d v (Err Range) h
err_meets d v TooLong h = outcome d v (Err TooLong) h
err_meets d v NoMemory h = tt
