-- Tests of one row: a condition that check options demand, and a CHECK (ISO/IEC 9075:1992, 11.9 and 11.19).
use Rattle.std.proofs.Common.{◌≡◌, ◌∙◌, ap, Ok, Err}
use Rattle.sq_value.specs.declared.truth.Truth.{Truth}
use Rattle.sq_meaning.specs.Query.{is_true}
use Rattle.sq_meaning.specs.Status.{Outcome, and_then}
use Rattle.sq_meaning.specs.Target.{is_or_violates}
use Rattle.sq_meaning.specs.Constraints.{satisfied}
use Rattle.sq_expression.specs.Fault.{Meets}
use Rattle.sq_expression.specs.declared.fault.Fault.{Fault}
use Rattle.sq_expression.specs.declared.fault.Fault.TheVariants as fault

-- a condition's truth, and whether it is true
pub demanded_true : (o : Outcome Truth) (t : Truth) → o ≡ Ok t → and_then (is_true (Ok t)) is_or_violates ≡ Ok tt → and_then (is_true o) is_or_violates ≡ Ok tt
demanded_true o t has holds = ap (λ (x : Outcome Truth). and_then (is_true x) is_or_violates) has ∙ holds

pub demanded_not : (o : Outcome Truth) (t : Truth) (e : Fault) → o ≡ Ok t → Meets {A = Unit {0}} (Err e) (and_then (is_true (Ok t)) is_or_violates)
    → Meets {A = Unit {0}} (Err e) (and_then (is_true o) is_or_violates)
demanded_not o t fault.NoMemory has fails = tt
demanded_not o t (fault.Status s) has fails = ap (λ (x : Outcome Truth). and_then (is_true x) is_or_violates) has ∙ fails

-- a status in place of a truth is the outcome
pub demanded_fails : (o : Outcome Truth) (e : Fault) → Meets {A = Truth} (Err e) o → Meets {A = Unit {0}} (Err e) (and_then (is_true o) is_or_violates)
demanded_fails o fault.NoMemory h = tt
demanded_fails o (fault.Status s) h = ap (λ (x : Outcome Truth). and_then (is_true x) is_or_violates) h

pub satisfied_fails : (o : Outcome Truth) (e : Fault) → Meets {A = Truth} (Err e) o → Meets {A = Unit {0}} (Err e) (satisfied o)
satisfied_fails o fault.NoMemory h = tt
satisfied_fails o (fault.Status s) h = ap satisfied h
