-- Answers that contracts see by what they hold.
use Rattle.std.proofs.Common.{◌≡◌, sym, subst, Result, Ok, Err}
use Rattle.std.specs.Result.{IsErrAnd}
use Rattle.sq_meaning.specs.Status.{Outcome}
use Rattle.sq_expression.specs.Fault.{Meets, MeetsAs}
use Rattle.sq_expression.specs.declared.fault.Fault.{Fault}
use Rattle.sq_expression.specs.declared.fault.Fault.TheVariants as fault

pub failed_as : {A B : Type 0} (view : A → B) (f : Fault) (o : Outcome B) → MeetsAs {A = A} {B = B} view (Err f) o → Meets {A = B} (Err f) o
failed_as view fault.NoMemory o h = tt
failed_as view (fault.Status s) o h = h

fails_as : {A B : Type 0} (view : A → B) (f : Fault) (o : Outcome B) → Meets {A = B} (Err f) o → MeetsAs {A = A} {B = B} view (Err f) o
fails_as view fault.NoMemory o h = tt
fails_as view (fault.Status s) o h = h

-- `?` hands the fault on
pub handed_on_as : {A B : Type 0} (view : A → B) (r : Result A Fault) (f : Fault) (o : Outcome B) → IsErrAnd r (λ g. g ≡ f) → Meets {A = B} (Err f) o → MeetsAs view r o
handed_on_as view (Ok v) f o is h = absurd is
handed_on_as {A} {B} view (Err g) f o is h = subst (λ (x : Fault). MeetsAs {A = A} {B = B} view (Err x) o) (sym is) (fails_as {A = A} {B = B} view f o h)

-- where there is an outcome, memory alone may be refused
pub answered_fails : {A B C : Type 0} (view : A → C) (f : Fault) (there : C) (o : Outcome B) → MeetsAs {A = A} view (Err f) (Ok there) → Meets {A = B} (Err f) o
answered_fails view fault.NoMemory there o h = tt
answered_fails view (fault.Status s) there o h = absurd cc
