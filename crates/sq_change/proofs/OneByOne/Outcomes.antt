-- Steps one after another: the answer of each is its outcome, or memory was refused.
use Rattle.std.proofs.Common.{◌≡◌, true, false, is_err, Result, Ok, Err, ap, sym, subst}
use Rattle.std.specs.Prelude.{IfErr, MatchResult}
use Rattle.std.specs.Result.{IsErrAnd}
use Rattle.sq_meaning.specs.Status.{Outcome, and_then}
use Rattle.sq_expression.specs.Fault.{Meets, MeetsAs}
use Rattle.sq_expression.specs.declared.fault.Fault.{Fault}
use Rattle.sq_expression.specs.declared.fault.Fault.TheVariants as fault
use Rattle.sq_expression.proofs.Expressions.{handed_on, meets_by}
use Rattle.sq_expression.proofs.Groups.{fails_then}
use Rattle.sq_expression.proofs.Views.{handed_on_as}

-- the first step has a value, and the next goes on with it
pub goes_on : {A B : Type 0} (r : Result B Fault) (o : Outcome A) (x : A) (next : A → Outcome B) → o ≡ Ok x → Meets r (next x) → Meets r (and_then o next)
goes_on r o x next has h = meets_by r (and_then o next) (next x) (ap (λ p. and_then p next) has) h

-- the first step has none, and `?` hands its fault on
pub stops : {A B : Type 0} (r : Result B Fault) (f : Fault) (o : Outcome A) (next : A → Outcome B) → IsErrAnd r (λ g. g ≡ f) → Meets {A = A} (Err f) o → Meets r (and_then o next)
stops r f o next is failed = handed_on r f (and_then o next) is (fails_then f o next failed)

pub stops_as : {A B C : Type 0} (view : C → B) (r : Result C Fault) (f : Fault) (o : Outcome A) (next : A → Outcome B) → IsErrAnd r (λ g. g ≡ f) → Meets {A = A} (Err f) o → MeetsAs view r (and_then o next)
stops_as view r f o next is failed = handed_on_as view r f (and_then o next) is (fails_then f o next failed)

-- where there is an outcome, memory alone may be refused
pub refused : {A B : Type 0} (f : Fault) (x : A) (o : Outcome B) → Meets {A = A} (Err f) (Ok x) → Meets {A = B} (Err f) o
refused fault.NoMemory x o h = tt
refused (fault.Status s) x o h = absurd cc

-- ---- where nothing but that it is so is answered

-- the step is taken, and the answer wants memory alone
pub taken_if : {A : Type 0} (r : Result A Fault) (o : Outcome (Unit {0})) → o ≡ Ok tt → IfErr r (λ f. f ≡ fault.NoMemory) → MeetsAs (λ x. tt) r o
taken_if (Ok x) o has memory = has
taken_if {A} (Err f) o has memory = subst (λ (g : Fault). MeetsAs {A = A} (λ x. tt) (Err g) o) (sym memory) tt

-- one step is taken, and `?` hands on the fault of the next
pub next_stops : {A : Type 0} (r : Result A Fault) (f : Fault) (o : Outcome (Unit {0})) (next : Outcome (Unit {0})) → IsErrAnd r (λ g. g ≡ f) → o ≡ Ok tt → Meets {A = Unit {0}} (Err f) next
    → MeetsAs (λ x. tt) r (and_then o (λ _. next))
next_stops r f o next is has failed =
    handed_on_as (λ x. tt) r f (and_then o (λ _. next)) is (goes_on (Err f) o tt (λ _. next) has failed)

-- ---- what holds where it is done, and what where it is not

pub done_so : {A : Type 0} (Done Not : Type 0) (r : Result A Fault) → is_err r ≡ false → Done → MatchResult r (λ _. Done) (λ _. Not)
done_so Done Not (Ok x) fine h = h
done_so Done Not (Err f) fine h = cc

pub not_done : {A : Type 0} (Done Not : Type 0) (r : Result A Fault) → is_err r ≡ true → Not → MatchResult r (λ _. Done) (λ _. Not)
not_done Done Not (Ok x) fails h = cc
not_done Done Not (Err f) fails h = h

-- `?` hands a fault on
pub not_done_then : {A : Type 0} (Done Not : Type 0) (r : Result A Fault) (f : Fault) → IsErrAnd r (λ g. g ≡ f) → Not → MatchResult r (λ _. Done) (λ _. Not)
not_done_then Done Not (Ok x) f is h = absurd is
not_done_then Done Not (Err g) f is h = h
