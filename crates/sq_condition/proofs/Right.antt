-- Right outcomes, part by part. The parts of an outcome are evaluated in order, and 42000 of one is 42000 of the whole. So if the
-- whole is right, each part that is evaluated is.
use Rattle.std.proofs.Common.{◌≡◌, Bool, true, false, Result, ◌∙◌, ap, Ok, Err}
use Rattle.std.specs.Result.{IsErrAnd}
use Rattle.sq_value.specs.Truth.{negation}
use Rattle.sq_value.specs.declared.truth.Truth.{Truth}
use Rattle.sq_meaning.specs.Status.{Outcome, and_then}
use Rattle.sq_meaning.specs.Query.{is_true}
use Rattle.sq_expression.specs.Fault.{IsRight, Meets, Means, MeansAs}
use Rattle.sq_condition.specs.Predicate.{with_not}
use Rattle.sq_expression.specs.declared.fault.Fault.{Fault}
use Rattle.sq_expression.proofs.Expressions.{meets_by, handed_on}
use Rattle.sq_expression.proofs.Groups.{fails_then, meets_as_same}
use Rattle.sq_expression.proofs.Views.{failed_as, handed_on_as}

pub right_same : {A : Type 0} (o p : Outcome A) → o ≡ p → IsRight o → IsRight p
right_same o p same right is = right (same ∙ is)

pub right_value : {A : Type 0} (x : A) → IsRight {A = A} (Ok x)
right_value x is = absurd cc

-- what is evaluated first
pub right_first : {A B : Type 0} (o : Outcome A) (next : A → Outcome B) → IsRight (and_then o next) → IsRight o
right_first {A} o next right is = right (ap (λ (r : Outcome A). and_then r next) is)

pub right_not : (written : Bool) (o : Outcome Truth) → IsRight (with_not written o) → IsRight o
right_not true o right = right_first o (λ t. Ok (negation t)) right
right_not false o right = right

pub right_truth : (o : Outcome Truth) → IsRight (is_true o) → IsRight o
right_truth o right is = right (ap is_true is)

-- ---- what an answer means

pub means_same : {A : Type 0} (r : Result A Fault) (o p : Outcome A) → o ≡ p → Means r p → Means r o
means_same r o p same h right = meets_by r o p same (h (right_same o p same right))

pub means_as_same : {A B : Type 0} (view : A → B) (r : Result A Fault) (o p : Outcome B) → o ≡ p → MeansAs view r p → MeansAs view r o
means_as_same view r o p same h right = meets_as_same view r o p same (h (right_same o p same right))

-- a step means its outcome where its answer follows from that of its part
pub means_by : {A B : Type 0} (r : Result A Fault) (s : Result B Fault) (o : Outcome B) (step : Outcome B → Outcome A)
    → (IsRight (step o) → IsRight o) → ((o : Outcome B) → Meets s o → Meets r (step o)) → Means s o → Means r (step o)
means_by r s o step part follows h right = follows o (h (part right))

pub means_true : (r : Result Bool Fault) (s : Result Truth Fault) (o : Outcome Truth) → ((o : Outcome Truth) → Meets s o → Meets r (is_true o)) → Means s o → Means r (is_true o)
means_true r s o = means_by r s o is_true (right_truth o)

-- a fault of what is evaluated first is handed on
pub means_failed : {A B : Type 0} (r : Result B Fault) (e : Fault) (o : Outcome A) (next : A → Outcome B)
    → IsErrAnd r (λ g. g ≡ e) → Means {A = A} (Err e) o → Means r (and_then o next)
means_failed r e o next is h right = handed_on r e (and_then o next) is (fails_then e o next (h (right_first o next right)))

pub means_failed_as : {A B C D : Type 0} (view : A → B) (shown : C → D) (r : Result C Fault) (e : Fault) (o : Outcome B) (next : B → Outcome D)
    → IsErrAnd r (λ g. g ≡ e) → MeansAs {A = A} view (Err e) o → MeansAs shown r (and_then o next)
means_failed_as view shown r e o next is h right = handed_on_as shown r e (and_then o next) is (fails_then e o next (failed_as view e o (h (right_first o next right))))

pub means_then_as : {A B C : Type 0} (view : C → B) (r : Result C Fault) (o : Outcome A) (next : A → Outcome B) (x : A)
    → (IsRight (and_then o next) → o ≡ Ok x) → MeansAs view r (next x) → MeansAs view r (and_then o next)
means_then_as {A} view r o next x has h right =
    let is = ap (λ (p : Outcome A). and_then p next) (has right) in
    meets_as_same view r (and_then o next) (next x) is (h (right_same (and_then o next) (next x) is right))
