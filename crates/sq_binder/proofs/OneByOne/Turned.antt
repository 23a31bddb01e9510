-- A part with an addition made from all its findings: a further finding, or an outcome after it.
use Rattle.std.proofs.Common.{◌≡◌, add-zero, Ok, Err, refl, sym, ap, ◌∙◌}
use Rattle.std.specs.Prelude.{Result}
use Rattle.sq_binding.specs.Found.{Binding, ◌>>=◌, ◌>>◌, after, has_found, joined, outcome, pure, then_joined}
use Rattle.sq_binding.specs.Found as binding
use Rattle.sq_binding.specs.Outcome.{Outcome, and_then}
use Rattle.sq_binding.specs.QueryFindings.{QueryFindings}
use Rattle.sq_binding.proofs.Inductions.Lists.{both_turn}
use Rattle.sq_binding.proofs.Inductions.Turns.{found_last, found_too, put}
use Rattle.sq_binder.specs.Binds.{Stops}
use Rattle.sq_binder.specs.Found.{Finds, brought_of, counts_of, found_of, nothing, paired, pairs, with_brought}
use Rattle.sq_binder.specs.declared.found.Counts.{Counts}
use Rattle.sq_binder.specs.declared.found.Found.{Found}
use Rattle.sq_binder.specs.declared.stop.Stop.{Stop}
use Rattle.sq_binder.proofs.OneByOne.Behind.{alone, with_part}
use Rattle.sq_binder.proofs.OneByOne.Finds.{finds_as}
use Rattle.sq_binder.proofs.OneByOne.Steps.{stops_as, stops_here}
use Rattle.sq_binder.proofs.OneByOne.Chains.{outcome_first}

-- ---- an outcome that stands first

-- a part behind what has its outcome by itself
pub outcome_then : {A B X : Type 0} (image : X → B) (o : Outcome A) (f : A → Binding B) (before : Counts) (t : A) (r : Result (Found X) Stop) → o ≡ Ok t → Finds image (f t) before r → Finds image (outcome o >>= f) before r
outcome_then image o f before t r is found =
    finds_as image (outcome o >>= f) (f t) before r (ap (λ o. (outcome o >>= f) (counts_of before)) is ∙ outcome_first t f (counts_of before)) found

pub outcome_stops : {A B : Type 0} (o : Outcome A) (f : A → Binding B) (counts : binding.Counts) (stop : Stop) → Stops o stop → Stops ((outcome o >>= f) counts) stop
outcome_stops o f counts stop s =
    stops_here (and_then o (λ x. pure x counts)) (λ x. then_joined x (f x.part (after counts x))) stop (stops_here o (λ x. pure x counts) stop s)

-- ---- an outcome that stands last

pub outcome_last : {A B C : Type 0} (b : Binding A) (o : A → Outcome B) (make : A → B → C) (counts : binding.Counts)
    → (b >>= λ x. outcome (o x) >>= λ y. pure (make x y)) counts ≡ and_then (b counts) (λ x. and_then (o x.part) (λ y. Ok (with_part (make x.part y) x)))
outcome_last {A} {B} {C} b o make counts = by (b counts)
  where
    behind : (x : binding.Found A) (p : Outcome B) → then_joined x ((outcome p >>= λ y. pure (make x.part y)) (after counts x)) ≡ and_then p (λ y. Ok (with_part (make x.part y) x))
    behind x (Err f) = refl
    behind x (Ok y) = ap (then_joined x) (outcome_first y (λ y. pure (make x.part y)) (after counts x)) ∙ alone (make x.part y) counts x

    by : (p : Outcome (binding.Found A)) → and_then p (λ x. then_joined x ((outcome (o x.part) >>= λ y. pure (make x.part y)) (after counts x))) ≡ and_then p (λ x. and_then (o x.part) (λ y. Ok (with_part (make x.part y) x)))
    by (Err f) = refl
    by (Ok x) = behind x (o x.part)

-- ---- a finding that stands last

needed_last : {A B : Type 0} (x : binding.Found A) (more : QueryFindings) (p : B) (counts : binding.Counts) → then_joined x ((has_found more >>= λ u. pure p) (after counts x)) ≡ Ok (found_too more (put p x))
needed_last x more p counts = ap Ok (found_last x more p)

-- behind a part
pub one_needed : {A B : Type 0} (b : Binding A) (more : QueryFindings) (make : A → B) (counts : binding.Counts)
    → (b >>= λ x. has_found more >>= λ u. pure (make x)) counts ≡ and_then (b counts) (λ x. Ok (found_too more (put (make x.part) x)))
one_needed {A} {B} b more make counts = by (b counts)
  where
    by : (o : Outcome (binding.Found A)) → and_then o (λ x. then_joined x ((has_found more >>= λ u. pure (make x.part)) (after counts x))) ≡ and_then o (λ x. Ok (found_too more (put (make x.part) x)))
    by (Err f) = refl
    by (Ok x) = needed_last x more (make x.part) counts

-- behind two
pub two_needed : {A B C : Type 0} (b : Binding A) (f : A → Binding B) (more : QueryFindings) (make : A → B → C) (counts : binding.Counts)
    → (b >>= λ x. f x >>= λ y. has_found more >>= λ u. pure (make x y)) counts ≡ and_then (pairs b f counts) (λ z. Ok (found_too more (put (make z.part.0 z.part.1) z)))
two_needed {A} {B} {C} b f more make counts = by (b counts)
  where
    both_found : (x : binding.Found A) (y : binding.Found B) → joined x (found_too more (put (make x.part y.part) y)) ≡ found_too more (put (make x.part y.part) (paired x y))
    both_found x y = λ i. record {
      part = make x.part y.part;
      calls = (paired x y).calls;
      calls_can_fail = (paired x y).calls_can_fail;
      findings = sym (both_turn x.findings y.findings more) i;
      subqueries = y.subqueries;
    }

    second : (x : binding.Found A) (o : Outcome (binding.Found B))
        → then_joined x (and_then o (λ y. then_joined y ((has_found more >>= λ u. pure (make x.part y.part)) (after (after counts x) y))))
        ≡ and_then (and_then o (λ y. Ok (paired x y))) (λ z. Ok (found_too more (put (make z.part.0 z.part.1) z)))
    second x (Err f) = refl
    second x (Ok y) = ap (then_joined x) (needed_last y more (make x.part y.part) (after counts x)) ∙ ap Ok (both_found x y)

    by : (o : Outcome (binding.Found A))
        → and_then o (λ x. then_joined x ((f x.part >>= λ y. has_found more >>= λ u. pure (make x.part y)) (after counts x)))
        ≡ and_then (and_then o (λ x. and_then (f x.part (after counts x)) (λ y. Ok (paired x y)))) (λ z. Ok (found_too more (put (make z.part.0 z.part.1) z)))
    by (Err f) = refl
    by (Ok x) = second x (f x.part (after counts x))

-- ---- a part that brings nothing along

pub alone_seen : {A X : Type 0} (image : X → A) (x : A) (y : Found X) (before : Counts) → image y.part ≡ x → y.brought ≡ nothing before → Finds image (pure x) before (Ok y)
alone_seen image x y before part brought = (
  λ i. Ok (with_brought (sym part i) (sym brought i)),
  (λ i. counts_of (brought i).next) ∙ (λ i. record { functions = sym (add-zero before.functions) i; subqueries = before.subqueries })
      ∙ (λ i. after (counts_of before) (with_brought (sym part i) (sym brought i))),
)

-- ---- what a function finds that turns what another has found

module _ {A B X Y : Type 0} (image : X → A) (seen : Y → B) (whole : Binding B) (b : Binding A) (turn : binding.Found A → binding.Found B)
    (is : (counts : binding.Counts) → whole counts ≡ and_then (b counts) (λ x. Ok (turn x))) (before : Counts) where
  pub turned_found : ((x : binding.Found A) → after (counts_of before) (turn x) ≡ after (counts_of before) x) → (x : Found X) (y : Found Y) → Finds image b before (Ok x) → found_of seen y ≡ turn (found_of image x) → y.brought.next ≡ x.brought.next
      → Finds seen whole before (Ok y)
  turned_found same x y found turned next = (
    is (counts_of before) ∙ ap (λ o. and_then o (λ x. Ok (turn x))) found.0 ∙ ap Ok (sym turned),
    ap counts_of next ∙ found.1 ∙ sym (same (found_of image x)) ∙ ap (after (counts_of before)) (sym turned),
  )

  pub turned_stop : (stop : Stop) → Finds image b before (Err stop) → Stops (whole (counts_of before)) stop
  turned_stop stop s = stops_as (whole (counts_of before)) (and_then (b (counts_of before)) (λ x. Ok (turn x))) stop (is (counts_of before)) (stops_here (b (counts_of before)) (λ x. Ok (turn x)) stop s)

-- a further finding, seen
pub found_needed : {A B X Y : Type 0} (image : X → A) (seen : Y → B) (make : A → B) (more : QueryFindings) (x : Found X) (y : Found Y) → seen y.part ≡ make (image x.part) → brought_of y.brought ≡ found_too more (brought_of x.brought)
    → found_of seen y ≡ found_too more (put (make (image x.part)) (found_of image x))
found_needed image seen make more x y part brought = λ i. record {
  part = part i;
  calls = (brought i).calls;
  calls_can_fail = (brought i).calls_can_fail;
  findings = (brought i).findings;
  subqueries = (brought i).subqueries;
}
