-- The findings of a function that binds a part, and then the one after it.
use Rattle.std.proofs.Common.{◌≡◌, ◌+◌, ◌++◌, length, Ok, Err, sym, ap, subst, ◌∙◌, arith}
use Rattle.std.proofs.lemmas.List.{length-append}
use Rattle.std.specs.Prelude.{Result}
use Rattle.std.specs.Result.{IsErrAnd}
use Rattle.sq_binding.specs.Found.{Binding, after, each, joined, with_next}
use Rattle.sq_binding.specs.Found as binding
use Rattle.sq_binding.specs.Outcome.{and_then}
use Rattle.sq_binding.specs.QueryFindings.{both}
use Rattle.sq_binder.specs.Binds.{Stops}
use Rattle.sq_binder.specs.Found.{Finds, Pairs, both_of, counts_of, found_of, paired, pairs}
use Rattle.sq_binder.specs.declared.found.Counts.{Counts}
use Rattle.sq_binder.specs.declared.found.Found.{Found}
use Rattle.sq_binder.specs.declared.stop.Stop.{Stop}
use Rattle.sq_binder.specs.declared.stop.Stop.TheVariants.{Fault, NoMemory}
use Rattle.sq_binder.proofs.OneByOne.Behind.{Makes, made_of, with_part}
use Rattle.sq_binder.proofs.OneByOne.Steps.{stops_as, stops_here}

-- ---- what is made of a part

-- a stop is handed on
pub stop_found : {A B : Type 0} (image : B → A) (b : Binding A) (before : Counts) (r : Result (Found B) Stop) (stop : Stop) → IsErrAnd r (λ s. s ≡ stop) → Stops (b (counts_of before)) stop → Finds image b before r
stop_found image b before (Ok x) stop is s = absurd is
stop_found image b before (Err g) stop is s = subst (λ (g : Stop). Stops (b (counts_of before)) g) (sym is) s

module _ {A B C D : Type 0} (image : B → A) (seen : D → C) (whole : Binding C) (b : Binding A) (make : A → C) (makes : Makes whole b make) (before : Counts) where
  pub makes_stop : (stop : Stop) → Finds image b before (Err stop) → Stops (whole (counts_of before)) stop
  makes_stop NoMemory s = tt
  makes_stop (Fault f) s = makes.is (counts_of before) ∙ ap (made_of make) s

  pub makes_found : (x : Found B) (y : Found D) → Finds image b before (Ok x) → y.brought ≡ x.brought → seen y.part ≡ make (image x.part) → Finds seen whole before (Ok y)
  makes_found x y found same is = (
    makes.is (counts_of before) ∙ ap (made_of make) found.0 ∙ (λ i. Ok (with_part (sym is i) (found_of image (record { part = x.part; brought = sym same i })))),
    (λ i. counts_of (same i).next) ∙ found.1 ∙ (λ i. after (counts_of before) (found_of seen (record { part = y.part; brought = sym same i }))),
  )

-- another binding with the same outcome
pub finds_as : {A B : Type 0} (image : B → A) (b c : Binding A) (before : Counts) (r : Result (Found B) Stop) → b (counts_of before) ≡ c (counts_of before) → Finds image c before r → Finds image b before r
finds_as image b c before (Ok x) is found = (is ∙ found.0, found.1)
finds_as image b c before (Err stop) is s = stops_as (b (counts_of before)) (c (counts_of before)) stop is s

-- ---- two parts

pub behind_counts : {A B : Type 0} (c d : binding.Counts) (x : binding.Found A) (y : binding.Found B) → d ≡ after c x → after d y ≡ after c (paired x y)
behind_counts c d x y is =
    let sum : (c.functions + length x.calls) + length y.calls ≡ c.functions + length (x.calls ++ y.calls) = omega (arith, length-append x.calls y.calls) in
    ap (λ (d : binding.Counts). after d y) is ∙ (λ i. record { functions = sum i; subqueries = y.subqueries })

module _ {A B X Y : Type 0} (f : X → A) (g : Y → B) (b : Binding A) (q : A → Binding B) (before : Counts) where
  pairs_seen : (left : Found X) (right : Found Y) (both : Found (X × Y)) → Pairs left (Ok right) (Ok both) → found_of (both_of f g) both ≡ paired (found_of f left) (found_of g right)
  pairs_seen left right both is = λ i. record {
    part = both_of f g (is.0 i);
    calls = (is.1 i).calls;
    calls_can_fail = (is.1 i).calls_can_fail;
    findings = (is.1 i).findings;
    subqueries = (is.1 i).subqueries;
  }

  pub pairs_found : (left : Found X) (right : Result (Found Y) Stop) (r : Result (Found (X × Y)) Stop) → Finds f b before (Ok left) → Finds g (q (f left.part)) left.brought.next right → Pairs left right r
      → Finds (both_of f g) (pairs b q) before r
  pairs_found left (Ok right) (Ok both) l m is =
      let c = counts_of before in
      let x = found_of f left in
      let y = found_of g right in
      let seen : found_of (both_of f g) both ≡ paired x y = pairs_seen left right both is in (
        ap (λ o. and_then o (λ x. and_then (q x.part (after c x)) (λ y. Ok (paired x y)))) l.0
            ∙ ap (λ d. and_then (q x.part d) (λ y. Ok (paired x y))) (sym l.1) ∙ ap (λ o. and_then o (λ y. Ok (paired x y))) m.0 ∙ ap Ok (sym seen),
        ap counts_of is.2 ∙ m.1 ∙ behind_counts c (counts_of left.brought.next) x y l.1 ∙ ap (after c) (sym seen),
      )
  pairs_found left (Ok right) (Err stop) l m is = subst (λ (s : Stop). Stops (pairs b q (counts_of before)) s) (sym is) tt
  pairs_found left (Err earlier) (Ok both) l m is = absurd is
  pairs_found left (Err NoMemory) (Err stop) l m is = subst (λ (s : Stop). Stops (pairs b q (counts_of before)) s) (sym is) tt
  pairs_found left (Err (Fault fault)) (Err stop) l m is =
      let c = counts_of before in
      let x = found_of f left in
      subst (λ (s : Stop). Stops (pairs b q c) s) (sym is)
      (ap (λ o. and_then o (λ x. and_then (q x.part (after c x)) (λ y. Ok (paired x y)))) l.0
      ∙ ap (λ d. and_then (q x.part d) (λ y. Ok (paired x y))) (sym l.1) ∙ ap (λ o. and_then o (λ y. Ok (paired x y))) m)

  pub pairs_stop : (stop : Stop) → Finds f b before (Err stop) → Finds (both_of f g) (pairs b q) before (Err stop)
  pairs_stop stop s = stops_here (b (counts_of before)) (λ x. and_then (q x.part (after (counts_of before) x)) (λ y. Ok (paired x y))) stop s

-- ---- what is made of two parts

module _ {A B C D X Y : Type 0} (f : X → A) (g : Y → B) (seen : D → C) (whole : Binding C) (b : Binding A) (q : A → Binding B) (make : A → B → C) (makes : Makes whole (pairs b q) (λ z. make z.0 z.1)) (before : Counts)
    (left : Found X) (l : Finds f b before (Ok left)) (right : Result (Found Y) Stop) (m : Finds g (q (f left.part)) left.brought.next right) where
  pub made_found : (both : Found (X × Y)) (y : Found D) → Pairs left right (Ok both) → y.brought ≡ both.brought → seen y.part ≡ make (f both.part.0) (g both.part.1) → Finds seen whole before (Ok y)
  made_found both y is same made = makes_found (both_of f g) seen whole (pairs b q) (λ z. make z.0 z.1) makes before both y (pairs_found f g b q before left right (Ok both) l m is) same made

  pub made_stop : (r : Result (Found D) Stop) (stop : Stop) → IsErrAnd r (λ s. s ≡ stop) → Pairs left right (Err stop) → Finds seen whole before r
  made_stop r stop handed is =
      stop_found seen whole before r stop handed
      (makes_stop (both_of f g) seen whole (pairs b q) (λ z. make z.0 z.1) makes before stop (pairs_found f g b q before left right (Err stop) l m is))
