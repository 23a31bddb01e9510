-- A property of parts that are bound in turn, if it holds for the result of each of them.
use Rattle.std.proofs.Common.{◌≡◌, ℕ, Bool, true, false, List, [], ◌∷◌, max, Ok, Err, arith, refl, sym, subst, ◌∙◌, suc, length, ap}
use Rattle.std.proofs.lemmas.List.{append-nil}
use Rattle.std.specs.Prelude.{⊤, nat_lt, if◌then◌else◌}
use Rattle.sq_value.proofs.Truths.{or_false}
use Rattle.sq_meaning.specs.declared.fault.BindingFault.{BindingFault}
use Rattle.sq_meaning.specs.declared.fault.BindingFault.TheVariants as fault
use Rattle.sq_binding.specs.Findings.{Findings}
use Rattle.sq_binding.specs.Findings as findings
use Rattle.sq_binding.specs.Found.{Binding, Counts, Found, ◌>>=◌, ◌>>◌, after, at_most, each, has_found, joined, must, outcome, pure, refused, then_joined}
use Rattle.sq_binding.specs.Outcome.{Outcome, and_then}
use Rattle.sq_binding.specs.QueryFindings.{QueryFindings, both, nothing}
use Rattle.sq_binding.proofs.Inductions.Lists.{both_alone}
use Rattle.sq_binding.proofs.Inductions.Parts.{IfFound}

-- ---- what is found

-- another part, with what was found with it
abbrev pub put : {A B : Type 0} → B → Found A → Found B
put y x = record { part = y; calls = x.calls; calls_can_fail = x.calls_can_fail; findings = x.findings; subqueries = x.subqueries }

-- with more that is found
abbrev pub found_too : {A : Type 0} → QueryFindings → Found A → Found A
found_too more x = record { part = x.part; calls = x.calls; calls_can_fail = x.calls_can_fail; findings = both x.findings more; subqueries = x.subqueries }

-- a part alone, without set functions and subqueries
abbrev pub only : {A : Type 0} → ℕ → QueryFindings → A → Found A
only next found x = record { part = x; calls = []; calls_can_fail = false; findings = found; subqueries = next }

max_first : (n : ℕ) → max 0 n ≡ n
max_first n = omega arith

values_first : (a : Findings) → findings.both findings.none a ≡ a
values_first a = λ i. record {
  items = max_first a.items i;
  outer_items = max_first a.outer_items i;
  reach = max_first a.reach i;
  reads_outermost = a.reads_outermost;
  can_fail = a.can_fail;
  has_ungrouped = a.has_ungrouped;
  has_user = a.has_user;
}

pub both_first : (a : QueryFindings) → both nothing a ≡ a
both_first a = λ i. record { values = values_first a.values i; has_subquery = a.has_subquery; lacks_privilege = a.lacks_privilege; lacks_grant_option = a.lacks_grant_option }

-- a part is made of one, and nothing is added
pub put_last : {A B : Type 0} (x : Found A) (y : B) → joined x (only x.subqueries nothing y) ≡ put y x
put_last x y = λ i. record { part = y; calls = append-nil x.calls i; calls_can_fail = or_false x.calls_can_fail i; findings = both_alone x.findings i; subqueries = x.subqueries }

pub found_last : {A B : Type 0} (x : Found A) (more : QueryFindings) (y : B) → joined x (only x.subqueries (both more nothing) y) ≡ found_too more (put y x)
found_last x more y = λ i. record { part = y; calls = append-nil x.calls i; calls_can_fail = or_false x.calls_can_fail i; findings = both x.findings (both_alone more i); subqueries = x.subqueries }

-- what is bound is so
pub it_is : {A : Type 0} (P : Found A → Type 0) (o : Outcome (Found A)) (x : Found A) → o ≡ Ok x → IfFound P o → P x
it_is P o x is h = subst (IfFound P) is h

-- ---- a part, and one behind it

module _ {A B : Type 0} (P : Found B → Type 0) where
  joined_holds : (x : Found A) (o : Outcome (Found B)) → IfFound (λ y. P (joined x y)) o → IfFound P (then_joined x o)
  joined_holds x (Err f) h = tt
  joined_holds x (Ok y) h = h

  turn_holds : (counts : Counts) (f : A → Binding B) (o : Outcome (Found A)) → ((x : Found A) → o ≡ Ok x → IfFound (λ y. P (joined x y)) (f x.part (after counts x)))
      → IfFound P (and_then o (λ x. then_joined x (f x.part (after counts x))))
  turn_holds counts f (Err fault) h = tt
  turn_holds counts f (Ok x) h = joined_holds x (f x.part (after counts x)) (h x refl)

  pub next_holds : (counts : Counts) (b : Binding A) (f : A → Binding B) → ((x : Found A) → b counts ≡ Ok x → IfFound (λ y. P (joined x y)) (f x.part (after counts x))) → IfFound P ((b >>= f) counts)
  next_holds counts b f h = turn_holds counts f (b counts) h

  pub made_holds : (counts : Counts) (b : Binding A) (make : A → B) → ((x : Found A) → b counts ≡ Ok x → P (put (make x.part) x)) → IfFound P ((b >>= λ x. pure (make x)) counts)
  made_holds counts b make h = next_holds counts b (λ x. pure (make x)) (λ x is. subst P (sym (put_last x (make x.part))) (h x is))

  -- where something is asked of it
  pub asked_holds : (counts : Counts) (b : Binding A) (asked : A → Bool) (f : BindingFault) (make : A → B) → ((x : Found A) → b counts ≡ Ok x → asked x.part ≡ true → P (put (make x.part) x))
      → IfFound P ((b >>= λ x. must (asked x) f >> pure (make x)) counts)
  asked_holds counts b asked f make h = next_holds counts b (λ x. must (asked x) f >> pure (make x)) (λ x is. if_asked x (asked x.part) (λ t. h x is t))
    where
      if_asked : (x : Found A) (t : Bool) → (t ≡ true → P (put (make x.part) x)) → IfFound (λ y. P (joined x y)) ((must t f >> pure (make x.part)) (after counts x))
      if_asked x true g = subst P (sym (put_last x (make x.part))) (g refl)
      if_asked x false g = tt

  -- where more is found
  pub found_holds : (counts : Counts) (b : Binding A) (more : QueryFindings) (make : A → B) → ((x : Found A) → b counts ≡ Ok x → P (found_too more (put (make x.part) x)))
      → IfFound P ((b >>= λ x. has_found more >> pure (make x)) counts)
  found_holds counts b more make h = next_holds counts b (λ x. has_found more >> pure (make x)) (λ x is. subst P (sym (found_last x more (make x.part))) (h x is))

-- two parts that are made one, and three
pub two_hold : {A B C : Type 0} (P : Found C → Type 0) (counts : Counts) (b : Binding A) (c : A → Binding B) (make : A → B → C)
    → ((x : Found A) (y : Found B) → b counts ≡ Ok x → c x.part (after counts x) ≡ Ok y → P (joined x (put (make x.part y.part) y)))
    → IfFound P ((b >>= λ x. c x >>= λ y. pure (make x y)) counts)
two_hold P counts b c make h =
    next_holds P counts b (λ x. c x >>= λ y. pure (make x y)) (λ x is. made_holds (λ z. P (joined x z)) (after counts x) (c x.part) (make x.part) (λ y so. h x y is so))

pub three_hold : {A B C D : Type 0} (P : Found D → Type 0) (counts : Counts) (b : Binding A) (c : A → Binding B) (d : A → Binding C) (make : A → B → C → D)
    → ((x : Found A) (y : Found B) (z : Found C) → b counts ≡ Ok x → c x.part (after counts x) ≡ Ok y → d x.part (after (after counts x) y) ≡ Ok z → P (joined x (joined y (put (make x.part y.part z.part) z))))
    → IfFound P ((b >>= λ x. c x >>= λ y. d x >>= λ z. pure (make x y z)) counts)
three_hold P counts b c d make h =
    next_holds P counts b (λ x. c x >>= λ y. d x >>= λ z. pure (make x y z))
    (λ x is. two_hold (λ w. P (joined x w)) (after counts x) (c x.part) (λ y. d x.part) (make x.part) (λ y z so also. h x y z is so also))

-- ---- what has its outcome by itself

module _ {A B : Type 0} (P : Found B → Type 0) (counts : Counts) (o : Outcome A) (found : A → QueryFindings) (make : A → B) where
  pub outcome_holds : ((x : A) → o ≡ Ok x → P (only counts.subqueries (found x) (make x))) → IfFound P ((outcome o >>= λ x. has_found (found x) >> pure (make x)) counts)
  outcome_holds h = of_outcome o h
    where
      of_outcome : (o : Outcome A) → ((x : A) → o ≡ Ok x → P (only counts.subqueries (found x) (make x))) → IfFound P ((outcome o >>= λ x. has_found (found x) >> pure (make x)) counts)
      of_outcome (Err f) g = tt
      of_outcome (Ok x) g = subst (λ f. P (only counts.subqueries f (make x))) (sym (both_first (both (found x) nothing) ∙ both_alone (found x))) (g x refl)

  pub asked_outcome_holds : (asked : A → Bool) (f : BindingFault) → ((x : A) → o ≡ Ok x → asked x ≡ true → P (only counts.subqueries (found x) (make x)))
      → IfFound P ((outcome o >>= λ x. must (asked x) f >>= λ _. has_found (found x) >> pure (make x)) counts)
  asked_outcome_holds asked f h = of_outcome o h
    where
      if_asked : (x : A) (t : Bool) → (t ≡ true → P (only counts.subqueries (found x) (make x))) → IfFound (λ y. P (joined (only counts.subqueries nothing x) y)) ((must t f >>= λ _. has_found (found x) >> pure (make x)) (after counts (only counts.subqueries nothing x)))
      if_asked x true g =
          subst (λ f. P (only counts.subqueries f (make x))) (sym (both_first (both nothing (both (found x) nothing)) ∙ both_first (both (found x) nothing) ∙ both_alone (found x))) (g refl)
      if_asked x false g = tt

      of_outcome : (o : Outcome A) → ((x : A) → o ≡ Ok x → asked x ≡ true → P (only counts.subqueries (found x) (make x)))
          → IfFound P ((outcome o >>= λ x. must (asked x) f >>= λ _. has_found (found x) >> pure (make x)) counts)
      of_outcome (Err g) k = tt
      of_outcome (Ok x) k = joined_holds P (only counts.subqueries nothing x) ((must (asked x) f >>= λ _. has_found (found x) >> pure (make x)) (after counts (only counts.subqueries nothing x))) (if_asked x (asked x) (k x refl))

-- ---- parts with a condition

limit_holds : {A : Type 0} (P : Found A → Type 0) (t : Bool) (b : Binding A) (counts : Counts) → (t ≡ false → IfFound P (b counts)) → IfFound P ((if t then refused fault.LimitExceeded else b) counts)
limit_holds P true b counts h = tt
limit_holds P false b counts h = h refl

pub at_most_holds : {A : Type 0} (P : Found A → Type 0) (most many : ℕ) (b : Binding A) (counts : Counts) → (nat_lt most many ≡ false → IfFound P (b counts)) → IfFound P (at_most most many b counts)
at_most_holds P most many b counts h = limit_holds P (nat_lt most many) b counts h

-- ---- each of a list

module _ {A B : Type 0} (P : Counts → A → Found B → Type 0) (Q : Counts → List A → Found (List B) → Type 0) (f : A → Binding B) where
  pub each_holds : ((counts : Counts) (x : A) → IfFound (P counts x) (f x counts)) → ((counts : Counts) → Q counts [] (only counts.subqueries nothing []))
      → ((counts : Counts) (x : A) (xs : List A) (y : Found B) (ys : Found (List B)) → P counts x y → Q (after counts y) xs ys → Q counts (x ∷ xs) (joined y (put (y.part ∷ ys.part) ys)))
      → (xs : List A) (counts : Counts) → IfFound (Q counts xs) (each f xs counts)
  each_holds h none more [] counts = none counts
  each_holds h none more (x ∷ xs) counts =
      two_hold (Q counts (x ∷ xs)) counts (f x) (λ y. each f xs) (λ y ys. y ∷ ys)
      (λ y ys is so. more counts x xs y ys (it_is (P counts x) (f x counts) y is (h counts x)) (it_is (Q (after counts y) xs) (each f xs (after counts y)) ys so (each_holds h none more xs (after counts y))))

pub anything : {A : Type 0} (o : Outcome (Found A)) → IfFound (λ x. ⊤) o
anything (Ok x) = tt
anything (Err f) = tt

-- there is one part for each
pub each_length : {A B : Type 0} (f : A → Binding B) (xs : List A) (counts : Counts) (ys : Found (List B)) → each f xs counts ≡ Ok ys → length ys.part ≡ length xs
each_length f xs counts ys is =
    it_is (λ ys. length ys.part ≡ length xs) (each f xs counts) ys is
    (each_holds (λ counts x y. ⊤) (λ counts xs ys. length ys.part ≡ length xs) f (λ counts x. anything (f x counts)) (λ counts. refl) (λ counts x xs y ys p q. ap suc q) xs counts)
