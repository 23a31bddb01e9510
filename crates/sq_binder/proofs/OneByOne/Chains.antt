-- Parts one after another: whichever two of three are taken together, and if one of them brings nothing along.
use Rattle.std.proofs.Common.{◌≡◌, ◌+◌, add-zero, true, ◌++◌, length, Ok, Err, refl, ap, append_assoc, length-append, arith, ◌∙◌}
use Rattle.sq_value.proofs.Truths.{or_assoc}
use Rattle.sq_meaning.specs.declared.fault.BindingFault.{BindingFault}
use Rattle.sq_binding.specs.Found.{Binding, Counts, Found, ◌>>=◌, after, joined, must, outcome, pure, then_joined}
use Rattle.sq_binding.specs.Outcome.{Outcome, and_then}
use Rattle.sq_binding.specs.QueryFindings.{nothing}
use Rattle.sq_binding.proofs.Inductions.Lists.{both_turn}
use Rattle.sq_binding.proofs.Inductions.Turns.{both_first, only}

module _ {A B C : Type 0} (b : Binding A) (f : A → Binding B) (k : B → Binding C) (counts : Counts) where
  after_both : (x : Found A) (y : Found B) → after counts (joined x y) ≡ after (after counts x) y
  after_both x y =
      let sum : counts.functions + length (x.calls ++ y.calls) ≡ (counts.functions + length x.calls) + length y.calls = omega (arith, length-append x.calls y.calls) in
      (λ i. record { functions = sum i; subqueries = y.subqueries })

  joined_turn : (x : Found A) (y : Found B) (z : Found C) → joined (joined x y) z ≡ joined x (joined y z)
  joined_turn x y z = λ i. record {
    part = z.part;
    calls = append_assoc x.calls y.calls z.calls i;
    calls_can_fail = or_assoc x.calls_can_fail y.calls_can_fail z.calls_can_fail i;
    findings = both_turn x.findings y.findings z.findings i;
    subqueries = z.subqueries;
  }

  third : (x : Found A) (y : Found B) (o : Outcome (Found C)) → then_joined (joined x y) o ≡ then_joined x (then_joined y o)
  third x y (Err fault) = refl
  third x y (Ok z) = ap Ok (joined_turn x y z)

  second : (x : Found A) (o : Outcome (Found B))
      → and_then (then_joined x o) (λ y. then_joined y (k y.part (after counts y))) ≡ then_joined x (and_then o (λ y. then_joined y (k y.part (after (after counts x) y))))
  second x (Err fault) = refl
  second x (Ok y) = third x y (k y.part (after counts (joined x y))) ∙ ap (λ c. then_joined x (then_joined y (k y.part c))) (after_both x y)

  first : (o : Outcome (Found A))
      → and_then (and_then o (λ x. then_joined x (f x.part (after counts x)))) (λ y. then_joined y (k y.part (after counts y)))
      ≡ and_then o (λ x. then_joined x (and_then (f x.part (after counts x)) (λ y. then_joined y (k y.part (after (after counts x) y)))))
  first (Err fault) = refl
  first (Ok x) = second x (f x.part (after counts x))

  pub chained : ((b >>= f) >>= k) counts ≡ (b >>= λ x. f x >>= k) counts
  chained = first (b counts)

-- ---- what brings nothing along stands before a part

abbrev nothing_before : {A : Type 0} → Counts → A → Found A
nothing_before counts x = only counts.subqueries nothing x

same_counts : {A : Type 0} (counts : Counts) (x : A) → after counts (nothing_before counts x) ≡ counts
same_counts counts x = λ i. record { functions = add-zero counts.functions i; subqueries = counts.subqueries }

alone_first : {A B : Type 0} (counts : Counts) (x : A) (o : Outcome (Found B)) → then_joined (nothing_before counts x) o ≡ o
alone_first counts x (Err fault) = refl
alone_first counts x (Ok y) = λ i. Ok (record { part = y.part; calls = y.calls; calls_can_fail = y.calls_can_fail; findings = both_first y.findings i; subqueries = y.subqueries })

pub pure_first : {A B : Type 0} (counts : Counts) (x : A) (f : A → Binding B) → (pure x >>= f) counts ≡ f x counts
pure_first counts x f = alone_first counts x (f x (after counts (nothing_before counts x))) ∙ ap (f x) (same_counts counts x)

pub outcome_first : {A B : Type 0} (x : A) (f : A → Binding B) (counts : Counts) → (outcome (Ok x) >>= f) counts ≡ f x counts
outcome_first x f counts = pure_first counts x f

pub must_first : {B : Type 0} (f : BindingFault) (b : Binding B) (counts : Counts) → (must true f >>= λ u. b) counts ≡ b counts
must_first f b counts = pure_first counts (tt {0}) (λ u. b)
