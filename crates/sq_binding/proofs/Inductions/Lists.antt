-- Parts of a list that are bound in turn: the parts bound so far come before the rest. So a loop goes along a list as the
-- definition does, also along the tests of a term and the terms of a condition.
use Rattle.std.proofs.Common.{◌≡◌, ℕ, ◌+◌, false, ◌||◌, List, [], ◌∷◌, ◌++◌, length, max, Ok, Err, refl, sym, ap, ◌∙◌, append_assoc, arith}
use Rattle.std.proofs.lemmas.List.{append-nil, length-append}
use Rattle.sq_value.proofs.Truths.{or_false, or_assoc}
use Rattle.sq_meaning.specs.Spelled.{Named}
use Rattle.sq_meaning.specs.Syntax.{Cond, conds}
use Rattle.sq_binding.specs.Condition.{cond_bound, terms_bound, test, tests_bound}
use Rattle.sq_binding.specs.Findings.{Findings, none}
use Rattle.sq_binding.specs.Findings as findings
use Rattle.sq_binding.specs.Found.{Binding, Counts, Found, ◌>>=◌, after, each, pure, then_joined, with_next}
use Rattle.sq_binding.specs.NumberedCondition.{NumberedCond, NumberedConds}
use Rattle.sq_binding.specs.Outcome.{Outcome, and_then}
use Rattle.sq_binding.specs.QueryFindings.{QueryFindings, both, nothing}
use Rattle.sq_binding.specs.Seen.{conds_in}
use Rattle.sq_binding.specs.Select.{Surroundings}

-- ---- what is found in several parts

max_nothing : (n : ℕ) → max n 0 ≡ n
max_nothing n = omega arith

max_turn : (a b c : ℕ) → max (max a b) c ≡ max a (max b c)
max_turn a b c = omega arith

values_alone : (a : Findings) → findings.both a none ≡ a
values_alone a = λ i. record {
  items = max_nothing a.items i;
  outer_items = max_nothing a.outer_items i;
  reach = max_nothing a.reach i;
  reads_outermost = or_false a.reads_outermost i;
  can_fail = or_false a.can_fail i;
  has_ungrouped = or_false a.has_ungrouped i;
  has_user = or_false a.has_user i;
}

values_turn : (a b c : Findings) → findings.both (findings.both a b) c ≡ findings.both a (findings.both b c)
values_turn a b c = λ i. record {
  items = max_turn a.items b.items c.items i;
  outer_items = max_turn a.outer_items b.outer_items c.outer_items i;
  reach = max_turn a.reach b.reach c.reach i;
  reads_outermost = or_assoc a.reads_outermost b.reads_outermost c.reads_outermost i;
  can_fail = or_assoc a.can_fail b.can_fail c.can_fail i;
  has_ungrouped = or_assoc a.has_ungrouped b.has_ungrouped c.has_ungrouped i;
  has_user = or_assoc a.has_user b.has_user c.has_user i;
}

pub both_alone : (a : QueryFindings) → both a nothing ≡ a
both_alone a = λ i. record {
  values = values_alone a.values i;
  has_subquery = or_false a.has_subquery i;
  lacks_privilege = or_false a.lacks_privilege i;
  lacks_grant_option = or_false a.lacks_grant_option i;
}

pub both_turn : (a b c : QueryFindings) → both (both a b) c ≡ both a (both b c)
both_turn a b c = λ i. record {
  values = values_turn a.values b.values c.values i;
  has_subquery = or_assoc a.has_subquery b.has_subquery c.has_subquery i;
  lacks_privilege = or_assoc a.lacks_privilege b.lacks_privilege c.lacks_privilege i;
  lacks_grant_option = or_assoc a.lacks_grant_option b.lacks_grant_option c.lacks_grant_option i;
}

-- ---- what is bound so far, and the rest

-- nothing is bound so far
abbrev pub no_part : {A : Type 0} → Counts → Found (List A)
no_part counts = record { part = []; calls = []; calls_can_fail = false; findings = nothing; subqueries = counts.subqueries }

-- with the parts of another behind
abbrev pub listed : {A : Type 0} → Found (List A) → Found (List A) → Found (List A)
listed x y = record {
  part = x.part ++ y.part;
  calls = x.calls ++ y.calls;
  calls_can_fail = x.calls_can_fail || y.calls_can_fail;
  findings = both x.findings y.findings;
  subqueries = y.subqueries;
}

abbrev pub before_rest : {A : Type 0} → Found (List A) → Outcome (Found (List A)) → Outcome (Found (List A))
before_rest x rest = and_then rest (λ y. Ok (listed x y))

module _ {A B : Type 0} (f : A → Binding B) (counts : Counts) where
  -- at the end of the list, all of it is bound
  pub all_bound : (x : Found (List B)) → before_rest x (each f [] (after counts x)) ≡ Ok x
  all_bound x = λ i. Ok (record {
    part = append-nil x.part i;
    calls = append-nil x.calls i;
    calls_can_fail = or_false x.calls_can_fail i;
    findings = both_alone x.findings i;
    subqueries = x.subqueries;
  })

  counts_same : (x : Found (List B)) (y : Found B) → after (after counts x) y ≡ after counts (with_next x y)
  counts_same x y =
      let sum : (counts.functions + length x.calls) + length y.calls ≡ counts.functions + (length x.calls + length y.calls) = omega arith in
      (λ i. record { functions = (sum ∙ ap (λ n. counts.functions + n) (sym (length-append x.calls y.calls))) i; subqueries = y.subqueries })

  one_bound : (x : Found (List B)) (y : Found B) (o : Outcome (Found (List B)))
      → before_rest x (then_joined y (and_then o (λ ys. then_joined ys (pure (y.part ∷ ys.part) (after (after (after counts x) y) ys))))) ≡ before_rest (with_next x y) o
  one_bound x y (Err fault) = refl
  one_bound x y (Ok ys) = λ i. Ok (record {
    part = sym (append_assoc x.part (y.part ∷ []) ys.part) i;
    calls = ((λ j. x.calls ++ (y.calls ++ append-nil ys.calls j)) ∙ sym (append_assoc x.calls y.calls ys.calls)) i;
    calls_can_fail = ((λ j. x.calls_can_fail || (y.calls_can_fail || or_false ys.calls_can_fail j)) ∙ sym (or_assoc x.calls_can_fail y.calls_can_fail ys.calls_can_fail)) i;
    findings = ((λ j. both x.findings (both y.findings (both_alone ys.findings j))) ∙ sym (both_turn x.findings y.findings ys.findings)) i;
    subqueries = ys.subqueries;
  })

  step_bound : (x : Found (List B)) (xs : List A) (o : Outcome (Found B))
      → before_rest x (and_then o (λ y. then_joined y ((each f xs >>= λ ys. pure (y.part ∷ ys)) (after (after counts x) y)))) ≡ and_then o (λ y. before_rest (with_next x y) (each f xs (after counts (with_next x y))))
  step_bound x xs (Err fault) = refl
  step_bound x xs (Ok y) = one_bound x y (each f xs (after (after counts x) y)) ∙ ap (λ c. before_rest (with_next x y) (each f xs c)) (counts_same x y)

  -- the next of the list is bound behind what is bound so far
  pub next_bound : (x : Found (List B)) (e : A) (xs : List A)
      → before_rest x (each f (e ∷ xs) (after counts x)) ≡ and_then (f e (after counts x)) (λ y. before_rest (with_next x y) (each f xs (after counts (with_next x y))))
  next_bound x e xs = step_bound x xs (f e (after counts x))

-- ---- the tests of a term, and the terms of a condition

abbrev pub as_conds : Found (List NumberedCond) → Found NumberedConds
as_conds x = record { part = conds_in x.part; calls = x.calls; calls_can_fail = x.calls_can_fail; findings = x.findings; subqueries = x.subqueries }

abbrev pub conds_bound : Outcome (Found (List NumberedCond)) → Outcome (Found NumberedConds)
conds_bound o = and_then o (λ x. Ok (as_conds x))

rest_same : (x : Found NumberedCond) (counts : Counts) (o : Outcome (Found (List NumberedCond)))
    → then_joined x (and_then (conds_bound o) (λ y. then_joined y (pure (NumberedConds.a_cond x.part y.part) (after counts y))))
    ≡ conds_bound (then_joined x (and_then o (λ y. then_joined y (pure (x.part ∷ y.part) (after counts y)))))
rest_same x counts (Err fault) = refl
rest_same x counts (Ok y) = refl

module _ (f : Cond Named → Binding NumberedCond) (bound : List (Cond Named) → Binding NumberedConds) where
  first_same : (cs : List (Cond Named)) → ((counts : Counts) → bound cs counts ≡ conds_bound (each f cs counts)) → (counts : Counts) (o : Outcome (Found NumberedCond))
      → and_then o (λ x. then_joined x ((bound cs >>= λ xs. pure (NumberedConds.a_cond x.part xs)) (after counts x)))
      ≡ conds_bound (and_then o (λ x. then_joined x ((each f cs >>= λ xs. pure (x.part ∷ xs)) (after counts x))))
  first_same cs same counts (Err fault) = refl
  first_same cs same counts (Ok x) =
      ap (λ o. then_joined x (and_then o (λ y. then_joined y (pure (NumberedConds.a_cond x.part y.part) (after (after counts x) y))))) (same (after counts x))
      ∙ rest_same x (after counts x) (each f cs (after counts x))

pub tests_in_turn : (a : Surroundings) (cs : List (Cond Named)) (counts : Counts) → tests_bound a (conds cs) counts ≡ conds_bound (each (λ c. test (cond_bound a c)) cs counts)
tests_in_turn a [] counts = refl
tests_in_turn a (c ∷ cs) counts =
    first_same (λ c. test (cond_bound a c)) (λ cs. tests_bound a (conds cs)) cs (tests_in_turn a cs) counts (test (cond_bound a c) counts)

pub terms_in_turn : (a : Surroundings) (cs : List (Cond Named)) (counts : Counts) → terms_bound a (conds cs) counts ≡ conds_bound (each (cond_bound a) cs counts)
terms_in_turn a [] counts = refl
terms_in_turn a (c ∷ cs) counts = first_same (cond_bound a) (λ cs. terms_bound a (conds cs)) cs (terms_in_turn a cs) counts (cond_bound a c counts)
