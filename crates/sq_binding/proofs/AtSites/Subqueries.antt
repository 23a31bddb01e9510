-- A subquery is found in a search condition exactly if one is written (ISO/IEC 9075:1992, 7.11).
use Rattle.std.proofs.Common.{◌≡◌, Bool, true, false, ◌||◌, List, [], ◌∷◌, Option, Some, None, Ok, Err, refl, sym, ap, ◌∙◌}
use Rattle.std.specs.Prelude.{◌+◌, if◌then◌else◌, nat_eq}
use Rattle.sq_value.proofs.Truths.{or_false}
use Rattle.sq_meaning.specs.Spelled.{Named}
use Rattle.sq_meaning.specs.Syntax.{Expr, Cond, Conds, Clause, compare, compare_subquery, compare_quantified, between, in_subquery, in_list, like, is_null, exists, negated, conjunction, disjunction, no_cond, a_cond, absent, present}
use Rattle.sq_meaning.specs.Target.{clause_has_subquery, has_subquery, have_subquery}
use Rattle.sq_value.specs.declared.domain.Kind.{Kind}
use Rattle.sq_meaning.specs.WellFormed.{is_comparable, is_text}
use Rattle.sq_bound.specs.declared.condition.Compared.TheVariants.{Scalar}
use Rattle.sq_meaning.specs.declared.fault.BindingFault.{BindingFault}
use Rattle.sq_meaning.specs.declared.fault.BindingFault.TheVariants as fault
use Rattle.sq_binding.specs.Condition.{agreeing, as_subquery, beside, clause_bound, compared_as, cond_bound, escape_bound, must_agree, must_be_beside, noted, scalar, select_bound, subquery, terms_bound, test, tests_bound, text}
use Rattle.sq_binding.specs.Expression.{bound}
use Rattle.sq_binding.specs.Found.{Binding, Counts, Found, ◌>>=◌, ◌>>◌, each, has_found, must, pure}
use Rattle.sq_binding.specs.NumberedCondition.{NumberedClause, NumberedCond, NumberedConds, NumberedSelect, ResultColumn, columns_of, with_number}
use Rattle.sq_binding.specs.Outcome.{Outcome}
use Rattle.sq_binding.specs.QueryFindings.{a_status, of_subquery}
use Rattle.sq_binding.specs.Select.{Surroundings, Typed, value, value_found}
use Rattle.sq_binding.proofs.Faultless.Clean.{steps_of}
use Rattle.sq_binding.proofs.Faultless.CleanConds.{after_of}
use Rattle.sq_binding.proofs.Exactly.Told.{okay}

-- this says whether a subquery is found in whatever is bound
abbrev pub Finds : {A : Type 0} → Bool → Binding A → Type 0
Finds {A} some b = (counts : Counts) (z : Found A) → b counts ≡ Ok z → z.findings.has_subquery ≡ some

pub then_finds : {A B : Type 0} (s t : Bool) (b : Binding A) (f : A → Binding B) → Finds s b → ((x : A) → Finds t (f x)) → Finds (s || t) (b >>= f)
then_finds {A} {B} s t b f h g counts z is =
    let a = after_of b f counts z is in
    sym (ap (λ (x : Found B). x.findings.has_subquery) a.is_joined) ∙ (λ i. h counts a.first a.is_first i || g a.first.part _ a.second a.is_second i)

found_in_result : {A : Type 0} → Bool → Outcome (Found A) → Bool
found_in_result b (Ok x) = x.findings.has_subquery
found_in_result b (Err f) = b

-- where no subquery is found in one of two equal parts, none is found in the other
none_in : {A : Type 0} (x z : Found A) → okay x ≡ okay z → x.findings.has_subquery ≡ false → z.findings.has_subquery ≡ false
unfolding found_in_result
none_in x z is h = sym (ap (found_in_result false) is) ∙ h

pub pure_finds : {A : Type 0} (x : A) → Finds false (pure x)
pure_finds x counts z is = none_in _ z is refl

pub must_finds : (t : Bool) (f : BindingFault) → Finds false (must t f)
must_finds true f counts z is = none_in _ z is refl
must_finds false f counts z is = cc

status_finds : Finds false (has_found a_status)
status_finds counts z is = none_in _ z is refl

value_finds : (a : Surroundings) (e : Expr Named) → Finds false (value a e)
value_finds a e counts z is =
    let s = steps_of (bound a.scopes a.parameters a.functions_allowed false e counts.functions) (λ b. Ok (value_found counts b)) z is in none_in (value_found counts s.step) z s.second refl

-- what is made of a part has no more in it
pub last_finds : {A B : Type 0} (s : Bool) (b : Binding A) (make : A → B) → Finds s b → Finds s (b >>= λ x. pure (make x))
last_finds s b make h counts z is = then_finds s false b (λ x. pure (make x)) h (λ x. pure_finds (make x)) counts z is ∙ or_false s

agreeing_finds : (a : Surroundings) (k : Kind) (e : Expr Named) → Finds false (agreeing a k e)
agreeing_finds a k e = then_finds false false (value a e) (λ x. must_agree k x.kind >> pure x.tree) (value_finds a e) (λ x. last_finds false (must_agree k x.kind) (λ _. x.tree) (must_finds (is_comparable k x.kind) fault.KindMismatch))

text_finds : (a : Surroundings) (e : Expr Named) → Finds false (text a e)
text_finds a e = then_finds false false (value a e) (λ x. must (is_text x.kind) fault.KindMismatch >> pure x.tree) (value_finds a e) (λ x. last_finds false (must (is_text x.kind) fault.KindMismatch) (λ _. x.tree) (must_finds (is_text x.kind) fault.KindMismatch))

escape_finds : (a : Surroundings) (e : Option (Expr Named)) → Finds false (escape_bound a e)
escape_finds a None = pure_finds None
escape_finds a (Some e) = then_finds false false (text a e) (λ x. has_found a_status >> pure (Some x)) (text_finds a e) (λ x. last_finds false (has_found a_status) (λ _. Some x) status_finds)

each_finds : {A B : Type 0} (f : A → Binding B) → ((x : A) → Finds false (f x)) → (xs : List A) → Finds false (each f xs)
each_finds f h [] = pure_finds []
each_finds f h (x ∷ xs) = then_finds false false (f x) (λ y. each f xs >>= λ ys. pure (y ∷ ys)) (h x) (λ y. last_finds false (each f xs) (λ ys. y ∷ ys) (each_finds f h xs))

-- ---- subqueries

numbered_finds : (x : Found NumberedSelect) (closed : Bool) (z : Found NumberedSelect)
    → okay (if closed then record x { part = with_number (Some x.subqueries) x.part; findings = of_subquery x.findings; subqueries = x.subqueries + 1 } else record x { findings = of_subquery x.findings }) ≡ okay z → z.findings.has_subquery ≡ true
unfolding found_in_result
numbered_finds x true z is = sym (ap (found_in_result true) is)
numbered_finds x false z is = sym (ap (found_in_result true) is)

subquery_finds : (q : Binding NumberedSelect) → Finds true (subquery q)
subquery_finds q counts z is = let s = steps_of (q counts) (λ x. Ok (as_subquery x)) z is in numbered_finds s.step (nat_eq s.step.findings.values.reach 0) z s.second

one_column_finds : (k : Kind) (columns : List ResultColumn) → Finds false (must_be_beside k columns)
one_column_finds k [] = λ counts z is. cc
one_column_finds k (c ∷ []) = must_finds (is_comparable k c.kind) fault.KindMismatch
one_column_finds k (c ∷ d ∷ columns) = λ counts z is. cc

beside_finds : (k : Kind) (q : Binding NumberedSelect) → Finds true (beside k q)
beside_finds k q = then_finds true false (subquery q) (λ x. must_be_beside k (columns_of x) >> pure x) (subquery_finds q) (λ x. last_finds false (must_be_beside k (columns_of x)) (λ _. x) (one_column_finds k (columns_of x)))

scalar_finds : (k : Kind) (q : Binding NumberedSelect) → Finds true (scalar k q)
scalar_finds k q = then_finds true false (beside k q) (λ x. has_found a_status >> pure x) (beside_finds k q) (λ x. last_finds false (has_found a_status) (λ _. x) status_finds)

-- behind the value before it
behind_finds : (a : Surroundings) (e : Expr Named) (s : Bool) (f : Typed → Binding NumberedCond) → ((x : Typed) → Finds s (f x)) → Finds s (value a e >>= f)
behind_finds a e s f h = then_finds false s (value a e) f (value_finds a e) h

test_finds : (s : Bool) (c : Binding NumberedCond) → Finds s c → Finds s (test c)
unfolding found_in_result
test_finds s c h counts z is = let t = steps_of (c counts) (λ x. Ok (noted x)) z is in tested (noted t.step) z t.second (h counts t.step t.first)
  where
    tested : (x z : Found NumberedCond) → okay x ≡ okay z → x.findings.has_subquery ≡ s → z.findings.has_subquery ≡ s
    tested x z is h = sym (ap (found_in_result false) is) ∙ h

mutual
  pub cond_finds : (c : Cond Named) (a : Surroundings) → Finds (has_subquery c) (cond_bound a c)
  cond_finds (compare op e f) a = behind_finds a e false (λ x. agreeing a x.kind f >>= λ y. pure (NumberedCond.compare op x.tree y)) (λ x. last_finds false (agreeing a x.kind f) (λ y. NumberedCond.compare op x.tree y) (agreeing_finds a x.kind f))
  cond_finds (compare_subquery op e q) a =
      behind_finds a e true (λ x. scalar x.kind (select_bound a q) >>= λ y. pure (NumberedCond.compare_query Scalar op x.tree y))
      (λ x. last_finds true (scalar x.kind (select_bound a q)) (λ y. NumberedCond.compare_query Scalar op x.tree y) (scalar_finds x.kind (select_bound a q)))
  cond_finds (compare_quantified op k e q) a =
      behind_finds a e true (λ x. beside x.kind (select_bound a q) >>= λ y. pure (NumberedCond.compare_query (compared_as k) op x.tree y))
      (λ x. last_finds true (beside x.kind (select_bound a q)) (λ y. NumberedCond.compare_query (compared_as k) op x.tree y) (beside_finds x.kind (select_bound a q)))
  cond_finds (between e low high) a =
      behind_finds a e false (λ x. agreeing a x.kind low >>= λ y. agreeing a x.kind high >>= λ z. pure (NumberedCond.between x.tree y z))
      (λ x. then_finds false false (agreeing a x.kind low) (λ y. agreeing a x.kind high >>= λ z. pure (NumberedCond.between x.tree y z)) (agreeing_finds a x.kind low)
      (λ y. last_finds false (agreeing a x.kind high) (λ z. NumberedCond.between x.tree y z) (agreeing_finds a x.kind high)))
  cond_finds (in_subquery e q) a =
      behind_finds a e true (λ x. beside x.kind (select_bound a q) >>= λ y. pure (NumberedCond.in_query x.tree y))
      (λ x. last_finds true (beside x.kind (select_bound a q)) (λ y. NumberedCond.in_query x.tree y) (beside_finds x.kind (select_bound a q)))
  cond_finds (in_list e es) a =
      behind_finds a e false (λ x. each (agreeing a x.kind) es >>= λ ys. pure (NumberedCond.in_list x.tree ys))
      (λ x. last_finds false (each (agreeing a x.kind) es) (λ ys. NumberedCond.in_list x.tree ys) (each_finds (agreeing a x.kind) (agreeing_finds a x.kind) es))
  cond_finds (like e pattern escape) a =
      then_finds false false (text a e) (λ x. text a pattern >>= λ y. escape_bound a escape >>= λ z. pure (NumberedCond.like x y z)) (text_finds a e)
      (λ x. then_finds false false (text a pattern) (λ y. escape_bound a escape >>= λ z. pure (NumberedCond.like x y z)) (text_finds a pattern)
      (λ y. last_finds false (escape_bound a escape) (λ z. NumberedCond.like x y z) (escape_finds a escape)))
  cond_finds (is_null e) a = last_finds false (value a e) (λ x. NumberedCond.is_null x.tree) (value_finds a e)
  cond_finds (exists q) a = last_finds true (subquery (select_bound a q)) (λ y. NumberedCond.exists y) (subquery_finds (select_bound a q))
  cond_finds (negated c) a = last_finds (has_subquery c) (cond_bound a c) (λ x. NumberedCond.negated x) (cond_finds c a)
  cond_finds (conjunction cs) a = last_finds (have_subquery cs) (tests_bound a cs) (λ xs. NumberedCond.conjunction xs) (tests_find cs a)
  cond_finds (disjunction cs) a = last_finds (have_subquery cs) (terms_bound a cs) (λ xs. NumberedCond.disjunction xs) (terms_find cs a)

  tests_find : (cs : Conds Named) (a : Surroundings) → Finds (have_subquery cs) (tests_bound a cs)
  tests_find no_cond a = pure_finds NumberedConds.no_cond
  tests_find (a_cond c cs) a =
      then_finds (has_subquery c) (have_subquery cs) (test (cond_bound a c)) (λ x. tests_bound a cs >>= λ xs. pure (NumberedConds.a_cond x xs)) (test_finds (has_subquery c) (cond_bound a c) (cond_finds c a))
      (λ x. last_finds (have_subquery cs) (tests_bound a cs) (λ xs. NumberedConds.a_cond x xs) (tests_find cs a))

  terms_find : (cs : Conds Named) (a : Surroundings) → Finds (have_subquery cs) (terms_bound a cs)
  terms_find no_cond a = pure_finds NumberedConds.no_cond
  terms_find (a_cond c cs) a =
      then_finds (has_subquery c) (have_subquery cs) (cond_bound a c) (λ x. terms_bound a cs >>= λ xs. pure (NumberedConds.a_cond x xs)) (cond_finds c a)
      (λ x. last_finds (have_subquery cs) (terms_bound a cs) (λ xs. NumberedConds.a_cond x xs) (terms_find cs a))

pub clause_finds : (c : Clause Named) (a : Surroundings) → Finds (clause_has_subquery c) (clause_bound a c)
clause_finds absent a = pure_finds NumberedClause.absent
clause_finds (present c) a = last_finds (has_subquery c) (cond_bound a c) (λ x. NumberedClause.present x) (cond_finds c a)
