-- Parts of a query one after another: the part made of several ones, and lists of parts.
use Rattle.std.proofs.Common.{◌≡◌, ℕ, Bool, true, false, List, [], ◌∷◌, max, Ok, Err, refl, sym, ap, ◌∙◌, arith}
use Rattle.std.proofs.lemmas.List.{append-nil}
use Rattle.sq_value.proofs.Truths.{or_true, or_false}
use Rattle.sq_meaning.specs.declared.fault.BindingFault.{BindingFault}
use Rattle.sq_binding.specs.Findings.{Findings, none}
use Rattle.sq_binding.specs.Findings as value
use Rattle.sq_binding.specs.Found.{Binding, Counts, Found, ◌>>=◌, after, each, has_found, must, pure, then_joined, with_next}
use Rattle.sq_binding.specs.Outcome.{Outcome, and_then}
use Rattle.sq_binding.specs.QueryFindings.{QueryFindings, a_status, both}
use Rattle.sq_binding.proofs.Inductions.Lists.{all_bound, before_rest, both_alone, next_bound}
use Rattle.sq_binder.specs.Found.{failing, paired, pairs}
use Rattle.sq_binder.proofs.OneByOne.Steps.{stepped, stepped_fault}

-- another part with the same brought along
abbrev pub with_part : {A B : Type 0} → B → Found A → Found B
with_part p x = record { part = p; calls = x.calls; calls_can_fail = x.calls_can_fail; findings = x.findings; subqueries = x.subqueries }

abbrev pub made_of : {A B : Type 0} → (A → B) → Outcome (Found A) → Outcome (Found B)
made_of make o = and_then o (λ x. Ok (with_part (make x.part) x))

-- ---- what brings nothing along

pub alone : {A B : Type 0} (p : B) (counts : Counts) (x : Found A) → then_joined x (pure p (after counts x)) ≡ Ok (with_part p x)
alone p counts x = λ i. Ok (record {
  part = p;
  calls = append-nil x.calls i;
  calls_can_fail = or_false x.calls_can_fail i;
  findings = both_alone x.findings i;
  subqueries = x.subqueries;
})

-- a binding is this one, with something made of its part
pub record Makes {A B : Type 0} (whole : Binding B) (b : Binding A) (make : A → B) : Type 0 where
  pub is : (counts : Counts) → whole counts ≡ made_of make (b counts)

pub made_at : {A B : Type 0} (make : A → B) (counts : Counts) (o : Outcome (Found A)) → and_then o (λ x. then_joined x (pure (make x.part) (after counts x))) ≡ made_of make o
made_at make counts (Err f) = refl
made_at make counts (Ok x) = alone (make x.part) counts x

pub made : {A B : Type 0} (b : Binding A) (make : A → B) → Makes (b >>= λ x. pure (make x)) b make
made b make = record { is = λ counts. made_at make counts (b counts) }

-- nothing is made of it
same_part : {A : Type 0} (o : Outcome (Found A)) → o ≡ made_of (λ x. x) o
same_part (Ok x) = refl
same_part (Err f) = refl

pub itself : {A : Type 0} (b : Binding A) → Makes b b (λ x. x)
itself b = record { is = λ counts. same_part (b counts) }

-- ---- several parts

rest_at : {A B C : Type 0} (make : A → B → C) (x : Found A) (o : Outcome (Found B))
    → then_joined x (made_of (make x.part) o) ≡ made_of (λ z. make z.0 z.1) (and_then o (λ y. Ok (paired x y)))
rest_at make x (Err f) = refl
rest_at make x (Ok y) = refl

first_at : {A B C : Type 0} (f : A → Binding B) (q : A → Binding C) (make : A → B → C) → ((a : A) → Makes (q a) (f a) (make a)) → (counts : Counts) (o : Outcome (Found A))
    → and_then o (λ x. then_joined x (q x.part (after counts x))) ≡ made_of (λ z. make z.0 z.1) (and_then o (λ x. and_then (f x.part (after counts x)) (λ y. Ok (paired x y))))
first_at f q make rest counts (Err fault) = refl
first_at f q make rest counts (Ok x) = ap (then_joined x) ((rest x.part).is (after counts x)) ∙ rest_at make x (f x.part (after counts x))

-- a part, and what is made of it and of those behind
pub behind : {A B C : Type 0} (b : Binding A) (f : A → Binding B) (q : A → Binding C) (make : A → B → C) → ((a : A) → Makes (q a) (f a) (make a))
    → Makes (b >>= q) (pairs b f) (λ z. make z.0 z.1)
behind b f q make rest = record { is = λ counts. first_at f q make rest counts (b counts) }

-- what is made of two parts
pub two_made : {A B C : Type 0} (b : Binding A) (f : A → Binding B) (make : A → B → C) → Makes (b >>= λ x. f x >>= λ y. pure (make x y)) (pairs b f) (λ z. make z.0 z.1)
two_made b f make = behind b f (λ x. f x >>= λ y. pure (make x y)) make (λ a. made (f a) (make a))

-- what is made of three parts
pub three_made : {A B C D : Type 0} (b : Binding A) (f : A → Binding B) (g : A → B → Binding C) (make : A → B → C → D)
    → Makes (b >>= λ x. f x >>= λ y. g x y >>= λ z. pure (make x y z)) (pairs b (λ x. pairs (f x) (g x))) (λ z. make z.0 z.1.0 z.1.1)
three_made b f g make =
    behind b (λ x. pairs (f x) (g x)) (λ x. f x >>= λ y. g x y >>= λ z. pure (make x y z)) (λ x w. make x w.0 w.1) (λ a. two_made (f a) (g a) (make a))

pub made_twice : {A B C : Type 0} (f : A → B) (g : B → C) (o : Outcome (Found A)) → made_of g (made_of f o) ≡ made_of (λ x. g (f x)) o
made_twice f g (Err fault) = refl
made_twice f g (Ok x) = refl

-- more is made of it
pub made_on : {A B C : Type 0} (whole : Binding C) (q : Binding B) (b : Binding A) (make : A → B) (more : B → C) → Makes whole q more → Makes q b make → Makes whole b (λ x. more (make x))
made_on whole q b make more m n = record { is = λ counts. m.is counts ∙ ap (made_of more) (n.is counts) ∙ made_twice make more (b counts) }

-- ---- tests and findings behind a part

-- a test behind a part that is true or a fault
pub passed : {A B : Type 0} (p : B) (f : BindingFault) (counts : Counts) (x : Found A) (test : Bool) → test ≡ true → then_joined x ((must test f >>= λ u. pure p) (after counts x)) ≡ Ok (with_part p x)
passed p f counts x true e = alone p counts x
passed p f counts x false e = cc

pub failed : {A B : Type 0} (p : B) (f : BindingFault) (counts : Counts) (x : Found A) (test : Bool) → test ≡ false → then_joined x ((must test f >>= λ u. pure p) (after counts x)) ≡ Err f
failed p f counts x true e = cc
failed p f counts x false e = refl

-- a status may be answered behind a part
pub with_status : {A B : Type 0} (p : B) (counts : Counts) (x : Found A) → then_joined x ((has_found a_status >>= λ u. pure p) (after counts x)) ≡ Ok (failing (with_part p x))
with_status p counts x = λ i. Ok (record {
  part = p;
  calls = append-nil x.calls i;
  calls_can_fail = or_false x.calls_can_fail i;
  findings = both x.findings (both_alone a_status i);
  subqueries = x.subqueries;
})

max_none : (n : ℕ) → max n 0 ≡ n
max_none n = omega arith

-- what is found where a status may be answered
pub with_a_status : (f : QueryFindings) → both f a_status ≡ record f { values = value.failing f.values }
with_a_status f = λ i. record {
  values = record {
    items = max_none f.values.items i;
    outer_items = max_none f.values.outer_items i;
    reach = max_none f.values.reach i;
    reads_outermost = or_false f.values.reads_outermost i;
    can_fail = or_true f.values.can_fail i;
    has_ungrouped = or_false f.values.has_ungrouped i;
    has_user = or_false f.values.has_user i;
  };
  has_subquery = or_false f.has_subquery i;
  lacks_privilege = or_false f.lacks_privilege i;
  lacks_grant_option = or_false f.lacks_grant_option i;
}

-- ---- lists

abbrev pub one_part : {A : Type 0} → Found A → Found (List A)
one_part x = with_part (x.part ∷ []) x

-- the parts so far, with what is bound of the next one
abbrev pub next_step : {A B : Type 0} → (A → Binding B) → Counts → Found (List B) → A → Outcome (Found (List B))
next_step f counts x e = and_then (f e (after counts x)) (λ y. Ok (with_next x y))

module _ {A B : Type 0} (f : A → Binding B) (counts : Counts) where
  next_stepped : (es : List A) → ((x : Found (List B)) → before_rest x (each f es (after counts x)) ≡ stepped (next_step f counts) (Ok x) es) → (x : Found (List B)) (o : Outcome (Found B))
      → and_then o (λ y. before_rest (with_next x y) (each f es (after counts (with_next x y)))) ≡ stepped (next_step f counts) (and_then o (λ y. Ok (with_next x y))) es
  next_stepped es rest x (Err fault) = sym (stepped_fault (next_step f counts) fault es)
  next_stepped es rest x (Ok y) = rest (with_next x y)

  rest_stepped : (x : Found (List B)) (es : List A) → before_rest x (each f es (after counts x)) ≡ stepped (next_step f counts) (Ok x) es
  rest_stepped x [] = all_bound f counts x
  rest_stepped x (e ∷ es) = next_bound f counts x e es ∙ next_stepped es (λ y. rest_stepped y es) x (f e (after counts x))

  rest_listed : (x : Found B) (o : Outcome (Found (List B))) → then_joined x (made_of (λ ys. x.part ∷ ys) o) ≡ before_rest (one_part x) o
  rest_listed x (Err fault) = refl
  rest_listed x (Ok ys) = refl

  each_at : (o : Outcome (Found B)) (es : List A)
      → and_then o (λ x. then_joined x ((each f es >>= λ ys. pure (x.part ∷ ys)) (after counts x))) ≡ and_then o (λ x. stepped (next_step f counts) (Ok (one_part x)) es)
  each_at (Err fault) es = refl
  each_at (Ok x) es =
      ap (then_joined x) (made_at (λ ys. x.part ∷ ys) (after counts x) (each f es (after counts x)))
      ∙ rest_listed x (each f es (after counts x)) ∙ rest_stepped (one_part x) es

  -- the first of a list, and then the others step by step
  pub each_stepped : (e : A) (es : List A) → each f (e ∷ es) counts ≡ and_then (f e counts) (λ x. stepped (next_step f counts) (Ok (one_part x)) es)
  each_stepped e es = each_at (f e counts) es
