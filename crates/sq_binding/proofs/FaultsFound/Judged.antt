-- Parts of a query that are bound one after the other, and the sites of their text. A fault that is answered is at these sites. If
-- the query is grouped, a column that is found outside set functions and is no grouping column is a fault there.
use Rattle.std.proofs.Common.{◌≡◌, ℕ, Bool, true, false, List, [], ◌∷◌, ◌++◌, Ok, Err, refl, sym, ◌∙◌}
use Rattle.std.specs.Prelude.{⊤, nat_lt, if◌then◌else◌}
use Rattle.std.specs.List.{AllByRecursion, AllZip, flat_map}
use Rattle.std.proofs.lemmas.Bool.{false≢true}
use Rattle.sq_meaning.specs.Query.{is_some_of}
use Rattle.sq_meaning.specs.Binding.{Judged, has_fault}
use Rattle.sq_meaning.specs.Site.{Site}
use Rattle.sq_meaning.specs.declared.fault.BindingFault.{BindingFault}
use Rattle.sq_meaning.specs.declared.fault.BindingFault.TheVariants as fault
use Rattle.sq_binding.specs.Found.{Binding, Counts, Found, ◌>>=◌, after, at_most, each, from_first, has_found, must, outcome, pure, refused, then_joined}
use Rattle.sq_binding.specs.Outcome.{Outcome, and_then}
use Rattle.sq_binding.specs.QueryFindings.{QueryFindings}
use Rattle.sq_binding.proofs.FaultsFound.Sites.{either, fault_left, fault_right}

-- P holds of the part; the query is grouped rightly where Grouped holds, and has a set function only where Called does.
pub record IsJudged {A : Type 0} (j : Judged) (sites : List Site) (Grouped Called : Type 0) (P : A → Type 0) (x : Found A) : Type 0 where
  pub part : P x.part
  pub free : x.findings.values.has_ungrouped ≡ true → Grouped → has_fault j sites fault.UngroupedColumn ≡ true
  pub called : is_some_of x.calls ≡ true → Called

abbrev pub IfJudged : {A : Type 0} → Judged → List Site → (Grouped Called : Type 0) → (A → Type 0) → Outcome (Found A) → Type 0
IfJudged j sites Grouped Called P (Ok x) = IsJudged j sites Grouped Called P x
IfJudged j sites Grouped Called P (Err f) = has_fault j sites f ≡ true

abbrev pub Judges : {A : Type 0} → Judged → List Site → (Grouped Called : Type 0) → (A → Type 0) → Binding A → Type 0
Judges j sites Grouped Called P b = (counts : Counts) → IfJudged j sites Grouped Called P (b counts)

-- the faults at some sites are at others
abbrev pub Among : Judged → List Site → List Site → Type 0
Among j xs ys = (f : BindingFault) → has_fault j xs f ≡ true → has_fault j ys f ≡ true

pub some_either : {A : Type 0} {P : Type 0} (xs ys : List A) → is_some_of (xs ++ ys) ≡ true → (is_some_of xs ≡ true → P) → (is_some_of ys ≡ true → P) → P
some_either [] ys t p q = q t
some_either (x ∷ xs) ys t p q = p refl

pub some_left : {A : Type 0} (xs ys : List A) → is_some_of xs ≡ true → is_some_of (xs ++ ys) ≡ true
some_left [] ys t = cc
some_left (x ∷ xs) ys t = refl

pub some_right : {A : Type 0} (xs ys : List A) → is_some_of ys ≡ true → is_some_of (xs ++ ys) ≡ true
some_right [] ys t = t
some_right (x ∷ xs) ys t = refl

module _ (j : Judged) (sites : List Site) (Grouped Called : Type 0) where
  joined_judged : {A B : Type 0} (P : A → Type 0) (Q : B → Type 0) (x : Found A) (o : Outcome (Found B)) → IsJudged j sites Grouped Called P x → IfJudged j sites Grouped Called Q o → IfJudged j sites Grouped Called Q (then_joined x o)
  joined_judged P Q x (Err f) h g = g
  joined_judged P Q x (Ok y) h g = record {
    part = g.part;
    free = λ t grouped. either x.findings.values.has_ungrouped y.findings.values.has_ungrouped t (λ u. h.free u grouped) (λ u. g.free u grouped);
    called = λ t. some_either x.calls y.calls t h.called g.called;
  }

  then_judged : {A B : Type 0} (P : A → Type 0) (Q : B → Type 0) (counts : Counts) (o : Outcome (Found A)) (f : A → Binding B) → IfJudged j sites Grouped Called P o → ((x : A) → P x → Judges j sites Grouped Called Q (f x))
      → IfJudged j sites Grouped Called Q (and_then o (λ x. then_joined x (f x.part (after counts x))))
  then_judged P Q counts (Ok x) f h g = joined_judged P Q x (f x.part (after counts x)) h (g x.part h.part (after counts x))
  then_judged P Q counts (Err fault) f h g = h

  pub then_judges : {A B : Type 0} (P : A → Type 0) (Q : B → Type 0) (b : Binding A) (f : A → Binding B) → Judges j sites Grouped Called P b → ((x : A) → P x → Judges j sites Grouped Called Q (f x)) → Judges j sites Grouped Called Q (b >>= f)
  then_judges P Q b f h g counts = then_judged P Q counts (b counts) f (h counts) g

  pub pure_judges : {A : Type 0} (P : A → Type 0) (x : A) → P x → Judges j sites Grouped Called P (pure x)
  pure_judges P x h counts = record { part = h; free = λ t grouped. cc; called = λ t. cc }

  pub must_judges : (test : Bool) (f : BindingFault) → (test ≡ false → has_fault j sites f ≡ true) → Judges j sites Grouped Called (λ u. test ≡ true) (must test f)
  must_judges true f h counts = record { part = refl; free = λ t grouped. cc; called = λ t. cc }
  must_judges false f h counts = h refl

  pub has_found_judges : (found : QueryFindings) → found.values.has_ungrouped ≡ false → Judges j sites Grouped Called (λ u. ⊤) (has_found found)
  has_found_judges found none counts = record { part = tt; free = λ t grouped. absurd (false≢true (sym none ∙ t)); called = λ t. cc }

  limit_judged : {A : Type 0} (P : A → Type 0) (passed : Bool) (b : Binding A) (counts : Counts) → (passed ≡ true → has_fault j sites fault.LimitExceeded ≡ true) → IfJudged j sites Grouped Called P (b counts)
      → IfJudged j sites Grouped Called P ((if passed then refused fault.LimitExceeded else b) counts)
  limit_judged P true b counts h g = h refl
  limit_judged P false b counts h g = g

  pub at_most_judges : {A : Type 0} (P : A → Type 0) (most many : ℕ) (b : Binding A) → (nat_lt most many ≡ true → has_fault j sites fault.LimitExceeded ≡ true) → Judges j sites Grouped Called P b
      → Judges j sites Grouped Called P (at_most most many b)
  at_most_judges P most many b h g counts = limit_judged P (nat_lt most many) b counts h (g counts)

  pub outcome_judges : {A : Type 0} (P : A → Type 0) (o : Outcome A) → ((x : A) → o ≡ Ok x → P x) → ((f : BindingFault) → o ≡ Err f → has_fault j sites f ≡ true) → Judges j sites Grouped Called P (outcome o)
  outcome_judges P (Ok x) h g counts = record { part = h x refl; free = λ t grouped. cc; called = λ t. cc }
  outcome_judges P (Err f) h g counts = g f refl

-- ---- one, two or three parts that are made one

module _ (j : Judged) (sites : List Site) (Grouped Called : Type 0) where
  pub one_judges : {A B : Type 0} (P : A → Type 0) (b : Binding A) (make : A → B) → Judges j sites Grouped Called P b → Judges j sites Grouped Called (λ y. ⊤) (b >>= λ x. pure (make x))
  one_judges P b make h = then_judges j sites Grouped Called P (λ y. ⊤) b (λ x. pure (make x)) h (λ x p. pure_judges j sites Grouped Called (λ y. ⊤) (make x) tt)

  pub two_judges : {A B C : Type 0} (P : A → Type 0) (Q : B → Type 0) (b : Binding A) (c : A → Binding B) (make : A → B → C) → Judges j sites Grouped Called P b → ((x : A) → P x → Judges j sites Grouped Called Q (c x))
      → Judges j sites Grouped Called (λ z. ⊤) (b >>= λ x. c x >>= λ y. pure (make x y))
  two_judges P Q b c make h g =
      then_judges j sites Grouped Called P (λ z. ⊤) b (λ x. c x >>= λ y. pure (make x y)) h (λ x p. one_judges Q (c x) (make x) (g x p))

  pub three_judges : {A B C D : Type 0} (P : A → Type 0) (Q : B → Type 0) (R : C → Type 0) (b : Binding A) (c : A → Binding B) (d : A → Binding C) (make : A → B → C → D)
      → Judges j sites Grouped Called P b → ((x : A) → P x → Judges j sites Grouped Called Q (c x)) → ((x : A) → P x → Judges j sites Grouped Called R (d x))
      → Judges j sites Grouped Called (λ w. ⊤) (b >>= λ x. c x >>= λ y. d x >>= λ z. pure (make x y z))
  three_judges P Q R b c d make h g k =
      then_judges j sites Grouped Called P (λ w. ⊤) b (λ x. c x >>= λ y. d x >>= λ z. pure (make x y z)) h (λ x p. two_judges Q R (c x) (λ y. d x) (make x) (g x p) (λ y q. k x p))

-- ---- more sites, and more that is known

module _ (j : Judged) (xs ys : List Site) (among : Among j xs ys) where
  more_judged : {A : Type 0} (G H C D : Type 0) (P Q : A → Type 0) → (H → G) → (C → D) → ((x : A) → P x → Q x) → (o : Outcome (Found A)) → IfJudged j xs G C P o → IfJudged j ys H D Q o
  more_judged G H C D P Q grouped called more (Ok x) h = record {
    part = more x.part h.part;
    free = λ t g. among fault.UngroupedColumn (h.free t (grouped g));
    called = λ t. called (h.called t);
  }
  more_judged G H C D P Q grouped called more (Err f) h = among f h

  pub more_judges : {A : Type 0} (G H C D : Type 0) (P Q : A → Type 0) (b : Binding A) → (H → G) → (C → D) → ((x : A) → P x → Q x) → Judges j xs G C P b → Judges j ys H D Q b
  more_judges G H C D P Q b grouped called more h counts = more_judged G H C D P Q grouped called more (b counts) (h counts)

  -- what is judged at these sites is judged at more of them
  pub wider_judges : {A : Type 0} (G C : Type 0) (P : A → Type 0) (b : Binding A) → Judges j xs G C P b → Judges j ys G C P b
  wider_judges G C P b h = more_judges G G C C P P b (λ g. g) (λ c. c) (λ x p. p) h

-- ---- each of a list

module _ {A B : Type 0} (j : Judged) (G C : Type 0) (W : A → Type 0) (sites_of : A → List Site) (P : A → B → Type 0) (f : A → Binding B) (h : (x : A) → W x → Judges j (sites_of x) G C (P x) (f x)) where
  pub each_judges : (xs : List A) → AllByRecursion W xs → Judges j (flat_map sites_of xs) G C (AllZip P xs) (each f xs)
  each_judges [] w = pure_judges j [] G C (AllZip P []) [] tt
  each_judges (x ∷ xs) w =
      then_judges j (sites_of x ++ flat_map sites_of xs) G C (P x) (AllZip P (x ∷ xs)) (f x) (λ y. each f xs >>= λ ys. pure (y ∷ ys))
      (wider_judges j (sites_of x) (sites_of x ++ flat_map sites_of xs) (λ g. fault_left j g (sites_of x) (flat_map sites_of xs)) G C (P x) (f x) (h x w.0))
      (λ y p. then_judges j (sites_of x ++ flat_map sites_of xs) G C (AllZip P xs) (AllZip P (x ∷ xs)) (each f xs) (λ ys. pure (y ∷ ys))
      (wider_judges j (flat_map sites_of xs) (sites_of x ++ flat_map sites_of xs) (λ g. fault_right j g (sites_of x) (flat_map sites_of xs)) G C (AllZip P xs) (each f xs) (each_judges xs w.1))
      (λ ys ps. pure_judges j (sites_of x ++ flat_map sites_of xs) G C (AllZip P (x ∷ xs)) (y ∷ ys) (p, ps)))

-- ---- a clause in which no set function may stand

pub first_judged : {A : Type 0} (j : Judged) (sites : List Site) (G C : Type 0) (P : A → Type 0) (b : Binding A) → Judges j sites G C P b → Judges j sites G C P (from_first b)
first_judged j sites G C P b h counts = h (record counts { functions = 0 })
