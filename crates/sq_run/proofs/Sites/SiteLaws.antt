-- What a statement without a syntax fault has at each of its sites: no rule is broken there.
use Rattle.std.specs.List.{AllByRecursion, list_any}
use Rattle.std.specs.Prelude.{◌≡◌, Bool, true, false, ◌||◌, List, [], ◌∷◌, ◌++◌, map, flat_map, refl}
use Rattle.sq_meaning.proofs.AnswerLaws.{all_weaker}
use Rattle.sq_meaning.specs.Binding.{Judged, ambiguous_name, bad_sort_key, breaks, count_mismatch, has_fault, has_syntax_fault, kind_mismatch, limit_exceeded, misplaced_function, syntax_faults, ungrouped_column, unknown_column, unknown_parameter, unknown_table}
use Rattle.sq_meaning.specs.Site.{Known, Site}

-- ---- lists

pub all_parts : {A : Type 0} (P : A → Type 0) (xs ys : List A) → AllByRecursion P (xs ++ ys) → AllByRecursion P xs × AllByRecursion P ys
all_parts P [] ys h = (tt, h)
all_parts P (x ∷ xs) ys h = let parts = all_parts P xs ys h.1 in ((h.0, parts.0), parts.1)

pub all_of_mapped : {A B : Type 0} (P : B → Type 0) (f : A → B) (xs : List A) → AllByRecursion P (map f xs) → AllByRecursion (λ x. P (f x)) xs
all_of_mapped P f [] h = tt
all_of_mapped P f (x ∷ xs) h = (h.0, all_of_mapped P f xs h.1)

pub all_of_flat_mapped : {A B : Type 0} (P : B → Type 0) (f : A → List B) (xs : List A) → AllByRecursion P (flat_map f xs) → AllByRecursion (λ x. AllByRecursion P (f x)) xs
all_of_flat_mapped P f [] h = tt
all_of_flat_mapped P f (x ∷ xs) h = let parts = all_parts P (f x) (flat_map f xs) h in (parts.0, all_of_flat_mapped P f xs parts.1)

pub neither : (a b : Bool) → (a || b) ≡ false → (a ≡ false) × (b ≡ false)
neither true b e = cc
neither false b e = (refl, e)

pub never : {P : Type 0} → true ≡ false → P
never e = cc

pub none_passes : {A : Type 0} (test : A → Bool) (xs : List A) → list_any test xs ≡ false → AllByRecursion (λ x. test x ≡ false) xs
none_passes test [] e = tt
none_passes test (x ∷ xs) e = let parts = neither (test x) (list_any test xs) e in (parts.0, none_passes test xs parts.1)

-- what holds of each pair, told from the other side
turned : {A B : Type 0} (R : A → B → Type 0) (xs : List A) (ys : List B) → AllByRecursion (λ x. AllByRecursion (R x) ys) xs → AllByRecursion (λ y. AllByRecursion (λ x. R x y) xs) ys
turned R xs [] h = tt
turned R xs (y ∷ ys) h = (
  all_weaker (λ x. AllByRecursion (R x) (y ∷ ys)) (λ x. R x y) (λ x p. p.0) xs h,
  turned R xs ys (all_weaker (λ x. AllByRecursion (R x) (y ∷ ys)) (λ x. AllByRecursion (R x) ys) (λ x p. p.1) xs h),
)

-- ---- sites

-- no rule is broken at a site, of those that say what an expression, a condition or a query is
pub record IsSound (k : Known) (s : Site) : Type 0 where
  pub tables : unknown_table k s ≡ false
  pub columns : unknown_column k s ≡ false
  pub names : ambiguous_name k s ≡ false
  pub kinds : kind_mismatch s ≡ false
  pub limits : limit_exceeded s ≡ false
  pub functions : misplaced_function k s ≡ false
  pub grouping : ungrouped_column k s ≡ false
  pub counts : count_mismatch s ≡ false
  pub sort_keys : bad_sort_key s ≡ false
  pub parameters : unknown_parameter k s ≡ false

abbrev pub AreSound : Known → List Site → Type 0
AreSound k sites = AllByRecursion (IsSound k) sites

-- no fault at a site, in the order of the faults
no_fault : (j : Judged) (s : Site) → AllByRecursion (λ f. breaks j f s ≡ false) syntax_faults → IsSound j.known s
no_fault j s h = record {
  tables = h.0;
  columns = h.1.0;
  names = h.1.1.0;
  kinds = h.1.1.1.0;
  limits = h.1.1.1.1.0;
  functions = h.1.1.1.1.1.0;
  grouping = h.1.1.1.1.1.1.0;
  counts = h.1.1.1.1.1.1.1.0;
  sort_keys = h.1.1.1.1.1.1.1.1.0;
  parameters = h.1.1.1.1.1.1.1.1.1.0;
}

-- where a statement has no syntax fault, each of its sites is sound
pub sound_sites : (j : Judged) (sites : List Site) → has_syntax_fault j sites ≡ false → AreSound j.known sites
sound_sites j sites e =
    all_weaker (λ s. AllByRecursion (λ f. breaks j f s ≡ false) syntax_faults) (IsSound j.known) (no_fault j) sites
    (turned (λ f s. breaks j f s ≡ false) syntax_faults sites
    (all_weaker (λ f. has_fault j sites f ≡ false) (λ f. AllByRecursion (λ s. breaks j f s ≡ false) sites) (λ f none. none_passes (breaks j f) sites none) syntax_faults
    (none_passes (has_fault j sites) syntax_faults e)))
