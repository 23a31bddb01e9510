-- Lists that are bound in turn, an element after the other.
use Rattle.std.proofs.Common.{◌≡◌, ℕ, ◌+◌, ◌<◌, ◌≤◌, false, List, [], ◌∷◌, ◌++◌, length, drop, map, get_or, Ok, Err, refl, sym, ap, subst, ◌∙◌, append-nil, add-zero, arith}
use Rattle.std.proofs.lemmas.List.{append_assoc, map-append}
use Rattle.std.specs.Prelude.{Result}
use Rattle.sq_binding.specs.Found.{Binding, Counts, ◌>>=◌, after, each, outcome, pure, then_joined}
use Rattle.sq_binding.specs.Found as binding
use Rattle.sq_binding.specs.Outcome.{Outcome, and_then}
use Rattle.sq_binding.specs.QueryFindings as findings
use Rattle.sq_binder.specs.Binds.{Binds, Stops}
use Rattle.sq_binder.specs.Found.{Finds, counts_of, nothing}
use Rattle.sq_binder.specs.declared.found.Counts.{Counts as FoundCounts}
use Rattle.sq_binder.specs.declared.stop.Stop.{Stop}
use Rattle.sq_binder.specs.declared.stop.Stop.TheVariants.{Fault, NoMemory}
use Rattle.sq_binder.proofs.OneByOne.Behind.{alone}
use Rattle.sq_binder.proofs.OneByOne.Steps.{all_done, step_done, step_stops, stepped, stepped_fault, stops_here}
use Rattle.sq_binder.specs.InTurn.{Grows, in_turn}

-- the list so far, with what is bound of the next element
abbrev pub grow : {A B : Type 0} → (A → Outcome B) → List B → A → Outcome (List B)
grow f ys x = and_then (f x) (λ y. Ok (ys ++ y ∷ []))

abbrev longer : {B : Type 0} → List B → Outcome (List B) → Outcome (List B)
longer ys o = and_then o (λ zs. Ok (ys ++ zs))

one_longer : {B : Type 0} (ys : List B) (y : B) (o : Outcome (List B)) → longer ys (and_then o (λ zs. Ok (y ∷ zs))) ≡ longer (ys ++ y ∷ []) o
one_longer ys y (Ok zs) = ap Ok (sym (append_assoc ys (y ∷ []) zs))
one_longer ys y (Err f) = refl

none_longer : {B : Type 0} (o : Outcome (List B)) → longer [] o ≡ o
none_longer (Ok zs) = refl
none_longer (Err f) = refl

module _ {A B : Type 0} (f : A → Outcome B) where
  next_longer : (xs : List A) → ((ys : List B) → longer ys (in_turn f xs) ≡ stepped (grow f) (Ok ys) xs) → (ys : List B) (o : Outcome B)
      → longer ys (and_then o (λ y. and_then (in_turn f xs) (λ zs. Ok (y ∷ zs)))) ≡ stepped (grow f) (and_then o (λ y. Ok (ys ++ y ∷ []))) xs
  next_longer xs rest ys (Err fault) = sym (stepped_fault (grow f) fault xs)
  next_longer xs rest ys (Ok y) = one_longer ys y (in_turn f xs) ∙ rest (ys ++ y ∷ [])

  turns_longer : (xs : List A) (ys : List B) → longer ys (in_turn f xs) ≡ stepped (grow f) (Ok ys) xs
  turns_longer [] ys = ap Ok (append-nil ys)
  turns_longer (x ∷ xs) ys = next_longer xs (turns_longer xs) ys (f x)

  pub turns_stepped : (xs : List A) → in_turn f xs ≡ stepped (grow f) (Ok []) xs
  turns_stepped xs = sym (none_longer (in_turn f xs)) ∙ turns_longer xs []

-- ---- a loop

module _ {A B E X : Type 0} (image : X → B) (f : A → Outcome B) (g : E → A) (whole : Outcome (List B)) where
  -- what is bound so far of a list, and what is left of it
  abbrev pub Grown : List X → List E → Type 0
  Grown parts rest = whole ≡ stepped (grow f) (Ok (map image parts)) (map g rest)

  module _ (xs : List E) (i : ℕ) (parts : List X) (e : E) where
    grown_is : (x : X) (more : List X) → more ≡ parts ++ x ∷ [] → f (g e) ≡ Ok (image x) → grow f (map image parts) (g e) ≡ Ok (map image more)
    grown_is x more is found = ap (λ o. and_then o (λ y. Ok (map image parts ++ y ∷ []))) found ∙ ap Ok (sym (map-append image parts (x ∷ [])) ∙ ap (map image) (sym is))

    pub next_grown : (r : Result X Stop) (more : List X) → i < length xs → e ≡ get_or xs i e → Grown parts (drop i xs) → Binds image (f (g e)) r → Grows parts r (Ok more) → Grown more (drop (i + 1) xs)
    next_grown (Ok x) more within at so_far found is = step_done (grow f) g whole xs i (map image parts) e (map image more) within at so_far (grown_is x more is found)
    next_grown (Err stop) more within at so_far found is = absurd is

    pub next_stops : (r : Result X Stop) (stop : Stop) → i < length xs → e ≡ get_or xs i e → Grown parts (drop i xs) → Binds image (f (g e)) r → Grows parts r (Err stop) → Stops whole stop
    next_stops (Ok x) stop within at so_far found is = subst (λ (s : Stop). Stops whole s) (sym is) tt
    next_stops (Err NoMemory) stop within at so_far found is = subst (λ (s : Stop). Stops whole s) (sym is) tt
    next_stops (Err (Fault fault)) stop within at so_far found is =
        subst (λ (s : Stop). Stops whole s) (sym is)
        (step_stops (grow f) g whole xs i (map image parts) e (Fault fault) within at so_far (stops_here (f (g e)) (λ y. Ok (map image parts ++ y ∷ [])) (Fault fault) found))

  pub all_grown : (xs : List E) (i : ℕ) (parts : List X) → length xs ≤ i → Grown parts (drop i xs) → whole ≡ Ok (map image parts)
  all_grown xs i parts past so_far = all_done (grow f) g whole xs i (map image parts) past so_far

  -- nothing is bound yet
  pub none_grown : (xs : List E) (none : List X) → whole ≡ in_turn f (map g xs) → none ≡ [] → Grown none xs
  none_grown xs none is empty = is ∙ turns_stepped f (map g xs) ∙ ap (λ ps. stepped (grow f) (Ok (map image ps)) (map g xs)) (sym empty)

  -- the first is bound
  pub first_grown : (first : E) (rest : List E) (none : List X) (r : Result X Stop) (more : List X) → whole ≡ in_turn f (map g (first ∷ rest)) → none ≡ [] → Binds image (f (g first)) r → Grows none r (Ok more) → Grown more rest
  first_grown first rest none r more is empty found grows = next_grown (first ∷ rest) 0 none first r more (omega arith) refl (none_grown (first ∷ rest) none is empty) found grows

  pub first_stops : (first : E) (rest : List E) (none : List X) (r : Result X Stop) (stop : Stop) → whole ≡ in_turn f (map g (first ∷ rest)) → none ≡ [] → Binds image (f (g first)) r → Grows none r (Err stop) → Stops whole stop
  first_stops first rest none r stop is empty found grows = next_stops (first ∷ rest) 0 none first r stop (omega arith) refl (none_grown (first ∷ rest) none is empty) found grows

-- ---- what brings nothing along

pub outcome_made : {A B : Type 0} (o : Outcome A) (f : A → B) (counts : Counts) → (outcome o >>= λ x. pure (f x)) counts ≡ outcome (and_then o (λ x. Ok (f x))) counts
outcome_made (Err fault) f counts = refl
outcome_made (Ok x) f counts = alone (f x) counts (record { part = x; calls = []; calls_can_fail = false; findings = findings.nothing; subqueries = counts.subqueries })

behind_nothing : (counts : Counts) → record { functions = counts.functions + 0; subqueries = counts.subqueries } ≡ counts
behind_nothing counts = λ i. record { functions = add-zero counts.functions i; subqueries = counts.subqueries }

-- a part behind nothing
pub then_nothing : {A B : Type 0} (p : A) (counts : Counts) (o : Outcome B) → and_then (pure p counts) (λ x. then_joined x (outcome o (after counts x))) ≡ outcome o counts
then_nothing p counts (Err fault) = refl
then_nothing p counts (Ok x) = refl

abbrev lone : {A : Type 0} → A → Counts → binding.Found A
lone x counts = record { part = x; calls = []; calls_can_fail = false; findings = findings.nothing; subqueries = counts.subqueries }

module _ {A B : Type 0} (g : A → Binding B) (f : A → Outcome B) (same : (x : A) (counts : Counts) → g x counts ≡ outcome (f x) counts) where
  each_rest : (xs : List A) → ((counts : Counts) → each g xs counts ≡ outcome (in_turn f xs) counts) → (counts : Counts) (o : Outcome B)
      → and_then (outcome o counts) (λ y. then_joined y ((each g xs >>= λ ys. pure (y.part ∷ ys)) (after counts y))) ≡ outcome (and_then o (λ y. and_then (in_turn f xs) (λ ys. Ok (y ∷ ys)))) counts
  each_rest xs rest counts (Err fault) = refl
  each_rest xs rest counts (Ok y) =
      let next : Counts = after counts (lone y counts) in
      let all : (each g xs >>= λ ys. pure (y ∷ ys)) next ≡ outcome (and_then (in_turn f xs) (λ ys. Ok (y ∷ ys))) next =
      ap (λ o. and_then o (λ ys. then_joined ys (pure (y ∷ ys.part) (after next ys)))) (rest next) ∙ outcome_made (in_turn f xs) (λ ys. y ∷ ys) next in
      ap (then_joined (lone y counts)) all ∙ then_nothing y counts (and_then (in_turn f xs) (λ ys. Ok (y ∷ ys)))

  -- each of a list has its outcome by itself
  pub each_outcome : (xs : List A) (counts : Counts) → each g xs counts ≡ outcome (in_turn f xs) counts
  each_outcome [] counts = refl
  each_outcome (x ∷ xs) counts = ap (λ o. and_then o (λ y. then_joined y ((each g xs >>= λ ys. pure (y.part ∷ ys)) (after counts y)))) (same x counts) ∙ each_rest xs (each_outcome xs) counts (f x)

-- ---- what a function finds that brings nothing along

pub found_alone : {A B : Type 0} (image : B → A) (b : Binding A) (o : Outcome A) (before : FoundCounts) (part : B) → b (counts_of before) ≡ outcome o (counts_of before) → o ≡ Ok (image part)
    → Finds image b before (Ok (record { part = part; brought = nothing before }))
found_alone image b o before part is found = (is ∙ ap (λ o. outcome o (counts_of before)) found, sym (behind_nothing (counts_of before)))

pub stops_alone : {A B : Type 0} (image : B → A) (b : Binding A) (o : Outcome A) (before : FoundCounts) (stop : Stop) → b (counts_of before) ≡ outcome o (counts_of before) → Stops o stop → Stops (b (counts_of before)) stop
stops_alone image b o before NoMemory is s = tt
stops_alone image b o before (Fault fault) is s = is ∙ ap (λ o. outcome o (counts_of before)) s
