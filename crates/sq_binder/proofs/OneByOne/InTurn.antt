-- A loop that binds the parts of a list in turn.
use Rattle.std.proofs.Common.{◌≡◌, ℕ, ◌+◌, ◌<◌, ◌≤◌, List, [], ◌∷◌, length, drop, map, get_or, Ok, Err, refl, sym, ap, subst, ◌∙◌}
use Rattle.std.proofs.lemmas.List.{map-append}
use Rattle.std.specs.Prelude.{Result}
use Rattle.sq_binding.specs.Found.{Binding, after, each, with_next}
use Rattle.sq_binding.specs.Found as binding
use Rattle.sq_binding.specs.Outcome.{Outcome, and_then}
use Rattle.sq_binder.specs.Binds.{Stops}
use Rattle.sq_binder.specs.Found.{Begins, Continues, Finds, counts_of, found_of}
use Rattle.sq_binder.specs.declared.found.Counts.{Counts}
use Rattle.sq_binder.specs.declared.found.Found.{Found}
use Rattle.sq_binder.specs.declared.stop.Stop.{Stop}
use Rattle.sq_binder.specs.declared.stop.Stop.TheVariants.{Fault, NoMemory}
use Rattle.sq_binder.proofs.OneByOne.Behind.{each_stepped, next_step, one_part}
use Rattle.sq_binder.proofs.OneByOne.Finds.{behind_counts}
use Rattle.sq_binder.proofs.OneByOne.Steps.{all_done, step_done, step_stops, stepped, stops_as, stops_here}

-- what is bound so far of a list, and what is left of it
pub record SoFar {A B E X : Type 0} (image : X → B) (f : A → Binding B) (g : E → A) (before : Counts) (whole : Outcome (binding.Found (List B))) (parts : Found (List X)) (rest : List E) : Type 0 where
  pub is : whole ≡ stepped (next_step f (counts_of before)) (Ok (found_of (map image) parts)) (map g rest)
  pub counted : counts_of parts.brought.next ≡ after (counts_of before) (found_of (map image) parts)

pub itself : {A : Type 0} (xs : List A) → map (λ x. x) xs ≡ xs
itself [] = refl
itself {A} (x ∷ xs) = ap (λ (rest : List A). x ∷ rest) (itself xs)

module _ {A B E X : Type 0} (image : X → B) (f : A → Binding B) (g : E → A) (before : Counts) where
  abbrev step : binding.Found (List B) → A → Outcome (binding.Found (List B))
  step = next_step f (counts_of before)

  module _ (first : E) (rest : List E) where
    abbrev whole : Outcome (binding.Found (List B))
    whole = each f (g first ∷ map g rest) (counts_of before)

    abbrev others : binding.Found B → Outcome (binding.Found (List B))
    others x = stepped step (Ok (one_part x)) (map g rest)

    begun_as : whole ≡ and_then (f (g first) (counts_of before)) others
    begun_as = each_stepped f (counts_of before) (g first) (map g rest)

    pub begun_found : (items : List E) (r : Result (Found X) Stop) (all : Found (List X)) → items ≡ rest → Finds image (f (g first)) before r → Begins r (Ok all) → SoFar image f g before whole all items
    begun_found items (Ok x) all same found is = record {
      is = begun_as ∙ ap (λ o. and_then o others) found.0 ∙ (λ i. stepped step (Ok (found_of (map image) (sym is i))) (map g (sym same i)));
      counted = (λ i. counts_of (is i).brought.next) ∙ found.1 ∙ (λ i. after (counts_of before) (found_of (map image) (sym is i)));
    }
    begun_found items (Err stop) all same found is = absurd is

    pub begun_stop : (r : Result (Found X) Stop) (stop : Stop) → Finds image (f (g first)) before r → Begins r (Err stop) → Stops whole stop
    begun_stop (Ok x) stop found is = subst (λ (s : Stop). Stops whole s) (sym is) tt
    begun_stop (Err earlier) stop found is =
        subst (λ (s : Stop). Stops whole s) (sym is)
        (stops_as whole (and_then (f (g first) (counts_of before)) others) earlier begun_as (stops_here (f (g first) (counts_of before)) others earlier found))

  module _ (whole : Outcome (binding.Found (List B))) (xs : List E) (i : ℕ) (parts : Found (List X)) (e : E) where
    next_seen : (next : Found X) (more : Found (List X)) → Continues parts (Ok next) (Ok more) → with_next (found_of (map image) parts) (found_of image next) ≡ found_of (map image) more
    next_seen next more is = λ j. record {
      part = (sym (map-append image parts.part (next.part ∷ [])) ∙ (λ k. map image (sym is.0 k))) j;
      calls = (sym is.1 j).calls;
      calls_can_fail = (sym is.1 j).calls_can_fail;
      findings = (sym is.1 j).findings;
      subqueries = (sym is.1 j).subqueries;
    }

    stepped_to : (o : Outcome (binding.Found B)) → SoFar image f g before whole parts (drop i xs) → f (g e) (counts_of parts.brought.next) ≡ o → step (found_of (map image) parts) (g e) ≡ and_then o (λ y. Ok (with_next (found_of (map image) parts) y))
    stepped_to o so_far is = ap (λ d. and_then (f (g e) d) (λ y. Ok (with_next (found_of (map image) parts) y))) (sym so_far.counted) ∙ ap (λ o. and_then o (λ y. Ok (with_next (found_of (map image) parts) y))) is

    pub next_found : (r : Result (Found X) Stop) (more : Found (List X)) → i < length xs → e ≡ get_or xs i e → SoFar image f g before whole parts (drop i xs) → Finds image (f (g e)) parts.brought.next r → Continues parts r (Ok more)
        → SoFar image f g before whole more (drop (i + 1) xs)
    next_found (Ok next) more within at so_far found is = record {
      is = step_done step g whole xs i (found_of (map image) parts) e (found_of (map image) more) within at so_far.is
          (stepped_to (Ok (found_of image next)) so_far found.0 ∙ ap Ok (next_seen next more is));
      counted = ap counts_of is.2 ∙ found.1 ∙ behind_counts (counts_of before) (counts_of parts.brought.next) (found_of (map image) parts) (found_of image next) so_far.counted
          ∙ ap (after (counts_of before)) (next_seen next more is);
    }
    next_found (Err stop) more within at so_far found is = absurd is

    pub next_stop : (r : Result (Found X) Stop) (stop : Stop) → i < length xs → e ≡ get_or xs i e → SoFar image f g before whole parts (drop i xs) → Finds image (f (g e)) parts.brought.next r → Continues parts r (Err stop) → Stops whole stop
    next_stop (Ok next) stop within at so_far found is = subst (λ (s : Stop). Stops whole s) (sym is) tt
    next_stop (Err NoMemory) stop within at so_far found is = subst (λ (s : Stop). Stops whole s) (sym is) tt
    next_stop (Err (Fault broken)) stop within at so_far found is =
        subst (λ (s : Stop). Stops whole s) (sym is)
        (step_stops step g whole xs i (found_of (map image) parts) e (Fault broken) within at so_far.is (stepped_to (Err broken.rule) so_far found))

  pub all_found : (b : Binding (List B)) (xs : List E) (i : ℕ) (parts : Found (List X)) → length xs ≤ i → SoFar image f g before (b (counts_of before)) parts (drop i xs) → Finds (map image) b before (Ok parts)
  all_found b xs i parts past so_far = (all_done step g (b (counts_of before)) xs i (found_of (map image) parts) past so_far.is, so_far.counted)
