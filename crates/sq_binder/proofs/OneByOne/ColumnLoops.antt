-- A loop along columns that get values, each named once.
use Rattle.std.proofs.Common.{◌≡◌, ℕ, ◌+◌, ◌<◌, ◌≤◌, Bool, false, List, [], ◌∷◌, ◌++◌, length, drop, map, take, get_or, Ok, Err, refl, sym, ap, subst, ◌∙◌}
use Rattle.std.specs.List.{list_any}
use Rattle.std.specs.Prelude.{Result}
use Rattle.sq_lex.specs.declared.name.Name.{Name}
use Rattle.sq_meaning.specs.Environment.{same_name}
use Rattle.sq_meaning.specs.Schema.{has_name_twice}
use Rattle.sq_binding.specs.Change.{Receiver}
use Rattle.sq_binding.specs.Found.{Binding, each}
use Rattle.sq_binding.specs.Found as binding
use Rattle.sq_binder.specs.Binds.{Stops}
use Rattle.sq_binder.specs.Found.{Begins, Continues, Finds, counts_of, found_of}
use Rattle.sq_binder.specs.declared.found.Counts.{Counts}
use Rattle.sq_binder.specs.declared.found.Found.{Found}
use Rattle.sq_binder.specs.declared.stop.Stop.{Stop}
use Rattle.sq_binder.proofs.OneByOne.Finds.{finds_as}
use Rattle.sq_binder.proofs.OneByOne.InTurn.{SoFar, all_found, begun_found, begun_stop, itself, next_found, next_stop}
use Rattle.sq_binder.proofs.OneByOne.Positions.{list_any-map}
use Rattle.sq_binder.proofs.OneByOne.Steps.{stops_as}
use Rattle.sq_binder.specs.Receiver.{column_after, column_made, columns_made, with_names}
use Rattle.sq_binder.proofs.OneByOne.ColumnsInTurn.{as_many, element, names_more, passes}
use Rattle.sq_binder.proofs.OneByOne.Twice.{once_more}

module _ {A B X : Type 0} (image : X → B) (all : List Receiver) (name_of : A → Name) (make : A → Receiver → Binding B) (before : Counts) (first : A) (rest : List A) where
  abbrev Step : Type 0
  Step = List Name × A

  abbrev step : Step → Binding B
  step = column_after all name_of make

  abbrev same : Step → Step
  same p = p

  abbrev others : List Step
  others = with_names name_of (name_of first ∷ []) rest

  abbrev in_turn : Binding (List B)
  in_turn = each step (same ([], first) ∷ map same others)

  whole_as : (counts : binding.Counts) → columns_made all name_of make (first ∷ rest) counts ≡ in_turn counts
  whole_as counts = ap (λ l. each step (([], first) ∷ l) counts) (sym (itself others))

  -- the names of the columns before the one of this number behind the first
  abbrev names : ℕ → List Name
  names i = map name_of (first ∷ take i rest)

  -- what is made so far, and what is left
  pub record ColumnsSoFar (i : ℕ) (parts : Found (List X)) : Type 0 where
    pub so_far : SoFar image step same before (in_turn (counts_of before)) parts (drop i others)
    pub once : has_name_twice (names i) ≡ false

  pub begun_columns : (r : Result (Found X) Stop) (parts : Found (List X)) → Finds image (column_made all (name_of first) false (make first)) before r → Begins r (Ok parts) → ColumnsSoFar 0 parts
  begun_columns r parts found is = record {
    so_far = begun_found image step same before ([], first) others others r parts refl found is;
    once = refl;
  }

  pub begun_column_stops : (r : Result (Found X) Stop) (stop : Stop) → Finds image (column_made all (name_of first) false (make first)) before r → Begins r (Err stop)
      → Stops (columns_made all name_of make (first ∷ rest) (counts_of before)) stop
  begun_column_stops r stop found is =
      stops_as (columns_made all name_of make (first ∷ rest) (counts_of before)) (in_turn (counts_of before)) stop (whole_as (counts_of before))
      (begun_stop image step same before ([], first) others r stop found is)

  module _ (items : List A) (are : items ≡ rest) (i : ℕ) (x : A) (again : Bool) (parts : Found (List X)) (test : i < length items) (item : x ≡ get_or items i x)
      (is_again : again ≡ list_any (λ other. same_name (name_of other) (name_of x)) (first ∷ take i rest)) (so_far : ColumnsSoFar i parts) where
    lt : i < length rest
    lt = subst (λ l. i < length l) are test

    at : x ≡ get_or rest i x
    at = item ∙ ap (λ l. get_or l i x) are

    abbrev here : Step
    here = (names i, x)

    same_again : again ≡ has_name_twice (names i ++ name_of x ∷ [])
    same_again =
        is_again ∙ sym (list_any-map name_of (λ other. same_name other (name_of x)) (first ∷ take i rest)) ∙ sym (once_more same_name (names i) (name_of x) so_far.once)

    within : i < length others
    within = subst (λ n. i < n) (sym (as_many name_of (name_of first ∷ []) rest)) lt

    found_here : (r : Result (Found X) Stop) → Finds image (column_made all (name_of x) again (make x)) parts.brought.next r → Finds image (step here) parts.brought.next r
    found_here r found = subst (λ again. Finds image (column_made all (name_of x) again (make x)) parts.brought.next r) same_again found

    is_here : here ≡ get_or others i here
    is_here = element name_of (name_of first ∷ []) rest i x here lt at

    once_so_far : (r : Result (Found X) Stop) (more : Found (List X)) → Finds image (column_made all (name_of x) again (make x)) parts.brought.next r → Continues parts r (Ok more) → has_name_twice (names (i + 1)) ≡ false
    once_so_far (Ok next) more found is =
        ap has_name_twice (names_more name_of first rest i x lt at) ∙ sym same_again ∙ passes all again (name_of x) (make x) (counts_of parts.brought.next) (found_of image next) found.0
    once_so_far (Err stop) more found is = absurd is

    pub next_column : (r : Result (Found X) Stop) (more : Found (List X)) → Finds image (column_made all (name_of x) again (make x)) parts.brought.next r → Continues parts r (Ok more) → ColumnsSoFar (i + 1) more
    next_column r more found is = record {
      so_far = next_found image step same before (in_turn (counts_of before)) others i parts here r more within is_here so_far.so_far (found_here r found) is;
      once = once_so_far r more found is;
    }

    pub next_column_stops : (r : Result (Found X) Stop) (stop : Stop) → Finds image (column_made all (name_of x) again (make x)) parts.brought.next r → Continues parts r (Err stop)
        → Stops (columns_made all name_of make (first ∷ rest) (counts_of before)) stop
    next_column_stops r stop found is =
        stops_as (columns_made all name_of make (first ∷ rest) (counts_of before)) (in_turn (counts_of before)) stop (whole_as (counts_of before))
        (next_stop image step same before (in_turn (counts_of before)) others i parts here r stop within is_here so_far.so_far (found_here r found) is)

  pub all_columns : (items : List A) → items ≡ rest → (i : ℕ) (parts : Found (List X)) → length items ≤ i → ColumnsSoFar i parts → Finds (map image) (columns_made all name_of make (first ∷ rest)) before (Ok parts)
  all_columns items are i parts past so_far =
      finds_as (map image) (columns_made all name_of make (first ∷ rest)) in_turn before (Ok parts) (whole_as (counts_of before))
      (all_found image step same before in_turn others i parts (subst (λ n. n ≤ i) (ap length are ∙ sym (as_many name_of (name_of first ∷ []) rest)) past) so_far.so_far)
