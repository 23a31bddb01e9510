-- Columns that references fit and mean, item by item and scope by scope.
use Rattle.std.proofs.Common.{◌≡◌, ℕ, ◌+◌, ◌<◌, ◌≤◌, Bool, List, [], ◌∷◌, length, map, get_or, drop, Option, Some, None, Ok, Err, refl, sym, ap, ◌∙◌, Bor}
use Rattle.std.proofs.lemmas.List.{drop_all, drop_more}
use Rattle.std.specs.Prelude.{Result, is_none}
use Rattle.std.specs.List.{cons_option, enumerate_from, filter_map}
use Rattle.std.specs.Option.{option_map}
use denote.Hole.Carrier.{out}
use Rattle.sq_tree.specs.declared.names.ColumnReference.{ColumnReference}
use Rattle.sq_meaning.specs.Environment.{column_in}
use Rattle.sq_meaning.specs.declared.fault.BindingFault.TheVariants as fault
use Rattle.sq_binding.specs.Outcome.{Outcome, and_then}
use Rattle.sq_binding.specs.Scope.{column_meant, column_numbered, fits, further_out, is_here, is_last, item_named, nearest}
use Rattle.sq_binding.specs.Scope as binding
use Rattle.sq_binder.specs.Binds.{Binds, Stops}
use Rattle.sq_binder.specs.Scope.{found_at, found_of, has_none_around, item_of, only, scope_of, scopes_of, with_fit}
use Rattle.sq_binder.specs.declared.column.FoundColumn.{FoundColumn}
use Rattle.sq_binder.specs.declared.scope.FromItem.{FromItem}
use Rattle.sq_binder.specs.declared.scope.Scope.{Scope, Scope', None', Some', out-Scope}
use Rattle.sq_binder.specs.declared.stop.Stop.{Stop}
use Rattle.sq_binder.specs.declared.stop.Stop.TheVariants.{Fault, NoMemory}
use Rattle.sq_binder.proofs.OneByOne.Steps.{binds_as, stops_as, stops_here, then_binds}

-- ---- what fits in a scope

-- what fits in these items, the first of which has this number
abbrev pub fits_from : ColumnReference → ℕ → List FromItem → List (ℕ × ℕ)
fits_from r n items = filter_map (λ i. option_map (λ column. (i.0, column)) (column_in r i.1)) (enumerate_from n (map item_named (map item_of items)))

-- the only one that fits, where one may fit already
abbrev pub only_with : Option (ℕ × ℕ) → List (ℕ × ℕ) → Outcome (Option (ℕ × ℕ))
only_with None more = only more
only_with (Some at) [] = Ok (Some at)
only_with (Some at) (next ∷ more) = Err fault.AmbiguousName

only_first : (at : ℕ × ℕ) (more : List (ℕ × ℕ)) → only (at ∷ more) ≡ only_with (Some at) more
only_first at [] = refl
only_first at (next ∷ more) = refl

one_more : (found : Option (ℕ × ℕ)) (n : ℕ) (o : Option ℕ) (more : List (ℕ × ℕ))
    → only_with found (cons_option (option_map {U = ℕ × ℕ} (λ column. (n, column)) o) more) ≡ and_then (with_fit found n o) (λ next. only_with next more)
one_more None n None more = refl
one_more None n (Some column) more = only_first (n, column) more
one_more (Some at) n None more = refl
one_more (Some at) n (Some column) more = refl

no_more : (found : Option (ℕ × ℕ)) → only_with found [] ≡ Ok found
no_more None = refl
no_more (Some at) = refl

module _ (r : ColumnReference) (whole : Outcome (Option (ℕ × ℕ))) (items : List FromItem) (i : ℕ) (found : Option (ℕ × ℕ)) where
  first_left : (item : FromItem) → i < length items → item ≡ get_or items i item → whole ≡ only_with found (fits_from r i (drop i items))
      → whole ≡ and_then (with_fit found i (column_in r (item_named (item_of item)))) (λ next. only_with next (fits_from r (i + 1) (drop (i + 1) items)))
  first_left item within is so_far =
      so_far ∙ ap (λ (rest : List FromItem). only_with found (fits_from r i rest)) (drop_more items i item within ∙ ap (λ (y : FromItem). y ∷ drop (i + 1) items) (sym is))
      ∙ one_more found i (column_in r (item_named (item_of item))) (fits_from r (i + 1) (drop (i + 1) items))

  pub fit_next : (item : FromItem) (column : Option ℕ) (next : Option (ℕ × ℕ)) → i < length items → item ≡ get_or items i item → whole ≡ only_with found (fits_from r i (drop i items))
      → column ≡ column_in r (item_named (item_of item)) → with_fit found i column ≡ Ok next → whole ≡ only_with next (fits_from r (i + 1) (drop (i + 1) items))
  fit_next item column next within is so_far fit done =
      first_left item within is so_far
      ∙ ap (λ (o : Outcome (Option (ℕ × ℕ))). and_then o (λ next. only_with next (fits_from r (i + 1) (drop (i + 1) items)))) (ap (with_fit found i) (sym fit) ∙ done)

  pub fit_stops : (item : FromItem) (column : Option ℕ) (stop : Stop) → i < length items → item ≡ get_or items i item → whole ≡ only_with found (fits_from r i (drop i items))
      → column ≡ column_in r (item_named (item_of item)) → Stops (with_fit found i column) stop → Stops whole stop
  fit_stops item column NoMemory within is so_far fit s = tt
  fit_stops item column (Fault f) within is so_far fit s =
      first_left item within is so_far
      ∙ ap (λ (o : Outcome (Option (ℕ × ℕ))). and_then o (λ next. only_with next (fits_from r (i + 1) (drop (i + 1) items)))) (ap (with_fit found i) (sym fit) ∙ s)

  pub fits_done : length items ≤ i → whole ≡ only_with found (fits_from r i (drop i items)) → whole ≡ Ok found
  fits_done past so_far = so_far ∙ ap (λ (rest : List FromItem). only_with found (fits_from r i rest)) (drop_all i items past) ∙ no_more found

-- ---- scopes

abbrev pub scopes_from : Option (Bor Scope) → List binding.Scope
scopes_from None = []
scopes_from (Some scope) = scopes_of scope.now

scopes_are : (scope : Scope) → scopes_of scope ≡ scope_of scope ∷ scopes_from (out-Scope scope).outer
unfolding out-Scope out
scopes_are (Scope' items grouping None') = refl
scopes_are (Scope' items grouping (Some' p s)) = refl

none_around : (outer : Option (Bor Scope)) → is_last (scopes_from outer) ≡ is_none outer
none_around None = refl
none_around (Some scope) = ap is_last (scopes_are scope.now)

-- the column of a scope, where one fits, or that of the scopes around
abbrev at_fit : binding.Scope → Bool → Outcome binding.FoundColumn → Option (ℕ × ℕ) → Outcome binding.FoundColumn
at_fit scope last further None = and_then further (λ found. Ok (further_out found))
at_fit scope last further (Some at) = found_at scope last at

nearest_is : (scope : binding.Scope) (last : Bool) (ats : List (ℕ × ℕ)) (further : Outcome binding.FoundColumn) → nearest scope last ats further ≡ and_then (only ats) (at_fit scope last further)
nearest_is scope last [] further = refl
nearest_is scope last (at ∷ []) further = refl
nearest_is scope last (at ∷ next ∷ others) further = refl

module _ (r : ColumnReference) (scope : Scope) where
  abbrev fit : Outcome (Option (ℕ × ℕ))
  fit = only (fits r (scope_of scope))

  abbrev around : Outcome binding.FoundColumn
  around = column_meant r (scopes_from (out-Scope scope).outer)

  meant_is : column_meant r (scopes_of scope) ≡ and_then fit (at_fit (scope_of scope) (has_none_around scope) around)
  meant_is =
      ap (column_meant r) (scopes_are scope)
      ∙ nearest_is (scope_of scope) (is_last (scopes_from (out-Scope scope).outer)) (fits r (scope_of scope)) around
      ∙ ap (λ (last : Bool). and_then fit (at_fit (scope_of scope) last around)) (none_around (out-Scope scope).outer)

  pub column_here : (at : ℕ × ℕ) (result : Result FoundColumn Stop) → fit ≡ Ok (Some at) → Binds found_of (found_at (scope_of scope) (has_none_around scope) at) result → Binds found_of (column_meant r (scopes_of scope)) result
  column_here at result is h =
      binds_as found_of (column_meant r (scopes_of scope)) (and_then fit (at_fit (scope_of scope) (has_none_around scope) around)) result meant_is
      (then_binds found_of fit (at_fit (scope_of scope) (has_none_around scope) around) (Some at) result is h)

  further_is : fit ≡ Ok None → (o : Option (Bor Scope)) → (out-Scope scope).outer ≡ o → column_meant r (scopes_of scope) ≡ and_then (column_meant r (scopes_from o)) (λ found. Ok (further_out found))
  further_is none o is =
      meant_is ∙ ap (λ (f : Outcome (Option (ℕ × ℕ))). and_then f (at_fit (scope_of scope) (has_none_around scope) around)) none
      ∙ ap (λ (o : Option (Bor Scope)). and_then (column_meant r (scopes_from o)) (λ found. Ok (further_out found))) is

  pub column_around : (outer : Bor Scope) (found : binding.FoundColumn) (result : Result FoundColumn Stop) → fit ≡ Ok None → (out-Scope scope).outer ≡ Some outer
      → column_meant r (scopes_of outer.now) ≡ Ok found → Binds found_of (Ok (further_out found)) result → Binds found_of (column_meant r (scopes_of scope)) result
  column_around outer found result none is there h =
      binds_as found_of (column_meant r (scopes_of scope)) (and_then (column_meant r (scopes_of outer.now)) (λ found. Ok (further_out found))) result (further_is none (Some outer) is)
      (then_binds found_of (column_meant r (scopes_of outer.now)) (λ found. Ok (further_out found)) found result there h)

  pub stops_around : (outer : Bor Scope) (stop : Stop) → fit ≡ Ok None → (out-Scope scope).outer ≡ Some outer → Stops (column_meant r (scopes_of outer.now)) stop → Stops (column_meant r (scopes_of scope)) stop
  stops_around outer stop none is s =
      stops_as (column_meant r (scopes_of scope)) (and_then (column_meant r (scopes_of outer.now)) (λ found. Ok (further_out found))) stop (further_is none (Some outer) is)
      (stops_here (column_meant r (scopes_of outer.now)) (λ found. Ok (further_out found)) stop s)

  pub column_nowhere : fit ≡ Ok None → (out-Scope scope).outer ≡ None → column_meant r (scopes_of scope) ≡ Err fault.UnknownColumn
  column_nowhere none is = further_is none None is

  pub fit_fails : (stop : Stop) → Stops fit stop → Stops (column_meant r (scopes_of scope)) stop
  fit_fails stop s =
      stops_as (column_meant r (scopes_of scope)) (and_then fit (at_fit (scope_of scope) (has_none_around scope) around)) stop meant_is
      (stops_here fit (at_fit (scope_of scope) (has_none_around scope) around) stop s)
