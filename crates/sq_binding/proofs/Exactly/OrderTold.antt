-- ORDER BY is refused exactly if the rules refuse it (ISO/IEC 9075:1992, 13.1).
use Rattle.std.proofs.Common.{◌≡◌, ℕ, false, List, [], ◌∷◌, map, Option, Ok, Err, refl, ap}
use Rattle.std.specs.Prelude.{is_err}
use Rattle.std.specs.Result.{result_ok}
use Rattle.sq_lex.specs.declared.name.Name.{Name}
use Rattle.sq_tree.specs.declared.«module».SortKey.{SortKey}
use Rattle.sq_tree.specs.declared.«module».SortSpecification.{SortSpecification}
use Rattle.sq_meaning.specs.SortKeys.{goes_down, key_column}
use Rattle.sq_meaning.specs.Status as status
use Rattle.sq_meaning.specs.Binding.{Judged}
use Rattle.sq_meaning.specs.Site.{Site}
use Rattle.sq_meaning.specs.declared.fault.BindingFault.TheVariants as fault
use Rattle.sq_binding.specs.Order.{order_bound, sort_column_bound}
use Rattle.sq_binding.specs.Outcome.{and_then, or_fault}
use Rattle.sq_binding.proofs.Faultless.Clean.{CleanSite, clean_more, no_site}
use Rattle.sq_binding.proofs.FaultsFound.Sites.{fault_here}
use Rattle.sq_binding.proofs.Exactly.Told.{Told, told_made, told_then}

module _ (j : Judged) (names : List (Option Name)) where
  abbrev site : SortSpecification → Site
  site s = Site.sort_by names s.key

  sort_clean : (key : SortKey) → is_err (key_column names key) ≡ false → CleanSite j (Site.sort_by names key)
  sort_clean key h fault.BadSortKey = h
  sort_clean key h _ = refl

  key_told : (s : SortSpecification) (o : status.Outcome ℕ) → key_column names s.key ≡ o → Told j (site s ∷ []) (or_fault fault.BadSortKey (result_ok o))
  key_told s (Ok k) is = λ held. clean_more j (site s) [] (sort_clean s.key (ap is_err is)) (no_site j)
  key_told s (Err e) is = fault_here j fault.BadSortKey (site s) [] (ap is_err is)

  sort_told : (s : SortSpecification) → Told j (site s ∷ []) (sort_column_bound names s)
  sort_told s = told_made j (site s ∷ []) (or_fault fault.BadSortKey (result_ok (key_column names s.key))) (λ column. record { column = column; descending = goes_down s.direction }) (key_told s (key_column names s.key) refl)

  pub order_told : (order : List SortSpecification) → Told j (map site order) (order_bound names order)
  order_told [] = λ held. no_site j
  order_told (s ∷ order) =
      told_then j (site s ∷ []) (map site order) (sort_column_bound names s) (λ column. and_then (order_bound names order) (λ columns. Ok (column ∷ columns))) (sort_told s)
      (λ column is. told_made j (map site order) (order_bound names order) (λ columns. column ∷ columns) (order_told order))
