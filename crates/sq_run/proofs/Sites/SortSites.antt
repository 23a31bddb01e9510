-- A sort key that no rule refuses means a column (ISO/IEC 9075:1992, 13.1).
use Rattle.std.specs.Prelude.{ℕ, List, [], ◌∷◌, Option, Ok, Err}
use Rattle.sq_lex.specs.declared.name.Name.{Name}
use Rattle.sq_tree.specs.declared.module.SortSpecification.{SortSpecification}
use Rattle.sq_meaning.specs.Rows.{SortColumn}
use Rattle.sq_meaning.specs.SortKeys.{goes_down, key_column, sort_columns}
use Rattle.sq_meaning.specs.Status.{Outcome, and_then}
use Rattle.sq_meaning.specs.WellFormed.{HasValue}
use Rattle.sq_run.proofs.Sites.ExpressionSites.{not_err}
use Rattle.sq_run.proofs.Sites.SiteLaws.{AreSound}
use Rattle.sq_meaning.specs.Site.{Known}
use Rattle.sq_meaning.specs.WellFormedStatement.{sort_sites}

both_valued : {A B : Type 0} (o : Outcome A) (f : A → B) (rest : Outcome (List B)) → HasValue o → HasValue rest → HasValue (and_then (and_then o (λ x. Ok (f x))) (λ y. and_then rest (λ ys. Ok (y ∷ ys))))
both_valued (Ok x) f (Ok ys) h g = tt
both_valued (Ok x) f (Err status) h g = absurd g
both_valued (Err status) f rest h g = absurd h

abbrev sort_column : SortSpecification → ℕ → SortColumn
sort_column sort n = record { column = n; descending = goes_down sort.direction }

-- sort keys that no rule refuses mean columns
pub sort_columns_there : (k : Known) (names : List (Option Name)) (sorts : List SortSpecification) → AreSound k (sort_sites (Ok names) sorts) → HasValue (sort_columns names sorts)
sort_columns_there k names [] s = tt
sort_columns_there k names (sort ∷ sorts) s =
    both_valued (key_column names sort.key) (sort_column sort) (sort_columns names sorts)
    (not_err (key_column names sort.key) s.0.sort_keys) (sort_columns_there k names sorts s.1)

-- The sort keys mean columns where the names of the result columns are known.
pub sort_order_there : (k : Known) (names : Outcome (List (Option Name))) (sorts : List SortSpecification) → HasValue names → AreSound k (sort_sites names sorts)
    → HasValue (and_then names (λ known. sort_columns known sorts))
sort_order_there k (Ok names) sorts h s = sort_columns_there k names sorts s
sort_order_there k (Err status) sorts h s = absurd h
