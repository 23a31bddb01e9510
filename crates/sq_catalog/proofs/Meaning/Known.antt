-- What names mean, where tables and views stand in their order.
use Rattle.std.proofs.Common.{◌≡◌, ℕ, List, Option, Some, map, sym, ap, ◌∙◌}
use Rattle.std.proofs.lemmas.Option.{slice_get-map}
use Rattle.std.specs.Prelude.{slice_get}
use Rattle.std.specs.Option.{option_map}
use Rattle.sq_bound.specs.Known.{KnownTable, known_by, under_of}
use Rattle.sq_bound.specs.WellFormed.{place_of}
use Rattle.sq_bound.specs.declared.condition.TablePlace.{TablePlace}
use Rattle.sq_bound.specs.declared.condition.TablePlace.TheVariants.{Base, View}
use Rattle.sq_bound.specs.declared.names.Leaf.{Leaf}
use Rattle.sq_bound.specs.declared.names.TableBody.{TableBody}
use Rattle.sq_bound.specs.declared.names.TableBody.TheVariants as body
use Rattle.sq_bound.specs.declared.names.TableDesc.{TableDesc}
use Rattle.sq_catalog.specs.Catalog.{base_meant, itself, known_at, view_meant}
use Rattle.sq_catalog.specs.Stored.{IsUnderItself, columns_of, seen, seen_of}
use Rattle.sq_catalog.specs.declared.catalog.FullName.{FullName}

-- the one at a place is what it is read as
read_as : {A : Type 0} (meant : ℕ → A → KnownTable) (read : TableDesc → A) (entries : List (FullName × TableDesc)) (n : ℕ) (name : FullName) (t : TableDesc) (number : Option ℕ) → number ≡ Some n → slice_get entries n ≡ Some (name, t)
    → known_at meant (map (λ e. read e.1) entries) number ≡ Some (meant n (read t))
read_as meant read entries n name t number e there =
    let all = map (λ (e : FullName × TableDesc). read e.1) entries in
    let at : slice_get all n ≡ Some (read t) = slice_get-map (λ (e : FullName × TableDesc). read e.1) entries n ∙ ap (option_map (λ (e : FullName × TableDesc). read e.1)) there in
    ap (known_at meant all) e ∙ ap (option_map (meant n)) at

base_under : (b : TableBody) (under : Option Leaf) (n : ℕ) → place_of b ≡ Base n → IsUnderItself b under → option_map under_of under ≡ Some (itself n)
base_under (body.Base own) under n at is = is ∙ ap (λ place. Some (itself (number place))) at
  where
    number : TablePlace → ℕ
    number (Base k) = k
    number (View k) = k
base_under (body.View v) under n at is = absurd cc

-- a base table that stands under its number
pub base_here : (entries : List (FullName × TableDesc)) (n : ℕ) (name : FullName) (t : TableDesc) (number : Option ℕ) → number ≡ Some n → slice_get entries n ≡ Some (name, t) → place_of t.body ≡ Base n → IsUnderItself t.body t.leaf
    → Some (known_by t) ≡ known_at base_meant (columns_of entries) number
base_here entries n name t number e there stands under =
    (λ i. Some (record { place = stands i; columns = t.columns; under = base_under t.body t.leaf n stands under i }))
    ∙ sym (read_as base_meant (λ (t : TableDesc). t.columns) entries n name t number e there)

-- a view that stands under its number
pub view_here : (entries : List (FullName × TableDesc)) (n : ℕ) (name : FullName) (t : TableDesc) (number : Option ℕ) → number ≡ Some n → slice_get entries n ≡ Some (name, t) → place_of t.body ≡ View n
    → Some (known_by t) ≡ known_at view_meant (seen_of entries) number
view_here entries n name t number e there stands =
    (λ i. Some (record { place = stands i; columns = t.columns; under = option_map under_of t.leaf })) ∙ sym (read_as view_meant seen entries n name t number e there)
