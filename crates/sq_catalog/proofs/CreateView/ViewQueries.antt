-- The views of a catalog, each at its place, with their queries.
use Rattle.std.proofs.Common.{◌≡◌, ℕ, zero, suc, ◌+◌, List, [], ◌∷◌, ◌++◌, length, Option, Some, None, Ok, refl, ap, sym, subst, ◌∙◌, arith}
use Rattle.std.specs.List.{slice_get}
use Rattle.std.specs.Option.{IfSome, option_map}
use Rattle.std.specs.Borrow.{Bor}
use Rattle.std.proofs.lemmas.List.Elements.{All-get_or}
use Rattle.std.proofs.lemmas.Option.{get_or_from_slice_get, slice_get_within}
use Rattle.sq_value.specs.declared.domain.Kind.{Kind}
use Rattle.sq_meaning.specs.Status.{Outcome, well_formed}
use Rattle.sq_meaning.specs.WellFormed.{Has}
use Rattle.sq_bound.specs.WellFormed.{IsBody as IsBodyOver, IsSelect, IsTable, IsViewAmong, TableKinds, before_view, kinds_of_columns, kinds_of_select, place_of}
use Rattle.sq_bound.specs.declared.condition.BoundSpecification.{BoundSpecification}
use Rattle.sq_bound.specs.declared.condition.TablePlace.TheVariants.{Base, View}
use Rattle.sq_bound.specs.declared.names.BaseTable.{BaseTable}
use Rattle.sq_bound.specs.declared.names.TableBody.{TableBody}
use Rattle.sq_bound.specs.declared.names.TableBody.TheVariants as body
use Rattle.sq_bound.specs.declared.names.TableDesc.{TableDesc}
use Rattle.sq_catalog.specs.Catalog.{AreViewQueries, kinds_at}
use Rattle.sq_catalog.specs.Stored.{AreTables, StandFrom, StandsAt, queries_of, query_in}
use Rattle.sq_catalog.specs.declared.catalog.FullName.{FullName}

same_place : (m n : ℕ) → View m ≡ View n → m ≡ n
same_place m n e = cc

some_query : (p q : BoundSpecification) → Some p ≡ Some q → p ≡ q
some_query p q e = cc

same_kinds : (p q : List Kind) → (let found : Outcome (List Kind) = Ok p in found ≡ Ok q) → p ≡ q
same_kinds p q e = cc

-- ---- a view in front of others

module _ (n : ℕ) (rest : List BoundSpecification) where
  one_more : (b : TableBody) → place_of b ≡ View n → length (query_in b ++ rest) ≡ suc (length rest)
  one_more (body.Base own) e = absurd cc
  one_more (body.View v) e = refl

  behind_it : (b : TableBody) (place : ℕ) → place_of b ≡ View n → slice_get (query_in b ++ rest) (suc place) ≡ slice_get rest place
  behind_it (body.Base own) place e = absurd cc
  behind_it (body.View v) place e = refl

-- the view at a place with this query
abbrev IsViewOf : ℕ → Option BoundSpecification → TableBody → Type 0
IsViewOf place found (body.Base own) = ⊥
IsViewOf place found (body.View v) = (v.place ≡ place) × (found ≡ Some v.query)

in_front : (n : ℕ) (rest : List BoundSpecification) (b : TableBody) → place_of b ≡ View n → IsViewOf n (slice_get (query_in b ++ rest) zero) b
in_front n rest (body.Base own) e = absurd cc
in_front n rest (body.View v) e = (same_place v.place n e, refl)

-- as many queries as views
pub queries_long : (n : ℕ) (es : List (FullName × TableDesc)) → StandFrom View n es → length (queries_of es) ≡ length es
queries_long n [] h = refl
queries_long n (e ∷ es) h = one_more n (queries_of es) e.1.body h.0 ∙ ap suc (queries_long (suc n) es h.1)

-- the query at a place is that of the view there
query_at : (n : ℕ) (es : List (FullName × TableDesc)) (place : ℕ) (e : FullName × TableDesc) → StandFrom View n es → slice_get es place ≡ Some e → IsViewOf (n + place) (slice_get (queries_of es) place) e.1.body
query_at n [] place e h there = absurd cc
query_at n (x ∷ es) zero e h there =
    let same : x ≡ e = cc in
    let at : n ≡ n + zero = omega arith in
    subst (λ (y : FullName × TableDesc). IsViewOf (n + zero) (slice_get (queries_of (x ∷ es)) zero) y.1.body) same
    (subst (λ p. IsViewOf p (slice_get (queries_of (x ∷ es)) zero) x.1.body) at (in_front n (queries_of es) x.1.body h.0))
query_at n (x ∷ es) (suc place) e h there =
    let at : suc n + place ≡ n + suc place = omega arith in
    subst (λ p. IsViewOf p (slice_get (queries_of (x ∷ es)) (suc place)) e.1.body) at
    (subst (λ o. IsViewOf (suc n + place) o e.1.body) (sym (behind_it n (queries_of es) x.1.body place h.0)) (query_at (suc n) es place e h.1 there))

-- where there is a query, there is a view
view_at : (n : ℕ) (es : List (FullName × TableDesc)) (place : ℕ) (q : BoundSpecification) → StandFrom View n es → slice_get (queries_of es) place ≡ Some q → (e : FullName × TableDesc) × (slice_get es place ≡ Some e)
view_at n [] place q h there = absurd cc
view_at n (x ∷ es) zero q h there = (x, refl)
view_at n (x ∷ es) (suc place) q h there = view_at (suc n) es place q h.1 (sym (behind_it n (queries_of es) x.1.body place h.0) ∙ there)

-- ---- the queries are well formed

of_body : (columns : TableKinds) (place : ℕ) (q : BoundSpecification) (ks : List Kind) (b : TableBody) → IsViewOf place (Some q) b → IsBodyOver columns ks b → IsSelect (before_view place columns) [] [] q
of_body columns place q ks (body.Base own) at h = absurd at
of_body columns place q ks (body.View v) at h =
    subst (λ s. IsSelect (before_view place columns) [] [] s) (sym (some_query q v.query at.1)) (subst (λ m. IsSelect (before_view m columns) [] [] v.query) at.0 h.0)

module _ (bases : List BaseTable) (es : List (FullName × TableDesc)) (tables : AreTables (kinds_at bases (queries_of es)) es) (stand : StandFrom View 0 es) where
  at_place : (place : ℕ) (q : BoundSpecification) → slice_get (queries_of es) place ≡ Some q → IsSelect (before_view place (kinds_at bases (queries_of es))) [] [] q
  at_place place q there =
      let found = view_at 0 es place q stand there in
      let t : IsTable (kinds_at bases (queries_of es)) found.0.1 =
      subst (λ (x : FullName × TableDesc). IsTable (kinds_at bases (queries_of es)) x.1) (get_or_from_slice_get es place found.0 found.0 found.1)
      (All-get_or (λ (x : FullName × TableDesc). IsTable (kinds_at bases (queries_of es)) x.1) es place found.0 (slice_get_within es place found.0 found.1) tables) in
      let same : 0 + place ≡ place = omega arith in
      of_body (kinds_at bases (queries_of es)) place q (kinds_of_columns found.0.1.columns) found.0.1.body
      (subst (λ p. IsViewOf p (Some q) found.0.1.body) same (subst (λ o. IsViewOf (0 + place) o found.0.1.body) there (query_at 0 es place found.0 stand found.1))) t.body

  of_query : (place : ℕ) (kinds : List Kind) (o : Option BoundSpecification) → slice_get (queries_of es) place ≡ o → well_formed (option_map kinds_of_select o) ≡ Ok kinds
      → Has (λ q. IsSelect (before_view place (kinds_at bases (queries_of es))) [] [] q × (kinds ≡ kinds_of_select q)) (well_formed o)
  of_query place kinds None there known = absurd cc
  of_query place kinds (Some q) there known = (at_place place q there, sym (same_kinds (kinds_of_select q) kinds known))

  pub stand_all : AreViewQueries bases (queries_of es)
  stand_all place kinds known = ∣ of_query place kinds (slice_get (queries_of es) place) refl known ∣₁

-- ---- views that are read

among : (queries : List BoundSpecification) (place : ℕ) (b : TableBody) → IsViewOf place (slice_get queries place) b → IsViewAmong queries b
among queries place (body.Base own) h = absurd h
among queries place (body.View v) h = ap (slice_get queries) h.0 ∙ h.1

pub view_read : (es : List (FullName × TableDesc)) (place : ℕ) (name : FullName) (t : TableDesc) → StandFrom View 0 es → slice_get es place ≡ Some (name, t) → IsViewAmong (queries_of es) t.body
view_read es place name t h there =
    let same : 0 + place ≡ place = omega arith in
    among (queries_of es) place t.body (subst (λ p. IsViewOf p (slice_get (queries_of es) place) t.body) same (query_at 0 es place (name, t) h there))

pub views_read : (queries : List BoundSpecification) (o : Option (Bor TableDesc)) (es : List (FullName × TableDesc)) (place : ℕ) → queries_of es ≡ queries → StandFrom View 0 es → IfSome o (λ t. StandsAt es place t.now) → IfSome o (λ t. IsViewAmong queries t.now.body)
views_read queries None es place same h there = tt
views_read queries (Some t) es place same h there = subst (λ (qs : List BoundSpecification). IsViewAmong qs t.now.body) same (view_read es place there.0 t.now h there.1)

-- a base table has no query
pub base_among : (queries : List BoundSpecification) (place : ℕ) (b : TableBody) → place_of b ≡ Base place → IsViewAmong queries b
base_among queries place (body.Base own) e = tt
base_among queries place (body.View v) e = absurd cc

pub bases_among : (queries : List BoundSpecification) (o : Option (Bor TableDesc)) (place : ℕ) → IfSome o (λ t. place_of t.now.body ≡ Base place) → IfSome o (λ t. IsViewAmong queries t.now.body)
bases_among queries None place h = tt
bases_among queries (Some t) place h = base_among queries place t.now.body h
