-- The kinds of the columns of a view's query are noted right in a catalog whose views' queries
-- are well formed (ISO/IEC 9075:1992, 7.9 and 11.19), so only the kinds of the view's own
-- columns are left to ask for.
use mathlib.Core.Bool.{Bool-set}
use Rattle.std.proofs.Common.{◌≡◌, ℕ, suc, Bool, true, false, List, [], ◌∷◌, Some, refl, ap, subst, ◌∙◌, eqb-true, eq-eqb, Ok, Err}
use Rattle.std.proofs.Math.Logic.{∥∥₁_elim}
use Rattle.std.specs.Cmp.Lexicographic.{pointwise}
use Rattle.std.specs.Prelude.{◌&&◌, if◌then◌else◌, nat_lt, slice_get}
use Rattle.std.specs.List.{AllZip}
use Rattle.std.specs.Option.{option_map}
use Rattle.std.proofs.lemmas.Bool.{and_parts}
use Rattle.sq_value.specs.declared.domain.Kind.{Kind}
use Rattle.sq_value.specs.declared.domain.Kind.TheVariants.{Num, Chars, Vary}
use Rattle.sq_meaning.specs.Kind.{select_kinds}
use Rattle.sq_meaning.specs.Status.{Outcome, not_well_formed, well_formed}
use Rattle.sq_meaning.specs.WellFormed.{Has, kinds_by_place}
use Rattle.sq_bound.specs.Condition.{select_of as placed_of}
use Rattle.sq_bound.specs.Names.{same_kind}
use Rattle.sq_bound.specs.WellFormed.{Extends, IsSelect, TableKinds, before_view, kinds_of_columns, kinds_of_select}
use Rattle.sq_bound.specs.declared.condition.BoundSpecification.{BoundSpecification}
use Rattle.sq_bound.specs.declared.condition.TablePlace.TheVariants.{Base, View}
use Rattle.sq_bound.specs.declared.names.BaseTable.{BaseTable}
use Rattle.sq_bound.proofs.Wider.{is_select_wider}
use Rattle.sq_catalog.specs.Catalog.{AreViewQueries, SeenView, kinds_at}
use Rattle.sq_run.proofs.Schemas.DeclaredView.{HasKindsOf}

-- ---- kinds that are the same

itself : (k : Kind) → same_kind k k ≡ true
itself (Num s) = eq-eqb s s refl
itself (Chars n) = eq-eqb n n refl
itself (Vary n) = eq-eqb n n refl

kind_is : (k l : Kind) → same_kind k l ≡ true → k ≡ l
kind_is (Num s) (Num t) h = ap Num (eqb-true s t h)
kind_is (Num s) (Chars n) h = cc
kind_is (Num s) (Vary n) h = cc
kind_is (Chars m) (Num t) h = cc
kind_is (Chars m) (Chars n) h = ap Chars (eqb-true m n h)
kind_is (Chars m) (Vary n) h = cc
kind_is (Vary m) (Num t) h = cc
kind_is (Vary m) (Chars n) h = cc
kind_is (Vary m) (Vary n) h = ap Vary (eqb-true m n h)

kinds_are : (ks ls : List Kind) → pointwise same_kind ks ls ≡ true → ks ≡ ls
kinds_are [] [] h = refl
kinds_are [] (l ∷ ls) h = cc
kinds_are (k ∷ ks) [] h = cc
kinds_are (k ∷ ks) (l ∷ ls) h =
    let both = and_parts (same_kind k l) (pointwise same_kind ks ls) h in (λ i. kind_is k l both.0 i ∷ kinds_are ks ls both.1 i)

all_itself : (ks : List Kind) → pointwise same_kind ks ks ≡ true
all_itself [] = refl
all_itself (k ∷ ks) = (λ i. itself k i && all_itself ks i)

abbrev has_kinds : Outcome (List Kind) → List Kind → Bool
has_kinds (Ok ls) ks = pointwise same_kind ls ks
has_kinds (Err st) ks = false

found_kinds : (o : Outcome (List Kind)) (ks : List Kind) → has_kinds o ks ≡ true → o ≡ Ok ks
found_kinds (Ok ls) ks h = ap (λ (l : List Kind). Ok l) (kinds_are ls ks h)
found_kinds (Err st) ks h = cc

-- ---- a view's query

what_was : (place : ℕ) (columns : TableKinds) → Extends (before_view place columns) columns
what_was place columns (Base n) kinds e = e
what_was place columns (View n) kinds e = by_place (nat_lt n place) e
  where
    by_place : (b : Bool) → (if b then columns (View n) else not_well_formed) ≡ Ok kinds → columns (View n) ≡ Ok kinds
    by_place true e = e
    by_place false e = cc

module _ (bases : List BaseTable) (views : List BoundSpecification) (stand : AreViewQueries bases views) where
  pub noted_right : (place : ℕ) (q : BoundSpecification) → slice_get views place ≡ Some q
      → select_kinds (kinds_by_place (kinds_at bases views) []) [] (placed_of q) ≡ Ok (kinds_of_select q)
  noted_right place q at =
      let prop : IsProp (has_kinds (select_kinds (kinds_by_place (kinds_at bases views) []) [] (placed_of q)) (kinds_of_select q) ≡ true) = hlevel (Bool-set) in
      found_kinds (select_kinds (kinds_by_place (kinds_at bases views) []) [] (placed_of q)) (kinds_of_select q)
      (∥∥₁_elim {P = has_kinds (select_kinds (kinds_by_place (kinds_at bases views) []) [] (placed_of q)) (kinds_of_select q) ≡ true} (stand place (kinds_of_select q) (ap (λ o. well_formed (option_map kinds_of_select o)) at)) prop
      (λ h. of_query (subst (λ o. Has (λ p. IsSelect (before_view place (kinds_at bases views)) [] [] p × (kinds_of_select q ≡ kinds_of_select p)) (well_formed o)) at h)))
    where
      of_query : IsSelect (before_view place (kinds_at bases views)) [] [] q × (kinds_of_select q ≡ kinds_of_select q)
          → has_kinds (select_kinds (kinds_by_place (kinds_at bases views) []) [] (placed_of q)) (kinds_of_select q) ≡ true
      of_query h =
          ap (λ o. has_kinds o (kinds_of_select q))
          (is_select_wider (before_view place (kinds_at bases views)) (kinds_at bases views) [] [] (what_was place (kinds_at bases views)) (λ n k e. e) [] q h.0).kinds_are
          ∙ all_itself (kinds_of_select q)

  kinds_from : (seen : List SeenView) (rest : List BoundSpecification) → ((n : ℕ) (q : BoundSpecification) → slice_get rest n ≡ Some q
      → select_kinds (kinds_by_place (kinds_at bases views) []) [] (placed_of q) ≡ Ok (kinds_of_select q))
      → AllZip (λ v q. kinds_of_columns v.columns ≡ kinds_of_select q) seen rest → AllZip (HasKindsOf (kinds_at bases views)) seen rest
  kinds_from [] [] noted h = tt
  kinds_from [] (q ∷ rest) noted h = absurd h
  kinds_from (v ∷ seen) [] noted h = absurd h
  kinds_from (v ∷ seen) (q ∷ rest) noted h =
      (record { noted = h.0; kinds_are = noted 0 q refl }, kinds_from seen rest (λ n p at. noted (suc n) p at) h.1)

  -- Where the columns of each view have the kinds of its query's columns, that is all that is asked for.
  pub kinds_are_right : (seen : List SeenView) → AllZip (λ v q. kinds_of_columns v.columns ≡ kinds_of_select q) seen views
      → AllZip (HasKindsOf (kinds_at bases views)) seen views
  kinds_are_right seen h = kinds_from seen views noted_right h
