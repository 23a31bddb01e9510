-- The keys in which rows may lose their values are found.
use Rattle.std.proofs.Common.{◌≡◌, ℕ, ◌+◌, ◌<◌, ◌≤◌, ◌≢◌, Bool, true, false, nat_eq, ◌||◌, List, [], ◌∷◌, ◌++◌, length, get_or, slice_get, Some, Result, Ok, Err, IfOk, Vec, Global, refl, sym, ap, ◌∙◌, arith}
use Rattle.std.specs.List.{list_any, range_with_len}
use Rattle.std.proofs.lemmas.Bool.{eq-eqb, eqb-false, eqb-true}
use Rattle.std.proofs.lemmas.Grind.{common_steps}
use Rattle.std.proofs.lemmas.List.Folds.{list_any-append, list_any_at}
use Rattle.std.proofs.lemmas.List.FromFn.{get_or-range_with_len, length-range_with_len}
use Rattle.std.proofs.lemmas.Option.{get_or_from_slice_get, slice_get_within}
use Rattle.sq_store.specs.Keys.{Keys}
use Rattle.sq_bound.specs.declared.statement.BoundAssignment.{BoundAssignment}
use Rattle.sq_change.specs.Reference.{LosesAll, LosesAssigned, is_assigned}

-- ---- UPDATE

-- the keys before this one that have an assigned column
abbrev pub LosesFirst : Keys → List BoundAssignment → List ℕ → ℕ → Type 0
LosesFirst keys assignments lost i =
    (key : ℕ) (columns : List ℕ) → key < i → slice_get keys key ≡ Some columns → list_any (nat_eq key) lost ≡ false → is_assigned columns assignments ≡ false

module _ (keys : Keys) (assignments : List BoundAssignment) (lost : List ℕ) (i : ℕ) (so_far : LosesFirst keys assignments lost i) where
  pub loses_more : (more : List ℕ) → more ≡ lost ++ i ∷ [] → LosesFirst keys assignments more (i + 1)
  loses_more more joined key columns lt at unlost = by (nat_eq key i) refl
    where
      none : (list_any (nat_eq key) lost || list_any (nat_eq key) (i ∷ [])) ≡ false
      none = sym (list_any-append (nat_eq key) lost (i ∷ [])) ∙ sym (ap (list_any (nat_eq key)) joined) ∙ unlost

      by : (b : Bool) → nat_eq key i ≡ b → is_assigned columns assignments ≡ false
      by true e = absurd (grind (arith, common_steps))
      by false e =
          let other : key ≢ i = eqb-false key i e in
          so_far key columns (omega arith) at (grind (arith, common_steps))

  pub loses_no_more : (more : List ℕ) → more ≡ lost → (columns : List ℕ) → columns ≡ get_or keys i columns → is_assigned columns assignments ≡ false → LosesFirst keys assignments more (i + 1)
  loses_no_more more same columns is none key others lt at unlost = by (nat_eq key i) refl
    where
      by : (b : Bool) → nat_eq key i ≡ b → is_assigned others assignments ≡ false
      by true e =
          let here : key ≡ i = eqb-true key i e in
          let found : others ≡ columns = sym (get_or_from_slice_get keys key others columns at) ∙ ap (λ (k : ℕ). get_or keys k columns) here ∙ sym is in
          ap (λ (c : List ℕ). is_assigned c assignments) found ∙ none
      by false e =
          let other : key ≢ i = eqb-false key i e in
          so_far key others (omega arith) at (sym (ap (list_any (nat_eq key)) same) ∙ unlost)

  pub loses_at_end : length keys ≤ i → LosesAssigned keys assignments lost
  loses_at_end past key columns at unlost = so_far key columns (omega (arith, slice_get_within keys key columns at)) at unlost

-- ---- DELETE

loses_all : (keys : Keys) (lost : List ℕ) → lost ≡ range_with_len 0 (length keys) → LosesAll keys lost
loses_all keys lost is key lt =
    ap (list_any (nat_eq key)) is
    ∙ list_any_at (nat_eq key) (range_with_len 0 (length keys)) key 0 (omega (arith, length-range_with_len 0 (length keys)))
    (eq-eqb key (get_or (range_with_len 0 (length keys)) key 0) (omega (arith, get_or-range_with_len 0 (length keys) key 0 lt)))

pub all_lost : {E : Type 0} (keys : Keys) (result : Result (Vec ℕ Global) E) → IfOk result (λ lost. lost.items ≡ range_with_len 0 (length keys)) → IfOk result (λ lost. LosesAll keys lost.items)
all_lost keys (Ok lost) is = loses_all keys lost.items is
all_lost keys (Err e) is = tt
