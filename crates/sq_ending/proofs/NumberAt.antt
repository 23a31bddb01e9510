-- The row at a place, while rows are walked over.
use Rattle.std.proofs.Common.{◌≡◌, ℕ, zero, suc, ◌-◌, List, [], ◌∷◌, slice_get, None, Some, sym, ◌∙◌, ap, arith, refl}
use Rattle.std.specs.Option.{option_map}
use Rattle.sq_store.specs.declared.table.Numbered.{Numbered}

-- the next row is passed over
pub passed : (all rest more : List Numbered) (place left : ℕ) (r : Numbered) → slice_get all place ≡ slice_get rest left → rest ≡ r ∷ more → (left ≡ 0 → ⊥) → slice_get all place ≡ slice_get more (left - 1)
passed all rest more place zero r so_far next some = absurd (some refl)
passed all rest more place (suc left) r so_far next some =
    let same : left ≡ suc left - 1 = omega arith in so_far ∙ ap (λ (rs : List Numbered). slice_get rs (suc left)) next ∙ ap (slice_get more) same

-- the next row is the one
pub reached : (all rest more : List Numbered) (place left : ℕ) (r : Numbered) → slice_get all place ≡ slice_get rest left → rest ≡ r ∷ more → left ≡ 0 → Some r.number ≡ option_map (λ (s : Numbered). s.number) (slice_get all place)
reached all rest more place left r so_far next none =
    sym (ap (option_map (λ (s : Numbered). s.number)) (so_far ∙ ap (slice_get rest) none ∙ ap (λ (rs : List Numbered). slice_get rs 0) next))

-- no row is left
pub not_reached : (all rest : List Numbered) (place left : ℕ) → slice_get all place ≡ slice_get rest left → rest ≡ [] → None ≡ option_map (λ (s : Numbered). s.number) (slice_get all place)
not_reached all rest place left so_far none =
    sym (ap (option_map (λ (s : Numbered). s.number)) (so_far ∙ ap (λ (rs : List Numbered). slice_get rs left) none))
