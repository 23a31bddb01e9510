-- What a column reference means is looked up alike by the rules of well-formed statements and by evaluation (ISO/IEC
-- 9075:1992, 6.4).
use Rattle.std.proofs.Common.{ap, ◌∙◌}
use Rattle.std.specs.Prelude.{◌≡◌, ℕ, List, [], ◌∷◌, map, slice_get, refl, Ok}
use Rattle.sq_tree.specs.declared.names.ColumnReference.{ColumnReference}
use Rattle.sq_meaning.specs.Environment.{Place, fitting, nearest, place_of}
use Rattle.sq_meaning.specs.Status.{Outcome, well_formed, ◌>>=◌}
use Rattle.sq_meaning.specs.Binding.{fits, items_here, nearest_fits, one_further}
use Rattle.sq_meaning.specs.Site.{EnclosingQuery, Known}

further : (ps : List Place) → (well_formed (slice_get ps 0) >>= λ p. Ok (one_further p)) ≡ well_formed (slice_get (map one_further ps) 0)
further [] = refl
further (p ∷ ps) = refl

-- what the nearest query says, where those around it agree
among : (k : Known) (c : ColumnReference) (queries : List EnclosingQuery) (found : List (ℕ × ℕ))
    → place_of c (map (items_here k) queries) ≡ well_formed (slice_get (fits k c queries) 0)
    → nearest found (place_of c (map (items_here k) queries))
    ≡ well_formed (slice_get (nearest_fits (map (λ f. record { depth = 0; item = f.0; column = f.1 }) found) (fits k c queries)) 0)
among k c queries [] so_further = ap (λ (o : Outcome Place). o >>= λ p. Ok (one_further p)) so_further ∙ further (fits k c queries)
among k c queries (f ∷ found) so_further = refl

-- A column reference means the first of the columns that it fits.
pub means_first_fit : (k : Known) (c : ColumnReference) (queries : List EnclosingQuery)
    → place_of c (map (items_here k) queries) ≡ well_formed (slice_get (fits k c queries) 0)
means_first_fit k c [] = refl
means_first_fit k c (query ∷ queries) = among k c queries (fitting c (items_here k query)) (means_first_fit k c queries)
