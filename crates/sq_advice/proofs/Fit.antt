-- Lists of what passes a test, made one after the other.
use Rattle.std.proofs.Common.{◌≡◌, ◌∙◌, ℕ, ◌+◌, ◌<◌, Bool, List, [], ◌∷◌, ◌++◌, ap, arith, get_or, length, map, sym, take}
use Rattle.std.proofs.lemmas.List.{map-append, take_more}
use Rattle.std.proofs.lemmas.List.Elements.{filter-append}
use Rattle.std.specs.List.{filter}

-- those that pass among one more
pub fit_next : {X Y : Type 0} (p : X → Bool) (f : Y → X) (ys : List Y) (before : List X) (i : ℕ) (y : Y) → i < length ys → y ≡ get_or ys i y
    → before ≡ filter p (map f (take i ys)) → before ++ filter p (f y ∷ []) ≡ filter p (map f (take (i + 1) ys))
fit_next p f ys before i y lt e is =
    let more : take (i + 1) ys ≡ take i ys ++ y ∷ [] = grind (arith, take_more ys i y lt, e) in
    let split : filter p (map f (take i ys ++ y ∷ [])) ≡ filter p (map f (take i ys)) ++ filter p (f y ∷ []) =
    ap (filter p) (map-append f (take i ys) (y ∷ [])) ∙ filter-append p (map f (take i ys)) (f y ∷ []) in
    ap (λ l. l ++ filter p (f y ∷ [])) is ∙ sym split ∙ ap (λ l. filter p (map f l)) (sym more)
