-- The names of a list of entries, made one entry after the other.
use Rattle.std.proofs.Common.{◌≡◌, ◌∙◌, ℕ, ◌+◌, ◌<◌, List, [], ◌∷◌, ◌++◌, ap, arith, flat_map, get_or, length, sym, take}
use Rattle.std.proofs.lemmas.List.{append-nil, take_more}
use Rattle.std.proofs.lemmas.Grind.{flat_map-append}

pub listed_next : {X Y : Type 0} (f : X → List Y) (xs : List X) (before : List Y) (i : ℕ) (x : X) → i < length xs → x ≡ get_or xs i x → before ≡ flat_map f (take i xs)
    → before ++ f x ≡ flat_map f (take (i + 1) xs)
listed_next f xs before i x lt e is =
    let more : flat_map f (take (i + 1) xs) ≡ flat_map f (take i xs) ++ f x = grind (arith, take_more xs i x lt, e, flat_map-append f (take i xs) (x ∷ []), append-nil (f x)) in
    ap (λ l. l ++ f x) is ∙ sym more
