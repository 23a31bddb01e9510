-- Texts that are added for each element of a list, one after the other.
use Rattle.std.proofs.Common.{◌≡◌, ◌∙◌, ℕ, ◌+◌, ◌<◌, List, [], ◌∷◌, ◌++◌, ap, arith, flat_map, get_or, length, sym, take}
use Rattle.std.proofs.lemmas.List.{append-nil, append_assoc, take_more}
use Rattle.std.proofs.lemmas.Grind.{flat_map-append}

pub added_next : {X Y : Type 0} (f : X → List Y) (xs : List X) (start before : List Y) (i : ℕ) (x : X) → i < length xs → x ≡ get_or xs i x → before ≡ start ++ flat_map f (take i xs)
    → before ++ f x ≡ start ++ flat_map f (take (i + 1) xs)
added_next f xs start before i x lt e is =
    let more : flat_map f (take (i + 1) xs) ≡ flat_map f (take i xs) ++ f x = grind (arith, take_more xs i x lt, e, flat_map-append f (take i xs) (x ∷ []), append-nil (f x)) in
    ap (λ l. l ++ f x) is ∙ append_assoc start (flat_map f (take i xs)) (f x) ∙ ap (λ l. start ++ l) (sym more)
