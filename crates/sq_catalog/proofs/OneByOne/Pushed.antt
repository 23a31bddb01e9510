-- What a loop makes of each element of a list, one behind the other.
use Rattle.std.proofs.Common.{◌≡◌, ℕ, ◌+◌, ◌<◌, List, [], ◌∷◌, ◌++◌, flat_map, fold, get_or, length, map, take, sym, ap, ◌∙◌}
use Rattle.std.proofs.lemmas.List.{append-nil, append_assoc, map_push}
use Rattle.std.proofs.lemmas.List.Sums.{fold-append}
use Rattle.sq_catalog.proofs.OneByOne.Turns.{taken}

pub fold_read : {A B C : Type 0} (f : C → B → C) (a : C) (g : A → B) (xs : List A) (i : ℕ) (x : A) → i < length xs → x ≡ get_or xs i x → fold f a (map g (take (i + 1) xs)) ≡ f (fold f a (map g (take i xs))) (g x)
fold_read f a g xs i x lt e = ap (λ l. fold f a (map g l)) (taken xs i x lt e) ∙ ap (fold f a) (map_push g (take i xs) x) ∙ fold-append f a (map g (take i xs)) (g x ∷ [])

-- an element is pushed for each
pub pushed_behind : {A B P : Type 0} (v : P → B) (f : A → B) (base : List B) (xs : List A) (i : ℕ) (x : A) (before after : List P) (p : P) → i < length xs → x ≡ get_or xs i x
    → after ≡ before ++ p ∷ [] → v p ≡ f x → map v before ≡ base ++ map f (take i xs) → map v after ≡ base ++ map f (take (i + 1) xs)
pushed_behind v f base xs i x before after p lt e grown same h =
    ap (map v) grown ∙ map_push v before p ∙ (λ j. h j ++ same j ∷ []) ∙ append_assoc base (map f (take i xs)) (f x ∷ [])
    ∙ sym (ap (λ l. base ++ map f l) (taken xs i x lt e) ∙ ap (λ l. base ++ l) (map_push f (take i xs) x))

flat_push : {A B : Type 0} (f : A → List B) (xs : List A) (x : A) → flat_map f (xs ++ x ∷ []) ≡ flat_map f xs ++ f x
flat_push f [] x = append-nil (f x)
flat_push f (y ∷ xs) x = ap (λ l. f y ++ l) (flat_push f xs x) ∙ sym (append_assoc (f y) (flat_map f xs) (f x))

-- some are pushed for each
pub joined_behind : {A B : Type 0} (f : A → List B) (base : List B) (xs : List A) (i : ℕ) (x : A) (before after : List B) → i < length xs → x ≡ get_or xs i x
    → after ≡ before ++ f x → before ≡ base ++ flat_map f (take i xs) → after ≡ base ++ flat_map f (take (i + 1) xs)
joined_behind f base xs i x before after lt e grown h =
    grown ∙ ap (λ l. l ++ f x) h ∙ append_assoc base (flat_map f (take i xs)) (f x)
    ∙ sym (ap (λ l. base ++ flat_map f l) (taken xs i x lt e) ∙ ap (λ l. base ++ l) (flat_push f (take i xs) x))
