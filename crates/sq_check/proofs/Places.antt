-- Parts of a text, one after the other, each with its place.
use Rattle.std.proofs.Common.{◌≡◌, ◌∙◌, ℕ, suc, ◌+◌, ◌<◌, List, [], ◌∷◌, ◌++◌, length, take, get_or, ap, ap₂, sym, subst, arith, append_assoc, length-take-le}
use Rattle.std.proofs.lemmas.List.{append-nil}
use Rattle.std.specs.List.{AllZip}
use Rattle.indexmap.proofs.SetLemmas.{AllZip-push}
use Rattle.sq_catalog.proofs.OneByOne.Turns.{taken}
use Rattle.sq_check.specs.Modules.{AllAt}
use Rattle.sq_check.specs.Schemas.{all_at}

all_push : {A B : Type 0} (P : ℕ → A → B → Type 0) (place : ℕ) (xs : List A) (ys : List B) (x : A) (y : B) → AllAt P place xs ys → P (place + length xs) x y
    → AllAt P place (xs ++ x ∷ []) (ys ++ y ∷ [])
all_push P place [] [] x y all one = (subst (λ n. P n x y) (omega arith) one, tt)
all_push P place [] (b ∷ ys) x y all one = absurd all
all_push P place (a ∷ xs) [] x y all one = absurd all
all_push P place (a ∷ xs) (b ∷ ys) x y all one = (all.0, all_push P (suc place) xs ys x y all.1 (subst (λ n. P n x y) (omega arith) one))

-- a relation holds of one element more
pub all_next : {A B : Type 0} (P : ℕ → A → B → Type 0) (xs : List A) (i : ℕ) (x : A) (ys : List B) (y : B) → i < length xs → x ≡ get_or xs i x → AllAt P 0 (take i xs) ys → P i x y
    → AllAt P 0 (take (i + 1) xs) (ys ++ y ∷ [])
all_next P xs i x ys y lt is all one =
    let size : length (take i xs) ≡ i = length-take-le i xs (omega (arith, lt)) in
    subst (λ l. AllAt P 0 l (ys ++ y ∷ [])) (sym (taken xs i x lt is))
    (all_push P 0 (take i xs) ys x y all (subst (λ n. P n x y) (let same : i ≡ 0 + length (take i xs) = omega (arith, size) in same) one))

flat_push : {A B : Type 0} (f : ℕ → A → List B) (place : ℕ) (xs : List A) (x : A) → all_at f place (xs ++ x ∷ []) ≡ all_at f place xs ++ f (place + length xs) x
flat_push f place [] x = append-nil (f place x) ∙ ap (λ n. f n x) (let same : place ≡ place + 0 = omega arith in same)
flat_push f place (a ∷ xs) x =
    let same : suc place + length xs ≡ place + suc (length xs) = omega arith in
    ap (λ l. f place a ++ l) (flat_push f (suc place) xs x ∙ ap (λ n. all_at f (suc place) xs ++ f n x) same)
    ∙ sym (append_assoc (f place a) (all_at f (suc place) xs) (f (place + suc (length xs)) x))

-- what comes of one element more
pub flat_next : {A B : Type 0} (f : ℕ → A → List B) (place : ℕ) (xs : List A) (i : ℕ) (x : A) → i < length xs → x ≡ get_or xs i x
    → all_at f place (take (i + 1) xs) ≡ all_at f place (take i xs) ++ f (place + i) x
flat_next f place xs i x lt is =
    let size : length (take i xs) ≡ i = length-take-le i xs (omega (arith, lt)) in
    ap (all_at f place) (taken xs i x lt is) ∙ flat_push f place (take i xs) x ∙ ap (λ n. all_at f place (take i xs) ++ f (place + n) x) size

pub zip_next : {A B : Type 0} (P : A → B → Type 0) (xs : List A) (i : ℕ) (x : A) (ys : List B) (y : B) → i < length xs → x ≡ get_or xs i x → AllZip P (take i xs) ys → P x y
    → AllZip P (take (i + 1) xs) (ys ++ y ∷ [])
zip_next P xs i x ys y lt is all one = subst (λ l. AllZip P l (ys ++ y ∷ [])) (sym (taken xs i x lt is)) (AllZip-push P (take i xs) ys x y all one)

-- what came of some elements, with what comes of one more
pub added_next : {A B : Type 0} (f : ℕ → A → List B) (place : ℕ) (xs : List A) (i : ℕ) (x : A) (n : ℕ) (start now next more : List B) → i < length xs → x ≡ get_or xs i x → n ≡ place + i
    → now ≡ start ++ all_at f place (take i xs) → next ≡ now ++ more → more ≡ f n x → next ≡ start ++ all_at f place (take (i + 1) xs)
added_next f place xs i x n start now next more lt is at before added same =
    added ∙ ap₂ (λ a b. a ++ b) before same ∙ append_assoc start (all_at f place (take i xs)) (f n x)
    ∙ ap (λ l. start ++ l) (ap (λ k. all_at f place (take i xs) ++ f k x) at ∙ sym (flat_next f place xs i x lt is))
