-- Lists whose items all pass a test, and lists that are copied item by item.
use Rattle.std.proofs.Common.{◌≡◌, ℕ, zero, suc, ◌+◌, ◌<◌, Bool, true, ◌&&◌, ◌||◌, List, [], ◌∷◌, ◌++◌, length, get_or, take, map, nat_eq, nat_lt, Some, Result, Ok, Err, refl, ap, sym, subst, ◌∙◌, arith, length-append}
use Rattle.std.specs.List.{All, list_all, list_any, slice_get}
use Rattle.std.specs.Result.{OnErr, OnOk}
use Rattle.std.proofs.lemmas.Bool.{and_from, and_parts, or_right}
use Rattle.std.proofs.lemmas.Bool.Decides.{nat_tests}
use Rattle.std.proofs.lemmas.List.{get_or_append_left, map-append, take_more}
use Rattle.std.proofs.lemmas.List.Elements.{All-append, All-cons, All-nil}
use Rattle.std.proofs.lemmas.List.Folds.{list_all-append}
use Rattle.std.proofs.lemmas.Option.{get_or_from_slice_get, slice_get-get_or, slice_get_within}
use Rattle.sq_bound.specs.Names.{are_positions}

-- one item more
pub all_push : {X : Type 0} (p : X → Bool) (xs : List X) (x : X) → list_all p xs ≡ true → p x ≡ true → list_all p (xs ++ x ∷ []) ≡ true
all_push p xs x h px = list_all-append p xs (x ∷ []) ∙ and_from (list_all p xs) (p x && true) h (and_from (p x) true px refl)

-- an item that is read
pub all_read : {X : Type 0} (p : X → Bool) (xs : List X) (i : ℕ) (x : X) → i < length xs → x ≡ get_or xs i x → list_all p xs ≡ true → p x ≡ true
all_read p [] i x lt e h = absurd (omega arith)
all_read p (y ∷ ys) zero x lt e h = ap p e ∙ (and_parts (p y) (list_all p ys) h).0
all_read p (y ∷ ys) (suc i) x lt e h = all_read p ys i x (omega arith) e (and_parts (p y) (list_all p ys) h).1

pub all_read_at : {X : Type 0} (p : X → Bool) (xs : List X) (i : ℕ) (d : X) → i < length xs → list_all p xs ≡ true → p (get_or xs i d) ≡ true
all_read_at p [] i d lt h = absurd (omega arith)
all_read_at p (y ∷ ys) zero d lt h = (and_parts (p y) (list_all p ys) h).0
all_read_at p (y ∷ ys) (suc i) d lt h = all_read_at p ys i d (omega arith) (and_parts (p y) (list_all p ys) h).1

-- a test that passes more
pub all_weaker : {X : Type 0} (p q : X → Bool) → ((x : X) → p x ≡ true → q x ≡ true) → (xs : List X) → list_all p xs ≡ true → list_all q xs ≡ true
all_weaker p q more [] h = refl
all_weaker p q more (x ∷ xs) h =
    let parts = and_parts (p x) (list_all p xs) h in
    and_from (q x) (list_all q xs) (more x parts.0) (all_weaker p q more xs parts.1)

-- a number that is below another passes the test
pub below : (i n : ℕ) → i < n → nat_lt i n ≡ true
below i n lt = grind (arith, nat_tests)

pub is_below : (i n : ℕ) → nat_lt i n ≡ true → i < n
is_below i n h = grind (arith, nat_tests)

pub same_number : (n m : ℕ) → nat_eq n m ≡ true → n ≡ m
same_number n m h = grind (arith, nat_tests)

same_is : (n : ℕ) → nat_eq n n ≡ true
same_is n = grind (arith, nat_tests)

-- each number of a list is among its numbers
pub all_among : (xs : List ℕ) → list_all (λ x. list_any (λ y. nat_eq y x) xs) xs ≡ true
all_among [] = refl
all_among (x ∷ xs) =
    and_from (nat_eq x x || list_any (λ y. nat_eq y x) xs) (list_all (λ z. nat_eq x z || list_any (λ y. nat_eq y z) xs) xs) (ap (λ b. b || list_any (λ y. nat_eq y x) xs) (same_is x))
    (all_weaker (λ z. list_any (λ y. nat_eq y z) xs) (λ z. nat_eq x z || list_any (λ y. nat_eq y z) xs) (λ z h. or_right (nat_eq x z) (list_any (λ y. nat_eq y z) xs) h) xs (all_among xs))

-- a position that is read
pub position_read : (n : ℕ) (ps : List ℕ) (i p : ℕ) → are_positions n ps ≡ true → i < length ps → p ≡ get_or ps i p → p < n
position_read n ps i p h lt e = is_below p n (all_read (λ q. nat_lt q n) ps i p lt e h)

-- positions of columns, where two numbers of columns are equal
pub positions_of : (n m : ℕ) (ps : List ℕ) → n ≡ m → are_positions n ps ≡ true → are_positions m ps ≡ true
positions_of n m ps e h = ap (λ k. are_positions k ps) (sym e) ∙ h

-- ---- copies

pub copied_next : {A B C : Type 0} (f : A → B) (g : C → B) (xs : List A) (x : A) (ys : List C) (i : ℕ) (y : C) → i < length ys → y ≡ get_or ys i y → map f xs ≡ map g (take i ys) → f x ≡ g y
    → map f (xs ++ x ∷ []) ≡ map g (take (i + 1) ys)
copied_next f g xs x ys i y lt e h same =
    map-append f xs (x ∷ []) ∙ ap (λ l. l ++ f x ∷ []) h ∙ ap (λ b. map g (take i ys) ++ b ∷ []) (same ∙ ap g e)
    ∙ sym (ap (map g) (take_more ys i y lt) ∙ map-append g (take i ys) (get_or ys i y ∷ []))

pub items_next : {A C : Type 0} (f : A → C) (xs : List A) (x : A) (ys : List C) (i : ℕ) (y : C) → i < length ys → y ≡ get_or ys i y → map f xs ≡ take i ys → f x ≡ y → map f (xs ++ x ∷ []) ≡ take (i + 1) ys
items_next f xs x ys i y lt e h same =
    map-append f xs (x ∷ []) ∙ ap (λ l. l ++ f x ∷ []) h ∙ ap (λ b. take i ys ++ b ∷ []) (same ∙ e) ∙ sym (take_more ys i y lt)

-- ---- one item more behind the others

pub get_more : {X : Type 0} (xs : List X) (y x : X) (place : ℕ) → slice_get xs place ≡ Some x → slice_get (xs ++ y ∷ []) place ≡ Some x
get_more xs y x place h =
    let within : place < length xs = slice_get_within xs place x h in
    let more : length (xs ++ y ∷ []) ≡ length xs + 1 = length-append xs (y ∷ []) in
    slice_get-get_or (xs ++ y ∷ []) place x (omega arith) ∙ ap Some (get_or_append_left xs (y ∷ []) x place within ∙ get_or_from_slice_get xs place x x h)

last_read : {X : Type 0} (xs : List X) (y : X) → get_or (xs ++ y ∷ []) (length xs) y ≡ y
last_read [] y = refl
last_read (x ∷ xs) y = last_read xs y

-- the last is at the place that has as many before it
pub get_behind : {X : Type 0} (xs : List X) (y : X) (place : ℕ) → place ≡ length xs → slice_get (xs ++ y ∷ []) place ≡ Some y
get_behind xs y place e =
    let more : length (xs ++ y ∷ []) ≡ length xs + 1 = length-append xs (y ∷ []) in
    slice_get-get_or (xs ++ y ∷ []) place y (omega arith) ∙ ap Some (ap (λ i. get_or (xs ++ y ∷ []) i y) e ∙ last_read xs y)

pub all_with : {X : Type 0} (P : X → Type 0) (xs : List X) (x : X) → All P xs → P x → All P (xs ++ x ∷ [])
all_with P xs x h p = All-append P xs (x ∷ []) h (All-cons P x [] p (All-nil P))

-- what holds of all holds of the last, too, where one was added
pub all_inserted : {X F : Type 0} (P : X → Type 0) (r : Result (Unit {0}) F) (old new : List X) (x : X) → OnOk r (new ≡ old ++ x ∷ []) → OnErr r (new ≡ old) → All P old → P x → All P new
all_inserted P (Ok u) old new x added same h p = subst (All P) (sym added) (all_with P old x h p)
all_inserted P (Err f) old new x added same h p = subst (All P) (sym same) h
