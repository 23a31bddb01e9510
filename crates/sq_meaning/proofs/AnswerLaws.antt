-- Laws of what is answered: along a list, and one after the other.
use Rattle.std.proofs.Common.{◌≡◌, Bool, true, false, List, [], ◌∷◌, ◌++◌, map, refl, subst, Ok, Err}
use Rattle.std.specs.Prelude.{⊤, if◌then◌else◌, filter, not}
use Rattle.std.specs.List.{AllByRecursion, AllZip, flat_map}
use Rattle.std.specs.declared.cmp.Ordering.{Ordering}
use Rattle.std.specs.Ordering.{is_gt}
use Rattle.sq_meaning.specs.Status.{Outcome, and_then, each, kept}
use Rattle.sq_meaning.specs.Rows.{firsts, before_higher, sorted}
use Rattle.sq_meaning.specs.WellFormed.{Answers, Has, HasValue, Fits}

-- ---- lists

pub all_true : {A : Type 0} (xs : List A) → AllByRecursion (λ x. ⊤) xs
all_true [] = tt
all_true (x ∷ xs) = (tt, all_true xs)

pub all_weaker : {A : Type 0} (P Q : A → Type 0) → ((x : A) → P x → Q x) → (xs : List A) → AllByRecursion P xs → AllByRecursion Q xs
all_weaker P Q f [] h = tt
all_weaker P Q f (x ∷ xs) h = (f x h.0, all_weaker P Q f xs h.1)

pub all_appended : {A : Type 0} (P : A → Type 0) (xs ys : List A) → AllByRecursion P xs → AllByRecursion P ys → AllByRecursion P (xs ++ ys)
all_appended P [] ys h k = k
all_appended P (x ∷ xs) ys h k = (h.0, all_appended P xs ys h.1 k)

pub all_mapped : {A B : Type 0} (P : A → Type 0) (Q : B → Type 0) (f : A → B) → ((x : A) → P x → Q (f x)) → (xs : List A) → AllByRecursion P xs → AllByRecursion Q (map f xs)
all_mapped P Q f g [] h = tt
all_mapped P Q f g (x ∷ xs) h = (g x h.0, all_mapped P Q f g xs h.1)

pub all_flat_mapped : {A B : Type 0} (P : A → Type 0) (Q : B → Type 0) (f : A → List B) → ((x : A) → P x → AllByRecursion Q (f x)) → (xs : List A) → AllByRecursion P xs → AllByRecursion Q (flat_map f xs)
all_flat_mapped P Q f g [] h = tt
all_flat_mapped P Q f g (x ∷ xs) h = all_appended Q (f x) (flat_map f xs) (g x h.0) (all_flat_mapped P Q f g xs h.1)

all_if : {A : Type 0} (P : A → Type 0) (b : Bool) (x : A) (xs : List A) → P x → AllByRecursion P xs → AllByRecursion P (if b then x ∷ xs else xs)
all_if P true x xs p h = (p, h)
all_if P false x xs p h = h

pub all_filtered : {A : Type 0} (P : A → Type 0) (test : A → Bool) (xs : List A) → AllByRecursion P xs → AllByRecursion P (filter test xs)
all_filtered P test [] h = tt
all_filtered P test (x ∷ xs) h = all_if P (test x) x (filter test xs) h.0 (all_filtered P test xs h.1)

pub all_firsts : {A : Type 0} (P : A → Type 0) (same : A → A → Bool) (xs : List A) → AllByRecursion P xs → AllByRecursion P (firsts same xs)
all_firsts P same [] h = tt
all_firsts P same (x ∷ xs) h = (h.0, all_filtered P (λ y. not (same x y)) (firsts same xs) (all_firsts P same xs h.1))

pub all_firsts_if : {A : Type 0} (P : A → Type 0) (same : A → A → Bool) (distinct : Bool) (xs : List A) → AllByRecursion P xs → AllByRecursion P (if distinct then firsts same xs else xs)
all_firsts_if P same true xs h = all_firsts P same xs h
all_firsts_if P same false xs h = h

all_before : {A : Type 0} (P : A → Type 0) (cmp : A → A → Ordering) (x : A) (ys : List A) → P x → AllByRecursion P ys → AllByRecursion P (before_higher cmp x ys)
all_before P cmp x [] p h = (p, tt)
all_before {A} P cmp x (y ∷ ys) p h = split (is_gt (cmp x y)) (all_before P cmp x ys p h.1)
  where
    split : (b : Bool) → AllByRecursion P (before_higher cmp x ys) → AllByRecursion P (if b then y ∷ before_higher cmp x ys else x ∷ y ∷ ys)
    split true k = (h.0, k)
    split false k = (p, h)

pub all_sorted : {A : Type 0} (P : A → Type 0) (cmp : A → A → Ordering) (xs : List A) → AllByRecursion P xs → AllByRecursion P (sorted cmp xs)
all_sorted P cmp [] h = tt
all_sorted P cmp (x ∷ xs) h = all_before P cmp x (sorted cmp xs) h.0 (all_sorted P cmp xs h.1)

-- ---- outcomes

-- a value that is there is known with its equation
pub valued : {A : Type 0} (o : Outcome A) → HasValue o → (x : A) × (o ≡ Ok x)
valued (Ok x) h = (x, refl)
valued (Err status) h = absurd h

pub there : {A : Type 0} (P : A → Type 0) (o : Outcome A) (x : A) → o ≡ Ok x → Has P o → P x
there P o x e h = subst (Has P) e h

pub known : {A B : Type 0} (P : A → B → Type 0) (o : Outcome A) (x : A) (r : Outcome B) → o ≡ Ok x → Fits P o r → Answers (P x) r
known P o x r e h = subst (λ q. Fits P q r) e h

pub weaker : {A : Type 0} (P Q : A → Type 0) (r : Outcome A) → ((x : A) → P x → Q x) → Answers P r → Answers Q r
weaker P Q (Ok x) f h = f x h
weaker P Q (Err status) f h = h

-- what is known has an answer
pub fits_there : {A B : Type 0} (P : A → B → Type 0) (o : Outcome A) (r : Outcome B) → HasValue o → Fits P o r → Answers (λ y. Has (λ x. P x y) o) r
fits_there P (Ok x) r h f = f
fits_there P (Err status) r h f = absurd h

pub fits_any : {A B : Type 0} (P : A → B → Type 0) (o : Outcome A) (r : Outcome B) → HasValue o → Fits P o r → Answers (λ y. ⊤) r
fits_any P (Ok x) r h f = weaker (P x) (λ y. ⊤) r (λ y p. tt) f
fits_any P (Err status) r h f = absurd h

pub then_answers : {A B : Type 0} (P : A → Type 0) (Q : B → Type 0) (r : Outcome A) (f : A → Outcome B) → Answers P r → ((x : A) → P x → Answers Q (f x)) → Answers Q (and_then r f)
then_answers P Q (Ok x) f h g = g x h
then_answers P Q (Err status) f h g = h

-- what is known of one, and of what is made of it
pub then_fits : {A B C D : Type 0} (P : A → B → Type 0) (Q : C → D → Type 0) (o : Outcome A) (g : A → Outcome C) (r : Outcome B) (f : B → Outcome D)
    → Fits P o r → ((x : A) (y : B) → P x y → Fits Q (g x) (f y)) → Fits Q (and_then o g) (and_then r f)
then_fits P Q (Err status) g r f h t = tt
then_fits P Q (Ok x) g (Ok y) f h t = t x y h
then_fits {A} {B} {C} {D} P Q (Ok x) g (Err status) f h t = ended (g x)
  where
    ended : (o : Outcome C) → Fits Q o (Err status)
    ended (Ok z) = h
    ended (Err s) = tt

pub each_answers : {A B : Type 0} (P : A → Type 0) (Q : B → Type 0) (f : A → Outcome B) → ((x : A) → P x → Answers Q (f x)) → (xs : List A) → AllByRecursion P xs → Answers (AllByRecursion Q) (each f xs)
each_answers P Q f g [] h = tt
each_answers P Q f g (x ∷ xs) h =
    then_answers Q (AllByRecursion Q) (f x) (λ y. and_then (each f xs) (λ ys. Ok (y ∷ ys))) (g x h.0)
    (λ y q. then_answers (AllByRecursion Q) (AllByRecursion Q) (each f xs) (λ ys. Ok (y ∷ ys)) (each_answers P Q f g xs h.1) (λ ys qs. (q, qs)))

pub kept_answers : {A : Type 0} (P : A → Type 0) (test : A → Outcome Bool) → ((x : A) → P x → Answers (λ b. ⊤) (test x)) → (xs : List A) → AllByRecursion P xs → Answers (AllByRecursion P) (kept test xs)
kept_answers P test g [] h = tt
kept_answers P test g (x ∷ xs) h =
    then_answers (λ b. ⊤) (AllByRecursion P) (test x) (λ passes. and_then (kept test xs) (λ ys. Ok (if passes then x ∷ ys else ys))) (g x h.0)
    (λ passes q. then_answers (AllByRecursion P) (AllByRecursion P) (kept test xs) (λ ys. Ok (if passes then x ∷ ys else ys)) (kept_answers P test g xs h.1) (λ ys qs. all_if P passes x ys h.0 qs))

-- a list of what is known, and what is made of the same list
pub each_fits : {X A B : Type 0} (P : A → B → Type 0) (W : X → Type 0) (g : X → Outcome A) (f : X → Outcome B) → ((x : X) → W x → Fits P (g x) (f x))
    → (xs : List X) → AllByRecursion W xs → Fits (AllZip P) (each g xs) (each f xs)
each_fits P W g f t [] w = tt
each_fits P W g f t (x ∷ xs) w =
    then_fits P (AllZip P) (g x) (λ a. and_then (each g xs) (λ others. Ok (a ∷ others))) (f x) (λ b. and_then (each f xs) (λ others. Ok (b ∷ others))) (t x w.0)
    (λ a b p. then_fits (AllZip P) (AllZip P) (each g xs) (λ others. Ok (a ∷ others)) (each f xs) (λ others. Ok (b ∷ others)) (each_fits P W g f t xs w.1) (λ us vs q. (p, q)))

-- where each has a value, the list has one
pub each_valued : {A B : Type 0} (W : A → Type 0) (f : A → Outcome B) → ((x : A) → W x → HasValue (f x)) → (xs : List A) → AllByRecursion W xs → HasValue (each f xs)
each_valued W f g [] w = tt
each_valued {A} {B} W f g (x ∷ xs) w = split (f x) (g x w.0) (each f xs) (each_valued W f g xs w.1)
  where
    split : (o : Outcome B) → HasValue o → (r : Outcome (List B)) → HasValue r → HasValue (and_then o (λ y. and_then r (λ ys. Ok (y ∷ ys))))
    split (Ok y) h (Ok ys) k = tt
    split (Ok y) h (Err status) k = absurd k
    split (Err status) h r k = absurd h
