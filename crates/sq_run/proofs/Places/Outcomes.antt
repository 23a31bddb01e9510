-- Laws of outcomes, where something is known of what they give.
use Rattle.std.proofs.Common.{◌≡◌, suc, Bool, true, false, List, [], ◌∷◌, ◌++◌, length, map, Option, Some, None, refl, ap, subst, Ok, Err}
use Rattle.std.specs.Prelude.{⊤, IfOk, IfSome, if◌then◌else◌}
use Rattle.std.specs.List.{AllByRecursion, AllZip}
use Rattle.sq_meaning.specs.Status.{Outcome, and_then, each, kept}

-- what is known of a first step leads to what is known of the second
pub if_then : {A B : Type 0} (o : Outcome A) (f : A → Outcome B) (P : A → Type 0) (Q : B → Type 0) → IfOk o P
    → ((x : A) → P x → IfOk (f x) Q) → IfOk (and_then o f) Q
if_then (Ok x) f P Q p g = g x p
if_then (Err status) f P Q p g = tt

-- What follows from what is known of the value of an outcome.
pub if_also : {A : Type 0} (o : Outcome A) (P Q : A → Type 0) → IfOk o P → ((x : A) → P x → Q x) → IfOk o Q
if_also (Ok x) P Q p g = g x p
if_also (Err status) P Q p g = tt

pub some_also : {A : Type 0} (o : Option A) (P Q : A → Type 0) → IfSome o P → ((x : A) → P x → Q x) → IfSome o Q
some_also (Some x) P Q p g = g x p
some_also None P Q p g = tt

pub if_both : {A : Type 0} (o : Outcome A) (P Q : A → Type 0) → IfOk o P → IfOk o Q → IfOk o (λ x. P x × Q x)
if_both (Ok x) P Q p q = (p, q)
if_both (Err status) P Q p q = tt

pub if_any : {A : Type 0} (o : Outcome A) → IfOk o (λ x. ⊤)
if_any (Ok x) = tt
if_any (Err status) = tt

-- Outcomes of one, two or three parts that are made one.
pub if_one : {A D : Type 0} (o : Outcome A) (f : A → D) (P : A → Type 0) (S : D → Type 0) → IfOk o P → ((x : A) → P x → S (f x))
    → IfOk (and_then o (λ x. Ok (f x))) S
if_one (Ok x) f P S p g = g x p
if_one (Err status) f P S p g = tt

pub if_two : {A B D : Type 0} (o : Outcome A) (r : Outcome B) (f : A → B → D) (P : A → Type 0) (Q : B → Type 0) (S : D → Type 0)
    → IfOk o P → IfOk r Q → ((x : A) (y : B) → P x → Q y → S (f x y)) → IfOk (and_then o (λ x. and_then r (λ y. Ok (f x y)))) S
if_two (Ok x) r f P Q S p q g = if_one r (f x) Q S q (λ y. g x y p)
if_two (Err status) r f P Q S p q g = tt

pub if_three : {A B C D : Type 0} (o : Outcome A) (r : Outcome B) (t : Outcome C) (f : A → B → C → D) (P : A → Type 0)
    (Q : B → Type 0) (R : C → Type 0) (S : D → Type 0)
    → IfOk o P → IfOk r Q → IfOk t R → ((x : A) (y : B) (z : C) → P x → Q y → R z → S (f x y z))
    → IfOk (and_then o (λ x. and_then r (λ y. and_then t (λ z. Ok (f x y z))))) S
if_three (Ok x) r t f P Q R S p q u g = if_two r t (f x) Q R S q u (λ y z. g x y z p)
if_three (Err status) r t f P Q R S p q u g = tt

-- what is known where there is a value
pub known_of : {A : Type 0} (o : Outcome A) (P : A → Type 0) (x : A) → IfOk o P → o ≡ Ok x → P x
known_of o P x h e = subst (λ r. IfOk r P) e h

-- where both steps have a value, so has the first
pub ok_then : {A B : Type 0} (o : Outcome A) (f : A → Outcome B) (y : B) → and_then o f ≡ Ok y → (x : A) × (f x ≡ Ok y)
ok_then (Ok x) f y e = (x, e)
ok_then (Err status) f y e = cc

pub ok_same : {A : Type 0} (x y : A) → (let found : Outcome A = Ok x in found ≡ Ok y) → x ≡ y
ok_same x y e = cc

-- each of a list in turn
pub if_each : {A B : Type 0} (f : A → Outcome B) (R : A → B → Type 0) → ((x : A) → IfOk (f x) (R x)) → (xs : List A)
    → IfOk (each f xs) (AllZip R xs)
if_each f R h [] = tt
if_each {A} {B} f R h (x ∷ xs) =
    if_then (f x) (λ y. and_then (each f xs) (λ ys. Ok (y ∷ ys))) (R x) (AllZip R (x ∷ xs)) (h x)
    (λ y r. if_then (each f xs) (λ ys. Ok (y ∷ ys)) (AllZip R xs) (AllZip R (x ∷ xs)) (if_each f R h xs) (λ ys rs. (r, rs)))

pub each_so : {A B : Type 0} (f : A → Outcome B) (P : B → Type 0) → ((x : A) → IfOk (f x) P) → (xs : List A)
    → IfOk (each f xs) (AllByRecursion P)
each_so f P h [] = tt
each_so f P h (x ∷ xs) =
    if_then (f x) (λ y. and_then (each f xs) (λ ys. Ok (y ∷ ys))) P (AllByRecursion P) (h x)
    (λ y p. if_one (each f xs) (λ ys. y ∷ ys) (AllByRecursion P) (AllByRecursion P) (each_so f P h xs) (λ ys ps. (p, ps)))

-- two that go on alike
pub same_then : {A B : Type 0} (o : Outcome A) (P : A → Type 0) (f g : A → Outcome B) → IfOk o P → ((x : A) → P x → f x ≡ g x)
    → and_then o f ≡ and_then o g
same_then (Ok x) P f g p h = h x p
same_then (Err status) P f g p h = refl

-- ---- along lists

pub append_zip : {A B : Type 0} (R : A → B → Type 0) (us vs : List A) (xs ys : List B) → AllZip R us xs → AllZip R vs ys
    → AllZip R (us ++ vs) (xs ++ ys)
append_zip R [] vs [] ys p q = q
append_zip R [] vs (x ∷ xs) ys p q = absurd p
append_zip R (u ∷ us) vs [] ys p q = absurd p
append_zip R (u ∷ us) vs (x ∷ xs) ys p q = (p.0, append_zip R us vs xs ys p.1 q)

pub weaker_zip : {A B : Type 0} (R S : A → B → Type 0) → ((x : A) (y : B) → R x y → S x y) → (xs : List A) (ys : List B)
    → AllZip R xs ys → AllZip S xs ys
weaker_zip R S h [] [] r = tt
weaker_zip R S h [] (y ∷ ys) r = absurd r
weaker_zip R S h (x ∷ xs) [] r = absurd r
weaker_zip R S h (x ∷ xs) (y ∷ ys) r = (h x y r.0, weaker_zip R S h xs ys r.1)

-- results that are the same, element by element
pub each_zip : {A B C : Type 0} (R : A → B → Type 0) (f : A → Outcome C) (g : B → Outcome C)
    → ((x : A) (y : B) → R x y → f x ≡ g y) → (xs : List A) (ys : List B) → AllZip R xs ys → each f xs ≡ each g ys
each_zip R f g h [] [] r = refl
each_zip R f g h [] (y ∷ ys) r = absurd r
each_zip R f g h (x ∷ xs) [] r = absurd r
each_zip R f g h (x ∷ xs) (y ∷ ys) r =
    (λ i. and_then (h x y r.0 i) (λ z. and_then (each_zip R f g h xs ys r.1 i) (λ zs. Ok (z ∷ zs))))

pub same_length : {A B : Type 0} (R : A → B → Type 0) (xs : List A) (ys : List B) → AllZip R xs ys → length xs ≡ length ys
same_length R [] [] r = refl
same_length R [] (y ∷ ys) r = absurd r
same_length R (x ∷ xs) [] r = absurd r
same_length R (x ∷ xs) (y ∷ ys) r = ap suc (same_length R xs ys r.1)

-- Outcomes of elements of which something is known.
pub each_of : {A B : Type 0} (P : A → Type 0) (f g : A → Outcome B) → ((x : A) → P x → f x ≡ g x) → (xs : List A)
    → AllByRecursion P xs → each f xs ≡ each g xs
each_of P f g h [] p = refl
each_of P f g h (x ∷ xs) p = (λ i. and_then (h x p.0 i) (λ y. and_then (each_of P f g h xs p.1 i) (λ ys. Ok (y ∷ ys))))

-- what is kept is of the list
pub kept_of : {A : Type 0} (P : A → Type 0) (test : A → Outcome Bool) (xs : List A) → AllByRecursion P xs
    → IfOk (kept test xs) (AllByRecursion P)
kept_of P test [] p = tt
kept_of {A} P test (x ∷ xs) p = by_test (test x) (kept_of P test xs p.1)
  where
    chosen : (b : Bool) (ys : List A) → AllByRecursion P ys → AllByRecursion P (if b then x ∷ ys else ys)
    chosen true ys q = (p.0, q)
    chosen false ys q = q

    by_test : (o : Outcome Bool) → IfOk (kept test xs) (AllByRecursion P)
        → IfOk (and_then o (λ b. and_then (kept test xs) (λ ys. Ok (if b then x ∷ ys else ys)))) (AllByRecursion P)
    by_test (Err status) rest = tt
    by_test (Ok b) rest =
        if_then (kept test xs) (λ ys. Ok (if b then x ∷ ys else ys)) (AllByRecursion P) (AllByRecursion P) rest
        (λ ys q. chosen b ys q)

pub all_each : {A : Type 0} (P : A → Type 0) → ((x : A) → P x) → (xs : List A) → AllByRecursion P xs
all_each P h [] = tt
all_each P h (x ∷ xs) = (h x, all_each P h xs)

pub all_self : {A : Type 0} (R : A → A → Type 0) → ((x : A) → R x x) → (xs : List A) → AllZip R xs xs
all_self R h [] = tt
all_self R h (x ∷ xs) = (h x, all_self R h xs)

pub all_map : {A B : Type 0} (P : B → Type 0) (f : A → B) (xs : List A) → AllByRecursion (λ x. P (f x)) xs
    → AllByRecursion P (map f xs)
all_map P f [] p = tt
all_map P f (x ∷ xs) p = (p.0, all_map P f xs p.1)
