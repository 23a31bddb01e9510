-- Laws of outcomes along lists.
use Rattle.std.proofs.Common.{◌≡◌, Bool, true, false, List, [], ◌∷◌, ◌++◌, map, refl, sym, ap, ◌∙◌, Ok, Err}
use Rattle.std.specs.Prelude.{if◌then◌else◌}
use Rattle.sq_meaning.specs.Status.{Outcome, and_then, each, kept}

-- a test that is always true keeps all
pub kept_all : {A : Type 0} (xs : List A) → kept (λ x. Ok true) xs ≡ Ok xs
kept_all [] = refl
kept_all (x ∷ xs) = ap (λ r. and_then r (λ ys. Ok (x ∷ ys))) (kept_all xs)

-- what always has a value
pub each_value : {A B : Type 0} (f : A → B) (xs : List A) → each (λ x. Ok (f x)) xs ≡ Ok (map f xs)
each_value f [] = refl
each_value f (x ∷ xs) = ap (λ r. and_then r (λ ys. Ok (f x ∷ ys))) (each_value f xs)

-- two lists, one after the other
abbrev pub both_lists : {A : Type 0} → Outcome (List A) → Outcome (List A) → Outcome (List A)
both_lists p q = and_then p (λ us. and_then q (λ vs. Ok (us ++ vs)))

nothing_before : {A : Type 0} (q : Outcome (List A)) → q ≡ both_lists (Ok []) q
nothing_before (Ok vs) = refl
nothing_before (Err s) = refl

one_before : {A : Type 0} (r : Outcome A) (p q : Outcome (List A))
    → and_then r (λ y. and_then (both_lists p q) (λ zs. Ok (y ∷ zs))) ≡ both_lists (and_then r (λ y. and_then p (λ us. Ok (y ∷ us)))) q
one_before (Err s) p q = refl
one_before (Ok y) (Err s) q = refl
one_before (Ok y) (Ok us) (Err s) = refl
one_before (Ok y) (Ok us) (Ok vs) = refl

pub each-append : {A B : Type 0} (f : A → Outcome B) (xs ys : List A) → each f (xs ++ ys) ≡ both_lists (each f xs) (each f ys)
each-append f [] ys = nothing_before (each f ys)
each-append f (x ∷ xs) ys = ap (λ r. and_then (f x) (λ y. and_then r (λ zs. Ok (y ∷ zs)))) (each-append f xs ys) ∙ one_before (f x) (each f xs) (each f ys)

-- ---- lists that are made of lists

-- what is kept of a made list is made of what is kept
pub kept_map : {X Y : Type 0} (f : X → Y) (t : Y → Outcome Bool) (xs : List X) → kept t (map f xs) ≡ and_then (kept (λ x. t (f x)) xs) (λ ys. Ok (map f ys))
kept_map f t [] = refl
kept_map {X} {Y} f t (x ∷ xs) = ap (λ r. and_then (t (f x)) (λ b. and_then r (λ ys. Ok (if b then f x ∷ ys else ys)))) (kept_map f t xs) ∙ step (t (f x)) (kept (λ x. t (f x)) xs)
  where
    chosen : (b : Bool) (ys : List X) → (if b then f x ∷ map f ys else map f ys) ≡ map f (if b then x ∷ ys else ys)
    chosen true ys = refl
    chosen false ys = refl

    step : (o : Outcome Bool) (r : Outcome (List X))
        → and_then o (λ b. and_then (and_then r (λ ys. Ok (map f ys))) (λ ys. Ok (if b then f x ∷ ys else ys)))
        ≡ and_then (and_then o (λ b. and_then r (λ ys. Ok (if b then x ∷ ys else ys)))) (λ ys. Ok (map f ys))
    step (Err s) r = refl
    step (Ok b) (Err s) = refl
    step (Ok b) (Ok ys) = ap Ok (chosen b ys)

pub each_map : {X Y Z : Type 0} (f : X → Y) (g : Y → Outcome Z) (xs : List X) → each g (map f xs) ≡ each (λ x. g (f x)) xs
each_map f g [] = refl
each_map f g (x ∷ xs) = ap (λ r. and_then (g (f x)) (λ y. and_then r (λ ys. Ok (y ∷ ys)))) (each_map f g xs)

pub then_then : {X Y Z : Type 0} (r : Outcome X) (f : X → Outcome Y) (g : Y → Outcome Z) → and_then (and_then r f) g ≡ and_then r (λ x. and_then (f x) g)
then_then (Ok x) f g = refl
then_then (Err s) f g = refl

pub either_way : {X Y Z : Type 0} (g h : Bool) → g ≡ h → (a b : Outcome X) (c d : Outcome Y) (t : X → Outcome Z) (u : Y → Outcome Z)
    → and_then a t ≡ and_then c u → and_then b t ≡ and_then d u → and_then (if g then a else b) t ≡ and_then (if h then c else d) u
either_way g h e a b c d t u p q = sym (ap (λ k. and_then (if k then a else b) t) (sym e)) ∙ by_test h
  where
    by_test : (k : Bool) → and_then (if k then a else b) t ≡ and_then (if k then c else d) u
    by_test true = p
    by_test false = q
