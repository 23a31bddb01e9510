-- A list of outcomes, one after another.
use Rattle.std.proofs.Common.{◌≡◌, ℕ, ◌+◌, ◌<◌, ◌≤◌, List, [], ◌∷◌, ◌++◌, length, drop, map, get_or, refl, sym, ◌∙◌, ap, append_assoc, append-nil, Ok, Err}
use Rattle.std.proofs.lemmas.List.{drop_more}
use Rattle.std.proofs.Math.ListN.{drop_of_length-le}
use Rattle.sq_meaning.specs.Status.{Outcome, and_then, each}
use Rattle.sq_meaning.specs.declared.status.Status.{Status}
use Rattle.sq_expression.specs.Fault.{Meets, status_of}
use Rattle.sq_expression.specs.declared.fault.Fault.{Fault}
use Rattle.sq_expression.specs.declared.fault.Fault.TheVariants as fault

-- what is there already, and then the others
unfoldable pub after : {A : Type 0} → List A → Outcome (List A) → Outcome (List A)
after done rest = and_then rest (λ ys. Ok (done ++ ys))

after_none : {A : Type 0} (rest : Outcome (List A)) → rest ≡ after [] rest
unfolding after
after_none (Ok ys) = refl
after_none (Err s) = refl

pub after_start : {A : Type 0} (done : List A) (rest : Outcome (List A)) → done ≡ [] → rest ≡ after done rest
after_start {A} done rest none = after_none rest ∙ ap (λ (d : List A). after d rest) (sym none)

after_one : {A : Type 0} (done : List A) (y : A) (rest : Outcome (List A)) → after done (and_then rest (λ ys. Ok (y ∷ ys))) ≡ after (done ++ y ∷ []) rest
unfolding after
after_one done y (Ok ys) = ap Ok (sym (append_assoc done (y ∷ []) ys))
after_one done y (Err s) = refl

after_all : {A : Type 0} (done : List A) → after done (Ok []) ≡ Ok done
unfolding after
after_all done = ap Ok (append-nil done)

after_status : {A : Type 0} (done : List A) (s : Status) → after done (Err s) ≡ Err s
unfolding after
after_status done s = refl

-- the first of those that are left
first_left : {X Y A : Type 0} (f : Y → Outcome A) (g : X → Y) (whole : Outcome (List A)) (done : List A) (xs : List X) (i : ℕ) (x : X)
    → i < length xs → x ≡ get_or xs i x → whole ≡ after done (each f (map g (drop i xs)))
    → whole ≡ after done (and_then (f (g x)) (λ y. and_then (each f (map g (drop (i + 1) xs))) (λ ys. Ok (y ∷ ys))))
first_left {X} f g whole done xs i x within is so_far =
    so_far ∙ ap (λ (rest : List X). after done (each f (map g rest))) (drop_more xs i x within ∙ ap (λ (p : X). p ∷ drop (i + 1) xs) (sym is))

pub each_done : {X Y A : Type 0} (f : Y → Outcome A) (g : X → Y) (whole : Outcome (List A)) (done next : List A) (xs : List X) (i : ℕ) (x : X) (y : A)
    → i < length xs → x ≡ get_or xs i x → whole ≡ after done (each f (map g (drop i xs)))
    → f (g x) ≡ Ok y → next ≡ done ++ y ∷ []
    → whole ≡ after next (each f (map g (drop (i + 1) xs)))
each_done {X} {Y} {A} f g whole done next xs i x y within is so_far has joined =
    first_left f g whole done xs i x within is so_far
    ∙ ap (λ (r : Outcome A). after done (and_then r (λ z. and_then (each f (map g (drop (i + 1) xs))) (λ ys. Ok (z ∷ ys))))) has
    ∙ after_one done y (each f (map g (drop (i + 1) xs)))
    ∙ ap (λ (d : List A). after d (each f (map g (drop (i + 1) xs)))) (sym joined)

pub each_failed : {X Y A : Type 0} (f : Y → Outcome A) (g : X → Y) (whole : Outcome (List A)) (done : List A) (xs : List X) (i : ℕ) (x : X) (e : Fault)
    → i < length xs → x ≡ get_or xs i x → whole ≡ after done (each f (map g (drop i xs)))
    → Meets {A = A} (Err e) (f (g x)) → Meets {A = List A} (Err e) whole
each_failed f g whole done xs i x fault.NoMemory within is so_far failed = tt
each_failed {X} {Y} {A} f g whole done xs i x (fault.Status s) within is so_far failed =
    first_left f g whole done xs i x within is so_far
    ∙ ap (λ (r : Outcome A). after done (and_then r (λ z. and_then (each f (map g (drop (i + 1) xs))) (λ ys. Ok (z ∷ ys))))) failed
    ∙ after_status done (status_of s)

pub each_ends : {X Y A : Type 0} (f : Y → Outcome A) (g : X → Y) (whole : Outcome (List A)) (done : List A) (xs : List X) (i : ℕ)
    → length xs ≤ i → whole ≡ after done (each f (map g (drop i xs))) → whole ≡ Ok done
each_ends {X} f g whole done xs i past so_far =
    so_far ∙ ap (λ (rest : List X). after done (each f (map g rest))) (drop_of_length-le xs past) ∙ after_all done
