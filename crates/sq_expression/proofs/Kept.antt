-- Lines that are kept, one after another.
use Rattle.std.proofs.Common.{◌≡◌, ℕ, ◌+◌, ◌<◌, ◌≤◌, Bool, true, false, List, [], ◌∷◌, ◌++◌, length, drop, map, get_or, refl, sym, ◌∙◌, ap, append_assoc, append-nil, Ok, Err}
use Rattle.std.specs.Prelude.{if◌then◌else◌}
use Rattle.std.proofs.lemmas.List.{drop_more}
use Rattle.std.proofs.Math.ListN.{drop_of_length-le}
use Rattle.sq_meaning.specs.Status.{Outcome, and_then, kept}
use Rattle.sq_meaning.specs.declared.status.Status.{Status}
use Rattle.sq_meaning.specs.declared.status.Status.TheVariants.{SyntaxErrorOrAccessRuleViolation}
use Rattle.sq_expression.specs.Fault.{IsRight, Meets, status_of}
use Rattle.sq_expression.specs.declared.fault.Fault.{Fault}
use Rattle.sq_expression.specs.declared.fault.Fault.TheVariants as fault
use Rattle.sq_expression.proofs.Each.{after}

pub ok_same : {A : Type 0} (x y : A) → ◌≡◌ {A = Outcome A} (Ok x) (Ok y) → x ≡ y
ok_same x y h = cc

pub no_status : {A : Type 0} (P : Type 0) (s : Status) (x : A) → ◌≡◌ {A = Outcome A} (Err s) (Ok x) → P
no_status P s x h = absurd cc

-- what is there, and an element where it is kept
abbrev pub added_if : {A : Type 0} → List A → A → Outcome Bool → Outcome (List A)
added_if done y o = and_then o (λ b. Ok (done ++ (if b then y ∷ [] else [])))

-- an element, where it is kept, before the others
abbrev before_rest : {A : Type 0} → A → Outcome Bool → Outcome (List A) → Outcome (List A)
before_rest y o rest = and_then o (λ passes. and_then rest (λ ys. Ok (if passes then y ∷ ys else ys)))

one_kept : {A : Type 0} (done next : List A) (y : A) (o : Outcome Bool) (rest : Outcome (List A)) → added_if done y o ≡ Ok next → after done (before_rest y o rest) ≡ after next rest
unfolding after
one_kept done next y (Err s) rest h = no_status (after done (Err s) ≡ after next rest) s next h
one_kept done next y (Ok true) (Err s) h = refl
one_kept done next y (Ok false) (Err s) h = refl
one_kept {A} done next y (Ok true) (Ok ys) h =
    ap Ok (sym (append_assoc done (y ∷ []) ys)) ∙ ap (λ (d : List A). Ok (d ++ ys)) (ok_same (done ++ y ∷ []) next h)
one_kept {A} done next y (Ok false) (Ok ys) h =
    ap (λ (d : List A). Ok (d ++ ys)) (sym (append-nil done) ∙ ok_same (done ++ []) next h)

one_failed : {A : Type 0} (done : List A) (y : A) (o : Outcome Bool) (rest : Outcome (List A)) (s : Status) → added_if done y o ≡ Err s → after done (before_rest y o rest) ≡ Err s
unfolding after
one_failed done y (Err t) rest s h = cc
one_failed {A} done y (Ok b) rest s h = no_status (after done (before_rest y (Ok b) rest) ≡ Err s) s (done ++ (if b then y ∷ [] else [])) (sym h)

-- the first of those that are left
first_left : {X Y : Type 0} (test : Y → Outcome Bool) (g : X → Y) (whole : Outcome (List Y)) (done : List Y) (xs : List X) (i : ℕ) (x : X)
    → i < length xs → x ≡ get_or xs i x → whole ≡ after done (kept test (map g (drop i xs)))
    → whole ≡ after done (before_rest (g x) (test (g x)) (kept test (map g (drop (i + 1) xs))))
first_left {X} test g whole done xs i x within is so_far =
    so_far ∙ ap (λ (rest : List X). after done (kept test (map g rest))) (drop_more xs i x within ∙ ap (λ (p : X). p ∷ drop (i + 1) xs) (sym is))

pub kept_done : {X Y : Type 0} (test : Y → Outcome Bool) (g : X → Y) (whole : Outcome (List Y)) (done next : List Y) (xs : List X) (i : ℕ) (x : X)
    → i < length xs → x ≡ get_or xs i x → whole ≡ after done (kept test (map g (drop i xs)))
    → added_if done (g x) (test (g x)) ≡ Ok next
    → whole ≡ after next (kept test (map g (drop (i + 1) xs)))
kept_done test g whole done next xs i x within is so_far grown =
    first_left test g whole done xs i x within is so_far ∙ one_kept done next (g x) (test (g x)) (kept test (map g (drop (i + 1) xs))) grown

pub kept_failed : {X Y : Type 0} (test : Y → Outcome Bool) (g : X → Y) (whole : Outcome (List Y)) (done : List Y) (xs : List X) (i : ℕ) (x : X) (e : Fault)
    → i < length xs → x ≡ get_or xs i x → whole ≡ after done (kept test (map g (drop i xs)))
    → Meets {A = List Y} (Err e) (added_if done (g x) (test (g x))) → Meets {A = List Y} (Err e) whole
kept_failed test g whole done xs i x fault.NoMemory within is so_far failed = tt
kept_failed test g whole done xs i x (fault.Status s) within is so_far failed =
    first_left test g whole done xs i x within is so_far ∙ one_failed done (g x) (test (g x)) (kept test (map g (drop (i + 1) xs))) (status_of s) failed

-- the next test is right where the whole is
pub kept_right : {X Y : Type 0} (test : Y → Outcome Bool) (g : X → Y) (whole : Outcome (List Y)) (done : List Y) (xs : List X) (i : ℕ) (x : X)
    → i < length xs → x ≡ get_or xs i x → whole ≡ after done (kept test (map g (drop i xs)))
    → IsRight whole → IsRight (test (g x))
kept_right {X} {Y} test g whole done xs i x within is so_far right fails =
    let rest = kept test (map g (drop (i + 1) xs)) in
    right (first_left test g whole done xs i x within is so_far
    ∙ ap (λ (o : Outcome Bool). after done (before_rest (g x) o rest)) fails
    ∙ one_failed done (g x) (Err SyntaxErrorOrAccessRuleViolation) rest SyntaxErrorOrAccessRuleViolation refl)

pub kept_ends : {X Y : Type 0} (test : Y → Outcome Bool) (g : X → Y) (whole : Outcome (List Y)) (done : List Y) (xs : List X) (i : ℕ)
    → length xs ≤ i → whole ≡ after done (kept test (map g (drop i xs))) → whole ≡ Ok done
unfolding after
kept_ends {X} test g whole done xs i past so_far =
    so_far ∙ ap (λ (rest : List X). after done (kept test (map g rest))) (drop_of_length-le xs past) ∙ ap Ok (append-nil done)
