-- Of a list, what comes of those elements that pass a test is what passes it of what comes of all: along outcomes, in firsts and in classes
-- of elements that are the same (ISO/IEC 9075:1992, 7.6, 7.7 and 7.9).
use Rattle.std.proofs.Common.{◌≡◌, ◌∙◌, Bool, true, false, not, List, [], ◌∷◌, cond, filter, map, refl, sym, ap, Ok, Err}
use Rattle.std.specs.Prelude.{if◌then◌else◌}
use Rattle.std.specs.List.{AllByRecursion}
use Rattle.std.proofs.lemmas.Bool.{false≢true}
use Rattle.sq_meaning.specs.Status.{Outcome, and_then, each, kept}
use Rattle.sq_meaning.specs.Rows.{classes, firsts}
use Rattle.sq_meaning.proofs.AnswerLaws.{all_firsts, all_weaker}

abbrev pub ok : {A : Type 0} → A → Outcome A
ok x = Ok x

-- ---- outcomes

-- what ends with a value has one in between
pub then_there : {A B : Type 0} (o : Outcome A) (f : A → Outcome B) (y : B) → and_then o f ≡ Ok y → (x : A) × (o ≡ Ok x) × (f x ≡ Ok y)
then_there (Ok x) f y e = (x, refl, e)
then_there (Err status) f y e = cc

pub same_ok : {A : Type 0} (x y : A) → ok x ≡ ok y → x ≡ y
same_ok x y e = cc

module _ {A : Type 0} (has : A → Bool) where
  abbrev taken : Bool → A → List A → List A
  taken b x xs = cond b (x ∷ filter has xs) (filter has xs)

  -- ---- tests

  pub kept_filtered : (test : A → Outcome Bool) (xs ys : List A) → kept test xs ≡ Ok ys → kept test (filter has xs) ≡ Ok (filter has ys)
  kept_filtered test [] ys e = ap (λ (zs : List A). ok (filter has zs)) (same_ok [] ys e)
  kept_filtered test (x ∷ xs) ys e =
      let first = then_there (test x) (λ passes. and_then (kept test xs) (λ zs. Ok (if passes then x ∷ zs else zs))) ys e in
      let others = then_there (kept test xs) (λ zs. Ok (if first.0 then x ∷ zs else zs)) ys first.2 in
      by (has x) first.0 refl first.1 others.0 (kept_filtered test xs others.0 others.1)
      ∙ ap (λ (zs : List A). ok (filter has zs)) (same_ok (if first.0 then x ∷ others.0 else others.0) ys others.2)
    where
      by : (b p : Bool) → has x ≡ b → test x ≡ Ok p → (zs : List A) → kept test (filter has xs) ≡ Ok (filter has zs)
          → kept test (taken b x xs) ≡ Ok (filter has (if p then x ∷ zs else zs))
      by true true is passes zs later =
          (λ i. and_then (passes i) (λ b. and_then (later i) (λ ws. Ok (if b then x ∷ ws else ws)))) ∙ ap (λ c. ok (taken c x zs)) (sym is)
      by true false is passes zs later = λ i. and_then (passes i) (λ b. and_then (later i) (λ ws. Ok (if b then x ∷ ws else ws)))
      by false true is passes zs later = later ∙ ap (λ c. ok (taken c x zs)) (sym is)
      by false false is passes zs later = later

  -- ---- what is made of each

  pub each_filtered : {B : Type 0} (f : A → Outcome B) (was : B → Bool) → ((x : A) (y : B) → f x ≡ Ok y → was y ≡ has x) → (xs : List A) (ys : List B) → each f xs ≡ Ok ys → each f (filter has xs) ≡ Ok (filter was ys)
  each_filtered {B} f was same [] ys e = ap (λ (zs : List B). ok (filter was zs)) (same_ok [] ys e)
  each_filtered {B} f was same (x ∷ xs) ys e =
      let first = then_there (f x) (λ y. and_then (each f xs) (λ zs. Ok (y ∷ zs))) ys e in
      let others = then_there (each f xs) (λ zs. Ok (first.0 ∷ zs)) ys first.2 in
      by (has x) refl first.0 first.1 others.0 (each_filtered f was same xs others.0 others.1)
      ∙ ap (λ (zs : List B). ok (filter was zs)) (same_ok (first.0 ∷ others.0) ys others.2)
    where
      by : (b : Bool) → has x ≡ b → (y : B) → f x ≡ Ok y → (zs : List B) → each f (filter has xs) ≡ Ok (filter was zs) → each f (taken b x xs) ≡ Ok (filter was (y ∷ zs))
      by true is y at zs later =
          (λ i. and_then (at i) (λ z. and_then (later i) (λ ws. Ok (z ∷ ws)))) ∙ ap (λ c. ok (cond c (y ∷ filter was zs) (filter was zs))) (sym (same x y at ∙ is))
      by false is y at zs later = later ∙ ap (λ c. ok (cond c (y ∷ filter was zs) (filter was zs))) (sym (same x y at ∙ is))

  -- where each of all has an outcome, so has each that passes
  pub each_still : {B : Type 0} (f : A → Outcome B) (xs : List A) (ys : List B) → each f xs ≡ Ok ys → (zs : List B) × (each f (filter has xs) ≡ Ok zs)
  each_still f [] ys e = ([], refl)
  each_still {B} f (x ∷ xs) ys e =
      let first = then_there (f x) (λ y. and_then (each f xs) (λ zs. Ok (y ∷ zs))) ys e in
      let others = then_there (each f xs) (λ zs. Ok (first.0 ∷ zs)) ys first.2 in
      by (has x) first.0 first.1 (each_still f xs others.0 others.1)
    where
      by : (b : Bool) (y : B) → f x ≡ Ok y → (zs : List B) × (each f (filter has xs) ≡ Ok zs) → (zs : List B) × (each f (taken b x xs) ≡ Ok zs)
      by true y at later = (y ∷ later.0, λ i. and_then (at i) (λ z. and_then (later.1 i) (λ ws. Ok (z ∷ ws))))
      by false y at later = later

  pub map_filtered : {B : Type 0} (g : A → B) (was : B → Bool) (xs : List A) → AllByRecursion (λ x. was (g x) ≡ has x) xs → map g (filter has xs) ≡ filter was (map g xs)
  map_filtered g was [] same = refl
  map_filtered {B} g was (x ∷ xs) same = by (has x) refl (map_filtered g was xs same.1)
    where
      by : (b : Bool) → has x ≡ b → map g (filter has xs) ≡ filter was (map g xs) → map g (taken b x xs) ≡ cond (was (g x)) (g x ∷ filter was (map g xs)) (filter was (map g xs))
      by true is later = ap (λ (zs : List B). g x ∷ zs) later ∙ ap (λ c. cond c (g x ∷ filter was (map g xs)) (filter was (map g xs))) (sym (same.0 ∙ is))
      by false is later = later ∙ ap (λ c. cond c (g x ∷ filter was (map g xs)) (filter was (map g xs))) (sym (same.0 ∙ is))

  map_alike : {B : Type 0} (g h : A → B) (xs : List A) → AllByRecursion (λ x. has x ≡ true → g x ≡ h x) xs → map g (filter has xs) ≡ map h (filter has xs)
  map_alike g h [] same = refl
  map_alike {B} g h (x ∷ xs) same = by (has x) refl (map_alike g h xs same.1)
    where
      by : (b : Bool) → has x ≡ b → map g (filter has xs) ≡ map h (filter has xs) → map g (taken b x xs) ≡ map h (taken b x xs)
      by true is later = λ i. same.0 is i ∷ later i
      by false is later = later

  filter_all : (xs : List A) → AllByRecursion (λ x. has x ≡ true) xs → filter has xs ≡ xs
  filter_all [] all = refl
  filter_all (x ∷ xs) all = ap (λ c. taken c x xs) all.0 ∙ ap (λ (zs : List A). x ∷ zs) (filter_all xs all.1)

-- each keeps its outcome
pub each_all : {A B : Type 0} (f : A → Outcome B) (Q : B → Type 0) → ((x : A) (y : B) → f x ≡ Ok y → Q y) → (xs : List A) (ys : List B) → each f xs ≡ Ok ys → AllByRecursion Q ys
each_all f Q h [] [] e = tt
each_all f Q h [] (y ∷ ys) e = cc
each_all f Q h (x ∷ xs) [] e =
    let first = then_there (f x) (λ y. and_then (each f xs) (λ zs. Ok (y ∷ zs))) [] e in
    let others = then_there (each f xs) (λ zs. Ok (first.0 ∷ zs)) [] first.2 in
    let none : first.0 ∷ others.0 ≡ [] = same_ok (first.0 ∷ others.0) [] others.2 in cc
each_all f Q h (x ∷ xs) (z ∷ ys) e =
    let first = then_there (f x) (λ y. and_then (each f xs) (λ zs. Ok (y ∷ zs))) (z ∷ ys) e in
    let others = then_there (each f xs) (λ zs. Ok (first.0 ∷ zs)) (z ∷ ys) first.2 in
    let both : first.0 ∷ others.0 ≡ z ∷ ys = same_ok (first.0 ∷ others.0) (z ∷ ys) others.2 in
    let here : first.0 ≡ z = cc in
    let there : others.0 ≡ ys = cc in
    (h x z (first.1 ∙ ap ok here), each_all f Q h xs ys (others.1 ∙ ap ok there))

filters_swap : {A : Type 0} (p q : A → Bool) (xs : List A) → filter p (filter q xs) ≡ filter q (filter p xs)
filters_swap p q [] = refl
filters_swap {A} p q (x ∷ xs) = by (p x) refl (q x) refl (filters_swap p q xs)
  where
    by : (b : Bool) → p x ≡ b → (c : Bool) → q x ≡ c → filter p (filter q xs) ≡ filter q (filter p xs)
        → filter p (cond c (x ∷ filter q xs) (filter q xs)) ≡ filter q (cond b (x ∷ filter p xs) (filter p xs))
    by true is true at later =
        ap (λ c. cond c (x ∷ filter p (filter q xs)) (filter p (filter q xs))) is ∙ ap (λ (zs : List A). x ∷ zs) later
        ∙ ap (λ c. cond c (x ∷ filter q (filter p xs)) (filter q (filter p xs))) (sym at)
    by true is false at later = later ∙ ap (λ c. cond c (x ∷ filter q (filter p xs)) (filter q (filter p xs))) (sym at)
    by false is true at later = ap (λ c. cond c (x ∷ filter p (filter q xs)) (filter p (filter q xs))) is ∙ later
    by false is false at later = later

-- ---- firsts and classes, if the test is alike on elements that are the same

module _ {A : Type 0} (same : A → A → Bool) (has : A → Bool) (W : A → Type 0) (alike : (x y : A) → W x → W y → same x y ≡ true → has x ≡ has y) where
  -- what is the same as an element that does not pass does not pass either
  none_dropped : (x : A) → W x → has x ≡ false → (ys : List A) → AllByRecursion W ys → filter has (filter (λ y. not (same x y)) ys) ≡ filter has ys
  none_dropped x w fails [] all = refl
  none_dropped x w fails (y ∷ ys) all = by (has y) refl (same x y) refl (none_dropped x w fails ys all.1)
    where
      rest : List A
      rest = filter (λ z. not (same x z)) ys

      by : (b : Bool) → has y ≡ b → (s : Bool) → same x y ≡ s → filter has rest ≡ filter has ys → filter has (cond (not s) (y ∷ rest) rest) ≡ cond b (y ∷ filter has ys) (filter has ys)
      by true is true at later = absurd (false≢true (sym fails ∙ alike x y w all.0 at ∙ is))
      by true is false at later = ap (λ c. cond c (y ∷ filter has rest) (filter has rest)) is ∙ ap (λ (zs : List A). y ∷ zs) later
      by false is true at later = later
      by false is false at later = ap (λ c. cond c (y ∷ filter has rest) (filter has rest)) is ∙ later

  pub firsts_filtered : (xs : List A) → AllByRecursion W xs → firsts same (filter has xs) ≡ filter has (firsts same xs)
  firsts_filtered [] all = refl
  firsts_filtered (x ∷ xs) all = by (has x) refl (firsts_filtered xs all.1)
    where
      ys : List A
      ys = firsts same xs

      others : List A
      others = filter (λ y. not (same x y)) ys

      by : (b : Bool) → has x ≡ b → firsts same (filter has xs) ≡ filter has ys → firsts same (cond b (x ∷ filter has xs) (filter has xs)) ≡ cond (has x) (x ∷ filter has others) (filter has others)
      by true is later =
          ap (λ (zs : List A). x ∷ filter (λ y. not (same x y)) zs) later ∙ ap (λ (zs : List A). x ∷ zs) (filters_swap (λ y. not (same x y)) has ys)
          ∙ ap (λ c. cond c (x ∷ filter has others) (filter has others)) (sym is)
      by false is later =
          later ∙ sym (none_dropped x all.0 is ys (all_firsts W same xs all.1)) ∙ ap (λ c. cond c (x ∷ filter has others) (filter has others)) (sym is)

  all_alike : (x : A) → W x → has x ≡ true → (ys : List A) → AllByRecursion W ys → AllByRecursion (λ y. has y ≡ true) (filter (same x) ys)
  all_alike x w is [] all = tt
  all_alike x w is (y ∷ ys) all = by (same x y) refl (all_alike x w is ys all.1)
    where
      by : (s : Bool) → same x y ≡ s → AllByRecursion (λ z. has z ≡ true) (filter (same x) ys) → AllByRecursion (λ z. has z ≡ true) (cond s (y ∷ filter (same x) ys) (filter (same x) ys))
      by true at later = (sym (alike x y w all.0 at) ∙ is, later)
      by false at later = later

  class_whole : (xs : List A) → AllByRecursion W xs → (x : A) → W x → has x ≡ true → filter (same x) (filter has xs) ≡ filter (same x) xs
  class_whole xs all x w is = filters_swap (same x) has xs ∙ filter_all has (filter (same x) xs) (all_alike x w is xs all)

  pub classes_filtered : (was : List A → Bool) (xs : List A) → AllByRecursion W xs → AllByRecursion (λ x. was (filter (same x) xs) ≡ has x) (firsts same xs) → classes same (filter has xs) ≡ filter was (classes same xs)
  classes_filtered was xs all heads =
      ap (map (λ x. filter (same x) (filter has xs))) (firsts_filtered xs all)
      ∙ map_alike has (λ x. filter (same x) (filter has xs)) (λ x. filter (same x) xs) (firsts same xs)
      (all_weaker W (λ x. has x ≡ true → filter (same x) (filter has xs) ≡ filter (same x) xs) (class_whole xs all) (firsts same xs) (all_firsts W same xs all))
      ∙ map_filtered has (λ x. filter (same x) xs) was (firsts same xs) heads

-- ---- a class begins with one that is the same

abbrev pub BeginsLike : {A : Type 0} → (A → A → Bool) → (A → Type 0) → A → List A → Type 0
BeginsLike same W x [] = ⊥
BeginsLike same W x (y ∷ ys) = (same x y ≡ true) × W y

pub classes_begin : {A : Type 0} (same : A → A → Bool) (W : A → Type 0) → ((x : A) → same x x ≡ true) → (xs : List A) → AllByRecursion W xs → AllByRecursion (λ x. BeginsLike same W x (filter (same x) xs)) xs
classes_begin same W itself [] all = tt
classes_begin {A} same W itself (x ∷ xs) all = (
  here (same x x) (itself x),
  all_weaker (λ y. BeginsLike same W y (filter (same y) xs)) (λ y. BeginsLike same W y (filter (same y) (x ∷ xs))) (λ y h. there y (same y x) refl h) xs (classes_begin same W itself xs all.1),
)
  where
    here : (b : Bool) → b ≡ true → BeginsLike same W x (cond b (x ∷ filter (same x) xs) (filter (same x) xs))
    here true is = (itself x, all.0)
    here false is = absurd (false≢true is)

    there : (y : A) (b : Bool) → same y x ≡ b → BeginsLike same W y (filter (same y) xs) → BeginsLike same W y (cond b (x ∷ filter (same y) xs) (filter (same y) xs))
    there y true is h = (is, all.0)
    there y false is h = h
