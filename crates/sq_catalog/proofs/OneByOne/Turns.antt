-- Steps that are made one after the other, and lists of which each element is made in turn.
use Rattle.std.proofs.Common.{◌≡◌, ℕ, ◌+◌, ◌<◌, ◌≤◌, List, [], ◌∷◌, ◌++◌, length, get_or, take, drop, map, Result, Ok, Err, IfOk, refl, ap, sym, subst, ◌∙◌}
use Rattle.std.proofs.lemmas.List.{append_assoc, map-append, take-append-drop, take_all, take_more}
use Rattle.std.specs.Result.{IfErr, IsErrAnd, OnOk}
use Rattle.sq_binding.specs.ElementOutcome.{Outcome, and_then, each}
use Rattle.sq_catalog.specs.Fault.{Makes, Stops}
use Rattle.sq_bound.specs.Parts.{IsFaultOf}
use Rattle.sq_catalog.specs.declared.fault.ElementFault.{ElementFault}
use Rattle.sq_catalog.specs.declared.fault.ElementFault.TheVariants.{NoMemory, Refused}

-- ---- one step after the other

-- what stops a step stops what goes on with it
pub stops_then : {A B : Type 0} (o : Outcome A) (f : A → Outcome B) (fault : ElementFault) → Stops o fault → Stops (and_then o f) fault
stops_then o f NoMemory h = tt
stops_then o f (Refused fault) h = ap (λ o. and_then o f) h

-- the next step stops
pub then_stops : {A B : Type 0} (o : Outcome A) (x : A) (f : A → Outcome B) (fault : ElementFault) → o ≡ Ok x → Stops (f x) fault → Stops (and_then o f) fault
then_stops o x f fault is h = subst (λ o. Stops (and_then o f) fault) (sym is) h

-- the rest is made
pub then_makes : {A B X : Type 0} (image : X → B) (o : Outcome A) (x : A) (f : A → Outcome B) (r : Result X ElementFault) → o ≡ Ok x → Makes image (f x) r → Makes image (and_then o f) r
then_makes image o x f r is h = subst (λ o. Makes image (and_then o f) r) (sym is) h

pub in_order : {A B C : Type 0} (o : Outcome A) (f : A → Outcome B) (g : B → Outcome C) → and_then (and_then o f) g ≡ and_then o (λ x. and_then (f x) g)
in_order (Ok x) f g = refl
in_order (Err e) f g = refl

pub stops_same : {A : Type 0} (o p : Outcome A) (fault : ElementFault) → o ≡ p → Stops p fault → Stops o fault
stops_same o p fault is h = subst (λ o. Stops o fault) (sym is) h

pub makes_same : {A X : Type 0} (image : X → A) (o p : Outcome A) (r : Result X ElementFault) → o ≡ p → Makes image p r → Makes image o r
makes_same image o p r is h = subst (λ o. Makes image o r) (sym is) h

-- an answer that is handed on
pub handed_on : {A X : Type 0} (image : X → A) (o : Outcome A) (r : Result X ElementFault) (fault : ElementFault) → IsErrAnd r (λ f. f ≡ fault) → Stops o fault → Makes image o r
handed_on image o (Ok x) fault is h = absurd is
handed_on image o (Err f) fault is h = subst (Stops o) (sym is) h

-- running out of memory is no refusal
pub no_memory : {A : Type 0} (o : Outcome A) (fault : ElementFault) → fault ≡ NoMemory → Stops o fault
no_memory o fault is = subst (Stops o) (sym is) tt

pub on_ok : {X : Type 0} {P : Type 0} (r : Result X ElementFault) → P → OnOk r P
on_ok (Ok x) p = p
on_ok (Err f) p = tt

-- what is added is what is computed, or memory ran out
pub added_makes : {A X : Type 0} (new : A) (o : Outcome A) (r : Result X ElementFault) (x : A) → o ≡ Ok x → OnOk r (new ≡ x) → IfErr r (λ f. f ≡ NoMemory) → Makes (λ y. new) o r
added_makes new o (Ok y) x is h m = is ∙ ap Ok (sym h)
added_makes new o (Err f) x is h m = no_memory o f m

-- ---- two values, one beside the other

module _ {A B X Y : Type 0} (a : X → A) (b : Y → B) (o : Outcome A) (p : Outcome B) (left : Result X ElementFault) (right : Result Y ElementFault) (m : Makes a o left) (n : Makes b p right) where
  abbrev one_by_one : {C : Type 0} → (A → B → Outcome C) → Outcome C
  one_by_one k = and_then o (λ x. and_then p (λ y. k x y))

  pub both_stop : {C : Type 0} (k : A → B → Outcome C) (fault : ElementFault) → IsFaultOf left right fault → Stops (one_by_one k) fault
  both_stop k fault is = by left right m n is
    where
      by : (l : Result X ElementFault) (r : Result Y ElementFault) → Makes a o l → Makes b p r → IsFaultOf l r fault → Stops (one_by_one k) fault
      by (Err f) r m n is = subst (Stops (one_by_one k)) (sym is) (stops_then o (λ x. and_then p (λ y. k x y)) f m)
      by (Ok x) (Err f) m n is = subst (Stops (one_by_one k)) (sym is) (then_stops o (a x) (λ x. and_then p (λ y. k x y)) f m (stops_then p (λ y. k (a x) y) f n))
      by (Ok x) (Ok y) m n is = absurd is

  pub both_made : {C : Type 0} (k : A → B → Outcome C) (x : X) (y : Y) → left ≡ Ok x → right ≡ Ok y → one_by_one k ≡ k (a x) (b y)
  both_made k x y e f =
      let first : o ≡ Ok (a x) = subst (Makes a o) e m in
      let second : p ≡ Ok (b y) = subst (Makes b p) f n in
      (λ i. and_then (first i) (λ x. and_then (second i) (λ y. k x y)))

  pub both_makes : (r : Result (X × Y) ElementFault) → IfOk r (λ parts. (left ≡ Ok parts.0) × (right ≡ Ok parts.1)) → IfErr r (IsFaultOf left right) → Makes {B = A × B} (λ (parts : X × Y). (a parts.0, b parts.1)) (one_by_one (λ x y. Ok (x, y))) r
  both_makes (Ok parts) values fault = both_made (λ x y. Ok (x, y)) parts.0 parts.1 values.0 values.1
  both_makes (Err f) values fault = both_stop (λ x y. Ok (x, y)) f fault

-- ---- each of a list

ok_itself : {A : Type 0} (o : Outcome (List A)) → and_then o (λ ws. Ok ([] ++ ws)) ≡ o
ok_itself (Ok ws) = refl
ok_itself (Err fault) = refl

module _ {A B : Type 0} (f : A → Outcome B) where
  abbrev joined : Outcome (List B) → Outcome (List B) → Outcome (List B)
  joined o p = and_then o (λ ys. and_then p (λ ws. Ok (ys ++ ws)))

  one_more : (y : B) (o p : Outcome (List B)) → and_then (joined o p) (λ ys. Ok (y ∷ ys)) ≡ joined (and_then o (λ ys. Ok (y ∷ ys))) p
  one_more y (Err fault) p = refl
  one_more y (Ok ys) (Err fault) = refl
  one_more y (Ok ys) (Ok ws) = refl

  first_of : (xs zs : List A) → each f (xs ++ zs) ≡ joined (each f xs) (each f zs) → (o : Outcome B)
      → and_then o (λ y. and_then (each f (xs ++ zs)) (λ ys. Ok (y ∷ ys))) ≡ joined (and_then o (λ y. and_then (each f xs) (λ ys. Ok (y ∷ ys)))) (each f zs)
  first_of xs zs rest (Err fault) = refl
  first_of xs zs rest (Ok y) = ap (λ o. and_then o (λ ys. Ok (y ∷ ys))) rest ∙ one_more y (each f xs) (each f zs)

  pub each_append : (xs zs : List A) → each f (xs ++ zs) ≡ joined (each f xs) (each f zs)
  each_append [] zs = sym (ok_itself (each f zs))
  each_append (x ∷ xs) zs = first_of xs zs (each_append xs zs) (f x)

  -- one element more
  pub each_more : (xs : List A) (ys : List B) (x : A) (y : B) → each f xs ≡ Ok ys → f x ≡ Ok y → each f (xs ++ x ∷ []) ≡ Ok (ys ++ y ∷ [])
  each_more xs ys x y so_far here =
      each_append xs (x ∷ []) ∙ ap (λ o. joined o (each f (x ∷ []))) so_far ∙ ap (λ o. and_then (and_then o (λ y. Ok (y ∷ []))) (λ ws. Ok (ys ++ ws))) here

  -- one that stops
  pub each_stops : (xs : List A) (ys : List B) (x : A) (zs : List A) (fault : ElementFault) → each f xs ≡ Ok ys → Stops (f x) fault → Stops (each f (xs ++ x ∷ zs)) fault
  each_stops xs ys x zs NoMemory so_far here = tt
  each_stops xs ys x zs (Refused fault) so_far here =
      each_append xs (x ∷ zs) ∙ ap (λ o. joined o (each f (x ∷ zs))) so_far ∙ ap (λ o. and_then (and_then o (λ y. and_then (each f zs) (λ ys. Ok (y ∷ ys)))) (λ ws. Ok (ys ++ ws))) here

-- ---- a loop over a list

pub parted : {A : Type 0} (xs : List A) (i : ℕ) (x : A) → i < length xs → x ≡ get_or xs i x → take i xs ++ x ∷ drop (i + 1) xs ≡ xs
parted xs i x within at =
    sym (append_assoc (take i xs) (x ∷ []) (drop (i + 1) xs)) ∙ ap (λ l. l ++ drop (i + 1) xs) (ap (λ y. take i xs ++ y ∷ []) at ∙ sym (take_more xs i x within)) ∙ take-append-drop (i + 1) xs

pub taken : {A : Type 0} (xs : List A) (i : ℕ) (x : A) → i < length xs → x ≡ get_or xs i x → take (i + 1) xs ≡ take i xs ++ x ∷ []
taken xs i x within at = take_more xs i x within ∙ ap (λ y. take i xs ++ y ∷ []) (sym at)

module _ {A B : Type 0} (f : A → Outcome B) where
  -- what is made of the first elements
  abbrev pub IsDoneTo : List A → ℕ → List B → Type 0
  IsDoneTo xs i ys = each f (take i xs) ≡ Ok ys

  pub done_next : (xs : List A) (i : ℕ) (x : A) (ys new : List B) (y : B) → i < length xs → x ≡ get_or xs i x → new ≡ ys ++ y ∷ [] → IsDoneTo xs i ys → f x ≡ Ok y → IsDoneTo xs (i + 1) new
  done_next xs i x ys new y within at grown so_far here = ap (each f) (taken xs i x within at) ∙ each_more f (take i xs) ys x y so_far here ∙ ap Ok (sym grown)

  pub done_stops : (xs : List A) (i : ℕ) (x : A) (ys : List B) (fault : ElementFault) → i < length xs → x ≡ get_or xs i x → IsDoneTo xs i ys → Stops (f x) fault → Stops (each f xs) fault
  done_stops xs i x ys fault within at so_far here =
      stops_same (each f xs) (each f (take i xs ++ x ∷ drop (i + 1) xs)) fault (ap (each f) (sym (parted xs i x within at))) (each_stops f (take i xs) ys x (drop (i + 1) xs) fault so_far here)

  pub done_all : (xs : List A) (i : ℕ) (ys : List B) → length xs ≤ i → IsDoneTo xs i ys → each f xs ≡ Ok ys
  done_all xs i ys past so_far = ap (each f) (sym (take_all i xs past)) ∙ so_far

module _ {A B E : Type 0} (f : A → Outcome B) (g : E → A) where
  -- what is made of the first elements
  abbrev pub IsMadeTo : List E → ℕ → List B → Type 0
  IsMadeTo xs i ys = each f (map g (take i xs)) ≡ Ok ys

  pub made_next : (xs : List E) (i : ℕ) (e : E) (ys new : List B) (y : B) → i < length xs → e ≡ get_or xs i e → new ≡ ys ++ y ∷ [] → IsMadeTo xs i ys → f (g e) ≡ Ok y → IsMadeTo xs (i + 1) new
  made_next xs i e ys new y within at grown so_far here =
      ap (λ l. each f (map g l)) (taken xs i e within at) ∙ ap (each f) (map-append g (take i xs) (e ∷ [])) ∙ each_more f (map g (take i xs)) ys (g e) y so_far here ∙ ap Ok (sym grown)

  pub made_stops : (xs : List E) (i : ℕ) (e : E) (ys : List B) (fault : ElementFault) → i < length xs → e ≡ get_or xs i e → IsMadeTo xs i ys → Stops (f (g e)) fault → Stops (each f (map g xs)) fault
  made_stops xs i e ys fault within at so_far here =
      stops_same (each f (map g xs)) (each f (map g (take i xs) ++ g e ∷ map g (drop (i + 1) xs))) fault
      (ap (λ l. each f (map g l)) (sym (parted xs i e within at)) ∙ ap (each f) (map-append g (take i xs) (e ∷ drop (i + 1) xs)))
      (each_stops f (map g (take i xs)) ys (g e) (map g (drop (i + 1) xs)) fault so_far here)

  pub made_all : (xs : List E) (i : ℕ) (ys : List B) → length xs ≤ i → IsMadeTo xs i ys → each f (map g xs) ≡ Ok ys
  made_all xs i ys past so_far = ap (λ l. each f (map g l)) (sym (take_all i xs past)) ∙ so_far

  module _ {X : Type 0} (image : X → B) where
    -- the list so far, as the definition sees it
    abbrev pub IsSeenTo : List E → ℕ → List X → Type 0
    IsSeenTo xs i parts = IsMadeTo xs i (map image parts)

    pub seen_next : (xs : List E) (i : ℕ) (e : E) (parts new : List X) (x : X) → i < length xs → e ≡ get_or xs i e → new ≡ parts ++ x ∷ [] → IsSeenTo xs i parts → f (g e) ≡ Ok (image x) → IsSeenTo xs (i + 1) new
    seen_next xs i e parts new x within at grown so_far here =
        made_next xs i e (map image parts) (map image new) (image x) within at (ap (map image) grown ∙ map-append image parts (x ∷ [])) so_far here
