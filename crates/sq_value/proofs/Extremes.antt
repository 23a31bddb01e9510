-- The best value so far is the first that no other surpasses.
use Rattle.std.proofs.Common.{◌≡◌, Bool, true, false, not, cond, ◌&&◌, List, [], ◌∷◌, ◌++◌, fold, find, Option, Some, None, refl, sym, ap, subst, ◌∙◌, append_assoc, inl, inr, ◌⊎◌}
use Rattle.std.proofs.lemmas.Bool.{and_parts, and_right, false_from_ne_true, not-true}
use Rattle.std.proofs.lemmas.List.{append-nil}
use Rattle.std.proofs.lemmas.List.Sums.{fold_more}
use Rattle.std.proofs.lemmas.List.Folds.{find-append, list_all-append}
use Rattle.std.specs.Option.{option_or}
use Rattle.std.specs.List.{list_all}
use Rattle.std.specs.Cmp.{IsTotalOrder, back_total}
use Rattle.std.specs.declared.cmp.Ordering.{Ordering}
use Rattle.std.specs.declared.cmp.Ordering.TheVariants.{Less, Equal, Greater}
use Rattle.std.specs.Ordering.{is_lt, flip_args, ordering_reverse}
use Rattle.sq_value.specs.Comparison.{ordered}
use Rattle.sq_value.specs.SetFunctions.{surpasses, first_unsurpassed, without_nulls}
use Rattle.sq_value.specs.private.SetFunctions.{better_of, kept_best}
use Rattle.sq_value.specs.laws.ValueOrder.{values_total}
use Rattle.sq_value.specs.declared.set_functions.Extreme.{Extreme}
use Rattle.sq_value.specs.declared.set_functions.Extreme.TheVariants.{Least, Greatest}
use Rattle.sq_value.specs.declared.value.Value.{Value}
use Rattle.sq_value.specs.declared.value.Value.TheVariants.{Null, Num, Chars}

-- ---- a strict order

pub record IsStrict (B : Value → Value → Bool) : Type 0 where
  pub itself : (v : Value) → B v v ≡ false
  pub along : (u v w : Value) → B u v ≡ true → B v w ≡ true → B u w ≡ true
  -- what is before x is before each that is not before x
  pub beyond : (v x u : Value) → B v x ≡ true → B u x ≡ false → B v u ≡ true

less_from : (r : Ordering) → is_lt r ≡ true → r ≡ Less
less_from Less h = refl
less_from Equal h = cc
less_from Greater h = cc

not_less : (r : Ordering) → r ≡ ordering_reverse r → is_lt r ≡ false
not_less Less h = cc
not_less Equal h = refl
not_less Greater h = refl

beyond_by : (R : Value → Value → Ordering) → IsTotalOrder R → (v x u : Value) (r : Ordering) → R x u ≡ r → R v x ≡ Less → is_lt (R u x) ≡ false → is_lt (R v u) ≡ true
beyond_by R o v x u Less e p q = ap is_lt (o.trans v x u p e)
beyond_by R o v x u Equal e p q = ap is_lt (o.antisymm v u ∙ ap ordering_reverse (sym (o.congr x u v e)) ∙ sym (o.antisymm v x) ∙ p)
beyond_by R o v x u Greater e p q = let yes : is_lt (R u x) ≡ true = ap is_lt (o.antisymm u x ∙ ap ordering_reverse e) in cc

strict_from : (R : Value → Value → Ordering) → IsTotalOrder R → IsStrict (λ v w. is_lt (R v w))
strict_from R o = record {
  itself = λ v. not_less (R v v) (o.antisymm v v);
  along = λ u v w p q. ap is_lt (o.trans u v w (less_from (R u v) p) (less_from (R v w) q));
  beyond = λ v x u p q. beyond_by R o v x u (R x u) refl (less_from (R v x) p) q;
}

strict : (e : Extreme) → IsStrict (surpasses e)
strict Least = strict_from ordered values_total
strict Greatest = strict_from (flip_args ordered) (back_total values_total)

-- ---- the first of a list that no other is before

abbrev unpassed : (Value → Value → Bool) → List Value → Value → Bool
unpassed B xs v = list_all (λ w. not (B w v)) xs

abbrev first : (Value → Value → Bool) → List Value → Option Value
first B xs = find (unpassed B xs) xs

none_found : (B : Value → Value → Bool) (Q : Value → Bool) (x : Value) → ((u : Value) → B u x ≡ false → Q u ≡ false) → (ys : List Value) → unpassed B ys x ≡ true → find Q ys ≡ None
none_found B Q x f [] h = refl
none_found B Q x f (y ∷ ys) h =
    let both = and_parts (not (B y x)) (unpassed B ys x) h in
    ap (λ b. cond b (Some y) (find Q ys)) (f y (not-true (B y x) (both.0))) ∙ none_found B Q x f ys (both.1)

all_weaker : (B : Value → Value → Bool) (x v : Value) → ((w : Value) → B w x ≡ false → B w v ≡ false) → (ys : List Value) → unpassed B ys x ≡ true → unpassed B ys v ≡ true
all_weaker B x v f [] h = refl
all_weaker B x v f (y ∷ ys) h =
    let both = and_parts (not (B y x)) (unpassed B ys x) h in
    ap (λ b. not b && unpassed B ys v) (f y (not-true (B y x) (both.0))) ∙ all_weaker B x v f ys (both.1)

passes_by : (p : Value → Bool) (y x : Value) (later : Option Value) → (later ≡ Some x → p x ≡ true) → (b : Bool) → p y ≡ b → cond b (Some y) later ≡ Some x → p x ≡ true
passes_by p y x later go true e h = let same : y ≡ x = cc in ap p (sym same) ∙ e
passes_by p y x later go false e h = go h

passes_found : (p : Value → Bool) (ys : List Value) (x : Value) → find p ys ≡ Some x → p x ≡ true
passes_found p [] x h = cc
passes_found p (y ∷ ys) x h = passes_by p y x (find p ys) (passes_found p ys x) (p y) refl h

found_by : (p q : Value → Bool) (y x : Value) (later other : Option Value) → (later ≡ Some x → other ≡ Some x) → ((u : Value) → p u ≡ false → q u ≡ false) → q x ≡ true
    → (b : Bool) → p y ≡ b → cond b (Some y) later ≡ Some x → cond (q y) (Some y) other ≡ Some x
found_by p q y x later other go f qx true e h = let same : y ≡ x = cc in ap (λ b. cond b (Some y) other) (ap q same ∙ qx) ∙ h
found_by p q y x later other go f qx false e h = ap (λ b. cond b (Some y) other) (f y e) ∙ go h

still_found : (p q : Value → Bool) (ys : List Value) (x : Value) → find p ys ≡ Some x → ((u : Value) → p u ≡ false → q u ≡ false) → q x ≡ true → find q ys ≡ Some x
still_found p q [] x h f qx = cc
still_found p q (y ∷ ys) x h f qx = found_by p q y x (find p ys) (find q ys) (λ g. still_found p q ys x g f qx) f qx (p y) refl h

-- ---- one value more

more_unpassed : (B : Value → Value → Bool) (xs : List Value) (v u : Value) → unpassed B (xs ++ v ∷ []) u ≡ (unpassed B xs u && (not (B v u) && true))
more_unpassed B xs v u = list_all-append (λ w. not (B w u)) xs (v ∷ [])

taken_is_first : (B : Value → Value → Bool) → IsStrict B → (xs : List Value) (x v : Value) → first B xs ≡ Some x → B v x ≡ true → first B (xs ++ v ∷ []) ≡ Some v
taken_is_first B s xs x v h before =
    let Q = unpassed B (xs ++ v ∷ []) in
    let free : unpassed B xs x ≡ true = passes_found (unpassed B xs) xs x h in
    let no_other : find Q xs ≡ None =
    none_found B Q x (λ u n. more_unpassed B xs v u ∙ ap (λ b. unpassed B xs u && (not b && true)) (s.beyond v x u before n) ∙ and_right (unpassed B xs u) false refl) xs free in
    let freed : unpassed B xs v ≡ true = all_weaker B x v (λ w n. false_from_ne_true (B w v) (λ y. let yes = s.along w v x y before in cc)) xs free in
    let here : Q v ≡ true = more_unpassed B xs v v ∙ (λ i. freed i && (not (s.itself v i) && true)) in
    find-append Q xs (v ∷ []) ∙ (λ i. option_or (no_other i) (cond (here i) (Some v) None))

kept_is_first : (B : Value → Value → Bool) → IsStrict B → (xs : List Value) (x v : Value) → first B xs ≡ Some x → B v x ≡ false → first B (xs ++ v ∷ []) ≡ Some x
kept_is_first B s xs x v h before =
    let Q = unpassed B (xs ++ v ∷ []) in
    let free : unpassed B xs x ≡ true = passes_found (unpassed B xs) xs x h in
    let here : Q x ≡ true = more_unpassed B xs v x ∙ (λ i. free i && (not (before i) && true)) in
    let found : find Q xs ≡ Some x = still_found (unpassed B xs) Q xs x h (λ u n. more_unpassed B xs v u ∙ ap (λ b. b && (not (B v u) && true)) n) here in
    find-append Q xs (v ∷ []) ∙ ap (λ o. option_or o (find Q (v ∷ []))) found

-- the best so far: of nothing none, else the first
abbrev IsBest : (Value → Value → Bool) → List Value → Option Value → Type 0
IsBest B xs best = ((xs ≡ []) × (best ≡ None)) ⊎ ((x : Value) × (best ≡ Some x) × (first B xs ≡ Some x))

compared_best : (e : Extreme) (xs : List Value) (x v : Value) → first (surpasses e) xs ≡ Some x → (b : Bool) → surpasses e v x ≡ b → IsBest (surpasses e) (xs ++ v ∷ []) (cond b (Some v) (Some x))
compared_best e xs x v h true is = inr (v, refl, taken_is_first (surpasses e) (strict e) xs x v h is)
compared_best e xs x v h false is = inr (x, refl, kept_is_first (surpasses e) (strict e) xs x v h is)

one_better : (e : Extreme) (xs : List Value) (best : Option Value) (v : Value) → IsBest (surpasses e) xs best → IsBest (surpasses e) (xs ++ v ∷ []) (better_of e best v)
one_better e xs best v (inl none) =
    let alone : first (surpasses e) (v ∷ []) ≡ Some v = ap (λ b. cond (not b && true) (Some v) None) ((strict e).itself v) in
    inr (v, ap (λ o. better_of e o v) (none.1), ap (λ ys. first (surpasses e) (ys ++ v ∷ [])) (none.0) ∙ alone)
one_better e xs best v (inr some) =
    subst (IsBest (surpasses e) (xs ++ v ∷ [])) (ap (λ o. better_of e o v) (sym (some.1))) (compared_best e xs (some.0) v (some.2) (surpasses e v (some.0)) refl)

best_along : (e : Extreme) (xs : List Value) (best : Option Value) (vs : List Value) → IsBest (surpasses e) xs best → IsBest (surpasses e) (xs ++ without_nulls vs) (fold (kept_best e) best vs)
best_along e xs best [] is = subst (λ ys. IsBest (surpasses e) ys best) (sym (append-nil xs)) is
best_along e xs best (Null ∷ vs) is = best_along e xs best vs is
best_along e xs best (Num n ∷ vs) is =
    subst (λ ys. IsBest (surpasses e) ys (fold (kept_best e) (better_of e best (Num n)) vs)) (append_assoc xs (Num n ∷ []) (without_nulls vs)) (best_along e (xs ++ Num n ∷ []) (better_of e best (Num n)) vs (one_better e xs best (Num n) is))
best_along e xs best (Chars t ∷ vs) is =
    subst (λ ys. IsBest (surpasses e) ys (fold (kept_best e) (better_of e best (Chars t)) vs)) (append_assoc xs (Chars t ∷ []) (without_nulls vs)) (best_along e (xs ++ Chars t ∷ []) (better_of e best (Chars t)) vs (one_better e xs best (Chars t) is))

first_from : (e : Extreme) (ys : List Value) (best : Option Value) → IsBest (surpasses e) ys best → best ≡ first_unsurpassed e ys
first_from e ys best (inl none) = none.1 ∙ sym (ap (first_unsurpassed e) (none.0))
first_from e ys best (inr some) = some.1 ∙ sym (some.2)

pub best_is : (e : Extreme) (vs : List Value) → first_unsurpassed e (without_nulls vs) ≡ fold (kept_best e) None vs
best_is e vs = sym (first_from e (without_nulls vs) (fold (kept_best e) None vs) (best_along e [] None vs (inl (refl, refl))))

pub ruleset extremes = (best_is, fold_more)
