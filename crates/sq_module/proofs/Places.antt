-- The first place in a list at which a test passes, and that it passes at none.
use Rattle.std.proofs.Common.{◌≡◌, ℕ, zero, suc, ◌+◌, ◌<◌, ◌≤◌, Bool, true, false, not, cond, ◌||◌, List, [], ◌∷◌, ◌++◌, Some, None, Result, Ok, Err, IfOk, length, get_or, take, refl, ap, sym, subst, ◌∙◌, arith}
use Rattle.std.proofs.lemmas.Bool.{lt-ltb, or_parts}
use Rattle.std.proofs.lemmas.Bool.Decides.{nat_tests}
use Rattle.std.proofs.lemmas.List.{take_more}
use Rattle.std.proofs.lemmas.List.Folds.{list_any_more}
use Rattle.std.specs.List.{AllByRecursion, list_any, position, position_or_len}
use Rattle.std.specs.Prelude.{OnOk, is_ok, nat_lt}
use Rattle.sq_module.proofs.Fitting.{all_last}
use Rattle.sq_module.proofs.Written.{take_whole}

-- the place is the first
len_at : {X : Type 0} (p : X → Bool) (xs : List X) (i : ℕ) (x : X) → i < length xs → x ≡ get_or xs i x → list_any p (take i xs) ≡ false → p x ≡ true → position_or_len p xs ≡ i
len_at p [] i x lt is none passes = let no : ⊥ = omega (arith, lt) in absurd no
len_at p (y ∷ ys) zero x lt is none passes = ap (λ b. cond (not b) (1 + position_or_len p ys) 0) (ap p (sym is) ∙ passes)
len_at p (y ∷ ys) (suc i) x lt is none passes =
    let both = or_parts (p y) (list_any p (take i ys)) none in
    let rest : position_or_len p ys ≡ i = len_at p ys i x (omega (arith, lt)) is both.1 passes in
    ap (λ b. cond (not b) (1 + position_or_len p ys) 0) both.0 ∙ omega (arith, rest)

-- no element meets the test
len_none : {X : Type 0} (p : X → Bool) (xs : List X) → list_any p xs ≡ false → position_or_len p xs ≡ length xs
len_none p [] none = refl
len_none p (y ∷ ys) none =
    let both = or_parts (p y) (list_any p ys) none in
    let rest : position_or_len p ys ≡ length ys = len_none p ys both.1 in
    ap (λ b. cond (not b) (1 + position_or_len p ys) 0) both.0 ∙ omega (arith, rest)

len_some : {X : Type 0} (p : X → Bool) (xs : List X) → list_any p xs ≡ true → position_or_len p xs < length xs
len_some p [] some = cc
len_some p (y ∷ ys) some = by (p y) refl (λ there. len_some p ys there)
  where
    by : (b : Bool) → p y ≡ b → (list_any p ys ≡ true → position_or_len p ys < length ys) → position_or_len p (y ∷ ys) < length (y ∷ ys)
    by true h rest = let here : position_or_len p (y ∷ ys) ≡ 0 = ap (λ b. cond (not b) (1 + position_or_len p ys) 0) h in omega (arith, here)
    by false h rest =
        let here : position_or_len p (y ∷ ys) ≡ 1 + position_or_len p ys = ap (λ b. cond (not b) (1 + position_or_len p ys) 0) h in
        let behind : position_or_len p ys < length ys = rest (sym (ap (λ b. b || list_any p ys) h) ∙ some) in
        omega (arith, here, behind)

within : (n m : ℕ) → n < m → cond (nat_lt n m) (Some n) None ≡ Some n
within n m h = ap (λ b. cond b (Some n) None) (lt-ltb n m h)

past : (n m : ℕ) → m ≤ n → cond (nat_lt n m) (Some n) None ≡ None
past n m h = let no : nat_lt n m ≡ false = grind (arith, nat_tests) in ap (λ b. cond b (Some n) None) no

pub place_found : {X : Type 0} (p : X → Bool) (xs : List X) (i : ℕ) (x : X) → i < length xs → x ≡ get_or xs i x → list_any p (take i xs) ≡ false → p x ≡ true → Some i ≡ position p xs
place_found p xs i x lt is none passes =
    sym (ap (λ n. cond (nat_lt n (length xs)) (Some n) None) (len_at p xs i x lt is none passes) ∙ within i (length xs) lt)

pub none_found : {X : Type 0} (p : X → Bool) (xs : List X) (n : ℕ) → length xs ≤ n → list_any p (take n xs) ≡ false → None ≡ position p xs
none_found p xs n le none =
    let all : list_any p xs ≡ false = subst (λ l. list_any p l ≡ false) (take_whole n xs le) none in
    sym (ap (λ n. cond (nat_lt n (length xs)) (Some n) None) (len_none p xs all) ∙ past (length xs) (length xs) (omega arith))

-- one element more at which the test doesn't pass
pub none_next : {X : Type 0} (p : X → Bool) (xs : List X) (i : ℕ) (x : X) → i < length xs → x ≡ get_or xs i x → list_any p (take i xs) ≡ false → p x ≡ false → list_any p (take (i + 1) xs) ≡ false
none_next p xs i x lt is none fails =
    list_any_more p xs i x lt ∙ ap (λ b. b || p (get_or xs i x)) none ∙ sym (ap p is) ∙ fails

-- no first place, so none
pub none_passes : {X : Type 0} (p : X → Bool) (xs : List X) → position p xs ≡ None → list_any p xs ≡ false
none_passes p xs h = by (list_any p xs) refl
  where
    by : (b : Bool) → list_any p xs ≡ b → b ≡ false
    by true some = let there = within (position_or_len p xs) (length xs) (len_some p xs some) in cc
    by false some = refl

-- what holds of each element holds with the next
pub all_next : {X : Type 0} (P : X → Type 0) (xs : List X) (i : ℕ) (x : X) → i < length xs → x ≡ get_or xs i x → AllByRecursion P (take i xs) → P x → AllByRecursion P (take (i + 1) xs)
all_next P xs i x lt is all one =
    subst (AllByRecursion P) (ap (λ y. take i xs ++ y ∷ []) is ∙ sym (take_more xs i x lt)) (all_last P (take i xs) x all one)

-- what holds whatever the answer is
pub if_ok : {X E A : Type 0} (r : Result X E) → A → IfOk r (λ x. A)
if_ok (Ok x) a = a
if_ok (Err e) a = tt

-- what a success says, where it is one
pub on_ok : {X E : Type 0} (r : Result X E) (A : Type 0) → OnOk r A → is_ok r ≡ true → A
on_ok (Ok x) A a is = a
on_ok (Err e) A a is = cc
