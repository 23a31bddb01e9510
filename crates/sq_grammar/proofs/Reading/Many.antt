-- Reading items again and again.
use Rattle.std.proofs.Common.{◌≡◌, ℕ, zero, suc, ◌+◌, ◌-◌, ◌<◌, Bool, true, false, cond, List, [], ◌∷◌, ◌++◌, length, Option, Some, None, Ok, Err, nat_lt, refl, sym, ◌∙◌, ap, arith, append_assoc, append-nil, add-one}
use Rattle.std.proofs.lemmas.Bool.{ltb-true, lt-ltb}
use Rattle.sq_grammar.specs.Reading.{Tokens}
use Rattle.sq_lex.specs.declared.lexeme.Lexeme.{Lexeme}
use Rattle.sq_grammar.specs.Reading.{Parser, Outcome, turn, many, all, with_front, behind, eat, comma, comma_separated}

cond-same : {A : Type 0} (b : Bool) (x y z : A) → (b ≡ true → x ≡ y) → cond b x z ≡ cond b y z
cond-same true x y z h = h refl
cond-same false x y z h = refl

turn-same : {A : Type 0} (ts : Tokens) (go go' : Parser (List A)) → ((rest : Tokens) → length rest < length ts → go rest ≡ go' rest) → (r : Outcome (Option A)) → turn ts go r ≡ turn ts go' r
turn-same ts go go' same (Ok (None, after)) = refl
turn-same ts go go' same (Err e) = refl
turn-same ts go go' same (Ok (Some x, after)) = cond-same (nat_lt (length after) (length ts)) _ _ _ (λ h. ap (with_front (x ∷ [])) (same after (ltb-true _ _ h)))

chosen : {A : Type 0} (b : Bool) → b ≡ true → (x y : A) → cond b x y ≡ x
chosen b e x y = rw e refl

pub many-fuel : {A : Type 0} (item : Parser (Option A)) (n m : ℕ) (ts : Tokens) → length ts < n → length ts < m → many n item ts ≡ many m item ts
unfolding many
many-fuel item zero m ts p q = absurd (omega arith)
many-fuel item (suc n) zero ts p q = absurd (omega arith)
many-fuel item (suc n) (suc m) ts p q = turn-same ts (many n item) (many m item) (λ rest h. many-fuel item n m rest (omega arith) (omega arith)) (item ts)

-- one turn
pub all-turn : {A : Type 0} (item : Parser (Option A)) (ts : Tokens) → all item ts ≡ turn ts (all item) (item ts)
unfolding all many
all-turn item ts = rw add-one (turn-same ts (many (length ts) item) (all item) (λ rest h. many-fuel item (length ts) (length rest + 1) rest h (omega arith)) (item ts))

pub all-none : {A : Type 0} (item : Parser (Option A)) (ts after : Tokens) → item ts ≡ Ok (None, after) → all item ts ≡ Ok ([], after)
all-none item ts after e = all-turn item ts ∙ ap (turn ts (all item)) e

pub all-err : {A : Type 0} (item : Parser (Option A)) (ts : Tokens) (n : ℕ) → item ts ≡ Err n → all item ts ≡ Err n
all-err item ts n h = all-turn item ts ∙ ap (turn ts (all item)) h

pub all-some : {A : Type 0} (item : Parser (Option A)) (ts : Tokens) (x : A) (rest : Tokens) → item ts ≡ Ok (Some x, rest) → length rest < length ts → all item ts ≡ with_front (x ∷ []) (all item rest)
all-some item ts x rest h less = all-turn item ts ∙ ap (turn ts (all item)) h ∙ chosen (nat_lt (length rest) (length ts)) (lt-ltb _ _ less) _ _

pub with_front-front : {A : Type 0} (a b : List A) (r : Outcome (List A)) → with_front a (with_front b r) ≡ with_front (a ++ b) r
with_front-front a b (Ok x) = ap (λ xs. Ok (xs, x.1)) (sym (append_assoc a b x.0))
with_front-front a b (Err e) = refl

-- A loop that has read `xs`, and what it reads on.
pub front-none : {A : Type 0} (item : Parser (Option A)) (xs : List A) (ts after : Tokens) (r : Outcome (List A)) → with_front xs (all item ts) ≡ r → item ts ≡ Ok (None, after) → r ≡ Ok (xs, after)
front-none item xs ts after r read e = sym read ∙ ap (with_front xs) (all-none item ts after e) ∙ ap (λ ys. Ok (ys, after)) (append-nil xs)

pub front-err : {A : Type 0} (item : Parser (Option A)) (xs : List A) (ts : Tokens) (r : Outcome (List A)) (e : ℕ) → with_front xs (all item ts) ≡ r → item ts ≡ Err e → r ≡ Err e
front-err item xs ts r e read h = sym read ∙ ap (with_front xs) (all-err item ts e h)

pub front-some : {A : Type 0} (item : Parser (Option A)) (xs : List A) (ts : Tokens) (r : Outcome (List A)) (x : A) (rest : Tokens) → with_front xs (all item ts) ≡ r → item ts ≡ Ok (Some x, rest) → length rest < length ts → with_front (xs ++ x ∷ []) (all item rest) ≡ r
front-some item xs ts r x rest read h less = sym (with_front-front xs (x ∷ []) (all item rest)) ∙ ap (with_front xs) (sym (all-some item ts x rest h less)) ∙ read

-- A loop that ends since the token before the next item does not come.
pub all_ends : {A : Type 0} (token : Lexeme) (item : Parser A) (xs : List A) (now after : Tokens) (found : Bool) (r : Outcome (List A)) → with_front xs (all (behind token item) now) ≡ r → eat token now ≡ Ok (found, after) → found ≡ false → r ≡ Ok (xs, after)
all_ends token item xs now after found r read e gone =
    let h : eat token now ≡ Ok (false, after) = e ∙ ap (λ b. Ok (b, after)) gone in
    front-none (behind token item) xs now after r read (rw h refl)

-- A list with commas that ends since no comma comes; its first item is read before the loop.
pub listed_ends : {A : Type 0} (item : Parser A) (ts start now after : Tokens) (first : A) (xs : List A) (found : Bool) → item ts ≡ Ok (first, start) → with_front xs (all (behind comma item) now) ≡ all (behind comma item) start → eat comma now ≡ Ok (found, after) → found ≡ false → comma_separated item ts ≡ Ok (record { first = first; rest = xs }, after)
listed_ends item ts start now after first xs found one read e gone =
    let h = all_ends comma item xs now after found _ read e gone in
    rw one (rw h refl)

-- A loop that ends since the next item is not there.
pub all_done : {A : Type 0} (item : Parser (Option A)) (xs : List A) (now after : Tokens) (o : Option A) (r : Outcome (List A)) → with_front xs (all item now) ≡ r → item now ≡ Ok (o, after) → o ≡ None → r ≡ Ok (xs, after)
all_done item xs now after o r read e gone = front-none item xs now after r read (e ∙ ap (λ p. Ok (p, after)) gone)

pub ruleset loops = (front-none, front-err, front-some, all_ends, listed_ends, all_done)

-- what stands behind a bracket, by how many may be opened
pub deeper : {A : Type 0} (p : ℕ → A) (n : ℕ) → 0 < n → p n ≡ p (suc (n - 1))
deeper p zero h = absurd (omega arith)
deeper p (suc n) h = ap (λ m. p (suc m)) (omega arith)

-- The steps of a list of items behind commas.
pub front-nil : {A : Type 0} (r : Outcome (List A)) → with_front [] r ≡ r
front-nil (Ok x) = refl
front-nil (Err n) = refl
