-- A property of parts that are bound one after the other. It holds for each among the set functions of its query, whatever
-- comes before and after it.
use Rattle.std.proofs.Common.{◌≡◌, ℕ, ◌+◌, Bool, true, false, List, [], ◌∷◌, ◌++◌, length, map, Ok, Err, refl, sym, ap, subst, ◌∙◌, append_assoc}
use Rattle.std.proofs.lemmas.List.{append-nil, length-append}
use Rattle.std.specs.Prelude.{⊤, nat_lt, if◌then◌else◌}
use Rattle.sq_meaning.specs.Status as status
use Rattle.sq_bound.specs.Expression.{PlacedExpr}
use Rattle.sq_meaning.specs.declared.fault.BindingFault.{BindingFault}
use Rattle.sq_meaning.specs.declared.fault.BindingFault.TheVariants as fault
use Rattle.sq_binding.specs.Found.{Binding, Counts, Found, ◌>>=◌, after, at_most, each, from_first, has_found, joined, must, outcome, pure, refused, then_joined}
use Rattle.sq_binding.specs.Outcome.{Outcome, and_then}
use Rattle.sq_binding.specs.QueryFindings.{QueryFindings}

-- P holds of the part where the query has these set functions; where none may stand, it has none.
pub record IsPart {A : Type 0} (allowed : Bool) (counts : Counts) (P : List PlacedExpr → A → Type 0) (x : Found A) : Type 0 where
  pub is_so : (before later : List PlacedExpr) → length before ≡ counts.functions → P (before ++ (x.calls ++ later)) x.part
  pub none_forbidden : allowed ≡ false → x.calls ≡ []

abbrev pub IfFound : {A : Type 0} → (Found A → Type 0) → Outcome (Found A) → Type 0
IfFound P (Ok x) = P x
IfFound P (Err f) = ⊤

-- the relation holds of whatever is bound
abbrev pub Binds : {A : Type 0} → Bool → (List PlacedExpr → A → Type 0) → Binding A → Type 0
Binds allowed P b = (counts : Counts) → IfFound (IsPart allowed counts P) (b counts)

-- ---- one part after the other

module _ {A B : Type 0} (allowed : Bool) (counts : Counts) (P : List PlacedExpr → A → Type 0) (Q : List PlacedExpr → B → Type 0) where
  -- both parts among the set functions of both
  both_parts : (x : Found A) (y : Found B) → IsPart allowed counts P x → IsPart allowed (after counts x) (λ functions z. P functions x.part → Q functions z) y → IsPart allowed counts Q (joined x y)
  both_parts x y h g = record {
    is_so = λ before later size.
        let moved : (before ++ x.calls) ++ (y.calls ++ later) ≡ before ++ (x.calls ++ (y.calls ++ later)) = append_assoc before x.calls (y.calls ++ later) in
        let whole : before ++ ((x.calls ++ y.calls) ++ later) ≡ before ++ (x.calls ++ (y.calls ++ later)) = ap (λ l. before ++ l) (append_assoc x.calls y.calls later) in
        let first : P (before ++ (x.calls ++ (y.calls ++ later))) x.part = h.is_so before (y.calls ++ later) size in
        let second : P ((before ++ x.calls) ++ (y.calls ++ later)) x.part → Q ((before ++ x.calls) ++ (y.calls ++ later)) y.part =
        g.is_so (before ++ x.calls) later (length-append before x.calls ∙ ap (λ m. m + length x.calls) size) in
        subst (λ l. Q l y.part) (moved ∙ sym whole) (second (subst (λ l. P l x.part) (sym moved) first));
    none_forbidden = λ no i. h.none_forbidden no i ++ g.none_forbidden no i;
  }

  joined_part : (x : Found A) → IsPart allowed counts P x → (o : Outcome (Found B)) → IfFound (IsPart allowed (after counts x) (λ functions z. P functions x.part → Q functions z)) o
      → IfFound (IsPart allowed counts Q) (then_joined x o)
  joined_part x h (Ok y) g = both_parts x y h g
  joined_part x h (Err f) g = tt

  then_part : (o : Outcome (Found A)) (f : A → Binding B) → IfFound (IsPart allowed counts P) o → ((x : A) → Binds allowed (λ functions z. P functions x → Q functions z) (f x))
      → IfFound (IsPart allowed counts Q) (and_then o (λ x. then_joined x (f x.part (after counts x))))
  then_part (Ok x) f h g = joined_part x h (f x.part (after counts x)) (g x.part (after counts x))
  then_part (Err fault) f h g = tt

pub then_binds : {A B : Type 0} (allowed : Bool) (P : List PlacedExpr → A → Type 0) (Q : List PlacedExpr → B → Type 0) (b : Binding A) (f : A → Binding B)
    → Binds allowed P b → ((x : A) → Binds allowed (λ functions z. P functions x → Q functions z) (f x)) → Binds allowed Q (b >>= f)
then_binds allowed P Q b f h g counts = then_part allowed counts P Q (b counts) f (h counts) g

pub pure_binds : {A : Type 0} (allowed : Bool) (P : List PlacedExpr → A → Type 0) (x : A) → ((functions : List PlacedExpr) → P functions x) → Binds allowed P (pure x)
pure_binds allowed P x h counts = record { is_so = λ before later size. h (before ++ ([] ++ later)); none_forbidden = λ no. refl }

-- what is known of a part is more than what is wanted
more_part : {A : Type 0} (allowed : Bool) (counts : Counts) (P Q : List PlacedExpr → A → Type 0) → ((functions : List PlacedExpr) (x : A) → P functions x → Q functions x)
    → (o : Outcome (Found A)) → IfFound (IsPart allowed counts P) o → IfFound (IsPart allowed counts Q) o
more_part allowed counts P Q more (Ok x) h = record { is_so = λ before later size. more (before ++ (x.calls ++ later)) x.part (h.is_so before later size); none_forbidden = h.none_forbidden }
more_part allowed counts P Q more (Err f) h = tt

pub more_binds : {A : Type 0} (allowed : Bool) (P Q : List PlacedExpr → A → Type 0) (b : Binding A) → ((functions : List PlacedExpr) (x : A) → P functions x → Q functions x) → Binds allowed P b → Binds allowed Q b
more_binds allowed P Q b more h counts = more_part allowed counts P Q more (b counts) (h counts)

-- ---- one, two or three parts that are made one

pub one_binds : {A B : Type 0} (allowed : Bool) (P : List PlacedExpr → A → Type 0) (Q : List PlacedExpr → B → Type 0) (b : Binding A) (make : A → B) → Binds allowed P b
    → ((functions : List PlacedExpr) (x : A) → P functions x → Q functions (make x)) → Binds allowed Q (b >>= λ x. pure (make x))
one_binds allowed P Q b make h g =
    then_binds allowed P Q b (λ x. pure (make x)) h (λ x. pure_binds allowed (λ functions y. P functions x → Q functions y) (make x) (λ functions p. g functions x p))

pub two_binds : {A B C : Type 0} (allowed : Bool) (P : List PlacedExpr → A → Type 0) (Q : List PlacedExpr → B → Type 0) (R : List PlacedExpr → C → Type 0) (b : Binding A) (c : A → Binding B) (make : A → B → C)
    → Binds allowed P b → ((x : A) → Binds allowed Q (c x)) → ((functions : List PlacedExpr) (x : A) (y : B) → P functions x → Q functions y → R functions (make x y))
    → Binds allowed R (b >>= λ x. c x >>= λ y. pure (make x y))
two_binds allowed P Q R b c make h g k =
    then_binds allowed P R b (λ x. c x >>= λ y. pure (make x y)) h
    (λ x. one_binds allowed Q (λ functions z. P functions x → R functions z) (c x) (make x) (g x) (λ functions y q p. k functions x y p q))

pub three_binds : {A B C D : Type 0} (allowed : Bool) (P : List PlacedExpr → A → Type 0) (Q : List PlacedExpr → B → Type 0) (R : List PlacedExpr → C → Type 0) (S : List PlacedExpr → D → Type 0)
    (b : Binding A) (c : A → Binding B) (d : A → Binding C) (make : A → B → C → D)
    → Binds allowed P b → ((x : A) → Binds allowed Q (c x)) → ((x : A) → Binds allowed R (d x))
    → ((functions : List PlacedExpr) (x : A) (y : B) (z : C) → P functions x → Q functions y → R functions z → S functions (make x y z))
    → Binds allowed S (b >>= λ x. c x >>= λ y. d x >>= λ z. pure (make x y z))
three_binds allowed P Q R S b c d make h g k l =
    then_binds allowed P S b (λ x. c x >>= λ y. d x >>= λ z. pure (make x y z)) h
    (λ x. two_binds allowed Q R (λ functions w. P functions x → S functions w) (c x) (λ y. d x) (make x) (g x) (λ y. k x) (λ functions y z q r p. l functions x y z p q r))

-- five, of which the last two look at the first and the third, and the others at the first
pub five_binds : {A B C D E F : Type 0} (allowed : Bool) (P : List PlacedExpr → A → Type 0) (Q : A → List PlacedExpr → B → Type 0) (R : A → List PlacedExpr → C → Type 0) (S : A → List PlacedExpr → D → Type 0)
    (T : A → List PlacedExpr → E → Type 0) (W : List PlacedExpr → F → Type 0) (b : Binding A) (c : A → Binding B) (d : A → Binding C) (e : A → C → Binding D) (f : A → C → Binding E) (make : A → B → C → D → E → F)
    → Binds allowed P b → ((x : A) → Binds allowed (Q x) (c x)) → ((x : A) → Binds allowed (R x) (d x)) → ((x : A) (z : C) → Binds allowed (S x) (e x z)) → ((x : A) (z : C) → Binds allowed (T x) (f x z))
    → ((functions : List PlacedExpr) (x : A) (y : B) (z : C) (u : D) (v : E) → P functions x → Q x functions y → R x functions z → S x functions u → T x functions v → W functions (make x y z u v))
    → Binds allowed W (b >>= λ x. c x >>= λ y. d x >>= λ z. e x z >>= λ u. f x z >>= λ v. pure (make x y z u v))
five_binds allowed P Q R S T W b c d e f make hb hc hd he hf k =
    then_binds allowed P W b (λ x. c x >>= λ y. d x >>= λ z. e x z >>= λ u. f x z >>= λ v. pure (make x y z u v)) hb
    (λ x. then_binds allowed (Q x) (λ functions w. P functions x → W functions w) (c x) (λ y. d x >>= λ z. e x z >>= λ u. f x z >>= λ v. pure (make x y z u v)) (hc x)
    (λ y. then_binds allowed (R x) (λ functions w. Q x functions y → P functions x → W functions w) (d x) (λ z. e x z >>= λ u. f x z >>= λ v. pure (make x y z u v)) (hd x)
    (λ z. two_binds allowed (S x) (T x) (λ functions w. R x functions z → Q x functions y → P functions x → W functions w) (e x z) (λ u. f x z) (λ u v. make x y z u v) (he x z) (λ u. hf x z)
    (λ functions u v s t r q p. k functions x y z u v p q r s t))))

-- ---- parts of which nothing is said

abbrev pub Anything : {A : Type 0} → List PlacedExpr → A → Type 0
Anything functions x = ⊤

pub must_binds : (allowed : Bool) (test : Bool) (f : BindingFault) → Binds allowed Anything (must test f)
must_binds allowed true f counts = record { is_so = λ before later size. tt; none_forbidden = λ no. refl }
must_binds allowed false f counts = tt

pub has_found_binds : (allowed : Bool) (found : QueryFindings) → Binds allowed Anything (has_found found)
has_found_binds allowed found counts = record { is_so = λ before later size. tt; none_forbidden = λ no. refl }

-- a part of which nothing is said leaves what is said of the next one
pub then_any : {A B : Type 0} (allowed : Bool) (Q : List PlacedExpr → B → Type 0) (b : Binding A) (f : A → Binding B) → Binds allowed Anything b → ((x : A) → Binds allowed Q (f x)) → Binds allowed Q (b >>= f)
then_any allowed Q b f h g = then_binds allowed Anything Q b f h (λ x. more_binds allowed Q (λ functions z. ⊤ → Q functions z) (f x) (λ functions z q _. q) (g x))

-- ---- parts with a condition

limited : {A : Type 0} (P : Found A → Type 0) (t : Bool) (b : Binding A) (counts : Counts) → IfFound P (b counts) → IfFound P ((if t then refused fault.LimitExceeded else b) counts)
limited P true b counts h = tt
limited P false b counts h = h

pub at_most_binds : {A : Type 0} (allowed : Bool) (P : List PlacedExpr → A → Type 0) (most many : ℕ) (b : Binding A) → Binds allowed P b → Binds allowed P (at_most most many b)
at_most_binds allowed P most many b h counts = limited (IsPart allowed counts P) (nat_lt most many) b counts (h counts)

pub outcome_binds : {A : Type 0} (allowed : Bool) (P : List PlacedExpr → A → Type 0) (o : Outcome A) → ((x : A) → o ≡ Ok x → (functions : List PlacedExpr) → P functions x) → Binds allowed P (outcome o)
outcome_binds allowed P (Ok x) h counts = pure_binds allowed P x (h x refl) counts
outcome_binds allowed P (Err f) h counts = tt

-- ---- each of a list

-- where each is what a step along the list gives
abbrev pub IsMeant : {A B C : Type 0} → (A → status.Outcome C) → (List PlacedExpr → B → C) → A → List PlacedExpr → B → Type 0
IsMeant meant of x functions y = meant x ≡ Ok (of functions y)

abbrev pub AreMeant : {A B C : Type 0} → (A → status.Outcome C) → (List PlacedExpr → B → C) → List A → List PlacedExpr → List B → Type 0
AreMeant meant of xs functions ys = status.each meant xs ≡ Ok (map (of functions) ys)

module _ {A B C : Type 0} (allowed : Bool) (f : A → Binding B) (meant : A → status.Outcome C) (of : List PlacedExpr → B → C) where
  one_more : (functions : List PlacedExpr) (x : A) (xs : List A) (y : B) (ys : List B) → AreMeant meant of xs functions ys → IsMeant meant of x functions y → AreMeant meant of (x ∷ xs) functions (y ∷ ys)
  one_more functions x xs y ys rest first =
      ap (λ (o : status.Outcome C). status.and_then o (λ z. status.and_then (status.each meant xs) (λ zs. Ok (z ∷ zs)))) first
      ∙ ap (λ (o : status.Outcome (List C)). status.and_then o (λ zs. Ok (of functions y ∷ zs))) rest

  pub each_binds : ((x : A) → Binds allowed (IsMeant meant of x) (f x)) → (xs : List A) → Binds allowed (AreMeant meant of xs) (each f xs)
  each_binds h [] = pure_binds allowed (AreMeant meant of []) [] (λ functions. refl)
  each_binds h (x ∷ xs) =
      then_binds allowed (IsMeant meant of x) (AreMeant meant of (x ∷ xs)) (f x) (λ y. each f xs >>= λ ys. pure (y ∷ ys)) (h x)
      (λ y. then_binds allowed (AreMeant meant of xs) (λ functions zs. IsMeant meant of x functions y → AreMeant meant of (x ∷ xs) functions zs) (each f xs) (λ ys. pure (y ∷ ys)) (each_binds h xs)
      (λ ys. pure_binds allowed (λ functions zs. AreMeant meant of xs functions ys → IsMeant meant of x functions y → AreMeant meant of (x ∷ xs) functions zs) (y ∷ ys)
      (λ functions rest first. one_more functions x xs y ys rest first)))

-- ---- where no set function of the query stands before it

-- a whole query: its set functions are those that its parts add
pub whole_part : {A : Type 0} (allowed : Bool) (counts : Counts) (P : List PlacedExpr → A → Type 0) (x : Found A) → IsPart allowed (record counts { functions = 0 }) P x → P x.calls x.part
whole_part allowed counts P x h = subst (λ l. P l x.part) (append-nil x.calls) (h.is_so [] [] refl)

-- a clause in which no set function may stand has none, wherever it stands
alone_part : {A : Type 0} (allowed : Bool) (counts : Counts) (P : List PlacedExpr → A → Type 0) (o : Outcome (Found A)) → IfFound (IsPart false (record counts { functions = 0 }) P) o → IfFound (IsPart allowed counts (λ functions x. P [] x)) o
alone_part allowed counts P (Err f) h = tt
alone_part allowed counts P (Ok x) h = record {
  is_so = λ before later size. subst (λ l. P l x.part) (h.none_forbidden refl) (whole_part false counts P x h);
  none_forbidden = λ no. h.none_forbidden refl;
}

pub from_first_binds : {A : Type 0} (allowed : Bool) (P : List PlacedExpr → A → Type 0) (b : Binding A) → Binds false P b → Binds allowed (λ functions x. P [] x) (from_first b)
from_first_binds allowed P b h counts = alone_part allowed counts P (b (record counts { functions = 0 })) (h (record counts { functions = 0 }))
