-- Choices by the first token: what is read is the beginning of something that is read.
use Rattle.std.proofs.Common.{◌≡◌, ℕ, ◌<◌, Bool, true, false, cond, [], ◌∷◌, ◌++◌, length, Option, Some, None, Ok, Err, refl, sym, ◌∙◌, ap, subst, arith, inl, inr, ◌⊎◌}
use Rattle.sq_lex.specs.declared.lexeme.Lexeme.{Lexeme}
use Rattle.sq_grammar.specs.Reading.{Tokens, Outcome, Parser, ◌>>=◌, and_then, pure, eat, expect, sees, rest as without_first, is_token, one_of, one_if_any, first_of, taken, taken_if_any, behind}
use Rattle.sq_grammar.proofs.Sound.Spells.{ok_pair}
use Rattle.sq_run.proofs.Tokens.Ahead.{err_is}
use Rattle.sq_run.proofs.Tokens.ViableBasics.{Any, Eats, Inside, Kept, Next, Not, Starts, Viable, alike, alike_starts, done, done_starts, expected, expected_starts, starts_with, then_part}

-- ---- a choice by the first token

-- what follows begins with none of them
none_first : {X : Type 0} (d : Lexeme → Option X) {F : Tokens → Type 0} → ((other : Tokens) → F other → first_of d other ≡ None) → (b ts rest other : Tokens) → ts ≡ b ++ rest → first_of d ts ≡ None → Next F rest other → first_of d (b ++ other) ≡ None
none_first d ends [] ts rest other is none (inl h) = ends other h
none_first d ends [] ts [] other is none (inr h) = absurd h
none_first d ends [] ts (t ∷ rest) [] is none (inr h) = absurd h
none_first d ends [] ts (t ∷ rest) (u ∷ other) is none (inr h) = ap d (sym h) ∙ sym (ap (first_of d) is) ∙ none
none_first d ends (t ∷ b) ts rest other is none next = sym (ap (first_of d) is) ∙ none

module _ {X A : Type 0} (d : Lexeme → Option X) where
  abbrev pub branch : Parser A → (X → Parser A) → Option X → Parser A
  branch n s None ts = n ts
  branch n s (Some x) ts = s x (without_first ts)

  abbrev pub choice : Parser A → (X → Parser A) → Parser A
  choice n s ts = branch n s (first_of d ts) ts

  module _ {F : Tokens → Type 0} where
    module _ {n n' : Parser A} {s s' : X → Parser A} (ends : ((other : Tokens) → F other → first_of d other ≡ None) ⊎ Eats n) (no_part : Viable n n' F) (some_part : (x : X) → Viable (s x) (s' x) F) (starts : (x : X) → Starts (s' x) F) where
      choice_reads : (ts : Tokens) (o : Option X) → first_of d ts ≡ o → (y : A) (rest : Tokens) → branch n s o ts ≡ Ok (y, rest) → Kept (choice n' s') F ts y rest
      choice_reads ts None is y rest e =
          let k = no_part.reads ts y rest e in
          record { before = k.before; text_is = k.text_is; keeps = λ other next. ap (λ o. branch n' s' o (k.before ++ other)) (kept ends k.before other k.text_is next) ∙ k.keeps other next }
        where
          kept : ((other : Tokens) → F other → first_of d other ≡ None) ⊎ Eats n → (b other : Tokens) → ts ≡ b ++ rest → Next F rest other → first_of d (b ++ other) ≡ None
          kept (inl h) b other i next = none_first d h b ts rest other i is next
          kept (inr eats) [] other i next = absurd (omega (arith, eats ts y rest e, ap length i))
          kept (inr eats) (t ∷ b) other i next = sym (ap (first_of d) i) ∙ is
      choice_reads [] (Some x) is y rest e = cc
      choice_reads (u ∷ ts) (Some x) is y rest e =
          let k = (some_part x).reads ts y rest e in
          record { before = u ∷ k.before; text_is = ap (λ us. u ∷ us) k.text_is; keeps = λ other next. ap (λ o. branch n' s' o (u ∷ (k.before ++ other))) is ∙ k.keeps other next }

      choice_stops : (ts : Tokens) (o : Option X) → first_of d ts ≡ o → (m : ℕ) → branch n s o ts ≡ Err m → (m ≡ length ts) ⊎ Inside (choice n' s') F ts m
      choice_stops ts None is m e = by (no_part.stops ts m e)
        where
          none_inside : (b after us : Tokens) → 0 < length b → ts ≡ b ++ after → first_of d (b ++ us) ≡ None
          none_inside [] after us some j = absurd (omega arith)
          none_inside (t ∷ b) after us some j = sym (ap (first_of d) j) ∙ is

          by : (m ≡ length ts) ⊎ Inside n' F ts m → (m ≡ length ts) ⊎ Inside (choice n' s') F ts m
          by (inl i) = inl i
          by (inr k) = inr (record {
            before = k.before;
            after = k.after;
            some = k.some;
            text_is = k.text_is;
            left = k.left;
            filled = record {
              more = k.filled.more;
              value = k.filled.value;
              reads = λ other i. ap (λ o. branch n' s' o (k.before ++ (k.filled.more ++ other))) (none_inside k.before k.after (k.filled.more ++ other) k.some k.text_is) ∙ k.filled.reads other i;
            };
          })
      choice_stops [] (Some x) is m e = cc
      choice_stops (u ∷ ts) (Some x) is m e = by ((some_part x).stops ts m e)
        where
          by : (m ≡ length ts) ⊎ Inside (s' x) F ts m → (m ≡ length (u ∷ ts)) ⊎ Inside (choice n' s') F (u ∷ ts) m
          by (inl i) = inr (record {
            before = u ∷ [];
            after = ts;
            some = omega arith;
            text_is = refl;
            left = i;
            filled = record { more = (starts x).more; value = (starts x).value; reads = λ other j. ap (λ o. branch n' s' o (u ∷ ((starts x).more ++ other))) is ∙ (starts x).reads other j };
          })
          by (inr k) = inr (record {
            before = u ∷ k.before;
            after = k.after;
            some = omega arith;
            text_is = ap (λ us. u ∷ us) k.text_is;
            left = k.left;
            filled = record { more = k.filled.more; value = k.filled.value; reads = λ other j. ap (λ o. branch n' s' o (u ∷ (k.before ++ (k.filled.more ++ other)))) is ∙ k.filled.reads other j };
          })

      pub chosen : Viable (choice n s) (choice n' s') F
      chosen = record { reads = λ ts y rest e. choice_reads ts (first_of d ts) refl y rest e; stops = λ ts m e. choice_stops ts (first_of d ts) refl m e }

  abbrev pub some_starts : {F : Tokens → Type 0} (n : Parser A) (s : X → Parser A) (t : Lexeme) (x : X) → d t ≡ Some x → Starts (s x) F → Starts (choice n s) F
  some_starts n s t x is k = record { more = t ∷ k.more; value = k.value; reads = λ other i. ap (λ o. branch n s o (t ∷ (k.more ++ other))) is ∙ k.reads other i }

  abbrev pub none_starts : {F : Tokens → Type 0} (n : Parser A) (s : X → Parser A) (k : Starts n F) → ((other : Tokens) → F other → first_of d (k.more ++ other) ≡ None) → Starts (choice n s) F
  none_starts n s k none = record { more = k.more; value = k.value; reads = λ other i. ap (λ o. branch n s o (k.more ++ other)) (none other i) ∙ k.reads other i }

-- of a word or symbol
abbrev pub seen_as : Lexeme → Lexeme → Option (Unit {0})
seen_as t u = cond (is_token t u) (Some tt) None

pub as_choice : {A : Type 0} (t : Lexeme) (f : Bool → Parser A) (ts : Tokens) → (eat t >>= f) ts ≡ choice (seen_as t) (f false) (λ u. f true) ts
unfolding eat
as_choice t f [] = refl
as_choice t f (u ∷ ts) = by (is_token t u)
  where
    by : (b : Bool) → and_then (cond b (Ok (true, ts)) (Ok (false, u ∷ ts))) f ≡ branch (seen_as t) (f false) (λ x. f true) (cond b (Some tt) None) (u ∷ ts)
    by true = refl
    by false = refl

pub one_choice : {X A : Type 0} (of : Lexeme → Option X) (f : Option X → Parser A) (ts : Tokens) → (one_if_any of >>= f) ts ≡ choice of (f None) (λ x. f (Some x)) ts
unfolding one_if_any
one_choice of f ts = by (first_of of ts)
  where
    by : (o : Option _) → and_then (taken_if_any o ts) f ≡ branch of (f None) (λ x. f (Some x)) o ts
    by None = refl
    by (Some x) = refl

-- ---- parts

not_seen : {F : Tokens → Type 0} (t : Lexeme) → Not F t → (other : Tokens) → F other → first_of (seen_as t) other ≡ None
not_seen t never_t [] i = refl
not_seen t never_t (u ∷ us) i = ap (λ b. cond b (Some tt) None) (never_t (u ∷ us) i)

module _ {F : Tokens → Type 0} {A : Type 0} where
  pub mapped : {B : Type 0} {p q : Parser B} (g : B → A) → Viable p q F → Viable (p >>= λ x. pure (g x)) (q >>= λ x. pure (g x)) F
  mapped g h = then_part _ _ h (λ x. done) (λ x. done_starts) (λ x other i. i) (λ other i. i)

  abbrev pub mapped_starts : {B : Type 0} {q : Parser B} (g : B → A) → Starts q F → Starts (q >>= λ x. pure (g x)) F
  mapped_starts g k = starts_with _ k done_starts (λ other i. i)

  -- by whether a word or symbol comes
  pub if_comes : (t : Lexeme) (f g : Bool → Parser A) → Not F t ⊎ Eats (f false) → Viable (f true) (g true) F → Starts (g true) F → Viable (f false) (g false) F → Viable (eat t >>= f) (eat t >>= g) F
  if_comes t f g ends comes starts not = alike (as_choice t f) (as_choice t g) (chosen (seen_as t) (seen_ends ends) not (λ u. comes) (λ u. starts))
    where
      seen_ends : Not F t ⊎ Eats (f false) → ((other : Tokens) → F other → first_of (seen_as t) other ≡ None) ⊎ Eats (f false)
      seen_ends (inl h) = inl (not_seen t h)
      seen_ends (inr e) = inr e

  pub if_one : {X : Type 0} (of : Lexeme → Option X) (f g : Option X → Parser A) → ((other : Tokens) → F other → first_of of other ≡ None) ⊎ Eats (f None) → ((x : X) → Viable (f (Some x)) (g (Some x)) F) → ((x : X) → Starts (g (Some x)) F) → Viable (f None) (g None) F
      → Viable (one_if_any of >>= f) (one_if_any of >>= g) F
  if_one of f g ends some starts not = alike (one_choice of f) (one_choice of g) (chosen of ends not some starts)

  abbrev pub comes_starts : (t : Lexeme) (g : Bool → Parser A) → is_token t t ≡ true → Starts (g true) F → Starts (eat t >>= g) F
  comes_starts t g seen k = alike_starts (as_choice t g) (some_starts (seen_as t) (g false) (λ u. g true) t tt (ap (λ b. cond b (Some tt) None) seen) k)

  abbrev pub not_starts : (t : Lexeme) (g : Bool → Parser A) (k : Starts (g false) F) → ((other : Tokens) → F other → sees t (k.more ++ other) ≡ false) → Starts (eat t >>= g) F
  not_starts t g k none = alike_starts (as_choice t g) (none_starts (seen_as t) (g false) (λ u. g true) k (λ other i. by (k.more ++ other) (none other i)))
    where
      by : (ts : Tokens) → sees t ts ≡ false → first_of (seen_as t) ts ≡ None
      by [] e = refl
      by (u ∷ us) e = ap (λ b. cond b (Some tt) None) e

  abbrev pub one_starts : {X : Type 0} (of : Lexeme → Option X) (g : Option X → Parser A) (t : Lexeme) (x : X) → of t ≡ Some x → Starts (g (Some x)) F → Starts (one_if_any of >>= g) F
  one_starts of g t x is k = alike_starts (one_choice of g) (some_starts of (g None) (λ y. g (Some y)) t x is k)

  abbrev pub unmet_starts : {X : Type 0} (of : Lexeme → Option X) (g : Option X → Parser A) (k : Starts (g None) F) → ((other : Tokens) → F other → first_of of (k.more ++ other) ≡ None) → Starts (one_if_any of >>= g) F
  unmet_starts of g k none = alike_starts (one_choice of g) (none_starts of (g None) (λ y. g (Some y)) k none)

  pub must : {p q : Parser A} (t : Lexeme) → ((ts : Tokens) → sees t (t ∷ ts) ≡ true) → Viable p q F → Starts q F → Viable (expect t >>= λ u. p) (expect t >>= λ u. q) F
  must {p = p} {q = q} t seen h k = then_part {G = Any} (λ u. q) (λ u. p) (expected t seen) (λ u. h) (λ u. k) (λ u other i. tt) (λ other i. tt)

  abbrev pub must_starts : {q : Parser A} (t : Lexeme) → ((ts : Tokens) → sees t (t ∷ ts) ≡ true) → Starts q F → Starts (expect t >>= λ u. q) F
  must_starts {q = q} t seen k = starts_with {G = Any} (λ u. q) (expected_starts t seen) k (λ other i. tt)

module _ {F : Tokens → Type 0} {A : Type 0} {p q : Parser A} (t : Lexeme) (h : Viable p q F) (k : Starts q F) (never_t : Not F t) where
  pub behind_it : Viable (behind t p) (behind t q) F
  behind_it = if_comes t _ _ (inl never_t) (mapped Some h) (mapped_starts Some k) done

pub one_reads : {X : Type 0} (of : Lexeme → Option X) (t : Lexeme) (x : X) → of t ≡ Some x → (other : Tokens) → one_of of (t ∷ other) ≡ Ok (x, other)
unfolding one_of
one_reads of t x is other = ap (λ o. taken o (t ∷ other)) is

-- a token of these that has to come
module _ {X : Type 0} (of : Lexeme → Option X) {F : Tokens → Type 0} where
  pub one : Viable (one_of of) (one_of of) F
  unfolding one_of
  one = record { reads = λ ts x rest e. by ts x rest e; stops = λ ts n e. to (first_of of ts) ts n e }
    where
      at : (u : Lexeme) (ts : Tokens) (x : X) (rest : Tokens) (o : Option X) → of u ≡ o → taken o (u ∷ ts) ≡ Ok (x, rest) → Kept (one_of of) F (u ∷ ts) x rest
      at u ts x rest None is i = cc
      at u ts x rest (Some y) is i =
          let p = ok_pair y x ts rest i in
          record { before = u ∷ []; text_is = ap (λ us. u ∷ us) p.1; keeps = λ other n. ap (λ o. taken o (u ∷ other)) is ∙ ap (λ z. Ok (z, other)) p.0 }

      by : (ts : Tokens) (x : X) (rest : Tokens) → one_of of ts ≡ Ok (x, rest) → Kept (one_of of) F ts x rest
      by [] x rest e = cc
      by (u ∷ ts) x rest e = at u ts x rest (of u) refl e

      to : (o : Option X) (ts : Tokens) (n : ℕ) → taken o ts ≡ Err n → (n ≡ length ts) ⊎ Inside (one_of of) F ts n
      to None ts n i = inl (sym (err_is X (length ts) n i))
      to (Some x) ts n i = cc

  abbrev pub one_of_starts : (t : Lexeme) (x : X) → of t ≡ Some x → Starts (one_of of) F
  one_of_starts t x is = record { more = t ∷ []; value = x; reads = λ other h. one_reads of t x is other }

-- a word or symbol that may come
module _ {F : Tokens → Type 0} (t : Lexeme) (never_t : Not F t) where
  pub eaten : Viable (eat t) (eat t) F
  eaten = alike (λ ts. plain ts) (λ ts. plain ts) (if_comes t (λ b. pure b) (λ b. pure b) (inl never_t) done done_starts done)
    where
      same : (r : Outcome Bool) → r ≡ and_then r (λ b. pure b)
      same (Ok p) = refl
      same (Err n) = refl

      plain : (ts : Tokens) → eat t ts ≡ (eat t >>= λ b. pure b) ts
      plain ts = same (eat t ts)

  pub eat_reads : (other : Tokens) → F other → eat t other ≡ Ok (false, other)
  unfolding eat
  eat_reads other i = ap (λ b. cond {A = Outcome Bool} b (Ok (true, without_first other)) (Ok (false, other))) (never_t other i)

  abbrev pub uneaten : Starts (eat t) F
  uneaten = record { more = []; value = false; reads = eat_reads }

-- ---- starts of which the first token is known, and of nothing

pub record Begun {A : Type 0} (q : Parser A) (F : Tokens → Type 0) (t : Lexeme) : Type 0 where
  pub tail : Tokens
  pub value : A
  pub reads : (other : Tokens) → F other → q (t ∷ (tail ++ other)) ≡ Ok (value, other)

pub record Blank {A : Type 0} (q : Parser A) (F : Tokens → Type 0) : Type 0 where
  pub value : A
  pub reads : (other : Tokens) → F other → q other ≡ Ok (value, other)

abbrev pub from : {A : Type 0} {q : Parser A} {F : Tokens → Type 0} {t : Lexeme} → Begun q F t → Starts q F
from {t = t} k = record { more = t ∷ k.tail; value = k.value; reads = k.reads }

abbrev pub blank : {A : Type 0} {q : Parser A} {F : Tokens → Type 0} → Blank q F → Starts q F
blank k = record { more = []; value = k.value; reads = k.reads }

pub begun : {A : Type 0} {q : Parser A} {F : Tokens → Type 0} (t : Lexeme) (tail : Tokens) (k : Starts q F) → k.more ≡ t ∷ tail → Begun q F t
begun {q = q} t tail k e = record { tail = tail; value = k.value; reads = λ other i. ap (λ us. q (us ++ other)) (sym e) ∙ k.reads other i }

pub blanks : {A : Type 0} {q : Parser A} {F : Tokens → Type 0} (k : Starts q F) → k.more ≡ [] → Blank q F
blanks {q = q} k e = record { value = k.value; reads = λ other i. ap (λ us. q (us ++ other)) (sym e) ∙ k.reads other i }

-- a token comes next
abbrev pub Begins : Lexeme → Tokens → Type 0
Begins t ts = (others : Tokens) × (ts ≡ t ∷ others)

pub not_begun : (t u : Lexeme) → ((ts : Tokens) → sees u (t ∷ ts) ≡ false) → Not (Begins t) u
not_begun t u e other i = ap (sees u) i.1 ∙ e i.0

pub if_begun : (P : Tokens → Type 0) (t : Lexeme) → ((ts : Tokens) → P (t ∷ ts)) → (other : Tokens) → Begins t other → P other
if_begun P t h other i = subst P (sym i.1) (h i.0)
