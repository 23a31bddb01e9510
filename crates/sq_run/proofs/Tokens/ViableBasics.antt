-- What a parser has read before it is stuck is the beginning of something that it reads: more tokens make it whole. `q` is the same rule
-- with room for more brackets, so that depth does not stand in the way.
use Rattle.std.proofs.Common.{◌≡◌, ℕ, ◌<◌, Bool, true, false, cond, [], ◌∷◌, ◌++◌, length, Ok, Err, refl, sym, ◌∙◌, ap, subst, arith, append_assoc, length-append, inl, inr, ◌⊎◌}
use Rattle.sq_lex.specs.declared.lexeme.Lexeme.{Lexeme}
use Rattle.sq_grammar.specs.Reading.{Tokens, Outcome, Parser, ◌>>=◌, and_then, pure, stuck, expect, sees, rest as without_first, is_token}
use Rattle.sq_grammar.proofs.Sound.Spells.{ok_pair}
use Rattle.sq_run.proofs.Tokens.Ahead.{bind_ok, err_is}
use Rattle.sq_run.proofs.Tokens.Final.{SameFirst}

-- what may follow: tokens of these, or tokens that begin alike
abbrev pub NextBy : (Tokens → Tokens → Type 0) → (Tokens → Type 0) → Tokens → Tokens → Type 0
NextBy Alike F rest other = F other ⊎ Alike rest other

-- it has read x, and reads it also before what may follow
pub record KeptBy {A : Type 0} (Alike : Tokens → Tokens → Type 0) (q : Parser A) (F : Tokens → Type 0) (ts : Tokens) (x : A) (rest : Tokens) : Type 0 where
  pub before : Tokens
  pub text_is : ts ≡ before ++ rest
  pub keeps : (other : Tokens) → NextBy Alike F rest other → q (before ++ other) ≡ Ok (x, other)

-- the same of parsers that look at one token
abbrev pub Next : (Tokens → Type 0) → Tokens → Tokens → Type 0
Next F rest other = NextBy SameFirst F rest other

abbrev pub Kept : {A : Type 0} → Parser A → (Tokens → Type 0) → Tokens → A → Tokens → Type 0
Kept q F ts x rest = KeptBy SameFirst q F ts x rest

-- these tokens, and more, are read
pub record Filled {A : Type 0} (q : Parser A) (F : Tokens → Type 0) (before : Tokens) : Type 0 where
  pub more : Tokens
  pub value : A
  pub reads : (other : Tokens) → F other → q (before ++ (more ++ other)) ≡ Ok (value, other)

-- something is read from nothing
abbrev pub Starts : {A : Type 0} → Parser A → (Tokens → Type 0) → Type 0
Starts q F = Filled q F []

-- it is stuck behind some tokens, which more make whole
pub record Inside {A : Type 0} (q : Parser A) (F : Tokens → Type 0) (ts : Tokens) (n : ℕ) : Type 0 where
  pub before : Tokens
  pub after : Tokens
  pub some : 0 < length before
  pub text_is : ts ≡ before ++ after
  pub left : n ≡ length after
  pub filled : Filled q F before

pub record ViableBy {A : Type 0} (Alike : Tokens → Tokens → Type 0) (p q : Parser A) (F : Tokens → Type 0) : Type 0 where
  pub reads : (ts : Tokens) (x : A) (rest : Tokens) → p ts ≡ Ok (x, rest) → KeptBy Alike q F ts x rest
  pub stops : (ts : Tokens) (n : ℕ) → p ts ≡ Err n → (n ≡ length ts) ⊎ Inside q F ts n

abbrev pub Viable : {A : Type 0} → Parser A → Parser A → (Tokens → Type 0) → Type 0
Viable p q F = ViableBy SameFirst p q F

-- tokens that are alike have the same first
abbrev pub Nearer : (Tokens → Tokens → Type 0) → Type 0
Nearer Alike = (rest other : Tokens) → Alike rest other → SameFirst rest other

-- whatever is read, some tokens are taken
abbrev pub Eats : {A : Type 0} → Parser A → Type 0
Eats {A = A} p = (ts : Tokens) (x : A) (rest : Tokens) → p ts ≡ Ok (x, rest) → length rest < length ts

abbrev pub Any : Tokens → Type 0
Any ts = Unit {0}

abbrev pub Not : (Tokens → Type 0) → Lexeme → Type 0
Not F t = (other : Tokens) → F other → sees t other ≡ false

module _ {A B : Type 0} {q : Parser A} {F G : Tokens → Type 0} (g : A → Parser B) where
  -- a part that is made whole, and the next from its start
  abbrev pub whole_first : (before : Tokens) (k : Filled q G before) → (s : Starts (g k.value) F) → ((other : Tokens) → F other → G (s.more ++ other)) → Filled (q >>= g) F before
  whole_first before k s joins = record {
    more = k.more ++ s.more;
    value = s.value;
    reads = λ other h.
        ap (λ us. and_then (q (before ++ us)) g) (append_assoc k.more s.more other)
        ∙ ap (λ r. and_then r g) (k.reads (s.more ++ other) (joins other h))
        ∙ s.reads other h;
  }

  -- what is read behind a part reads on
  kept_next : {Alike : Tokens → Tokens → Type 0} → Nearer Alike → (ts : Tokens) (x : A) (after : Tokens) (y : B) (rest : Tokens) → Kept q G ts x after → (k : KeptBy Alike (g x) F after y rest) → (0 < length k.before) ⊎ ((other : Tokens) → F other → G other) → KeptBy Alike (q >>= g) F ts y rest
  kept_next {Alike = Alike} nearer ts x after y rest h k passes = record {
    before = h.before ++ k.before;
    text_is = h.text_is ∙ ap (λ us. h.before ++ us) k.text_is ∙ sym (append_assoc h.before k.before rest);
    keeps = λ other n.
        ap (λ us. and_then (q us) g) (append_assoc h.before k.before other)
        ∙ ap (λ r. and_then r g) (h.keeps (k.before ++ other) (by k.before k.text_is passes other n))
        ∙ k.keeps other n;
  }
    where
      by : (b : Tokens) → after ≡ b ++ rest → (0 < length b) ⊎ ((other : Tokens) → F other → G other) → (other : Tokens) → NextBy Alike F rest other → Next G after (b ++ other)
      by [] is (inl some) other n = absurd (omega arith)
      by [] is (inr pass) other (inl h) = inl (pass other h)
      by [] is (inr pass) other (inr s) = inr (subst (λ us. SameFirst us other) (sym is) (nearer rest other s))
      by (t ∷ b) is pass other n = inr (subst (λ us. SameFirst us (t ∷ (b ++ other))) (sym is) refl)

  -- stuck at the first token behind a part
  stuck_behind : (ts : Tokens) (x : A) (after : Tokens) (n : ℕ) → (h : Kept q G ts x after) → n ≡ length after → (0 < length h.before → Filled (q >>= g) F h.before) → (n ≡ length ts) ⊎ Inside (q >>= g) F ts n
  stuck_behind ts x after n h left fill = by h.before h.text_is fill
    where
      by : (b : Tokens) → ts ≡ b ++ after → (0 < length b → Filled (q >>= g) F b) → (n ≡ length ts) ⊎ Inside (q >>= g) F ts n
      by [] is fill = inl (left ∙ ap length (sym is))
      by (t ∷ b) is fill = inr (record { before = t ∷ b; after = after; some = omega arith; text_is = is; left = left; filled = fill (omega arith) })

  stuck_inside : (ts : Tokens) (x : A) (after : Tokens) (n : ℕ) → Kept q G ts x after → Inside (g x) F after n → Inside (q >>= g) F ts n
  stuck_inside ts x after n h k = record {
    before = h.before ++ k.before;
    after = k.after;
    some = omega (arith, k.some, length-append h.before k.before);
    text_is = h.text_is ∙ ap (λ us. h.before ++ us) k.text_is ∙ sym (append_assoc h.before k.before k.after);
    left = k.left;
    filled = record {
      more = k.filled.more;
      value = k.filled.value;
      reads = λ other i.
          ap (λ us. and_then (q us) g) (append_assoc h.before k.before (k.filled.more ++ other))
          ∙ ap (λ r. and_then r g) (h.keeps (k.before ++ (k.filled.more ++ other)) (same k.before k.some k.text_is (k.filled.more ++ other)))
          ∙ k.filled.reads other i;
    };
  }
    where
      same : (b : Tokens) → 0 < length b → after ≡ b ++ k.after → (us : Tokens) → Next G after (b ++ us)
      same [] some is us = absurd (omega arith)
      same (t ∷ b) some is us = inr (subst (λ vs. SameFirst vs (t ∷ (b ++ us))) (sym is) refl)

  abbrev pub starts_with : (k : Starts q G) (s : Starts (g k.value) F) → ((other : Tokens) → F other → G (s.more ++ other)) → Starts (q >>= g) F
  starts_with k s joins = whole_first [] k s joins

  module _ {Alike : Tokens → Tokens → Type 0} (nearer : Nearer Alike) {p : Parser A} (f : A → Parser B) (first : Viable p q G) (next : (x : A) → ViableBy Alike (f x) (g x) F) (starts : (x : A) → Starts (g x) F) (joins : (x : A) (other : Tokens) → F other → G ((starts x).more ++ other)) where
    bind_stops : (ts : Tokens) (n : ℕ) → (p >>= f) ts ≡ Err n → (n ≡ length ts) ⊎ Inside (q >>= g) F ts n
    bind_stops ts n e = by (p ts) refl e
      where
        filled : (x : A) (after : Tokens) (h : Kept q G ts x after) → Filled (q >>= g) F h.before
        filled x after h = record {
          more = (starts x).more;
          value = (starts x).value;
          reads = λ other i. ap (λ r. and_then r g) (h.keeps ((starts x).more ++ other) (inl (joins x other i))) ∙ (starts x).reads other i;
        }

        of_first : (n ≡ length ts) ⊎ Inside q G ts n → (n ≡ length ts) ⊎ Inside (q >>= g) F ts n
        of_first (inl h) = inl h
        of_first (inr k) = inr (record { before = k.before; after = k.after; some = k.some; text_is = k.text_is; left = k.left; filled = whole_first k.before k.filled (starts k.filled.value) (joins k.filled.value) })

        of_next : (x : A) (after : Tokens) → Kept q G ts x after → (n ≡ length after) ⊎ Inside (g x) F after n → (n ≡ length ts) ⊎ Inside (q >>= g) F ts n
        of_next x after h (inl i) = stuck_behind ts x after n h i (λ some. filled x after h)
        of_next x after h (inr k) = inr (stuck_inside ts x after n h k)

        by : (r : Outcome A) → p ts ≡ r → and_then r f ≡ Err n → (n ≡ length ts) ⊎ Inside (q >>= g) F ts n
        by (Err m) is i = of_first (first.stops ts n (is ∙ ap Err (err_is B m n i)))
        by (Ok r) is i = of_next r.0 r.1 (first.reads ts r.0 r.1 is) ((next r.0).stops r.1 n i)

    -- where the next part may read nothing, what may follow it may follow the first
    pub then_part_by : ((other : Tokens) → F other → G other) → ViableBy Alike (p >>= f) (q >>= g) F
    then_part_by passes = record {
      reads = λ ts y rest e.
          let b = bind_ok (p ts) f y rest e in
          kept_next nearer ts b.0 b.1 y rest (first.reads ts b.0 b.1 b.2) ((next b.0).reads b.1 y rest b.3) (inr passes);
      stops = bind_stops;
    }

    -- where the next part takes some tokens
    then_some_by : ((x : A) → Eats (f x)) → ViableBy Alike (p >>= f) (q >>= g) F
    then_some_by eats = record {
      reads = λ ts y rest e.
          let b = bind_ok (p ts) f y rest e in
          let k = (next b.0).reads b.1 y rest b.3 in
          let less = eats b.0 b.1 y rest b.3 in
          kept_next nearer ts b.0 b.1 y rest (first.reads ts b.0 b.1 b.2) k (inl (omega (arith, less, ap length k.text_is ∙ length-append k.before rest)));
      stops = bind_stops;
    }

  module _ {p : Parser A} (f : A → Parser B) (first : Viable p q G) (next : (x : A) → Viable (f x) (g x) F) (starts : (x : A) → Starts (g x) F) (joins : (x : A) (other : Tokens) → F other → G ((starts x).more ++ other)) where
    pub then_part : ((other : Tokens) → F other → G other) → Viable (p >>= f) (q >>= g) F
    then_part passes = then_part_by (λ rest other s. s) f first next starts joins passes

    pub then_some : ((x : A) → Eats (f x)) → Viable (p >>= f) (q >>= g) F
    then_some eats = then_some_by (λ rest other s. s) f first next starts joins eats

pub expected_reads : (t : Lexeme) → ((ts : Tokens) → sees t (t ∷ ts) ≡ true) → (other : Tokens) → expect t (t ∷ other) ≡ Ok (tt, other)
unfolding expect
expected_reads t seen other = ap (λ b. cond {A = Outcome (Unit {0})} b (Ok (tt {0}, other)) (Err (length (t ∷ other)))) (seen other)

-- ---- parts that look at one token

module _ {F : Tokens → Type 0} where
  module _ {A : Type 0} where
    pub done : {x : A} → Viable (pure x) (pure x) F
    done {x = x} = record {
      reads = λ ts y rest e.
          let p = ok_pair x y ts rest e in
          record { before = []; text_is = p.1; keeps = λ other n. ap (λ z. Ok (z, other)) p.0 };
      stops = λ ts n e. cc;
    }

    abbrev pub done_starts : {x : A} → Starts (pure x) F
    done_starts {x = x} = record { more = []; value = x; reads = λ other h. refl }

    pub never : {q : Parser A} → Viable (stuck {A = A}) q F
    never = record { reads = λ ts x rest e. cc; stops = λ ts n e. inl (sym (err_is A (length ts) n e)) }

  -- a token that has to come
  pub expected : (t : Lexeme) → ((ts : Tokens) → sees t (t ∷ ts) ≡ true) → Viable (expect t) (expect t) F
  unfolding expect
  expected t seen = record { reads = λ ts x rest e. by ts x rest e; stops = λ ts n e. to (sees t ts) ts n e }
    where
      at : (u : Lexeme) (ts : Tokens) (x : Unit {0}) (rest : Tokens) (b : Bool) → is_token t u ≡ b → cond {A = Outcome (Unit {0})} b (Ok (tt {0}, ts)) (Err (length (u ∷ ts))) ≡ Ok (x, rest) → Kept (expect t) F (u ∷ ts) x rest
      at u ts x rest false is i = cc
      at u ts x rest true is i =
          let p = ok_pair (tt {0}) x ts rest i in
          record { before = u ∷ []; text_is = ap (λ us. u ∷ us) p.1; keeps = λ other n. ap (λ b. cond {A = Outcome (Unit {0})} b (Ok (tt {0}, other)) (Err (length (u ∷ other)))) is ∙ ap (λ z. Ok (z, other)) p.0 }

      by : (ts : Tokens) (x : Unit {0}) (rest : Tokens) → expect t ts ≡ Ok (x, rest) → Kept (expect t) F ts x rest
      by [] x rest e = cc
      by (u ∷ ts) x rest e = at u ts x rest (is_token t u) refl e

      to : (b : Bool) (ts : Tokens) (n : ℕ) → cond {A = Outcome (Unit {0})} b (Ok (tt {0}, without_first ts)) (Err (length ts)) ≡ Err n → (n ≡ length ts) ⊎ Inside (expect t) F ts n
      to true ts n i = cc
      to false ts n i = inl (sym (err_is (Unit {0}) (length ts) n i))

  abbrev pub expected_starts : (t : Lexeme) → ((ts : Tokens) → sees t (t ∷ ts) ≡ true) → Starts (expect t) F
  expected_starts t seen = record { more = t ∷ []; value = tt; reads = λ other h. expected_reads t seen other }

-- two parsers that answer alike
pub alike : {A : Type 0} {p p' q q' : Parser A} {F : Tokens → Type 0} → ((ts : Tokens) → p ts ≡ p' ts) → ((ts : Tokens) → q ts ≡ q' ts) → Viable p' q' F → Viable p q F
alike {q = q} {q' = q'} {F = F} same same' h = record {
  reads = λ ts x rest e.
      let k = h.reads ts x rest (sym (same ts) ∙ e) in
      record { before = k.before; text_is = k.text_is; keeps = λ other n. same' (k.before ++ other) ∙ k.keeps other n };
  stops = λ ts n e. by ts n (h.stops ts n (sym (same ts) ∙ e));
}
  where
    by : (ts : Tokens) (n : ℕ) → (n ≡ length ts) ⊎ Inside q' F ts n → (n ≡ length ts) ⊎ Inside q F ts n
    by ts n (inl i) = inl i
    by ts n (inr k) = inr (record { before = k.before; after = k.after; some = k.some; text_is = k.text_is; left = k.left; filled = record { more = k.filled.more; value = k.filled.value; reads = λ other i. same' (k.before ++ (k.filled.more ++ other)) ∙ k.filled.reads other i } })

abbrev pub alike_starts : {A : Type 0} {q q' : Parser A} {F : Tokens → Type 0} → ((ts : Tokens) → q ts ≡ q' ts) → Starts q' F → Starts q F
alike_starts same k = record { more = k.more; value = k.value; reads = λ other i. same (k.more ++ other) ∙ k.reads other i }
