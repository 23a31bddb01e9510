-- Lists, and what takes some tokens: what is read is the beginning of something that is read.
use Rattle.std.proofs.Common.{◌≡◌, ℕ, zero, suc, ◌<◌, ◌≤◌, Bool, true, false, cond, List, [], ◌∷◌, ◌++◌, length, Option, Some, None, Ok, Err, nat_lt, nat_eq, refl, sym, ◌∙◌, ap, subst, arith, append_assoc, length-append, inl, inr, ◌⊎◌}
use Rattle.std.proofs.Math.Dec.{eqb-suc-zero}
use Rattle.std.proofs.lemmas.Bool.{ltb-true, ltb-false}
use Rattle.sq_lex.specs.declared.lexeme.Lexeme.{Lexeme}
use Rattle.sq_lex.specs.declared.lexeme.Lexeme.TheVariants as lexeme
use Rattle.sq_lex.specs.declared.symbol.Symbol.TheVariants as symbol
use Rattle.sq_grammar.specs.Reading.{Tokens, Outcome, Parser, ◌>>=◌, pure, stuck, eat, expect, opening_bracket, rest as without_first, is_token, one_of, one_if_any, first_of, taken, behind, comma, comma_separated, all, turn, with_front}
use Rattle.sq_grammar.proofs.Reading.Many.{all-none, all-some, all-turn}
use Rattle.sq_grammar.proofs.Sound.Spells.{ok_pair}
use Rattle.sq_grammar.proofs.Taken.Takes.{none_behind}
use Rattle.sq_run.proofs.Tokens.Ahead.{bind_ok, err_is}
use Rattle.sq_run.proofs.Tokens.Final.{SameFirst}
pub use Rattle.sq_run.proofs.Tokens.ViableBasics.{Any, Eats, Filled, Inside, Kept, KeptBy, Nearer, Next, NextBy, Not, Starts, Viable, ViableBy, alike, alike_starts, done, done_starts, expected, expected_reads, expected_starts, never, starts_with, then_part, then_part_by, then_some, whole_first}
pub use Rattle.sq_run.proofs.Tokens.ViableChoices.{Begins, Begun, Blank, as_choice, begun, behind_it, blank, blanks, branch, choice, chosen, comes_starts, eat_reads, eaten, from, if_begun, if_comes, if_one, mapped, mapped_starts, must, must_starts, none_starts, not_begun, not_starts, one, one_choice, one_of_starts, one_reads, one_starts, seen_as, some_starts, uneaten, unmet_starts}

-- ---- items again and again

not_less : (n : ℕ) → nat_lt n n ≡ false
not_less n = by (nat_lt n n) refl
  where
    by : (b : Bool) → nat_lt n n ≡ b → b ≡ false
    by true e = absurd (omega (arith, ltb-true _ _ e))
    by false e = refl

front_err : {A : Type 0} (front : List A) (r : Outcome (List A)) (m : ℕ) → with_front front r ≡ Err m → r ≡ Err m
front_err {A = A} front (Ok p) m e = cc
front_err {A = A} front (Err n) m e = ap Err (err_is (List A) n m e)

-- An item looks at one token behind it, and where there is none, it may look further.
pub record Items {A : Type 0} (Alike : Tokens → Tokens → Type 0) (item item' : Parser (Option A)) (F : Tokens → Type 0) : Type 0 where
  pub some : (ts : Tokens) (x : A) (rest : Tokens) → item ts ≡ Ok (Some x, rest) → Kept item' F ts (Some x) rest
  pub none : (ts rest : Tokens) → item ts ≡ Ok (None, rest) → KeptBy Alike item' F ts None rest
  pub stops : (ts : Tokens) (n : ℕ) → item ts ≡ Err n → (n ≡ length ts) ⊎ Inside item' F ts n

module _ {A : Type 0} {Alike : Tokens → Tokens → Type 0} (nearer : Nearer Alike) {item item' : Parser (Option A)} {F : Tokens → Type 0} (h : Items Alike item item' F) (ends : (other : Tokens) → F other → item' other ≡ Ok (None, other)) where
  nothing_more : (other : Tokens) → F other → all item' other ≡ Ok ([], other)
  nothing_more other i = all-none item' other other (ends other i)

  -- an item and then the others
  one_more : (x : A) (before us other : Tokens) (ys : List A) → 0 < length before → item' (before ++ us) ≡ Ok (Some x, us) → all item' us ≡ Ok (ys, other) → all item' (before ++ us) ≡ Ok (x ∷ ys, other)
  one_more x before us other ys some e f = all-some item' (before ++ us) x us e (omega (arith, some, length-append before us)) ∙ ap (with_front (x ∷ [])) f

  some_taken : (ts : Tokens) (x : A) (after : Tokens) (k : Kept item' F ts (Some x) after) → nat_lt (length after) (length ts) ≡ true → 0 < length k.before
  some_taken ts x after k less = omega (arith, ltb-true _ _ less, ap length k.text_is ∙ length-append k.before after)

  next_of : (after b rest other : Tokens) → after ≡ b ++ rest → NextBy Alike F rest other → Next F after (b ++ other)
  next_of after [] rest other is (inl i) = inl i
  next_of after [] rest other is (inr s) = inr (subst (λ us. SameFirst us other) (sym is) (nearer rest other s))
  next_of after (t ∷ b) rest other is n = inr (subst (λ us. SameFirst us (t ∷ (b ++ other))) (sym is) refl)

  module _ (ts : Tokens) (xs : List A) (rest : Tokens) (others : (after : Tokens) → length after < length ts → (ys : List A) (r : Tokens) → all item after ≡ Ok (ys, r) → KeptBy Alike (all item') F after ys r) where
    longer_reads : (x : A) (after : Tokens) → Kept item' F ts (Some x) after → (b : Bool) → nat_lt (length after) (length ts) ≡ b → cond b (with_front (x ∷ []) (all item after)) (Ok ([], ts)) ≡ Ok (xs, rest) → KeptBy Alike (all item') F ts xs rest
    longer_reads x after k false same e =
        let q = ok_pair [] xs ts rest e in
        record { before = []; text_is = q.1; keeps = λ other n. by k.before k.text_is other (subst (λ us. NextBy Alike F us other) (sym q.1) n) (k.keeps other) ∙ ap (λ ys. Ok (ys, other)) q.0 }
      where
        by : (b : Tokens) → ts ≡ b ++ after → (other : Tokens) → NextBy Alike F ts other → (Next F after other → item' (b ++ other) ≡ Ok (Some x, other)) → all item' other ≡ Ok ([], other)
        by b is other (inl i) on = nothing_more other i
        by [] is other (inr s) on =
            all-turn item' other ∙ ap (turn other (all item')) (on (inr (subst (λ us. SameFirst us other) is (nearer ts other s)))) ∙ ap (λ b. cond b (with_front (x ∷ []) (all item' other)) (Ok ([], other))) (not_less (length other))
        by (t ∷ b) is other (inr s) on = absurd (omega (arith, ltb-false _ _ same, ap length is ∙ length-append (t ∷ b) after))
    longer_reads x after k true shorter e =
        let b = bind_ok (all item after) (λ ys. pure (x ∷ ys)) xs rest e in
        let q = ok_pair (x ∷ b.0) xs b.1 rest b.3 in
        let l : KeptBy Alike (all item') F after b.0 b.1 = others after (ltb-true _ _ shorter) b.0 b.1 b.2 in
        record {
          before = k.before ++ l.before;
          text_is = k.text_is ∙ ap (λ us. k.before ++ us) l.text_is ∙ sym (append_assoc k.before l.before b.1) ∙ ap (λ us. (k.before ++ l.before) ++ us) q.1;
          keeps = λ other n.
              let m : NextBy Alike F b.1 other = subst (λ us. NextBy Alike F us other) (sym q.1) n in
              ap (all item') (append_assoc k.before l.before other)
              ∙ one_more x k.before (l.before ++ other) other b.0 (some_taken ts x after k shorter) (k.keeps (l.before ++ other) (next_of after l.before b.1 other l.text_is m)) (l.keeps other m) ∙ ap (λ ys. Ok (ys, other)) q.0;
        }

    turn_reads : (r : Outcome (Option A)) → item ts ≡ r → turn ts (all item) r ≡ Ok (xs, rest) → KeptBy Alike (all item') F ts xs rest
    turn_reads (Err m) is e = cc
    turn_reads (Ok (None, after)) is e =
        let q = ok_pair [] xs after rest e in
        let k = h.none ts after is in
        record { before = k.before; text_is = k.text_is ∙ ap (λ us. k.before ++ us) q.1; keeps = λ other n. all-none item' (k.before ++ other) other (k.keeps other (subst (λ us. NextBy Alike F us other) (sym q.1) n)) ∙ ap (λ ys. Ok (ys, other)) q.0 }
    turn_reads (Ok (Some x, after)) is e = longer_reads x after (h.some ts x after is) (nat_lt (length after) (length ts)) refl e

  all_reads : (n : ℕ) (ts : Tokens) → length ts < n → (xs : List A) (rest : Tokens) → all item ts ≡ Ok (xs, rest) → KeptBy Alike (all item') F ts xs rest
  all_reads zero ts less xs rest e = absurd (omega arith)
  all_reads (suc n) ts less xs rest e = turn_reads ts xs rest (λ us i. all_reads n us (omega arith)) (item ts) refl (sym (all-turn item ts) ∙ e)

  -- an item made whole is the last
  last_item : (before : Tokens) → 0 < length before → Filled item' F before → Filled (all item') F before
  last_item before some k = record { more = k.more; value = values k.value; reads = λ other i. by k.value (k.reads other i) i }
    where
      values : Option A → List A
      values None = []
      values (Some x) = x ∷ []

      by : (o : Option A) {other : Tokens} → item' (before ++ (k.more ++ other)) ≡ Ok (o, other) → F other → all item' (before ++ (k.more ++ other)) ≡ Ok (values o, other)
      by None {other = other} e i = all-none item' (before ++ (k.more ++ other)) other e
      by (Some x) {other = other} e i =
          all-some item' (before ++ (k.more ++ other)) x other e (omega (arith, some, length-append before (k.more ++ other), length-append k.more other)) ∙ ap (with_front (x ∷ [])) (nothing_more other i)

  module _ (ts : Tokens) (m : ℕ) (others : (after : Tokens) → length after < length ts → all item after ≡ Err m → (m ≡ length after) ⊎ Inside (all item') F after m) where
    behind_item : (x : A) (after : Tokens) (k : Kept item' F ts (Some x) after) → 0 < length k.before → (m ≡ length after) ⊎ Inside (all item') F after m → (m ≡ length ts) ⊎ Inside (all item') F ts m
    behind_item x after k some (inl i) = inr (record {
      before = k.before;
      after = after;
      some = some;
      text_is = k.text_is;
      left = i;
      filled = record {
        more = [];
        value = x ∷ [];
        reads = λ other j. all-some item' (k.before ++ other) x other (k.keeps other (inl j)) (omega (arith, some, length-append k.before other)) ∙ ap (with_front (x ∷ [])) (nothing_more other j);
      };
    })
    behind_item x after k some (inr l) = inr (record {
      before = k.before ++ l.before;
      after = l.after;
      some = omega (arith, some, length-append k.before l.before);
      text_is = k.text_is ∙ ap (λ us. k.before ++ us) l.text_is ∙ sym (append_assoc k.before l.before l.after);
      left = l.left;
      filled = record {
        more = l.filled.more;
        value = x ∷ l.filled.value;
        reads = λ other j.
            let us : Tokens = l.before ++ (l.filled.more ++ other) in
            ap (all item') (append_assoc k.before l.before (l.filled.more ++ other)) ∙ one_more x k.before us other l.filled.value some (k.keeps us (inr (same l.before l.some l.text_is (l.filled.more ++ other)))) (l.filled.reads other j);
      };
    })
      where
        same : (b : Tokens) → 0 < length b → after ≡ b ++ l.after → (us : Tokens) → SameFirst after (b ++ us)
        same [] some is us = absurd (omega arith)
        same (t ∷ b) some is us = subst (λ vs. SameFirst vs (t ∷ (b ++ us))) (sym is) refl

    turn_stops : (r : Outcome (Option A)) → item ts ≡ r → turn ts (all item) r ≡ Err m → (m ≡ length ts) ⊎ Inside (all item') F ts m
    turn_stops (Err l) is e = by (h.stops ts m (is ∙ ap Err (err_is (List A) l m e)))
      where
        by : (m ≡ length ts) ⊎ Inside item' F ts m → (m ≡ length ts) ⊎ Inside (all item') F ts m
        by (inl i) = inl i
        by (inr k) = inr (record { before = k.before; after = k.after; some = k.some; text_is = k.text_is; left = k.left; filled = last_item k.before k.some k.filled })
    turn_stops (Ok (None, after)) is e = cc
    turn_stops (Ok (Some x, after)) is e = longer (nat_lt (length after) (length ts)) refl e
      where
        longer : (b : Bool) → nat_lt (length after) (length ts) ≡ b → cond b (with_front (x ∷ []) (all item after)) (Ok ([], ts)) ≡ Err m → (m ≡ length ts) ⊎ Inside (all item') F ts m
        longer false same i = cc
        longer true shorter i =
            let k = h.some ts x after is in
            behind_item x after k (some_taken ts x after k shorter) (others after (ltb-true _ _ shorter) (front_err (x ∷ []) (all item after) m i))

  all_stops : (n : ℕ) (ts : Tokens) → length ts < n → (m : ℕ) → all item ts ≡ Err m → (m ≡ length ts) ⊎ Inside (all item') F ts m
  all_stops zero ts less m e = absurd (omega arith)
  all_stops (suc n) ts less m e = turn_stops ts m (λ us i. all_stops n us (omega arith) m) (item ts) refl (sym (all-turn item ts) ∙ e)

  pub rows_by : ViableBy Alike (all item) (all item') F
  rows_by = record { reads = λ ts. all_reads (suc (length ts)) ts (omega arith); stops = λ ts. all_stops (suc (length ts)) ts (omega arith) }

module _ {A : Type 0} {item item' : Parser (Option A)} {F : Tokens → Type 0} (h : Viable item item' F) (ends : (other : Tokens) → F other → item' other ≡ Ok (None, other)) where
  pub rows : Viable (all item) (all item') F
  rows = rows_by (λ rest other s. s) (record { some = λ ts x. h.reads ts (Some x); none = λ ts. h.reads ts None; stops = h.stops }) ends

  abbrev pub rows_start : Starts (all item') F
  rows_start = record { more = []; value = []; reads = λ other i. all-none item' other other (ends other i) }

-- one item or more, with commas between
module _ {A : Type 0} {item item' : Parser A} {F : Tokens → Type 0} (h : Viable item item' F) (k : Starts item' F) (no_comma : Not F comma) where
  pub no_more : (other : Tokens) → F other → behind comma item' other ≡ Ok (None, other)
  no_more other i = none_behind comma item' other (no_comma other i)

  pub commas : Viable (comma_separated item) (comma_separated item') F
  commas = then_part _ _ h (λ x. mapped _ (rows (behind_it comma h k no_comma) no_more)) (λ x. mapped_starts _ (rows_start (behind_it comma h k no_comma) no_more)) (λ x other i. i) (λ other i. i)

  abbrev pub commas_start : Starts (comma_separated item') F
  commas_start = starts_with _ k (mapped_starts _ (rows_start (behind_it comma h k no_comma) no_more)) (λ other i. i)

-- ---- what takes some tokens

pub no_longer : {A : Type 0} {p q : Parser A} {F : Tokens → Type 0} → Viable p q F → (ts : Tokens) (x : A) (rest : Tokens) → p ts ≡ Ok (x, rest) → length rest ≤ length ts
no_longer h ts x rest e = let k = h.reads ts x rest e in omega (arith, ap length k.text_is ∙ length-append k.before rest)

module _ {A : Type 0} where
  pub never_eats : Eats (stuck {A = A})
  never_eats ts x rest e = absurd (never_ok e)
    where
      never_ok : (let r : Outcome A = Err (length ts) in r ≡ Ok (x, rest)) → ⊥
      never_ok i = cc

  pub eats_first : {B : Type 0} {p : Parser A} (f g : A → Parser B) {F : Tokens → Type 0} → Eats p → ((x : A) → Viable (f x) (g x) F) → Eats (p >>= f)
  eats_first {p = p} f g eats next ts y rest e =
      let b = bind_ok (p ts) f y rest e in
      omega (arith, eats ts b.0 b.1 b.2, no_longer (next b.0) b.1 y rest b.3)

  pub eats_next : {B : Type 0} {p q : Parser A} (f : A → Parser B) {F : Tokens → Type 0} → Viable p q F → ((x : A) → Eats (f x)) → Eats (p >>= f)
  eats_next {p = p} f first eats ts y rest e =
      let b = bind_ok (p ts) f y rest e in
      omega (arith, no_longer first ts b.0 b.1 b.2, eats b.0 b.1 y rest b.3)

  pub eats_one : (of : Lexeme → Option A) → Eats (one_of of)
  unfolding one_of
  eats_one of ts x rest e = by ts (first_of of ts) e refl
    where
      by : (ts : Tokens) (o : Option A) → taken o ts ≡ Ok (x, rest) → first_of of ts ≡ o → length rest < length ts
      by ts None e i = absurd (never e)
        where
          never : (let r : Outcome A = Err (length ts) in r ≡ Ok (x, rest)) → ⊥
          never j = cc
      by [] (Some y) e i = absurd (never i)
        where
          never : (let o : Option A = None in o ≡ Some y) → ⊥
          never j = cc
      by (t ∷ ts) (Some y) e i = omega (arith, ap length (ok_pair y x ts rest e).1)

pub eats_expect : (t : Lexeme) → Eats (expect t)
unfolding expect
eats_expect t [] x rest e = absurd (never e)
  where
    never : (let r : Outcome (Unit {0}) = Err 0 in r ≡ Ok (x, rest)) → ⊥
    never j = cc
eats_expect t (u ∷ ts) x rest e = by (is_token t u) e
  where
    by : (b : Bool) → cond {A = Outcome (Unit {0})} b (Ok (tt {0}, ts)) (Err (length (u ∷ ts))) ≡ Ok (x, rest) → length rest < length (u ∷ ts)
    by true i = omega (arith, ap length (ok_pair (tt {0}) x ts rest i).1)
    by false i = absurd (never i)
      where
        never : (let r : Outcome (Unit {0}) = Err (length (u ∷ ts)) in r ≡ Ok (x, rest)) → ⊥
        never j = cc

module _ {X A : Type 0} (d : Lexeme → Option X) {n : Parser A} {s s' : X → Parser A} {F : Tokens → Type 0} (eats : Eats n) (some_part : (x : X) → Viable (s x) (s' x) F) where
  pub eats_choice : Eats (choice d n s)
  eats_choice ts y rest e = by ts (first_of d ts) refl e
    where
      by : (ts : Tokens) (o : Option X) → first_of d ts ≡ o → branch d n s o ts ≡ Ok (y, rest) → length rest < length ts
      by ts None is i = eats ts y rest i
      by [] (Some x) is i = absurd (never is)
        where
          never : (let o : Option X = None in o ≡ Some x) → ⊥
          never j = cc
      by (t ∷ ts) (Some x) is i = omega (arith, no_longer (some_part x) ts y rest i)

pub eats_if_comes : {A : Type 0} (t : Lexeme) (f g : Bool → Parser A) {F : Tokens → Type 0} → Eats (f false) → Viable (f true) (g true) F → Eats (eat t >>= f)
eats_if_comes t f g eats h ts y rest e = eats_choice (seen_as t) eats (λ u. h) ts y rest (sym (as_choice t f ts) ∙ e)

pub eats_if_one : {X A : Type 0} (of : Lexeme → Option X) (f g : Option X → Parser A) {F : Tokens → Type 0} → Eats (f None) → ((x : X) → Viable (f (Some x)) (g (Some x)) F) → Eats (one_if_any of >>= f)
eats_if_one of f g eats h ts y rest e = eats_choice of eats h ts y rest (sym (one_choice of f ts) ∙ e)

-- ---- what reads nothing, or something

abbrev pub NeverNone : {A : Type 0} → Parser (Option A) → Type 0
NeverNone p = (ts rest : Tokens) → p ts ≡ Ok (None, rest) → ⊥

abbrev pub Silent : {A : Type 0} → Parser (Option A) → Type 0
Silent p = (ts rest : Tokens) → p ts ≡ Ok (None, rest) → ts ≡ rest

pub some_found : {A B : Type 0} (p : Parser B) (g : B → A) → NeverNone (p >>= λ x. pure (Some (g x)))
some_found {A = A} p g ts rest e = let b = bind_ok (p ts) (λ x. pure (Some (g x))) None rest e in differ b.0 (ok_pair (Some (g b.0)) None b.1 rest b.3).0
  where
    differ : (x : _) → (let n : Option A = None in Some (g x) ≡ n) → ⊥
    differ x i = cc

module _ {A : Type 0} (t : Lexeme) (f : Bool → Parser (Option A)) where
  pub comes_never : NeverNone (f true) → NeverNone (f false) → NeverNone (eat t >>= f)
  comes_never yes_never no_never ts rest e = by ts (first_of (seen_as t) ts) (sym (as_choice t f ts) ∙ e)
    where
      by : (ts : Tokens) (o : Option (Unit {0})) → branch (seen_as t) (f false) (λ u. f true) o ts ≡ Ok (None, rest) → ⊥
      by ts None i = no_never ts rest i
      by ts (Some u) i = yes_never (without_first ts) rest i

  pub comes_silent : NeverNone (f true) → Silent (f false) → Silent (eat t >>= f)
  comes_silent yes_never silent ts rest e = by ts (first_of (seen_as t) ts) (sym (as_choice t f ts) ∙ e)
    where
      by : (ts : Tokens) (o : Option (Unit {0})) → branch (seen_as t) (f false) (λ u. f true) o ts ≡ Ok (None, rest) → ts ≡ rest
      by ts None i = silent ts rest i
      by ts (Some u) i = absurd (yes_never (without_first ts) rest i)

pub one_silent : {X A : Type 0} (of : Lexeme → Option X) (f : Option X → Parser (Option A)) → ((x : X) → NeverNone (f (Some x))) → Silent (f None) → Silent (one_if_any of >>= f)
one_silent {X = X} of f never_some silent ts rest e = by (first_of of ts) (sym (one_choice of f ts) ∙ e)
  where
    by : (o : Option X) → branch of (f None) (λ x. f (Some x)) o ts ≡ Ok (None, rest) → ts ≡ rest
    by None i = silent ts rest i
    by (Some x) i = absurd (never_some x (without_first ts) rest i)

-- ---- a choice by what comes next, where both take some tokens

module _ {A : Type 0} (test : Tokens → Bool) (by_first : (t : Lexeme) (ts us : Tokens) → test (t ∷ ts) ≡ test (t ∷ us)) {p q p' q' : Parser A} {F : Tokens → Type 0} (eats : Eats p) (eats' : Eats p') (h : Viable p q F) (h' : Viable p' q' F) where
  same_test : (b ts after us : Tokens) → 0 < length b → ts ≡ b ++ after → test (b ++ us) ≡ test ts
  same_test [] ts after us some is = absurd (omega arith)
  same_test (t ∷ b) ts after us some is = by_first t (b ++ us) (b ++ after) ∙ ap test (sym is)

  seeing_reads : (b : Bool) (ts : Tokens) (x : A) (rest : Tokens) → test ts ≡ b → length rest < length ts → Kept (cond b q q') F ts x rest → Kept (λ us. (cond (test us) q q') us) F ts x rest
  seeing_reads b ts x rest is less k = record {
    before = k.before;
    text_is = k.text_is;
    keeps = λ other n. ap (λ c. cond c q q' (k.before ++ other)) (same_test k.before ts rest other (omega (arith, less, ap length k.text_is ∙ length-append k.before rest)) k.text_is ∙ is) ∙ k.keeps other n;
  }

  seeing_stops : (b : Bool) (ts : Tokens) (n : ℕ) → test ts ≡ b → (n ≡ length ts) ⊎ Inside (cond b q q') F ts n → (n ≡ length ts) ⊎ Inside (λ us. (cond (test us) q q') us) F ts n
  seeing_stops b ts n is (inl i) = inl i
  seeing_stops b ts n is (inr k) = inr (record {
    before = k.before;
    after = k.after;
    some = k.some;
    text_is = k.text_is;
    left = k.left;
    filled = record {
      more = k.filled.more;
      value = k.filled.value;
      reads = λ other j. ap (λ c. cond c q q' (k.before ++ (k.filled.more ++ other))) (same_test k.before ts k.after (k.filled.more ++ other) k.some k.text_is ∙ is) ∙ k.filled.reads other j;
    };
  })

  pub seeing : Viable (λ ts. (cond (test ts) p p') ts) (λ ts. (cond (test ts) q q') ts) F
  seeing = record {
    reads = λ ts x rest e. by ts x rest (test ts) refl e;
    stops = λ ts n e. to ts n (test ts) refl e;
  }
    where
      by : (ts : Tokens) (x : A) (rest : Tokens) (b : Bool) → test ts ≡ b → cond b p p' ts ≡ Ok (x, rest) → Kept (λ us. (cond (test us) q q') us) F ts x rest
      by ts x rest true is e = seeing_reads true ts x rest is (eats ts x rest e) (h.reads ts x rest e)
      by ts x rest false is e = seeing_reads false ts x rest is (eats' ts x rest e) (h'.reads ts x rest e)

      to : (ts : Tokens) (n : ℕ) (b : Bool) → test ts ≡ b → cond b p p' ts ≡ Err n → (n ≡ length ts) ⊎ Inside (λ us. (cond (test us) q q') us) F ts n
      to ts n true is e = seeing_stops true ts n is (h.stops ts n e)
      to ts n false is e = seeing_stops false ts n is (h'.stops ts n e)

pub eats_seeing : {A : Type 0} (test : Tokens → Bool) {p p' : Parser A} → Eats p → Eats p' → Eats (λ ts. (cond (test ts) p p') ts)
eats_seeing test {p = p} {p' = p'} eats eats' ts x rest e = by (test ts) e
  where
    by : (b : Bool) → cond b p p' ts ≡ Ok (x, rest) → length rest < length ts
    by true i = eats ts x rest i
    by false i = eats' ts x rest i

-- a bracket, of which one more may be open
pub opening : (left : ℕ) {F : Tokens → Type 0} → Viable (opening_bracket left) (opening_bracket (suc left)) F
unfolding opening_bracket
opening left {F = F} = record { reads = λ ts x rest e. by (nat_eq left 0) ts x rest e; stops = λ ts n e. to (nat_eq left 0) ts n e }
  where
    here : Viable (expect (lexeme.Symbol symbol.Open)) (opening_bracket (suc left)) F
    here = alike (λ ts. refl) (λ ts. ap (λ c. cond c stuck (expect (lexeme.Symbol symbol.Open)) ts) (eqb-suc-zero left)) (expected (lexeme.Symbol symbol.Open) (λ ts. refl))

    by : (b : Bool) (ts : Tokens) (x : Unit {0}) (rest : Tokens) → cond b stuck (expect (lexeme.Symbol symbol.Open)) ts ≡ Ok (x, rest) → Kept (opening_bracket (suc left)) F ts x rest
    by true ts x rest e = cc
    by false ts x rest e = here.reads ts x rest e

    to : (b : Bool) (ts : Tokens) (n : ℕ) → cond b stuck (expect (lexeme.Symbol symbol.Open)) ts ≡ Err n → (n ≡ length ts) ⊎ Inside (opening_bracket (suc left)) F ts n
    to true ts n e = inl (sym (err_is (Unit {0}) (length ts) n e))
    to false ts n e = here.stops ts n e

pub opens : (left : ℕ) (ts : Tokens) → opening_bracket (suc left) (lexeme.Symbol symbol.Open ∷ ts) ≡ Ok (tt, ts)
unfolding opening_bracket expect
opens left ts = ap (λ c. cond c stuck (expect (lexeme.Symbol symbol.Open)) (lexeme.Symbol symbol.Open ∷ ts)) (eqb-suc-zero left)

abbrev pub opening_starts : (left : ℕ) {F : Tokens → Type 0} → Starts (opening_bracket (suc left)) F
opening_starts left = record { more = lexeme.Symbol symbol.Open ∷ []; value = tt; reads = λ other i. opens left other }
