-- Readings that look at one token behind what they take: whatever stands behind that token, the answer is the same.
use Rattle.std.proofs.Common.{◌≡◌, ℕ, ◌<◌, Bool, true, false, cond, List, [], ◌∷◌, ◌++◌, length, Option, Some, None, Ok, Err, refl, sym, ◌∙◌, ap, subst, arith, nat_eq}
use Rattle.sq_lex.specs.declared.lexeme.Lexeme.{Lexeme}
use Rattle.sq_lex.specs.declared.lexeme.Lexeme.TheVariants as lexeme
use Rattle.sq_lex.specs.declared.symbol.Symbol.TheVariants as symbol
use Rattle.sq_grammar.specs.Reading.{Tokens, Outcome, Parser, ◌>>=◌, pure, stuck, eat, expect, opening_bracket, is_token, token_if_any, one_of, one_if_any, taken, taken_if_any, name_of, number_of, name, number, behind, comma, comma_separated, all, end_of}
use Rattle.sq_grammar.proofs.Sound.Spells.{ok_pair}
use Rattle.sq_run.proofs.Tokens.Ahead.{Ahead, Looks, Read, Stuck, again, bound, err_is}

-- both have a first token, and it is the same
abbrev pub SameFirst : Tokens → Tokens → Type 0
SameFirst (t ∷ ts) (u ∷ us) = t ≡ u
SameFirst _ _ = ⊥

pub looks_at_one : Looks SameFirst
looks_at_one = record { behind = λ t ts rest other s. refl; token = λ t ts u more other. refl }

abbrev pub Final : {A : Type 0} → Parser A → Type 0
Final p = Ahead SameFirst p

pub bind : {A B : Type 0} {p : Parser A} {f : A → Parser B} → Final p → ((x : A) → Final (f x)) → Final (p >>= f)
bind {f = f} first next = bound looks_at_one (λ rest other s. s) f (λ x t ts e other. refl) first next

pub rows : {A : Type 0} (item : Parser (Option A)) → Final item → Final (all item)
rows item h = again looks_at_one (λ t ts e other. refl) h

-- ---- parts that look at one token

-- what a parser does with a token that comes next: it takes it, leaves it, or is stuck at it
pub data Step (A : Type 0) : Type 0 where
  takes : A → Step A
  leaves : A → Step A
  refuses : Step A

abbrev pub outcome : {A : Type 0} → Step A → Lexeme → Tokens → Outcome A
outcome (takes x) t ts = Ok (x, ts)
outcome (leaves x) t ts = Ok (x, t ∷ ts)
outcome refuses t ts = Err (length (t ∷ ts))

-- at the end nothing is left to read
pub data End {A : Type 0} (r : Outcome A) : Type 0 where
  reads : (x : A) → r ≡ Ok (x, []) → End r
  stops : r ≡ Err 0 → End r

module _ {A : Type 0} (p : Parser A) (step : Lexeme → Step A) (is : (t : Lexeme) (ts : Tokens) → p (t ∷ ts) ≡ outcome (step t) t ts) (last : End (p [])) where
  end_reads : (x : A) (rest : Tokens) → End (p []) → p [] ≡ Ok (x, rest) → Read SameFirst p [] x rest
  end_reads x rest (reads y i) e =
      let q = ok_pair y x [] rest (sym i ∙ e) in
      record { before = []; text_is = q.1; same = λ other s. absurd (subst (λ us. SameFirst us other) (sym q.1) s) }
  end_reads x rest (stops i) e = cc (i, e)

  end_stops : (n : ℕ) → End (p []) → p [] ≡ Err n → 0 < n → Stuck p [] n
  end_stops n (reads y i) e room = cc (i, e)
  end_stops n (stops i) e room = absurd (omega (arith, err_is A 0 n (sym i ∙ e)))

  step_reads : (t : Lexeme) (ts : Tokens) (x : A) (rest : Tokens) (s : Step A) → step t ≡ s → outcome s t ts ≡ Ok (x, rest) → Read SameFirst p (t ∷ ts) x rest
  step_reads t ts x rest (takes y) i e = record {
    before = t ∷ [];
    text_is = ap (λ us. t ∷ us) (ok_pair y x ts rest e).1;
    same = λ other s. is t other ∙ ap (λ s. outcome s t other) i ∙ ap (λ z. Ok (z, other)) (ok_pair y x ts rest e).0;
  }
  step_reads t ts x rest (leaves y) i e =
      let q = ok_pair y x (t ∷ ts) rest e in
      record {
        before = [];
        text_is = q.1;
        same = λ other s. by q.0 other (subst (λ us. SameFirst us other) (sym q.1) s);
      }
    where
      by : y ≡ x → (other : Tokens) → SameFirst (t ∷ ts) other → p other ≡ Ok (x, other)
      by j [] s = absurd s
      by j (u ∷ us) s = subst (λ v. p (v ∷ us) ≡ Ok (x, v ∷ us)) s (is t us ∙ ap (λ k. outcome k t us) i ∙ ap (λ z. Ok (z, t ∷ us)) j)
  step_reads t ts x rest refuses i e = cc

  step_stops : (t : Lexeme) (ts : Tokens) (n : ℕ) (s : Step A) → step t ≡ s → outcome s t ts ≡ Err n → Stuck p (t ∷ ts) n
  step_stops t ts n (takes y) i e = cc
  step_stops t ts n (leaves y) i e = cc
  step_stops t ts n refuses i e = record {
    before = [];
    token = t;
    after = ts;
    text_is = refl;
    left = sym (err_is A (length (t ∷ ts)) n e);
    same = λ other. is t other ∙ ap (λ s. outcome s t other) i;
  }

  by_reads : (ts : Tokens) (x : A) (rest : Tokens) → p ts ≡ Ok (x, rest) → Read SameFirst p ts x rest
  by_reads [] x rest e = end_reads x rest last e
  by_reads (t ∷ ts) x rest e = step_reads t ts x rest (step t) refl (sym (is t ts) ∙ e)

  by_stops : (ts : Tokens) (n : ℕ) → p ts ≡ Err n → 0 < n → Stuck p ts n
  by_stops [] n e room = end_stops n last e room
  by_stops (t ∷ ts) n e room = step_stops t ts n (step t) refl (sym (is t ts) ∙ e)

  one_token : Final p
  one_token = record { reads = by_reads; stops = by_stops }

module _ {A : Type 0} where
  -- nothing is read
  pub done : {x : A} → Final (pure x)
  done {x = x} = one_token (pure x) (λ t. leaves x) (λ t ts. refl) (reads x refl)

  pub never : Final (stuck {A = A})
  never = one_token (stuck {A = A}) (λ t. refuses) (λ t ts. refl) (stops refl)

  -- what comes next is looked for with the same answer
  pub either : (b : Bool) {p q : Parser A} → Final p → Final q → Final (cond b p q)
  either true first second = first
  either false first second = second

  pub by_bool : (f : Bool → Parser A) → Final (f true) → Final (f false) → (b : Bool) → Final (f b)
  by_bool f comes not true = comes
  by_bool f comes not false = not

  pub by_option : {B : Type 0} (f : Option B → Parser A) → Final (f None) → ((x : B) → Final (f (Some x))) → (o : Option B) → Final (f o)
  by_option f none some None = none
  by_option f none some (Some x) = some x

eat_step : Lexeme → Lexeme → Step Bool
eat_step token t = cond (is_token token t) (takes true) (leaves false)

pub eaten : (token : Lexeme) → Final (eat token)
unfolding eat eat_step
eaten token = one_token (eat token) (eat_step token) (λ t ts. by t ts (is_token token t)) (reads false refl)
  where
    by : (t : Lexeme) (ts : Tokens) (b : Bool) → cond b (Ok (true, ts)) (Ok (false, t ∷ ts)) ≡ outcome (cond b (takes true) (leaves false)) t ts
    by t ts true = refl
    by t ts false = refl

expect_step : Lexeme → Lexeme → Step (Unit {0})
expect_step token t = cond (is_token token t) (takes tt) refuses

pub expected : (token : Lexeme) → Final (expect token)
unfolding expect expect_step
expected token = one_token (expect token) (expect_step token) (λ t ts. by t ts (is_token token t)) (stops refl)
  where
    by : (t : Lexeme) (ts : Tokens) (b : Bool) → cond b (Ok (tt {0}, ts)) (Err (length (t ∷ ts))) ≡ outcome (cond b (takes (tt {0})) refuses) t ts
    by t ts true = refl
    by t ts false = refl

pub opening : (left : ℕ) → Final (opening_bracket left)
unfolding opening_bracket
opening left = either (nat_eq left 0) never (expected (lexeme.Symbol symbol.Open))

module _ {A : Type 0} where
  pub any_token : (tokens : List (Lexeme × A)) → Final (token_if_any tokens)
  any_token [] = done
  any_token (x ∷ xs) = bind (eaten x.0) (λ found. either found done (any_token xs))

  -- the same of a list that is written out
  pub or_token : (t : Lexeme) (x : A) {p : Parser (Option A)} → Final p → Final (eat t >>= λ found. cond found (pure (Some x)) p)
  or_token t x h = bind (eaten t) (λ found. either found done h)

  module _ (of : Lexeme → Option A) where
    taken_step : Option A → Step A
    taken_step None = refuses
    taken_step (Some x) = takes x

    pub one : Final (one_of of)
    unfolding one_of taken_step
    one = one_token (one_of of) (λ t. taken_step (of t)) (λ t ts. by t ts (of t)) (stops refl)
      where
        by : (t : Lexeme) (ts : Tokens) (o : Option A) → taken o (t ∷ ts) ≡ outcome (taken_step o) t ts
        by t ts None = refl
        by t ts (Some x) = refl

    any_step : Option A → Step (Option A)
    any_step None = leaves None
    any_step (Some x) = takes (Some x)

    pub one_or_none : Final (one_if_any of)
    unfolding one_if_any any_step
    one_or_none = one_token (one_if_any of) (λ t. any_step (of t)) (λ t ts. by t ts (of t)) (reads None refl)
      where
        by : (t : Lexeme) (ts : Tokens) (o : Option A) → taken_if_any o (t ∷ ts) ≡ outcome (any_step o) t ts
        by t ts None = refl
        by t ts (Some x) = refl

  pub ended : (x : A) → Final (end_of x)
  ended x = one_token (end_of x) (λ t. refuses) (λ t ts. ap Err (omega arith)) (reads x refl)

pub a_name : Final name
a_name = one name_of

pub a_number : Final number
a_number = one number_of

module _ {A : Type 0} where
  -- by whether a word or symbol comes
  pub if_comes : (t : Lexeme) (f : Bool → Parser A) → Final (f true) → Final (f false) → Final (eat t >>= f)
  if_comes t f comes not = bind (eaten t) (by_bool f comes not)

  -- by which token of some comes, if any
  pub if_one : {B : Type 0} (of : Lexeme → Option B) (f : Option B → Parser A) → Final (f None) → ((x : B) → Final (f (Some x))) → Final (one_if_any of >>= f)
  if_one of f none some = bind (one_or_none of) (by_option f none some)

  pub then : (t : Lexeme) {p : Parser A} → Final p → Final (behind t p)
  then t h = bind (eaten t) (λ found. either found (bind h (λ x. done)) done)

  pub must : (t : Lexeme) {p : Parser A} → Final p → Final (expect t >>= (λ u. p))
  must t h = bind (expected t) (λ u. h)

-- ---- a choice by what comes next

module _ {A : Type 0} (test : Tokens → Bool) (by_first : (t : Lexeme) (ts us : Tokens) → test (t ∷ ts) ≡ test (t ∷ us)) {p q : Parser A} (first : Final p) (second : Final q) where
  -- other tokens behind the first give the same choice
  kept : (before rest other ts : Tokens) → ts ≡ before ++ rest → SameFirst rest other → test (before ++ other) ≡ test ts
  kept [] [] other ts e s = absurd s
  kept [] (t ∷ rest) [] ts e s = absurd s
  kept [] (t ∷ rest) (u ∷ other) ts e s = ap (λ v. test (v ∷ other)) (sym s) ∙ by_first t other rest ∙ ap test (sym e)
  kept (u ∷ us) rest other ts e s = by_first u (us ++ other) (us ++ rest) ∙ ap test (sym e)

  choice : Parser A
  choice = λ ts. (cond (test ts) p q) ts

  either_reads : (b : Bool) (ts : Tokens) (x : A) (rest : Tokens) → test ts ≡ b → Read SameFirst (cond b p q) ts x rest → Read SameFirst (λ us. (cond (test us) p q) us) ts x rest
  either_reads b ts x rest is k = record {
    before = k.before;
    text_is = k.text_is;
    same = λ other s. ap (λ c. cond c p q (k.before ++ other)) (kept k.before rest other ts k.text_is s ∙ is) ∙ k.same other s;
  }

  either_stops : (b : Bool) (ts : Tokens) (n : ℕ) → test ts ≡ b → Stuck (cond b p q) ts n → Stuck (λ us. (cond (test us) p q) us) ts n
  either_stops b ts n is k = record {
    before = k.before;
    token = k.token;
    after = k.after;
    text_is = k.text_is;
    left = k.left;
    same = λ other. ap (λ c. cond c p q (k.before ++ k.token ∷ other)) (kept k.before (k.token ∷ k.after) (k.token ∷ other) ts k.text_is refl ∙ is) ∙ k.same other;
  }

  pub seeing : Final (λ ts. (cond (test ts) p q) ts)
  seeing = record {
    reads = λ ts x rest e. either_reads (test ts) ts x rest refl ((either (test ts) first second).reads ts x rest e);
    stops = λ ts n e room. either_stops (test ts) ts n refl ((either (test ts) first second).stops ts n e room);
  }

-- two parsers that answer alike
pub alike : {A : Type 0} {p q : Parser A} → ((ts : Tokens) → p ts ≡ q ts) → Final q → Final p
alike {p = p} {q = q} same h = record {
  reads = λ ts x rest e.
      let k = h.reads ts x rest (sym (same ts) ∙ e) in
      record { before = k.before; text_is = k.text_is; same = λ other s. same (k.before ++ other) ∙ k.same other s };
  stops = λ ts n e room.
      let k = h.stops ts n (sym (same ts) ∙ e) room in
      record { before = k.before; token = k.token; after = k.after; text_is = k.text_is; left = k.left; same = λ other. same (k.before ++ k.token ∷ other) ∙ k.same other };
}

-- one item or more, with commas between
pub commas : {A : Type 0} {item : Parser A} → Final item → Final (comma_separated item)
commas {item = item} h = bind h (λ x. bind (rows (behind comma item) (then comma h)) (λ xs. done))
