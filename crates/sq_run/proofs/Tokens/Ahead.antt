-- How far a reading looks: what it reads, and where it is stuck, is decided by the tokens up to the first that it does not take, and
-- perhaps by some behind it; whatever stands behind these, the answer is the same.
use Rattle.std.proofs.Common.{◌≡◌, ℕ, zero, suc, ◌<◌, Bool, true, false, cond, List, [], ◌∷◌, ◌++◌, length, Option, Some, None, Ok, Err, nat_lt, refl, sym, ◌∙◌, ap, subst, arith, append_assoc, length-append}
use Rattle.std.proofs.lemmas.Bool.{ltb-true, ltb-false}
use Rattle.sq_lex.specs.declared.lexeme.Lexeme.{Lexeme}
use Rattle.sq_grammar.specs.Reading.{Tokens, Outcome, Parser, ◌>>=◌, and_then, pure, all, turn, with_front}
use Rattle.sq_grammar.proofs.Reading.Many.{all-none, all-err, all-some, all-turn}
use Rattle.sq_grammar.proofs.Sound.Spells.{ok_pair}

-- Two lists of tokens that a reading which stops before them does not tell apart. It does not where their first two tokens are the same.
pub record Looks (Same : Tokens → Tokens → Type 0) : Type 0 where
  pub behind : (t : Lexeme) (ts rest other : Tokens) → Same rest other → Same (t ∷ (ts ++ rest)) (t ∷ (ts ++ other))
  pub token : (t : Lexeme) (ts : Tokens) (u : Lexeme) (more other : Tokens) → Same (t ∷ (ts ++ u ∷ more)) (t ∷ (ts ++ u ∷ other))

-- Of `ts` it reads x and leaves `rest`, and so it does with any rest that it does not tell from this one.
pub record Read (Same : Tokens → Tokens → Type 0) {A : Type 0} (p : Parser A) (ts : Tokens) (x : A) (rest : Tokens) : Type 0 where
  pub before : Tokens
  pub text_is : ts ≡ before ++ rest
  pub same : (other : Tokens) → Same rest other → p (before ++ other) ≡ Ok (x, other)

-- It is stuck at a token of `ts`, from which on n are left, and so it is whatever stands behind that token.
pub record Stuck {A : Type 0} (p : Parser A) (ts : Tokens) (n : ℕ) : Type 0 where
  pub before : Tokens
  pub token : Lexeme
  pub after : Tokens
  pub text_is : ts ≡ before ++ token ∷ after
  pub left : n ≡ length (token ∷ after)
  pub same : (other : Tokens) → p (before ++ token ∷ other) ≡ Err (length (token ∷ other))

-- Where it is stuck at the end of the tokens, more of them might go on.
pub record Ahead (Same : Tokens → Tokens → Type 0) {A : Type 0} (p : Parser A) : Type 0 where
  pub reads : (ts : Tokens) (x : A) (rest : Tokens) → p ts ≡ Ok (x, rest) → Read Same p ts x rest
  pub stops : (ts : Tokens) (n : ℕ) → p ts ≡ Err n → 0 < n → Stuck p ts n

-- A token at which it is stuck at once is not told from itself with other tokens behind it: so of these tokens, and so of all.
abbrev pub ClearOf : (Tokens → Tokens → Type 0) → {A : Type 0} → Parser A → Tokens → Type 0
ClearOf Same p us = (t : Lexeme) (ts : Tokens) → us ≡ t ∷ ts → p (t ∷ ts) ≡ Err (length (t ∷ ts)) → (other : Tokens) → Same (t ∷ ts) (t ∷ other)

abbrev pub Clear : (Tokens → Tokens → Type 0) → {A : Type 0} → Parser A → Type 0
Clear Same p = (t : Lexeme) (ts : Tokens) → p (t ∷ ts) ≡ Err (length (t ∷ ts)) → (other : Tokens) → Same (t ∷ ts) (t ∷ other)

pub bind_ok : {A B : Type 0} (r : Outcome A) (f : A → Parser B) (y : B) (rest : Tokens) → and_then r f ≡ Ok (y, rest) → (x : A) × (after : Tokens) × (r ≡ Ok (x, after)) × (f x after ≡ Ok (y, rest))
bind_ok (Ok p) f y rest e = (p.0, p.1, refl, e)
bind_ok (Err n) f y rest e = cc

pub err_is : (A : Type 0) (n m : ℕ) → (let a : Outcome A = Err n in let b : Outcome A = Err m in a ≡ b) → n ≡ m
err_is A n m e = cc

front_err : {A : Type 0} (front : List A) (r : Outcome (List A)) (m : ℕ) → with_front front r ≡ Err m → r ≡ Err m
front_err {A = A} front (Ok p) m e = cc
front_err {A = A} front (Err n) m e = ap Err (err_is (List A) n m e)

not_less : (n : ℕ) → nat_lt n n ≡ false
not_less n = by (nat_lt n n) refl
  where
    by : (b : Bool) → nat_lt n n ≡ b → b ≡ false
    by true e = absurd (omega (arith, ltb-true _ _ e))
    by false e = refl

module _ {Same : Tokens → Tokens → Type 0} (looks : Looks Same) where
  pub same_behind : (before rest other : Tokens) → Same rest other → Same (before ++ rest) (before ++ other)
  same_behind [] rest other s = s
  same_behind (t ∷ ts) rest other s = looks.behind t ts rest other s

  pub same_stuck : {A : Type 0} {p : Parser A} {ts : Tokens} {n : ℕ} → ClearOf Same p ts → (k : Stuck p ts n) (other : Tokens) → Same (k.before ++ k.token ∷ k.after) (k.before ++ k.token ∷ other)
  same_stuck {p = p} {ts = ts} clear k other = by k.before k.text_is (k.same k.after)
    where
      by : (before : Tokens) → ts ≡ before ++ k.token ∷ k.after → p (before ++ k.token ∷ k.after) ≡ Err (length (k.token ∷ k.after)) → Same (before ++ k.token ∷ k.after) (before ++ k.token ∷ other)
      by [] is e = clear k.token k.after is e other
      by (t ∷ ts) is e = looks.token t ts k.token k.after other

  -- ---- one part after another, where the second may look further ahead

  module _ {Next : Tokens → Tokens → Type 0} (nearer : (rest other : Tokens) → Next rest other → Same rest other) {A B : Type 0} {p : Parser A} (f : A → Parser B) where
    behind_reads : (ts : Tokens) (x : A) (after : Tokens) (y : B) (rest : Tokens) → Read Same p ts x after → Read Next (f x) after y rest → Read Next (p >>= f) ts y rest
    behind_reads ts x after y rest h k = record {
      before = h.before ++ k.before;
      text_is = h.text_is ∙ ap (λ us. h.before ++ us) k.text_is ∙ sym (append_assoc h.before k.before rest);
      same = λ other s.
          ap (λ us. and_then (p us) f) (append_assoc h.before k.before other)
          ∙ ap (λ r. and_then r f) (h.same (k.before ++ other) (subst (λ us. Same us (k.before ++ other)) (sym k.text_is) (same_behind k.before rest other (nearer rest other s))))
          ∙ k.same other s;
    }

    behind_stops : (ts : Tokens) (x : A) (after : Tokens) (n : ℕ) → ClearOf Same (f x) after → Read Same p ts x after → Stuck (f x) after n → Stuck (p >>= f) ts n
    behind_stops ts x after n clear h k = record {
      before = h.before ++ k.before;
      token = k.token;
      after = k.after;
      text_is = h.text_is ∙ ap (λ us. h.before ++ us) k.text_is ∙ sym (append_assoc h.before k.before (k.token ∷ k.after));
      left = k.left;
      same = λ other.
          ap (λ us. and_then (p us) f) (append_assoc h.before k.before (k.token ∷ other))
          ∙ ap (λ r. and_then r f) (h.same (k.before ++ k.token ∷ other) (subst (λ us. Same us (k.before ++ k.token ∷ other)) (sym k.text_is) (same_stuck clear k other)))
          ∙ k.same other;
    }

    first_stops : (ts : Tokens) (n : ℕ) → Stuck p ts n → Stuck (p >>= f) ts n
    first_stops ts n k = record { before = k.before; token = k.token; after = k.after; text_is = k.text_is; left = k.left; same = λ other. ap (λ r. and_then r f) (k.same other) }

    -- what the second may be stuck at at once is asked only where the first has read
    pub bound_stops : Ahead Same p → ((x : A) → Ahead Next (f x)) → (ts : Tokens) → ((x : A) (after : Tokens) → p ts ≡ Ok (x, after) → ClearOf Same (f x) after) → (n : ℕ) → (p >>= f) ts ≡ Err n → 0 < n → Stuck (p >>= f) ts n
    bound_stops first next ts clear n e room = by (p ts) refl e
      where
        by : (r : Outcome A) → p ts ≡ r → and_then r f ≡ Err n → Stuck (p >>= f) ts n
        by (Err m) is e = first_stops ts n (first.stops ts n (is ∙ ap Err (err_is B m n e)) room)
        by (Ok q) is e = behind_stops ts q.0 q.1 n (clear q.0 q.1 is) (first.reads ts q.0 q.1 is) ((next q.0).stops q.1 n e room)

    pub bound : ((x : A) → Clear Same (f x)) → Ahead Same p → ((x : A) → Ahead Next (f x)) → Ahead Next (p >>= f)
    bound clear first next = record {
      reads = λ ts y rest e.
          let b = bind_ok (p ts) f y rest e in
          behind_reads ts b.0 b.1 y rest (first.reads ts b.0 b.1 b.2) ((next b.0).reads b.1 y rest b.3);
      stops = λ ts n e room. bound_stops first next ts (λ x after is t us i. clear x t us) n e room;
    }

  -- ---- items again and again

  module _ {A : Type 0} {item : Parser (Option A)} (clear : Clear Same item) (h : Ahead Same item) where
    -- an item after which no fewer tokens are left is not taken
    no_shorter : (ts after : Tokens) (x : A) → item ts ≡ Ok (Some x, after) → nat_lt (length after) (length ts) ≡ false → all item ts ≡ Ok ([], ts)
    no_shorter ts after x is same = all-turn item ts ∙ ap (turn ts (all item)) is ∙ ap (λ b. cond b (with_front (x ∷ []) (all item after)) (Ok ([], ts))) same

    -- the reading of an item, and then of the others
    more_read : (ts after : Tokens) (x : A) (k : Read Same item ts (Some x) after) → length after < length ts → (before rest other : Tokens) → after ≡ before ++ rest → Same (before ++ rest) (before ++ other)
        → all item ((k.before ++ before) ++ other) ≡ with_front (x ∷ []) (all item (before ++ other))
    more_read ts after x k less before rest other e s =
        let long = ap length k.text_is ∙ length-append k.before after in
        let longer = length-append k.before (before ++ other) in
        ap (all item) (append_assoc k.before before other)
        ∙ all-some item (k.before ++ (before ++ other)) x (before ++ other) (k.same (before ++ other) (subst (λ us. Same us (before ++ other)) (sym e) s)) (omega (arith, less, long, longer))

    none_there : (xs : List A) (ts after rest : Tokens) → Read Same item ts None after → [] ≡ xs → after ≡ rest → Read Same (all item) ts xs rest
    none_there xs ts after rest k empty end = record {
      before = k.before;
      text_is = k.text_is ∙ ap (λ us. k.before ++ us) end;
      same = λ other s. all-none item (k.before ++ other) other (k.same other (subst (λ us. Same us other) (sym end) s)) ∙ ap (λ ys. Ok (ys, other)) empty;
    }

    nothing_taken : (xs : List A) (x : A) (ts after rest : Tokens) → Read Same item ts (Some x) after → nat_lt (length after) (length ts) ≡ false → [] ≡ xs → ts ≡ rest → Read Same (all item) ts xs rest
    nothing_taken xs x ts after rest k same empty end = record {
      before = [];
      text_is = end;
      same = λ other s. no_shorter other other x (by k.before k.text_is other s (k.same other)) (not_less (length other)) ∙ ap (λ ys. Ok (ys, other)) empty;
    }
      where
        by : (b : Tokens) → ts ≡ b ++ after → (other : Tokens) → Same rest other → (Same after other → item (b ++ other) ≡ Ok (Some x, other)) → item other ≡ Ok (Some x, other)
        by [] e other s on = on (subst (λ us. Same us other) (sym end ∙ e) s)
        by (v ∷ vs) e other s on = absurd (omega (arith, ltb-false _ _ same, ap length e ∙ length-append (v ∷ vs) after))

    module _ (ts : Tokens) (xs : List A) (rest : Tokens) (others : (after : Tokens) → length after < length ts → (ys : List A) (r : Tokens) → all item after ≡ Ok (ys, r) → Read Same (all item) after ys r) where
      longer_reads : (x : A) (after : Tokens) → item ts ≡ Ok (Some x, after) → (b : Bool) → nat_lt (length after) (length ts) ≡ b → cond b (with_front (x ∷ []) (all item after)) (Ok ([], ts)) ≡ Ok (xs, rest) → Read Same (all item) ts xs rest
      longer_reads x after is false same i =
          let q = ok_pair [] xs ts rest i in
          nothing_taken xs x ts after rest (h.reads ts (Some x) after is) same q.0 q.1
      longer_reads x after is true shorter i =
          let less = ltb-true _ _ shorter in
          let k : Read Same item ts (Some x) after = h.reads ts (Some x) after is in
          let b = bind_ok (all item after) (λ ys. pure (x ∷ ys)) xs rest i in
          let q = ok_pair (x ∷ b.0) xs b.1 rest b.3 in
          let l : Read Same (all item) after b.0 b.1 = others after less b.0 b.1 b.2 in
          record {
            before = k.before ++ l.before;
            text_is = k.text_is ∙ ap (λ us. k.before ++ us) l.text_is ∙ sym (append_assoc k.before l.before b.1) ∙ ap (λ us. (k.before ++ l.before) ++ us) q.1;
            same = λ other s.
                let t : Same b.1 other = subst (λ us. Same us other) (sym q.1) s in
                more_read ts after x k less l.before b.1 other l.text_is (same_behind l.before b.1 other t)
                ∙ ap (with_front (x ∷ [])) (l.same other t)
                ∙ ap (λ ys. Ok (ys, other)) q.0;
          }

      turn_reads : (r : Outcome (Option A)) → item ts ≡ r → turn ts (all item) r ≡ Ok (xs, rest) → Read Same (all item) ts xs rest
      turn_reads (Err m) is i = cc
      turn_reads (Ok (None, after)) is i =
          let q = ok_pair [] xs after rest i in
          none_there xs ts after rest (h.reads ts None after is) q.0 q.1
      turn_reads (Ok (Some x, after)) is i = longer_reads x after is (nat_lt (length after) (length ts)) refl i

    all_reads : (n : ℕ) (ts : Tokens) → length ts < n → (xs : List A) (rest : Tokens) → all item ts ≡ Ok (xs, rest) → Read Same (all item) ts xs rest
    all_reads zero ts less xs rest e = absurd (omega arith)
    all_reads (suc n) ts less xs rest e = turn_reads ts xs rest (λ us i. all_reads n us (omega arith)) (item ts) refl (sym (all-turn item ts) ∙ e)

    -- where it is stuck at once, its first item is
    module _ (t : Lexeme) (ts other : Tokens) (others : (after : Tokens) → length after < length (t ∷ ts) → (m : ℕ) → all item after ≡ Err m → 0 < m → Stuck (all item) after m) where
      longer_clear : (x : A) (after : Tokens) (b : Bool) → nat_lt (length after) (length (t ∷ ts)) ≡ b → cond b (with_front (x ∷ []) (all item after)) (Ok ([], t ∷ ts)) ≡ Err (length (t ∷ ts)) → ⊥
      longer_clear x after false same i = cc
      longer_clear x after true shorter i =
          let less = ltb-true _ _ shorter in
          let k = others after less (length (t ∷ ts)) (front_err (x ∷ []) (all item after) _ i) (omega arith) in
          omega (arith, less, ap length k.text_is ∙ length-append k.before (k.token ∷ k.after), k.left)

      turn_clear : (r : Outcome (Option A)) → item (t ∷ ts) ≡ r → turn (t ∷ ts) (all item) r ≡ Err (length (t ∷ ts)) → Same (t ∷ ts) (t ∷ other)
      turn_clear (Err m) is i = clear t ts (is ∙ ap Err (err_is (List A) m (length (t ∷ ts)) i)) other
      turn_clear (Ok (None, after)) is i = cc
      turn_clear (Ok (Some x, after)) is i = absurd (longer_clear x after (nat_lt (length after) (length (t ∷ ts))) refl i)

    module _ (ts : Tokens) (m : ℕ) (room : 0 < m) (others : (after : Tokens) → length after < length ts → (m : ℕ) → all item after ≡ Err m → 0 < m → Stuck (all item) after m) where
      longer_stops : (x : A) (after : Tokens) → item ts ≡ Ok (Some x, after) → (b : Bool) → nat_lt (length after) (length ts) ≡ b → cond b (with_front (x ∷ []) (all item after)) (Ok ([], ts)) ≡ Err m → Stuck (all item) ts m
      longer_stops x after is false same i = cc
      longer_stops x after is true shorter i =
          let less = ltb-true _ _ shorter in
          let k : Read Same item ts (Some x) after = h.reads ts (Some x) after is in
          let l : Stuck (all item) after m = others after less m (front_err (x ∷ []) (all item after) m i) room in
          record {
            before = k.before ++ l.before;
            token = l.token;
            after = l.after;
            text_is = k.text_is ∙ ap (λ us. k.before ++ us) l.text_is ∙ sym (append_assoc k.before l.before (l.token ∷ l.after));
            left = l.left;
            same = λ other.
                more_read ts after x k less l.before (l.token ∷ l.after) (l.token ∷ other) l.text_is (by less l other l.before l.text_is (l.same l.after))
                ∙ ap (with_front (x ∷ [])) (l.same other);
          }
        where
          by : length after < length ts → (l : Stuck (all item) after m) (other before : Tokens) → after ≡ before ++ l.token ∷ l.after → all item (before ++ l.token ∷ l.after) ≡ Err (length (l.token ∷ l.after)) → Same (before ++ l.token ∷ l.after) (before ++ l.token ∷ other)
          by less l other [] is e = turn_clear l.token l.after other (λ us i. others us (omega (arith, i, less, ap length is))) (item (l.token ∷ l.after)) refl (sym (all-turn item (l.token ∷ l.after)) ∙ e)
          by less l other (t ∷ us) is e = looks.token t us l.token l.after other

      turn_stops : (r : Outcome (Option A)) → item ts ≡ r → turn ts (all item) r ≡ Err m → Stuck (all item) ts m
      turn_stops (Err l) is i =
          let k : Stuck item ts m = h.stops ts m (is ∙ ap Err (err_is (List A) l m i)) room in
          record { before = k.before; token = k.token; after = k.after; text_is = k.text_is; left = k.left; same = λ other. all-err item (k.before ++ k.token ∷ other) (length (k.token ∷ other)) (k.same other) }
      turn_stops (Ok (None, after)) is i = cc
      turn_stops (Ok (Some x, after)) is i = longer_stops x after is (nat_lt (length after) (length ts)) refl i

    all_stops : (n : ℕ) (ts : Tokens) → length ts < n → (m : ℕ) → all item ts ≡ Err m → 0 < m → Stuck (all item) ts m
    all_stops zero ts less m e room = absurd (omega arith)
    all_stops (suc n) ts less m e room = turn_stops ts m room (λ us i. all_stops n us (omega arith)) (item ts) refl (sym (all-turn item ts) ∙ e)

    pub again : Ahead Same (all item)
    again = record { reads = λ ts. all_reads (suc (length ts)) ts (omega arith); stops = λ ts. all_stops (suc (length ts)) ts (omega arith) }

    pub again_clear : Clear Same (all item)
    again_clear t ts e other = turn_clear t ts other (λ us i. all_stops (suc (length us)) us (omega arith)) (item (t ∷ ts)) refl (sym (all-turn item (t ∷ ts)) ∙ e)
