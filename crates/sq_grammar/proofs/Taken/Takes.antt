-- The result of a parser on the tokens that spell a tree. It takes the tree, or it stops at the first bracket that is one too many. So
-- every text of the grammar is taken unless it is too deep, and no two trees have one list of tokens.
use Rattle.std.proofs.Common.{◌≡◌, ℕ, zero, suc, ◌+◌, ◌<◌, ◌≤◌, max, Bool, true, false, cond, List, [], ◌∷◌, ◌++◌, length, map, Option, Some, None, Ok, Err, nat_lt, nat_eq, refl, sym, ◌∙◌, ap, subst, arith, append_assoc, length-append}
use Rattle.std.specs.List.{fold, flat_map}
use Rattle.std.proofs.lemmas.List.Sums.{fold-append}
use Rattle.std.proofs.lemmas.Bool.{ltb-true, ltb-false, eq-eqb}
use Rattle.std.proofs.Math.Dec.{eqb-suc-zero}
use Rattle.sq_lex.specs.declared.lexeme.Lexeme.{Lexeme}
use Rattle.sq_lex.specs.declared.lexeme.Lexeme.TheVariants as lexeme
use Rattle.sq_lex.specs.declared.symbol.Symbol.{Symbol}
use Rattle.sq_lex.specs.declared.symbol.Symbol.TheVariants as symbol
use Rattle.sq_lex.specs.declared.word.Word.{Word}
use Rattle.sq_lex.specs.declared.name.Name.{Name}
use Rattle.sq_lex.specs.declared.number.Number.{Number}
use Rattle.sq_lex.specs.Word.{rank}
use Rattle.sq_tree.specs.Tree.{optional, if_written}
use Rattle.sq_tree.proofs.TreeDepth.{optional_depth, greatest}
use Rattle.sq_tree.specs.List.{comma_tokens, comma_then}
use Rattle.sq_tree.proofs.ListDepth.{comma_depth}
use Rattle.sq_tree.specs.declared.list.CommaList.{CommaList}
use Rattle.sq_lex.specs.Symbol.{symbol_rank}
use Rattle.sq_grammar.specs.Reading.{Tokens, Outcome, Parser, ◌>>=◌, and_then, pure, stuck, eat, expect, opening_bracket, sees, rest, one_of, one_if_any, first_of, taken, taken_if_any, name_of, number_of, name, number, behind, comma, comma_separated, all}
use Rattle.sq_tree.specs.Brackets.{open_after}
use Rattle.sq_grammar.proofs.Reading.Many.{all-none, all-err, all-some}

-- From `a` open brackets more to `b` more, whatever is open besides.
pub record Moves (ts : Tokens) (a b : ℕ) : Type 0 where
  pub steps : (k : ℕ) → fold open_after (k + a) ts ≡ k + b

-- It stops at an opening bracket before which `left` more are open.
pub record Deep {A : Type 0} (r : Outcome A) (ts : Tokens) (a left : ℕ) : Type 0 where
  pub before : Tokens
  pub after : Tokens
  pub is : ts ≡ before ++ lexeme.Symbol symbol.Open ∷ after
  pub open_before : Moves before a left
  pub stops : r ≡ Err (length (lexeme.Symbol symbol.Open ∷ after))

-- On `text` and the rest the parser takes x, which is d deep, where `left` brackets may be open; `a` of them are open at its start and `b` at its end.
pub record Takes {A : Type 0} (p : Parser A) (text : Tokens) (a b d left : ℕ) (x : A) (rest : Tokens) : Type 0 where
  pub moves : d ≤ left → Moves text a b
  pub taken : d ≤ left → p (text ++ rest) ≡ Ok (x, rest)
  pub deep : left < d → Deep (p (text ++ rest)) (text ++ rest) a left

moves-nil : (a : ℕ) → Moves [] a a
moves-nil a = record { steps = λ k. refl }

moves-append : {s t : Tokens} {a b c : ℕ} → Moves s a b → Moves t b c → Moves (s ++ t) a c
moves-append {s = s} {t = t} {a = a} m n = record { steps = λ k. fold-append open_after (k + a) s t ∙ ap (λ o. fold open_after o t) (m.steps k) ∙ n.steps k }

moves-raised : {ts : Tokens} {a b : ℕ} → Moves ts a b → Moves ts (suc a) (suc b)
moves-raised {ts = ts} {a = a} {b = b} m = record { steps = λ k. ap (λ n. fold open_after n ts) (omega arith) ∙ m.steps (suc k) ∙ omega arith }

-- a token that is no bracket
moves-still : (t : Lexeme) → ((n : ℕ) → open_after n t ≡ n) → {ts : Tokens} {a b : ℕ} → Moves ts a b → Moves (t ∷ ts) a b
moves-still t still {ts = ts} {a = a} m = record { steps = λ k. ap (λ n. fold open_after n ts) (still (k + a)) ∙ m.steps k }

moves-open : {ts : Tokens} {a b : ℕ} → Moves ts (suc a) b → Moves (lexeme.Symbol symbol.Open ∷ ts) a b
moves-open {ts = ts} m = record { steps = λ k. ap (λ n. fold open_after n ts) (omega arith) ∙ m.steps k }

moves-close : {ts : Tokens} {a b : ℕ} → Moves ts a b → Moves (lexeme.Symbol symbol.Close ∷ ts) (suc a) b
moves-close {ts = ts} m = record { steps = λ k. ap (λ n. fold open_after n ts) (omega arith) ∙ m.steps k }

-- ---- one step after another

module _ {A : Type 0} where
  -- nothing is read
  pub done : {a left : ℕ} {x : A} {rest : Tokens} → Takes (pure x) [] a a 0 left x rest
  done {a = a} = record { moves = λ h. moves-nil a; taken = λ h. refl; deep = λ h. absurd (omega arith) }

  -- another number may stand for the depth, if it compares with `left` as the first does
  pub fits : {p : Parser A} {text : Tokens} {a b d e left : ℕ} {x : A} {rest : Tokens} → (e ≤ left → d ≤ left) → (left < e → left < d) → Takes p text a b d left x rest → Takes p text a b e left x rest
  fits f g t = record { moves = λ h. t.moves (f h); taken = λ h. t.taken (f h); deep = λ h. t.deep (g h) }

  -- behind a bracket one more is open, and one more could be
  pub lifted : {p : Parser A} {text : Tokens} {a b d left : ℕ} {x : A} {rest : Tokens} → Takes p text a b d left x rest → Takes p text (suc a) (suc b) (suc d) (suc left) x rest
  lifted t = record {
    moves = λ h. moves-raised (t.moves (omega arith));
    taken = λ h. t.taken (omega arith);
    deep = λ h. let s = t.deep (omega arith) in record { before = s.before; after = s.after; is = s.is; open_before = moves-raised s.open_before; stops = s.stops };
  }

-- the stop of a part of the tokens
deep-behind : {A : Type 0} {r : Outcome A} {tx ts : Tokens} {a b left : ℕ} → Moves tx a b → Deep r ts b left → Deep r (tx ++ ts) a left
deep-behind {r = r} {tx = tx} {a = a} {left = left} m s = record {
  before = tx ++ s.before;
  after = s.after;
  is = ap (λ us. tx ++ us) s.is ∙ sym (append_assoc tx s.before (lexeme.Symbol symbol.Open ∷ s.after));
  open_before = moves-append m s.open_before;
  stops = s.stops;
}

deep-then : {A B : Type 0} (r : Outcome A) (f : A → Parser B) {ts : Tokens} {a left : ℕ} → Deep r ts a left → Deep (and_then r f) ts a left
deep-then r f s = record { before = s.before; after = s.after; is = s.is; open_before = s.open_before; stops = ap (λ o. and_then o f) s.stops }

module _ {A B : Type 0} where
  -- one part, and then the others
  pub andthen : (p : Parser A) (f : A → Parser B) (x : A) {tx more : Tokens} {a b c d e left : ℕ} {y : B} {rest : Tokens} → Takes p tx a b d left x (more ++ rest) → Takes (f x) more b c e left y rest → Takes (p >>= f) (tx ++ more) a c (max d e) left y rest
  andthen p f x {tx = tx} {more = more} {a = a} {b = b} {c = c} {d = d} {e = e} {left = left} {y = y} {rest = rest} s t =
      let same : tx ++ (more ++ rest) ≡ (tx ++ more) ++ rest = sym (append_assoc tx more rest) in
      record {
        moves = λ h. moves-append (s.moves (omega arith)) (t.moves (omega arith));
        taken = λ h. subst (λ ts. and_then (p ts) f ≡ Ok (y, rest)) same (ap (λ r. and_then r f) (s.taken (omega arith)) ∙ t.taken (omega arith));
        deep = λ h. subst (λ ts. Deep (and_then (p ts) f) ts a left) same (by h (nat_lt left d) refl);
      }
    where
      by : left < max d e → (deeper : Bool) → nat_lt left d ≡ deeper → Deep (and_then (p (tx ++ (more ++ rest))) f) (tx ++ (more ++ rest)) a left
      by h true is = deep-then _ f (s.deep (ltb-true _ _ is))
      by h false is =
          let room : d ≤ left = ltb-false _ _ is in
          let read : f x (more ++ rest) ≡ and_then (p (tx ++ (more ++ rest))) f = ap (λ r. and_then r f) (sym (s.taken room)) in
          subst (λ r. Deep r (tx ++ (more ++ rest)) a left) read (deep-behind (s.moves room) (t.deep (omega arith)))

  -- one part after another, where the first has no depth
  pub plainly : (p : Parser A) (f : A → Parser B) (x : A) {tx more : Tokens} {a b c e left : ℕ} {y : B} {rest : Tokens} → Takes p tx a b 0 left x (more ++ rest) → Takes (f x) more b c e left y rest → Takes (p >>= f) (tx ++ more) a c e left y rest
  plainly p f x s t = fits (λ h. omega arith) (λ h. omega arith) (andthen p f x s t)

  -- a first part behind which nothing more is read
  pub mapped : (p : Parser A) (f : A → Parser B) (x : A) {tx : Tokens} {a b d left : ℕ} {y : B} {rest : Tokens} → Takes p tx a b d left x rest → f x ≡ pure y → Takes (p >>= f) tx a b d left y rest
  mapped p f x {tx = tx} {a = a} {left = left} {y = y} {rest = rest} s e = record {
    moves = s.moves;
    taken = λ h. ap (λ r. and_then r f) (s.taken h) ∙ ap (λ g. g rest) e;
    deep = λ h. deep-then _ f (s.deep h);
  }

-- the tokens may be written in another way
pub respelled : {A : Type 0} {p : Parser A} {t u : Tokens} {a b d left : ℕ} {x : A} {rest : Tokens} → t ≡ u → Takes p t a b d left x rest → Takes p u a b d left x rest
respelled {p = p} {a = a} {b = b} {d = d} {left = left} {x = x} {rest = rest} e s = subst (λ ts. Takes p ts a b d left x rest) e s

-- two parsers that answer alike take the same tokens
pub alike : {A : Type 0} {p q : Parser A} {text : Tokens} {a b d left : ℕ} {y : A} {rest : Tokens} → p (text ++ rest) ≡ q (text ++ rest) → Takes q text a b d left y rest → Takes p text a b d left y rest
alike {text = text} {a = a} {left = left} {rest = rest} e s = record {
  moves = s.moves;
  taken = λ h. e ∙ s.taken h;
  deep = λ h. subst (λ r. Deep r (text ++ rest) a left) (sym e) (s.deep h);
}

-- a token before the others, which is read by itself
ahead : {A : Type 0} {p q : Parser A} {t : Lexeme} {more : Tokens} {a b c d left : ℕ} {y : A} {rest : Tokens} → Moves (t ∷ []) a b → p (t ∷ (more ++ rest)) ≡ q (more ++ rest) → Takes q more b c d left y rest → Takes p (t ∷ more) a c d left y rest
ahead {t = t} {more = more} {a = a} {left = left} {rest = rest} m e s = record {
  moves = λ h. moves-append m (s.moves h);
  taken = λ h. e ∙ s.taken h;
  deep = λ h. subst (λ r. Deep r (t ∷ (more ++ rest)) a left) (sym e) (deep-behind m (s.deep h));
}

-- ---- words and symbols

-- A word or symbol is seen where it comes, and moves the number of open brackets from a to b.
pub record Token (t : Lexeme) (a b : ℕ) : Type 0 where
  pub seen : (ts : Tokens) → sees t (t ∷ ts) ≡ true
  pub moves : Moves (t ∷ []) a b

still : (t : Lexeme) (a : ℕ) → ((n : ℕ) → open_after n t ≡ n) → Moves (t ∷ []) a a
still t a h = record { steps = λ k. h (k + a) }

symbol-seen : (s : Symbol) (ts : Tokens) → sees (lexeme.Symbol s) (lexeme.Symbol s ∷ ts) ≡ true
symbol-seen s ts = eq-eqb (symbol_rank s) (symbol_rank s) refl

pub word : (w : Word) {a : ℕ} → Token (lexeme.Word w) a a
word w {a = a} = record { seen = λ ts. eq-eqb (rank w) (rank w) refl; moves = still (lexeme.Word w) a (λ n. refl) }

-- a symbol that is no bracket
pub mark : (s : Symbol) {a : ℕ} → ((n : ℕ) → open_after n (lexeme.Symbol s) ≡ n) → Token (lexeme.Symbol s) a a
mark s {a = a} h = record { seen = symbol-seen s; moves = still (lexeme.Symbol s) a h }

pub opening : {a : ℕ} → Token (lexeme.Symbol symbol.Open) a (suc a)
opening {a = a} = record { seen = symbol-seen symbol.Open; moves = record { steps = λ k. omega arith } }

pub closing : {a : ℕ} → Token (lexeme.Symbol symbol.Close) (suc a) a
closing {a = a} = record { seen = symbol-seen symbol.Close; moves = record { steps = λ k. omega arith } }

chosen : {A : Type 0} (b c : Bool) (x y : A) → b ≡ c → cond b x y ≡ cond c x y
chosen b c x y e = ap (λ z. cond z x y) e

-- one that may come, and does not
pub uneaten : {A : Type 0} (t : Lexeme) (f : Bool → Parser A) {text : Tokens} {a b d left : ℕ} {y : A} {rest : Tokens} → sees t (text ++ rest) ≡ false → Takes (f false) text a b d left y rest → Takes (eat t >>= f) text a b d left y rest
unfolding eat
uneaten t f none s = alike (ap (λ r. and_then r f) (chosen _ _ _ _ none)) s

module _ {A : Type 0} {t : Lexeme} where
  -- a word or symbol that has to come
  pub expected : {a b : ℕ} → Token t a b → (f : Unit {0} → Parser A) {more : Tokens} {c d left : ℕ} {y : A} {rest : Tokens} → Takes (f tt) more b c d left y rest → Takes (expect t >>= f) (t ∷ more) a c d left y rest
  unfolding expect
  expected token f {more = more} {rest = rest} s = ahead token.moves (ap (λ r. and_then r f) (chosen _ _ _ _ (token.seen (more ++ rest)))) s

  -- one that may come, and does
  pub eaten : {a b : ℕ} → Token t a b → (f : Bool → Parser A) {more : Tokens} {c d left : ℕ} {y : A} {rest : Tokens} → Takes (f true) more b c d left y rest → Takes (eat t >>= f) (t ∷ more) a c d left y rest
  unfolding eat
  eaten token f {more = more} {rest = rest} s = ahead token.moves (ap (λ r. and_then r f) (chosen _ _ _ _ (token.seen (more ++ rest)))) s

  -- one that may come, by whether it is written
  pub either : {a : ℕ} → Token t a a → (written : Bool) (f : Bool → Parser A) {more : Tokens} {c d left : ℕ} {y : A} {rest : Tokens} → sees t (more ++ rest) ≡ false → Takes (f written) more a c d left y rest → Takes (eat t >>= f) (if_written written (t ∷ []) ++ more) a c d left y rest
  either token true f none s = eaten token f s
  either token false f none s = uneaten _ f none s

module _ {A : Type 0} {t : Lexeme} where
  -- what stands behind one, where it comes
  pub behind_it : {a b : ℕ} → Token t a b → (p : Parser A) {more : Tokens} {c d left : ℕ} {x : A} {rest : Tokens} → Takes p more b c d left x rest → Takes (behind t p) (t ∷ more) a c d left (Some x) rest
  behind_it token p {x = x} s = eaten token _ (mapped p (λ y. pure (Some y)) x s refl)

  pub perhaps : {a b : ℕ} → Token t a b → (p : Parser A) (tx : A → Tokens) (depth : A → ℕ) (o : Option A) {left : ℕ} {rest : Tokens} → ((x : A) → Takes p (tx x) b a (depth x) left x rest) → sees t rest ≡ false → Takes (behind t p) (optional (λ x. t ∷ tx x) o) a a (optional_depth depth o) left o rest
  perhaps token p tx depth None each none = uneaten _ _ none done
  perhaps token p tx depth (Some x) each none = behind_it token p (each x)

-- ---- tokens of which there are many

module _ {A : Type 0} (of : Lexeme → Option A) where
  pub one : (t : Lexeme) (x : A) → of t ≡ Some x → ((n : ℕ) → open_after n t ≡ n) → {a left : ℕ} {rest : Tokens} → Takes (one_of of) (t ∷ []) a a 0 left x rest
  unfolding one_of
  one t x e h {a = a} {rest = rs} = ahead (still t a h) (ap (λ o. taken o (t ∷ rs)) e) done

module _ {A B : Type 0} (of : Lexeme → Option A) where
  -- one that has to come
  pub picked : (t : Lexeme) (x : A) → of t ≡ Some x → ((n : ℕ) → open_after n t ≡ n) → (f : A → Parser B) {more : Tokens} {a c d left : ℕ} {y : B} {rest : Tokens} → Takes (f x) more a c d left y rest → Takes (one_of of >>= f) (t ∷ more) a c d left y rest
  unfolding one_of
  picked t x e h f {more = more} {a = a} {rest = rs} s = ahead (still t a h) (ap (λ o. and_then (taken o (t ∷ (more ++ rs))) f) e) s

  -- one that may come, and does
  pub met : (t : Lexeme) (x : A) → of t ≡ Some x → ((n : ℕ) → open_after n t ≡ n) → (f : Option A → Parser B) {more : Tokens} {a c d left : ℕ} {y : B} {rest : Tokens} → Takes (f (Some x)) more a c d left y rest → Takes (one_if_any of >>= f) (t ∷ more) a c d left y rest
  unfolding one_if_any
  met t x e h f {more = more} {a = a} {rest = rs} s = ahead (still t a h) (ap (λ o. and_then (taken_if_any o (t ∷ (more ++ rs))) f) e) s

  -- one that may come, and does not
  pub unmet : (f : Option A → Parser B) {text : Tokens} {a c d left : ℕ} {y : B} {rest : Tokens} → first_of of (text ++ rest) ≡ None → Takes (f None) text a c d left y rest → Takes (one_if_any of >>= f) text a c d left y rest
  unfolding one_if_any
  unmet f {text = text} {rest = rs} none s = alike (ap (λ o. and_then (taken_if_any o (text ++ rs)) f) none) s

pub a_name : (n : Name) {a left : ℕ} {rest : Tokens} → Takes name (lexeme.Name n ∷ []) a a 0 left n rest
a_name n = one name_of (lexeme.Name n) n refl (λ k. refl)

pub named : {A : Type 0} (n : Name) (f : Name → Parser A) {more : Tokens} {a c d left : ℕ} {y : A} {rest : Tokens} → Takes (f n) more a c d left y rest → Takes (name >>= f) (lexeme.Name n ∷ more) a c d left y rest
named n f s = picked name_of (lexeme.Name n) n refl (λ k. refl) f s

pub numbered : {A : Type 0} (n : Number) (f : Number → Parser A) {more : Tokens} {a c d left : ℕ} {y : A} {rest : Tokens} → Takes (f n) more a c d left y rest → Takes (number >>= f) (lexeme.Number n ∷ more) a c d left y rest
numbered n f s = picked number_of (lexeme.Number n) n refl (λ k. refl) f s

-- ---- a bracket that may be one too many

pub openly : {A : Type 0} {left : ℕ} (f : Unit {0} → Parser A) {more : Tokens} {b d : ℕ} {y : A} {rest : Tokens} → 0 < d → (0 < left → Takes (f tt) more 1 b d left y rest) → Takes (opening_bracket left >>= f) (lexeme.Symbol symbol.Open ∷ more) 0 b d left y rest
unfolding opening_bracket
openly {left = zero} f {more = more} {rest = rs} h s = record {
  moves = λ i. absurd (omega arith);
  taken = λ i. absurd (omega arith);
  deep = λ i. record { before = []; after = more ++ rs; is = refl; open_before = moves-nil 0; stops = refl };
}
openly {left = suc left} f {more = more} {rest = rs} h s =
    let some : nat_eq (suc left) 0 ≡ false = eqb-suc-zero left in
    alike (ap (λ c. and_then (cond c stuck (expect (lexeme.Symbol symbol.Open)) (lexeme.Symbol symbol.Open ∷ (more ++ rs))) f) some) (expected opening f (s (omega arith)))

-- ---- a choice by what comes next

pub seeing : {A : Type 0} (test : Tokens → Bool) (p q : Parser A) {text : Tokens} {a b d left : ℕ} {y : A} {rest : Tokens} → test (text ++ rest) ≡ true → Takes p text a b d left y rest → Takes (λ ts. (cond (test ts) p q) ts) text a b d left y rest
seeing test p q {text = text} {rest = rs} e s = alike (ap (λ b. cond b p q (text ++ rs)) e) s

pub unseeing : {A : Type 0} (test : Tokens → Bool) (p q : Parser A) {text : Tokens} {a b d left : ℕ} {y : A} {rest : Tokens} → test (text ++ rest) ≡ false → Takes q text a b d left y rest → Takes (λ ts. (cond (test ts) p q) ts) text a b d left y rest
unseeing test p q {text = text} {rest = rs} e s = alike (ap (λ b. cond b p q (text ++ rs)) e) s

-- ---- lists

module _ {A : Type 0} (item : Parser (Option A)) (tx : A → Tokens) (depth : A → ℕ) (a left : ℕ) (Follows : Tokens → Type 0)
    (each : (x : A) (rest : Tokens) → Follows rest → Takes item (tx x) a a (depth x) left (Some x) rest)
    (starts : (x : A) (rest : Tokens) → Follows (tx x ++ rest))
    (long : (x : A) → 0 < length (tx x)) where
  pub follows : (xs : List A) (rest : Tokens) → Follows rest → Follows (flat_map tx xs ++ rest)
  follows [] rest f = f
  follows (x ∷ xs) rest f = subst Follows (sym (append_assoc (tx x) (flat_map tx xs) rest)) (starts x (flat_map tx xs ++ rest))

  next : (x : A) (after : Tokens) → item (tx x ++ after) ≡ Ok (Some x, after) → all item (tx x ++ after) ≡ and_then (all item after) (λ ys. pure (x ∷ ys))
  next x after e = all-some item (tx x ++ after) x after e (omega (arith, long x, length-append (tx x) after))

  cons : (x : A) (xs : List A) (rest : Tokens) → Takes item (tx x) a a (depth x) left (Some x) (flat_map tx xs ++ rest) → Takes (all item) (flat_map tx xs) a a (greatest (map depth xs)) left xs rest → Takes (all item) (flat_map tx (x ∷ xs)) a a (greatest (map depth (x ∷ xs))) left (x ∷ xs) rest
  cons x xs rest s t =
      let after : Tokens = flat_map tx xs ++ rest in
      let same : tx x ++ after ≡ flat_map tx (x ∷ xs) ++ rest = sym (append_assoc (tx x) (flat_map tx xs) rest) in
      record {
        moves = λ h. moves-append (s.moves (omega arith)) (t.moves (omega arith));
        taken = λ h. subst (λ ts. all item ts ≡ Ok (x ∷ xs, rest)) same (next x after (s.taken (omega arith)) ∙ ap (λ r. and_then r (λ ys. pure (x ∷ ys))) (t.taken (omega arith)));
        deep = λ h. subst (λ ts. Deep (all item ts) ts a left) same (by h (nat_lt left (depth x)) refl);
      }
    where
      by : left < max (depth x) (greatest (map depth xs)) → (deeper : Bool) → nat_lt left (depth x) ≡ deeper → Deep (all item (tx x ++ (flat_map tx xs ++ rest))) (tx x ++ (flat_map tx xs ++ rest)) a left
      by h true is =
          let d = s.deep (ltb-true _ _ is) in
          record { before = d.before; after = d.after; is = d.is; open_before = d.open_before; stops = all-err item _ _ d.stops }
      by h false is =
          let room : depth x ≤ left = ltb-false _ _ is in
          let read = next x (flat_map tx xs ++ rest) (s.taken room) in
          subst (λ r. Deep r (tx x ++ (flat_map tx xs ++ rest)) a left) (sym read) (deep-behind (s.moves room) (deep-then _ (λ ys. pure (x ∷ ys)) (t.deep (omega arith))))

  -- items again and again, until none comes
  pub rows : (xs : List A) (rest : Tokens) → Follows rest → item rest ≡ Ok (None, rest) → Takes (all item) (flat_map tx xs) a a (greatest (map depth xs)) left xs rest
  rows [] rest f none = alike (all-none item rest rest none) done
  rows (x ∷ xs) rest f none = cons x xs rest (each x (flat_map tx xs ++ rest) (follows xs rest f)) (rows xs rest f none)

a_comma : {a : ℕ} → Token comma a a
a_comma = mark symbol.Comma (λ n. refl)

-- what a word or symbol begins, where it does not come
pub none_behind : {A : Type 0} (t : Lexeme) (p : Parser A) (rest : Tokens) → sees t rest ≡ false → behind t p rest ≡ Ok (None, rest)
none_behind {A = A} t p rest none =
    let s : Takes (behind t p) [] 0 0 0 0 None rest = uneaten t _ none done in
    s.taken (omega arith)

-- one item or more, with commas between
module _ {A : Type 0} (item : Parser A) (tx : A → Tokens) (depth : A → ℕ) (a left : ℕ) (Follows : Tokens → Type 0)
    (each : (x : A) (rest : Tokens) → Follows rest → Takes item (tx x) a a (depth x) left x rest)
    (starts : (rest : Tokens) → Follows (comma ∷ rest)) where
  behind_comma : (x : A) (rest : Tokens) → Follows rest → Takes (behind comma item) (comma_then tx x) a a (depth x) left (Some x) rest
  behind_comma x rest f = behind_it a_comma item (each x rest f)

  comma_starts : (x : A) (rest : Tokens) → Follows (comma_then tx x ++ rest)
  comma_starts x rest = starts (tx x ++ rest)

  comma_long : (x : A) → 0 < length (comma_then tx x)
  comma_long x = omega arith

  pub commas : (list : CommaList A) (rest : Tokens) → Follows rest → sees comma rest ≡ false → Takes (comma_separated item) (comma_tokens tx list) a a (comma_depth depth list) left list rest
  commas list rest f none =
      let first = each list.first (flat_map (comma_then tx) list.rest ++ rest) (follows (behind comma item) (comma_then tx) depth a left Follows behind_comma comma_starts comma_long list.rest rest f) in
      let others = rows (behind comma item) (comma_then tx) depth a left Follows behind_comma comma_starts comma_long list.rest rest f (none_behind comma item rest none) in
      andthen item _ list.first first (mapped (all (behind comma item)) _ list.rest others refl)

-- items of no depth
zeros : {A : Type 0} (xs : List A) → greatest (map (λ _. 0) xs) ≡ 0
zeros [] = refl
zeros (x ∷ xs) = let h = zeros xs in omega arith

pub no_depth : {A : Type 0} (list : CommaList A) → comma_depth (λ _. 0) list ≡ 0
no_depth list = let h = zeros list.rest in omega arith

module _ {A : Type 0} (item : Parser A) (tx : A → Tokens) (a left : ℕ) (Follows : Tokens → Type 0)
    (each : (x : A) (rest : Tokens) → Follows rest → Takes item (tx x) a a 0 left x rest)
    (starts : (rest : Tokens) → Follows (comma ∷ rest)) where
  pub flat_commas : (list : CommaList A) (rest : Tokens) → Follows rest → sees comma rest ≡ false → Takes (comma_separated item) (comma_tokens tx list) a a 0 left list rest
  flat_commas list rest f none = let z = no_depth list in fits (λ h. omega arith) (λ h. omega arith) (commas item tx (λ _. 0) a left Follows each starts list rest f none)

-- items that are each one deeper are together one deeper
deeper_all : {A : Type 0} (depth : A → ℕ) (n : ℕ) (xs : List A) → max (suc n) (greatest (map (λ x. suc (depth x)) xs)) ≡ suc (max n (greatest (map depth xs)))
deeper_all depth n [] = omega arith
deeper_all depth n (x ∷ xs) = let h = deeper_all depth n xs in omega arith

pub deeper_commas : {A : Type 0} (depth : A → ℕ) (list : CommaList A) → comma_depth (λ x. suc (depth x)) list ≡ suc (comma_depth depth list)
deeper_commas depth list = deeper_all depth (depth list.first) list.rest
