-- The tree that a parser has read is spelled by the tokens that it took, and opens no more brackets at once than it may.
use Rattle.std.proofs.Common.{◌≡◌, ℕ, zero, suc, ◌+◌, ◌-◌, ◌<◌, ◌≤◌, max, Bool, true, false, cond, List, [], ◌∷◌, ◌++◌, length, map, Option, Some, None, Result, Ok, Err, nat_lt, nat_eq, refl, sym, ◌∙◌, ap, subst, arith, append_assoc, append-nil}
use Rattle.std.specs.List.{flat_map}
use Rattle.std.specs.Prelude.{◌⊎◌}
use Rattle.std.proofs.Common.{inl, inr}
use Rattle.sq_lex.specs.declared.lexeme.Lexeme.{Lexeme}
use Rattle.sq_lex.specs.declared.lexeme.Lexeme.TheVariants as lexeme
use Rattle.sq_lex.specs.declared.symbol.Symbol.TheVariants as symbol
use Rattle.sq_lex.specs.declared.name.Name.{Name}
use Rattle.sq_lex.specs.declared.number.Number.{Number}
use Rattle.sq_tree.specs.Tree.{optional, if_written}
use Rattle.sq_tree.proofs.TreeDepth.{optional_depth, greatest}
use Rattle.sq_tree.specs.List.{comma_tokens, comma_then}
use Rattle.sq_tree.proofs.ListDepth.{comma_depth}
use Rattle.sq_tree.specs.Names.{name_tokens}
use Rattle.sq_tree.specs.declared.expr.Expr.{Expr}
use Rattle.sq_tree.specs.Expr.{expr_tokens}
use Rattle.sq_grammar.specs.declared.cond_or_expr.CondOrExpr.{CondOrExpr}
use Rattle.sq_grammar.specs.declared.cond_or_expr.CondOrExpr.TheVariants as came
use Rattle.std.proofs.lemmas.Bool.{eqb-false}
use Rattle.sq_grammar.specs.Reading.{Tokens, Outcome, Parser, ◌>>=◌, and_then, pure, stuck, eat, expect, opening_bracket, sees, rest, one_of, one_if_any, first_of, taken, taken_if_any, name_of, number_of, text_of, name, number, behind, comma, comma_separated, all, many, turn, with_front, end_of, whole}
use Rattle.sq_grammar.proofs.Reading.Ranks.{is_token-is}

-- text stands before the rest, with d for its depth
pub record Spells (ts text : Tokens) (d left : ℕ) (rest : Tokens) : Type 0 where
  pub text_is : ts ≡ text ++ rest
  pub shallow : d ≤ left

-- what the parser reads is spelled by `text` of it
pub record Sound {A : Type 0} (p : Parser A) (text : A → Tokens) (depth : A → ℕ) (left : ℕ) : Type 0 where
  pub spells : (ts : Tokens) (x : A) (rest : Tokens) → p ts ≡ Ok (x, rest) → Spells ts (text x) (depth x) left rest

-- what a parser reads behind `done`, which is read already and d deep, is spelled together with it by `text`
pub record After {A : Type 0} (done : Tokens) (d left : ℕ) (p : Parser A) (text : A → Tokens) (depth : A → ℕ) : Type 0 where
  pub spells : (ts : Tokens) (x : A) (rest : Tokens) → d ≤ left → p ts ≡ Ok (x, rest) → Spells (done ++ ts) (text x) (depth x) left rest

bind_ok : {A B : Type 0} (r : Outcome A) (f : A → Parser B) (y : B) (rest : Tokens) → and_then r f ≡ Ok (y, rest) → (x : A) × (after : Tokens) × (r ≡ Ok (x, after)) × (f x after ≡ Ok (y, rest))
bind_ok (Ok p) f y rest e = (p.0, p.1, refl, e)
bind_ok (Err n) f y rest e = cc

ok_is : {X : Type 0} (x y : X) → let a : Result X ℕ = Ok x in let b : Result X ℕ = Ok y in a ≡ b → x ≡ y
ok_is x y e = cc

-- the two parts of what was read
pub ok_pair : {X : Type 0} (x y : X) (r s : Tokens) → let a : Outcome X = Ok (x, r) in let b : Outcome X = Ok (y, s) in a ≡ b → (x ≡ y) × (r ≡ s)
ok_pair x y r s e = let p = ok_is (x, r) (y, s) e in (ap (λ q. q.0) p, ap (λ q. q.1) p)

-- a depth may be written in another way
pub as_deep : {A : Type 0} {p : Parser A} {text : A → Tokens} {depth deep : A → ℕ} {left : ℕ} → ((x : A) → deep x ≡ depth x) → Sound p text depth left → Sound p text deep left
as_deep {left = left} same s = record {
  spells = λ ts x rest e.
      let y = s.spells ts x rest e in
      record { text_is = y.text_is; shallow = subst (λ d. d ≤ left) (sym (same x)) y.shallow };
}

module _ {A : Type 0} {text : A → Tokens} {depth : A → ℕ} {left : ℕ} where
  -- from the start
  pub sound : {p : Parser A} → After [] 0 left p text depth → Sound p text depth left
  sound a = record { spells = λ ts x rest e. a.spells ts x rest (omega arith) e }

  -- the end, where the tree is put together
  pub built : (x : A) (done : Tokens) (d : ℕ) → text x ≡ done → (d ≤ left → depth x ≤ left) → After done d left (pure x) text depth
  built x done d is fits = record {
    spells = λ ts y rest h e.
        let p = ok_pair x y ts rest e in
        record {
          text_is = ap (λ ts'. ts' ++ ts) (sym is) ∙ ap (λ z. text z ++ ts) p.0 ∙ ap (λ r. text y ++ r) p.1;
          shallow = subst (λ z. depth z ≤ left) p.0 (fits h);
        };
  }

  -- nothing is read
  pub never : (done : Tokens) (d : ℕ) → After done d left stuck text depth
  never done d = record { spells = λ ts y rest h e. cc }

  -- one part, and then the others
  pub andthen : {B : Type 0} {part : B → Tokens} {deep : B → ℕ} (q : Parser B) (f : B → Parser A) {done : Tokens} {d : ℕ} → Sound q part deep left → ((x : B) → After (done ++ part x) (max d (deep x)) left (f x) text depth) → After done d left (q >>= f) text depth
  andthen {part = part} {deep = deep} q f {done = done} {d = d} s next = record {
    spells = λ ts y rest h e.
        let b = bind_ok (q ts) f y rest e in
        let here = s.spells ts b.0 b.1 b.2 in
        let i = here.shallow in
        let r = (next b.0).spells b.1 y rest (omega arith) b.3 in
        record {
          text_is = ap (λ us. done ++ us) here.text_is ∙ sym (append_assoc done (part b.0) b.1) ∙ r.text_is;
          shallow = r.shallow;
        };
  }

chosen : {A : Type 0} (b : Bool) (x y z : A) → cond b x y ≡ z → ((b ≡ true) × (x ≡ z)) ⊎ ((b ≡ false) × (y ≡ z))
chosen true x y z e = inl (refl, e)
chosen false x y z e = inr (refl, e)

seen : (token : Lexeme) (ts : Tokens) → sees token ts ≡ true → ts ≡ token ∷ rest ts
seen token [] e = cc
seen token (t ∷ ts) e = ap (λ u. u ∷ ts) (is_token-is token t e)

-- a word or a symbol that has to come
pub expects : (token : Lexeme) (left : ℕ) → Sound (expect token) (λ _. token ∷ []) (λ _. 0) left
unfolding expect
expects token left = record {
  spells = λ ts x after e. by ts x after (chosen (sees token ts) _ _ _ e);
}
  where
    by : (ts : Tokens) (x : Unit {0}) (after : Tokens) → ((sees token ts ≡ true) × (let r : Outcome (Unit {0}) = Ok (tt, rest ts) in r ≡ Ok (x, after))) ⊎ ((sees token ts ≡ false) × (let r : Outcome (Unit {0}) = Err (length ts) in r ≡ Ok (x, after))) → Spells ts (token ∷ []) 0 left after
    by ts x after (inl h) = record { text_is = seen token ts h.0 ∙ ap (λ r. token ∷ r) (ok_pair tt x (rest ts) after h.1).1; shallow = omega arith }
    by ts x after (inr h) = cc

-- a word or a symbol that may come
pub eats : (token : Lexeme) (left : ℕ) → Sound (eat token) (λ found. if_written found (token ∷ [])) (λ _. 0) left
unfolding eat
eats token left = record {
  spells = λ ts x after e. by ts x after (chosen (sees token ts) _ _ _ e);
}
  where
    by : (ts : Tokens) (x : Bool) (after : Tokens) → ((sees token ts ≡ true) × (let r : Outcome Bool = Ok (true, rest ts) in r ≡ Ok (x, after))) ⊎ ((sees token ts ≡ false) × (let r : Outcome Bool = Ok (false, ts) in r ≡ Ok (x, after))) → Spells ts (if_written x (token ∷ [])) 0 left after
    by ts x after (inl h) =
        let p = ok_pair true x (rest ts) after h.1 in
        record { text_is = subst (λ b. ts ≡ if_written b (token ∷ []) ++ after) p.0 (seen token ts h.0 ∙ ap (λ r. token ∷ r) p.1); shallow = omega arith }
    by ts x after (inr h) =
        let p = ok_pair false x ts after h.1 in
        record { text_is = subst (λ b. ts ≡ if_written b (token ∷ []) ++ after) p.0 p.1; shallow = omega arith }

-- an opening bracket
pub opens : (n left : ℕ) → Sound (opening_bracket n) (λ _. lexeme.Symbol symbol.Open ∷ []) (λ _. 0) left
unfolding opening_bracket
opens n left = by (nat_eq n 0)
  where
    by : (none : Bool) → Sound (cond none stuck (expect (lexeme.Symbol symbol.Open))) (λ _. lexeme.Symbol symbol.Open ∷ []) (λ _. 0) left
    by true = record { spells = λ ts x after e. cc }
    by false = expects (lexeme.Symbol symbol.Open) left

-- tokens of which there are many
module _ {A : Type 0} (of : Lexeme → Option A) (token : A → Lexeme) (is : (t : Lexeme) (x : A) → of t ≡ Some x → t ≡ token x) where
  first_is : (ts : Tokens) (x : A) → first_of of ts ≡ Some x → ts ≡ token x ∷ rest ts
  first_is [] x e = cc
  first_is (t ∷ ts) x e = ap (λ u. u ∷ ts) (is t x e)

  pub one : (left : ℕ) → Sound (one_of of) (λ x. token x ∷ []) (λ _. 0) left
  unfolding one_of
  one left = record { spells = λ ts x after e. by ts x after (first_of of ts) refl e }
    where
      by : (ts : Tokens) (x : A) (after : Tokens) (o : Option A) → first_of of ts ≡ o → taken o ts ≡ Ok (x, after) → Spells ts (token x ∷ []) 0 left after
      by ts x after None h e = cc
      by ts x after (Some y) h e =
          let p = ok_pair y x (rest ts) after e in
          record { text_is = subst (λ z. ts ≡ token z ∷ after) p.0 (first_is ts y h ∙ ap (λ r. token y ∷ r) p.1); shallow = omega arith }

  pub one_maybe : (left : ℕ) → Sound (one_if_any of) (optional (λ x. token x ∷ [])) (λ _. 0) left
  unfolding one_if_any
  one_maybe left = record { spells = λ ts x after e. by ts x after (first_of of ts) refl e }
    where
      by : (ts : Tokens) (x : Option A) (after : Tokens) (o : Option A) → first_of of ts ≡ o → taken_if_any o ts ≡ Ok (x, after) → Spells ts (optional (λ y. token y ∷ []) x) 0 left after
      by ts x after None h e =
          let p = ok_pair None x ts after e in
          record { text_is = subst (λ z. ts ≡ optional (λ y. token y ∷ []) z ++ after) p.0 p.1; shallow = omega arith }
      by ts x after (Some y) h e =
          let p = ok_pair (Some y) x (rest ts) after e in
          record { text_is = subst (λ z. ts ≡ optional (λ w. token w ∷ []) z ++ after) p.0 (first_is ts y h ∙ ap (λ r. token y ∷ r) p.1); shallow = omega arith }

pub some_is : {X : Type 0} (x y : X) → Some x ≡ Some y → x ≡ y
some_is x y e = cc

name_of-is : (t : Lexeme) (x : Name) → name_of t ≡ Some x → t ≡ lexeme.Name x
name_of-is (lexeme.Name n) x e = ap (λ y. lexeme.Name y) (some_is n x e)
name_of-is _ x e = cc

number_of-is : (t : Lexeme) (x : Number) → number_of t ≡ Some x → t ≡ lexeme.Number x
number_of-is (lexeme.Number n) x e = ap (λ y. lexeme.Number y) (some_is n x e)
number_of-is _ x e = cc

text_of-is : (t : Lexeme) (x : List ℕ) → text_of t ≡ Some x → t ≡ lexeme.Text x
text_of-is (lexeme.Text n) x e = ap (λ y. lexeme.Text y) (some_is n x e)
text_of-is _ x e = cc

pub names : (left : ℕ) → Sound name name_tokens (λ _. 0) left
names left = one name_of (λ n. lexeme.Name n) name_of-is left

pub a_name : (left : ℕ) → Sound (one_if_any name_of) (optional name_tokens) (λ _. 0) left
a_name left = one_maybe name_of (λ n. lexeme.Name n) name_of-is left

pub numbers : (left : ℕ) → Sound number (λ n. lexeme.Number n ∷ []) (λ _. 0) left
numbers left = one number_of (λ n. lexeme.Number n) number_of-is left

pub a_number : (left : ℕ) → Sound (one_if_any number_of) (optional (λ n. lexeme.Number n ∷ [])) (λ _. 0) left
a_number left = one_maybe number_of (λ n. lexeme.Number n) number_of-is left

pub a_text : (left : ℕ) → Sound (one_if_any text_of) (optional (λ n. lexeme.Text n ∷ [])) (λ _. 0) left
a_text left = one_maybe text_of (λ n. lexeme.Text n) text_of-is left

-- Lists: what each item spells, one after the other.
module _ {A : Type 0} (item : Parser (Option A)) (text : A → Tokens) (depth : A → ℕ) (left : ℕ) (each : Sound item (optional text) (optional_depth depth) left) where
  abbrev SpellsAll : Tokens → List A → Tokens → Type 0
  SpellsAll ts xs after = Spells ts (flat_map text xs) (greatest (map depth xs)) left after

  none-spells : (ts : Tokens) (xs : List A) (after : Tokens) → (let r : Outcome (List A) = Ok ([], ts) in r ≡ Ok (xs, after)) → SpellsAll ts xs after
  none-spells ts xs after e =
      let here : SpellsAll ts [] ts = record { text_is = refl; shallow = omega arith } in
      let p = ok_pair [] xs ts after e in
      subst (λ ys. SpellsAll ts ys after) p.0 (subst (λ r. SpellsAll ts [] r) p.1 here)

  front_ok : (x : A) (r : Outcome (List A)) (xs : List A) (after : Tokens) → with_front (x ∷ []) r ≡ Ok (xs, after) → (ys : List A) × (r ≡ Ok (ys, after)) × (xs ≡ x ∷ ys)
  front_ok x (Ok y) xs after e = let p = ok_pair (x ∷ y.0) xs y.1 after e in (y.0, ap (λ r. Ok (y.0, r)) p.1, sym p.0)
  front_ok x (Err n) xs after e = cc

  cons-spells : (ts : Tokens) (x : A) (ys : List A) (mid after : Tokens) → Spells ts (text x) (depth x) left mid → SpellsAll mid ys after → SpellsAll ts (x ∷ ys) after
  cons-spells ts x ys mid after p q =
      let h = p.shallow in
      let i = q.shallow in
      record { text_is = p.text_is ∙ ap (λ r. text x ++ r) q.text_is ∙ sym (append_assoc (text x) (flat_map text ys) after); shallow = omega arith }

  turn-spells : (ts : Tokens) (go : Parser (List A)) → ((mid : Tokens) (xs : List A) (after : Tokens) → go mid ≡ Ok (xs, after) → SpellsAll mid xs after) → (r : Outcome (Option A)) → item ts ≡ r → (xs : List A) (after : Tokens) → turn ts go r ≡ Ok (xs, after) → SpellsAll ts xs after
  turn-spells ts go ih (Err n) i xs after e = cc
  turn-spells ts go ih (Ok (None, mid)) i xs after e =
      let s = each.spells ts None mid i in
      none-spells ts xs after (ap (λ r. Ok ([], r)) s.text_is ∙ e)
  turn-spells ts go ih (Ok (Some x, mid)) i xs after e = by (chosen (nat_lt (length mid) (length ts)) _ _ _ e)
    where
      by : ((nat_lt (length mid) (length ts) ≡ true) × (with_front (x ∷ []) (go mid) ≡ Ok (xs, after))) ⊎ ((nat_lt (length mid) (length ts) ≡ false) × (let r : Outcome (List A) = Ok ([], ts) in r ≡ Ok (xs, after))) → SpellsAll ts xs after
      by (inl h) =
          let f = front_ok x (go mid) xs after h.1 in
          subst (λ ys. SpellsAll ts ys after) (sym f.2) (cons-spells ts x f.0 mid after (each.spells ts (Some x) mid i) (ih mid f.0 after f.1))
      by (inr h) = none-spells ts xs after h.1

  many-spells : (n : ℕ) (ts : Tokens) (xs : List A) (after : Tokens) → many n item ts ≡ Ok (xs, after) → SpellsAll ts xs after
  unfolding many
  many-spells zero ts xs after e = none-spells ts xs after e
  many-spells (suc n) ts xs after e = turn-spells ts (many n item) (many-spells n) (item ts) refl xs after e

  pub rows : Sound (all item) (flat_map text) (λ xs. greatest (map depth xs)) left
  unfolding all
  rows = record { spells = λ ts xs after e. many-spells (length ts + 1) ts xs after e }

-- what stands behind a word or symbol, if that comes
pub behinds : {A : Type 0} {text : A → Tokens} {depth : A → ℕ} (token : Lexeme) (p : Parser A) (left : ℕ) → Sound p text depth left → Sound (behind token p) (optional (λ x. token ∷ text x)) (optional_depth depth) left
behinds {A = A} {text = text} {depth = depth} token p left s = sound (andthen (eat token) _ (eats token left) by)
  where
    by : (found : Bool) → After (if_written found (token ∷ [])) (max 0 0) left (cond found (p >>= λ x. pure (Some x)) (pure None)) (optional (λ x. token ∷ text x)) (optional_depth depth)
    by true = andthen p _ s (λ x. built (Some x) (token ∷ text x) _ refl (λ h. omega arith))
    by false = built None [] _ refl (λ h. omega arith)

pub lists : {A : Type 0} {text : A → Tokens} {depth : A → ℕ} (item : Parser A) (left : ℕ) → Sound item text depth left → Sound (comma_separated item) (comma_tokens text) (comma_depth depth) left
lists {A = A} {text = text} {depth = depth} item left s =
    sound (andthen item _ s (λ first.
    andthen (all (behind comma item)) _ (rows (behind comma item) (comma_then text) depth left (behinds comma item left s)) (λ more.
    built (record { first = first; rest = more }) (text first ++ flat_map (comma_then text) more) _ refl (λ h. omega arith))))

-- a choice by a word or symbol that may come
pub eaten : {A : Type 0} {text : A → Tokens} {depth : A → ℕ} {left : ℕ} (token : Lexeme) (f : Bool → Parser A) {done : Tokens} {d : ℕ} → After (done ++ token ∷ []) d left (f true) text depth → After done d left (f false) text depth → After done d left (eat token >>= f) text depth
eaten {text = text} {depth = depth} {left = left} token f {done = done} {d = d} some none = andthen (eat token) f (eats token left) by
  where
    by : (found : Bool) → After (done ++ if_written found (token ∷ [])) (max d 0) left (f found) text depth
    by true = record { spells = λ ts x rest h e. some.spells ts x rest (omega arith) e }
    by false = record { spells = λ ts x rest h e. subst (λ us. Spells (us ++ ts) (text x) (depth x) left rest) (sym (append-nil done)) (none.spells ts x rest (omega arith) e) }

-- a word or symbol that has to come, and then the others
pub expected : {A : Type 0} {text : A → Tokens} {depth : A → ℕ} {left : ℕ} (token : Lexeme) (f : Unit {0} → Parser A) {done : Tokens} {d : ℕ} → After (done ++ token ∷ []) d left (f tt) text depth → After done d left (expect token >>= f) text depth
expected {left = left} token f {d = d} next = andthen (expect token) f (expects token left) (λ x. record { spells = λ ts y rest h e. next.spells ts y rest (omega arith) e })

-- an opening bracket, and then the others, which know that one may be opened
pub openly : {A : Type 0} {text : A → Tokens} {depth : A → ℕ} {left : ℕ} (n : ℕ) (f : Unit {0} → Parser A) {done : Tokens} {d : ℕ} → (0 < n → After (done ++ lexeme.Symbol symbol.Open ∷ []) d left (f tt) text depth) → After done d left (opening_bracket n >>= f) text depth
unfolding opening_bracket
openly {A = A} {text = text} {depth = depth} {left = left} n f {done = done} {d = d} next = record { spells = λ ts y rest h e. by (nat_eq n 0) refl ts y rest h e }
  where
    by : (none : Bool) → nat_eq n 0 ≡ none → (ts : Tokens) (y : A) (rest : Tokens) → d ≤ left → and_then (cond none stuck (expect (lexeme.Symbol symbol.Open)) ts) f ≡ Ok (y, rest) → Spells (done ++ ts) (text y) (depth y) left rest
    by true i ts y rest h e = cc
    by false i ts y rest h e =
        let p : n ≡ 0 → ⊥ = eqb-false n 0 i in
        let a : After done d left (expect (lexeme.Symbol symbol.Open) >>= f) text depth = expected (lexeme.Symbol symbol.Open) f (next (omega arith)) in
        a.spells ts y rest h e

-- a choice by a part that may come
pub maybe : {A B : Type 0} {text : A → Tokens} {depth : A → ℕ} {left : ℕ} {part : B → Tokens} {deep : Option B → ℕ} (q : Parser (Option B)) (f : Option B → Parser A) {done : Tokens} {d : ℕ} → Sound q (optional part) deep left → After done (max d (deep None)) left (f None) text depth → ((x : B) → After (done ++ part x) (max d (deep (Some x))) left (f (Some x)) text depth) → After done d left (q >>= f) text depth
maybe {B = B} {text = text} {depth = depth} {left = left} {part = part} {deep = deep} q f {done = done} {d = d} s none some = andthen q f s by
  where
    by : (o : Option B) → After (done ++ optional part o) (max d (deep o)) left (f o) text depth
    by None = record { spells = λ ts x rest h e. subst (λ us. Spells (us ++ ts) (text x) (depth x) left rest) (sym (append-nil done)) (none.spells ts x rest h e) }
    by (Some x) = some x

-- a parser that goes on behind what is read, and then the others
pub following : {A B : Type 0} {text : A → Tokens} {depth : A → ℕ} {left : ℕ} {part : B → Tokens} {deep : B → ℕ} (q : Parser B) (f : B → Parser A) {done : Tokens} {d : ℕ} → After done d left q part deep → ((x : B) → After (part x) (deep x) left (f x) text depth) → After done d left (q >>= f) text depth
following q f a next = record {
  spells = λ ts y rest h e.
      let b = bind_ok (q ts) f y rest e in
      let here = a.spells ts b.0 b.1 h b.2 in
      let r = (next b.0).spells b.1 y rest here.shallow b.3 in
      record { text_is = here.text_is ∙ r.text_is; shallow = r.shallow };
}

-- all of a text
pub whole_is : {A : Type 0} {text : A → Tokens} {depth : A → ℕ} {left : ℕ} (p : Parser A) → Sound p text depth left → (ts : Tokens) (x : A) (rest : Tokens) → whole p ts ≡ Ok (x, rest) → (ts ≡ text x) × (depth x ≤ left)
whole_is {A = A} {text = text} {depth = depth} {left = left} p s ts x rest e = by (bind_ok (p ts) end_of x rest e)
  where
    by : (y : A) × (after : Tokens) × (p ts ≡ Ok (y, after)) × (end_of y after ≡ Ok (x, rest)) → (ts ≡ text x) × (depth x ≤ left)
    by (y, [], read, ended) =
        let here = s.spells ts y [] read in
        let p = ok_pair y x [] rest ended in
        (here.text_is ∙ append-nil (text y) ∙ ap text p.0, subst (λ z. depth z ≤ left) p.0 here.shallow)
    by (y, t ∷ after, read, ended) = cc

-- behind a bracket one more may be open
pub raised : {A : Type 0} {text : A → Tokens} {depth : A → ℕ} {p : Parser A} (left : ℕ) → Sound p text depth left → Sound p text (λ x. depth x + 1) (suc left)
raised left s = record { spells = λ ts x rest e. let here = s.spells ts x rest e in let h = here.shallow in record { text_is = here.text_is; shallow = omega arith } }

-- a choice by what comes next
pub either : {A : Type 0} {text : A → Tokens} {depth : A → ℕ} {left : ℕ} (test : Tokens → Bool) (p q : Parser A) {done : Tokens} {d : ℕ} → After done d left p text depth → After done d left q text depth → After done d left (λ ts. (cond (test ts) p q) ts) text depth
either {A = A} {text = text} {depth = depth} {left = left} test p q {done = done} {d = d} a b = record { spells = λ ts x rest h e. by (test ts) ts x rest h e }
  where
    by : (t : Bool) (ts : Tokens) (x : A) (rest : Tokens) → d ≤ left → (cond t p q) ts ≡ Ok (x, rest) → Spells (done ++ ts) (text x) (depth x) left rest
    by true ts x rest h e = a.spells ts x rest h e
    by false ts x rest h e = b.spells ts x rest h e

-- the tokens of a part of a condition, or of an expression alone
abbrev pub of_either : {A B : Type 0} → (A → B) → (Expr → B) → CondOrExpr A → B
of_either whole bare (came.Cond x) = whole x
of_either whole bare (came.Expr e) = bare e

-- a choice by what was read where a condition may begin with an expression
pub either_way : {A B : Type 0} {text : A → Tokens} {depth : A → ℕ} {left : ℕ} {part : B → Tokens} {deep : CondOrExpr B → ℕ} (q : Parser (CondOrExpr B)) (f : CondOrExpr B → Parser A) {done : Tokens} {d : ℕ} → Sound q (of_either part expr_tokens) deep left → ((x : B) → After (done ++ part x) (max d (deep (came.Cond x))) left (f (came.Cond x)) text depth) → ((e : Expr) → After (done ++ expr_tokens e) (max d (deep (came.Expr e))) left (f (came.Expr e)) text depth) → After done d left (q >>= f) text depth
either_way {B = B} {text = text} {depth = depth} {left = left} {part = part} {deep = deep} q f {done = done} {d = d} s whole bare = andthen q f s by
  where
    by : (m : CondOrExpr B) → After (done ++ of_either part expr_tokens m) (max d (deep m)) left (f m) text depth
    by (came.Cond x) = whole x
    by (came.Expr e) = bare e

-- a sound parser from the start
pub unsound : {A : Type 0} {text : A → Tokens} {depth : A → ℕ} {left : ℕ} {p : Parser A} → Sound p text depth left → After [] 0 left p text depth
unsound s = record { spells = λ ts x rest h e. s.spells ts x rest e }

-- the last part
pub finally : {A : Type 0} {text part : A → Tokens} {depth deep : A → ℕ} {left : ℕ} {done : Tokens} {d : ℕ} (p : Parser A) → Sound p part deep left → ((x : A) → text x ≡ done ++ part x) → ((x : A) → d ≤ left → deep x ≤ left → depth x ≤ left) → After done d left p text depth
finally {part = part} {done = done} p s is fits = record {
  spells = λ ts x rest h e.
      let here = s.spells ts x rest e in
      record {
        text_is = ap (λ us. done ++ us) here.text_is ∙ sym (append_assoc done (part x) rest) ∙ ap (λ us. us ++ rest) (sym (is x));
        shallow = fits x h here.shallow;
      };
}

-- inside a bracket one less may be open, and outside one more
pub lowered : {A : Type 0} {text : A → Tokens} {depth : A → ℕ} {p : Parser A} (left : ℕ) → Sound p text (λ x. depth x + 1) left → Sound p text depth (left - 1)
lowered left s = record { spells = λ ts x rest e. let here = s.spells ts x rest e in let h = here.shallow in record { text_is = here.text_is; shallow = omega arith } }

pub lifted : {A : Type 0} {text : A → Tokens} {depth : A → ℕ} {p : Parser A} (left : ℕ) → 0 < left → Sound p text depth (left - 1) → Sound p text (λ x. depth x + 1) left
lifted left room s = record { spells = λ ts x rest e. let here = s.spells ts x rest e in let h = here.shallow in record { text_is = here.text_is; shallow = omega arith } }

pub eased : {A : Type 0} {text : A → Tokens} {depth : A → ℕ} {left : ℕ} {done : Tokens} {d e : ℕ} {p : Parser A} → After done d left p text depth → (e ≤ left → d ≤ left) → After done e left p text depth
eased a fits = record { spells = λ ts x rest h r. a.spells ts x rest (fits h) r }

-- what stands behind a word or symbol, where the text of the part has it too
pub behinds_with : {A : Type 0} {text : A → Tokens} {depth : A → ℕ} (token : Lexeme) (p : Parser A) (left : ℕ) → After (token ∷ []) 0 left p text depth → Sound (behind token p) (optional text) (optional_depth depth) left
behinds_with token p left a = sound (eaten token _ (following p _ a (λ x. built (Some x) _ _ refl (λ h. h))) (built None _ _ refl (λ h. omega arith)))

-- one token that is a text by itself
module _ {A : Type 0} (of : Lexeme → Option A) (text : A → Tokens) (is : (t : Lexeme) (x : A) → of t ≡ Some x → t ∷ [] ≡ text x) where
  first_spelled : (ts : Tokens) (x : A) → first_of of ts ≡ Some x → ts ≡ text x ++ rest ts
  first_spelled [] x e = cc
  first_spelled (t ∷ ts) x e = ap (λ u. u ++ ts) (is t x e)

  pub one_spelled : (left : ℕ) → Sound (one_if_any of) (optional text) (λ _. 0) left
  unfolding one_if_any
  one_spelled left = record { spells = λ ts x after e. by ts x after (first_of of ts) refl e }
    where
      by : (ts : Tokens) (x : Option A) (after : Tokens) (o : Option A) → first_of of ts ≡ o → taken_if_any o ts ≡ Ok (x, after) → Spells ts (optional text x) 0 left after
      by ts x after None h e =
          let p = ok_pair None x ts after e in
          record { text_is = subst (λ z. ts ≡ optional text z ++ after) p.0 p.1; shallow = omega arith }
      by ts x after (Some y) h e =
          let p = ok_pair (Some y) x (rest ts) after e in
          record { text_is = subst (λ z. ts ≡ optional text z ++ after) p.0 (first_spelled ts y h ∙ ap (λ r. text y ++ r) p.1); shallow = omega arith }
