-- Schema texts. An element is chosen by two tokens, since CREATE may begin one or the next schema; but where a text is stuck, it is not at
-- the word CREATE that was looked behind.
use Rattle.std.proofs.Common.{◌≡◌, ℕ, zero, suc, ◌<◌, ◌≤◌, Bool, true, false, cond, ◌&&◌, ◌||◌, List, [], ◌∷◌, ◌++◌, length, Option, Some, None, Ok, Err, refl, sym, ◌∙◌, ap, subst, arith, length-append}
use Rattle.std.proofs.lemmas.Bool.{lt-ltb}
use Rattle.sq_lex.specs.declared.lexeme.Lexeme.{Lexeme}
use Rattle.sq_lex.specs.declared.lexeme.Lexeme.TheVariants as lexeme
use Rattle.sq_lex.specs.declared.symbol.Symbol.TheVariants as symbol
use Rattle.sq_lex.specs.declared.word.Word.TheVariants as word
use Rattle.sq_tree.specs.declared.schema.SchemaElement.{SchemaElement}
use Rattle.sq_tree.specs.declared.schema.SchemaDefinition.{SchemaDefinition}
use Rattle.sq_tree.specs.declared.schema.SchemaText.{SchemaText}
use Rattle.sq_grammar.specs.Reading.{Tokens, Outcome, Parser, ◌>>=◌, ◌>>◌, and_then, pure, eat, expect, sees, rest as without_first, is_token, behind, all, turn, with_front, whole, end_of}
use Rattle.sq_grammar.specs.Schema.{sees_created, by_table, created, nothing, by_grant, element, schema_definition, next_definition, schema_text}
use Rattle.sq_grammar.proofs.Reading.Many.{all-turn}
use Rattle.sq_grammar.proofs.Reading.Ranks.{is_token-is}
use Rattle.sq_grammar.proofs.Sound.Spells.{ok_pair}
use Rattle.sq_run.proofs.Tokens.Ahead.{Ahead, Clear, ClearOf, Looks, Read, Stuck, again, again_clear, bind_ok, bound, bound_stops, err_is, same_behind, same_stuck}
use Rattle.sq_run.proofs.Tokens.Final.{Final, SameFirst, looks_at_one, bind, done, either, eaten, expected, ended, a_name, if_comes, must}
use Rattle.sq_run.proofs.Tokens.SchemaFinal.{table_definitions, view_definitions, grants}

-- Both have a first token, and it is the same; so is the second behind CREATE.
abbrev pub SameTwo : Tokens → Tokens → Type 0
SameTwo (t ∷ ts) (u ∷ us) = (t ≡ u) × (is_token (lexeme.Word word.Create) t ≡ true → SameFirst ts us)
SameTwo _ _ = ⊥

pub nearer : (rest other : Tokens) → SameTwo rest other → SameFirst rest other
nearer [] other s = absurd s
nearer (t ∷ ts) [] s = absurd s
nearer (t ∷ ts) (u ∷ us) s = s.0

looks_at_two : Looks SameTwo
looks_at_two = record {
  behind = λ t ts rest other s. (refl, λ c. by ts rest other s);
  token = λ t ts u more other. (refl, λ c. to ts u more other);
}
  where
    by : (ts rest other : Tokens) → SameTwo rest other → SameFirst (ts ++ rest) (ts ++ other)
    by [] rest other s = nearer rest other s
    by (t ∷ ts) rest other s = refl

    to : (ts : Tokens) (u : Lexeme) (more other : Tokens) → SameFirst (ts ++ u ∷ more) (ts ++ u ∷ other)
    to [] u more other = refl
    to (t ∷ ts) u more other = refl

further : {A : Type 0} {p : Parser A} → Final p → Ahead SameTwo p
further h = record {
  reads = λ ts x rest e.
      let k = h.reads ts x rest e in
      record { before = k.before; text_is = k.text_is; same = λ other s. k.same other (nearer rest other s) };
  stops = h.stops;
}

-- a part that looks at one token, and then others that may look at two
behind_one : {A B : Type 0} {p : Parser A} (f : A → Parser B) → Final p → ((x : A) → Ahead SameTwo (f x)) → Ahead SameTwo (p >>= f)
behind_one f first next = bound looks_at_one nearer f (λ x t ts e other. refl) first next

behind_two : {A B : Type 0} {p : Parser A} (f : A → Parser B) → ((x : A) → Clear SameTwo (f x)) → Ahead SameTwo p → ((x : A) → Ahead SameTwo (f x)) → Ahead SameTwo (p >>= f)
behind_two f clear first next = bound looks_at_two (λ rest other s. s) f clear first next

-- ---- what is not stuck at CREATE at once

-- no more tokens are left than there were
fewer : {A : Type 0} {p : Parser A} → Ahead SameTwo p → (ts : Tokens) (n : ℕ) → p ts ≡ Err n → 0 < n → n ≤ length ts
fewer h ts n e room = let k = h.stops ts n e room in omega (arith, k.left, ap length k.text_is ∙ length-append k.before (k.token ∷ k.after))

-- a token other than CREATE tells the rest
other_word : (t : Lexeme) (ts other : Tokens) → (is_token (lexeme.Word word.Create) t ≡ true → ⊥) → SameTwo (t ∷ ts) (t ∷ other)
other_word t ts other differs = (refl, λ c. absurd (differs c))

expect_passes : {A : Type 0} {p : Parser A} → Ahead SameTwo p → (t : Lexeme) (ts : Tokens) → is_token (lexeme.Word word.Create) t ≡ true → (expect (lexeme.Word word.Create) >> p) (t ∷ ts) ≡ Err (length (t ∷ ts)) → ⊥
unfolding expect
expect_passes {p = p} h t ts c e =
    let i = ap (λ b. and_then (cond b (Ok (tt {0}, ts)) (Err (length (t ∷ ts)))) (λ u. p)) (sym c) ∙ e in
    omega (arith, fewer h ts (length (t ∷ ts)) i (omega arith))

-- ---- what never stops at once

behind_calm : {A : Type 0} {p : Parser A} → Ahead SameTwo p → (t : Lexeme) (ts : Tokens) → behind (lexeme.Word word.Create) p (t ∷ ts) ≡ Err (length (t ∷ ts)) → ⊥
unfolding eat
behind_calm {A = A} {p = p} h t ts e = by (is_token (lexeme.Word word.Create) t) e
  where
    by : (b : Bool) → and_then (cond b (Ok (true, ts)) (Ok (false, t ∷ ts))) (λ found. cond found (p >>= λ x. pure (Some x)) (pure None)) ≡ Err (length (t ∷ ts)) → ⊥
    by false i = cc
    by true i = stuck (p ts) refl i
      where
        stuck : (r : Outcome A) → p ts ≡ r → and_then r (λ x. pure (Some x)) ≡ Err (length (t ∷ ts)) → ⊥
        stuck (Ok q) is j = cc
        stuck (Err m) is j = omega (arith, fewer h ts (length (t ∷ ts)) (is ∙ ap Err (err_is (Option A) m (length (t ∷ ts)) j)) (omega arith))

eat_calm : {A : Type 0} (token : Lexeme) (f : Bool → A) (t : Lexeme) (ts : Tokens) → (eat token >>= λ b. pure (f b)) (t ∷ ts) ≡ Err (length (t ∷ ts)) → ⊥
unfolding eat
eat_calm token f t ts e = by (is_token token t) e
  where
    by : (b : Bool) → and_then (cond b (Ok (true, ts)) (Ok (false, t ∷ ts))) (λ b. pure (f b)) ≡ Err (length (t ∷ ts)) → ⊥
    by true i = cc
    by false i = cc

-- ---- elements

-- what is created is chosen alike where two tokens are the same
pub chosen_alike : (rest other : Tokens) → SameTwo rest other → sees_created rest ≡ sees_created other
chosen_alike [] other s = absurd s
chosen_alike (t ∷ ts) [] s = absurd s
chosen_alike (t ∷ ts) (u ∷ us) s = by (is_token (lexeme.Word word.Create) t) refl
  where
    second : (ts us : Tokens) → SameFirst ts us → (sees (lexeme.Word word.Table) ts || sees (lexeme.Word word.View) ts) ≡ (sees (lexeme.Word word.Table) us || sees (lexeme.Word word.View) us)
    second [] us s = absurd s
    second (t ∷ ts) [] s = absurd s
    second (t ∷ ts) (u ∷ us) s = ap (λ v. is_token (lexeme.Word word.Table) v || is_token (lexeme.Word word.View) v) s

    by : (b : Bool) → is_token (lexeme.Word word.Create) t ≡ b → sees_created (t ∷ ts) ≡ sees_created (u ∷ us)
    by false e =
        ap (λ c. c && (sees (lexeme.Word word.Table) ts || sees (lexeme.Word word.View) ts)) e
        ∙ sym (ap (λ c. c && (sees (lexeme.Word word.Table) us || sees (lexeme.Word word.View) us)) (ap (is_token (lexeme.Word word.Create)) (sym s.0) ∙ e))
    by true e =
        ap (λ c. c && (sees (lexeme.Word word.Table) ts || sees (lexeme.Word word.View) ts)) e
        ∙ second ts us (s.1 e)
        ∙ sym (ap (λ c. c && (sees (lexeme.Word word.Table) us || sees (lexeme.Word word.View) us)) (ap (is_token (lexeme.Word word.Create)) (sym s.0) ∙ e))

module _ (left inner : ℕ) where
  created_parts : Final (eat (lexeme.Word word.Table) >>= by_table left inner)
  created_parts = if_comes _ (by_table left inner) (bind (table_definitions inner) (λ t. done)) (must _ (bind (view_definitions left) (λ v. done)))

  creations : Final (created left inner)
  unfolding created
  creations = must _ created_parts

  none_or_created : Parser (Option SchemaElement)
  none_or_created ts = (cond (sees_created ts) (created left inner) nothing) ts

  -- the choice, where it is known which
  chosen_reads : (b : Bool) (ts : Tokens) (x : Option SchemaElement) (rest : Tokens) → sees_created ts ≡ b → Read SameTwo (cond b (created left inner) nothing) ts x rest → Read SameTwo none_or_created ts x rest
  unfolding none_or_created
  chosen_reads b ts x rest is k = record {
    before = k.before;
    text_is = k.text_is;
    same = λ other s.
        let e = sym (chosen_alike (k.before ++ rest) (k.before ++ other) (same_behind looks_at_two k.before rest other s)) ∙ ap sees_created (sym k.text_is) ∙ is in
        ap (λ c. cond c (created left inner) nothing (k.before ++ other)) e ∙ k.same other s;
  }

  created_passes : (t : Lexeme) (ts : Tokens) → is_token (lexeme.Word word.Create) t ≡ true → created left inner (t ∷ ts) ≡ Err (length (t ∷ ts)) → ⊥
  unfolding created
  created_passes = expect_passes (further created_parts)

  chosen_clear : (b : Bool) → Clear SameTwo (cond b (created left inner) nothing)
  chosen_clear true t ts e other = other_word t ts other (λ c. created_passes t ts c e)
  chosen_clear false t ts e other = cc

  chosen_stops : (b : Bool) (ts : Tokens) (n : ℕ) → sees_created ts ≡ b → Stuck (cond b (created left inner) nothing) ts n → Stuck none_or_created ts n
  unfolding none_or_created
  chosen_stops b ts n is k = record {
    before = k.before;
    token = k.token;
    after = k.after;
    text_is = k.text_is;
    left = k.left;
    same = λ other.
        let e = sym (chosen_alike (k.before ++ k.token ∷ k.after) (k.before ++ k.token ∷ other) (same_stuck looks_at_two (λ t us i. chosen_clear b t us) k other)) ∙ ap sees_created (sym k.text_is) ∙ is in
        ap (λ c. cond c (created left inner) nothing (k.before ++ k.token ∷ other)) e ∙ k.same other;
  }

  choices : Ahead SameTwo none_or_created
  unfolding none_or_created
  choices = record {
    reads = λ ts x rest e. chosen_reads (sees_created ts) ts x rest refl ((further (either (sees_created ts) creations done)).reads ts x rest e);
    stops = λ ts n e room. chosen_stops (sees_created ts) ts n refl ((further (either (sees_created ts) creations done)).stops ts n e room);
  }

  elements : Ahead SameTwo (element left inner)
  unfolding element none_or_created
  elements = behind_one (by_grant left inner) (eaten (lexeme.Word word.Grant)) by
    where
      by : (comes : Bool) → Ahead SameTwo (by_grant left inner comes)
      by true = further (bind grants (λ g. done))
      by false = choices

  -- an element that stops at once stops at a token other than CREATE
  element_clear : Clear SameTwo (element left inner)
  unfolding element eat
  element_clear t ts e other = other_word t ts other (λ c. by c)
    where
      at_create : element left inner (lexeme.Word word.Create ∷ ts) ≡ Err (length (lexeme.Word word.Create ∷ ts)) → (b : Bool) → (sees (lexeme.Word word.Table) ts || sees (lexeme.Word word.View) ts) ≡ b → ⊥
      at_create i false is = cc (ap (λ b. cond b (created left inner) nothing (lexeme.Word word.Create ∷ ts)) (sym is) ∙ i)
      at_create i true is =
          created_passes (lexeme.Word word.Create) ts refl (ap (λ b. cond b (created left inner) nothing (lexeme.Word word.Create ∷ ts)) (sym is) ∙ i)

      by : is_token (lexeme.Word word.Create) t ≡ true → ⊥
      by c = at_create (subst (λ u. element left inner (u ∷ ts) ≡ Err (length (u ∷ ts))) (is_token-is (lexeme.Word word.Create) t c) e) (sees (lexeme.Word word.Table) ts || sees (lexeme.Word word.View) ts) refl

-- ---- definitions and texts

module _ {A : Type 0} {p : Parser A} (h : Ahead SameTwo p) where
  next : Parser (Option A)
  next = behind (lexeme.Word word.Create) p

  not_some : (r : Outcome A) (after : Tokens) → and_then r (λ x. pure (Some x)) ≡ Ok (None, after) → ⊥
  not_some (Ok q) after e = is_not q.0 (ok_pair (Some q.0) None q.1 after e).0
    where
      is_not : (x : A) → (let nothing : Option A = None in Some x ≡ nothing) → ⊥
      is_not x i = cc
  not_some (Err n) after e = cc

  -- nothing is read where CREATE does not come
  none_comes : (ts after : Tokens) → next ts ≡ Ok (None, after) → sees (lexeme.Word word.Create) after ≡ false
  unfolding next eat
  none_comes ts after e = by (sees (lexeme.Word word.Create) ts) refl e
    where
      by : (b : Bool) → sees (lexeme.Word word.Create) ts ≡ b → and_then (cond b (Ok (true, without_first ts)) (Ok (false, ts))) (λ found. cond found (p >>= λ x. pure (Some x)) (pure None)) ≡ Ok (None, after) → sees (lexeme.Word word.Create) after ≡ false
      by true is i = absurd (not_some (p (without_first ts)) after i)
      by false is i = ap (sees (lexeme.Word word.Create)) (sym (ok_pair {X = Option A} None None ts after i).1) ∙ is

  -- what is read leaves fewer tokens
  some_fewer : (ts : Tokens) (x : A) (after : Tokens) → next ts ≡ Ok (Some x, after) → length after < length ts
  unfolding next eat
  some_fewer [] x after e = absurd (is_not (ok_pair {X = Option A} None (Some x) [] after e).0)
    where
      is_not : (let nothing : Option A = None in nothing ≡ Some x) → ⊥
      is_not i = cc
  some_fewer (t ∷ ts) x after e = by (is_token (lexeme.Word word.Create) t) e
    where
      by : (b : Bool) → and_then (cond b (Ok (true, ts)) (Ok (false, t ∷ ts))) (λ found. cond found (p >>= λ x. pure (Some x)) (pure None)) ≡ Ok (Some x, after) → length after < length (t ∷ ts)
      by false i = absurd (is_not (ok_pair {X = Option A} None (Some x) (t ∷ ts) after i).0)
        where
          is_not : (let nothing : Option A = None in nothing ≡ Some x) → ⊥
          is_not i = cc
      by true i =
          let b = bind_ok (p ts) (λ y. pure (Some y)) (Some x) after i in
          let k = h.reads ts b.0 b.1 b.2 in
          let q = ok_pair (Some b.0) (Some x) b.1 after b.3 in
          omega (arith, ap length k.text_is ∙ length-append k.before b.1, ap length q.1)

  -- a list ends where CREATE does not come
  list_ends : (n : ℕ) (ts : Tokens) → length ts < n → (xs : List A) (after : Tokens) → all next ts ≡ Ok (xs, after) → sees (lexeme.Word word.Create) after ≡ false
  list_ends zero ts less xs after e = absurd (omega arith)
  list_ends (suc n) ts less xs after e = by (next ts) refl (sym (all-turn next ts) ∙ e) (λ us i. list_ends n us (omega arith))
    where
      by : (r : Outcome (Option A)) → next ts ≡ r → turn ts (all next) r ≡ Ok (xs, after) → ((us : Tokens) → length us < length ts → (ys : List A) (end : Tokens) → all next us ≡ Ok (ys, end) → sees (lexeme.Word word.Create) end ≡ false) → sees (lexeme.Word word.Create) after ≡ false
      by (Err m) is i others = cc
      by (Ok (None, us)) is i others = ap (sees (lexeme.Word word.Create)) (sym (ok_pair [] xs us after i).1) ∙ none_comes ts us is
      by (Ok (Some x, us)) is i others =
          let less = some_fewer ts x us is in
          let b = bind_ok (all next us) (λ ys. pure (x ∷ ys)) xs after (ap (λ b. cond b (with_front (x ∷ []) (all next us)) (Ok ([], ts))) (sym (lt-ltb _ _ less)) ∙ i) in
          let q = ok_pair (x ∷ b.0) xs b.1 after b.3 in
          ap (sees (lexeme.Word word.Create)) (sym q.1) ∙ others us less b.0 b.1 b.2

pure_clear : {A : Type 0} (x : A) → Clear SameTwo (pure x)
pure_clear x t ts e other = cc

-- what is made of a part by itself stops as it does
mapped_clear : {A B : Type 0} (p : Parser A) (g : A → B) → Clear SameTwo p → Clear SameTwo (p >>= λ x. pure (g x))
mapped_clear {A = A} {B = B} p g clear t ts e other = by (p (t ∷ ts)) refl e
  where
    by : (r : Outcome A) → p (t ∷ ts) ≡ r → and_then r (λ x. pure (g x)) ≡ Err (length (t ∷ ts)) → SameTwo (t ∷ ts) (t ∷ other)
    by (Ok q) is i = cc
    by (Err m) is i = clear t ts (is ∙ ap Err (err_is B m (length (t ∷ ts)) i)) other

module _ (left inner : ℕ) where
  definitions : Ahead SameTwo (schema_definition left inner)
  unfolding schema_definition
  definitions =
      behind_one _ (expected _) (λ u. behind_one _ (expected _) (λ v. behind_one _ a_name (λ n.
      behind_two _ (λ es t ts e other. absurd (eat_calm (lexeme.Symbol symbol.Semicolon) (λ s. record { authorization = n; elements = es; semicolon = s }) t ts e)) (again looks_at_two (element_clear left inner) (elements left inner)) (λ es. further (bind (eaten _) (λ s. done))))))

  next_clear : Clear SameTwo (next_definition left inner)
  next_clear t ts e other = absurd (behind_calm definitions t ts e)

  next_definitions : Ahead SameTwo (next_definition left inner)
  next_definitions = behind_one _ (eaten _) (λ found. by found)
    where
      by : (found : Bool) → Ahead SameTwo (cond found (schema_definition left inner >>= λ x. pure (Some x)) (pure None))
      by true = behind_two _ (λ x. pure_clear (Some x)) definitions (λ x. further done)
      by false = further done

  others : Ahead SameTwo (all (next_definition left inner))
  others = again looks_at_two next_clear next_definitions

  texts : Ahead SameTwo (schema_text left inner)
  unfolding schema_text
  texts = behind_one _ (expected _) (λ u. behind_two _ (λ first. mapped_clear (all (next_definition left inner)) (λ xs. record { first = first; rest = xs }) (again_clear looks_at_two next_clear next_definitions)) definitions (λ first. behind_two _ (λ xs. pure_clear _) others (λ xs. further done)))

  last_stops : (first : SchemaDefinition) (ts : Tokens) (x : SchemaText) (after : Tokens) → (all (next_definition left inner) >>= λ xs. pure (record { first = first; rest = xs })) ts ≡ Ok (x, after) → sees (lexeme.Word word.Create) after ≡ false
  unfolding next
  last_stops first ts x after e =
      let b = bind_ok (all (next_definition left inner) ts) (λ xs. pure (record { first = first; rest = xs })) x after e in
      let q = ok_pair (record { first = first; rest = b.0 }) x b.1 after b.3 in
      ap (sees (lexeme.Word word.Create)) (sym q.1) ∙ list_ends definitions (suc (length ts)) ts (omega arith) b.0 b.1 b.2

  definition_stops : (ts : Tokens) (x : SchemaText) (after : Tokens) → (schema_definition left inner >>= λ first. all (next_definition left inner) >>= λ xs. pure (record { first = first; rest = xs })) ts ≡ Ok (x, after) → sees (lexeme.Word word.Create) after ≡ false
  definition_stops ts x after e =
      let b = bind_ok (schema_definition left inner ts) (λ first. all (next_definition left inner) >>= λ xs. pure (record { first = first; rest = xs })) x after e in
      last_stops b.0 b.1 x after b.3

  list_stops : (ts : Tokens) (x : SchemaText) (after : Tokens) → schema_text left inner ts ≡ Ok (x, after) → sees (lexeme.Word word.Create) after ≡ false
  unfolding schema_text
  list_stops ts x after e =
      let b = bind_ok (expect (lexeme.Word word.Create) ts) (λ u. schema_definition left inner >>= λ first. all (next_definition left inner) >>= λ xs. pure (record { first = first; rest = xs })) x after e in
      definition_stops b.1 x after b.3

  -- A schema text that is stuck at a token is stuck there whatever stands behind it.
  pub schema_stops : (ts : Tokens) (n : ℕ) → whole (schema_text left inner) ts ≡ Err n → 0 < n → Stuck (whole (schema_text left inner)) ts n
  schema_stops ts n e room = bound_stops looks_at_two (λ rest other s. s) end_of texts (λ x. further (ended x)) ts clear n e room
    where
      clear : (x : SchemaText) (after : Tokens) → schema_text left inner ts ≡ Ok (x, after) → ClearOf SameTwo (end_of x) after
      clear x after is t us i j other = other_word t us other (λ c. by (sym c ∙ ap (sees (lexeme.Word word.Create)) (sym i) ∙ list_stops ts x after is))
        where
          by : true ≡ false → ⊥
          by k = cc
