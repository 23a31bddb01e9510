-- Schema texts: what is read of one up to where it is stuck is the beginning of one.
use Rattle.std.proofs.Common.{◌≡◌, ℕ, zero, suc, ◌-◌, ◌<◌, ◌≤◌, take, lit≤, Bool, true, false, cond, List, [], ◌∷◌, ◌++◌, length, Option, Some, Ok, Err, refl, sym, ◌∙◌, ap, subst, arith, append_assoc, append-nil, length-append, inl, inr, ◌⊎◌}
use Rattle.sq_lex.specs.declared.lexeme.Lexeme.TheVariants as lexeme
use Rattle.sq_lex.specs.declared.word.Word.TheVariants as word
use Rattle.sq_tree.specs.declared.schema.SchemaDefinition.{SchemaDefinition}
use Rattle.sq_tree.specs.declared.schema.SchemaText.{SchemaText}
use Rattle.sq_tree.specs.Schema.{schema_tokens, schema_depth}
use Rattle.sq_grammar.specs.declared.brackets.TheConstants.{MAX_DEPTH}
use Rattle.sq_grammar.specs.Reading.{Tokens, Outcome, Parser, ◌>>=◌, and_then, pure, eat, expect, sees, rest as without_first, all, with_front, whole, end_of}
use Rattle.sq_grammar.specs.Schema.{schema_definition, next_definition, schema_text}
use Rattle.sq_grammar.proofs.Reading.Many.{all-err, all-none, all-some}
use Rattle.sq_grammar.proofs.Sound.SchemaSound.{schema_sound}
use Rattle.sq_grammar.proofs.Taken.Takes.{none_behind}
use Rattle.sq_run.proofs.Tokens.Ahead.{err_is}
use Rattle.sq_run.proofs.Tokens.Final.{SameFirst}
use Rattle.sq_run.proofs.Tokens.Viable.{Inside, NextBy}
use Rattle.sq_run.proofs.Tokens.SchemaTextFinal.{SameTwo}
use Rattle.sq_run.proofs.Tokens.SchemaViable.{Follows, create}
use Rattle.sq_run.proofs.Tokens.BeginsTree.{BeginsTree, Cut, at_end, cut_begins}
use Rattle.sq_run.proofs.Tokens.DefinitionViable.{definition_begun, definition_eats, definitions, first_is}

-- ---- definitions one after another, and texts

abbrev left_of : {A : Type 0} → Outcome A → ℕ
left_of (Ok p) = length p.1
left_of (Err n) = n

module _ (left inner : ℕ) where
  abbrev next : Parser (Option SchemaDefinition)
  next = next_definition left inner

  abbrev definition : Parser SchemaDefinition
  definition = schema_definition left inner

  next_at : (ts : Tokens) → next (create ∷ ts) ≡ (definition >>= λ x. pure (Some x)) ts
  unfolding eat
  next_at ts = refl

  -- a definition and then the others
  one_more : (ts : Tokens) (x : SchemaDefinition) (rest : Tokens) → definition ts ≡ Ok (x, rest) → length rest ≤ length ts → all next (create ∷ ts) ≡ with_front (x ∷ []) (all next rest)
  one_more ts x rest e less = all-some next (create ∷ ts) x rest (next_at ts ∙ ap (λ r. and_then r (λ x. pure (Some x))) e) (omega (arith, less))

  one_stuck : (ts : Tokens) (n : ℕ) → definition ts ≡ Err n → all next (create ∷ ts) ≡ Err n
  one_stuck ts n e = all-err next (create ∷ ts) n (next_at ts ∙ ap (λ r. and_then r (λ x. pure (Some x))) e)

  no_more : (ts : Tokens) → sees create ts ≡ false → all next ts ≡ Ok ([], ts)
  no_more ts e = all-none next ts ts (none_behind create definition ts e)

-- more tokens make a list of definitions whole, and it may stand where the tokens stood
record CutList (left inner : ℕ) (ts : Tokens) (n : ℕ) : Type 0 where
  before : Tokens
  after : Tokens
  text_is : ts ≡ before ++ after
  left_is : n ≡ length after
  more : Tokens
  value : List SchemaDefinition
  reads : all (next left inner) (before ++ more) ≡ Ok (value, [])
  stands : NextBy SameTwo Follows ts (before ++ more)

-- the same of a definition with a list behind it
record CutFirst (left inner : ℕ) (ts : Tokens) (n : ℕ) : Type 0 where
  before : Tokens
  after : Tokens
  text_is : ts ≡ before ++ after
  left_is : n ≡ length after
  more : Tokens
  first : SchemaDefinition
  others : List SchemaDefinition
  behind : Tokens
  reads : schema_definition left inner (before ++ more) ≡ Ok (first, behind)
  fewer : length behind ≤ length (before ++ more)
  reads_others : all (next left inner) behind ≡ Ok (others, [])
  stands : NextBy SameTwo Follows (create ∷ ts) (create ∷ (before ++ more))

front_left : {A : Type 0} (xs : List A) (r : Outcome (List A)) → left_of (with_front xs r) ≡ left_of r
front_left xs (Ok p) = refl
front_left xs (Err n) = refl

same_front : (ts before after us : Tokens) → 0 < length before → ts ≡ before ++ after → SameFirst ts (before ++ us)
same_front ts [] after us some is = absurd (omega arith)
same_front ts (t ∷ before) after us some is = subst (λ vs. SameFirst vs (t ∷ (before ++ us))) (sym is) refl

module _ (left inner : ℕ) where
  abbrev Firsts : Tokens → ℕ → Type 0
  Firsts = CutFirst (suc left) (suc inner)

  abbrev Lists : Tokens → ℕ → Type 0
  Lists = CutList (suc left) (suc inner)

  -- how many tokens are left behind a definition and others
  abbrev left_behind : Outcome SchemaDefinition → ℕ
  left_behind (Ok p) = left_of (all (next left inner) p.1)
  left_behind (Err n) = n

  module _ (ts : Tokens) (others : (rest : Tokens) → length rest ≤ length ts → Lists rest (left_of (all (next left inner) rest))) where
    at_stop : (n : ℕ) → (n ≡ length ts) ⊎ Inside (schema_definition (suc left) (suc inner)) Follows ts n → Firsts ts n
    at_stop n (inl i) =
        let k = definition_begun (suc left) (suc inner) in
        record {
          before = [];
          after = ts;
          text_is = refl;
          left_is = i;
          more = lexeme.Word word.Schema ∷ k.tail;
          first = k.value;
          others = [];
          behind = [];
          reads = ap (λ us. schema_definition (suc left) (suc inner) (lexeme.Word word.Schema ∷ us)) (sym (append-nil k.tail)) ∙ k.reads [] (inl refl);
          fewer = omega arith;
          reads_others = no_more (suc left) (suc inner) [] refl;
          stands = inl (inr (k.tail, refl));
        }
    at_stop n (inr k) = record {
      before = k.before;
      after = k.after;
      text_is = k.text_is;
      left_is = k.left;
      more = k.filled.more;
      first = k.filled.value;
      others = [];
      behind = [];
      reads = ap (λ us. schema_definition (suc left) (suc inner) (k.before ++ us)) (sym (append-nil k.filled.more)) ∙ k.filled.reads [] (inl refl);
      fewer = omega arith;
      reads_others = no_more (suc left) (suc inner) [] refl;
      stands = inr (refl, λ c. same_front ts k.before k.after k.filled.more k.some k.text_is);
    }

    behind_first : (x : SchemaDefinition) (rest : Tokens) → schema_definition left inner ts ≡ Ok (x, rest) → Firsts ts (left_of (all (next left inner) rest))
    behind_first x rest e =
        let j = (definitions left inner).reads ts x rest e in
        let less = definition_eats left inner ts x rest e in
        let c = others rest (omega arith) in
        let is = j.text_is ∙ ap (λ us. j.before ++ us) c.text_is ∙ sym (append_assoc j.before c.before c.after) in
        record {
          before = j.before ++ c.before;
          after = c.after;
          text_is = is;
          left_is = c.left_is;
          more = c.more;
          first = x;
          others = c.value;
          behind = c.before ++ c.more;
          reads = ap (schema_definition (suc left) (suc inner)) (append_assoc j.before c.before c.more) ∙ j.keeps (c.before ++ c.more) c.stands;
          fewer = omega (arith, length-append c.before c.more, length-append (j.before ++ c.before) c.more, length-append j.before c.before);
          reads_others = c.reads;
          stands = inr (refl, λ i. same_front ts (j.before ++ c.before) c.after c.more (omega (arith, less, ap length j.text_is ∙ length-append j.before rest, length-append j.before c.before)) is);
        }

    first_cut : (r : Outcome SchemaDefinition) → schema_definition left inner ts ≡ r → Firsts ts (left_behind r)
    first_cut (Err n) e = at_stop n ((definitions left inner).stops ts n e)
    first_cut (Ok p) e = behind_first p.0 p.1 e

  -- what is left behind a list is what is left behind its first
  same_left : (ts : Tokens) (r : Outcome SchemaDefinition) → schema_definition left inner ts ≡ r → left_behind r ≡ left_of (all (next left inner) (create ∷ ts))
  same_left ts (Err n) e = sym (ap left_of (one_stuck left inner ts n e))
  same_left ts (Ok p) e =
      let less = definition_eats left inner ts p.0 p.1 e in
      sym (ap left_of (one_more left inner ts p.0 p.1 e (omega arith)) ∙ front_left (p.0 ∷ []) (all (next left inner) p.1))

  lists : (n : ℕ) (ts : Tokens) → length ts < n → Lists ts (left_of (all (next left inner) ts))
  lists zero ts less = absurd (omega arith)
  lists (suc n) ts less = by (sees create ts) refl (λ us i. lists n us (omega arith))
    where
      at : (us : Tokens) → ((rest : Tokens) → length rest ≤ length us → Lists rest (left_of (all (next left inner) rest))) → Lists (create ∷ us) (left_of (all (next left inner) (create ∷ us)))
      at us others =
          let c = first_cut us others (schema_definition left inner us) refl in
          record {
            before = create ∷ c.before;
            after = c.after;
            text_is = ap (λ vs. create ∷ vs) c.text_is;
            left_is = sym (same_left us (schema_definition left inner us) refl) ∙ c.left_is;
            more = c.more;
            value = c.first ∷ c.others;
            reads = one_more (suc left) (suc inner) (c.before ++ c.more) c.first c.behind c.reads c.fewer ∙ ap (with_front (c.first ∷ [])) c.reads_others;
            stands = c.stands;
          }

      by : (b : Bool) → sees create ts ≡ b → ((us : Tokens) → length us < length ts → Lists us (left_of (all (next left inner) us))) → Lists ts (left_of (all (next left inner) ts))
      by false is others = record { before = []; after = ts; text_is = refl; left_is = ap left_of (no_more left inner ts is); more = []; value = []; reads = no_more (suc left) (suc inner) [] refl; stands = inl (inl refl) }
      by true is others =
          let first = first_is create ts is in
          subst (λ us. Lists us (left_of (all (next left inner) us))) (sym first) (at (without_first ts) (λ rest i. others rest (omega (arith, i, ap length first))))

-- ---- texts

abbrev text_of : SchemaDefinition → List SchemaDefinition → SchemaText
text_of first others = record { first = first; rest = others }

abbrev with_others : ℕ → ℕ → SchemaDefinition → Parser SchemaText
with_others left inner first = all (next left inner) >>= λ others. pure (text_of first others)

abbrev behind_create : ℕ → ℕ → Parser SchemaText
behind_create left inner = schema_definition left inner >>= with_others left inner

module _ (left inner : ℕ) where
  text_at : (ts : Tokens) → schema_text left inner (create ∷ ts) ≡ behind_create left inner ts
  unfolding schema_text expect
  text_at ts = refl

  text_none : (ts : Tokens) → sees create ts ≡ false → schema_text left inner ts ≡ Err (length ts)
  unfolding schema_text expect
  text_none ts e = ap (λ b. and_then (cond b (Ok (tt {0}, without_first ts)) (Err (length ts))) (λ u. behind_create left inner)) e

  text_reads : (ts : Tokens) (first : SchemaDefinition) (behind : Tokens) (others : List SchemaDefinition) → schema_definition left inner ts ≡ Ok (first, behind) → all (next left inner) behind ≡ Ok (others, []) → schema_text left inner (create ∷ ts) ≡ Ok (text_of first others, [])
  text_reads ts first behind others e f =
      text_at ts ∙ ap (λ r. and_then r (with_others left inner)) e
      ∙ ap (λ r. and_then r (λ others. pure (text_of first others))) f

  -- where a text is stuck
  text_left : (ts : Tokens) (n : ℕ) (r : Outcome SchemaDefinition) → schema_definition left inner ts ≡ r → whole (schema_text left inner) (create ∷ ts) ≡ Err n → n ≡ left_behind left inner r
  text_left ts n r is e = by r (ap (λ s. and_then (and_then s (with_others left inner)) end_of) (sym is) ∙ ap (λ s. and_then s end_of) (sym (text_at ts)) ∙ e)
    where
      by_list : (first : SchemaDefinition) (s : Outcome (List SchemaDefinition)) → and_then (and_then s (λ others. pure (text_of first others))) end_of ≡ Err n → n ≡ left_of s
      by_list first (Err m) i = sym (err_is SchemaText m n i)
      by_list first (Ok p) i = at_end (text_of first p.0) p.1 n i

      by : (r : Outcome SchemaDefinition) → and_then (and_then r (with_others left inner)) end_of ≡ Err n → n ≡ left_behind left inner r
      by (Err m) i = sym (err_is SchemaText m n i)
      by (Ok p) i = by_list p.0 (all (next left inner) p.1) i

module _ (left inner : ℕ) where
  abbrev Texts : Tokens → ℕ → Type 0
  Texts = Cut (schema_text (suc left) (suc inner))

  behind_word : (ts : Tokens) (n : ℕ) → whole (schema_text left inner) (create ∷ ts) ≡ Err n → Texts (create ∷ ts) n
  behind_word ts n e =
      let r : Outcome SchemaDefinition = schema_definition left inner ts in
      let c = first_cut left inner ts (λ rest i. lists left inner (suc (length rest)) rest (omega arith)) r refl in
      record {
        before = create ∷ c.before;
        after = c.after;
        text_is = ap (λ us. create ∷ us) c.text_is;
        left = text_left left inner ts n r refl e ∙ c.left_is;
        more = c.more;
        value = text_of c.first c.others;
        reads = text_reads (suc left) (suc inner) (c.before ++ c.more) c.first c.behind c.others c.reads c.reads_others;
      }

  no_word : (ts : Tokens) (n : ℕ) → n ≡ length ts → Texts ts n
  no_word ts n is =
      let k = definition_begun (suc left) (suc inner) in
      record {
        before = [];
        after = ts;
        text_is = refl;
        left = is;
        more = create ∷ lexeme.Word word.Schema ∷ k.tail;
        value = text_of k.value [];
        reads = text_reads (suc left) (suc inner) (lexeme.Word word.Schema ∷ k.tail) k.value [] [] (ap (λ us. schema_definition (suc left) (suc inner) (lexeme.Word word.Schema ∷ us)) (sym (append-nil k.tail)) ∙ k.reads [] (inl refl)) (no_more (suc left) (suc inner) [] refl);
      }

  -- The tokens before the one at which a schema text is stuck are the beginning of one.
  pub schema_cut : (ts : Tokens) (n : ℕ) → whole (schema_text left inner) ts ≡ Err n → Texts ts n
  schema_cut ts n e = by (sees create ts) refl
    where
      by : (b : Bool) → sees create ts ≡ b → Texts ts n
      by false is = no_word ts n (sym (err_is SchemaText (length ts) n (ap (λ r. and_then r end_of) (sym (text_none left inner ts is)) ∙ e)))
      by true is =
          let first = first_is create ts is in
          subst (λ us. Texts us n) (sym first) (behind_word (without_first ts) n (ap (whole (schema_text left inner)) (sym first) ∙ e))

-- With no more brackets than may be open, they are the beginning of a text that is one bracket deeper at most.
pub schema_begins : (ts : Tokens) (n : ℕ) → whole (schema_text MAX_DEPTH (MAX_DEPTH - 1)) ts ≡ Err n → BeginsTree schema_tokens (take (length ts - n) ts)
schema_begins ts n e = cut_begins (schema_text (suc MAX_DEPTH) (suc (MAX_DEPTH - 1))) schema_tokens schema_depth (suc MAX_DEPTH) (schema_sound (suc MAX_DEPTH) (lit≤ tt)) ts n (schema_cut MAX_DEPTH (MAX_DEPTH - 1) ts n e)
