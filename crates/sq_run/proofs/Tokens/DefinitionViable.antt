-- The definition of a schema: what is read of one is the beginning of one. It ends where nothing or the next schema follows.
use Rattle.std.proofs.Common.{◌≡◌, ℕ, suc, ◌<◌, Bool, true, false, cond, List, [], ◌∷◌, ◌++◌, length, Ok, Err, refl, sym, ◌∙◌, ap, subst, arith, append_assoc, length-append, inl, inr, ◌⊎◌}
use Rattle.sq_lex.specs.declared.lexeme.Lexeme.{Lexeme}
use Rattle.sq_lex.specs.declared.lexeme.Lexeme.TheVariants as lexeme
use Rattle.sq_lex.specs.declared.word.Word.TheVariants as word
use Rattle.sq_lex.specs.declared.name.Name.{Name}
use Rattle.sq_tree.specs.declared.schema.SchemaElement.{SchemaElement}
use Rattle.sq_tree.specs.declared.schema.SchemaDefinition.{SchemaDefinition}
use Rattle.sq_grammar.specs.Reading.{Tokens, Outcome, Parser, ◌>>=◌, ◌>>◌, and_then, pure, eat, expect, sees, rest as without_first, is_token, name, all}
use Rattle.sq_grammar.specs.Schema.{element, schema_definition}
use Rattle.sq_grammar.proofs.Reading.Ranks.{is_token-is}
use Rattle.sq_grammar.proofs.Sound.Spells.{ok_pair}
use Rattle.sq_run.proofs.Tokens.Ahead.{bind_ok, err_is}
use Rattle.sq_run.proofs.Tokens.Final.{SameFirst}
use Rattle.sq_run.proofs.Tokens.Viable.{Any, Begun, Inside, KeptBy, NextBy, Not, Starts, ViableBy, begun, expected, eats_expect, mapped_starts, must_starts, starts_with, then_part_by, uneaten, whole_first}
use Rattle.sq_run.proofs.Tokens.NamesViable.{name_starts, names}
use Rattle.sq_run.proofs.Tokens.StatementViable.{semicolon}
use Rattle.sq_run.proofs.Tokens.SchemaTextFinal.{SameTwo, nearer}
use Rattle.sq_run.proofs.Tokens.SchemaViable.{After, Follows, elements, if_follows, no_elements}

no_semicolon : Not Follows semicolon
no_semicolon = if_follows (λ ts. sees semicolon ts ≡ false) refl (λ others. refl)

-- ---- a definition behind its first word

abbrev built : Name → List SchemaElement → Bool → SchemaDefinition
built n es s = record { authorization = n; elements = es; semicolon = s }

abbrev last : Name → List SchemaElement → Parser SchemaDefinition
last n es = eat semicolon >>= λ s. pure (built n es s)

last_is : (n : Name) (es : List SchemaElement) (ts : Tokens) (b : Bool) → sees semicolon ts ≡ b → last n es ts ≡ Ok (built n es b, cond b (without_first ts) ts)
unfolding eat
last_is n es ts b is = ap (λ c. and_then (cond c (Ok (true, without_first ts)) (Ok (false, ts))) (λ s. pure (built n es s))) is ∙ by b
  where
    by : (c : Bool) → and_then (cond c (Ok (true, without_first ts)) (Ok (false, ts))) (λ s. pure (built n es s)) ≡ Ok (built n es c, cond c (without_first ts) ts)
    by true = refl
    by false = refl

seen_alike : (t : Lexeme) (rest other : Tokens) → SameFirst rest other → sees t other ≡ sees t rest
seen_alike t [] other s = absurd s
seen_alike t (u ∷ us) [] s = absurd s
seen_alike t (u ∷ us) (v ∷ vs) s = ap (is_token t) (sym s)

-- a token that comes is the first
pub first_is : (t : Lexeme) (ts : Tokens) → sees t ts ≡ true → ts ≡ t ∷ without_first ts
first_is t [] e = absurd (never e)
  where
    never : false ≡ true → ⊥
    never i = cc
first_is t (u ∷ us) e = ap (λ v. v ∷ us) (is_token-is t u e)

abbrev parts : ℕ → ℕ → Name → Parser SchemaDefinition
parts left inner n = all (element left inner) >>= last n

module _ (left inner : ℕ) (n : Name) where
  abbrev deeper : Parser SchemaDefinition
  deeper = parts (suc left) (suc inner) n

  with_semicolon : (ts : Tokens) (x : SchemaDefinition) (rest : Tokens) (es : List SchemaElement) (after : Tokens) → KeptBy SameTwo (all (element (suc left) (suc inner))) After ts es after → sees semicolon after ≡ true → last n es after ≡ Ok (x, rest) → KeptBy SameTwo deeper Follows ts x rest
  with_semicolon ts x rest es after k is e =
      let q = ok_pair (built n es true) x (without_first after) rest (sym (last_is n es after true is) ∙ e) in
      record {
        before = k.before ++ semicolon ∷ [];
        text_is = k.text_is ∙ ap (λ us. k.before ++ us) (first_is semicolon after is) ∙ sym (append_assoc k.before (semicolon ∷ []) (without_first after)) ∙ ap (λ us. (k.before ++ semicolon ∷ []) ++ us) q.1;
        keeps = λ other i.
            ap deeper (append_assoc k.before (semicolon ∷ []) other)
            ∙ ap (λ r. and_then r (last n)) (k.keeps (semicolon ∷ other) (inl (inl (other, refl))))
            ∙ last_is n es (semicolon ∷ other) true refl
            ∙ ap (λ y. Ok (y, other)) q.0;
      }

  without_semicolon : (ts : Tokens) (x : SchemaDefinition) (rest : Tokens) (es : List SchemaElement) (after : Tokens) → KeptBy SameTwo (all (element (suc left) (suc inner))) After ts es after → sees semicolon after ≡ false → last n es after ≡ Ok (x, rest) → KeptBy SameTwo deeper Follows ts x rest
  without_semicolon ts x rest es after k is e =
      let q = ok_pair (built n es false) x after rest (sym (last_is n es after false is) ∙ e) in
      record {
        before = k.before;
        text_is = k.text_is ∙ ap (λ us. k.before ++ us) q.1;
        keeps = λ other i.
            ap (λ r. and_then r (last n)) (k.keeps other (may_follow q.1 other i))
            ∙ last_is n es other false (none_there q.1 other i)
            ∙ ap (λ y. Ok (y, other)) q.0;
      }
    where
      may_follow : after ≡ rest → (other : Tokens) → NextBy SameTwo Follows rest other → NextBy SameTwo After after other
      may_follow same other (inl i) = inl (inr i)
      may_follow same other (inr s) = inr (subst (λ us. SameTwo us other) (sym same) s)

      none_there : after ≡ rest → (other : Tokens) → NextBy SameTwo Follows rest other → sees semicolon other ≡ false
      none_there same other (inl i) = no_semicolon other i
      none_there same other (inr s) = seen_alike semicolon rest other (nearer rest other s) ∙ ap (sees semicolon) (sym same) ∙ is

  parts_read : (ts : Tokens) (x : SchemaDefinition) (rest : Tokens) → parts left inner n ts ≡ Ok (x, rest) → KeptBy SameTwo deeper Follows ts x rest
  parts_read ts x rest e =
      let b = bind_ok (all (element left inner) ts) (last n) x rest e in
      by b.0 b.1 ((elements left inner).reads ts b.0 b.1 b.2) b.3 (sees semicolon b.1) refl
    where
      by : (es : List SchemaElement) (after : Tokens) → KeptBy SameTwo (all (element (suc left) (suc inner))) After ts es after → last n es after ≡ Ok (x, rest) → (b : Bool) → sees semicolon after ≡ b → KeptBy SameTwo deeper Follows ts x rest
      by es after k i true is = with_semicolon ts x rest es after k is i
      by es after k i false is = without_semicolon ts x rest es after k is i

  parts_stop : (ts : Tokens) (m : ℕ) → parts left inner n ts ≡ Err m → (m ≡ length ts) ⊎ Inside deeper Follows ts m
  parts_stop ts m e = by (all (element left inner) ts) refl e
    where
      never : (es : List SchemaElement) (after : Tokens) → last n es after ≡ Err m → ⊥
      never es after i = not_both (sym (last_is n es after (sees semicolon after) refl) ∙ i)
        where
          not_both : (let r : Outcome SchemaDefinition = Ok (built n es (sees semicolon after), cond (sees semicolon after) (without_first after) after) in r ≡ Err m) → ⊥
          not_both j = cc

      of_elements : (m ≡ length ts) ⊎ Inside (all (element (suc left) (suc inner))) After ts m → (m ≡ length ts) ⊎ Inside deeper Follows ts m
      of_elements (inl i) = inl i
      of_elements (inr k) = inr (record { before = k.before; after = k.after; some = k.some; text_is = k.text_is; left = k.left; filled = whole_first (last n) k.before k.filled (mapped_starts _ (uneaten semicolon no_semicolon)) (λ other i. inr i) })

      by : (r : Outcome (List SchemaElement)) → all (element left inner) ts ≡ r → and_then r (last n) ≡ Err m → (m ≡ length ts) ⊎ Inside deeper Follows ts m
      by (Ok r) is i = absurd (never r.0 r.1 i)
      by (Err l) is i = of_elements ((elements left inner).stops ts m (is ∙ ap Err (err_is SchemaDefinition l m i)))

  all_parts : ViableBy SameTwo (parts left inner n) deeper Follows
  all_parts = record { reads = parts_read; stops = parts_stop }

  parts_start : Starts (parts left inner n) Follows
  parts_start = starts_with {G = After} (last n) (record { more = []; value = []; reads = no_elements left inner }) (mapped_starts _ (uneaten semicolon no_semicolon)) (λ other i. inr i)

abbrev named : ℕ → ℕ → Parser SchemaDefinition
named left inner = name >>= parts left inner

abbrev authorized : ℕ → ℕ → Parser SchemaDefinition
authorized left inner = expect (lexeme.Word word.Authorization) >> named left inner

module _ (left inner : ℕ) where
  named_start : Starts (named left inner) Follows
  named_start = starts_with {G = Any} (parts left inner) name_starts (parts_start left inner _) (λ other i. tt)

  authorized_start : Starts (authorized left inner) Follows
  authorized_start = must_starts (lexeme.Word word.Authorization) (λ ts. refl) named_start

  pub definition_begun : Begun (schema_definition left inner) Follows (lexeme.Word word.Schema)
  unfolding schema_definition
  definition_begun = begun (lexeme.Word word.Schema) _ (must_starts (lexeme.Word word.Schema) (λ ts. refl) authorized_start) refl

module _ (left inner : ℕ) where
  all_named : ViableBy SameTwo (named left inner) (named (suc left) (suc inner)) Follows
  all_named = then_part_by {G = Any} _ nearer _ names (λ n. all_parts left inner n) (λ n. parts_start (suc left) (suc inner) n) (λ n other i. tt) (λ other i. tt)

  all_authorized : ViableBy SameTwo (authorized left inner) (authorized (suc left) (suc inner)) Follows
  all_authorized = then_part_by {G = Any} _ nearer _ (expected (lexeme.Word word.Authorization) (λ ts. refl)) (λ u. all_named) (λ u. named_start (suc left) (suc inner)) (λ u other i. tt) (λ other i. tt)

  pub definitions : ViableBy SameTwo (schema_definition left inner) (schema_definition (suc left) (suc inner)) Follows
  unfolding schema_definition
  definitions = then_part_by {G = Any} _ nearer _ (expected (lexeme.Word word.Schema) (λ ts. refl)) (λ u. all_authorized) (λ u. authorized_start (suc left) (suc inner)) (λ u other i. tt) (λ other i. tt)

  -- a definition takes some tokens
  pub definition_eats : (ts : Tokens) (x : SchemaDefinition) (rest : Tokens) → schema_definition left inner ts ≡ Ok (x, rest) → length rest < length ts
  unfolding schema_definition
  definition_eats ts x rest e =
      let b = bind_ok (expect (lexeme.Word word.Schema) ts) (λ u. authorized left inner) x rest e in
      let k = all_authorized.reads b.1 x rest b.3 in
      omega (arith, eats_expect (lexeme.Word word.Schema) ts b.0 b.1 b.2, ap length k.text_is ∙ length-append k.before rest)
