-- The elements of a schema: what is read of them is the beginning of some. An element is chosen by two tokens, since CREATE may begin the
-- next schema.
use Rattle.std.proofs.Common.{◌≡◌, ℕ, suc, ◌<◌, Bool, true, false, cond, ◌&&◌, ◌||◌, [], ◌∷◌, ◌++◌, length, Option, Some, None, Ok, Err, refl, sym, ◌∙◌, ap, subst, arith, append_assoc, length-append, inl, inr, ◌⊎◌}
use Rattle.sq_lex.specs.declared.lexeme.Lexeme.{Lexeme}
use Rattle.sq_lex.specs.declared.lexeme.Lexeme.TheVariants as lexeme
use Rattle.sq_lex.specs.declared.word.Word.TheVariants as word
use Rattle.sq_tree.specs.declared.schema.SchemaElement.{SchemaElement}
use Rattle.sq_tree.specs.declared.schema.SchemaElement.TheVariants.{Table, View, Grant}
use Rattle.sq_grammar.specs.Reading.{Tokens, Outcome, Parser, ◌>>=◌, and_then, pure, eat, expect, sees, rest as without_first, is_token, comma, all}
use Rattle.sq_grammar.specs.Schema.{sees_created, created, nothing, by_grant, element, table_definition, view_definition, grant}
use Rattle.sq_grammar.proofs.Ends.Follows.{ends_expr, ends_table}
use Rattle.sq_grammar.proofs.Reading.Many.{all-none}
use Rattle.sq_grammar.proofs.Reading.Ranks.{is_token-is}
use Rattle.sq_grammar.proofs.Sound.Spells.{ok_pair}
use Rattle.sq_run.proofs.Tokens.Final.{SameFirst}
use Rattle.sq_run.proofs.Tokens.Viable.{Begins, Inside, Kept, KeptBy, NextBy, Not, Starts, Viable, ViableBy, mapped, mapped_starts, rows_by, some_found}
use Rattle.sq_run.proofs.Tokens.CondViable.{AfterCond, Closes}
use Rattle.sq_run.proofs.Tokens.StatementViable.{semi_closes_at, semicolon}
use Rattle.sq_run.proofs.Tokens.ModuleViable.{end_closes_at}
use Rattle.sq_run.proofs.Tokens.SchemaTextFinal.{SameTwo, chosen_alike, nearer}
use Rattle.sq_run.proofs.Tokens.TableViable.{table_definition_start, table_definitions}
use Rattle.sq_run.proofs.Tokens.GrantViable.{grant_start, grants, view_definition_start, view_definitions}

abbrev pub create : Lexeme
create = lexeme.Word word.Create

-- behind a schema nothing follows, or the next schema
abbrev pub Follows : Tokens → Type 0
Follows ts = (ts ≡ []) ⊎ ((others : Tokens) × (ts ≡ create ∷ lexeme.Word word.Schema ∷ others))

-- and so behind an element, where a semicolon may come before it
abbrev pub After : Tokens → Type 0
After ts = Begins semicolon ts ⊎ Follows ts

module _ (P : Tokens → Type 0) (at_end : P []) (at_schema : (others : Tokens) → P (create ∷ lexeme.Word word.Schema ∷ others)) where
  pub if_follows : (other : Tokens) → Follows other → P other
  if_follows other (inl e) = subst P (sym e) at_end
  if_follows other (inr e) = subst P (sym e.1) (at_schema e.0)

  pub if_after : ((others : Tokens) → P (semicolon ∷ others)) → (other : Tokens) → After other → P other
  if_after at_semicolon other (inl e) = subst P (sym e.1) (at_semicolon e.0)
  if_after at_semicolon other (inr e) = if_follows other e

schema_closes_at : (others : Tokens) → Closes (create ∷ lexeme.Word word.Schema ∷ others)
schema_closes_at others = record { table = ends_table _ refl refl; bare = record { expr = ends_expr _ refl; comparison = refl; is = refl; not = refl; between = refl; in_word = refl; like = refl } }

after_closes : AfterCond After
after_closes = if_after Closes end_closes_at schema_closes_at semi_closes_at

after_comma : Not After comma
after_comma = if_after (λ ts. sees comma ts ≡ false) refl (λ others. refl) (λ others. refl)

after_with : Not After (lexeme.Word word.With)
after_with = if_after (λ ts. sees (lexeme.Word word.With) ts ≡ false) refl (λ others. refl) (λ others. refl)

-- ---- a part behind tokens that are known

module _ {A : Type 0} (p q : Parser A) {p' q' : Parser A} {F : Tokens → Type 0} (front : Tokens) (some : 0 < length front) (same : (ts : Tokens) → p (front ++ ts) ≡ p' ts) (same' : (ts : Tokens) → q (front ++ ts) ≡ q' ts) (h : Viable p' q' F) (k : Starts q' F) where
  front_reads : (ts : Tokens) (x : A) (rest : Tokens) → p (front ++ ts) ≡ Ok (x, rest) → Kept q F (front ++ ts) x rest
  front_reads ts x rest e =
      let m = h.reads ts x rest (sym (same ts) ∙ e) in
      record {
        before = front ++ m.before;
        text_is = ap (λ us. front ++ us) m.text_is ∙ sym (append_assoc front m.before rest);
        keeps = λ other n. ap q (append_assoc front m.before other) ∙ same' (m.before ++ other) ∙ m.keeps other n;
      }

  front_stops : (ts : Tokens) (n : ℕ) → p (front ++ ts) ≡ Err n → Inside q F (front ++ ts) n
  front_stops ts n e = by (h.stops ts n (sym (same ts) ∙ e))
    where
      by : (n ≡ length ts) ⊎ Inside q' F ts n → Inside q F (front ++ ts) n
      by (inl i) = record {
        before = front;
        after = ts;
        some = some;
        text_is = refl;
        left = i;
        filled = record { more = k.more; value = k.value; reads = λ other j. same' (k.more ++ other) ∙ k.reads other j };
      }
      by (inr m) = record {
        before = front ++ m.before;
        after = m.after;
        some = omega (arith, some, length-append front m.before);
        text_is = ap (λ us. front ++ us) m.text_is ∙ sym (append_assoc front m.before m.after);
        left = m.left;
        filled = record {
          more = m.filled.more;
          value = m.filled.value;
          reads = λ other j. ap q (append_assoc front m.before (m.filled.more ++ other)) ∙ same' (m.before ++ (m.filled.more ++ other)) ∙ m.filled.reads other j;
        };
      }

-- ---- elements

-- how an element begins
data Kind (ts : Tokens) : Type 0 where
  granted : (others : Tokens) → ts ≡ lexeme.Word word.Grant ∷ others → Kind ts
  table : (others : Tokens) → ts ≡ create ∷ lexeme.Word word.Table ∷ others → Kind ts
  view : (others : Tokens) → ts ≡ create ∷ lexeme.Word word.View ∷ others → Kind ts
  none : sees (lexeme.Word word.Grant) ts ≡ false → sees_created ts ≡ false → Kind ts

kind_of : (ts : Tokens) → Kind ts
kind_of [] = none refl refl
kind_of (t ∷ ts) = by_first (is_token (lexeme.Word word.Grant) t) refl
  where
    by_third : (u : Lexeme) (us : Tokens) → is_token (lexeme.Word word.Grant) t ≡ false → t ≡ create → (a b : Bool) → is_token (lexeme.Word word.Table) u ≡ a → is_token (lexeme.Word word.View) u ≡ b → Kind (t ∷ u ∷ us)
    by_third u us g c true b is is' = table us (ap (λ v. v ∷ u ∷ us) c ∙ ap (λ v. create ∷ v ∷ us) (is_token-is (lexeme.Word word.Table) u is))
    by_third u us g c false true is is' = view us (ap (λ v. v ∷ u ∷ us) c ∙ ap (λ v. create ∷ v ∷ us) (is_token-is (lexeme.Word word.View) u is'))
    by_third u us g c false false is is' = none g (ap (λ v. is_token create v && (is_token (lexeme.Word word.Table) u || is_token (lexeme.Word word.View) u)) c ∙ ap (λ d. d || is_token (lexeme.Word word.View) u) is ∙ is')

    by_second : (us : Tokens) → is_token (lexeme.Word word.Grant) t ≡ false → t ≡ create → Kind (t ∷ us)
    by_second [] g c = none g (ap (λ v. sees_created (v ∷ [])) c)
    by_second (u ∷ us) g c = by_third u us g c (is_token (lexeme.Word word.Table) u) (is_token (lexeme.Word word.View) u) refl refl

    by_create : (b : Bool) → is_token create t ≡ b → is_token (lexeme.Word word.Grant) t ≡ false → Kind (t ∷ ts)
    by_create true is g = by_second ts g (is_token-is create t is)
    by_create false is g = none g (ap (λ d. d && (sees (lexeme.Word word.Table) ts || sees (lexeme.Word word.View) ts)) is)

    by_first : (b : Bool) → is_token (lexeme.Word word.Grant) t ≡ b → Kind (t ∷ ts)
    by_first true is = granted ts (ap (λ v. v ∷ ts) (is_token-is (lexeme.Word word.Grant) t is))
    by_first false is = by_create (is_token create t) refl is

abbrev grant_part : Parser (Option SchemaElement)
grant_part = grant >>= λ g. pure (Some (Grant g))

abbrev table_part : ℕ → Parser (Option SchemaElement)
table_part inner = table_definition inner >>= λ t. pure (Some (Table t))

abbrev view_part : ℕ → Parser (Option SchemaElement)
view_part left = view_definition left >>= λ v. pure (Some (View v))

module _ (left inner : ℕ) where
  at_grant : (ts : Tokens) → element left inner (lexeme.Word word.Grant ∷ ts) ≡ grant_part ts
  unfolding element eat
  at_grant ts = refl

  at_table : (ts : Tokens) → element left inner (create ∷ lexeme.Word word.Table ∷ ts) ≡ table_part inner ts
  unfolding element eat created expect
  at_table ts = refl

  at_view : (ts : Tokens) → element left inner (create ∷ lexeme.Word word.View ∷ ts) ≡ view_part left ts
  unfolding element eat created expect
  at_view ts = refl

  at_none : (ts : Tokens) → sees (lexeme.Word word.Grant) ts ≡ false → sees_created ts ≡ false → element left inner ts ≡ Ok (None, ts)
  unfolding element eat
  at_none ts g c =
      ap (λ b. and_then (cond b (Ok (true, without_first ts)) (Ok (false, ts))) (by_grant left inner)) g
      ∙ ap (λ b. cond b (created left inner) nothing ts) c

  no_element : (other : Tokens) → After other → element left inner other ≡ Ok (None, other)
  no_element = if_after (λ ts. element left inner ts ≡ Ok (None, ts)) (at_none [] refl refl) (λ others. at_none (create ∷ lexeme.Word word.Schema ∷ others) refl refl) (λ others. at_none (semicolon ∷ others) refl refl)

  pub no_elements : (other : Tokens) → After other → all (element left inner) other ≡ Ok ([], other)
  no_elements other i = all-none (element left inner) other other (no_element other i)

module _ (left inner : ℕ) where
  grant_parts : Viable grant_part grant_part After
  grant_parts = mapped _ (grants after_comma after_with)

  grant_part_start : Starts grant_part After
  grant_part_start = mapped_starts _ (grant_start after_comma after_with)

  table_parts : Viable (table_part inner) (table_part (suc inner)) After
  table_parts = mapped _ (table_definitions inner)

  table_part_start : Starts (table_part (suc inner)) After
  table_part_start = mapped_starts _ (table_definition_start inner)

  view_parts : Viable (view_part left) (view_part (suc left)) After
  view_parts = mapped _ (view_definitions left after_closes after_with)

  view_part_start : Starts (view_part (suc left)) After
  view_part_start = mapped_starts _ (view_definition_start left after_closes after_with)

  abbrev part : Parser (Option SchemaElement)
  part = element left inner

  abbrev deeper : Parser (Option SchemaElement)
  deeper = element (suc left) (suc inner)

  some_reads : (ts : Tokens) → Kind ts → (x : SchemaElement) (rest : Tokens) → part ts ≡ Ok (Some x, rest) → Kept deeper After ts (Some x) rest
  some_reads ts (granted others is) x rest e = subst (λ us. Kept deeper After us (Some x) rest) (sym is)
      (front_reads part deeper (lexeme.Word word.Grant ∷ []) (omega arith) (at_grant left inner) (at_grant (suc left) (suc inner)) grant_parts grant_part_start others (Some x) rest (ap part (sym is) ∙ e))
  some_reads ts (table others is) x rest e = subst (λ us. Kept deeper After us (Some x) rest) (sym is)
      (front_reads part deeper (create ∷ lexeme.Word word.Table ∷ []) (omega arith) (at_table left inner) (at_table (suc left) (suc inner)) table_parts table_part_start others (Some x) rest (ap part (sym is) ∙ e))
  some_reads ts (view others is) x rest e = subst (λ us. Kept deeper After us (Some x) rest) (sym is)
      (front_reads part deeper (create ∷ lexeme.Word word.View ∷ []) (omega arith) (at_view left inner) (at_view (suc left) (suc inner)) view_parts view_part_start others (Some x) rest (ap part (sym is) ∙ e))
  some_reads ts (none g c) x rest e = absurd (differ (ok_pair None (Some x) ts rest (sym (at_none left inner ts g c) ∙ e)).0)
    where
      differ : (let n : Option SchemaElement = None in n ≡ Some x) → ⊥
      differ i = cc

  none_reads : (ts : Tokens) → Kind ts → (rest : Tokens) → part ts ≡ Ok (None, rest) → KeptBy SameTwo deeper After ts None rest
  none_reads ts (granted others is) rest e = absurd (some_found grant (λ g. Grant g) others rest (sym (at_grant left inner others) ∙ ap part (sym is) ∙ e))
  none_reads ts (table others is) rest e = absurd (some_found (table_definition inner) (λ t. Table t) others rest (sym (at_table left inner others) ∙ ap part (sym is) ∙ e))
  none_reads ts (view others is) rest e = absurd (some_found (view_definition left) (λ v. View v) others rest (sym (at_view left inner others) ∙ ap part (sym is) ∙ e))
  none_reads ts (none g c) rest e =
      let nothing_there : Option SchemaElement = None in
      let same : ts ≡ rest = (ok_pair nothing_there nothing_there ts rest (sym (at_none left inner ts g c) ∙ e)).1 in
      record { before = []; text_is = same; keeps = λ other n. by other (subst (λ us. NextBy SameTwo After us other) (sym same) n) }
    where
      by : (other : Tokens) → NextBy SameTwo After ts other → deeper other ≡ Ok (None, other)
      by other (inl i) = no_element (suc left) (suc inner) other i
      by other (inr s) = at_none (suc left) (suc inner) other (no_grant ts other (nearer ts other s) g) (sym (chosen_alike ts other s) ∙ c)
        where
          no_grant : (us vs : Tokens) → SameFirst us vs → sees (lexeme.Word word.Grant) us ≡ false → sees (lexeme.Word word.Grant) vs ≡ false
          no_grant [] vs s e = absurd s
          no_grant (u ∷ us) [] s e = absurd s
          no_grant (u ∷ us) (v ∷ vs) s e = ap (is_token (lexeme.Word word.Grant)) (sym s) ∙ e

  element_stops : (ts : Tokens) → Kind ts → (n : ℕ) → part ts ≡ Err n → Inside deeper After ts n
  element_stops ts (granted others is) n e = subst (λ us. Inside deeper After us n) (sym is)
      (front_stops part deeper (lexeme.Word word.Grant ∷ []) (omega arith) (at_grant left inner) (at_grant (suc left) (suc inner)) grant_parts grant_part_start others n (ap part (sym is) ∙ e))
  element_stops ts (table others is) n e = subst (λ us. Inside deeper After us n) (sym is)
      (front_stops part deeper (create ∷ lexeme.Word word.Table ∷ []) (omega arith) (at_table left inner) (at_table (suc left) (suc inner)) table_parts table_part_start others n (ap part (sym is) ∙ e))
  element_stops ts (view others is) n e = subst (λ us. Inside deeper After us n) (sym is)
      (front_stops part deeper (create ∷ lexeme.Word word.View ∷ []) (omega arith) (at_view left inner) (at_view (suc left) (suc inner)) view_parts view_part_start others n (ap part (sym is) ∙ e))
  element_stops ts (none g c) n e = absurd (never (sym (at_none left inner ts g c) ∙ e))
    where
      never : (let r : Outcome (Option SchemaElement) = Ok (None, ts) in r ≡ Err n) → ⊥
      never i = cc

  pub elements : ViableBy SameTwo (all (element left inner)) (all (element (suc left) (suc inner))) After
  elements = rows_by nearer (record { some = λ ts. some_reads ts (kind_of ts); none = λ ts. none_reads ts (kind_of ts); stops = λ ts n e. inr (element_stops ts (kind_of ts) n e) }) (no_element (suc left) (suc inner))
