-- What the first refusal of texts says of their trees: a text is refused for how it is spelled only where it has no tree, or
-- only deeper ones, behind texts that have theirs; and for what it means where all of its kind have trees.
use Rattle.std.proofs.Common.{◌≡◌, ◌⊎◌, inl, inr, ℕ, zero, suc, ◌+◌, ◌-◌, ◌<◌, Bool, true, false, List, [], ◌∷◌, length, map, take, slice_get, Option, Some, None, Result, Ok, Err, refl, sym, ap, subst, ◌∙◌, arith}
use Rattle.std.proofs.lemmas.Bool.{ltb-false}
use Rattle.std.proofs.lemmas.List.{length-map}
use Rattle.std.specs.List.{AllByRecursion, enumerate_from}
use Rattle.std.specs.Option.{option_map, option_or}
use Rattle.std.specs.Prelude.{⊤, IfSome, if◌then◌else◌, nat_lt, position}
use Rattle.sq_lex.specs.Reading.{reading}
use Rattle.sq_lex.specs.Token.{lexemes}
use Rattle.sq_lex.specs.declared.fault.LexFault.{LexFault}
use Rattle.sq_lex.specs.declared.lexeme.Lexeme.{Lexeme}
use Rattle.sq_lex.specs.declared.name.Name.{Name}
use Rattle.sq_lex.specs.declared.token.Token.{Token}
use Rattle.sq_tree.specs.Schema.{schema_tokens, schema_depth}
use Rattle.sq_tree.specs.Module.{module_tokens, module_depth}
use Rattle.sq_tree.specs.Script.{script_tokens, script_depth}
use Rattle.sq_tree.specs.declared.«module».ModuleText.{ModuleText}
use Rattle.sq_tree.specs.declared.schema.SchemaText.{SchemaText}
use Rattle.sq_tree.specs.declared.script.ScriptText.{ScriptText}
use Rattle.sq_grammar.proofs.Taken.Refused.{Deepens, refused_deep}
use Rattle.sq_grammar.specs.Brackets.{is_too_deep}
use Rattle.sq_grammar.specs.Reading.{Outcome, Parser, whole}
use Rattle.sq_meaning.proofs.AnswerLaws.{all_flat_mapped, all_mapped}
use Rattle.sq_meaning.specs.ModuleRefusal.{ModuleRefusal, at_item, cursor_name, first_module_refusal, first_repeated, has_bad_parameter, has_open_count, has_status_fault, module_refusal as refusal_in, modules_before, name_refusal, procedure_name}
use Rattle.sq_meaning.specs.Schema.{Elements, is_among}
use Rattle.sq_meaning.specs.SchemaRefusal.{Part, SchemaRefusal, elements_with, first_schema_refusal, part_fault, parts_of_schema, parts_of_text, part_refusal, schema_parts, schema_refusal as first_refusal, users_with}
use Rattle.sq_meaning.specs.Script.{first_script_refusal}
use Rattle.sq_meaning.specs.Machine.{Program}
use Rattle.sq_meaning.specs.Report.{Bytes}
use Rattle.sq_meaning.specs.Run.{program_of}
use Rattle.sq_meaning.specs.Words.{first_some}
use Rattle.sq_meaning.specs.declared.refusal.ModuleFault.{ModuleFault}
use Rattle.sq_meaning.specs.declared.refusal.ModuleFault.TheVariants as module_fault
use Rattle.sq_meaning.specs.declared.refusal.SchemaFault.{SchemaFault}
use Rattle.sq_meaning.specs.declared.refusal.ScriptFault.{ScriptFault}
use Rattle.sq_meaning.specs.declared.refusal.ScriptFault.TheVariants as script_fault
use Rattle.sq_perform.specs.Read.{ReadText, module_rule, of_outcome, of_tokens, read_text, refusal_of, schema_rule, script_rule, stuck_at}
use Rattle.sq_perform.specs.Refusal.{IsRefused, Matter, Tokens, Grammar, Depth, Meaning, OneRefused, matter, read_before, refused_part, refused_start}
use Rattle.sq_perform.specs.Texts.{AllSpell, SomeTrees, Spells}
use Rattle.sq_perform.specs.declared.refusal.Refusal.{Refusal}
use Rattle.sq_perform.specs.declared.refusal.RefusalName.{RefusalName}
use Rattle.sq_perform.specs.declared.refusal.RefusalName.TheVariants.{EndOfText, Lexical, Module, Schema, TooDeep, Unexpected}
use Rattle.sq_perform.specs.declared.refusal.RunFault.{RunFault}
use Rattle.sq_perform.specs.declared.refusal.RunFault.TheVariants.{SchemaRefused, ModuleRefused, ScriptRefused}
use Rattle.sq_run.specs.Answer.{Task, accepted_modules, accepted_schemas, accepted_script, accepted_unless, and_then, asked_of, refused_module, accepted_program, read_texts, refused_as, refused_text, refused_schema, script_fault_name, refused_script, trees_of}
use Rattle.sq_run.specs.Refused.{RefusalsTell, RefusedText}
use Rattle.sq_run.proofs.Texts.AcceptedTexts.{text_spells, texts_spell}
use Rattle.sq_run.proofs.Texts.ReadTexts.{IsExact, modules_exact, schemas_exact, scripts_exact}

-- ---- steps that ended with a refusal

err_same : {X E : Type 0} (d e : E) → (let a : Result X E = Err d in let b : Result X E = Err e in a ≡ b) → d ≡ e
err_same d e h = cc

abbrev Stop : {A B E : Type 0} → Result A E → (A → Result B E) → E → Type 0
Stop {A = A} r f e = (r ≡ Err e) ⊎ ((x : A) × (r ≡ Ok x) × (f x ≡ Err e))

stop : {A B E : Type 0} (r : Result A E) (f : A → Result B E) (e : E) → and_then r f ≡ Err e → Stop r f e
stop (Ok x) f e h = inr (x, refl, h)
stop (Err d) f e h = inl (ap Err (err_same d e h))

refused_by : {A : Type 0} (kind : Refusal → RunFault) (r : Result A Refusal) (fault : RunFault) → refused_as kind r ≡ Err fault
    → (x : Refusal) × (r ≡ Err x) × (kind x ≡ fault)
refused_by kind (Ok x) fault e = cc
refused_by kind (Err x) fault e = (x, refl, err_same (kind x) fault e)

-- a refusal was found
judged : {A F : Type 0} (say : F → Refusal) (found : Option F) (x : A) (r : Refusal) → accepted_unless (option_map say found) x ≡ Err r
    → (f : F) × (found ≡ Some f) × (say f ≡ r)
judged say None x r e = cc
judged say (Some f) x r e = (f, refl, err_same (say f) r e)

at_place : {A : Type 0} (xs : List A) (n : ℕ) → n < length xs → (x : A) × (slice_get xs n ≡ Some x)
at_place [] n h = absurd (omega (arith, h))
at_place (x ∷ xs) zero h = (x, refl)
at_place (x ∷ xs) (suc n) h = at_place xs n (omega (arith, h))

-- ---- a text without a tree

module _ {T : Type 0} (rule : Parser T) (tokens_of : T → List Lexeme) (depth_of : T → ℕ) (exact : IsExact rule tokens_of depth_of) where
  -- the refusal of the text of this number for how it is spelled
  record IsStuck (number : ℕ) (text : Bytes) (refusal : Refusal) : Type 0 where
    number_is : refusal.text ≡ number
    spelling : matter refusal.what ≡ Meaning → ⊥
    refused : IsRefused rule tokens_of depth_of text refusal (matter refusal.what)

  lexical : (number : ℕ) (text : Bytes) (fault : LexFault) → reading text ≡ Err fault
      → IsStuck number text (record { text = number; line = fault.line; column = fault.column; what = Lexical fault.kind })
  lexical number text fault e = record {
    number_is = refl;
    spelling = λ h. cc;
    refused = record { fault = fault; read = e; what = refl; line = refl; column = refl };
  }

  module _ (number : ℕ) (text : Bytes) (tokens : List Token) (left : ℕ) (lexed : reading text ≡ Ok tokens)
      (stops : whole rule (lexemes tokens) ≡ Err left) where
    abbrev index : ℕ
    index = length tokens - left

    abbrev stuck : (inside deep : Bool) → Refusal
    stuck inside deep =
        if inside then refusal_of number text tokens index (if deep then TooDeep else Unexpected) else refusal_of number text tokens (length tokens - 1) EndOfText

    as_long : length (lexemes tokens) ≡ length tokens
    as_long = length-map tokens (λ t. t.lexeme)

    deepens : (tree : T) → Spells text (tokens_of tree) → Deepens (lexemes tokens) left (depth_of tree)
    deepens tree s =
        let same : s.tokens ≡ tokens = cc (s.read, lexed) in
        refused_deep rule (lexemes tokens) (tokens_of tree) (depth_of tree) tree left (exact.takes tree) (sym s.same ∙ ap lexemes same) stops

    by_place : (inside deep : Bool) → nat_lt index (length tokens) ≡ inside → is_too_deep (lexemes tokens) index ≡ deep
        → read_text rule number text ≡ Err (stuck inside deep) → IsStuck number text (stuck inside deep)
    by_place true true i d e = record { number_is = refl; spelling = λ h. cc; refused = (e, λ tree s. (deepens tree s).deeper) }
    by_place true false i d e = record {
      number_is = refl;
      spelling = λ h. cc;
      refused = (e, λ tree s. let t = sym (ap (λ n. is_too_deep (lexemes tokens) (n - left)) as_long) ∙ (deepens tree s).too_deep in cc);
    }
    by_place false deep i d e = record {
      number_is = refl;
      spelling = λ h. cc;
      refused = (
        e,
        λ tree s.
            let within = subst (λ n. n - left < n) as_long (deepens tree s).inside in
            let behind = ltb-false index (length tokens) i in
            absurd (omega (arith, within, behind)),
      );
    }

    misspelled : IsStuck number text (stuck_at number text tokens index)
    misspelled =
        by_place (nat_lt index (length tokens)) (is_too_deep (lexemes tokens) index) refl refl
        (ap (of_tokens rule number text) lexed ∙ ap (of_outcome number text tokens) stops)

  by_outcome : (number : ℕ) (text : Bytes) (tokens : List Token) (o : Outcome T) (refusal : Refusal) → whole rule (lexemes tokens) ≡ o → reading text ≡ Ok tokens
      → of_outcome number text tokens o ≡ Err refusal → IsStuck number text refusal
  by_outcome number text tokens (Ok read) refusal is lexed e = cc
  by_outcome number text tokens (Err left) refusal is lexed e =
      subst (IsStuck number text) (err_same (stuck_at number text tokens (length tokens - left)) refusal e) (misspelled number text tokens left lexed is)

  by_tokens : (number : ℕ) (text : Bytes) (lexed : Result (List Token) LexFault) (refusal : Refusal) → reading text ≡ lexed
      → of_tokens rule number text lexed ≡ Err refusal → IsStuck number text refusal
  by_tokens number text (Ok tokens) refusal is e = by_outcome number text tokens (whole rule (lexemes tokens)) refusal refl is e
  by_tokens number text (Err fault) refusal is e =
      subst (IsStuck number text) (err_same (record { text = number; line = fault.line; column = fault.column; what = Lexical fault.kind }) refusal e)
      (lexical number text fault is)

  text_stuck : (number : ℕ) (text : Bytes) (refusal : Refusal) → read_text rule number text ≡ Err refusal → IsStuck number text refusal
  text_stuck number text refusal e = by_tokens number text (reading text) refusal refl e

  -- ---- the texts of a kind

  -- the first that has no tree
  record FirstStuck (number : ℕ) (all : List Bytes) (refusal : Refusal) : Type 0 where
    place : ℕ
    text : Bytes
    there : slice_get all place ≡ Some text
    is : IsStuck (number + place) text refusal
    before : SomeTrees tokens_of depth_of (take place all)

  texts_stuck : (number : ℕ) (all : List Bytes) (refusal : Refusal) → read_texts rule number all ≡ Err refusal → FirstStuck number all refusal
  texts_stuck number [] refusal e = cc
  texts_stuck number (text ∷ others) refusal e =
      by_first (texts_stuck (number + 1) others refusal)
      (stop (read_text rule number text) (λ first. and_then (read_texts rule (number + 1) others) (λ rest. Ok (first ∷ rest))) refusal e)
    where
      here : number + 0 ≡ number
      here = omega arith

      next : (k : ℕ) → number + 1 + k ≡ number + suc k
      next k = omega arith

      later : (r : ReadText T) → read_text rule number text ≡ Ok r → FirstStuck (number + 1) others refusal → FirstStuck number (text ∷ others) refusal
      later r is f = record {
        place = suc f.place;
        text = f.text;
        there = f.there;
        is = subst (λ n. IsStuck n f.text refusal) (next f.place) f.is;
        before = (r.tree ∷ f.before.0, (text_spells rule tokens_of depth_of exact number text r is, f.before.1));
      }

      by_rest : (read_texts rule (number + 1) others ≡ Err refusal → FirstStuck (number + 1) others refusal) → (r : ReadText T) → read_text rule number text ≡ Ok r → Stop (read_texts rule (number + 1) others) (λ rest. Ok (r ∷ rest)) refusal
          → FirstStuck number (text ∷ others) refusal
      by_rest rest r is (inl h) = later r is (rest h)
      by_rest rest r is (inr h) = let none = h.2 in cc

      by_first : (read_texts rule (number + 1) others ≡ Err refusal → FirstStuck (number + 1) others refusal) → Stop (read_text rule number text) (λ first. and_then (read_texts rule (number + 1) others) (λ rest. Ok (first ∷ rest))) refusal
          → FirstStuck number (text ∷ others) refusal
      by_first rest (inl h) = record {
        place = 0;
        text = text;
        there = refl;
        is = subst (λ n. IsStuck n text refusal) (sym here) (text_stuck number text refusal h);
        before = ([], tt);
      }
      by_first rest (inr h) = by_rest rest h.0 h.1 (stop (read_texts rule (number + 1) others) (λ rest. Ok (h.0 ∷ rest)) refusal h.2)

  before_it : (all : List Bytes) (n : ℕ) (m : Matter) → (m ≡ Meaning → ⊥) → take n all ≡ read_before m n all
  before_it all n Tokens other = refl
  before_it all n Grammar other = refl
  before_it all n Depth other = refl
  before_it all n Meaning other = absurd (other refl)

  one_stuck : (all : List Bytes) (refusal : Refusal) → read_texts rule 0 all ≡ Err refusal → OneRefused rule tokens_of depth_of all refusal
  one_stuck all refusal e =
      let f = texts_stuck 0 all refusal e in
      let from_first : f.place ≡ 0 + f.place = omega arith in
      let number : f.place ≡ refusal.text = from_first ∙ sym f.is.number_is in
      record {
        text = f.text;
        there = ap (slice_get all) (sym number) ∙ f.there;
        refused = f.is.refused;
        before =
            subst (SomeTrees tokens_of depth_of) (before_it all refusal.text (matter refusal.what) f.is.spelling)
            (subst (λ n. SomeTrees tokens_of depth_of (take n all)) number f.before);
      }

  -- one of texts that all have their trees, refused for what it means
  one_meant : (all : List Bytes) (refusal : Refusal) (trees : List T) → AllSpell tokens_of depth_of all trees → matter refusal.what ≡ Meaning
      → refusal.text < length trees → OneRefused rule tokens_of depth_of all refusal
  one_meant all refusal trees spelled e within =
      let at = at_place all refusal.text (subst (λ n. refusal.text < n) (as_many all trees spelled) within) in
      record {
        text = at.0;
        there = at.1;
        refused = subst (IsRefused rule tokens_of depth_of at.0 refusal) (sym e) tt;
        before = subst (λ m. SomeTrees tokens_of depth_of (read_before m refusal.text all)) (sym e) (trees, spelled);
      }
    where
      as_many : (texts : List Bytes) (ts : List T) → AllSpell tokens_of depth_of texts ts → length ts ≡ length texts
      as_many [] [] h = refl
      as_many [] (t ∷ ts) h = absurd h
      as_many (x ∷ texts) [] h = absurd h
      as_many (x ∷ texts) (t ∷ ts) h = ap suc (as_many texts ts h.1)

-- ---- a refused schema or module is one of the texts

numbered_within : {A : Type 0} (from : ℕ) (xs : List A) → AllByRecursion (λ t. t.0 < from + length xs) (enumerate_from from xs)
numbered_within from [] = tt
numbered_within {A} from (x ∷ xs) =
    let first : from < from + length (x ∷ xs) = omega arith in
    let more : from + 1 + length xs ≡ from + length (x ∷ xs) = omega arith in
    (first, subst (λ n. AllByRecursion (λ (t : ℕ × A). t.0 < n) (enumerate_from (from + 1) xs)) more (numbered_within (from + 1) xs))

all_numbered : {A : Type 0} (xs : List A) → AllByRecursion (λ t. t.0 < length xs) (enumerate_from 0 xs)
all_numbered xs =
    let none : 0 + length xs ≡ length xs = omega arith in
    subst (λ n. AllByRecursion (λ t. t.0 < n) (enumerate_from 0 xs)) none (numbered_within 0 xs)

module _ (count : ℕ) where
  abbrev IsPart : Part → Type 0
  IsPart p = p.text < count

  parts_within : (texts : List SchemaText) → length texts ≡ count → AllByRecursion IsPart (schema_parts texts)
  parts_within texts many =
      all_flat_mapped (λ t. t.0 < count) IsPart parts_of_text
      (λ t h. all_flat_mapped (λ s. ⊤) IsPart (parts_of_schema t.0)
      (λ s u. (
        h,
        all_mapped (λ e. ⊤) IsPart (λ e. record { text = t.0; schema = s.0; number = Some e.0; user = (s.1).authorization; element = Some e.1 })
            (λ e v. h) (enumerate_from 0 (s.1).elements) (everything (enumerate_from 0 (s.1).elements)),
      ))
      (enumerate_from 0 ((t.1).first ∷ (t.1).rest)) (everything (enumerate_from 0 ((t.1).first ∷ (t.1).rest))))
      (enumerate_from 0 texts) (subst (λ n. AllByRecursion (λ (t : ℕ × SchemaText). t.0 < n) (enumerate_from 0 texts)) many (all_numbered texts))
    where
      everything : {A : Type 0} (xs : List A) → AllByRecursion (λ x. ⊤) xs
      everything [] = tt
      everything (x ∷ xs) = (tt, everything xs)

  first_part : (users : List Name) (before : Elements) (parts : List Part) → AllByRecursion IsPart parts → IfSome (first_refusal users before parts) (λ r. r.text < count)
  first_part users before [] h = tt
  first_part users before (p ∷ ps) h =
      by_fault (part_fault users before p.user p.element) (first_refusal (users_with users p.user p.element) (elements_with before p.user p.element) ps) (first_part (users_with users p.user p.element) (elements_with before p.user p.element) ps h.1)
    where
      by_fault : (o : Option SchemaFault) (others : Option SchemaRefusal) → IfSome others (λ r. r.text < count)
          → IfSome (option_or (option_map (part_refusal p) o) others) (λ r. r.text < count)
      by_fault (Some f) others further = h.0
      by_fault None others further = further

  item_text : (text : ℕ) (f : ModuleFault) (place : Option ℕ) → text < count → IfSome (at_item text f place) (λ r. r.text < count)
  item_text text f None h = tt
  item_text text f (Some i) h = h

  name_text : (earlier : List Name) (text : ℕ) (m : ModuleText) → text < count → IfSome (name_refusal earlier text m) (λ r. r.text < count)
  name_text earlier text m h = by_name (is_among earlier m.name)
    where
      by_name : (b : Bool) → IfSome {T = ModuleRefusal} (if b then Some (record { text = text; item = None; fault = module_fault.TwoModules }) else None) (λ r. r.text < count)
      by_name true = h
      by_name false = tt

  first_has : (os : List (Option ModuleRefusal)) → AllByRecursion (λ o. IfSome o (λ r. r.text < count)) os → IfSome (first_some os) (λ r. r.text < count)
  first_has [] all = tt
  first_has (None ∷ os) all = first_has os all.1
  first_has (Some x ∷ os) all = all.0

  -- the refusals that are looked for in a module, in their order
  abbrev refusals : List Name → ℕ → ModuleText → List (Option ModuleRefusal)
  refusals earlier text m =
      name_refusal earlier text m
      ∷ at_item text module_fault.TwoProcedures (first_repeated (map procedure_name m.items))
      ∷ at_item text module_fault.TwoCursors (first_repeated (map cursor_name m.items))
      ∷ at_item text module_fault.OpenCount (position (has_open_count m) m.items)
      ∷ at_item text module_fault.StatusParameter (position has_status_fault m.items)
      ∷ at_item text module_fault.BadParameter (position has_bad_parameter m.items) ∷ []

  module_text : (earlier : List Name) (text : ℕ) (m : ModuleText) → text < count → IfSome (refusal_in earlier text m) (λ r. r.text < count)
  module_text earlier text m h =
      let found : AllByRecursion (λ o. IfSome o (λ r. r.text < count)) (refusals earlier text m)
      = (
        name_text earlier text m h,
        (
          item_text text module_fault.TwoProcedures (first_repeated (map procedure_name m.items)) h,
          (
            item_text text module_fault.TwoCursors (first_repeated (map cursor_name m.items)) h,
            (
              item_text text module_fault.OpenCount (position (has_open_count m) m.items) h,
              (
                item_text text module_fault.StatusParameter (position has_status_fault m.items) h,
                (item_text text module_fault.BadParameter (position has_bad_parameter m.items) h, tt),
              ),
            ),
          ),
        ),
      ) in
      first_has (refusals earlier text m) found

found_is : {A : Type 0} (P : A → Type 0) (o : Option A) (x : A) → o ≡ Some x → IfSome o P → P x
found_is P None x e h = cc
found_is P (Some y) x e h = let same : y ≡ x = cc in subst P same h

schema_within : (trees : List SchemaText) (r : SchemaRefusal) → first_schema_refusal trees ≡ Some r → r.text < length trees
schema_within trees r e =
    found_is (λ x. x.text < length trees) (first_schema_refusal trees) r e
    (first_part (length trees) [] [] (schema_parts trees) (parts_within (length trees) trees refl))

module_within : (trees : List ModuleText) (r : ModuleRefusal) → first_module_refusal trees ≡ Some r → r.text < length trees
module_within trees r e =
    found_is (λ x. x.text < length trees) (first_module_refusal trees) r e
    (first_has (length trees) (map (λ m. refusal_in (modules_before trees m.0) m.0 m.1) (enumerate_from 0 trees))
    (all_mapped (λ m. m.0 < length trees) (λ o. IfSome o (λ r. r.text < length trees)) (λ m. refusal_in (modules_before trees m.0) m.0 m.1)
    (λ m h. module_text (length trees) (modules_before trees m.0) m.0 m.1 h) (enumerate_from 0 trees) (all_numbered trees)))

-- ---- the texts of a kind, read and judged

number_told : {T : Type 0} (number : ℕ) (token_in : T → ℕ) (what : RefusalName) (o : Option (ReadText T)) → (refused_text number token_in what o).text ≡ number
number_told number token_in what None = refl
number_told number token_in what (Some t) = refl

name_told : {T : Type 0} (number : ℕ) (token_in : T → ℕ) (what : RefusalName) (o : Option (ReadText T)) → (refused_text number token_in what o).what ≡ what
name_told number token_in what None = refl
name_told number token_in what (Some t) = refl

schemas_refused : (schemas : List Bytes) (refusal : Refusal) → accepted_schemas schemas ≡ Err refusal
    → OneRefused schema_rule schema_tokens schema_depth schemas refusal
schemas_refused schemas refusal e =
    by_step (stop (read_texts schema_rule 0 schemas) (λ texts. accepted_unless (option_map (refused_schema texts) (first_schema_refusal (trees_of texts))) (trees_of texts)) refusal e)
  where
    meant : (texts : List (ReadText SchemaText)) → read_texts schema_rule 0 schemas ≡ Ok texts → (f : SchemaRefusal)
        → first_schema_refusal (trees_of texts) ≡ Some f → refused_schema texts f ≡ refusal → OneRefused schema_rule schema_tokens schema_depth schemas refusal
    meant texts read f first is =
        let token_in : SchemaText → ℕ = λ tree. refused_part tree f.schema f.element in
        let name : RefusalName = Schema (record { fault = f.fault }) in
        let there = slice_get texts f.text in
        one_meant schema_rule schema_tokens schema_depth schemas_exact schemas refusal (trees_of texts)
        (texts_spell schema_rule schema_tokens schema_depth schemas_exact 0 schemas texts read)
        (sym (ap (λ r. matter r.what) is) ∙ ap matter (name_told f.text token_in name there))
        (subst (λ n. n < length (trees_of texts)) (sym (number_told f.text token_in name there) ∙ ap (λ r. r.text) is) (schema_within (trees_of texts) f first))

    by_step : Stop (read_texts schema_rule 0 schemas) (λ texts. accepted_unless (option_map (refused_schema texts) (first_schema_refusal (trees_of texts))) (trees_of texts)) refusal
        → OneRefused schema_rule schema_tokens schema_depth schemas refusal
    by_step (inl h) = one_stuck schema_rule schema_tokens schema_depth schemas_exact schemas refusal h
    by_step (inr h) =
        let found = judged (refused_schema h.0) (first_schema_refusal (trees_of h.0)) (trees_of h.0) refusal h.2 in
        meant h.0 h.1 found.0 found.1 found.2

modules_refused : (modules : List Bytes) (refusal : Refusal) → accepted_modules modules ≡ Err refusal
    → OneRefused module_rule module_tokens module_depth modules refusal
modules_refused modules refusal e =
    by_step (stop (read_texts module_rule 0 modules) (λ texts. accepted_unless (option_map (refused_module texts) (first_module_refusal (trees_of texts))) (trees_of texts)) refusal e)
  where
    meant : (texts : List (ReadText ModuleText)) → read_texts module_rule 0 modules ≡ Ok texts → (f : ModuleRefusal)
        → first_module_refusal (trees_of texts) ≡ Some f → refused_module texts f ≡ refusal → OneRefused module_rule module_tokens module_depth modules refusal
    meant texts read f first is =
        let token_in : ModuleText → ℕ = λ tree. refused_start tree f.item in
        let there = slice_get texts f.text in
        one_meant module_rule module_tokens module_depth modules_exact modules refusal (trees_of texts)
        (texts_spell module_rule module_tokens module_depth modules_exact 0 modules texts read)
        (sym (ap (λ r. matter r.what) is) ∙ ap matter (name_told f.text token_in (Module f.fault) there))
        (subst (λ n. n < length (trees_of texts)) (sym (number_told f.text token_in (Module f.fault) there) ∙ ap (λ r. r.text) is) (module_within (trees_of texts) f first))

    by_step : Stop (read_texts module_rule 0 modules) (λ texts. accepted_unless (option_map (refused_module texts) (first_module_refusal (trees_of texts))) (trees_of texts)) refusal
        → OneRefused module_rule module_tokens module_depth modules refusal
    by_step (inl h) = one_stuck module_rule module_tokens module_depth modules_exact modules refusal h
    by_step (inr h) =
        let found = judged (refused_module h.0) (first_module_refusal (trees_of h.0)) (trees_of h.0) refusal h.2 in
        meant h.0 h.1 found.0 found.1 found.2

item_means : (f : ScriptFault) → matter (script_fault_name f) ≡ Meaning
item_means script_fault.UnknownProcedure = refl
item_means script_fault.UnknownTable = refl
item_means script_fault.BadArguments = refl

script_refused : (elements : Elements) (modules : List ModuleText) (script : Bytes) (refusal : Refusal) → accepted_script elements modules script ≡ Err refusal
    → OneRefused script_rule script_tokens script_depth (script ∷ []) refusal
script_refused elements modules script refusal e =
    by_step (stop (read_text script_rule 0 script) (λ t. accepted_unless (option_map (refused_script t) (first_script_refusal elements modules t.tree)) t.tree) refusal e)
  where
    by_step : Stop (read_text script_rule 0 script) (λ t. accepted_unless (option_map (refused_script t) (first_script_refusal elements modules t.tree)) t.tree) refusal
        → OneRefused script_rule script_tokens script_depth (script ∷ []) refusal
    by_step (inl h) =
        one_stuck script_rule script_tokens script_depth scripts_exact (script ∷ []) refusal
        (ap (λ r. and_then r (λ first. Ok (first ∷ []))) h)
    by_step (inr h) =
        let found = judged (refused_script h.0) (first_script_refusal elements modules (h.0).tree) (h.0).tree refusal h.2 in
        one_meant script_rule script_tokens script_depth scripts_exact (script ∷ []) refusal ((h.0).tree ∷ [])
        (text_spells script_rule script_tokens script_depth scripts_exact 0 script h.0 h.1, tt)
        (sym (ap (λ r. matter r.what) found.2) ∙ item_means (found.0).fault)
        (subst (λ n. n < 1) (ap (λ r. r.text) found.2) (omega arith))

-- ---- all texts

module _ (row_numbers : ℕ) (schemas modules : List Bytes) (script : Bytes) where
  abbrev modules_step : List SchemaText → List ModuleText → Result Program RunFault
  modules_step schema_trees module_trees = Ok (program_of schema_trees module_trees row_numbers)

  abbrev schemas_step : List SchemaText → Result Program RunFault
  schemas_step schema_trees = and_then (refused_as ModuleRefused (accepted_modules modules)) (modules_step schema_trees)

  abbrev script_step : Program → ScriptText → Result Task RunFault
  script_step machine tree = Ok (asked_of machine tree)

  abbrev opened_step : Program → Result Task RunFault
  opened_step machine = and_then (refused_as ScriptRefused (accepted_script machine.elements machine.modules script)) (script_step machine)

  abbrev Told : RunFault → Type 0
  Told fault = RefusedText schemas modules script fault

  of_schemas : (fault : RunFault) → refused_as SchemaRefused (accepted_schemas schemas) ≡ Err fault → Told fault
  unfolding RefusedText
  of_schemas fault e =
      let by = refused_by SchemaRefused (accepted_schemas schemas) fault e in
      subst Told by.2 (schemas_refused schemas by.0 by.1)

  of_modules : (fault : RunFault) → refused_as ModuleRefused (accepted_modules modules) ≡ Err fault → Told fault
  unfolding RefusedText
  of_modules fault e =
      let by = refused_by ModuleRefused (accepted_modules modules) fault e in
      subst Told by.2 (modules_refused modules by.0 by.1)

  of_script : (machine : Program) (fault : RunFault) → refused_as ScriptRefused (accepted_script machine.elements machine.modules script) ≡ Err fault
      → Told fault
  unfolding RefusedText
  of_script machine fault e =
      let by = refused_by ScriptRefused (accepted_script machine.elements machine.modules script) fault e in
      subst Told by.2 (script_refused machine.elements machine.modules script by.0 by.1)

  behind_schemas : (fault : RunFault) (trees : List SchemaText) → Stop (refused_as ModuleRefused (accepted_modules modules)) (modules_step trees) fault
      → Told fault
  behind_schemas fault trees (inl h) = of_modules fault h
  behind_schemas fault trees (inr h) = let none = h.2 in cc

  not_opened : (fault : RunFault) → Stop (refused_as SchemaRefused (accepted_schemas schemas)) schemas_step fault → Told fault
  not_opened fault (inl h) = of_schemas fault h
  not_opened fault (inr h) =
      behind_schemas fault h.0 (stop (refused_as ModuleRefused (accepted_modules modules)) (modules_step h.0) fault h.2)

  behind_modules : (fault : RunFault) (machine : Program)
      → Stop (refused_as ScriptRefused (accepted_script machine.elements machine.modules script)) (script_step machine) fault → Told fault
  behind_modules fault machine (inl h) = of_script machine fault h
  behind_modules fault machine (inr h) = let none = h.2 in cc

  by_opened : (fault : RunFault) → Stop (accepted_program schemas modules row_numbers) opened_step fault → Told fault
  by_opened fault (inl h) = not_opened fault (stop (refused_as SchemaRefused (accepted_schemas schemas)) schemas_step fault h)
  by_opened fault (inr h) =
      behind_modules fault h.0 (stop (refused_as ScriptRefused (accepted_script (h.0).elements (h.0).modules script)) (script_step h.0) fault h.2)

  pub refusals_tell : RefusalsTell row_numbers schemas modules script
  unfolding RefusalsTell
  refusals_tell fault e = by_opened fault (stop (accepted_program schemas modules row_numbers) opened_step fault e)
