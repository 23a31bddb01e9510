-- Laws of what texts come to: those that are accepted spell trees, and no text spells two.
use Rattle.std.proofs.Common.{◌≡◌, ℕ, ◌+◌, List, [], ◌∷◌, Option, Some, None, Result, Ok, Err, refl, sym, ap, subst, ◌∙◌}
use Rattle.std.specs.Option.{option_map}
use Rattle.sq_lex.specs.Reading.{reading}
use Rattle.sq_lex.specs.Token.{lexemes}
use Rattle.sq_lex.specs.declared.fault.LexFault.{LexFault}
use Rattle.sq_lex.specs.declared.lexeme.Lexeme.{Lexeme}
use Rattle.sq_lex.specs.declared.token.Token.{Token}
use Rattle.sq_tree.specs.Schema.{schema_tokens, schema_depth}
use Rattle.sq_tree.specs.Module.{module_tokens, module_depth}
use Rattle.sq_tree.specs.Script.{script_tokens, script_depth}
use Rattle.sq_tree.specs.declared.«module».ModuleText.{ModuleText}
use Rattle.sq_tree.specs.declared.schema.SchemaText.{SchemaText}
use Rattle.sq_tree.specs.declared.script.ScriptText.{ScriptText}
use Rattle.sq_grammar.proofs.Unique.OneModule.{one_module_text}
use Rattle.sq_grammar.proofs.Unique.OneSchema.{one_schema_text}
use Rattle.sq_grammar.proofs.Unique.OneScript.{one_script_text}
use Rattle.sq_grammar.proofs.Sound.Spells.{whole_is}
use Rattle.sq_grammar.specs.Reading.{Outcome, Parser, whole}
use Rattle.sq_meaning.specs.ModuleRefusal.{first_module_refusal}
use Rattle.sq_meaning.specs.Schema.{Elements}
use Rattle.sq_meaning.specs.SchemaRefusal.{elements_of, first_schema_refusal}
use Rattle.sq_meaning.specs.Script.{first_script_refusal}
use Rattle.sq_meaning.specs.Report.{Bytes}
use Rattle.sq_meaning.specs.Run.{program_of}
use Rattle.sq_meaning.specs.Machine.{Program}
use Rattle.sq_run.specs.Answer.{Task, accepted_modules, accepted_schemas, accepted_script, accepted_unless, and_then, answered, asked_of, refused_module, accepted_program, read_texts, refused_as, refused_schema, refused_script, task_of, trees_of}
use Rattle.sq_perform.specs.Read.{ReadText, module_rule, of_outcome, of_tokens, read_text, schema_rule, script_rule}
use Rattle.sq_perform.specs.Texts.{AllSpell, Spells, SpellsTree}
use Rattle.sq_perform.specs.declared.refusal.Refusal.{Refusal}
use Rattle.sq_perform.specs.declared.refusal.RunFault.{RunFault}
use Rattle.sq_perform.specs.declared.refusal.RunFault.TheVariants.{SchemaRefused, ModuleRefused, ScriptRefused}
use Rattle.sq_run.proofs.Texts.ReadTexts.{IsExact, modules_exact, schemas_exact, scripts_exact}
use Rattle.sq_run.specs.Accepted.{Accepted, AcceptedSpellTrees, TextsHaveOneTree}

-- ---- steps that ended well

abbrev Step : {A B E : Type 0} → Result A E → (A → Result B E) → B → Type 0
Step {A = A} r f y = (x : A) × (r ≡ Ok x) × (f x ≡ Ok y)

steps : {A B E : Type 0} (r : Result A E) (f : A → Result B E) (y : B) → and_then r f ≡ Ok y → Step r f y
steps (Ok x) f y e = (x, refl, e)
steps (Err fault) f y e = cc

same_ok : {X E : Type 0} (x y : X) → (let a : Result X E = Ok x in let b : Result X E = Ok y in a ≡ b) → x ≡ y
same_ok x y e = cc

named : {A : Type 0} (kind : Refusal → RunFault) (r : Result A Refusal) (x : A) → refused_as kind r ≡ Ok x → r ≡ Ok x
named kind (Ok y) x e = ap Ok (same_ok y x e)
named kind (Err refusal) x e = cc

-- no refusal was found
taken : {A F : Type 0} (say : F → Refusal) (found : Option F) (x y : A) → accepted_unless (option_map say found) x ≡ Ok y → (found ≡ None) × (x ≡ y)
taken say None x y e = (refl, same_ok x y e)
taken say (Some f) x y e = cc

-- ---- texts that were read

module _ {T : Type 0} (rule : Parser T) (tokens_of : T → List Lexeme) (depth_of : T → ℕ) (exact : IsExact rule tokens_of depth_of) where
  outcome_spells : (number : ℕ) (text : Bytes) (tokens : List Token) (outcome : Outcome T) (r : ReadText T) → whole rule (lexemes tokens) ≡ outcome → reading text ≡ Ok tokens
      → of_outcome number text tokens outcome ≡ Ok r → SpellsTree tokens_of depth_of text r.tree
  outcome_spells number text tokens (Ok read) r is lexed e =
      let here : ReadText T = record { text = text; tokens = tokens; tree = read.0 } in
      let tree : read.0 ≡ r.tree = ap (λ (t : ReadText T). t.tree) (same_ok here r e) in
      let both = whole_is rule exact.sound (lexemes tokens) read.0 read.1 is in
      subst (SpellsTree tokens_of depth_of text) tree (record { spelled = record { tokens = tokens; read = lexed; same = both.0 }; shallow = both.1 })
  outcome_spells number text tokens (Err left) r is lexed e = cc

  tokens_spell : (number : ℕ) (text : Bytes) (lexed : Result (List Token) LexFault) (r : ReadText T) → reading text ≡ lexed → of_tokens rule number text lexed ≡ Ok r
      → SpellsTree tokens_of depth_of text r.tree
  tokens_spell number text (Ok tokens) r is e = outcome_spells number text tokens (whole rule (lexemes tokens)) r refl is e
  tokens_spell number text (Err fault) r is e = cc

  pub text_spells : (number : ℕ) (text : Bytes) (r : ReadText T) → read_text rule number text ≡ Ok r → SpellsTree tokens_of depth_of text r.tree
  text_spells number text r e = tokens_spell number text (reading text) r refl e

  pub texts_spell : (number : ℕ) (all : List Bytes) (texts : List (ReadText T)) → read_texts rule number all ≡ Ok texts → AllSpell tokens_of depth_of all (trees_of texts)
  texts_spell number [] [] e = tt
  texts_spell number [] (r ∷ texts) e = cc
  texts_spell number (text ∷ others) texts e =
      let one = steps (read_text rule number text) (λ first. and_then (read_texts rule (number + 1) others) (λ rest. Ok (first ∷ rest))) texts e in
      let more = steps (read_texts rule (number + 1) others) (λ rest. Ok (one.0 ∷ rest)) texts one.2 in
      let are : one.0 ∷ more.0 ≡ texts = same_ok (one.0 ∷ more.0) texts more.2 in
      subst (λ ts. AllSpell tokens_of depth_of (text ∷ others) (trees_of ts)) are
      (text_spells number text one.0 one.1, texts_spell (number + 1) others more.0 more.1)

-- ---- texts that are accepted

schemas_are : (schemas : List Bytes) (trees : List SchemaText) → accepted_schemas schemas ≡ Ok trees → AllSpell schema_tokens schema_depth schemas trees × (first_schema_refusal trees ≡ None)
schemas_are schemas trees e =
    let read = steps (read_texts schema_rule 0 schemas) (λ texts. accepted_unless (option_map (refused_schema texts) (first_schema_refusal (trees_of texts))) (trees_of texts)) trees e in
    let none = taken (refused_schema read.0) (first_schema_refusal (trees_of read.0)) (trees_of read.0) trees read.2 in (
      subst (AllSpell schema_tokens schema_depth schemas) none.1 (texts_spell schema_rule schema_tokens schema_depth schemas_exact 0 schemas read.0 read.1),
      ap first_schema_refusal (sym none.1) ∙ none.0,
    )

modules_are : (modules : List Bytes) (trees : List ModuleText) → accepted_modules modules ≡ Ok trees → AllSpell module_tokens module_depth modules trees × (first_module_refusal trees ≡ None)
modules_are modules trees e =
    let read = steps (read_texts module_rule 0 modules) (λ texts. accepted_unless (option_map (refused_module texts) (first_module_refusal (trees_of texts))) (trees_of texts)) trees e in
    let none = taken (refused_module read.0) (first_module_refusal (trees_of read.0)) (trees_of read.0) trees read.2 in (
      subst (AllSpell module_tokens module_depth modules) none.1 (texts_spell module_rule module_tokens module_depth modules_exact 0 modules read.0 read.1),
      ap first_module_refusal (sym none.1) ∙ none.0,
    )

script_is : (elements : Elements) (modules : List ModuleText) (script : Bytes) (tree : ScriptText) → accepted_script elements modules script ≡ Ok tree
    → SpellsTree script_tokens script_depth script tree × (first_script_refusal elements modules tree ≡ None)
script_is elements modules script tree e =
    let read = steps (read_text script_rule 0 script) (λ t. accepted_unless (option_map (refused_script t) (first_script_refusal elements modules t.tree)) t.tree) tree e in
    let none = taken (refused_script read.0) (first_script_refusal elements modules read.0.tree) read.0.tree tree read.2 in (
      subst (SpellsTree script_tokens script_depth script) none.1 (text_spells script_rule script_tokens script_depth scripts_exact 0 script read.0 read.1),
      ap (first_script_refusal elements modules) (sym none.1) ∙ none.0,
    )

module _ (row_numbers : ℕ) (schemas modules : List Bytes) (script : Bytes) where
  abbrev modules_step : List SchemaText → List ModuleText → Result Program RunFault
  modules_step schema_trees module_trees = Ok (program_of schema_trees module_trees row_numbers)

  abbrev schemas_step : List SchemaText → Result Program RunFault
  schemas_step schema_trees = and_then (refused_as ModuleRefused (accepted_modules modules)) (modules_step schema_trees)

  abbrev script_step : Program → ScriptText → Result Task RunFault
  script_step machine tree = Ok (asked_of machine tree)

  abbrev opened_step : Program → Result Task RunFault
  opened_step machine = and_then (refused_as ScriptRefused (accepted_script machine.elements machine.modules script)) (script_step machine)

  pub accepted_are : (task : Task) → answered schemas modules script row_numbers ≡ Ok task → Accepted row_numbers schemas modules script task
  accepted_are task e =
      let o = steps (accepted_program schemas modules row_numbers) opened_step task e in
      let first = steps (refused_as SchemaRefused (accepted_schemas schemas)) schemas_step o.0 o.1 in
      let second = steps (refused_as ModuleRefused (accepted_modules modules)) (modules_step first.0) o.0 first.2 in
      let machine : program_of first.0 second.0 row_numbers ≡ o.0 = same_ok (program_of first.0 second.0 row_numbers) o.0 second.2 in
      let third = steps (refused_as ScriptRefused (accepted_script o.0.elements o.0.modules script)) (script_step o.0) task o.2 in
      let asked = named ScriptRefused (accepted_script o.0.elements o.0.modules script) third.0 third.1 in
      let s = schemas_are schemas first.0 (named SchemaRefused (accepted_schemas schemas) first.0 first.1) in
      let m = modules_are modules second.0 (named ModuleRefused (accepted_modules modules) second.0 second.1) in
      let t = script_is (elements_of first.0) second.0 script third.0 (ap (λ (p : Program). accepted_script p.elements p.modules script) machine ∙ asked) in
      let is : task_of first.0 second.0 third.0 row_numbers ≡ task = ap (λ (p : Program). asked_of p third.0) machine ∙ same_ok (asked_of o.0 third.0) task third.2 in
      record {
        schema_trees = first.0;
        schemas_spell = s.0;
        schemas_accepted = s.1;
        module_trees = second.0;
        modules_spell = m.0;
        modules_accepted = m.1;
        tree = third.0;
        script_spells = t.0;
        script_accepted = t.1;
        task_is = sym is;
      }

  -- ---- laws

  pub accepted_spell_trees : AcceptedSpellTrees row_numbers schemas modules script
  unfolding AcceptedSpellTrees
  accepted_spell_trees = accepted_are

-- The tree of a text is its only one.
one_tree : {T : Type 0} (tokens_of : T → List Lexeme) (one : (a b : T) → tokens_of a ≡ tokens_of b → a ≡ b) (text : Bytes) (a b : T)
    → Spells text (tokens_of a) → Spells text (tokens_of b) → a ≡ b
one_tree tokens_of one text a b p q =
    let same : p.tokens ≡ q.tokens = cc (p.read, q.read) in
    one a b (sym p.same ∙ ap lexemes same ∙ q.same)

pub texts_have_one_tree : TextsHaveOneTree
unfolding TextsHaveOneTree
texts_have_one_tree = (one_tree schema_tokens one_schema_text, one_tree module_tokens one_module_text, one_tree script_tokens one_script_text)
