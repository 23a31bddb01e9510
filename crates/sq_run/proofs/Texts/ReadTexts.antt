-- Reading a text by the rule of the grammar gives the tree that the text spells, or no tree spells it.
use Rattle.std.proofs.Common.{◌≡◌, ℕ, zero, suc, ◌+◌, List, [], ◌∷◌, ◌++◌, slice_get, take, Some, Ok, Err, refl, sym, ap, subst, ◌∙◌, append-nil, arith, lit≤}
use Rattle.sq_lex.specs.Position.{position}
use Rattle.sq_lex.specs.Reading.{reading}
use Rattle.sq_lex.specs.Token.{lexemes}
use Rattle.sq_lex.specs.declared.lexeme.Lexeme.{Lexeme}
use Rattle.sq_lex.specs.declared.token.Token.{Token}
use Rattle.sq_tree.specs.Schema.{schema_tokens, schema_depth}
use Rattle.sq_tree.specs.Module.{module_tokens, module_depth}
use Rattle.sq_tree.specs.Script.{script_tokens, script_depth}
use Rattle.sq_grammar.specs.Reading.{Outcome, Parser, end_of, whole}
use Rattle.sq_grammar.specs.Reading as grammar
use Rattle.sq_grammar.specs.declared.brackets.TheConstants.{MAX_DEPTH}
use Rattle.sq_grammar.proofs.Taken.Takes.{Takes}
use Rattle.sq_grammar.proofs.Taken.TextTakes.{module_taken, schema_taken, script_taken}
use Rattle.sq_grammar.proofs.Sound.Spells.{Sound}
use Rattle.sq_grammar.proofs.Sound.ModuleSound.{module_sound}
use Rattle.sq_grammar.proofs.Sound.SchemaSound.{schema_sound}
use Rattle.sq_grammar.proofs.Sound.ScriptSound.{script_sound}
use Rattle.sq_meaning.specs.Report.{Bytes}
use Rattle.sq_run.specs.Answer.{and_then, read_texts, trees_of}
use Rattle.sq_perform.specs.Read.{ReadText, module_rule, of_outcome, of_tokens, read_text, refusal_at, refusal_of, schema_rule, script_rule, start_of}
use Rattle.sq_perform.specs.Refusal.{Matter, Tokens, Grammar, Depth, Meaning, IsRefused, OneRefused, StandsAt, matter, read_before}
use Rattle.sq_perform.specs.Texts.{AllSpell, SpellsTree}
use Rattle.sq_perform.specs.declared.refusal.Refusal.{Refusal}
use Rattle.sq_perform.specs.declared.refusal.RefusalName.{RefusalName}
use Rattle.sq_perform.specs.declared.refusal.RefusalName.TheVariants.{Lexical}

pub same_refusal : (a b : Refusal) → a.text ≡ b.text → a.line ≡ b.line → a.column ≡ b.column → a.what ≡ b.what → a ≡ b
same_refusal a b text line column name = (λ i. record { text = text i; line = line i; column = column i; what = name i })

-- a rule reads the tokens of each tree that is not too deep as this tree, and what it reads are the tokens of its tree
pub record IsExact {T : Type 0} (rule : Parser T) (tokens_of : T → List Lexeme) (depth_of : T → ℕ) : Type 0 where
  pub takes : (tree : T) → Takes rule (tokens_of tree) 0 0 (depth_of tree) MAX_DEPTH tree []
  pub sound : Sound rule tokens_of depth_of MAX_DEPTH

pub schemas_exact : IsExact schema_rule schema_tokens schema_depth
schemas_exact = record { takes = schema_taken 31 (lit≤ tt); sound = schema_sound MAX_DEPTH (lit≤ tt) }

pub modules_exact : IsExact module_rule module_tokens module_depth
modules_exact = record { takes = module_taken MAX_DEPTH (lit≤ tt); sound = module_sound MAX_DEPTH (lit≤ tt) }

pub scripts_exact : IsExact script_rule script_tokens script_depth
scripts_exact = record { takes = script_taken MAX_DEPTH (lit≤ tt); sound = script_sound MAX_DEPTH (lit≤ tt) }

-- the text of this number, as it is read
pub record IsReadAt {T : Type 0} (texts : List (ReadText T)) (number : ℕ) (text : Bytes) (tree : T) : Type 0 where
  pub read : ReadText T
  pub there : slice_get texts number ≡ Some read
  pub text_is : read.text ≡ text
  pub tree_is : read.tree ≡ tree
  pub tokens : reading text ≡ Ok read.tokens

module _ {T : Type 0} (rule : Parser T) (tokens_of : T → List Lexeme) (depth_of : T → ℕ) (exact : IsExact rule tokens_of depth_of) where
  -- ---- one text

  -- a text as it is read that spells this tree
  abbrev pub read_as : (text : Bytes) (tree : T) → SpellsTree tokens_of depth_of text tree → ReadText T
  read_as text tree spells = record { text = text; tokens = spells.spelled.tokens; tree = tree }

  pub tree_read : (number : ℕ) (text : Bytes) (tree : T) (spells : SpellsTree tokens_of depth_of text tree)
      → read_text rule number text ≡ Ok (read_as text tree spells)
  tree_read number text tree spells =
      let lexed = spells.spelled in
      let all : lexemes lexed.tokens ≡ tokens_of tree ++ [] = lexed.same ∙ sym (append-nil (tokens_of tree)) in
      let read : whole rule (lexemes lexed.tokens) ≡ Ok (tree, []) =
      ap (whole rule) all ∙ ap (λ r. grammar.and_then r end_of) ((exact.takes tree).taken spells.shallow) in
      ap (of_tokens rule number text) lexed.read ∙ ap (of_outcome number text lexed.tokens) read

  -- a refusal for how a text is spelled is what reading it comes to
  pub misread : (text : Bytes) (refusal : Refusal) (m : Matter) → (m ≡ Meaning → ⊥) → IsRefused rule tokens_of depth_of text refusal m
      → read_text rule refusal.text text ≡ Err refusal
  misread text refusal Tokens other is =
      let found : Refusal = record { text = refusal.text; line = is.fault.line; column = is.fault.column; what = Lexical is.fault.kind } in
      ap (of_tokens rule refusal.text text) is.read ∙ ap Err (same_refusal found refusal refl (sym is.line) (sym is.column) (sym is.what))
  misread text refusal Grammar other is = is.0
  misread text refusal Depth other is = is.0
  misread text refusal Meaning other is = absurd (other refl)

  -- ---- the texts of a kind

  pub reads : (all : List Bytes) (trees : List T) → AllSpell tokens_of depth_of all trees → List (ReadText T)
  reads [] [] spelled = []
  reads [] (tree ∷ trees) spelled = absurd spelled
  reads (text ∷ others) [] spelled = absurd spelled
  reads (text ∷ others) (tree ∷ trees) spelled = read_as text tree spelled.0 ∷ reads others trees spelled.1

  pub all_read : (number : ℕ) (all : List Bytes) (trees : List T) (spelled : AllSpell tokens_of depth_of all trees)
      → read_texts rule number all ≡ Ok (reads all trees spelled)
  unfolding reads
  all_read number [] [] spelled = refl
  all_read number [] (tree ∷ trees) spelled = absurd spelled
  all_read number (text ∷ others) [] spelled = absurd spelled
  all_read number (text ∷ others) (tree ∷ trees) spelled =
      ap (λ r. and_then r (λ first. and_then (read_texts rule (number + 1) others) (λ rest. Ok (first ∷ rest)))) (tree_read number text tree spelled.0)
      ∙ ap (λ r. and_then r (λ rest. Ok (read_as text tree spelled.0 ∷ rest))) (all_read (number + 1) others trees spelled.1)

  pub trees_read : (all : List Bytes) (trees : List T) (spelled : AllSpell tokens_of depth_of all trees) → trees_of (reads all trees spelled) ≡ trees
  unfolding reads
  trees_read [] [] spelled = refl
  trees_read [] (tree ∷ trees) spelled = absurd spelled
  trees_read (text ∷ others) [] spelled = absurd spelled
  trees_read (text ∷ others) (tree ∷ trees) spelled = ap (λ ts. tree ∷ ts) (trees_read others trees spelled.1)

  pub read_there : (all : List Bytes) (trees : List T) (spelled : AllSpell tokens_of depth_of all trees) (number : ℕ) (text : Bytes) (tree : T)
      → slice_get all number ≡ Some text → slice_get trees number ≡ Some tree → IsReadAt (reads all trees spelled) number text tree
  unfolding reads
  read_there [] trees spelled number text tree at tree_at = cc
  read_there (x ∷ all) [] spelled number text tree at tree_at = cc
  read_there (x ∷ all) (t ∷ trees) spelled zero text tree at tree_at =
      let same : x ≡ text = cc at in
      let same_tree : t ≡ tree = cc tree_at in
      record {
        read = read_as x t spelled.0;
        there = refl;
        text_is = same;
        tree_is = same_tree;
        tokens = subst (λ y. reading y ≡ Ok spelled.0.spelled.tokens) same spelled.0.spelled.read;
      }
  read_there (x ∷ all) (t ∷ trees) spelled (suc number) text tree at tree_at =
      let rest = read_there all trees spelled.1 number text tree at tree_at in
      record { read = rest.read; there = rest.there; text_is = rest.text_is; tree_is = rest.tree_is; tokens = rest.tokens }

  -- the first text that has no tree stops the reading
  pub stops : (number k : ℕ) (all : List Bytes) (trees : List T) (text : Bytes) (refusal : Refusal) → slice_get all k ≡ Some text
      → AllSpell tokens_of depth_of (take k all) trees → read_text rule (number + k) text ≡ Err refusal → read_texts rule number all ≡ Err refusal
  stops number k [] trees text refusal at before is = cc
  stops number zero (x ∷ all) trees text refusal at before is =
      let same : text ≡ x = cc at in
      let here : number + 0 ≡ number = omega arith in
      ap (λ r. and_then r (λ first. and_then (read_texts rule (number + 1) all) (λ rest. Ok (first ∷ rest))))
      (sym (ap (read_text rule (number + 0)) same ∙ ap (λ n. read_text rule n x) here) ∙ is)
  stops number (suc k) (x ∷ all) [] text refusal at before is = absurd before
  stops number (suc k) (x ∷ all) (t ∷ trees) text refusal at before is =
      let there : number + suc k ≡ number + 1 + k = omega arith in
      ap (λ r. and_then r (λ first. and_then (read_texts rule (number + 1) all) (λ rest. Ok (first ∷ rest)))) (tree_read number x t before.0)
      ∙ ap (λ r. and_then r (λ rest. Ok (read_as x t before.0 ∷ rest)))
      (stops (number + 1) k all trees text refusal at before.1 (ap (λ n. read_text rule n text) (sym there) ∙ is))

  before_it : (all : List Bytes) (refusal : Refusal) (m : Matter) → (m ≡ Meaning → ⊥) → read_before m refusal.text all ≡ take refusal.text all
  before_it all refusal Tokens other = refl
  before_it all refusal Grammar other = refl
  before_it all refusal Depth other = refl
  before_it all refusal Meaning other = absurd (other refl)

  pub texts_misread : (all : List Bytes) (refusal : Refusal) → OneRefused rule tokens_of depth_of all refusal → (matter refusal.what ≡ Meaning → ⊥)
      → read_texts rule 0 all ≡ Err refusal
  texts_misread all refusal one other =
      let m = matter refusal.what in
      let from_first : 0 + refusal.text ≡ refusal.text = omega arith in
      stops 0 refusal.text all one.before.0 one.text refusal one.there
      (subst (λ some. AllSpell tokens_of depth_of some one.before.0) (before_it all refusal m other) one.before.1)
      (ap (λ n. read_text rule n one.text) from_first ∙ misread one.text refusal m other one.refused)

-- ---- where a refusal stands

pub placed : (number : ℕ) (text : Bytes) (tokens : List Token) (index : ℕ) (token : Token) (what : RefusalName) (refusal : Refusal)
    → refusal.text ≡ number → refusal.what ≡ what → slice_get tokens index ≡ Some token → StandsAt text token refusal
    → refusal_of number text tokens index what ≡ refusal
placed number text tokens index token what refusal number_is what_is there stands =
    ap (λ o. refusal_at number what (position text (start_of o))) there
    ∙ same_refusal (refusal_at number what (position text token.start)) refusal (sym number_is) (sym stands.line) (sym stands.column) (sym what_is)
