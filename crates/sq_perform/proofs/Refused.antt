-- What a refusal says of a text, and of the texts of its kind.
use Rattle.std.proofs.Common.{◌≡◌, ℕ, zero, suc, ◌<◌, ◌-◌, nat_lt, Bool, true, false, Err, List, [], ◌∷◌, length, get_or, slice_get, take, Some, Ok, sym, ◌∙◌, ap, subst, refl, arith, Vec}
use Rattle.std.proofs.lemmas.List.{length-map}
use Rattle.std.specs.declared.alloc.Global.{Global}
use Rattle.sq_lex.specs.declared.lexeme.Lexeme.{Lexeme}
use Rattle.sq_lex.specs.declared.token.Token.{Token}
use Rattle.sq_lex.specs.Reading.{reading}
use Rattle.sq_lex.specs.Token.{lexemes}
use Rattle.sq_grammar.specs.declared.brackets.TheConstants.{MAX_DEPTH}
use Rattle.sq_grammar.specs.Brackets.{is_too_deep}
use Rattle.sq_grammar.specs.Reading.{Outcome, Parser, whole}
use Rattle.sq_parse.specs.Refusal.{Answers, HasNoTree, answer, parsed, refusal_at}
use Rattle.sq_parse.specs.declared.error.ParseError.{ParseError}
use Rattle.sq_parse.specs.declared.error.ParseError.TheVariants as parse
use Rattle.sq_tree.specs.Schema.{schema_tokens, schema_depth}
use Rattle.sq_tree.specs.Module.{module_tokens, module_depth}
use Rattle.sq_tree.specs.Script.{script_tokens, script_depth}
use Rattle.sq_meaning.specs.Report.{Bytes}
use Rattle.sq_session.specs.Session.{Session}
use Rattle.sq_perform.specs.Fault.{IsMisspelled, IsModuleFault, IsOfMeaning, IsOfSpelling, IsOpeningFault, IsPlacedAmong, IsPlacedIfAny, IsRefusalIfAny, IsRefusedText, IsSchemaFault, IsScriptFault, IsScriptRefusal, IsUnread, SomeRefused, parse_fault, run_fault, TextFault}
use Rattle.sq_perform.specs.Read.{module_rule, of_outcome, of_tokens, read_text, refusal_of, schema_rule, script_rule, stuck_at}
use Rattle.sq_perform.specs.Refused.{AreDeclared, IsOfSchemas, IsRefusedScript}
use Rattle.sq_perform.specs.Refusal.{Matter, Tokens, Grammar, Depth, Meaning, IsMisread, IsOfModules, IsRefused, OneRefused, matter}
use Rattle.sq_perform.specs.Texts.{AllSpell, Spells, texts}
use Rattle.sq_perform.specs.declared.refusal.Refusal.{Refusal}
use Rattle.sq_perform.specs.declared.refusal.RefusalName.{RefusalName}
use Rattle.sq_perform.specs.declared.refusal.RefusalName.TheVariants.{EndOfText, TooDeep, Unexpected}
use Rattle.sq_perform.specs.declared.refusal.RunFault.TheVariants as run
use Rattle.sq_perform.specs.declared.fault.Fault.TheVariants.{NoMemory, Refused}

-- ---- one text

spelled_by : (text : Bytes) (tokens : List Token) (lexed : List Lexeme) → reading text ≡ Ok tokens → Spells text lexed → lexed ≡ lexemes tokens
spelled_by text tokens lexed read spells =
    let same : spells.tokens ≡ tokens = cc in
    sym spells.same ∙ ap lexemes same

-- no tree has the tokens, so the text spells none
no_trees : {T : Type 0} (tokens_of : T → List Lexeme) (text : Bytes) (tokens : List Token)
    → reading text ≡ Ok tokens → ((tree : T) → tokens_of tree ≡ lexemes tokens → ⊥) → (tree : T) → Spells text (tokens_of tree) → ⊥
no_trees tokens_of text tokens read none = λ tree spells. none tree (spelled_by text tokens (tokens_of tree) read spells)

deep_trees : {T : Type 0} (tokens_of : T → List Lexeme) (depth_of : T → ℕ) (text : Bytes) (tokens : List Token)
    → reading text ≡ Ok tokens → ((tree : T) → tokens_of tree ≡ lexemes tokens → MAX_DEPTH < depth_of tree) → (tree : T) → Spells text (tokens_of tree) → MAX_DEPTH < depth_of tree
deep_trees tokens_of depth_of text tokens read deep = λ tree spells. deep tree (spelled_by text tokens (tokens_of tree) read spells)

by_name : {T : Type 0} (rule : Parser T) (tokens_of : T → List Lexeme) (depth_of : T → ℕ) (text : Bytes) (refusal : Refusal) (m : Matter)
    → matter refusal.what ≡ m → IsMisspelled rule tokens_of depth_of text refusal m → IsMisspelled rule tokens_of depth_of text refusal (matter refusal.what)
by_name rule tokens_of depth_of text refusal m e is = subst (IsMisspelled rule tokens_of depth_of text refusal) (sym e) is

-- ---- where reading is stuck

-- The refusal where reading is stuck is the one of the parse's fault there.
stuck_is : (number : ℕ) (text : Bytes) (tokens : List Token) (index : ℕ) (inside deep : Bool) → nat_lt index (length tokens) ≡ inside → is_too_deep (lexemes tokens) index ≡ deep
    → parse_fault number text tokens (refusal_at (lexemes tokens) index) ≡ Refused (stuck_at number text tokens index)
stuck_is number text tokens index inside deep i d =
    let count : length (lexemes tokens) ≡ length tokens = length-map tokens (λ t. t.lexeme) in
    by inside deep (ap (nat_lt index) count ∙ i) i d
  where
    by : (inside deep : Bool) → nat_lt index (length (lexemes tokens)) ≡ inside → nat_lt index (length tokens) ≡ inside → is_too_deep (lexemes tokens) index ≡ deep
        → parse_fault number text tokens (refusal_at (lexemes tokens) index) ≡ Refused (stuck_at number text tokens index)
    by true true h i d = rw (h, i, d) refl
    by true false h i d = rw (h, i, d) refl
    by false deep h i d = rw (h, i) refl

-- What a parse's fault is for the text, where memory did not run out, is what reading it comes to.
misread_by : {T : Type 0} (rule : Parser T) (number : ℕ) (text : Bytes) (tokens : List Token) (error : ParseError) (refusal : Refusal) (outcome : Outcome T) → whole rule (lexemes tokens) ≡ outcome
    → reading text ≡ Ok tokens → Err error ≡ answer (lexemes tokens) outcome → Refused refusal ≡ parse_fault number text tokens error → read_text rule number text ≡ Err refusal
misread_by rule number text tokens error refusal (Ok read) e is fault same = cc
misread_by rule number text tokens error refusal (Err left) e is fault same =
    let count : length (lexemes tokens) ≡ length tokens = length-map tokens (λ t. t.lexeme) in
    let index = length tokens - left in
    let there : error ≡ refusal_at (lexemes tokens) index = cc (fault, count) in
    let stuck = stuck_is number text tokens index (nat_lt index (length tokens)) (is_too_deep (lexemes tokens) index) refl refl in
    let found : refusal ≡ stuck_at number text tokens index = cc (same, there, stuck) in
    ap (of_tokens rule number text) is ∙ ap (of_outcome number text tokens) e ∙ ap Err (sym found)

number_of : (number : ℕ) (text : Bytes) (tokens : List Token) (error : ParseError) (refusal : Refusal) → Refused refusal ≡ parse_fault number text tokens error → refusal.text ≡ number
number_of number text tokens parse.NoMemory refusal same = cc
number_of number text tokens (parse.Unexpected token) refusal same = let is : refusal ≡ refusal_of number text tokens token Unexpected = cc in ap (λ r. r.text) is
number_of number text tokens (parse.TooDeep token) refusal same = let is : refusal ≡ refusal_of number text tokens token TooDeep = cc in ap (λ r. r.text) is
number_of number text tokens parse.EndOfText refusal same = let is : refusal ≡ refusal_of number text tokens (length tokens - 1) EndOfText = cc in ap (λ r. r.text) is

misread : {T : Type 0} (rule : Parser T) (number : ℕ) (text : Bytes) (tokens : List Token) (error : ParseError) (refusal : Refusal)
    → reading text ≡ Ok tokens → Err error ≡ parsed rule (lexemes tokens) → Refused refusal ≡ parse_fault number text tokens error → IsMisread rule text refusal
misread rule number text tokens error refusal is fault same =
    let text_is : refusal.text ≡ number = number_of number text tokens error refusal same in
    subst (λ n. read_text rule n text ≡ Err refusal) (sym text_is) (misread_by rule number text tokens error refusal (whole rule (lexemes tokens)) refl is fault same)

-- what a parse's fault says of the text
pub unparsed : {T : Type 0} (rule : Parser T) (tokens_of : T → List Lexeme) (depth_of : T → ℕ) (number : ℕ) (text : Bytes) (tokens : List Token) (error : ParseError) (fault : TextFault)
    → reading text ≡ Ok tokens → Answers (parsed rule (lexemes tokens)) (Err error) → HasNoTree tokens_of depth_of (lexemes tokens) error → fault ≡ parse_fault number text tokens error
    → IsRefusedText rule number tokens_of depth_of text fault
unparsed rule tokens_of depth_of number text tokens error NoMemory read answers none is = tt
unparsed rule tokens_of depth_of number text tokens parse.NoMemory (Refused refusal) read answers none is = cc
unparsed rule tokens_of depth_of number text tokens (parse.Unexpected token) (Refused refusal) read answers none is =
    let same : refusal ≡ refusal_of number text tokens token Unexpected = cc in (
      ap (λ r. r.text) same,
      by_name rule tokens_of depth_of text refusal Grammar (ap (λ r. matter r.what) same)
          (misread rule number text tokens (parse.Unexpected token) refusal read answers is, no_trees tokens_of text tokens read none),
    )
unparsed rule tokens_of depth_of number text tokens (parse.TooDeep token) (Refused refusal) read answers none is =
    let same : refusal ≡ refusal_of number text tokens token TooDeep = cc in (
      ap (λ r. r.text) same,
      by_name rule tokens_of depth_of text refusal Depth (ap (λ r. matter r.what) same)
          (misread rule number text tokens (parse.TooDeep token) refusal read answers is, deep_trees tokens_of depth_of text tokens read none),
    )
unparsed rule tokens_of depth_of number text tokens parse.EndOfText (Refused refusal) read answers none is =
    let same : refusal ≡ refusal_of number text tokens (length tokens - 1) EndOfText = cc in (
      ap (λ r. r.text) same,
      by_name rule tokens_of depth_of text refusal Grammar (ap (λ r. matter r.what) same)
          (misread rule number text tokens parse.EndOfText refusal read answers is, no_trees tokens_of text tokens read none),
    )

pub unread : {T : Type 0} (rule : Parser T) (tokens_of : T → List Lexeme) (depth_of : T → ℕ) (number : ℕ) (text : Bytes) (fault : TextFault) → IsUnread number text fault
    → IsRefusedText rule number tokens_of depth_of text fault
unread rule tokens_of depth_of number text NoMemory is = tt
unread rule tokens_of depth_of number text (Refused refusal) is = (is.0, by_name rule tokens_of depth_of text refusal Tokens is.1 is.2)

-- ---- the texts of a kind

-- a text without a tree, behind texts that have theirs
refused_by : {T : Type 0} (rule : Parser T) (tokens_of : T → List Lexeme) (depth_of : T → ℕ) (all : List Bytes) (text : Bytes) (refusal : Refusal) (m : Matter) (trees : List T)
    → slice_get all refusal.text ≡ Some text → AllSpell tokens_of depth_of (take refusal.text all) trees → matter refusal.what ≡ m → IsMisspelled rule tokens_of depth_of text refusal m
    → OneRefused rule tokens_of depth_of all refusal
refused_by rule tokens_of depth_of all text refusal Tokens trees there before e is = record {
  text = text;
  there = there;
  refused = subst (IsRefused rule tokens_of depth_of text refusal) (sym e) is;
  before = (trees, rw e before);
}
refused_by rule tokens_of depth_of all text refusal Grammar trees there before e is = record {
  text = text;
  there = there;
  refused = subst (IsRefused rule tokens_of depth_of text refusal) (sym e) is;
  before = (trees, rw e before);
}
refused_by rule tokens_of depth_of all text refusal Depth trees there before e is = record {
  text = text;
  there = there;
  refused = subst (IsRefused rule tokens_of depth_of text refusal) (sym e) is;
  before = (trees, rw e before);
}
refused_by rule tokens_of depth_of all text refusal Meaning trees there before e is = absurd is

text_at : (all : List (Vec ℕ Global)) (number : ℕ) (text : Vec ℕ Global) → number < length all → text ≡ get_or all number text → slice_get (texts all) number ≡ Some text.items
text_at [] number text lt e = absurd (omega arith)
text_at (v ∷ vs) zero text lt e = ap (λ w. Some w.items) (sym e)
text_at (v ∷ vs) (suc n) text lt e = text_at vs n text (omega arith) e

pub placed_among : (all : List (Vec ℕ Global)) (number : ℕ) (text : Vec ℕ Global) (token : ℕ) (fault : TextFault) → number < length all → text ≡ get_or all number text
    → IsPlacedIfAny text.items token fault → IsPlacedAmong (texts all) number token fault
placed_among all number text token fault lt e placed = λ other at.
    let same : text.items ≡ other = cc (text_at all number text lt e, at) in
    subst (λ t. IsPlacedIfAny t token fault) same placed

pub first_without : {T : Type 0} (rule : Parser T) (tokens_of : T → List Lexeme) (depth_of : T → ℕ) (all : List (Vec ℕ Global)) (number : ℕ) (text : Vec ℕ Global) (fault : TextFault) (trees : List T)
    → number < length all → text ≡ get_or all number text → AllSpell tokens_of depth_of (take number (texts all)) trees → IsRefusedText rule number tokens_of depth_of text.items fault
    → SomeRefused rule tokens_of depth_of (texts all) fault
first_without rule tokens_of depth_of all number text NoMemory trees lt e before is = tt
first_without rule tokens_of depth_of all number text (Refused refusal) trees lt e before is =
    refused_by rule tokens_of depth_of (texts all) text.items refusal (matter refusal.what) trees
    (ap (slice_get (texts all)) is.0 ∙ text_at all number text lt e) (rw is.0 before) refl is.1

-- all texts have trees, and one is refused for what it means
pub one_of_meaning : {T : Type 0} (rule : Parser T) (tokens_of : T → List Lexeme) (depth_of : T → ℕ) (all : List (Vec ℕ Global)) (number : ℕ) (text : Vec ℕ Global) (fault : TextFault) (trees : List T)
    → number < length all → text ≡ get_or all number text → AllSpell tokens_of depth_of (texts all) trees → IsOfMeaning number fault → SomeRefused rule tokens_of depth_of (texts all) fault
one_of_meaning rule tokens_of depth_of all number text NoMemory trees lt e spelled is = tt
one_of_meaning rule tokens_of depth_of all number text (Refused refusal) trees lt e spelled is = record {
  text = text.items;
  there = ap (slice_get (texts all)) is.0 ∙ text_at all number text lt e;
  refused = subst (IsRefused rule tokens_of depth_of text.items refusal) (sym is.1) tt;
  before = (trees, rw is.1 spelled);
}

-- a refusal by a name that speaks of what a text means
pub named : (number : ℕ) (what : RefusalName) (fault : TextFault) → matter what ≡ Meaning → IsRefusalIfAny number what fault → IsOfMeaning number fault
named number what NoMemory e is = tt
named number what (Refused refusal) e is = (is.0, ap matter is.1 ∙ e)

-- ---- schemas and modules

misspelled_only : {T : Type 0} (rule : Parser T) (tokens_of : T → List Lexeme) (depth_of : T → ℕ) (text : Bytes) (refusal : Refusal) (m : Matter) → IsMisspelled rule tokens_of depth_of text refusal m → m ≡ Meaning → ⊥
misspelled_only rule tokens_of depth_of text refusal m is e = subst (IsMisspelled rule tokens_of depth_of text refusal) e is

-- a text that has no tree is not refused for what it means
pub of_spelling : {T : Type 0} (rule : Parser T) (tokens_of : T → List Lexeme) (depth_of : T → ℕ) (number : ℕ) (text : Bytes) (fault : TextFault) → IsRefusedText rule number tokens_of depth_of text fault → IsOfSpelling fault
of_spelling rule tokens_of depth_of number text NoMemory is = tt
of_spelling rule tokens_of depth_of number text (Refused refusal) is = misspelled_only rule tokens_of depth_of text refusal (matter refusal.what) is.1

schemas_by_matter : (schemas : List Bytes) (refusal : Refusal) (m : Matter) → (m ≡ Meaning → ⊥) → IsOfSchemas schemas refusal m
schemas_by_matter schemas refusal Tokens h = tt
schemas_by_matter schemas refusal Grammar h = tt
schemas_by_matter schemas refusal Depth h = tt
schemas_by_matter schemas refusal Meaning h = absurd (h refl)

modules_by_matter : (modules : List Bytes) (refusal : Refusal) (m : Matter) → (m ≡ Meaning → ⊥) → IsOfModules modules refusal m
modules_by_matter modules refusal Tokens h = tt
modules_by_matter modules refusal Grammar h = tt
modules_by_matter modules refusal Depth h = tt
modules_by_matter modules refusal Meaning h = absurd (h refl)

-- A refusal for how a text is spelled says nothing of what schemas or modules mean.
pub spelling_of_schemas : (schemas : List Bytes) (fault : TextFault) → IsOfSpelling fault → IsSchemaFault schemas fault
spelling_of_schemas schemas NoMemory h = tt
spelling_of_schemas schemas (Refused refusal) h = schemas_by_matter schemas refusal (matter refusal.what) h

pub spelling_only : (modules : List Bytes) (fault : TextFault) → IsOfSpelling fault → IsModuleFault modules fault
spelling_only modules NoMemory h = tt
spelling_only modules (Refused refusal) h = modules_by_matter modules refusal (matter refusal.what) h

-- ---- the script

misspelled_is_refused : (s : Session) (script : Bytes) (refusal : Refusal) (m : Matter)
    → IsMisspelled script_rule script_tokens script_depth script refusal m → IsRefusedScript s script refusal m
misspelled_is_refused s script refusal Tokens is = is
misspelled_is_refused s script refusal Grammar is = is
misspelled_is_refused s script refusal Depth is = is
misspelled_is_refused s script refusal Meaning is = absurd is

pub script_without : (s : Session) (script : Bytes) (fault : TextFault) → IsRefusedText script_rule 0 script_tokens script_depth script fault → IsScriptRefusal s script fault
script_without s script NoMemory is = tt
script_without s script (Refused refusal) is = (is.0, misspelled_is_refused s script refusal (matter refusal.what) is.1)

-- ---- what the fault of a text is for a run

pub of_schemas : (schemas modules : List Bytes) (fault : TextFault) → SomeRefused schema_rule schema_tokens schema_depth schemas fault → IsSchemaFault schemas fault
    → IsOpeningFault schemas modules (run_fault run.SchemaRefused fault)
of_schemas schemas modules NoMemory is first = refl
of_schemas schemas modules (Refused refusal) is first = (is, first)

pub of_modules : (schemas modules : List Bytes) (fault : TextFault) → AreDeclared schemas → SomeRefused module_rule module_tokens module_depth modules fault
    → IsModuleFault modules fault → IsOpeningFault schemas modules (run_fault run.ModuleRefused fault)
of_modules schemas modules NoMemory s is first = refl
of_modules schemas modules (Refused refusal) s is first = (s, is, first)

pub of_script : (s : Session) (script : Bytes) (fault : TextFault) → IsScriptRefusal s script fault → IsScriptFault s script (run_fault run.ScriptRefused fault)
of_script s script NoMemory is = refl
of_script s script (Refused refusal) is = is
