-- What the faults of a text and of an item say.
use Rattle.std.specs.Prelude.{◌≡◌, ℕ, ◌-◌, ◌<◌, ◌^◌, List, length, slice_get, Option, Some, Ok, ⊤}
use Rattle.sq_lex.specs.Reading.{reading}
use Rattle.sq_lex.specs.declared.lexeme.Lexeme.{Lexeme}
use Rattle.sq_lex.specs.declared.token.Token.{Token}
use Rattle.sq_meaning.specs.Report.{Bytes}
use Rattle.sq_tree.specs.Schema.{schema_tokens, schema_depth}
use Rattle.sq_tree.specs.Module.{module_tokens, module_depth}
use Rattle.sq_tree.specs.Starts.{script_item_start}
use Rattle.sq_tree.specs.declared.script.ScriptText.{ScriptText}
use Rattle.sq_parse.specs.declared.error.ParseError.{ParseError}
use Rattle.sq_parse.specs.declared.error.ParseError.TheVariants as parse
use Rattle.sq_grammar.specs.Reading.{Parser}
use Rattle.sq_session.specs.Session.{Session}
use Rattle.sq_perform.specs.declared.refusal.RefusalName.{RefusalName}
use Rattle.sq_perform.specs.declared.refusal.RefusalName.TheVariants.{Unexpected, TooDeep, EndOfText}
use Rattle.sq_perform.specs.declared.refusal.Refusal.{Refusal}
use Rattle.sq_perform.specs.declared.refusal.RunFault.{RunFault}
use Rattle.sq_perform.specs.declared.refusal.RunFault.TheVariants as run
use Rattle.sq_perform.specs.declared.fault.Fault.{Fault}
use Rattle.sq_perform.specs.declared.fault.Fault.TheVariants.{NoMemory, Refused}
use Rattle.sq_perform.specs.Read.{module_rule, refusal_of, schema_rule, start_of}
use Rattle.sq_perform.specs.Refused.{AreDeclared, IsFirstItem, IsOfSchemas, IsRefusedScript}
use Rattle.sq_perform.specs.Refusal.{Matter, Tokens, Grammar, Depth, Meaning, matter, IsFirstFault, IsOfModules, IsRefused, IsTokenOf, OneRefused, StandsAt, StandsAtByte}

-- why a text is not taken
abbrev pub TextFault : Type 0
TextFault = Fault Refusal

-- why an item of a script is not taken
abbrev pub ItemFault : Type 0
ItemFault = Fault RefusalName

-- A refusal of the text of this number, by this name, unless memory ran out.
abbrev pub IsRefusalIfAny : ℕ → RefusalName → TextFault → Type 0
IsRefusalIfAny number what NoMemory = ⊤
IsRefusalIfAny number what (Refused refusal) = (refusal.text ≡ number) × (refusal.what ≡ what)

-- what a parse's fault means for a text
abbrev pub parse_fault : ℕ → Bytes → List Token → ParseError → TextFault
parse_fault number text tokens parse.NoMemory = NoMemory
parse_fault number text tokens (parse.Unexpected token) = Refused (refusal_of number text tokens token Unexpected)
parse_fault number text tokens (parse.TooDeep token) = Refused (refusal_of number text tokens token TooDeep)
parse_fault number text tokens parse.EndOfText =
    Refused (refusal_of number text tokens (length tokens - 1) EndOfText)

-- the text of this number has no reading
abbrev pub IsUnread : ℕ → Bytes → TextFault → Type 0
IsUnread number text NoMemory = ⊤
IsUnread number text (Refused refusal) =
    (refusal.text ≡ number) × (matter refusal.what ≡ Tokens) × IsFirstFault text refusal

-- a text of this number is refused for what it means
abbrev pub IsOfMeaning : ℕ → TextFault → Type 0
IsOfMeaning number NoMemory = ⊤
IsOfMeaning number (Refused refusal) = (refusal.text ≡ number) × (matter refusal.what ≡ Meaning)

-- an item is refused for its fault, unless memory ran out
abbrev pub IsItemFault : Option RefusalName → ItemFault → Type 0
IsItemFault fault NoMemory = ⊤
IsItemFault fault (Refused what) = fault ≡ Some what

-- A refusal at the token of this number among the text's own tokens, which are few enough to be counted.
pub record IsPlaced (text : Bytes) (number : ℕ) (refusal : Refusal) : Type 0 where
  pub tokens : List Token
  pub read : reading text ≡ Ok tokens
  pub few : length tokens < 2 ^ 64
  pub stands : StandsAtByte text (start_of (slice_get tokens number)) refusal

abbrev pub IsPlacedIfAny : Bytes → ℕ → TextFault → Type 0
IsPlacedIfAny text number NoMemory = ⊤
IsPlacedIfAny text number (Refused refusal) = IsPlaced text number refusal

-- A refusal at a token of the text of this number among others.
abbrev pub IsPlacedAmong : List Bytes → ℕ → ℕ → TextFault → Type 0
IsPlacedAmong all number token fault =
    (text : Bytes) → slice_get all number ≡ Some text → IsPlacedIfAny text token fault

-- the refusal of a script at the first token of an item
pub record IsItemRefusal (script : Bytes) (tree : ScriptText) (number : ℕ) (what : RefusalName)
    (refusal : Refusal) : Type 0 where
  pub text : refusal.text ≡ 0
  pub name : refusal.what ≡ what
  pub token : Token
  pub first : IsTokenOf script (script_item_start tree number) token
  pub stands : StandsAt script token refusal

-- what the fault of an item is for the script
abbrev pub IsOfItem : Bytes → ScriptText → ℕ → ItemFault → TextFault → Type 0
IsOfItem script tree number NoMemory fault = fault ≡ NoMemory
IsOfItem script tree number (Refused what) NoMemory = ⊤
IsOfItem script tree number (Refused what) (Refused refusal) = IsItemRefusal script tree number what refusal

-- what a refusal says of a text that has no tree
abbrev pub IsMisspelled : {T : Type 0} → Parser T → (T → List Lexeme) → (T → ℕ) → Bytes → Refusal → Matter → Type 0
IsMisspelled rule tokens_of depth_of text refusal Tokens = IsRefused rule tokens_of depth_of text refusal Tokens
IsMisspelled rule tokens_of depth_of text refusal Grammar = IsRefused rule tokens_of depth_of text refusal Grammar
IsMisspelled rule tokens_of depth_of text refusal Depth = IsRefused rule tokens_of depth_of text refusal Depth
IsMisspelled rule tokens_of depth_of text refusal Meaning = ⊥

-- what a fault says of the text of this number, which has no tree
abbrev pub IsRefusedText : {T : Type 0} → Parser T → ℕ → (T → List Lexeme) → (T → ℕ) → Bytes → TextFault → Type 0
IsRefusedText rule number tokens_of depth_of text NoMemory = ⊤
IsRefusedText rule number tokens_of depth_of text (Refused refusal) =
    (refusal.text ≡ number) × IsMisspelled rule tokens_of depth_of text refusal (matter refusal.what)

-- what a fault says of one of these texts
abbrev pub SomeRefused : {T : Type 0} → Parser T → (T → List Lexeme) → (T → ℕ) → List Bytes → TextFault → Type 0
SomeRefused rule tokens_of depth_of all NoMemory = ⊤
SomeRefused rule tokens_of depth_of all (Refused refusal) = OneRefused rule tokens_of depth_of all refusal

-- a fault is for how a text is spelled, not for what it means
abbrev pub IsOfSpelling : TextFault → Type 0
IsOfSpelling NoMemory = ⊤
IsOfSpelling (Refused refusal) = matter refusal.what ≡ Meaning → ⊥

-- what a fault says of what these schemas mean
abbrev pub IsSchemaFault : List Bytes → TextFault → Type 0
IsSchemaFault schemas NoMemory = ⊤
IsSchemaFault schemas (Refused refusal) = IsOfSchemas schemas refusal (matter refusal.what)

-- what a fault says of what these modules mean
abbrev pub IsModuleFault : List Bytes → TextFault → Type 0
IsModuleFault modules NoMemory = ⊤
IsModuleFault modules (Refused refusal) = IsOfModules modules refusal (matter refusal.what)

-- what a fault says of a script whose tree a session does not take
abbrev pub IsUntaken : Session → Bytes → TextFault → Type 0
IsUntaken start script NoMemory = ⊤
IsUntaken start script (Refused refusal) = (refusal.text ≡ 0) × IsFirstItem start script refusal

-- what a fault says of a script
abbrev pub IsScriptRefusal : Session → Bytes → TextFault → Type 0
IsScriptRefusal start script NoMemory = ⊤
IsScriptRefusal start script (Refused refusal) =
    (refusal.text ≡ 0) × IsRefusedScript start script refusal (matter refusal.what)

-- what a fault says of the schemas and modules of which no session is made
abbrev pub IsOpeningFault : List Bytes → List Bytes → RunFault → Type 0
IsOpeningFault schemas modules (run.SchemaRefused refusal) =
    OneRefused schema_rule schema_tokens schema_depth schemas refusal × IsOfSchemas schemas refusal (matter refusal.what)
IsOpeningFault schemas modules (run.ModuleRefused refusal) =
    AreDeclared schemas × OneRefused module_rule module_tokens module_depth modules refusal
    × IsOfModules modules refusal (matter refusal.what)
IsOpeningFault schemas modules (run.ScriptRefused refusal) = ⊥
IsOpeningFault schemas modules (run.Write bytes) = ⊥
IsOpeningFault schemas modules (run.NoMemory items) = items ≡ 0

-- what a fault says of a script that asks for nothing that can be done
abbrev pub IsScriptFault : Session → Bytes → RunFault → Type 0
IsScriptFault start script (run.SchemaRefused refusal) = ⊥
IsScriptFault start script (run.ModuleRefused refusal) = ⊥
IsScriptFault start script (run.ScriptRefused refusal) =
    (refusal.text ≡ 0) × IsRefusedScript start script refusal (matter refusal.what)
IsScriptFault start script (run.Write bytes) = ⊥
IsScriptFault start script (run.NoMemory items) = items ≡ 0

-- what the fault of a text is for a run, where a refusal of its kind has this name
abbrev pub run_fault : (Refusal → RunFault) → TextFault → RunFault
run_fault refused NoMemory = run.NoMemory 0
run_fault refused (Refused refusal) = refused refusal
