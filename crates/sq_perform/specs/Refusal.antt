-- What the refusal of a text says of the text.
use Rattle.std.specs.Prelude.{◌≡◌, ℕ, ◌<◌, List, slice_get, take, Option, None, Some, Ok, Err, ⊤}
use Rattle.sq_grammar.specs.declared.brackets.TheConstants.{MAX_DEPTH}
use Rattle.sq_grammar.specs.Reading.{Parser}
use Rattle.sq_lex.specs.declared.fault.LexFault.{LexFault}
use Rattle.sq_lex.specs.Position.{position}
use Rattle.sq_lex.specs.Reading.{reading}
use Rattle.sq_lex.specs.declared.lexeme.Lexeme.{Lexeme}
use Rattle.sq_lex.specs.declared.token.Token.{Token}
use Rattle.sq_tree.specs.Module.{module_tokens, module_depth}
use Rattle.sq_tree.specs.Starts.{module_item_start, schema_element_start, schema_start}
use Rattle.sq_tree.specs.declared.module.ModuleText.{ModuleText}
use Rattle.sq_tree.specs.declared.schema.SchemaText.{SchemaText}
use Rattle.sq_meaning.specs.ModuleRefusal.{ModuleRefusal as FoundModule, first_module_refusal}
use Rattle.sq_meaning.specs.SchemaRefusal.{SchemaRefusal as FoundSchema}
use Rattle.sq_meaning.specs.declared.refusal.ModuleFault.{ModuleFault}
use Rattle.sq_meaning.specs.declared.refusal.SchemaFault.{SchemaFault}
use Rattle.sq_meaning.specs.declared.refusal.ScriptFault.{ScriptFault}
use Rattle.sq_meaning.specs.declared.refusal.ScriptFault.TheVariants as fault
use Rattle.sq_meaning.specs.Report.{Bytes}
use Rattle.sq_perform.specs.Read.{read_text}
use Rattle.sq_perform.specs.Texts.{AllSpell, SomeTrees, Spells}
use Rattle.sq_perform.specs.declared.refusal.Refusal.{Refusal}
use Rattle.sq_perform.specs.declared.refusal.RefusalName.{RefusalName}
use Rattle.sq_perform.specs.declared.refusal.RefusalName.TheVariants.{BadArguments, EndOfText, Lexical, Module, Schema, TooDeep, Unexpected, UnknownProcedure, UnknownTable}

-- what a refusal speaks of: bytes that are no tokens, tokens that no text of the grammar has, brackets that are nested too deep, or what a text means
pub data Matter : Type 0 where
  Tokens : Matter
  Grammar : Matter
  Depth : Matter
  Meaning : Matter

abbrev pub matter : RefusalName → Matter
matter (Lexical kind) = Tokens
matter Unexpected = Grammar
matter EndOfText = Grammar
matter TooDeep = Depth
matter _ = Meaning

-- the first fault of the text's reading, with its name and place
pub record IsFirstFault (text : Bytes) (refusal : Refusal) : Type 0 where
  pub fault : LexFault
  pub read : reading text ≡ Err fault
  pub what : refusal.what ≡ Lexical fault.kind
  pub line : refusal.line ≡ fault.line
  pub column : refusal.column ≡ fault.column

-- A text without a tree is refused as reading it by the rule of the grammar comes to: by that name, at that line and column.
abbrev pub IsMisread : {T : Type 0} → Parser T → Bytes → Refusal → Type 0
IsMisread rule text refusal = read_text rule refusal.text text ≡ Err refusal

-- What a refusal says of a text: its first fault; or the name and the place where reading it is stuck, and that no tree spells
-- it, or that each tree that spells it nests brackets too deep. A refusal for what a text means says nothing of its trees.
abbrev pub IsRefused : {T : Type 0} → Parser T → (T → List Lexeme) → (T → ℕ) → Bytes → Refusal → Matter → Type 0
IsRefused rule tokens_of depth_of text refusal Tokens = IsFirstFault text refusal
IsRefused {T = T} rule tokens_of depth_of text refusal Grammar =
    IsMisread rule text refusal × ((tree : T) → Spells text (tokens_of tree) → ⊥)
IsRefused {T = T} rule tokens_of depth_of text refusal Depth =
    IsMisread rule text refusal × ((tree : T) → Spells text (tokens_of tree) → MAX_DEPTH < depth_of tree)
IsRefused rule tokens_of depth_of text refusal Meaning = ⊤

-- the texts that were read before a refusal: those before the refused one, and all of its kind where it is refused for what it means
abbrev pub read_before : Matter → ℕ → List Bytes → List Bytes
read_before Tokens text all = take text all
read_before Grammar text all = take text all
read_before Depth text all = take text all
read_before Meaning text all = all

-- the refused text is at its index among these, and those that were read before spell trees
pub record OneRefused {T : Type 0} (rule : Parser T) (tokens_of : T → List Lexeme) (depth_of : T → ℕ)
    (all : List Bytes) (refusal : Refusal) : Type 0 where
  pub text : Bytes
  pub there : slice_get all refusal.text ≡ Some text
  pub refused : IsRefused rule tokens_of depth_of text refusal (matter refusal.what)
  pub before : SomeTrees tokens_of depth_of (read_before (matter refusal.what) refusal.text all)

-- ---- tokens

-- the line and the column of a byte
pub record StandsAtByte (text : Bytes) (byte : ℕ) (refusal : Refusal) : Type 0 where
  pub line : refusal.line ≡ (position text byte).line
  pub column : refusal.column ≡ (position text byte).column

-- the line and the column of the first byte of a token
abbrev pub StandsAt : Bytes → Token → Refusal → Type 0
StandsAt text token refusal = StandsAtByte text token.start refusal

-- the text's token of this number, from 0
pub record IsTokenOf (text : Bytes) (number : ℕ) (token : Token) : Type 0 where
  pub tokens : List Token
  pub read : reading text ≡ Ok tokens
  pub there : slice_get tokens number ≡ Some token

-- ---- schemas

-- the first token of what is refused: of the element of this number in the schema definition, or of the definition
abbrev pub refused_part : SchemaText → ℕ → Option ℕ → ℕ
refused_part s schema None = schema_start s schema
refused_part s schema (Some element) = schema_element_start s schema element

-- The refusal stands at the first token of what is refused in the text of the schema.
pub record StandsInSchema (schemas : List Bytes) (trees : List SchemaText) (found : FoundSchema)
    (refusal : Refusal) : Type 0 where
  pub text : Bytes
  pub there : slice_get schemas found.text ≡ Some text
  pub tree : SchemaText
  pub tree_there : slice_get trees found.text ≡ Some tree
  pub token : Token
  pub first : IsTokenOf text (refused_part tree found.schema found.element) token
  pub stands : StandsAt text token refusal

-- the fault of a schema that a refusal is named for
abbrev pub schema_fault : RefusalName → Option SchemaFault
schema_fault (Schema name) = Some name.fault
schema_fault _ = None

-- The refusal is of this schema's text, named for its fault, at its first token.
pub record IsOfSchema (schemas : List Bytes) (trees : List SchemaText) (found : FoundSchema)
    (refusal : Refusal) : Type 0 where
  pub text : refusal.text ≡ found.text
  pub what : schema_fault refusal.what ≡ Some found.fault
  pub stands : StandsInSchema schemas trees found refusal

-- ---- modules

-- the first token of what is refused: of the cursor or procedure of this number, or of the module
abbrev pub refused_start : ModuleText → Option ℕ → ℕ
refused_start m None = 0
refused_start m (Some item) = module_item_start m item

-- The refusal stands at the first token of what is refused in the text of the module.
pub record StandsInModule (modules : List Bytes) (trees : List ModuleText) (found : FoundModule)
    (refusal : Refusal) : Type 0 where
  pub text : Bytes
  pub there : slice_get modules found.text ≡ Some text
  pub tree : ModuleText
  pub tree_there : slice_get trees found.text ≡ Some tree
  pub token : Token
  pub first : IsTokenOf text (refused_start tree found.item) token
  pub stands : StandsAt text token refusal

-- the fault of a module that a refusal is named for
abbrev pub module_fault : RefusalName → Option ModuleFault
module_fault (Module fault) = Some fault
module_fault _ = None

-- the first refusal of the modules that these texts spell, by the definitions: its text and its fault, at its first token
pub record IsFirstModule (modules : List Bytes) (refusal : Refusal) : Type 0 where
  pub trees : List ModuleText
  pub spelled : AllSpell module_tokens module_depth modules trees
  pub found : FoundModule
  pub first : first_module_refusal trees ≡ Some found
  pub text : refusal.text ≡ found.text
  pub what : module_fault refusal.what ≡ Some found.fault
  pub stands : StandsInModule modules trees found refusal

-- what a refusal says of what the modules mean, if it is one for that
abbrev pub IsOfModules : List Bytes → Refusal → Matter → Type 0
IsOfModules modules refusal Meaning = IsFirstModule modules refusal
IsOfModules modules refusal _ = ⊤

-- ---- the script

-- the fault of a script that a refusal is named for
abbrev pub script_fault : RefusalName → Option ScriptFault
script_fault UnknownProcedure = Some fault.UnknownProcedure
script_fault UnknownTable = Some fault.UnknownTable
script_fault BadArguments = Some fault.BadArguments
script_fault _ = None
