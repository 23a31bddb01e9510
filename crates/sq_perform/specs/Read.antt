-- Reading a text by a rule of the grammar: its tokens and its tree, or the refusal that says why it has none, and where.
use Rattle.std.specs.Prelude.{ℕ, ◌-◌, List, length, slice_get, nat_lt, if◌then◌else◌, Option, Some, None, Result, Ok, Err}
use Rattle.sq_lex.specs.Position.{position}
use Rattle.sq_lex.specs.Reading.{reading}
use Rattle.sq_lex.specs.Token.{lexemes}
use Rattle.sq_lex.specs.declared.fault.LexFault.{LexFault}
use Rattle.sq_lex.specs.declared.position.Position.{Position}
use Rattle.sq_lex.specs.declared.token.Token.{Token}
use Rattle.sq_tree.specs.declared.module.ModuleText.{ModuleText}
use Rattle.sq_tree.specs.declared.schema.SchemaText.{SchemaText}
use Rattle.sq_tree.specs.declared.script.ScriptText.{ScriptText}
use Rattle.sq_grammar.specs.declared.brackets.TheConstants.{MAX_DEPTH}
use Rattle.sq_grammar.specs.Brackets.{is_too_deep}
use Rattle.sq_grammar.specs.Module.{module_text}
use Rattle.sq_grammar.specs.Reading.{Outcome, Parser, whole}
use Rattle.sq_grammar.specs.Schema.{schema_text}
use Rattle.sq_grammar.specs.Script.{script_text}
use Rattle.sq_meaning.specs.Report.{Bytes}
use Rattle.sq_perform.specs.declared.refusal.Refusal.{Refusal}
use Rattle.sq_perform.specs.declared.refusal.RefusalName.{RefusalName}
use Rattle.sq_perform.specs.declared.refusal.RefusalName.TheVariants.{EndOfText, Lexical, TooDeep, Unexpected}

-- the rules of the three kinds of texts
abbrev pub schema_rule : Parser SchemaText
schema_rule = schema_text MAX_DEPTH (MAX_DEPTH - 1)

abbrev pub module_rule : Parser ModuleText
module_rule = module_text MAX_DEPTH

abbrev pub script_rule : Parser ScriptText
script_rule = script_text

-- ---- where a refusal stands

-- the first byte of a token, or of a text that has no such token
abbrev pub start_of : Option Token → ℕ
start_of None = 0
start_of (Some token) = token.start

abbrev pub refusal_at : ℕ → RefusalName → Position → Refusal
refusal_at number what p = record { text = number; line = p.line; column = p.column; what = what }

-- The refusal of the text of this number, at its token of this index. Both count from 0, lines and columns from 1.
abbrev pub refusal_of : ℕ → Bytes → List Token → ℕ → RefusalName → Refusal
refusal_of number text tokens token what =
    refusal_at number what (position text (start_of (slice_get tokens token)))

-- ---- what a text comes to

-- a text that was read
pub record ReadText (T : Type 0) : Type 0 where
  pub text : Bytes
  pub tokens : List Token
  pub tree : T

-- Reading is stuck at the token of this index. A bracket too many takes precedence over any other fault of its token, and a
-- text that ends too early is refused at its last token.
abbrev pub stuck_at : ℕ → Bytes → List Token → ℕ → Refusal
stuck_at number text tokens index =
    if nat_lt index (length tokens)
    then refusal_of number text tokens index (if is_too_deep (lexemes tokens) index then TooDeep else Unexpected)
    else refusal_of number text tokens (length tokens - 1) EndOfText

abbrev pub of_outcome : {T : Type 0} → ℕ → Bytes → List Token → Outcome T → Result (ReadText T) Refusal
of_outcome number text tokens (Ok read) = Ok (record { text = text; tokens = tokens; tree = read.0 })
of_outcome number text tokens (Err left) = Err (stuck_at number text tokens (length tokens - left))

abbrev pub of_tokens : {T : Type 0} → Parser T → ℕ → Bytes → Result (List Token) LexFault
    → Result (ReadText T) Refusal
of_tokens rule number text (Err fault) =
    Err (record { text = number; line = fault.line; column = fault.column; what = Lexical fault.kind })
of_tokens rule number text (Ok tokens) = of_outcome number text tokens (whole rule (lexemes tokens))

-- the text of this number among its kind, read by a rule of the grammar
abbrev pub read_text : {T : Type 0} → Parser T → ℕ → Bytes → Result (ReadText T) Refusal
read_text rule number text = of_tokens rule number text (reading text)
