-- Which tokens may follow others in a text: those with which its parse goes on.
use Rattle.std.specs.Prelude.{◌-◌, Bool, true, false, [], ◌∷◌, ◌++◌, Option, Some, None, Result, Ok, Err}
use Rattle.sq_lex.specs.declared.lexeme.Lexeme.{Lexeme}
use Rattle.sq_grammar.specs.declared.brackets.TheConstants.{MAX_DEPTH}
use Rattle.sq_grammar.specs.Reading.{Tokens}
use Rattle.sq_grammar.specs.Module.{module_text}
use Rattle.sq_grammar.specs.Schema.{schema_text}
use Rattle.sq_grammar.specs.Script.{script_text}
use Rattle.sq_parse.specs.Refusal.{parsed}
use Rattle.sq_parse.specs.declared.error.ParseError.{ParseError}
use Rattle.sq_parse.specs.declared.error.ParseError.TheVariants.{NoMemory, Unexpected, TooDeep, EndOfText}
use Rattle.sq_advice.specs.declared.kind.TextKind.{TextKind}
use Rattle.sq_advice.specs.declared.kind.TextKind.TheVariants.{Schema, Module, Script}

-- the refusal of a parse, if it answers one
abbrev pub error_of : {T : Type 0} → Result T ParseError → Option ParseError
error_of (Ok tree) = None
error_of (Err error) = Some error

-- Why a text of these tokens is refused for its grammar, if it is.
unfoldable pub refusal_of : TextKind → Tokens → Option ParseError
refusal_of Schema ts = error_of (parsed (schema_text MAX_DEPTH (MAX_DEPTH - 1)) ts)
refusal_of Module ts = error_of (parsed (module_text MAX_DEPTH) ts)
refusal_of Script ts = error_of (parsed script_text ts)

-- Whether a text is taken, or refused only because it ends.
abbrev pub may_go_on : Option ParseError → Bool
may_go_on None = true
may_go_on (Some EndOfText) = true
may_go_on (Some NoMemory) = false
may_go_on (Some (Unexpected index)) = false
may_go_on (Some (TooDeep index)) = false

-- Whether this token may follow those before it in some text of the kind.
abbrev pub may_follow : TextKind → Tokens → Lexeme → Bool
may_follow kind before token = may_go_on (refusal_of kind (before ++ token ∷ []))
