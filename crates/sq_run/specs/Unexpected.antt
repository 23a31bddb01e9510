-- What a refusal named Unexpected says of the token at which it stands.
use Rattle.std.specs.Prelude.{◌≡◌, ◌+◌, ℕ, List, [], ◌∷◌, ◌++◌, take, slice_get, Some, Err}
use Rattle.sq_lex.specs.Token.{lexemes}
use Rattle.sq_lex.specs.declared.lexeme.Lexeme.{Lexeme}
use Rattle.sq_lex.specs.declared.token.Token.{Token}
use Rattle.sq_tree.specs.Schema.{schema_tokens}
use Rattle.sq_tree.specs.Module.{module_tokens}
use Rattle.sq_tree.specs.Script.{script_tokens}
use Rattle.sq_meaning.specs.Report.{Bytes}
use Rattle.sq_perform.specs.Refusal.{IsTokenOf, StandsAt}
use Rattle.sq_perform.specs.declared.refusal.Refusal.{Refusal}
use Rattle.sq_perform.specs.declared.refusal.RefusalName.TheVariants.{Unexpected}
use Rattle.sq_perform.specs.declared.refusal.RunFault.{RunFault}
use Rattle.sq_perform.specs.declared.refusal.RunFault.TheVariants.{SchemaRefused, ModuleRefused, ScriptRefused, Write, NoMemory}
use Rattle.sq_run.specs.Answer.{answered}

-- The refusal stands at a token of the refused text, and no text goes on with it: no tree, however deep, has the tokens
-- up to this one and then any others.
pub record NoTextGoesOn {T : Type 0} (tokens_of : T → List Lexeme) (all : List Bytes)
    (refusal : Refusal) : Type 0 where
  pub text : Bytes
  pub there : slice_get all refusal.text ≡ Some text
  pub number : ℕ
  pub token : Token
  pub token_there : IsTokenOf text number token
  pub stands : StandsAt text token refusal
  pub no_tree : (tree : T) (others : List Lexeme)
      → tokens_of tree ≡ take (number + 1) (lexemes token_there.tokens) ++ others → ⊥

-- The first token with which no text goes on: the tokens before it are the beginning of those of a tree.
pub record IsFirstWrong {T : Type 0} (tokens_of : T → List Lexeme) (all : List Bytes)
    (refusal : Refusal) : Type 0 where
  pub wrong : NoTextGoesOn tokens_of all refusal
  pub tree : T
  pub others : List Lexeme
  pub begins : tokens_of tree ≡ take wrong.number (lexemes wrong.token_there.tokens) ++ others

-- What the token of Unexpected is to the texts of its kind.
unfoldable pub UnexpectedToken : List Bytes → List Bytes → Bytes → RunFault → Type 0
UnexpectedToken schemas modules script (SchemaRefused refusal) =
    refusal.what ≡ Unexpected → IsFirstWrong schema_tokens schemas refusal
UnexpectedToken schemas modules script (ModuleRefused refusal) =
    refusal.what ≡ Unexpected → IsFirstWrong module_tokens modules refusal
UnexpectedToken schemas modules script (ScriptRefused refusal) =
    refusal.what ≡ Unexpected → IsFirstWrong script_tokens (script ∷ []) refusal
UnexpectedToken schemas modules script (Write bytes) = ⊥
UnexpectedToken schemas modules script (NoMemory items) = ⊥

-- So it is of the refusal that texts come to.
unfoldable pub UnexpectedIsFinal : ℕ → List Bytes → List Bytes → Bytes → Type 0
UnexpectedIsFinal row_numbers schemas modules script =
    (fault : RunFault) → answered schemas modules script row_numbers ≡ Err fault
    → UnexpectedToken schemas modules script fault
