-- Token lists. A tree is spelled by one list of tokens.
use Rattle.std.specs.Prelude.{Bool, true, false, List, [], ◌∷◌, ◌++◌, Option, Some, None}
use Rattle.sq_lex.specs.declared.lexeme.Lexeme.{Lexeme}
use Rattle.sq_lex.specs.declared.lexeme.Lexeme.TheVariants as lexeme
use Rattle.sq_lex.specs.declared.symbol.Symbol.TheVariants as symbol

abbrev pub Tokens : Type 0
Tokens = List Lexeme

-- [ x ]: a Bool says whether x is written
abbrev pub if_written : Bool → Tokens → Tokens
if_written true ts = ts
if_written false ts = []

-- [ x ]: an Option holds the x that is written
abbrev pub optional : {A : Type 0} → (A → Tokens) → Option A → Tokens
optional tokens None = []
optional tokens (Some x) = tokens x

-- "(" x ")"
abbrev pub bracketed : Tokens → Tokens
bracketed ts = lexeme.Symbol symbol.Open ∷ ts ++ lexeme.Symbol symbol.Close ∷ []
