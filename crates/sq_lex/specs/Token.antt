-- The lexemes of the tokens of a text.
use Rattle.std.specs.Prelude.{List, map}
use Rattle.sq_lex.specs.declared.lexeme.Lexeme.{Lexeme}
use Rattle.sq_lex.specs.declared.token.Token.{Token}

-- the lexemes of a list of tokens, without their positions
abbrev pub lexemes : List Token → List Lexeme
lexemes tokens = map (λ token. token.lexeme) tokens
