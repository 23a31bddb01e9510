-- Names that are handed in.
use Rattle.std.specs.Prelude.{ℕ, List, [], ◌∷◌, Option, Some, None, Result, Ok, Err}
use Rattle.sq_lex.specs.Reading.{reading}
use Rattle.sq_lex.specs.declared.fault.LexFault.{LexFault}
use Rattle.sq_lex.specs.declared.lexeme.Lexeme.{Lexeme}
use Rattle.sq_lex.specs.declared.lexeme.Lexeme.TheVariants as lexeme
use Rattle.sq_lex.specs.declared.name.Name.{Name}
use Rattle.sq_lex.specs.declared.token.Token.{Token}
use Rattle.sq_exchange.specs.declared.answer.Answer.{Answer}
use Rattle.sq_exchange.specs.declared.answer.Answer.TheVariants.{Unknown}

abbrev pub name_in : Lexeme → Option Name
name_in (lexeme.Name name) = Some name
name_in _ = None

-- the name that is the only token
abbrev pub only_name : List Token → Option Name
only_name [] = None
only_name (token ∷ []) = name_in token.lexeme
only_name (token ∷ other ∷ more) = None

-- the name that a text spells, by what is read of it
abbrev pub name_in_reading : Result (List Token) LexFault → Option Name
name_in_reading (Ok tokens) = only_name tokens
name_in_reading (Err fault) = None

abbrev pub known : Option Name → Result Name Answer
known (Some name) = Ok name
known None = Err Unknown

abbrev pub name_read : List ℕ → Result Name Answer
name_read text = known (name_in_reading (reading text))
