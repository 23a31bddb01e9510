-- Two words or symbols that are one token mean the same.
use Rattle.std.proofs.Common.{◌≡◌, [], ◌∷◌, sym, ◌∙◌, ap, Option, Some}
use Rattle.sq_lex.specs.declared.lexeme.Lexeme.{Lexeme}
use Rattle.sq_grammar.specs.Reading.{first_of}
use Rattle.sq_grammar.proofs.Sound.Spells.{some_is}

pub one_token : {A : Type 0} (of : Lexeme → Option A) (token : A → Lexeme) → ((x : A) → of (token x) ≡ Some x) → (x y : A) → token x ∷ [] ≡ token y ∷ [] → x ≡ y
one_token of token is x y same = some_is x y (sym (is x) ∙ ap (first_of of) same ∙ is y)
