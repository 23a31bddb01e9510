-- A word or a symbol is the one that has its rank in the table.
use Rattle.std.proofs.Common.{◌≡◌, true, ap}
use Rattle.sq_lex.specs.declared.lexeme.Lexeme.{Lexeme}
use Rattle.sq_lex.specs.declared.lexeme.Lexeme.TheVariants as lexeme
use Rattle.sq_lex.specs.declared.symbol.Symbol.{Symbol}
use Rattle.sq_lex.specs.declared.word.Word.{Word}
use Rattle.sq_lex.proofs.SymbolLemmas.{same_symbol-true}
use Rattle.sq_lex.proofs.WordLemmas.{same_word-true}
use Rattle.sq_grammar.specs.Reading.{is_word, is_symbol, is_token}

is_word-is : (w : Word) (t : Lexeme) → is_word w t ≡ true → t ≡ lexeme.Word w
is_word-is w (lexeme.Word v) e = ap (λ x. lexeme.Word x) (same_word-true v w e)
is_word-is w _ e = cc

is_symbol-is : (s : Symbol) (t : Lexeme) → is_symbol s t ≡ true → t ≡ lexeme.Symbol s
is_symbol-is s (lexeme.Symbol v) e = ap (λ x. lexeme.Symbol x) (same_symbol-true v s e)
is_symbol-is s _ e = cc

pub is_token-is : (token t : Lexeme) → is_token token t ≡ true → t ≡ token
is_token-is (lexeme.Word w) t e = is_word-is w t e
is_token-is (lexeme.Symbol s) t e = is_symbol-is s t e
is_token-is _ t e = cc
