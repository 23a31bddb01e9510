-- Round brackets; at most MAX_DEPTH may be open at once (own rule).
use Rattle.std.specs.Prelude.{ℕ, Bool, ◌&&◌, nat_eq, take, drop, fold}
use Rattle.sq_lex.specs.declared.lexeme.Lexeme.TheVariants as lexeme
use Rattle.sq_lex.specs.declared.symbol.Symbol.TheVariants as symbol
use Rattle.sq_tree.specs.Brackets.{open_after}
use Rattle.sq_grammar.specs.declared.brackets.TheConstants.{MAX_DEPTH}
use Rattle.sq_grammar.specs.Reading.{Tokens, sees}

-- how many brackets these tokens leave open
abbrev pub open_brackets : Tokens → ℕ
open_brackets = fold open_after 0

-- the token of this index is an opening bracket, before which as many are open as may be
abbrev pub is_too_deep : Tokens → ℕ → Bool
is_too_deep ts index =
    sees (lexeme.Symbol symbol.Open) (drop index ts) && nat_eq (open_brackets (take index ts)) MAX_DEPTH
