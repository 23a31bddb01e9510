-- Round brackets, and how many of them a list of tokens has open at once.
use Rattle.std.specs.Prelude.{ℕ, ◌+◌, ◌-◌, max, [], ◌∷◌}
use Rattle.sq_lex.specs.declared.lexeme.Lexeme.{Lexeme}
use Rattle.sq_lex.specs.declared.lexeme.Lexeme.TheVariants as lexeme
use Rattle.sq_lex.specs.declared.symbol.Symbol.TheVariants as symbol
use Rattle.sq_tree.specs.Tree.{Tokens}

-- the brackets that are open after one more token
abbrev pub open_after : ℕ → Lexeme → ℕ
open_after n (lexeme.Symbol symbol.Open) = n + 1
open_after n (lexeme.Symbol symbol.Close) = n - 1
open_after n _ = n

-- the greatest number of brackets open at once, if n are open before the tokens
abbrev pub deepest_from : ℕ → Tokens → ℕ
deepest_from n [] = n
deepest_from n (t ∷ ts) = max n (deepest_from (open_after n t) ts)

-- the greatest number of brackets open at once, if none is open before the tokens
abbrev pub deepest : Tokens → ℕ
deepest = deepest_from 0
