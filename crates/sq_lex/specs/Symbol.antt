-- The symbols of ISO/IEC 9075:1992, 5.1 and 5.2, that the language has, and their spellings.
use Rattle.std.specs.Prelude.{ℕ, Bool, nat_eq, Option, Some, None, if◌then◌else◌, ◌==◌}
use Rattle.sq_lex.specs.declared.symbol.Symbol.{Symbol}
use Rattle.sq_lex.specs.declared.symbol.Symbol.TheVariants as symbol

-- `<>` `<=` `>=`
abbrev pub symbol_of_two : ℕ → ℕ → Option Symbol
symbol_of_two a b =
    if a == 60 then (if b == 62 then Some symbol.NotEqual
    else (if b == 61 then Some symbol.LessOrEqual else None))
    else (if a == 62 then (if b == 61 then Some symbol.GreaterOrEqual else None)
    else None)

-- `(` `)` `,` `;` `.` `:` `*` `+` `-` `/` `=` `<` `>`
abbrev pub symbol_of_one : ℕ → Option Symbol
symbol_of_one a =
    if a == 40 then Some symbol.Open
    else (if a == 41 then Some symbol.Close
    else (if a == 44 then Some symbol.Comma
    else (if a == 59 then Some symbol.Semicolon
    else (if a == 46 then Some symbol.Dot
    else (if a == 58 then Some symbol.Colon
    else (if a == 42 then Some symbol.Star
    else (if a == 43 then Some symbol.Plus
    else (if a == 45 then Some symbol.Minus
    else (if a == 47 then Some symbol.Slash
    else (if a == 61 then Some symbol.Equal
    else (if a == 60 then Some symbol.Less
    else (if a == 62 then Some symbol.Greater
    else None))))))))))))

-- by their rank among the symbols
abbrev pub symbol_rank : Symbol → ℕ
symbol_rank symbol.Open = 0
symbol_rank symbol.Close = 1
symbol_rank symbol.Comma = 2
symbol_rank symbol.Semicolon = 3
symbol_rank symbol.Dot = 4
symbol_rank symbol.Colon = 5
symbol_rank symbol.Star = 6
symbol_rank symbol.Plus = 7
symbol_rank symbol.Minus = 8
symbol_rank symbol.Slash = 9
symbol_rank symbol.Equal = 10
symbol_rank symbol.NotEqual = 11
symbol_rank symbol.Less = 12
symbol_rank symbol.Greater = 13
symbol_rank symbol.LessOrEqual = 14
symbol_rank symbol.GreaterOrEqual = 15

abbrev pub same_symbol : Symbol → Symbol → Bool
same_symbol a b = nat_eq (symbol_rank a) (symbol_rank b)
