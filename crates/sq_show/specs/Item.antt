-- Where an item of a script ends: at the first semicolon outside of text literals and comments (ISO/IEC 9075:1992, 5.2 <comment>, 5.3 <character
-- string literal>). A literal ends at a quote, or is at fault where its line ends; two quotes inside of one end it and begin it again.
use Rattle.std.specs.Prelude.{ℕ, ◌+◌, Bool, true, false, ◌&&◌, ◌||◌, ◌==◌, List, [], ◌∷◌, if◌then◌else◌, Option, Some, None}
use Rattle.std.specs.Option.{option_map}
use Rattle.sq_lex.specs.Characters.{is_line_end, line_feed, minus, quote}
use Rattle.sq_lex.specs.declared.lexeme.Lexeme.{Lexeme}
use Rattle.sq_lex.specs.declared.lexeme.Lexeme.TheVariants as lexeme
use Rattle.sq_lex.specs.declared.symbol.Symbol.TheVariants as symbol
use Rattle.sq_lex.specs.declared.token.Token.{Token}
use Rattle.sq_show.specs.declared.item.Inside.{Inside}
use Rattle.sq_show.specs.declared.item.Inside.TheVariants.{Neither, Minus, Text, Comment}

abbrev pub semicolon : ℕ
semicolon = 59

-- what a byte begins outside of literals and comments
abbrev pub begun_by : ℕ → Inside
begun_by b = if b == quote then Text else (if b == minus then Minus else Neither)

-- where the byte behind this one stands
abbrev pub after : Inside → ℕ → Inside
after Neither b = begun_by b
after Minus b = if b == minus then Comment else begun_by b
after Text b = if b == quote || is_line_end b then Neither else Text
after Comment b = if b == line_feed then Neither else Comment

-- outside of literals and comments
abbrev pub is_outside : Inside → Bool
is_outside Neither = true
is_outside Minus = true
is_outside Text = false
is_outside Comment = false

abbrev pub ends : Inside → ℕ → Bool
ends inside b = b == semicolon && is_outside inside

-- how many bytes there are up to the end of the item, with its semicolon, where the first byte stands there
abbrev pub size_from : Inside → List ℕ → Option ℕ
size_from inside [] = None
size_from inside (b ∷ bytes) =
    if ends inside b then Some 1 else option_map (λ n. n + 1) (size_from (after inside b) bytes)

abbrev pub item_size : List ℕ → Option ℕ
item_size bytes = size_from Neither bytes

-- ---- what the lexer reads: an item ends behind the first token that is a semicolon

abbrev pub is_end : Lexeme → Bool
is_end (lexeme.Symbol symbol.Semicolon) = true
is_end _ = false

abbrev pub lexed_size : List Token → Option ℕ
lexed_size [] = None
lexed_size (token ∷ tokens) = if is_end token.lexeme then Some (token.start + 1) else lexed_size tokens
