-- The piece at the front of a text (ISO/IEC 9075:1992, 5.2 <token> and <separator>): the longest one from there, or a fault.
use Rattle.std.specs.Prelude.{ℕ, ◌+◌, ◌-◌, ◌<◌, ◌≤◌, Bool, ◌&&◌, ◌||◌, ◌==◌, nat_lt, if◌then◌else◌, List, length, map, take, drop, slice_index, Option, Some, None}
use Rattle.std.specs.Char.{is_ascii_digit, is_ascii_alphabetic, to_ascii_uppercase}
use Rattle.std.specs.List.{prefix_len}
use Rattle.sq_lex.specs.declared.characters.Class.TheVariants as class
use Rattle.sq_lex.specs.declared.fault.LexFaultKind.TheVariants as fault
use Rattle.sq_lex.specs.declared.lexeme.Lexeme.{Lexeme}
use Rattle.sq_lex.specs.declared.lexeme.Lexeme.TheVariants as lexeme
use Rattle.sq_lex.specs.declared.literal.Literal.{Literal}
use Rattle.sq_lex.specs.declared.literal.Literal.TheVariants.{Closed, Open, BadByte}
use Rattle.sq_lex.specs.declared.piece.Piece.{Piece}
use Rattle.sq_lex.specs.declared.piece.Piece.TheVariants as piece
use Rattle.sq_lex.specs.declared.symbol.Symbol.{Symbol}
use Rattle.sq_lex.specs.declared.word.Word.{Word}
use Rattle.sq_lex.specs.Characters.{line_feed, minus, point, quote, is_white, has}
use Rattle.sq_lex.specs.Literal.{literal}
use Rattle.sq_lex.specs.Symbol.{symbol_of_one, symbol_of_two}
use Rattle.sq_lex.specs.Reserved.{reserved}

-- two minus signs
abbrev pub begins_comment : List ℕ → Bool
begins_comment bytes = slice_index bytes 0 == minus && slice_index bytes 1 == minus

-- a comment runs to the end of the line, or of the text
unfoldable pub comment : List ℕ → Piece
comment bytes =
    let size = prefix_len (has class.Comment) bytes in
    if size == length bytes || slice_index bytes size == line_feed then piece.Separator size
    else piece.Fault size fault.BadByte

-- a word that is not reserved is a name
abbrev pub lexeme_of_word : List ℕ → Option Word → Lexeme
lexeme_of_word codes (Some word) = lexeme.Word word
lexeme_of_word codes None = lexeme.Name codes

-- a letter, then letters, digits and `_`, folded to upper case; at most 18 (own rule)
unfoldable pub word : List ℕ → Piece
word bytes =
    let size = prefix_len (has class.Word) bytes in
    let codes = map to_ascii_uppercase (take size bytes) in
    if nat_lt 18 size then piece.Fault 0 fault.LongName
    else piece.Token size (lexeme_of_word codes (reserved codes))

-- a digit, or a point before a digit
abbrev pub begins_number : List ℕ → Bool
begins_number bytes =
    is_ascii_digit (slice_index bytes 0)
    || (slice_index bytes 0 == point && is_ascii_digit (slice_index bytes 1))

-- the number of digits at the front
abbrev pub digits : List ℕ → ℕ
digits bytes = prefix_len (has class.Digit) bytes

-- the size of a point and the digits after it, 0 if there is no point
abbrev pub fraction_size : List ℕ → ℕ
fraction_size bytes = if slice_index bytes 0 == point then 1 + digits (drop 1 bytes) else 0

-- digits with at most one point among, before or after them; at most 18 digits, and no letter directly after them (own rules)
unfoldable pub number : List ℕ → Piece
number bytes =
    let whole = digits bytes in
    let fraction = fraction_size (drop whole bytes) in
    let size = whole + fraction in
    if nat_lt 18 (whole + (fraction - 1)) then piece.Fault 0 fault.LongNumber
    else (if is_ascii_alphabetic (slice_index bytes size) then piece.Fault 0 fault.NumberThenLetter
    else piece.Token size (lexeme.Number (take size bytes)))

-- at most 240 characters (own rule)
abbrev pub piece_of_literal : Literal → Piece
piece_of_literal (Closed characters size) =
    if nat_lt 240 (length characters) then piece.Fault 0 fault.LongText
    else piece.Token (1 + size) (lexeme.Text characters)
piece_of_literal Open = piece.Fault 0 fault.OpenText
piece_of_literal (BadByte at) = piece.Fault (1 + at) fault.BadByte

-- a quote, characters with each quote doubled, and a quote
unfoldable pub text : List ℕ → Piece
text bytes = piece_of_literal (literal (drop 1 bytes))

-- the longer symbol, if there is one
abbrev pub longest_symbol : Option Symbol → Option Symbol → Piece
longest_symbol (Some two) one = piece.Token 2 (lexeme.Symbol two)
longest_symbol None (Some one) = piece.Token 1 (lexeme.Symbol one)
longest_symbol None None = piece.Fault 0 fault.BadByte

unfoldable pub symbol : List ℕ → Piece
symbol bytes = longest_symbol (symbol_of_two (slice_index bytes 0) (slice_index bytes 1))
    (symbol_of_one (slice_index bytes 0))

-- the piece at the front of bytes that are not at their end, by its first byte
unfoldable pub first_piece : List ℕ → Piece
first_piece bytes =
    if is_white (slice_index bytes 0) then piece.Separator 1
    else (if begins_comment bytes then comment bytes
    else (if is_ascii_alphabetic (slice_index bytes 0) then word bytes
    else (if begins_number bytes then number bytes
    else (if slice_index bytes 0 == quote then text bytes
    else symbol bytes))))

-- a separator or a token takes one of n bytes at least, and a fault lies within them
abbrev pub IsWithin : ℕ → Piece → Type 0
IsWithin n (piece.Separator size) = (0 < size) × (size ≤ n)
IsWithin n (piece.Token size lexeme) = (0 < size) × (size ≤ n)
IsWithin n (piece.Fault at kind) = at ≤ n
