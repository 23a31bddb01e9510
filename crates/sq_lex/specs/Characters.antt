-- Kinds of characters (ISO/IEC 9075:1992, 5.1 <SQL terminal character>, here the bytes 32 to 126 with tab, LF and CR).
use Rattle.std.specs.Prelude.{ℕ, ◌≤◌, Bool, ◌&&◌, ◌||◌, ◌==◌, nat_le}
use Rattle.std.specs.Char.{is_ascii_digit, is_ascii_alphabetic}
pub use Rattle.sq_items.specs.Characters.{blank, point, underscore}
use Rattle.sq_lex.specs.declared.characters.Class.{Class}
use Rattle.sq_lex.specs.declared.characters.Class.TheVariants as class

abbrev pub tab : ℕ
tab = 9

abbrev pub line_feed : ℕ
line_feed = 10

abbrev pub carriage_return : ℕ
carriage_return = 13

-- the last printable character
abbrev pub tilde : ℕ
tilde = 126

-- the characters that begin a comment and a literal
abbrev pub minus : ℕ
minus = 45

abbrev pub quote : ℕ
quote = 39

-- blank, tab, CR and LF
abbrev pub is_white : ℕ → Bool
is_white b = b == blank || b == tab || b == carriage_return || b == line_feed

-- CR and LF
abbrev pub is_line_end : ℕ → Bool
is_line_end b = b == carriage_return || b == line_feed

-- a character of a text literal
abbrev pub is_printable : ℕ → Bool
is_printable b = nat_le blank b && nat_le b tilde

abbrev pub IsPrintable : ℕ → Type 0
IsPrintable b = (blank ≤ b) × (b ≤ tilde)

-- a word goes on with letters, digits and `_`; a comment may also have tabs and CR
abbrev pub has : Class → ℕ → Bool
has class.Word b = is_ascii_alphabetic b || is_ascii_digit b || b == underscore
has class.Digit b = is_ascii_digit b
has class.Comment b = is_printable b || b == tab || b == carriage_return
