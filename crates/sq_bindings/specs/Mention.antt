-- Whether tokens mention a parameter.
use Rattle.std.specs.Prelude.{Bool, true, false, ◌&&◌, ◌||◌, fold, nat_eq}
use Rattle.std.specs.Cmp.Lexicographic.{pointwise}
use Rattle.sq_lex.specs.declared.lexeme.Lexeme.{Lexeme}
use Rattle.sq_lex.specs.declared.lexeme.Lexeme.TheVariants as lexeme
use Rattle.sq_lex.specs.declared.name.Name.{Name}
use Rattle.sq_lex.specs.declared.symbol.Symbol.TheVariants as symbol
use Rattle.sq_tree.specs.Tree.{Tokens}
use Rattle.sq_bindings.specs.declared.mention.Search.{Search}

abbrev pub is_colon : Lexeme → Bool
is_colon (lexeme.Symbol symbol.Colon) = true
is_colon other = false

-- whether the name was found, after one more token
abbrev pub found_with : Search → Lexeme → Bool
found_with s (lexeme.Name other) = s.found || s.after_colon && pointwise nat_eq other s.name
found_with s other = s.found

-- a search after one more token
abbrev pub searched : Search → Lexeme → Search
searched s token = record s { after_colon = is_colon token; found = found_with s token }

-- Tokens have this name after a colon.
abbrev pub mentions : Name → Tokens → Bool
mentions name tokens =
    (fold searched (record { name = name; after_colon = false; found = false }) tokens).found
