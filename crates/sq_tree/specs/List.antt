-- Lists with commas and rows without: their tokens.
use Rattle.std.specs.Prelude.{List, ◌∷◌, ◌++◌}
use Rattle.std.specs.List.{flat_map}
use Rattle.sq_lex.specs.declared.lexeme.Lexeme.TheVariants as lexeme
use Rattle.sq_lex.specs.declared.symbol.Symbol.TheVariants as symbol
use Rattle.sq_tree.specs.Tree.{Tokens}
use Rattle.sq_tree.specs.declared.list.CommaList.{CommaList}

-- "," x
abbrev pub comma_then : {A : Type 0} → (A → Tokens) → A → Tokens
comma_then tokens x = lexeme.Symbol symbol.Comma ∷ tokens x

-- x { "," x }
abbrev pub comma_tokens : {A : Type 0} → (A → Tokens) → CommaList A → Tokens
comma_tokens tokens list = tokens list.first ++ flat_map (comma_then tokens) list.rest

-- { x }
abbrev pub row_tokens : {A : Type 0} → (A → Tokens) → List A → Tokens
row_tokens tokens list = flat_map tokens list
