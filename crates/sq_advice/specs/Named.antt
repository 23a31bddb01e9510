-- The place of the carets that point at a name.
use Rattle.std.specs.Prelude.{ℕ, List, slice_get}
use Rattle.std.specs.Option.{option_map_or}
use Rattle.sq_lex.specs.declared.token.Token.{Token}

-- the first byte of the token of a number, or of the text if there is no such token
abbrev pub start_of : List Token → ℕ → ℕ
start_of tokens index = option_map_or (λ t. t.start) (slice_get tokens index) 0
