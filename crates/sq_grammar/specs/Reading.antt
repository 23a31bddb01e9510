-- Reading tokens from left to right. Each production of the grammar is a parser. It answers the tree that it read and the tokens
-- after it, or the place where it is stuck.
use Rattle.std.specs.Prelude.{ℕ, zero, suc, ◌+◌, Bool, true, false, List, [], ◌∷◌, ◌++◌, length, Option, Some, None, Result, Ok, Err, nat_lt, nat_eq, if◌then◌else◌}
use Rattle.sq_lex.specs.declared.lexeme.Lexeme.{Lexeme}
use Rattle.sq_lex.specs.declared.lexeme.Lexeme.TheVariants as lexeme
use Rattle.sq_lex.specs.declared.symbol.Symbol.{Symbol}
use Rattle.sq_lex.specs.declared.symbol.Symbol.TheVariants as symbol
use Rattle.sq_lex.specs.declared.word.Word.{Word}
use Rattle.sq_lex.specs.declared.name.Name.{Name}
use Rattle.sq_lex.specs.declared.number.Number.{Number}
use Rattle.sq_lex.specs.Symbol.{same_symbol}
use Rattle.sq_lex.specs.Word.{same_word}
use Rattle.sq_tree.specs.declared.list.CommaList.{CommaList}
pub use Rattle.sq_tree.specs.Tree.{Tokens}

-- The tree that was read and the tokens after it; or the number of tokens left if the next one does not fit.
abbrev pub Outcome : Type 0 → Type 0
Outcome A = Result (A × Tokens) ℕ

abbrev pub Parser : Type 0 → Type 0
Parser A = Tokens → Outcome A

abbrev pub and_then : {A B : Type 0} → Outcome A → (A → Parser B) → Outcome B
and_then (Ok p) f = f p.0 p.1
and_then (Err n) f = Err n

infixl 10 ◌>>=◌
abbrev pub ◌>>=◌ : {A B : Type 0} → Parser A → (A → Parser B) → Parser B
p >>= f = λ ts. and_then (p ts) f

infixl 10 ◌>>◌
abbrev pub ◌>>◌ : {A B : Type 0} → Parser A → Parser B → Parser B
p >> q = p >>= (λ _. q)

-- nothing is read
abbrev pub pure : {A : Type 0} → A → Parser A
pure x = λ ts. Ok (x, ts)

-- the next token does not fit
abbrev pub stuck : {A : Type 0} → Parser A
stuck = λ ts. Err (length ts)

-- ---- words and symbols

abbrev pub is_word : Word → Lexeme → Bool
is_word w (lexeme.Word v) = same_word v w
is_word w _ = false

abbrev pub is_symbol : Symbol → Lexeme → Bool
is_symbol s (lexeme.Symbol v) = same_symbol v s
is_symbol s _ = false

-- whether a lexeme is this word or symbol
abbrev pub is_token : Lexeme → Lexeme → Bool
is_token (lexeme.Word w) t = is_word w t
is_token (lexeme.Symbol s) t = is_symbol s t
is_token _ t = false

abbrev pub sees : Lexeme → Tokens → Bool
sees token [] = false
sees token (t ∷ ts) = is_token token t

abbrev pub rest : Tokens → Tokens
rest [] = []
rest (t ∷ ts) = ts

-- takes the word or symbol if it comes next, and says whether it did
unfoldable pub eat : Lexeme → Parser Bool
eat token ts = if sees token ts then Ok (true, rest ts) else Ok (false, ts)

-- the word or symbol has to come next
unfoldable pub expect : Lexeme → Parser (Unit {0})
expect token ts = if sees token ts then Ok (tt, rest ts) else Err (length ts)

abbrev pub eat_word : Word → Parser Bool
eat_word w = eat (lexeme.Word w)

abbrev pub eat_symbol : Symbol → Parser Bool
eat_symbol s = eat (lexeme.Symbol s)

abbrev pub expect_word : Word → Parser (Unit {0})
expect_word w = expect (lexeme.Word w)

abbrev pub expect_symbol : Symbol → Parser (Unit {0})
expect_symbol s = expect (lexeme.Symbol s)

-- Brackets: with no more left to open, the next one does not fit.
unfoldable pub opening_bracket : ℕ → Parser (Unit {0})
opening_bracket left = if nat_eq left 0 then stuck else expect_symbol symbol.Open

-- takes the first of these tokens that comes next, and gives the value beside it
abbrev pub token_if_any : {A : Type 0} → List (Lexeme × A) → Parser (Option A)
token_if_any [] = pure None
token_if_any (x ∷ xs) = do
  found ← eat x.0
  if found then pure (Some x.1) else token_if_any xs

-- ---- tokens of a kind

-- the value of the first token, if it is one of these
abbrev pub first_of : {A : Type 0} → (Lexeme → Option A) → Tokens → Option A
first_of of [] = None
first_of of (t ∷ ts) = of t

abbrev pub taken : {A : Type 0} → Option A → Parser A
taken None ts = Err (length ts)
taken (Some x) ts = Ok (x, rest ts)

abbrev pub taken_if_any : {A : Type 0} → Option A → Parser (Option A)
taken_if_any None ts = Ok (None, ts)
taken_if_any (Some x) ts = Ok (Some x, rest ts)

-- a token of these has to come next
unfoldable pub one_of : {A : Type 0} → (Lexeme → Option A) → Parser A
one_of of ts = taken (first_of of ts) ts

-- takes a token of these if it comes next
unfoldable pub one_if_any : {A : Type 0} → (Lexeme → Option A) → Parser (Option A)
one_if_any of ts = taken_if_any (first_of of ts) ts

abbrev pub name_of : Lexeme → Option Name
name_of (lexeme.Name name) = Some name
name_of _ = None

abbrev pub number_of : Lexeme → Option Number
number_of (lexeme.Number number) = Some number
number_of _ = None

abbrev pub text_of : Lexeme → Option (List ℕ)
text_of (lexeme.Text characters) = Some characters
text_of _ = None

abbrev pub name : Parser Name
name = one_of name_of

abbrev pub number : Parser Number
number = one_of number_of

-- ---- optional parts and lists

-- the part after the word or symbol, if that comes next
abbrev pub behind : {A : Type 0} → Lexeme → Parser A → Parser (Option A)
behind token p = do
  found ← eat token
  if found then (p >>= λ x. pure (Some x)) else pure None

-- the items read already come before those that are read now
abbrev pub with_front : {A : Type 0} → List A → Outcome (List A) → Outcome (List A)
with_front front outcome = and_then outcome (λ xs. pure (front ++ xs))

-- An item is taken only if it leaves fewer tokens, as each item of the grammar does: so the number of turns does not matter.
abbrev pub turn : {A : Type 0} → Tokens → Parser (List A) → Outcome (Option A) → Outcome (List A)
turn ts go (Ok (None, after)) = Ok ([], after)
turn ts go (Ok (Some x, after)) = if nat_lt (length after) (length ts) then with_front (x ∷ []) (go after)
    else Ok ([], ts)
turn ts go (Err n) = Err n

unfoldable pub many : {A : Type 0} → ℕ → Parser (Option A) → Parser (List A)
many zero item ts = Ok ([], ts)
many (suc n) item ts = turn ts (many n item) (item ts)

-- items again and again, until there is none
unfoldable pub all : {A : Type 0} → Parser (Option A) → Parser (List A)
all item ts = many (length ts + 1) item ts

abbrev pub comma : Lexeme
comma = lexeme.Symbol symbol.Comma

-- item { "," item }
abbrev pub comma_separated : {A : Type 0} → Parser A → Parser (CommaList A)
comma_separated item = do
  first ← item
  rest ← all (behind comma item)
  pure (record { first = first; rest = rest })

-- nothing may come next
abbrev pub end_of : {A : Type 0} → A → Parser A
end_of x [] = Ok (x, [])
end_of x (t ∷ ts) = Err (length ts + 1)

-- all of a text
abbrev pub whole : {A : Type 0} → Parser A → Parser A
whole p = p >>= end_of
