-- Value expressions and set functions (ISO/IEC 9075:1992, 6.2, 6.4, 6.5 and 6.11 to 6.13).
use Rattle.std.specs.Prelude.{ℕ, zero, suc, Bool, true, false, List, [], ◌∷◌, Option, Some, None}
use Rattle.sq_lex.specs.declared.lexeme.Lexeme.{Lexeme}
use Rattle.sq_lex.specs.declared.lexeme.Lexeme.TheVariants as lexeme
use Rattle.sq_lex.specs.declared.symbol.Symbol.TheVariants as symbol
use Rattle.sq_lex.specs.declared.word.Word.TheVariants as word
use Rattle.sq_lex.specs.declared.name.Name.{Name}
use Rattle.sq_lex.specs.declared.number.Number.{Number}
use Rattle.sq_tree.specs.declared.expr.Sign.{Sign}
use Rattle.sq_tree.specs.declared.expr.TimesSign.{TimesSign}
use Rattle.sq_tree.specs.declared.expr.TimesSign.TheVariants.{Times, Over}
use Rattle.sq_tree.specs.declared.expr.SetQuantifier.{SetQuantifier}
use Rattle.sq_tree.specs.declared.expr.SetQuantifier.TheVariants.{All, Distinct}
use Rattle.sq_tree.specs.declared.expr.SetFunction.{SetFunction}
use Rattle.sq_tree.specs.declared.expr.SetFunction.TheVariants as function
use Rattle.sq_tree.specs.declared.expr.Primary.{Primary}
use Rattle.sq_tree.specs.declared.expr.Primary.TheVariants as primary
use Rattle.sq_tree.specs.declared.expr.Expr.{Expr, roll-Expr}
use Rattle.sq_tree.specs.declared.expr.Term.{Term, roll-Term}
use Rattle.sq_tree.specs.declared.expr.Factor.{Factor}
use Rattle.sq_tree.specs.declared.expr.Added.{Added, roll-Added}
use Rattle.sq_tree.specs.declared.expr.Scaled.{Scaled}
use Rattle.sq_grammar.specs.Reading.{Parser, ◌>>=◌, ◌>>◌, pure, stuck, eat_symbol, eat_word, expect_symbol, opening_bracket, one_if_any, name_of, number_of, text_of, token_if_any, all}
use Rattle.sq_grammar.specs.Names.{sign_if_any, column_from, parameter_from}

-- "*" | "/"
abbrev pub times_if_any : Parser (Option TimesSign)
times_if_any = token_if_any ((lexeme.Symbol symbol.Star, Times) ∷ (lexeme.Symbol symbol.Slash, Over) ∷ [])

-- [ ALL | DISTINCT ]
abbrev pub quantifier_if_any : Parser (Option SetQuantifier)
quantifier_if_any = token_if_any ((lexeme.Word word.All, All) ∷ (lexeme.Word word.Distinct, Distinct) ∷ [])

-- COUNT | SUM | AVG | MIN | MAX
abbrev pub function_of : Lexeme → Option SetFunction
function_of (lexeme.Word word.Count) = Some function.Count
function_of (lexeme.Word word.Sum) = Some function.Sum
function_of (lexeme.Word word.Avg) = Some function.Avg
function_of (lexeme.Word word.Min) = Some function.Min
function_of (lexeme.Word word.Max) = Some function.Max
function_of _ = None

-- only COUNT may have `*`
abbrev pub star_of : SetFunction → Parser Bool
star_of function.Count = eat_symbol symbol.Star
star_of _ = pure false

abbrev pub close : Parser (Unit {0})
close = expect_symbol symbol.Close

-- a column whose first name is read already
abbrev pub column : Name → Parser Primary
column n = column_from n >>= λ c. pure (primary.Column c)

-- `inner` reads an expression after a bracket that is one of the `left` that may be opened
module _ (left : ℕ) (inner : Parser Expr) where
  abbrev pub argument_of : SetFunction → Bool → Parser Primary
  argument_of f true = close >> pure primary.CountRows
  argument_of f false = do
    quantifier ← quantifier_if_any
    argument ← inner
    close
    pure (primary.SetFunction f quantifier argument)

  -- ( COUNT "(" "*" ")" | function "(" [ ALL | DISTINCT ] expr ")" ), whose word is read already
  unfoldable pub set_function : SetFunction → Parser Primary
  set_function f = do
    opening_bracket left
    star ← star_of f
    argument_of f star

  unfoldable pub bracketed : Parser Primary
  bracketed = do
    opening_bracket left
    e ← inner
    close
    pure (primary.Bracketed e)

  abbrev pub by_function : Option SetFunction → Parser Primary
  by_function None = bracketed
  by_function (Some f) = set_function f

  abbrev pub by_user : Bool → Parser Primary
  by_user true = pure primary.User
  by_user false = one_if_any function_of >>= by_function

  -- a primary that begins with a reserved word or a bracket
  abbrev pub word_primary : Parser Primary
  word_primary = eat_word word.User >>= by_user

  abbrev pub by_colon : Bool → Parser Primary
  by_colon true = parameter_from >>= λ p. pure (primary.Parameter p)
  by_colon false = word_primary

  -- a primary that begins with a symbol or a reserved word
  abbrev pub symbol_primary : Parser Primary
  symbol_primary = eat_symbol symbol.Colon >>= by_colon

  abbrev pub by_name : Option Name → Parser Primary
  by_name None = symbol_primary
  by_name (Some n) = column n

  abbrev pub by_text : Option (List ℕ) → Parser Primary
  by_text None = one_if_any name_of >>= by_name
  by_text (Some characters) = pure (primary.Text characters)

  abbrev pub by_number : Option Number → Parser Primary
  by_number None = one_if_any text_of >>= by_text
  by_number (Some n) = pure (primary.Number n)

  -- primary = number | text | parameter | USER | column-ref | set-function | "(" expr ")"
  unfoldable pub primary_at : Parser Primary
  primary_at = one_if_any number_of >>= by_number

  -- factor = [ "+" | "-" ] primary
  unfoldable pub factor : Parser Factor
  factor = do
    sign ← sign_if_any
    p ← primary_at
    pure (record { sign = sign; primary = p })

  abbrev pub scaled_by : Option TimesSign → Parser (Option Scaled)
  scaled_by None = pure None
  scaled_by (Some sign) = factor >>= λ f. pure (Some (record { sign = sign; factor = f }))

  -- ( "*" | "/" ) factor
  unfoldable pub scaled_factor : Parser (Option Scaled)
  scaled_factor = times_if_any >>= scaled_by

  -- term = factor { ( "*" | "/" ) factor }
  unfoldable pub term : Parser Term
  term = do
    first ← factor
    rest ← all scaled_factor
    pure (roll-Term (record { first = first; rest = rest }))

  abbrev pub added_by : Option Sign → Parser (Option Added)
  added_by None = pure None
  added_by (Some sign) = term >>= λ t. pure (Some (roll-Added (record { sign = sign; term = t })))

  -- ( "+" | "-" ) term
  unfoldable pub added_term : Parser (Option Added)
  added_term = sign_if_any >>= added_by

  -- expr = term { ( "+" | "-" ) term }
  unfoldable pub level : Parser Expr
  level = do
    first ← term
    rest ← all added_term
    pure (roll-Expr (record { first = first; rest = rest }))

  -- an expression whose first primary is read already
  unfoldable pub level_from : Primary → Parser Expr
  level_from p = do
    scaled ← all scaled_factor
    added ← all added_term
    pure (roll-Expr (record {
      first = roll-Term (record {
        first = record { sign = None; primary = p };
        rest = scaled;
      });
      rest = added;
    }))

-- after a bracket that is one of the `left` that may be opened
unfoldable pub inside : ℕ → Parser Expr
inside zero = stuck
inside (suc left) = level left (inside left)

-- an expression in which `left` brackets may be open at once
abbrev pub expr : ℕ → Parser Expr
expr left = level left (inside left)

abbrev pub expr_from : ℕ → Primary → Parser Expr
expr_from left = level_from left (inside left)
