-- Value expressions, signed numbers and set functions (ISO/IEC 9075:1992, 5.3, 6.2, 6.5 and 6.11 to 6.13): their tokens.
use Rattle.std.specs.Prelude.{[], ◌∷◌, ◌++◌}
use Rattle.std.specs.List.{flat_map}
use Rattle.sq_lex.specs.declared.lexeme.Lexeme.{Lexeme}
use Rattle.sq_lex.specs.declared.lexeme.Lexeme.TheVariants as lexeme
use Rattle.sq_lex.specs.declared.symbol.Symbol.TheVariants as symbol
use Rattle.sq_lex.specs.declared.word.Word.TheVariants as word
use Rattle.sq_tree.specs.Tree.{Tokens, optional, bracketed}
use Rattle.sq_tree.specs.Names.{parameter_tokens, column_reference_tokens}
use Rattle.sq_tree.specs.declared.expr.Sign.{Sign}
use Rattle.sq_tree.specs.declared.expr.Sign.TheVariants.{Plus, Minus}
use Rattle.sq_tree.specs.declared.expr.TimesSign.{TimesSign}
use Rattle.sq_tree.specs.declared.expr.TimesSign.TheVariants.{Times, Over}
use Rattle.sq_tree.specs.declared.expr.SignedNumber.{SignedNumber}
use Rattle.sq_tree.specs.declared.expr.SetQuantifier.{SetQuantifier}
use Rattle.sq_tree.specs.declared.expr.SetQuantifier.TheVariants.{All, Distinct}
use Rattle.sq_tree.specs.declared.expr.SetFunction.{SetFunction}
use Rattle.sq_tree.specs.declared.expr.SetFunction.TheVariants.{Count, Sum, Avg, Min, Max}
use Rattle.sq_tree.specs.declared.expr.Primary.{Primary, fold-Primary, Primary-F}
use Rattle.sq_tree.specs.declared.expr.Primary.TheOpen as layer
use Rattle.sq_tree.specs.declared.expr.Expr.{Expr, fold-Expr, Expr-F}
use Rattle.sq_tree.specs.declared.expr.Term.{Term, fold-Term, Term-F}
use Rattle.sq_tree.specs.declared.expr.Factor.{Factor, fold-Factor, Factor-F}
use Rattle.sq_tree.specs.declared.expr.Added.{Added, fold-Added, Added-F}
use Rattle.sq_tree.specs.declared.expr.Scaled.{Scaled, fold-Scaled, Scaled-F}

-- "+" | "-"
abbrev pub sign_token : Sign → Lexeme
sign_token Plus = lexeme.Symbol symbol.Plus
sign_token Minus = lexeme.Symbol symbol.Minus

-- "*" | "/"
abbrev pub times_token : TimesSign → Lexeme
times_token Times = lexeme.Symbol symbol.Star
times_token Over = lexeme.Symbol symbol.Slash

-- ALL | DISTINCT
abbrev pub quantifier_token : SetQuantifier → Lexeme
quantifier_token All = lexeme.Word word.All
quantifier_token Distinct = lexeme.Word word.Distinct

-- COUNT | SUM | AVG | MIN | MAX
abbrev pub function_token : SetFunction → Lexeme
function_token Count = lexeme.Word word.Count
function_token Sum = lexeme.Word word.Sum
function_token Avg = lexeme.Word word.Avg
function_token Min = lexeme.Word word.Min
function_token Max = lexeme.Word word.Max

abbrev pub sign_tokens : Sign → Tokens
sign_tokens sign = sign_token sign ∷ []

abbrev pub quantifier_tokens : SetQuantifier → Tokens
quantifier_tokens quantifier = quantifier_token quantifier ∷ []

-- [ "+" | "-" ] number
abbrev pub signed_number_tokens : SignedNumber → Tokens
signed_number_tokens n = optional sign_tokens n.sign ++ lexeme.Number n.number ∷ []

-- One level of a tree, with the tokens of each part in its place.

-- primary = number | text | parameter | USER | column-ref | set-function | "(" expr ")"
abbrev pub primary_layer : Primary-F Tokens Tokens Tokens Tokens Tokens Tokens → Tokens
primary_layer (layer.Number n) = lexeme.Number n ∷ []
primary_layer (layer.Text characters) = lexeme.Text characters ∷ []
primary_layer (layer.Parameter p) = parameter_tokens p
primary_layer layer.User = lexeme.Word word.User ∷ []
primary_layer (layer.Column c) = column_reference_tokens c
primary_layer layer.CountRows = lexeme.Word word.Count ∷ bracketed (lexeme.Symbol symbol.Star ∷ [])
primary_layer (layer.SetFunction function quantifier expr) =
    function_token function ∷ bracketed (optional quantifier_tokens quantifier ++ expr)
primary_layer (layer.Bracketed expr) = bracketed expr

-- factor = [ "+" | "-" ] primary
abbrev pub factor_layer : Factor-F Tokens Tokens Tokens Tokens Tokens Tokens → Tokens
factor_layer f = optional sign_tokens f.sign ++ f.primary

-- ( "*" | "/" ) factor
abbrev pub scaled_layer : Scaled-F Tokens Tokens Tokens Tokens Tokens Tokens → Tokens
scaled_layer s = times_token s.sign ∷ s.factor

-- term = factor { ( "*" | "/" ) factor }
abbrev pub term_layer : Term-F Tokens Tokens Tokens Tokens Tokens Tokens → Tokens
term_layer t = t.first ++ flat_map (λ ts. ts) t.rest

-- ( "+" | "-" ) term
abbrev pub added_layer : Added-F Tokens Tokens Tokens Tokens Tokens Tokens → Tokens
added_layer a = sign_token a.sign ∷ a.term

-- expr = term { ( "+" | "-" ) term }
abbrev pub expr_layer : Expr-F Tokens Tokens Tokens Tokens Tokens Tokens → Tokens
expr_layer e = e.first ++ flat_map (λ ts. ts) e.rest

unfoldable pub primary_tokens : Primary → Tokens
primary_tokens = fold-Primary Tokens Tokens Tokens Tokens Tokens Tokens primary_layer added_layer expr_layer
    factor_layer scaled_layer term_layer

unfoldable pub factor_tokens : Factor → Tokens
factor_tokens = fold-Factor Tokens Tokens Tokens Tokens Tokens Tokens primary_layer added_layer expr_layer
    factor_layer scaled_layer term_layer

unfoldable pub scaled_tokens : Scaled → Tokens
scaled_tokens = fold-Scaled Tokens Tokens Tokens Tokens Tokens Tokens primary_layer added_layer expr_layer
    factor_layer scaled_layer term_layer

unfoldable pub term_tokens : Term → Tokens
term_tokens = fold-Term Tokens Tokens Tokens Tokens Tokens Tokens primary_layer added_layer expr_layer
    factor_layer scaled_layer term_layer

unfoldable pub added_tokens : Added → Tokens
added_tokens = fold-Added Tokens Tokens Tokens Tokens Tokens Tokens primary_layer added_layer expr_layer
    factor_layer scaled_layer term_layer

unfoldable pub expr_tokens : Expr → Tokens
expr_tokens = fold-Expr Tokens Tokens Tokens Tokens Tokens Tokens primary_layer added_layer expr_layer
    factor_layer scaled_layer term_layer
