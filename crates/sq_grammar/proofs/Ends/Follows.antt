-- The tokens that may not follow a tree, so that a parser ends at the end of its tokens: the tokens that would go on with it.
use Rattle.std.proofs.Common.{◌≡◌, Bool, false, ◌||◌, None}
use Rattle.std.proofs.lemmas.Bool.{or_parts}
use Rattle.sq_lex.specs.declared.lexeme.Lexeme.TheVariants as lexeme
use Rattle.sq_lex.specs.declared.symbol.Symbol.TheVariants as symbol
use Rattle.sq_lex.specs.declared.word.Word.TheVariants as word
use Rattle.sq_grammar.specs.Reading.{Tokens, sees, first_of, name_of}
use Rattle.sq_grammar.specs.Cond.{comparison_of}

-- a primary and a factor: a column reference and a parameter may be longer
pub record EndsFactor (rest : Tokens) : Type 0 where
  pub dot : sees (lexeme.Symbol symbol.Dot) rest ≡ false
  pub colon : sees (lexeme.Symbol symbol.Colon) rest ≡ false
  pub indicator : sees (lexeme.Word word.Indicator) rest ≡ false

pub record EndsTerm (rest : Tokens) : Type 0 where
  pub factor : EndsFactor rest
  pub star : sees (lexeme.Symbol symbol.Star) rest ≡ false
  pub slash : sees (lexeme.Symbol symbol.Slash) rest ≡ false

pub record EndsExpr (rest : Tokens) : Type 0 where
  pub term : EndsTerm rest
  pub plus : sees (lexeme.Symbol symbol.Plus) rest ≡ false
  pub minus : sees (lexeme.Symbol symbol.Minus) rest ≡ false

-- an expression that could be the first of a predicate
pub record EndsBare (rest : Tokens) : Type 0 where
  pub expr : EndsExpr rest
  pub comparison : first_of comparison_of rest ≡ None
  pub is : sees (lexeme.Word word.Is) rest ≡ false
  pub not : sees (lexeme.Word word.Not) rest ≡ false
  pub between : sees (lexeme.Word word.Between) rest ≡ false
  pub in_word : sees (lexeme.Word word.In) rest ≡ false
  pub like : sees (lexeme.Word word.Like) rest ≡ false

pub record EndsTest (rest : Tokens) : Type 0 where
  pub expr : EndsExpr rest
  pub escape : sees (lexeme.Word word.Escape) rest ≡ false

pub record EndsConj (rest : Tokens) : Type 0 where
  pub test : EndsTest rest
  pub and : sees (lexeme.Word word.And) rest ≡ false

pub record EndsCond (rest : Tokens) : Type 0 where
  pub conj : EndsConj rest
  pub or : sees (lexeme.Word word.Or) rest ≡ false

-- a table expression and a query specification
pub record EndsTable (rest : Tokens) : Type 0 where
  pub cond : EndsCond rest
  pub comma : sees (lexeme.Symbol symbol.Comma) rest ≡ false
  pub as_word : sees (lexeme.Word word.As) rest ≡ false
  pub name : first_of name_of rest ≡ None
  pub where_word : sees (lexeme.Word word.Where) rest ≡ false
  pub group : sees (lexeme.Word word.Group) rest ≡ false
  pub having : sees (lexeme.Word word.Having) rest ≡ false

pub record EndsQuery (rest : Tokens) : Type 0 where
  pub table : EndsTable rest
  pub union : sees (lexeme.Word word.Union) rest ≡ false

-- ---- the same as one test of the token that comes next

-- the next token goes on with an expression, a condition or a table expression
abbrev pub goes_on_expr : Tokens → Bool
goes_on_expr ts = sees (lexeme.Symbol symbol.Dot) ts || (sees (lexeme.Symbol symbol.Colon) ts || (sees (lexeme.Word word.Indicator) ts || (sees (lexeme.Symbol symbol.Star) ts || (sees (lexeme.Symbol symbol.Slash) ts || (sees (lexeme.Symbol symbol.Plus) ts || sees (lexeme.Symbol symbol.Minus) ts)))))

abbrev pub goes_on_cond : Tokens → Bool
goes_on_cond ts = sees (lexeme.Word word.Escape) ts || (sees (lexeme.Word word.And) ts || (sees (lexeme.Word word.Or) ts || goes_on_expr ts))

abbrev pub goes_on_table : Tokens → Bool
goes_on_table ts = sees (lexeme.Symbol symbol.Comma) ts || (sees (lexeme.Word word.As) ts || (sees (lexeme.Word word.Where) ts || (sees (lexeme.Word word.Group) ts || (sees (lexeme.Word word.Having) ts || goes_on_cond ts))))

pub ends_expr : (ts : Tokens) → goes_on_expr ts ≡ false → EndsExpr ts
ends_expr ts none =
    let dot = or_parts _ _ none in
    let colon = or_parts _ _ dot.1 in
    let indicator = or_parts _ _ colon.1 in
    let star = or_parts _ _ indicator.1 in
    let slash = or_parts _ _ star.1 in
    let plus = or_parts _ _ slash.1 in
    record { term = record { factor = record { dot = dot.0; colon = colon.0; indicator = indicator.0 }; star = star.0; slash = slash.0 }; plus = plus.0; minus = plus.1 }

pub ends_cond : (ts : Tokens) → goes_on_cond ts ≡ false → EndsCond ts
ends_cond ts none =
    let escape = or_parts _ _ none in
    let and = or_parts _ _ escape.1 in
    let or = or_parts _ _ and.1 in
    record { conj = record { test = record { expr = ends_expr ts or.1; escape = escape.0 }; and = and.0 }; or = or.0 }

pub ends_table : (ts : Tokens) → goes_on_table ts ≡ false → first_of name_of ts ≡ None → EndsTable ts
ends_table ts none no_name =
    let comma = or_parts _ _ none in
    let as_word = or_parts _ _ comma.1 in
    let where_word = or_parts _ _ as_word.1 in
    let group = or_parts _ _ where_word.1 in
    let having = or_parts _ _ group.1 in
    record { cond = ends_cond ts having.1; comma = comma.0; as_word = as_word.0; name = no_name; where_word = where_word.0; group = group.0; having = having.0 }
