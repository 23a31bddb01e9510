-- The statements of a procedure (ISO/IEC 9075:1992, 13.2 to 13.10, 14.3 and 14.4).
use Rattle.std.specs.Prelude.{ℕ, Bool, true, false, Option, Some, None}
use Rattle.sq_lex.specs.declared.lexeme.Lexeme.{Lexeme}
use Rattle.sq_lex.specs.declared.lexeme.Lexeme.TheVariants as lexeme
use Rattle.sq_lex.specs.declared.symbol.Symbol.TheVariants as symbol
use Rattle.sq_lex.specs.declared.word.Word.TheVariants as word
use Rattle.sq_tree.specs.declared.expr.Expr.{Expr}
use Rattle.sq_tree.specs.declared.statement.Statement.{Statement}
use Rattle.sq_tree.specs.declared.statement.Statement.TheVariants as statements
use Rattle.sq_tree.specs.declared.statement.Fetch.{Fetch}
use Rattle.sq_tree.specs.declared.statement.FetchFrom.{FetchFrom}
use Rattle.sq_tree.specs.declared.statement.Orientation.{Orientation}
use Rattle.sq_tree.specs.declared.statement.Orientation.TheVariants.{Next, Prior, First, Last, Absolute, Relative}
use Rattle.sq_tree.specs.declared.statement.Position.{Position}
use Rattle.sq_tree.specs.declared.statement.Position.TheVariants as positions
use Rattle.sq_tree.specs.declared.statement.Select.{Select}
use Rattle.sq_tree.specs.declared.statement.Insert.{Insert}
use Rattle.sq_tree.specs.declared.statement.InsertSource.{InsertSource}
use Rattle.sq_tree.specs.declared.statement.InsertSource.TheVariants as sources
use Rattle.sq_tree.specs.declared.statement.NewValue.{NewValue}
use Rattle.sq_tree.specs.declared.statement.NewValue.TheVariants as values
use Rattle.sq_tree.specs.declared.statement.Update.{Update}
use Rattle.sq_tree.specs.declared.statement.Assignment.{Assignment}
use Rattle.sq_tree.specs.declared.statement.Delete.{Delete}
use Rattle.sq_tree.specs.declared.statement.Where.{Where}
use Rattle.sq_tree.specs.declared.statement.Where.TheVariants.{Condition, CurrentOf}
use Rattle.sq_grammar.specs.declared.verb.Verb.{Verb}
use Rattle.sq_grammar.specs.declared.verb.Verb.TheVariants as verb
use Rattle.sq_grammar.specs.Reading.{Parser, ◌>>=◌, ◌>>◌, pure, stuck, eat_symbol, eat_word, expect_word, expect_symbol, one_if_any, name, comma_separated}
use Rattle.sq_grammar.specs.Names.{table_name, parameter, signed_number, columns_if_any}
use Rattle.sq_grammar.specs.Expr as expressions
use Rattle.sq_grammar.specs.Expr.{expr, quantifier_if_any}
use Rattle.sq_grammar.specs.Cond.{cond, query_specification}
use Rattle.sq_grammar.specs.Select.{select_list, table_expression}

abbrev pub by_colon : Bool → Parser Position
by_colon true = name >>= λ n. pure (positions.Parameter n)
by_colon false = signed_number >>= λ n. pure (positions.Number n)

-- [ "+" | "-" ] number | ":" name
unfoldable pub position : Parser Position
position = eat_symbol symbol.Colon >>= by_colon

-- NEXT | PRIOR | FIRST | LAST
abbrev pub orientation_of : Lexeme → Option Orientation
orientation_of (lexeme.Word word.Next) = Some Next
orientation_of (lexeme.Word word.Prior) = Some Prior
orientation_of (lexeme.Word word.First) = Some First
orientation_of (lexeme.Word word.Last) = Some Last
orientation_of _ = None

abbrev pub by_relative : Bool → Parser (Option Orientation)
by_relative true = position >>= λ p. pure (Some (Relative p))
by_relative false = pure None

abbrev pub by_absolute : Bool → Parser (Option Orientation)
by_absolute true = position >>= λ p. pure (Some (Absolute p))
by_absolute false = eat_word word.Relative >>= by_relative

abbrev pub by_orientation_word : Option Orientation → Parser (Option Orientation)
by_orientation_word None = eat_word word.Absolute >>= by_absolute
by_orientation_word (Some o) = pure (Some o)

-- [ orient ]
unfoldable pub orientation : Parser (Option Orientation)
orientation = one_if_any orientation_of >>= by_orientation_word

abbrev pub by_from : Bool → Parser (Option FetchFrom)
by_from true = pure (Some (record { orientation = None }))
by_from false = pure None

abbrev pub by_orientation : Option Orientation → Parser (Option FetchFrom)
by_orientation None = eat_word word.From >>= by_from
by_orientation (Some o) = expect_word word.From >> pure (Some (record { orientation = Some o }))

-- [ [ orient ] FROM ]
unfoldable pub fetch_from : Parser (Option FetchFrom)
fetch_from = orientation >>= by_orientation

-- FETCH .. name INTO parameter { "," parameter }, whose first word is read already
unfoldable pub fetch : Parser Fetch
fetch = do
  f ← fetch_from
  c ← name
  expect_word word.Into
  targets ← comma_separated parameter
  pure (record { from = f; cursor = c; targets = targets })

abbrev pub by_null : Parser Expr → Bool → Parser NewValue
by_null exprs true = pure values.Null
by_null exprs false = exprs >>= λ e. pure (values.Expr e)

-- value = expr | NULL
unfoldable pub new_value : Parser Expr → Parser NewValue
new_value exprs = eat_word word.Null >>= by_null exprs

abbrev pub by_current : ℕ → Bool → Parser (Option Where)
by_current left true = do
  expect_word word.Of
  c ← name
  pure (Some (CurrentOf c))
by_current left false = cond left >>= λ c. pure (Some (Condition c))

abbrev pub by_where : ℕ → Bool → Parser (Option Where)
by_where left true = eat_word word.Current >>= by_current left
by_where left false = pure None

-- [ WHERE condition | WHERE CURRENT OF name ]
unfoldable pub target : ℕ → Parser (Option Where)
target left = eat_word word.Where >>= by_where left

-- Below, `left` brackets may be open at once, and a statement's first word is read already.

-- SELECT [ ALL | DISTINCT ] list INTO parameter { "," parameter } table-exp
unfoldable pub select : ℕ → Parser Select
select left = do
  q ← quantifier_if_any
  l ← select_list (expr left)
  expect_word word.Into
  targets ← comma_separated parameter
  t ← table_expression (cond left)
  pure (record { quantifier = q; list = l; targets = targets; table = t })

abbrev pub by_values : ℕ → Bool → Parser InsertSource
by_values left true = do
  expect_symbol symbol.Open
  vs ← comma_separated (new_value (expressions.inside left))
  expect_symbol symbol.Close
  pure (sources.Values vs)
by_values left false = query_specification left >>= λ s. pure (sources.Query s)

-- VALUES "(" value { "," value } ")" | specification
unfoldable pub insert_source : ℕ → Parser InsertSource
insert_source left = eat_word word.Values >>= by_values left

-- INSERT INTO table-name [ columns ] ( .. )
unfoldable pub insert : ℕ → Parser Insert
insert left = do
  expect_word word.Into
  t ← table_name
  cs ← columns_if_any
  s ← insert_source left
  pure (record { table = t; columns = cs; source = s })

-- assignment = name "=" value
unfoldable pub assignment : ℕ → Parser Assignment
assignment left = do
  c ← name
  expect_symbol symbol.Equal
  v ← new_value (expr left)
  pure (record { column = c; value = v })

-- UPDATE table-name SET assignment { "," assignment } [ where ]
unfoldable pub update : ℕ → Parser Update
update left = do
  t ← table_name
  expect_word word.Set
  sets ← comma_separated (assignment left)
  w ← target left
  pure (record { table = t; assignments = sets; target = w })

-- DELETE FROM table-name [ where ]
unfoldable pub delete : ℕ → Parser Delete
delete left = do
  expect_word word.From
  t ← table_name
  w ← target left
  pure (record { table = t; target = w })

-- the first word of a statement
abbrev pub verb_of : Lexeme → Option Verb
verb_of (lexeme.Word word.Open) = Some verb.Open
verb_of (lexeme.Word word.Fetch) = Some verb.Fetch
verb_of (lexeme.Word word.Close) = Some verb.Close
verb_of (lexeme.Word word.Select) = Some verb.Select
verb_of (lexeme.Word word.Insert) = Some verb.Insert
verb_of (lexeme.Word word.Update) = Some verb.Update
verb_of (lexeme.Word word.Delete) = Some verb.Delete
verb_of (lexeme.Word word.Commit) = Some verb.Commit
verb_of (lexeme.Word word.Rollback) = Some verb.Rollback
verb_of _ = None

abbrev pub by_verb : ℕ → Option Verb → Parser Statement
by_verb left None = stuck
by_verb left (Some verb.Open) = name >>= λ c. pure (statements.Open c)
by_verb left (Some verb.Fetch) = fetch >>= λ f. pure (statements.Fetch f)
by_verb left (Some verb.Close) = name >>= λ c. pure (statements.Close c)
by_verb left (Some verb.Select) = select left >>= λ s. pure (statements.Select s)
by_verb left (Some verb.Insert) = insert left >>= λ i. pure (statements.Insert i)
by_verb left (Some verb.Update) = update left >>= λ u. pure (statements.Update u)
by_verb left (Some verb.Delete) = delete left >>= λ d. pure (statements.Delete d)
by_verb left (Some verb.Commit) = eat_word word.Work >>= λ w. pure (statements.Commit w)
by_verb left (Some verb.Rollback) = eat_word word.Work >>= λ w. pure (statements.Rollback w)

unfoldable pub statement : ℕ → Parser Statement
statement left = one_if_any verb_of >>= by_verb left
