-- Query specifications (ISO/IEC 9075:1992, 6.3 and 7.3 to 7.9), over parsers of their expressions and their conditions.
use Rattle.std.specs.Prelude.{Bool, true, false, Option, Some, None}
use Rattle.sq_lex.specs.declared.lexeme.Lexeme.TheVariants as lexeme
use Rattle.sq_lex.specs.declared.symbol.Symbol.TheVariants as symbol
use Rattle.sq_lex.specs.declared.word.Word.TheVariants as word
use Rattle.sq_lex.specs.declared.name.Name.{Name}
use Rattle.sq_tree.specs.declared.list.CommaList.{CommaList}
use Rattle.sq_tree.specs.declared.names.ColumnReference.{ColumnReference}
use Rattle.sq_tree.specs.declared.expr.Expr.{Expr}
use Rattle.sq_tree.specs.declared.cond.Correlation.{Correlation}
use Rattle.sq_tree.specs.declared.cond.TableReference.{TableReference}
use Rattle.sq_tree.specs.declared.cond.SelectList.{SelectList}
use Rattle.sq_tree.specs.declared.cond.SelectList.TheVariants as list
use Rattle.sq_tree.specs.declared.cond.Cond.{Cond}
use Rattle.sq_tree.specs.declared.cond.TableExpression.{TableExpression, roll-TableExpression}
use Rattle.sq_tree.specs.declared.cond.QuerySpecification.{QuerySpecification, roll-QuerySpecification}
use Rattle.sq_grammar.specs.Reading.{Parser, ◌>>=◌, ◌>>◌, pure, eat_symbol, eat_word, expect_word, one_if_any, name_of, name, behind, comma_separated}
use Rattle.sq_grammar.specs.Names.{table_name, column_reference}
use Rattle.sq_grammar.specs.Expr.{quantifier_if_any}

abbrev pub correlated : Bool → Name → Parser (Option Correlation)
correlated written n = pure (Some (record { as_word = written; name = n }))

abbrev pub by_name : Option Name → Parser (Option Correlation)
by_name None = pure None
by_name (Some n) = correlated false n

abbrev pub by_as : Bool → Parser (Option Correlation)
by_as true = name >>= correlated true
by_as false = one_if_any name_of >>= by_name

-- [ [ AS ] name ]
unfoldable pub correlation : Parser (Option Correlation)
correlation = eat_word word.As >>= by_as

-- table-ref = table-name [ [ AS ] name ]
unfoldable pub table_reference : Parser TableReference
table_reference = do
  table ← table_name
  c ← correlation
  pure (record { table = table; correlation = c })

-- FROM table-ref { "," table-ref }
unfoldable pub from_clause : Parser (CommaList TableReference)
from_clause = expect_word word.From >> comma_separated table_reference

-- BY column-ref { "," column-ref }
unfoldable pub by_columns : Parser (CommaList ColumnReference)
by_columns = expect_word word.By >> comma_separated column_reference

-- [ GROUP BY column-ref { "," column-ref } ]
unfoldable pub group_by : Parser (Option (CommaList ColumnReference))
group_by = behind (lexeme.Word word.Group) by_columns

abbrev pub by_star : Parser Expr → Bool → Parser SelectList
by_star exprs true = pure list.Star
by_star exprs false = comma_separated exprs >>= λ items. pure (list.Items items)

-- list = "*" | expr { "," expr }
unfoldable pub select_list : Parser Expr → Parser SelectList
select_list exprs = eat_symbol symbol.Star >>= by_star exprs

-- [ WHERE condition ]
abbrev pub where_clause : Parser Cond → Parser (Option Cond)
where_clause conds = behind (lexeme.Word word.Where) conds

-- [ HAVING condition ]
abbrev pub having_clause : Parser Cond → Parser (Option Cond)
having_clause conds = behind (lexeme.Word word.Having) conds

-- table-exp = FROM table-ref { "," table-ref } [ WHERE condition ] [ GROUP BY column-ref { "," column-ref } ] [ HAVING condition ]
unfoldable pub table_expression : Parser Cond → Parser TableExpression
table_expression conds = do
  f ← from_clause
  w ← where_clause conds
  g ← group_by
  h ← having_clause conds
  pure (roll-TableExpression (record { from = f; where_clause = w; group_by = g; having = h }))

-- specification = SELECT [ ALL | DISTINCT ] list table-exp
unfoldable pub specification : Parser Expr → Parser Cond → Parser QuerySpecification
specification exprs conds = do
  expect_word word.Select
  q ← quantifier_if_any
  l ← select_list exprs
  t ← table_expression conds
  pure (roll-QuerySpecification (record { quantifier = q; list = l; table = t }))
