-- Search conditions and query specifications (ISO/IEC 9075:1992, 6.3, 7.3 to 7.9, 7.11 and 8): their tokens.
use Rattle.std.specs.Prelude.{Bool, [], ◌∷◌, ◌++◌}
use Rattle.std.specs.List.{flat_map}
use Rattle.sq_lex.specs.declared.lexeme.Lexeme.{Lexeme}
use Rattle.sq_lex.specs.declared.lexeme.Lexeme.TheVariants as lexeme
use Rattle.sq_lex.specs.declared.symbol.Symbol.TheVariants as symbol
use Rattle.sq_lex.specs.declared.word.Word.TheVariants as word
use Rattle.sq_tree.specs.Tree.{Tokens, if_written, optional, bracketed}
use Rattle.sq_tree.specs.List.{comma_tokens}
use Rattle.sq_tree.specs.Names.{name_tokens, table_name_tokens, column_reference_tokens}
use Rattle.sq_tree.specs.Expr.{expr_tokens, quantifier_tokens}
use Rattle.sq_tree.specs.declared.list.CommaList.{CommaList}
use Rattle.sq_tree.specs.declared.expr.Expr.{Expr}
use Rattle.sq_tree.specs.declared.names.ColumnReference.{ColumnReference}
use Rattle.sq_tree.specs.declared.cond.Comparison.{Comparison}
use Rattle.sq_tree.specs.declared.cond.Comparison.TheVariants as comparison
use Rattle.sq_tree.specs.declared.cond.Quantifier.{Quantifier}
use Rattle.sq_tree.specs.declared.cond.Quantifier.TheVariants as quantifier
use Rattle.sq_tree.specs.declared.cond.Correlation.{Correlation}
use Rattle.sq_tree.specs.declared.cond.TableReference.{TableReference}
use Rattle.sq_tree.specs.declared.cond.SelectList.{SelectList}
use Rattle.sq_tree.specs.declared.cond.SelectList.TheVariants.{Star, Items}
use Rattle.sq_tree.specs.declared.cond.Body.{Body, fold-Body, Body-F}
use Rattle.sq_tree.specs.declared.cond.Body.TheOpen as layer
use Rattle.sq_tree.specs.declared.cond.Tail.{Tail, fold-Tail, Tail-F}
use Rattle.sq_tree.specs.declared.cond.Cond.{Cond, fold-Cond, Cond-F}
use Rattle.sq_tree.specs.declared.cond.Conj.{Conj, fold-Conj, Conj-F}
use Rattle.sq_tree.specs.declared.cond.Test.{Test, fold-Test, Test-F}
use Rattle.sq_tree.specs.declared.cond.TableExpression.{TableExpression, fold-TableExpression, TableExpression-F}
use Rattle.sq_tree.specs.declared.cond.QuerySpecification.{QuerySpecification, fold-QuerySpecification, QuerySpecification-F}

-- comparison = "=" | "<>" | "<" | ">" | "<=" | ">="
abbrev pub comparison_token : Comparison → Lexeme
comparison_token comparison.Equal = lexeme.Symbol symbol.Equal
comparison_token comparison.NotEqual = lexeme.Symbol symbol.NotEqual
comparison_token comparison.Less = lexeme.Symbol symbol.Less
comparison_token comparison.Greater = lexeme.Symbol symbol.Greater
comparison_token comparison.LessOrEqual = lexeme.Symbol symbol.LessOrEqual
comparison_token comparison.GreaterOrEqual = lexeme.Symbol symbol.GreaterOrEqual

-- ALL | ANY | SOME
abbrev pub compared_token : Quantifier → Lexeme
compared_token quantifier.All = lexeme.Word word.All
compared_token quantifier.Any = lexeme.Word word.Any
compared_token quantifier.Some = lexeme.Word word.Some

abbrev pub compared_tokens : Quantifier → Tokens
compared_tokens q = compared_token q ∷ []

-- [ NOT ]
abbrev pub not_tokens : Bool → Tokens
not_tokens negated = if_written negated (lexeme.Word word.Not ∷ [])

-- ESCAPE expr
abbrev pub escape_tokens : Expr → Tokens
escape_tokens e = lexeme.Word word.Escape ∷ expr_tokens e

-- [ AS ] name
abbrev pub correlation_tokens : Correlation → Tokens
correlation_tokens c = if_written c.as_word (lexeme.Word word.As ∷ []) ++ name_tokens c.name

-- table-ref = table-name [ [ AS ] name ]
abbrev pub table_reference_tokens : TableReference → Tokens
table_reference_tokens t = table_name_tokens t.table ++ optional correlation_tokens t.correlation

-- list = "*" | expr { "," expr }
abbrev pub select_list_tokens : SelectList → Tokens
select_list_tokens Star = lexeme.Symbol symbol.Star ∷ []
select_list_tokens (Items items) = comma_tokens expr_tokens items

-- GROUP BY column-ref { "," column-ref }
abbrev pub group_by_tokens : CommaList ColumnReference → Tokens
group_by_tokens columns =
    lexeme.Word word.Group ∷ lexeme.Word word.By ∷ comma_tokens column_reference_tokens columns

-- One level of a tree, with the tokens of each part in its place.

-- predicate | "(" condition ")"
abbrev pub body_layer : Body-F Tokens Tokens Tokens Tokens Tokens Tokens Tokens → Tokens
body_layer (layer.Predicate left rest) = expr_tokens left ++ rest
body_layer (layer.Exists query) = lexeme.Word word.Exists ∷ bracketed query
body_layer (layer.Bracketed cond) = bracketed cond

-- predicate, from its second part on
abbrev pub tail_layer : Tail-F Tokens Tokens Tokens Tokens Tokens Tokens Tokens → Tokens
tail_layer (layer.Compare op right) = comparison_token op ∷ expr_tokens right
tail_layer (layer.CompareQuery op q query) =
    comparison_token op ∷ optional compared_tokens q ++ bracketed query
tail_layer (layer.Between negated low high) =
    not_tokens negated ++ lexeme.Word word.Between ∷ expr_tokens low
    ++ lexeme.Word word.And ∷ expr_tokens high
tail_layer (layer.InQuery negated query) = not_tokens negated ++ lexeme.Word word.In ∷ bracketed query
tail_layer (layer.InList negated values) =
    not_tokens negated ++ lexeme.Word word.In ∷ bracketed (comma_tokens expr_tokens values)
tail_layer (layer.Like negated pattern escape) =
    not_tokens negated ++ lexeme.Word word.Like ∷ expr_tokens pattern ++ optional escape_tokens escape
tail_layer (layer.Null negated) = lexeme.Word word.Is ∷ not_tokens negated ++ lexeme.Word word.Null ∷ []

-- test = [ NOT ] ( predicate | "(" condition ")" )
abbrev pub test_layer : Test-F Tokens Tokens Tokens Tokens Tokens Tokens Tokens → Tokens
test_layer t = not_tokens t.negated ++ t.body

-- another test of a conjunction: AND test
abbrev pub and_tokens : Tokens → Tokens
and_tokens test = lexeme.Word word.And ∷ test

-- conjunction = test { AND test }
abbrev pub conj_layer : Conj-F Tokens Tokens Tokens Tokens Tokens Tokens Tokens → Tokens
conj_layer c = c.first ++ flat_map and_tokens c.rest

-- OR conjunction
abbrev pub or_tokens : Tokens → Tokens
or_tokens conj = lexeme.Word word.Or ∷ conj

-- condition = conjunction { OR conjunction }
abbrev pub cond_layer : Cond-F Tokens Tokens Tokens Tokens Tokens Tokens Tokens → Tokens
cond_layer c = c.first ++ flat_map or_tokens c.rest

-- WHERE condition
abbrev pub where_tokens : Tokens → Tokens
where_tokens cond = lexeme.Word word.Where ∷ cond

-- HAVING condition
abbrev pub having_tokens : Tokens → Tokens
having_tokens cond = lexeme.Word word.Having ∷ cond

-- table-exp = FROM table-ref { "," table-ref } [ WHERE condition ] [ GROUP BY column-ref { "," column-ref } ] [ HAVING condition ]
abbrev pub table_expression_layer : TableExpression-F Tokens Tokens Tokens Tokens Tokens Tokens Tokens
    → Tokens
table_expression_layer t = lexeme.Word word.From ∷ comma_tokens table_reference_tokens t.from
    ++ optional where_tokens t.where_clause ++ optional group_by_tokens t.group_by
    ++ optional having_tokens t.having

-- specification = SELECT [ ALL | DISTINCT ] list table-exp
abbrev pub query_specification_layer : QuerySpecification-F Tokens Tokens Tokens Tokens Tokens Tokens Tokens
    → Tokens
query_specification_layer s =
    lexeme.Word word.Select ∷ optional quantifier_tokens s.quantifier ++ select_list_tokens s.list ++ s.table

unfoldable pub body_tokens : Body → Tokens
body_tokens = fold-Body Tokens Tokens Tokens Tokens Tokens Tokens Tokens body_layer tail_layer cond_layer
    conj_layer query_specification_layer table_expression_layer test_layer

unfoldable pub tail_tokens : Tail → Tokens
tail_tokens = fold-Tail Tokens Tokens Tokens Tokens Tokens Tokens Tokens body_layer tail_layer cond_layer
    conj_layer query_specification_layer table_expression_layer test_layer

unfoldable pub test_tokens : Test → Tokens
test_tokens = fold-Test Tokens Tokens Tokens Tokens Tokens Tokens Tokens body_layer tail_layer cond_layer
    conj_layer query_specification_layer table_expression_layer test_layer

unfoldable pub conj_tokens : Conj → Tokens
conj_tokens = fold-Conj Tokens Tokens Tokens Tokens Tokens Tokens Tokens body_layer tail_layer cond_layer
    conj_layer query_specification_layer table_expression_layer test_layer

unfoldable pub cond_tokens : Cond → Tokens
cond_tokens = fold-Cond Tokens Tokens Tokens Tokens Tokens Tokens Tokens body_layer tail_layer cond_layer
    conj_layer query_specification_layer table_expression_layer test_layer

unfoldable pub table_expression_tokens : TableExpression → Tokens
table_expression_tokens =
    fold-TableExpression Tokens Tokens Tokens Tokens Tokens Tokens Tokens body_layer tail_layer cond_layer
    conj_layer query_specification_layer table_expression_layer test_layer

unfoldable pub query_specification_tokens : QuerySpecification → Tokens
query_specification_tokens =
    fold-QuerySpecification Tokens Tokens Tokens Tokens Tokens Tokens Tokens body_layer tail_layer
    cond_layer conj_layer query_specification_layer table_expression_layer test_layer
