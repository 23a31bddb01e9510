-- Search conditions and query specifications: the depth of each tree, from the depth of its parts.
use Rattle.std.specs.Prelude.{ℕ, ◌+◌, max}
use Rattle.sq_tree.proofs.TreeDepth.{optional_depth, greatest}
use Rattle.sq_tree.proofs.ListDepth.{comma_depth}
use Rattle.sq_tree.proofs.ExprDepth.{expr_depth}
use Rattle.sq_tree.specs.declared.cond.SelectList.{SelectList}
use Rattle.sq_tree.specs.declared.cond.SelectList.TheVariants.{Star, Items}
use Rattle.sq_tree.specs.declared.cond.Body.{Body, fold-Body, Body-F}
use Rattle.sq_tree.specs.declared.cond.Body.TheOpen as layer
use Rattle.sq_tree.specs.declared.cond.Tail.{Tail, fold-Tail, Tail-F}
use Rattle.sq_tree.specs.declared.cond.Cond.{Cond, fold-Cond, Cond-F}
use Rattle.sq_tree.specs.declared.cond.Conj.{Conj, fold-Conj, Conj-F}
use Rattle.sq_tree.specs.declared.cond.Test.{Test, fold-Test, Test-F}
use Rattle.sq_tree.specs.declared.cond.TableExpression.{TableExpression, fold-TableExpression, TableExpression-F}
use Rattle.sq_tree.specs.declared.cond.QuerySpecification.{QuerySpecification, fold-QuerySpecification, QuerySpecification-F}

abbrev pub select_list_depth : SelectList → ℕ
select_list_depth Star = 0
select_list_depth (Items items) = comma_depth expr_depth items

abbrev pub body_height : Body-F ℕ ℕ ℕ ℕ ℕ ℕ ℕ → ℕ
body_height (layer.Predicate left rest) = max (expr_depth left) rest
body_height (layer.Exists query) = query + 1
body_height (layer.Bracketed cond) = cond + 1

abbrev pub tail_height : Tail-F ℕ ℕ ℕ ℕ ℕ ℕ ℕ → ℕ
tail_height (layer.Compare op right) = expr_depth right
tail_height (layer.CompareQuery op q query) = query + 1
tail_height (layer.Between negated low high) = max (expr_depth low) (expr_depth high)
tail_height (layer.InQuery negated query) = query + 1
tail_height (layer.InList negated values) = comma_depth expr_depth values + 1
tail_height (layer.Like negated pattern escape) = max (expr_depth pattern) (optional_depth expr_depth escape)
tail_height (layer.Null negated) = 0

abbrev pub test_height : Test-F ℕ ℕ ℕ ℕ ℕ ℕ ℕ → ℕ
test_height t = t.body

abbrev pub conj_height : Conj-F ℕ ℕ ℕ ℕ ℕ ℕ ℕ → ℕ
conj_height c = max c.first (greatest c.rest)

abbrev pub cond_height : Cond-F ℕ ℕ ℕ ℕ ℕ ℕ ℕ → ℕ
cond_height c = max c.first (greatest c.rest)

abbrev pub part_depth : ℕ → ℕ
part_depth d = d

abbrev pub table_expression_height : TableExpression-F ℕ ℕ ℕ ℕ ℕ ℕ ℕ → ℕ
table_expression_height t = max (optional_depth part_depth t.where_clause) (optional_depth part_depth t.having)

abbrev pub query_specification_height : QuerySpecification-F ℕ ℕ ℕ ℕ ℕ ℕ ℕ → ℕ
query_specification_height s = max (select_list_depth s.list) s.table

unfoldable pub body_depth : Body → ℕ
body_depth = fold-Body ℕ ℕ ℕ ℕ ℕ ℕ ℕ body_height tail_height cond_height conj_height query_specification_height table_expression_height test_height

unfoldable pub tail_depth : Tail → ℕ
tail_depth = fold-Tail ℕ ℕ ℕ ℕ ℕ ℕ ℕ body_height tail_height cond_height conj_height query_specification_height table_expression_height test_height

unfoldable pub test_depth : Test → ℕ
test_depth = fold-Test ℕ ℕ ℕ ℕ ℕ ℕ ℕ body_height tail_height cond_height conj_height query_specification_height table_expression_height test_height

unfoldable pub conj_depth : Conj → ℕ
conj_depth = fold-Conj ℕ ℕ ℕ ℕ ℕ ℕ ℕ body_height tail_height cond_height conj_height query_specification_height table_expression_height test_height

unfoldable pub cond_depth : Cond → ℕ
cond_depth = fold-Cond ℕ ℕ ℕ ℕ ℕ ℕ ℕ body_height tail_height cond_height conj_height query_specification_height table_expression_height test_height

unfoldable pub table_expression_depth : TableExpression → ℕ
table_expression_depth = fold-TableExpression ℕ ℕ ℕ ℕ ℕ ℕ ℕ body_height tail_height cond_height conj_height query_specification_height table_expression_height test_height

unfoldable pub query_specification_depth : QuerySpecification → ℕ
query_specification_depth = fold-QuerySpecification ℕ ℕ ℕ ℕ ℕ ℕ ℕ body_height tail_height cond_height conj_height query_specification_height table_expression_height test_height
