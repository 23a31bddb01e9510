-- The meanings of bound search conditions and query specifications: trees by place (ISO/IEC 9075:1992, 7.9 and 8.12).
-- The number of items that a test reads, whether something can fail, and the number of a subquery have no bearing on
-- it.
use Rattle.std.specs.Prelude.{Bool, if◌then◌else◌, List, [], map, Option, Some, None}
use Rattle.std.specs.Option.{option_map}
use Rattle.sq_tree.specs.declared.cond.Comparison.{Comparison}
use Rattle.sq_tree.specs.declared.cond.Quantifier.TheVariants as quantifier
use Rattle.sq_meaning.specs.Syntax.{expressions, Cond, Clause, Select, compare, compare_subquery, compare_quantified, between, in_subquery, in_list, like, is_null, exists, negated, conjunction, disjunction, conds, absent, present, select}
use Rattle.sq_meaning.specs.Environment as meaning
use Rattle.sq_meaning.specs.Placed.{Placed}
use Rattle.sq_bound.specs.Expression.{PlacedExpr, place_meant, expr_of}
use Rattle.sq_bound.specs.SetFunction.{call_of}
use Rattle.sq_bound.specs.declared.condition.TablePlace.{TablePlace}
use Rattle.sq_bound.specs.declared.condition.Compared.{Compared}
use Rattle.sq_bound.specs.declared.condition.Compared.TheVariants.{Scalar, All, Any}
use Rattle.sq_bound.specs.declared.condition.Predicate.{Predicate, fold-Predicate, Predicate-F}
use Rattle.sq_bound.specs.declared.condition.Predicate.TheOpen as layer
use Rattle.sq_bound.specs.declared.condition.BoundCond.{BoundCond, fold-BoundCond, BoundCond-F}
use Rattle.sq_bound.specs.declared.condition.BoundConj.{BoundConj, fold-BoundConj, BoundConj-F}
use Rattle.sq_bound.specs.declared.condition.BoundTest.{BoundTest, fold-BoundTest, BoundTest-F}
use Rattle.sq_bound.specs.declared.condition.BoundSpecification.{BoundSpecification, fold-BoundSpecification, BoundSpecification-F}
use Rattle.sq_bound.specs.declared.condition.Grouping.{Grouping, fold-Grouping, Grouping-F}
use Rattle.sq_bound.specs.declared.expression.BoundExpr.{BoundExpr}
use Rattle.sq_bound.specs.declared.expression.Place.{Place}

abbrev pub PlacedCond : Type 0
PlacedCond = Cond (Placed TablePlace)

abbrev pub PlacedClause : Type 0
PlacedClause = Clause (Placed TablePlace)

abbrev pub PlacedSelect : Type 0
PlacedSelect = Select (Placed TablePlace)

abbrev pub not_if : Bool → PlacedCond → PlacedCond
not_if written c = if written then negated c else c

abbrev pub compared_with : Compared → Comparison → PlacedExpr → PlacedSelect → PlacedCond
compared_with Scalar op left q = compare_subquery op left q
compared_with All op left q = compare_quantified op quantifier.All left q
compared_with Any op left q = compare_quantified op quantifier.Any left q

-- the grouping of a query specification: its set functions in the order of the text, the columns of GROUP BY, and HAVING
pub record Groups : Type 0 where
  pub functions : List PlacedExpr
  pub columns : List meaning.Place
  pub having : PlacedClause

-- no GROUP BY, no HAVING and no set function
abbrev pub no_groups : Groups
no_groups = record { functions = []; columns = []; having = absent }

abbrev pub groups_if : Option Groups → Groups
groups_if None = no_groups
groups_if (Some groups) = groups

-- One level of a tree, with the meanings of its parts in their places. The set functions of the group have given trees
-- in the order of the text: a condition waits for them. A subquery's set functions are its own.

abbrev C : Type 0
C = List PlacedExpr → PlacedCond

abbrev pub clause : List PlacedExpr → Option C → PlacedClause
clause functions None = absent
clause functions (Some c) = present (c functions)

abbrev pub predicate_layer : Predicate-F C C C PlacedSelect C Groups → C
predicate_layer (layer.Compare op a b) functions = compare op (expr_of functions a) (expr_of functions b)
predicate_layer (layer.CompareQuery op quantifier a q) functions =
    compared_with quantifier op (expr_of functions a) q
predicate_layer (layer.Between written a low high) functions =
    not_if written (between (expr_of functions a) (expr_of functions low) (expr_of functions high))
predicate_layer (layer.InQuery written a q) functions = not_if written (in_subquery (expr_of functions a) q)
predicate_layer (layer.InList written a es) functions =
    not_if written (in_list (expr_of functions a) (map (expr_of functions) es))
predicate_layer (layer.Like written text pattern escape) functions =
    not_if written
    (like (expr_of functions text) (expr_of functions pattern) (option_map (expr_of functions) escape))
predicate_layer (layer.Null written a) functions = not_if written (is_null (expr_of functions a))
predicate_layer (layer.Exists q) functions = exists q
predicate_layer (layer.Bracketed c) functions = c functions

abbrev pub test_layer : BoundTest-F C C C PlacedSelect C Groups → C
test_layer t functions = not_if t.negated (t.predicate functions)

abbrev pub conj_layer : BoundConj-F C C C PlacedSelect C Groups → C
conj_layer c functions = conjunction (conds (map (λ test. test functions) c.tests))

abbrev pub cond_layer : BoundCond-F C C C PlacedSelect C Groups → C
cond_layer c functions = disjunction (conds (map (λ term. term functions) c.terms))

-- groups by their parts
abbrev pub groups_by : List Place → List PlacedExpr → PlacedClause → Groups
groups_by columns functions having = record {
  functions = functions;
  columns = map place_meant columns;
  having = having;
}

-- HAVING is of the groups: it sees their set functions
abbrev pub grouping_layer : Grouping-F C C C PlacedSelect C Groups → Groups
grouping_layer g =
    groups_by g.columns (map call_of g.set_functions) (clause (map call_of g.set_functions) g.having)

-- a query specification by its parts; WHERE is of lines, which have no set function
abbrev pub select_by : Bool → List BoundExpr → List TablePlace → PlacedClause → Groups → PlacedSelect
select_by distinct list from filter groups =
    select distinct (expressions (map (expr_of groups.functions) list)) from filter groups.columns
    groups.having

abbrev pub specification_layer : BoundSpecification-F C C C PlacedSelect C Groups → PlacedSelect
specification_layer s =
    select_by s.distinct s.list s.from.tables (clause [] s.condition) (groups_if s.grouping)

-- the search condition of a bound one, if the set functions of the group are these, and its parts
unfoldable pub cond_of : List PlacedExpr → BoundCond → PlacedCond
cond_of functions c =
    fold-BoundCond C C C PlacedSelect C Groups predicate_layer cond_layer conj_layer specification_layer
    test_layer grouping_layer c functions

unfoldable pub conj_of : List PlacedExpr → BoundConj → PlacedCond
conj_of functions c =
    fold-BoundConj C C C PlacedSelect C Groups predicate_layer cond_layer conj_layer specification_layer
    test_layer grouping_layer c functions

unfoldable pub test_of : List PlacedExpr → BoundTest → PlacedCond
test_of functions t =
    fold-BoundTest C C C PlacedSelect C Groups predicate_layer cond_layer conj_layer specification_layer
    test_layer grouping_layer t functions

unfoldable pub predicate_of : List PlacedExpr → Predicate → PlacedCond
predicate_of functions p =
    fold-Predicate C C C PlacedSelect C Groups predicate_layer cond_layer conj_layer specification_layer
    test_layer grouping_layer p functions

-- the query specification that a bound one is, and its groups
unfoldable pub select_of : BoundSpecification → PlacedSelect
select_of =
    fold-BoundSpecification C C C PlacedSelect C Groups predicate_layer cond_layer conj_layer
    specification_layer test_layer grouping_layer

unfoldable pub groups_of : Grouping → Groups
groups_of =
    fold-Grouping C C C PlacedSelect C Groups predicate_layer cond_layer conj_layer specification_layer
    test_layer grouping_layer

-- a clause that may be written
abbrev pub clause_of : List PlacedExpr → Option BoundCond → PlacedClause
clause_of functions None = absent
clause_of functions (Some c) = present (cond_of functions c)
