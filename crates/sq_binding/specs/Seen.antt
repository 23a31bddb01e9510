-- Bound trees, as the definitions see them (ISO/IEC 9075:1992, 6.5, 6.11, 7.9 and 8.12). An operator is between its operands, NOT
-- before a test and in a predicate are one, brackets are gone, and the kinds are left out.
use Rattle.std.specs.Prelude.{Bool, if◌then◌else◌, List, [], ◌∷◌, fold, map, Option, Some, None}
use Rattle.std.specs.Option.{option_map}
use Rattle.sq_bound.specs.Expression.{PlacedExpr, place_meant, parameter_meant}
use Rattle.sq_meaning.specs.Syntax.{count_rows, set_function}
use Rattle.sq_bound.specs.declared.condition.Predicate.{Predicate, fold-Predicate, Predicate-F}
use Rattle.sq_bound.specs.declared.condition.Predicate.TheOpen as layer
use Rattle.sq_bound.specs.declared.condition.BoundCond.{BoundCond, fold-BoundCond, BoundCond-F}
use Rattle.sq_bound.specs.declared.condition.BoundConj.{BoundConj, fold-BoundConj, BoundConj-F}
use Rattle.sq_bound.specs.declared.condition.BoundTest.{BoundTest, fold-BoundTest, BoundTest-F}
use Rattle.sq_bound.specs.declared.condition.BoundSpecification.{BoundSpecification, fold-BoundSpecification, BoundSpecification-F}
use Rattle.sq_bound.specs.declared.condition.Grouping.{Grouping, fold-Grouping, Grouping-F}
use Rattle.sq_bound.specs.declared.condition.ResultColumn.{ResultColumn as BoundColumn}
use Rattle.sq_bound.specs.declared.expression.BoundExpr.{BoundExpr, fold-BoundExpr, BoundExpr-F}
use Rattle.sq_bound.specs.declared.expression.BoundExpr.TheOpen as level
use Rattle.sq_bound.specs.declared.expression.Operation.{Operation, fold-Operation, Operation-F}
use Rattle.sq_bound.specs.declared.expression.SetFunctionCall.{SetFunctionCall}
use Rattle.sq_bound.specs.declared.expression.SetFunctionCall.TheVariants.{CountRows, Over}
use Rattle.sq_binding.specs.Numbered.{Numbered, tree_of}
use Rattle.sq_binding.specs.NumberedCondition.{NumberedClause, NumberedCond, NumberedConds, NumberedGroups, NumberedSelect, ResultColumn}

-- ---- value expressions

-- One level of a tree, with the seen parts in their places. An operator and its right operand wait for the left one.

abbrev numbered_layer : BoundExpr-F Numbered (Numbered → Numbered) → Numbered
numbered_layer (level.Literal v) = Numbered.literal v
numbered_layer (level.Parameter p) = Numbered.parameter (parameter_meant p)
numbered_layer level.User = Numbered.user
numbered_layer (level.Column p) = Numbered.column (place_meant p)
numbered_layer (level.SetFunction n) = Numbered.set_function n
numbered_layer (level.Signed sign e) = Numbered.signed sign e
numbered_layer (level.Operations first rest) = fold (λ left operation. operation left) first rest

abbrev operation_layer : Operation-F Numbered (Numbered → Numbered) → Numbered → Numbered
operation_layer o left = Numbered.operation o.operator left o.operand

unfoldable pub numbered_of : BoundExpr → Numbered
numbered_of = fold-BoundExpr Numbered (Numbered → Numbered) numbered_layer operation_layer

unfoldable pub operation_of : Operation → Numbered → Numbered
operation_of = fold-Operation Numbered (Numbered → Numbered) numbered_layer operation_layer

-- the operand of a set function has no set function
abbrev pub call_of : SetFunctionCall → PlacedExpr
call_of CountRows = count_rows
call_of (Over a) = set_function a.function a.distinct (tree_of [] (numbered_of a.operand))

-- ---- search conditions and query specifications

abbrev C : Type 0
C = NumberedCond

abbrev S : Type 0
S = NumberedSelect

abbrev G : Type 0
G = NumberedGroups

abbrev pub conds_in : List NumberedCond → NumberedConds
conds_in [] = NumberedConds.no_cond
conds_in (c ∷ cs) = NumberedConds.a_cond c (conds_in cs)

abbrev pub not_if : Bool → C → C
not_if written c = if written then NumberedCond.negated c else c

abbrev pub clause_if : Option C → NumberedClause
clause_if None = NumberedClause.absent
clause_if (Some c) = NumberedClause.present c

abbrev pub groups_if : Option G → G
groups_if None = NumberedGroups.not_grouped
groups_if (Some g) = g

abbrev pub column_of : BoundColumn → ResultColumn
column_of c = record { name = c.name; kind = c.kind }

abbrev predicate_layer : Predicate-F C C C S C G → C
predicate_layer (layer.Compare op a b) = NumberedCond.compare op (numbered_of a) (numbered_of b)
predicate_layer (layer.CompareQuery op compared a q) =
    NumberedCond.compare_query compared op (numbered_of a) q
predicate_layer (layer.Between written a low high) =
    not_if written (NumberedCond.between (numbered_of a) (numbered_of low) (numbered_of high))
predicate_layer (layer.InQuery written a q) = not_if written (NumberedCond.in_query (numbered_of a) q)
predicate_layer (layer.InList written a es) =
    not_if written (NumberedCond.in_list (numbered_of a) (map numbered_of es))
predicate_layer (layer.Like written text pattern escape) =
    not_if written
    (NumberedCond.like (numbered_of text) (numbered_of pattern) (option_map numbered_of escape))
predicate_layer (layer.Null written a) = not_if written (NumberedCond.is_null (numbered_of a))
predicate_layer (layer.Exists q) = NumberedCond.exists q
predicate_layer (layer.Bracketed c) = c

abbrev test_layer : BoundTest-F C C C S C G → C
test_layer t = NumberedCond.noted t.items t.can_fail (not_if t.negated t.predicate)

abbrev conj_layer : BoundConj-F C C C S C G → C
conj_layer c = NumberedCond.conjunction (conds_in c.tests)

abbrev cond_layer : BoundCond-F C C C S C G → C
cond_layer c = NumberedCond.disjunction (conds_in c.terms)

abbrev grouping_layer : Grouping-F C C C S C G → G
grouping_layer g =
    NumberedGroups.grouped (map place_meant g.columns) (map call_of g.set_functions) (clause_if g.having)

abbrev specification_layer : BoundSpecification-F C C C S C G → S
specification_layer s =
    NumberedSelect.select s.distinct (map numbered_of s.list) s.from.tables (clause_if s.condition)
    (groups_if s.grouping) (map column_of s.columns) s.can_fail s.number

unfoldable pub cond_seen : BoundCond → NumberedCond
cond_seen =
    fold-BoundCond C C C S C G predicate_layer cond_layer conj_layer specification_layer test_layer
    grouping_layer

unfoldable pub conj_seen : BoundConj → NumberedCond
conj_seen =
    fold-BoundConj C C C S C G predicate_layer cond_layer conj_layer specification_layer test_layer
    grouping_layer

unfoldable pub test_seen : BoundTest → NumberedCond
test_seen =
    fold-BoundTest C C C S C G predicate_layer cond_layer conj_layer specification_layer test_layer
    grouping_layer

unfoldable pub predicate_seen : Predicate → NumberedCond
predicate_seen =
    fold-Predicate C C C S C G predicate_layer cond_layer conj_layer specification_layer test_layer
    grouping_layer

unfoldable pub select_seen : BoundSpecification → NumberedSelect
select_seen =
    fold-BoundSpecification C C C S C G predicate_layer cond_layer conj_layer specification_layer test_layer
    grouping_layer

unfoldable pub grouping_seen : Grouping → NumberedGroups
grouping_seen =
    fold-Grouping C C C S C G predicate_layer cond_layer conj_layer specification_layer test_layer
    grouping_layer
