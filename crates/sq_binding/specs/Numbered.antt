-- Trees by place in which a set function of the query is a number (ISO/IEC 9075:1992, 6.5 and 6.11). It counts the set
-- functions before it in the text of the query.
use Rattle.std.specs.Prelude.{ℕ, List, slice_index_or}
use Rattle.sq_value.specs.declared.value.Value.{Value}
use Rattle.sq_tree.specs.declared.expr.Sign.{Sign}
use Rattle.sq_meaning.specs.Environment.{Place}
use Rattle.sq_meaning.specs.Placed.{PlacedParameter}
use Rattle.sq_meaning.specs.Syntax as tree
use Rattle.sq_bound.specs.Expression.{PlacedExpr, missing, operated}
use Rattle.sq_bound.specs.declared.expression.Operator.{Operator}

pub data Numbered : Type 0 where
  literal : Value → Numbered
  parameter : PlacedParameter → Numbered
  user : Numbered
  column : Place → Numbered
  set_function : ℕ → Numbered
  signed : Sign → Numbered → Numbered
  operation : Operator → Numbered → Numbered → Numbered

-- the tree, if these are the set functions of the query
abbrev pub tree_of : List PlacedExpr → Numbered → PlacedExpr
tree_of functions (Numbered.literal v) = tree.literal v
tree_of functions (Numbered.parameter p) = tree.parameter p
tree_of functions Numbered.user = tree.user
tree_of functions (Numbered.column p) = tree.column p
tree_of functions (Numbered.set_function n) = slice_index_or functions n missing
tree_of functions (Numbered.signed sign e) = tree.signed sign (tree_of functions e)
tree_of functions (Numbered.operation operator a b) =
    operated operator (tree_of functions a) (tree_of functions b)
