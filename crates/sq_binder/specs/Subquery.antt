-- Subqueries of predicates (ISO/IEC 9075:1992, 7.11 and 8.2 to 8.8).
use Rattle.std.specs.Prelude.{◌≡◌, Bool, true, false, List, [], ◌∷◌, Option, None, Some, Result, Ok, Err, if◌then◌else◌}
use Rattle.sq_value.specs.declared.domain.Kind.{Kind}
use Rattle.sq_tree.specs.declared.cond.Comparison.{Comparison}
use Rattle.sq_tree.specs.declared.cond.Quantifier.{Quantifier}
use Rattle.sq_meaning.specs.WellFormed.{is_comparable}
use Rattle.sq_meaning.specs.declared.fault.BindingFault.{BindingFault}
use Rattle.sq_meaning.specs.declared.fault.BindingFault.TheVariants as fault
use Rattle.sq_bound.specs.declared.condition.BoundSpecification.{BoundSpecification}
use Rattle.sq_bound.specs.declared.condition.Compared.{Compared}
use Rattle.sq_bound.specs.declared.condition.Compared.TheVariants.{Scalar}
use Rattle.sq_bound.specs.declared.expression.BoundExpr.{BoundExpr}
use Rattle.sq_binding.specs.Condition.{as_subquery, beside, scalar}
use Rattle.sq_binding.specs.Condition as binding
use Rattle.sq_binding.specs.Found.{Binding, ◌>>=◌, pure}
use Rattle.sq_binding.specs.NumberedCondition.{NumberedCond, NumberedSelect, ResultColumn}
use Rattle.sq_binding.specs.Seen.{select_seen}
use Rattle.sq_binding.specs.Select.{Typed as BindingTyped}
use Rattle.sq_binder.specs.Found.{Pairs, found_of}
use Rattle.sq_binder.specs.declared.found.Found.{Found}
use Rattle.sq_binder.specs.declared.stop.Stop.{Stop}
use Rattle.sq_binder.specs.declared.stop.Stop.TheVariants.{NoMemory}
use Rattle.sq_binder.specs.declared.typed.Typed.{Typed}

-- a query specification becomes a subquery, seen from the query around it
abbrev pub Numbers : Found BoundSpecification → Result (Found BoundSpecification) Stop → Type 0
Numbers query (Ok subquery) =
    (found_of select_seen subquery ≡ as_subquery (found_of select_seen query))
    × (subquery.brought.next.functions ≡ query.brought.next.functions)
Numbers query (Err stop) = stop ≡ NoMemory

-- a subquery beside a value has one column, of a kind that agrees
abbrev pub fault_beside : Kind → List ResultColumn → Option BindingFault
fault_beside k (column ∷ []) = if is_comparable k column.kind then None else Some fault.KindMismatch
fault_beside k _ = Some fault.CountMismatch

-- a subquery comes with a value
abbrev pub Beside : Found Typed → Result (Found BoundSpecification) Stop
    → Result (Found (BoundExpr × BoundSpecification)) Stop → Type 0
Beside left query (Ok both) =
    Pairs left query (Ok (record { part = (left.part, both.part.1); brought = both.brought }))
    × (both.part.0 ≡ left.part.expr)
Beside left query (Err stop) = Pairs left query (Err stop)

-- ---- predicates

abbrev pub compared_as : Option Quantifier → Compared
compared_as None = Scalar
compared_as (Some k) = binding.compared_as k

abbrev pub compared_side : Option Quantifier → Kind → Binding NumberedSelect → Binding NumberedSelect
compared_side None k q = scalar k q
compared_side (Some quantifier) k q = beside k q

-- NOT, if it is written
abbrev pub negated_if : Bool → Binding NumberedCond → Binding NumberedCond
negated_if true b = b >>= λ x. pure (NumberedCond.negated x)
negated_if false b = b

abbrev pub query_compared : Comparison → Option Quantifier → Binding BindingTyped → Binding NumberedSelect
    → Binding NumberedCond
query_compared op quantifier left q =
    left >>= λ x. compared_side quantifier x.kind q
    >>= λ y. pure (NumberedCond.compare_query (compared_as quantifier) op x.tree y)

abbrev pub among_query : (not : Bool) → Binding BindingTyped → Binding NumberedSelect → Binding NumberedCond
among_query not left q =
    negated_if not (left >>= λ x. beside x.kind q >>= λ y. pure (NumberedCond.in_query x.tree y))

abbrev pub query_exists : Binding NumberedSelect → Binding NumberedCond
query_exists q = binding.subquery q >>= λ y. pure (NumberedCond.exists y)
