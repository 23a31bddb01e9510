-- Left open for values_by_comparison: the clause named; answered by NamedRows.
use Rattle.std.proofs.Common.{◌∙◌, ap, sym}
use Rattle.sq_bound.specs.declared.condition.Predicate.TheVariants as bound
use Rattle.sq_query.proofs.Keys.NamedRows.{list_found}
use Rattle.sq_query.proofs.named.values_by_comparison.Goals as goal

pub returns-then-is_column_in-clause-named : goal.returns-then-is_column_in-clause-named
returns-then-is_column_in-clause-named c =
    let at = c.is_column_in.ensures c.if-is_column_in.true in
    list_found c.args.sought.now c.args.call.now.parameters.now c.args.call.now.user c.args.test.now c.in-InList.is_negated c.in-InList.operand c.as_slice.result.now c.args.column c.values_on_lines.result at.0 at.1
    (c.in-InList.is ∙ ap (bound.InList c.in-InList.is_negated c.in-InList.operand) (sym c.as_slice.ensures)) at.2 c.values_on_lines.ensures.known
