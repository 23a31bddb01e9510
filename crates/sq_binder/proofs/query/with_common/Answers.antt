-- Left open for with_common: the clauses finds and columns; answered by Finds and Parts.
use Rattle.std.proofs.Common.{List, map, subst}
use Rattle.std.proofs.lemmas.Result.{IfOk-at_ok}
use Rattle.sq_binding.specs.NumberedCondition.{ResultColumn}
use Rattle.sq_binding.specs.QueryExpression.{columns_of_query, common_columns}
use Rattle.sq_binding.specs.Seen.{column_of}
use Rattle.sq_bound.specs.declared.query.BoundTerm.{BoundTerm}
use Rattle.sq_binder.specs.Found.{Finds}
use Rattle.sq_binder.specs.declared.found.Found.{Found}
use Rattle.sq_binder.proofs.OneByOne.Finds.{pairs_found}
use Rattle.sq_binding.specs.SeenQuery.{TermHasColumns, term_seen}
use Rattle.sq_binder.proofs.OneByOne.Parts.{first_holds}
use Rattle.sq_binder.proofs.query.with_common.Goals as goal

pub returns-clause-finds : goal.returns-clause-finds
returns-clause-finds c = λ right before found.
    let left = map column_of c.args.left.now in
    let t = c.in_ok-term.term in
    pairs_found term_seen (map column_of) right (λ y. common_columns left (columns_of_query y)) before t c.common_columns-columns.result c.pair_parts.result
    (subst (λ r. Finds term_seen right before r) c.in_ok-term.was found)
    (subst (λ (cs : List ResultColumn). Finds (map column_of) (common_columns left cs) t.brought.next c.common_columns-columns.result) c.columns_of.ensures c.common_columns-columns.ensures)
    c.pair_parts.ensures

pub returns-clause-columns : goal.returns-clause-columns
returns-clause-columns c =
    first_holds TermHasColumns c.in_ok-term.term c.common_columns-columns.result c.pair_parts.result c.pair_parts.ensures
    (IfOk-at_ok (λ (f : Found BoundTerm). TermHasColumns f.part) c.in_ok-term.was c.requires)
