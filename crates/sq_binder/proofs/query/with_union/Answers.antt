-- Left open: what the call of joined_sides asks for, and the clause finds; answered by Parts and Unions.
use Rattle.std.proofs.Common.{List, map, ap, subst, ◌∙◌}
use Rattle.std.proofs.lemmas.Result.{IfOk-at_ok}
use Rattle.sq_binding.specs.NumberedCondition.{ResultColumn}
use Rattle.sq_binding.specs.QueryExpression.{columns_of_query, common_columns}
use Rattle.sq_binding.specs.Seen.{column_of}
use Rattle.sq_bound.specs.declared.condition.ResultColumn.{ResultColumn as BoundColumn}
use Rattle.sq_bound.specs.declared.query.BoundQuery.{BoundQuery}
use Rattle.sq_bound.specs.declared.query.BoundTerm.{BoundTerm}
use Rattle.sq_binder.specs.Found.{Finds, Pairs, both_of, pairs}
use Rattle.sq_binder.specs.declared.found.Found.{Found}
use Rattle.sq_binding.specs.SeenQuery.{HaveTheirColumns, TermHasColumns, term_seen}
use Rattle.sq_binding.proofs.Standing.SeenQueries.{query_itself}
use Rattle.sq_binder.proofs.OneByOne.Parts.{first_holds, second_holds}
use Rattle.sq_binder.proofs.WholeQueries.Unions.{joins_found, joins_stop}
use Rattle.sq_binder.proofs.query.with_union.Goals as goal

pub returns-in-Ok-clause-finds : goal.returns-in-Ok-clause-finds
returns-in-Ok-clause-finds c = λ left right before l m.
    let joined = c.args.joined in
    joins_found left right c.args.all before joined c.with_common-term.result c.in-Ok.sides c.joined_sides.result l
    (subst (λ (cs : List ResultColumn). Finds (both_of term_seen (map column_of)) (pairs right (λ y. common_columns cs (columns_of_query y))) joined.brought.next c.with_common-term.result)
    (ap (map column_of) c.as_slice.ensures ∙ query_itself joined.part c.requires.joined) (c.with_common-term.ensures.finds right joined.brought.next m))
    (subst (λ r. Pairs joined c.with_common-term.result r) c.in-Ok.is c.pair_parts.ensures) c.joined_sides.ensures

pub returns-in-Err-clause-finds : goal.returns-in-Err-clause-finds
returns-in-Err-clause-finds c = λ left right before l m.
    let joined = c.args.joined in
    joins_stop left right c.args.all before joined c.with_common-term.result c.in-Err.stop l
    (subst (λ (cs : List ResultColumn). Finds (both_of term_seen (map column_of)) (pairs right (λ y. common_columns cs (columns_of_query y))) joined.brought.next c.with_common-term.result)
    (ap (map column_of) c.as_slice.ensures ∙ query_itself joined.part c.requires.joined) (c.with_common-term.ensures.finds right joined.brought.next m))
    (subst (λ r. Pairs joined c.with_common-term.result r) c.in-Err.is c.pair_parts.ensures)

pub joined_sides-requires-clause-query : goal.joined_sides-requires-clause-query
joined_sides-requires-clause-query c =
    IfOk-at_ok (λ (sides : Found (BoundQuery × (BoundTerm × List BoundColumn))). HaveTheirColumns sides.part.0) c.in-Ok.is
    (first_holds HaveTheirColumns c.args.joined c.with_common-term.result c.pair_parts.result c.pair_parts.ensures c.requires.joined)

pub joined_sides-requires-clause-term : goal.joined_sides-requires-clause-term
joined_sides-requires-clause-term c =
    IfOk-at_ok (λ (sides : Found (BoundQuery × (BoundTerm × List BoundColumn))). TermHasColumns sides.part.1.0) c.in-Ok.is
    (second_holds (λ (p : BoundTerm × List BoundColumn). TermHasColumns p.0) c.args.joined c.with_common-term.result c.pair_parts.result c.pair_parts.ensures c.with_common-term.ensures.columns)
