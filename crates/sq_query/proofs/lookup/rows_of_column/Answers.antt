-- Left open for rows_of_column: the clause found; answered by ItemSearch and KeyTests.
use Rattle.std.proofs.Common.{List, subst}
use Rattle.std.specs.Prelude.{IfSome}
use Rattle.sq_value.specs.declared.value.Value.{Value}
use Rattle.sq_query.specs.Asked.{IsFalseThrough, IsShownBy}
use Rattle.sq_query.specs.Named.{IsFalseOf}
use Rattle.sq_query.specs.Valued.{HasRowsWithOne}
use Rattle.sq_query.specs.declared.named.Sure.TheVariants.{Noted}
use Rattle.sq_query.proofs.FoundByKey.ItemSearch.{rows_of_values}
use Rattle.sq_query.proofs.Keys.KeyTests.{if_some}
use Rattle.sq_query.proofs.lookup.rows_of_column.Goals as goal

pub returns-in_ok-own-in-Some-2-clause-found : goal.returns-in_ok-own-in-Some-2-clause-found
returns-in_ok-own-in-Some-2-clause-found g c =
    let content = g.S.Store.content_now c.args.store.now in
    let through = c.args.asked.now.through in
    let IsFalse = IsFalseOf c.args.sought.now Noted c.args.call.now.parameters.now c.args.call.now.user c.args.condition.now in
    let base = c.args.asked.now.base in
    let column = c.in-Some.own_column in
    let values = c.in-Some-2.values in
    let own = c.in_ok-own-in-Some-2.field-0 in
    rows_of_values (IsFalseThrough through IsFalse) content (g.S.Store.key_columns c.args.store.now) base column values.items own
    (c.args.column, if_some (λ n. IsShownBy through n c.args.column) c.own.result column c.own.ensures c.in-Some.is, if_some (λ vs. IsFalse c.args.column vs.items) c.in_ok-values.field-0 values c.in_ok-values.ensures.named c.in-Some-2.is)
    (subst (λ (l : List Value). IfSome own (HasRowsWithOne content base column l)) c.as_slice.ensures.value c.in_ok-own-in-Some-2.ensures)
