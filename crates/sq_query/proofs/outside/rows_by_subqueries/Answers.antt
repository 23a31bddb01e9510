-- Left open for rows_by_subqueries: the clause found; answered by ServedWhere and KnownRows.
use Rattle.std.proofs.Common.{[], List, subst, sym}
use Rattle.sq_expression.specs.declared.table.BaseRows.{BaseRows}
use Rattle.sq_query.specs.Inner.{ServesSelect}
use Rattle.sq_query.specs.Known.{ServesOutside}
use Rattle.sq_query.specs.declared.around.Around.{Around}
use Rattle.sq_query.proofs.FoundByKey.KnownRows.{none_serve, outside_serves, then_serve}
use Rattle.sq_query.proofs.FoundByKey.ServedWhere.{items_serve, select_both}
use Rattle.sq_query.proofs.outside.rows_by_subqueries.Goals as goal

pub returns-then-not-compares_with_subquery-clause-found : goal.returns-then-not-compares_with_subquery-clause-found
returns-then-not-compares_with_subquery-clause-found g c =
    let q = c.args.query.now in
    let content = g.S.Store.content_now c.args.store.now in
    let keys = g.S.Store.key_columns c.args.store.now in
    let values = c.args.call.now.parameters.now in
    let user = c.args.call.now.user in
    subst (λ (l : List BaseRows). ServesOutside q content keys values user [] l) (sym c.new-none.ensures.items) (none_serve q content keys values user [])

pub returns-clause-found : goal.returns-clause-found
returns-clause-found g c =
    let q = c.args.query.now in
    let content = g.S.Store.content_now c.args.store.now in
    let keys = g.S.Store.key_columns c.args.store.now in
    let values = c.args.call.now.parameters.now in
    let user = c.args.call.now.user in
    let nowhere = c.args.nowhere.now in
    let around = c.args.around.now in
    let none = c.new-none.result.items in
    let own = c.in_ok-own.own.items in
    let inside = c.in_ok-inside.inside.items in
    let items = items_serve q content keys values user nowhere around c.in_ok-others.others c.in_ok-others.ensures none own c.in_ok-own.ensures.found in
    let both = select_both q content keys values user nowhere around none own inside items c.in_ok-inside.ensures.found in
    let alone = subst (λ (a : Around). ServesSelect q nowhere a content keys values user none inside) c.requires both in
    let first = subst (λ (l : List BaseRows). ServesOutside q content keys values user l inside) c.new-none.ensures.items (outside_serves q content keys values user nowhere none inside alone) in
    then_serve q content keys values user [] inside c.with_known.result first c.with_known.ensures.found
