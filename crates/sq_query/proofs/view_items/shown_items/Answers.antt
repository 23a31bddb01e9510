-- Left open for shown_items: that the loop keeps its invariant; answered by ViewItems.
use Rattle.std.proofs.Common.{List, subst, sym}
use Rattle.std.specs.Prelude.{IfSome}
use Rattle.sq_expression.specs.declared.table.ViewRows.{ViewRows}
use Rattle.sq_query.specs.ViewItems.{AreServed, IsShownItem}
use Rattle.sq_query.proofs.Needs.TablesMeant.{tables_fit}
use Rattle.sq_query.proofs.PlainViews.FewRows.{few_rows}
use Rattle.sq_query.proofs.PlainViews.ViewItems.{more_served, none_served}
use Rattle.sq_query.proofs.Targets.KnownConditions.{rows_fit}
use Rattle.sq_query.proofs.view_items.shown_items.Goals as goal

pub loop-item-init : goal.loop-item-init
loop-item-init g c = λ parameters tables may well fitting.
    let query = c.args.query.now in
    let columns = g.N.Names.column_kinds c.args.names.now in
    let values = c.args.call.now.parameters.now in
    let user = c.args.call.now.user in
    let found = c.args.found.now in
    subst (λ (l : List ViewRows). AreServed query columns values user found l tables) (sym c.new-shown.ensures.items) (none_served query columns values user found tables fitting)

pub loop-item-preserved : goal.loop-item-preserved
loop-item-preserved g c = λ parameters tables may well fitting.
    let names = c.args.names.now in
    let store = c.args.store.now in
    let bases = g.N.Names.base_tables names in
    let columns = g.N.Names.column_kinds names in
    let queries = g.N.Names.view_queries names in
    let content = g.S.Store.content_now store in
    let keys = g.S.Store.key_columns store in
    let query = c.args.query.now in
    let values = c.args.call.now.parameters.now in
    let user = c.args.call.now.user in
    let found = c.args.found.now in
    let inner = c.args.inner.now in
    let shown = c.loop-item.shown.items in
    let kinds = g.met.N.Names.kinds_of_bases names in
    let kinds_of_views = g.met.N.Names.kinds_of_views names in
    more_served bases columns queries content keys user values parameters tables may query well c.requires.readable.keys c.requires.readable.not_null (g.met.S.Store.keyed store)
    (λ n. few_rows (g.S.Store.row_numbers store) content n (g.met.S.Store.rises store) (g.met.S.Store.limited store)) kinds (rows_fit bases queries columns content user values kinds kinds_of_views parameters tables may)
    (tables_fit bases queries columns content user tables kinds may.there may.in_domains may.meant kinds_of_views) inner c.requires.inside found shown c.in_ok-own.own c.in_ok-shown.shown.items
    (subst (λ (l : List ViewRows). IfSome c.in_ok-own.own (IsShownItem query columns queries content keys values user inner found l)) c.as_slice.ensures.value c.in_ok-own.ensures.shown) c.in_ok-shown.ensures
    (c.loop-item.invariant parameters tables may well fitting)
