use Rattle.sq_query.specs.ViewItems.{ServeViews}
use Rattle.sq_query.proofs.view_items.shown_items.Given as goal

abbrev pub invariant-loop-item : goal.invariant-loop-item
invariant-loop-item g l =
    ServeViews l.query (g.N.Names.base_tables l.names) (g.N.Names.column_kinds l.names) (g.N.Names.view_queries l.names) (g.S.Store.content_now l.store) l.call.user l.call.parameters.now l.found l.shown.items
