-- Left open for how_with_view: what the call of how_of_view asks for; answered by ViewItems.
use Rattle.sq_meaning.specs.WellFormed.{HasValue}
use Rattle.sq_bound.specs.declared.condition.TablePlace.TheVariants.{View}
use Rattle.sq_query.proofs.PlainViews.ViewItems.{item_at, item_read}
use Rattle.sq_query.proofs.item_hows.how_with_view.Goals as goal

pub how_of_view-requires-clause-known : goal.how_of_view-requires-clause-known
how_of_view-requires-clause-known g c =
    let query = c.args.query.now in
    let view = View c.in-View.view in
    item_read (λ t. HasValue (g.N.Names.column_kinds c.args.names.now t)) query c.args.seen.now.item view c.requires.finds.1
    (item_at query c.as_slice-tables.result.now c.args.seen.now.item _ view c.as_slice-tables.ensures c.requires.item c.in-View.is)
