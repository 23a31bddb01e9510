-- Left open for write_view: its result; answered by ViewShown.
use Rattle.std.proofs.Common.{ap}
use Rattle.sq_session.specs.State.{State}
use Rattle.sq_show.proofs.ViewShown.{base_shown, none_shown, view_shown}
use Rattle.sq_show.proofs.view.write_view.Goals as goal

pub returns-in-View : goal.returns-in-View
returns-in-View g c =
    let inside = c.inside-inside.result in
    view_shown c.args.session.now inside.catalog.now (g.S.Store.content_now inside.store.now) c.args.user c.args.name c.in-Some.table.now c.in-View.view
    c.args.lines.now.items c.write_found.new.lines.items c.write_found.result
    c.inside-inside.ensures.schemas c.inside-inside.ensures.tables (ap (λ (s : State). s.tables) c.inside-inside.ensures.state)
    c.in-Some.ensures.known c.in-Some.ensures.named.0 c.in-View.is c.write_found.ensures

pub returns-in-Base : goal.returns-in-Base
returns-in-Base g c =
    base_shown c.args.session.now c.inside-inside.result.catalog.now c.args.user c.args.name c.in-Some.table.now c.in-Base.field-0 c.args.lines.now.items
    c.inside-inside.ensures.schemas c.inside-inside.ensures.tables c.in-Some.ensures.known c.in-Base.is

pub returns-in-None : goal.returns-in-None
returns-in-None g c =
    none_shown c.args.session.now c.inside-inside.result.catalog.now c.args.user c.args.name c.args.lines.now.items
    c.inside-inside.ensures.schemas c.inside-inside.ensures.tables c.in-None.ensures.known
