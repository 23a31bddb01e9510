-- Left open for updatable_query: its result; answered by QuietWalks.
use Rattle.std.proofs.Common.{◌∙◌, Some, ap, length, sym}
use Rattle.std.proofs.lemmas.Bool.{ltb-true}
use Rattle.std.proofs.lemmas.Option.{slice_get-get_or}
use Rattle.sq_session.proofs.Walks.QuietWalks.{declared_at}
use Rattle.sq_session.proofs.fetch.updatable_query.Goals as goal

pub returns : goal.returns
returns c =
    let cursors = c.args.called.now.cursors.now in
    let declared = c.in-Some.declared.now in
    let at = slice_get-get_or cursors c.args.cursor declared (ltb-true c.args.cursor (length cursors) (sym c.in-Some.ensures.lookup.0)) ∙ ap Some (sym c.in-Some.ensures.lookup.1) in
    declared_at cursors c.args.cursor declared c.in-Updatable.query at c.in-Updatable.is
