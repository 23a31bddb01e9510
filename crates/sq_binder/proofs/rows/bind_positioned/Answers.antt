-- Left open for bind_positioned: the clauses finds and leaf; answered by Finds, Steps and others.
use Rattle.std.proofs.Common.{sym, ap, ◌∙◌, Ok}
use Rattle.sq_bound.specs.Fits.{under}
use Rattle.sq_bound.specs.Known.{under_of}
use Rattle.sq_binding.specs.Change.{NumberedChange, positioned_bound}
use Rattle.sq_binding.specs.Found.{pure}
use Rattle.sq_binder.specs.Found.{counts_of}
use Rattle.sq_binder.proofs.OneByOne.Finds.{finds_as}
use Rattle.sq_binder.proofs.OneByOne.Steps.{stops_by}
use Rattle.sq_binder.specs.Changeable.{changed_of}
use Rattle.sq_binder.specs.Cursors.{named_cursor_of}
use Rattle.sq_binding.specs.SeenQuery.{change_seen}
use Rattle.sq_binder.proofs.Changes.ChangedRows.{row_elsewhere, row_there}
use Rattle.sq_binder.proofs.OneByOne.Turned.{alone_seen}
use Rattle.sq_binder.proofs.rows.bind_positioned.Goals as goal

pub returns-then-not-is_over-clause-finds : goal.returns-then-not-is_over-clause-finds
returns-then-not-is_over-clause-finds g c =
    stops_by (positioned_bound (g.C.Cursors.named c.args.cursors.now) (changed_of c.args.table.now) c.args.name (counts_of c.args.before)) c.about.result _ c.about.ensures
    (row_elsewhere (g.C.Cursors.named c.args.cursors.now) (changed_of c.args.table.now) c.args.name (counts_of c.args.before) (named_cursor_of c.in_ok-known.known) c.in_ok-known.ensures
    (sym c.is_over.ensures ∙ c.if-not-is_over.true))

pub returns-clause-finds : goal.returns-clause-finds
returns-clause-finds g c =
    let cursors = g.C.Cursors.named c.args.cursors.now in
    let t = changed_of c.args.table.now in
    let known = c.in_ok-known.known in
    let row = NumberedChange.positioned known.number (under_of c.args.table.now.under.leaf.now) in
    finds_as change_seen (positioned_bound cursors t c.args.name) (pure row) c.args.before (Ok c.bring_nothing.result)
    (row_there cursors t c.args.name (counts_of c.args.before) (named_cursor_of known) c.in_ok-known.ensures (sym c.is_over.ensures ∙ c.if-not-is_over.false))
    (alone_seen change_seen row c.bring_nothing.result c.args.before
    (ap (λ x. change_seen x.part) c.bring_nothing.ensures ∙ ap (λ leaf. NumberedChange.positioned known.number (under_of leaf)) c.in_ok-leaf.ensures) (ap (λ x. x.brought) c.bring_nothing.ensures))

pub returns-clause-leaf : goal.returns-clause-leaf
returns-clause-leaf g c = ap (λ x. under x.part) c.bring_nothing.ensures ∙ c.in_ok-leaf.ensures
