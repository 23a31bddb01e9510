-- Left open for are_storable: its result, and that the loop keeps its invariant; answered by Sources.
use Rattle.std.proofs.Common.{sym, ◌∙◌}
use Rattle.sq_meaning.specs.WellFormed.{is_comparable}
use Rattle.sq_binder.proofs.Changes.Sources.{none_left, one_agrees, one_apart}
use Rattle.sq_binder.proofs.source.are_storable.Goals as goal

pub returns-then-not-are_comparable : goal.returns-then-not-are_comparable
returns-then-not-are_comparable c =
    sym (c.loop-number.invariant
    ∙ one_apart c.args.columns.now c.args.receivers.now c.requires c.loop-number.number c.index-columns-number.result c.index-receivers-number.result c.loop-number-test.true
    c.index-columns-number.is c.index-receivers-number.is ((λ j. is_comparable c.index-columns-number.result.kind (c.index-receivers-number.is j).kind) ∙ sym c.are_comparable.ensures ∙ c.if-not-are_comparable.true))

pub loop-number-preserved : goal.loop-number-preserved
loop-number-preserved c =
    c.loop-number.invariant
    ∙ one_agrees c.args.columns.now c.args.receivers.now c.requires c.loop-number.number c.index-columns-number.result c.index-receivers-number.result c.loop-number-test.true
    c.index-columns-number.is c.index-receivers-number.is ((λ j. is_comparable c.index-columns-number.result.kind (c.index-receivers-number.is j).kind) ∙ sym c.are_comparable.ensures ∙ c.if-not-are_comparable.false)

pub returns : goal.returns
returns c = sym (c.loop-number.invariant ∙ none_left c.args.columns.now c.args.receivers.now c.requires c.loop-number.number c.loop-number-test.false)
