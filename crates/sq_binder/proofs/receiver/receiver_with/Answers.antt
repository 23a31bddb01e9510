-- Left open for receiver_with: its result, and that the loop keeps its invariant; answered by Receivers.
use Rattle.std.proofs.Common.{sym, ◌∙◌}
use Rattle.sq_binder.proofs.Changes.Receivers.{found_next, none_left, passed_next}
use Rattle.sq_binder.proofs.receiver.receiver_with.Goals as goal

pub returns-then-eq : goal.returns-then-eq
returns-then-eq c =
    sym (c.loop-receiver.invariant ∙ found_next c.args.name c.args.all.now c.loop-receiver.receiver-index c.receiver-item.result c.loop-receiver-test.true c.receiver-item.is (sym c.eq.ensures ∙ c.if-eq.true))

pub loop-receiver-preserved : goal.loop-receiver-preserved
loop-receiver-preserved c =
    c.loop-receiver.invariant ∙ passed_next c.args.name c.args.all.now c.loop-receiver.receiver-index c.receiver-item.result c.loop-receiver-test.true c.receiver-item.is (sym c.eq.ensures ∙ c.if-eq.false)

pub returns : goal.returns
returns c = sym (c.loop-receiver.invariant ∙ none_left c.args.name c.args.all.now c.loop-receiver.receiver-index c.loop-receiver-test.false)
