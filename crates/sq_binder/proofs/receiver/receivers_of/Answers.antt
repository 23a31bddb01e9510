-- Left open for receivers_of: its result; answered by Receivers.
use Rattle.std.proofs.Common.{◌≡◌, map, ap, subst, ◌∙◌}
use Rattle.std.specs.Prelude.{IfOk}
use Rattle.sq_binder.specs.Scope.{column_of}
use Rattle.sq_binder.specs.Changeable.{changed_of}
use Rattle.sq_binder.specs.Receiver.{receiver_seen}
use Rattle.sq_binder.proofs.Changes.Receivers.{all_seen}
use Rattle.sq_binder.proofs.receiver.receivers_of.Goals as goal

pub returns : goal.returns
returns c =
    subst (λ l. IfOk c.receivers_over-receivers.result (λ rs. map receiver_seen rs ≡ l))
    (all_seen (changed_of c.args.table.now) c.as_slice.result.now (ap (map column_of) c.as_slice.ensures ∙ ap (λ item. item.columns) c.in_ok-item.ensures)) c.receivers_over-receivers.ensures
