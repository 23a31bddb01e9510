-- Left open: what the call of object_column asks for, and the clause column; answered by Receivers and There.
use Rattle.std.proofs.Common.{◌<◌, length, map, sym, ap, subst, ◌∙◌}
use Rattle.sq_bound.specs.declared.names.BaseTable.{BaseTable}
use Rattle.sq_bound.specs.declared.names.Leaf.{Leaf}
use Rattle.sq_binder.specs.Receiver.{receiver_seen}
use Rattle.sq_binder.proofs.Changes.Receivers.{named_within}
use Rattle.sq_binder.proofs.Statements.There.{object_of}
use Rattle.sq_binder.proofs.assignment.bind_assignment.Goals as goal

pub object_column-requires : goal.object_column-requires
object_column-requires g c =
    let leaf = c.args.table.now.under.leaf.now in
    let receiver = c.in_ok-receiver.receiver in
    subst (λ (b : BaseTable). receiver.column < length b.columns) (sym (c.get-base.ensures ∙ ap (λ (l : Leaf). l.table) c.get.ensures))
    (named_within (length leaf.table.columns) (map receiver_seen c.args.receivers.now) c.args.assignment.now.column c.args.again (receiver_seen receiver) c.requires c.in_ok-receiver.ensures)

pub returns-clause-column : goal.returns-clause-column
returns-clause-column g c = (
  object_of c.args.table.now.under.leaf.now.table c.get-base.result.now (c.get-base.ensures ∙ ap (λ (l : Leaf). l.table) c.get.ensures) c.object_column.result c.in_ok-receiver.receiver.column c.object_column.ensures.position c.object_column.ensures.domain,
  c.in_ok-part.ensures.plain,
)
