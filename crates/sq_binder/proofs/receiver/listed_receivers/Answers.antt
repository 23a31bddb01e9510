-- Left open for listed_receivers: its result, and that the loop keeps its invariant; answered by ColumnLoops.
use Rattle.std.proofs.Common.{map}
use Rattle.sq_lex.specs.declared.name.Name.{Name}
use Rattle.sq_binding.specs.Change.{itself}
use Rattle.sq_binder.specs.Receiver.{receiver_seen}
use Rattle.sq_binder.proofs.OneByOne.ColumnLoops.{all_columns, begun_columns, next_column, next_column_stops}
use Rattle.sq_binder.proofs.receiver.listed_receivers.Goals as goal

pub loop-number-init : goal.loop-number-init
loop-number-init c =
    begun_columns receiver_seen (map receiver_seen c.args.all.now) (λ (name : Name). name) itself c.args.before c.args.list.now.first c.args.list.now.rest
    c.receiver_by_name-first.result c.in_ok-receivers.receivers c.receiver_by_name-first.ensures c.in_ok-receivers.ensures

pub returns-in-Err : goal.returns-in-Err
returns-in-Err c =
    next_column_stops receiver_seen (map receiver_seen c.args.all.now) (λ (name : Name). name) itself c.args.before c.args.list.now.first c.args.list.now.rest
    c.as_slice-name-items.result.now c.as_slice-name-items.ensures c.loop-number.number c.name-item.result c.is_named-again.result c.loop-number.receivers c.loop-number-test.true c.name-item.is c.is_named-again.ensures c.loop-number.invariant
    c.receiver_by_name-next.result c.in-Err.stop c.receiver_by_name-next.ensures c.in-Err.ensures

pub loop-number-preserved : goal.loop-number-preserved
loop-number-preserved c =
    next_column receiver_seen (map receiver_seen c.args.all.now) (λ (name : Name). name) itself c.args.before c.args.list.now.first c.args.list.now.rest
    c.as_slice-name-items.result.now c.as_slice-name-items.ensures c.loop-number.number c.name-item.result c.is_named-again.result c.loop-number.receivers c.loop-number-test.true c.name-item.is c.is_named-again.ensures c.loop-number.invariant
    c.receiver_by_name-next.result c.in-Ok.more c.receiver_by_name-next.ensures c.in-Ok.ensures

pub returns : goal.returns
returns c =
    all_columns receiver_seen (map receiver_seen c.args.all.now) (λ (name : Name). name) itself c.args.before c.args.list.now.first c.args.list.now.rest
    c.as_slice-name-items.result.now c.as_slice-name-items.ensures c.loop-number.number c.loop-number.receivers c.loop-number-test.false c.loop-number.invariant
