-- Left open: the clauses finds and plain, and the loop's invariant; answered by Finds, InTurn and others.
use Rattle.std.proofs.Common.{◌∷◌, map, Ok, refl, sym, ap, subst}
use Rattle.std.specs.List.{zip}
use Rattle.sq_meaning.specs.Spelled.{listed}
use Rattle.sq_binding.specs.Change.{value_for}
use Rattle.sq_binding.specs.Found.{each}
use Rattle.sq_binding.specs.Seen.{numbered_of}
use Rattle.sq_binder.specs.Found.{Finds, counts_of}
use Rattle.sq_binder.specs.Surroundings.{surroundings}
use Rattle.sq_binder.proofs.OneByOne.Finds.{finds_as}
use Rattle.sq_binder.proofs.OneByOne.InTurn.{all_found, begun_found, next_found, next_stop}
use Rattle.sq_binder.proofs.OneByOne.Steps.{stops_as}
use Rattle.sq_binder.specs.Receiver.{receiver_seen}
use Rattle.sq_binder.proofs.Changes.Sources.{pair_seen, pairs_seen, value_at, value_within, values_past}
use Rattle.sq_binding.specs.There.{IsPlain}
use Rattle.sq_binder.proofs.OneByOne.EachHolds.{begun_holds, next_holds}
use Rattle.sq_binder.proofs.source.values_for.Goals as goal

pub loop-number-init : goal.loop-number-init
loop-number-init g c =
    let others = zip c.args.others.now c.args.list.now.rest in (
      begun_found numbered_of (value_for (surroundings g.T.Tables.named c.args.at.now)) pair_seen c.args.before (c.args.receiver, c.args.list.now.first) others others
          c.bind_new_value-first.result c.in_ok-values.values refl c.bind_new_value-first.ensures.finds c.in_ok-values.ensures,
      begun_holds IsPlain c.bind_new_value-first.result c.in_ok-values.values c.in_ok-values.ensures c.bind_new_value-first.ensures.plain,
    )

pub returns-in-Err-clause-finds : goal.returns-in-Err-clause-finds
returns-in-Err-clause-finds g c =
    let f = value_for (surroundings g.T.Tables.named c.args.at.now) in
    let others = c.args.others.now in
    let list = c.args.list.now in
    let all = zip (c.args.receiver ∷ others) (listed list) in
    let counts = counts_of c.args.before in
    let i = c.loop-number.number in
    let items = c.as_slice-value-items.result.now in
    let are = c.as_slice-value-items.ensures in
    let receiver = c.index-others-number.result in
    let value = c.value-item.result in
    stops_as (each f (zip (map receiver_seen (c.args.receiver ∷ others)) (listed list)) counts) (each f (map pair_seen all) counts) c.in-Err.stop (ap (λ l. each f l counts) (pairs_seen (c.args.receiver ∷ others) (listed list)))
    (next_stop numbered_of f pair_seen c.args.before (each f (map pair_seen all) counts) (zip others list.rest) i c.loop-number.values (receiver, value) c.bind_new_value-next.result c.in-Err.stop
    (value_within others list.rest items are c.requires i c.loop-number-test.true) (value_at others list.rest items are c.requires i receiver value c.loop-number-test.true c.value-item.is c.index-others-number.is)
    c.loop-number.invariant.0 (subst (λ r. Finds numbered_of (f (pair_seen (r, value))) c.loop-number.values.brought.next c.bind_new_value-next.result) (sym c.index-others-number.is) c.bind_new_value-next.ensures.finds) c.in-Err.ensures)

pub loop-number-preserved : goal.loop-number-preserved
loop-number-preserved g c =
    let f = value_for (surroundings g.T.Tables.named c.args.at.now) in
    let others = c.args.others.now in
    let list = c.args.list.now in
    let all = zip (c.args.receiver ∷ others) (listed list) in
    let counts = counts_of c.args.before in
    let i = c.loop-number.number in
    let items = c.as_slice-value-items.result.now in
    let are = c.as_slice-value-items.ensures in
    let receiver = c.index-others-number.result in
    let value = c.value-item.result in (
      next_found numbered_of f pair_seen c.args.before (each f (map pair_seen all) counts) (zip others list.rest) i c.loop-number.values (receiver, value) c.bind_new_value-next.result c.in-Ok.more
          (value_within others list.rest items are c.requires i c.loop-number-test.true) (value_at others list.rest items are c.requires i receiver value c.loop-number-test.true c.value-item.is c.index-others-number.is)
          c.loop-number.invariant.0 (subst (λ r. Finds numbered_of (f (pair_seen (r, value))) c.loop-number.values.brought.next c.bind_new_value-next.result) (sym c.index-others-number.is) c.bind_new_value-next.ensures.finds) c.in-Ok.ensures,
      next_holds IsPlain c.loop-number.values c.bind_new_value-next.result c.in-Ok.more c.in-Ok.ensures c.loop-number.invariant.1 c.bind_new_value-next.ensures.plain,
    )

pub returns-clause-finds : goal.returns-clause-finds
returns-clause-finds g c =
    let f = value_for (surroundings g.T.Tables.named c.args.at.now) in
    let others = c.args.others.now in
    let list = c.args.list.now in
    let all = zip (c.args.receiver ∷ others) (listed list) in
    finds_as (map numbered_of) (each f (zip (map receiver_seen (c.args.receiver ∷ others)) (listed list))) (each f (map pair_seen all)) c.args.before (Ok c.loop-number.values)
    (ap (λ l. each f l (counts_of c.args.before)) (pairs_seen (c.args.receiver ∷ others) (listed list)))
    (all_found numbered_of f pair_seen c.args.before (each f (map pair_seen all)) (zip others list.rest) c.loop-number.number c.loop-number.values
    (values_past others list.rest c.as_slice-value-items.result.now c.as_slice-value-items.ensures c.requires c.loop-number.number c.loop-number-test.false) c.loop-number.invariant.0)

pub returns-clause-plain : goal.returns-clause-plain
returns-clause-plain g c = c.loop-number.invariant.1
