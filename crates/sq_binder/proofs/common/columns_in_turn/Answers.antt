-- Left open: the result, and that the loop keeps its invariant; answered by Commons and Turns.
use Rattle.std.proofs.Common.{map, refl}
use Rattle.std.specs.List.{zip}
use Rattle.sq_binding.specs.Seen.{column_of}
use Rattle.sq_binder.specs.InTurn.{in_turn}
use Rattle.sq_binder.specs.Query.{column_in_common, sides_seen}
use Rattle.sq_binder.proofs.WholeQueries.Commons.{pair_at, pair_within, pairs_past}
use Rattle.sq_binder.proofs.OneByOne.Turns.{all_grown, next_grown, next_stops, none_grown}
use Rattle.sq_binder.proofs.common.columns_in_turn.Goals as goal

pub loop-position-init : goal.loop-position-init
loop-position-init c =
    let sides = zip c.args.left.now c.args.right.now in
    none_grown column_of column_in_common sides_seen (in_turn column_in_common (map sides_seen sides)) sides c.new-columns.result refl c.new-columns.ensures

pub returns-in-Err : goal.returns-in-Err
returns-in-Err c =
    let left = c.args.left.now in
    let right = c.args.right.now in
    let i = c.loop-position.position in
    let l = c.index-left-position.result in
    let r = c.index-right-position.result in
    let sides = zip left right in
    next_stops column_of column_in_common sides_seen (in_turn column_in_common (map sides_seen sides)) sides i c.loop-position.columns (l, r) c.common_column-next.result c.in-Err.stop
    (pair_within left right i c.requires c.loop-position-test.true) (pair_at left right i l r c.requires c.loop-position-test.true c.index-left-position.is c.index-right-position.is)
    c.loop-position.invariant c.common_column-next.ensures c.in-Err.ensures

pub loop-position-preserved : goal.loop-position-preserved
loop-position-preserved c =
    let left = c.args.left.now in
    let right = c.args.right.now in
    let i = c.loop-position.position in
    let l = c.index-left-position.result in
    let r = c.index-right-position.result in
    let sides = zip left right in
    next_grown column_of column_in_common sides_seen (in_turn column_in_common (map sides_seen sides)) sides i c.loop-position.columns (l, r) c.common_column-next.result c.in-Ok.more
    (pair_within left right i c.requires c.loop-position-test.true) (pair_at left right i l r c.requires c.loop-position-test.true c.index-left-position.is c.index-right-position.is)
    c.loop-position.invariant c.common_column-next.ensures c.in-Ok.ensures

pub returns : goal.returns
returns c =
    let left = c.args.left.now in
    let right = c.args.right.now in
    let i = c.loop-position.position in
    let sides = zip left right in
    all_grown column_of column_in_common sides_seen (in_turn column_in_common (map sides_seen sides)) sides i c.loop-position.columns (pairs_past left right i c.requires c.loop-position-test.false) c.loop-position.invariant
