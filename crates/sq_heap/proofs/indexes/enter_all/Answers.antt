-- Left open: the call of enter, the clauses keys and keeps, and the loop's invariant; answered by Entries and Holds.
use Rattle.std.proofs.Common.{◌∙◌, ◌<◌, arith, length}
use Rattle.std.specs.Option.{option_copied}
use Rattle.sq_heap.specs.Index.{in_all, is_in}
use Rattle.sq_heap.proofs.Entries.{all_at, all_set, all_taken, in_keeps, keys_set, length_put}
use Rattle.sq_heap.proofs.Holds.{slot_gives}
use Rattle.sq_heap.proofs.indexes.enter_all.Goals as goal

pub enter-requires : goal.enter-requires
enter-requires c =
    let xs = c.loop-place.indexes.items in
    let x = c.index_mut.result.now in
    let lt : c.loop-place.place < length c.loop-place.indexes.items = omega (arith, c.loop-place-test.true, c.loop-place.invariant.tables) in
    slot_gives (in_all c.args.indexes.now.items) (is_in x) (λ r at h. all_at (λ index. is_in index r at) xs c.loop-place.place x lt c.index_mut.ensures.value (c.loop-place.invariant.keeps r at h))
    c.args.at (option_copied c.args.before) c.requires

pub returns-in_err-enter-clause-keys : goal.returns-in_err-enter-clause-keys
returns-in_err-enter-clause-keys c =
    let xs = c.loop-place.indexes.items in
    let lt : c.loop-place.place < length c.loop-place.indexes.items = omega (arith, c.loop-place-test.true, c.loop-place.invariant.tables) in
    keys_set xs c.loop-place.place c.index_mut.result.now c.enter.new.self lt c.index_mut.ensures.value c.enter.ensures.columns ∙ c.loop-place.invariant.keys

pub returns-in_err-enter-clause-keeps : goal.returns-in_err-enter-clause-keeps
returns-in_err-enter-clause-keeps c r at h =
    let xs = c.loop-place.indexes.items in
    let x = c.index_mut.result.now in
    let y = c.enter.new.self in
    let lt : c.loop-place.place < length c.loop-place.indexes.items = omega (arith, c.loop-place-test.true, c.loop-place.invariant.tables) in
    all_set (λ index. is_in index r at) xs c.loop-place.place x y lt c.index_mut.ensures.value (in_keeps x y c.enter.ensures.columns c.enter.ensures.keeps r at) (c.loop-place.invariant.keeps r at h)

pub loop-place-preserved : goal.loop-place-preserved
loop-place-preserved c =
    let xs = c.loop-place.indexes.items in
    let x = c.index_mut.result.now in
    let y = c.enter.new.self in
    let i = c.loop-place.place in
    let lt : c.loop-place.place < length c.loop-place.indexes.items = omega (arith, c.loop-place-test.true, c.loop-place.invariant.tables) in
    record {
      keys = keys_set xs i x y lt c.index_mut.ensures.value c.enter.ensures.columns ∙ c.loop-place.invariant.keys;
      keeps = λ r at h. all_set (λ index. is_in index r at) xs i x y lt c.index_mut.ensures.value (in_keeps x y c.enter.ensures.columns c.enter.ensures.keeps r at) (c.loop-place.invariant.keeps r at h);
      entered = all_taken (λ index. is_in index c.args.row.now c.args.at) xs i y c.loop-place.invariant.entered c.in_ok-enter.ensures.entered;
      tables = length_put xs i y ∙ c.loop-place.invariant.tables;
    }
