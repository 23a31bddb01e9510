-- Left open for empty_tables: that the loop keeps its invariant; answered by Heap.
use Rattle.std.proofs.Common.{◌≡◌, ◌∙◌, ◌<◌, ◌+◌, ◌++◌, ◌∷◌, [], ap, arith, length, length-append, rules, take, vec_len}
use Rattle.std.proofs.lemmas.Grind.{common_steps}
use Rattle.sq_store.specs.Content.{no_rows}
use Rattle.sq_store.specs.Keys.{Keys}
use Rattle.sq_heap.specs.Heap.{all_committed, all_keys, all_now, are_listed, first_keys}
use Rattle.sq_heap.proofs.Heap.{committed_push, first_push, listed_new, now_push}
use Rattle.sq_heap.proofs.store.empty_tables.Goals as goal

pub loop-table-preserved : goal.loop-table-preserved
loop-table-preserved c =
    let ts = c.loop-table.tables.items in
    let t = c.in_ok-new.field-0 in
    let i = c.loop-table.table in
    let keys = c.args.keys.now in
    let k : Keys = c.index-keys-table.result in
    let lookups : Keys = c.lookups_at-lookups.result.now in
    let grown : c.push.new.self.items ≡ c.loop-table.tables.items ++ c.in_ok-new.field-0 ∷ [] = first_of (search rules, grind (arith, common_steps)) in
    let count : vec_len c.push.new.self ≡ c.loop-table.table + 1 = first_of (search rules, grind (arith, common_steps)) in
    let before : vec_len c.loop-table.tables ≡ c.loop-table.table = c.loop-table.invariant.count in
    let more : vec_len c.loop-table.tables + 1 ≡ vec_len c.push.new.self = omega (arith, count, before) in
    let lt : c.loop-table.table < length c.args.keys.now = omega (arith, c.loop-table-test.true) in
    record {
      count = count;
      long = omega (arith, ap length grown, length-append ts (t ∷ []), c.loop-table.invariant.long);
      now = ap all_now grown ∙ now_push ts t (vec_len c.loop-table.tables) c.in_ok-new.ensures.slots c.loop-table.invariant.now ∙ ap no_rows more;
      committed = ap all_committed grown ∙ committed_push ts t (vec_len c.loop-table.tables) c.in_ok-new.ensures.slots c.in_ok-new.ensures.undo c.loop-table.invariant.committed ∙ ap no_rows more;
      listed = ap (are_listed [] 0) grown ∙ listed_new 0 ts t c.in_ok-new.ensures.undo c.loop-table.invariant.listed;
      keys =
          ap (λ us. first_keys (take (i + 1) keys) (all_keys us)) grown
          ∙ first_push keys ts t i k lookups lt c.index-keys-table.is (c.in_ok-new.ensures.keys ∙ ap (λ (ks : Keys). ks ++ lookups) c.as_slice.ensures) c.loop-table.invariant.long c.loop-table.invariant.keys;
    }
