-- Left open for Index::add: the clauses keeps and entered, and the invariant of self; answered by Chains.
use Rattle.std.proofs.Common.{◌≡◌, ◌∙◌, ◌≤◌, ◌%◌, ap, arith, length, refl, slice_set}
use Rattle.std.proofs.Math.Nat.{mod-lt}
use Rattle.std.proofs.lemmas.Grind.{common_steps}
use Rattle.sq_heap.specs.Chain.{are_falling}
use Rattle.sq_heap.specs.declared.index.Entry.{Entry}
use Rattle.sq_heap.proofs.Chains.{falling_more, has_more, keeps_more, length_more, within_at, within_set}
use Rattle.sq_heap.proofs.index.Index.add.Goals as goal

pub invariant_of-self-2 : goal.invariant_of-self-2
invariant_of-self-2 c =
    let x = c.args.self.now in
    let es = c.args.self.now.entries.items in
    let e : Entry = record { hash = c.args.hash; at = c.args.at; next = c.index-next.result.now } in
    let items = c.in_ok-push.ensures.items in
    let more = length_more es e in
    let n : c.len-2.result ≡ length c.push.new.self.items = grind (arith, common_steps) in
    let next : c.index-next.result.now ≤ length c.args.self.now.entries.items = grind (arith, common_steps, within_at) in
    record {
      some = grind (arith, common_steps);
      within = grind (arith, common_steps, within_set);
      falling = ap (are_falling 0) items ∙ falling_more 0 es e x.falling (omega (arith, next));
    }

pub returns-clause-keeps : goal.returns-clause-keeps
returns-clause-keeps c other place h =
    let hs = c.args.self.now.heads.items in
    let e : Entry = record { hash = c.args.hash; at = c.args.at; next = c.index-next.result.now } in
    keeps_more c.args.self.now c.push.new.self.items (slice_set hs (c.args.hash % c.len.result) c.len-2.result) c.args.hash e (record {
      entries_are = c.in_ok-push.ensures.items;
      next_is = grind (arith, common_steps);
      heads_are = grind (arith, common_steps);
      there = mod-lt c.args.hash c.args.self.now.some;
    }) other place h

pub returns-clause-entered : goal.returns-clause-entered
returns-clause-entered c =
    let hs = c.args.self.now.heads.items in
    let e : Entry = record { hash = c.args.hash; at = c.args.at; next = c.index-next.result.now } in
    has_more c.args.self.now c.push.new.self.items (slice_set hs (c.args.hash % c.len.result) c.len-2.result) c.args.hash c.args.at e (record {
      entries_are = c.in_ok-push.ensures.items;
      next_is = grind (arith, common_steps);
      heads_are = grind (arith, common_steps);
      there = mod-lt c.args.hash c.args.self.now.some;
    }) refl refl
