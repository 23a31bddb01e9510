-- Left open for Index::entry: its result; answered by Chains.
use Rattle.std.proofs.Common.{◌≡◌, ◌+◌, ◌-◌, arith}
use Rattle.std.proofs.lemmas.Grind.{common_steps}
use Rattle.sq_heap.proofs.Chains.{chain_ends, chain_goes_on}
use Rattle.sq_heap.proofs.index.Index.entry.Goals as goal

pub returns-then-link-eq0 : goal.returns-then-link-eq0
returns-then-link-eq0 c = chain_ends c.args.self.now.entries.items c.args.link (grind (arith, common_steps))

pub returns-else-link-eq0 : goal.returns-else-link-eq0
returns-else-link-eq0 c =
    let before : c.args.link ≡ c.args.link - 1 + 1 = grind (arith, common_steps) in
    chain_goes_on c.args.self.now.entries.items c.args.link (c.args.link - 1) c.index.result.now c.args.self.now.falling before c.requires c.index.ensures
