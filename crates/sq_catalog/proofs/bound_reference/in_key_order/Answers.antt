-- Left open: the call of push_paired, and the loop's invariant; answered by Listed and References.
use Rattle.std.proofs.Common.{◌+◌, nat_eq, ap, ◌∙◌}
use Rattle.std.specs.List.{list_any}
use Rattle.sq_catalog.specs.References.{paired_with}
use Rattle.sq_catalog.proofs.OneByOne.Listed.{all_read_at}
use Rattle.sq_catalog.proofs.CreateTable.References.{pairs_next}
use Rattle.sq_catalog.proofs.bound_reference.in_key_order.Goals as goal

pub push_paired-requires-clause-listed : goal.push_paired-requires-clause-listed
push_paired-requires-clause-listed c =
    all_read_at (λ column. list_any (λ other. nat_eq other column) c.args.listed.now) c.args.key.now c.loop-key_column.key_column-index 0 c.loop-key_column-test.true c.requires.same

pub loop-key_column-preserved : goal.loop-key_column-preserved
loop-key_column-preserved c =
    let before = c.loop-key_column.invariant in
    let added = c.in_ok-push_paired.ensures in
    record {
      paired = added.paired ∙ ap (λ n. n + 1) before.paired;
      positions = λ width own. added.positions width own (before.positions width own);
      by_key = pairs_next (paired_with c.args.listed.now c.args.columns.now) c.args.key.now c.loop-key_column.ordered c.push_paired.new.ordered c.loop-key_column.key_column-index
          c.loop-key_column-test.true before.by_key added.pair;
    }
