-- Left open for place_from: its result; answered by Search.
-- The place that the search answers is that of the first row at or after the number.
use Rattle.std.proofs.Common.{Bool, nat_lt, sym, rules}
use Rattle.std.specs.List.Sorted.{IsPartitionedBy}
use Rattle.std.proofs.lemmas.List.Sorted.{IsPartitionPoint-from_clause}
use Rattle.sq_store.specs.declared.table.Numbered.{Numbered}
use Rattle.sq_store.proofs.Search.{rising_partitioned, find_at_point}
use Rattle.sq_store.proofs.table.place_from.Goals as goal

pub returns : goal.returns
returns c =
    let is_below : Numbered → Bool = λ r. nat_lt r.number c.args.number in
    let parted : IsPartitionedBy is_below c.args.rows.now = rising_partitioned c.args.rows.now c.args.next c.args.number c.requires in
    let point = IsPartitionPoint-from_clause is_below _ _ c.partition_point.ensures.partitioned parted (λ a r f called. search rules) in
    sym (find_at_point c.args.number _ c.partition_point.result c.partition_point.ensures.bound point)
