-- Left open for put_in_order: that the places rise, and that they are the same; answered by FoundRows and std's laws of sorting.
use Rattle.std.proofs.Common.{List, ℕ, subst, sym}
use Rattle.std.specs.List.{Contains}
use Rattle.std.proofs.lemmas.List.Filters.{dedup_is}
use Rattle.std.proofs.lemmas.List.Kept.{Contains-dedup_nat, Contains-from_dedup}
use Rattle.std.proofs.lemmas.List.Sorted.{Contains-permutation, IsPermutation-sym}
use Rattle.std.proofs.lemmas.Map.Keys.{IsStrictlyIncreasing-dedup}
use Rattle.sq_value.proofs.Truths.{alike}
use Rattle.sq_heap.proofs.FoundRows.{contained, is_there}
use Rattle.sq_heap.proofs.lookup.put_in_order.Goals as goal

pub returns-clause-rising : goal.returns-clause-rising
returns-clause-rising c = rw (dedup_is _ _ _ c.dedup.ensures.filtered) (IsStrictlyIncreasing-dedup _ c.sort_unstable.ensures.sorted)

pub returns-clause-same : goal.returns-clause-same
returns-clause-same c at =
    let old = c.args.places.now.items in
    let new = c.dedup.new.self.items in
    let is = dedup_is _ _ _ c.dedup.ensures.filtered in
    let moved = c.sort_unstable.ensures.permutation in
    alike _ _
    (λ h. is_there old at (Contains-permutation _ _ at (IsPermutation-sym _ _ moved) (Contains-from_dedup _ _ at (subst (λ (xs : List ℕ). Contains xs at) is (contained new at h)))))
    (λ h. is_there new at (subst (λ (xs : List ℕ). Contains xs at) (sym is) (Contains-dedup_nat _ at (Contains-permutation _ _ at moved (contained old at h)))))
