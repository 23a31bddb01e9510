use Rattle.std.proofs.Common.{◌≡◌, true}
use Rattle.sq_change.specs.Reference.{are_of_keys}
use Rattle.sq_change.proofs.Constraints.Referred.{ReferredTo}
use Rattle.sq_change.proofs.reference.push_referenced.Given as goal

abbrev pub invariant-loop-reference : goal.invariant-loop-reference
invariant-loop-reference g l = record {
  known : are_of_keys (g.S.Store.key_columns l.setting.store.now) l.referenced.items ≡ true;
  list : ReferredTo l.row l.table.references l.initial.referenced.items l.reference-index l.referenced.items;
}
