use Rattle.std.proofs.Common.{◌≡◌, true}
use Rattle.sq_change.specs.Reference.{are_of_keys}
use Rattle.sq_change.proofs.Constraints.Referred.{PutTo}
use Rattle.sq_change.proofs.reference.referenced_by.Given as goal

abbrev pub invariant-loop-change : goal.invariant-loop-change
invariant-loop-change g l = record {
  known : are_of_keys (g.S.Store.key_columns l.setting.store.now) l.referenced.items ≡ true;
  list : PutTo l.table.references l.changes l.change-index l.referenced.items;
}
