use Rattle.std.proofs.Common.{length, take}
use Rattle.std.specs.List.{zip}
use Rattle.sq_change.specs.Given.{AreStored}
use Rattle.sq_change.specs.Made.{Shown, seen_by, value_given}
use Rattle.sq_change.proofs.OneByOne.InTurn.{MadeTo}
use Rattle.sq_change.proofs.given.given_values.Given as goal

abbrev pub invariant-loop-column : goal.invariant-loop-column
invariant-loop-column g l =
    let setting = l.setting in
    let seen = seen_by (g.N.Names.view_queries setting.names.now) (g.S.Store.content_now setting.store.now) setting.user setting.parameters.now in
    record {
      fit : AreStored (take (length l.yielded) l.columns) l.row;
      meant : (shown : Shown) → MadeTo (value_given shown seen) (zip l.columns l.values) (length l.yielded) l.row;
    }
