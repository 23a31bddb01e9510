use Rattle.std.proofs.Common.{◌≡◌, drop}
use Rattle.std.specs.List.{list_all, zip}
use Rattle.sq_bound.specs.WellFormed.{kinds_of_columns}
use Rattle.sq_binding.specs.Reference.{are_paired}
use Rattle.sq_catalog.proofs.bound_reference.kinds_agree.Given as goal

abbrev pub invariant-loop-pair : goal.invariant-loop-pair
invariant-loop-pair l =
    let paired = are_paired (kinds_of_columns l.own) (kinds_of_columns l.target) in
    list_all paired (zip l.columns l.listed) ≡ list_all paired (drop l.pair (zip l.columns l.listed))
