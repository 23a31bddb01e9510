use Rattle.std.proofs.Common.{◌≡◌, ◌++◌, drop, filter}
use Rattle.sq_store.specs.Found.{has_one_of, numbered_in}
use Rattle.sq_store.proofs.key.all_with.Given as goal

-- the rows so far, and then those that are left and have
abbrev pub invariant-loop-row : goal.invariant-loop-row
invariant-loop-row l =
    numbered_in l.found ++ filter (has_one_of l.columns l.several) (drop l.row-index l.rows)
    ≡ filter (has_one_of l.columns l.several) l.rows
