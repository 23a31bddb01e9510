use Rattle.std.proofs.Common.{◌≡◌, ℕ, ◌<◌, nat_eq, Some}
use Rattle.std.specs.List.{position}
use Rattle.sq_change.proofs.given.are_in_order.Given as goal

abbrev pub invariant-loop-place : goal.invariant-loop-place
invariant-loop-place l = (p : ℕ) → p < l.place → position (λ column. nat_eq column.position p) l.columns ≡ Some p
