use Rattle.std.proofs.Common.{◌≡◌, ◌≤◌, ℕ, true, take}
use Rattle.std.specs.List.{list_any}
use Rattle.sq_query.proofs.Needs.Added.{is}
use Rattle.sq_query.proofs.needed.Needed.last_view.Given as goal

abbrev pub invariant-loop-view : goal.invariant-loop-view
invariant-loop-view l = (p : ℕ) → list_any (is p) (take l.view-index l.self.views.items) ≡ true → p ≤ l.last
