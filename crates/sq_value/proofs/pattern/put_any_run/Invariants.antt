use Rattle.std.proofs.Common.{◌≡◌, ℕ, ◌+◌, ◌-◌, ◌≤◌, ◌<◌, ◌||◌, false, length, get_or}
use Rattle.sq_value.proofs.pattern.put_any_run.Given as goal

abbrev pub invariant-loop-place : goal.invariant-loop-place
invariant-loop-place l = record {
  before : (k : ℕ) → k < l.place → get_or l.cuts k false ≡ get_or l.initial.cuts k false;
  after : (k : ℕ) → l.place ≤ k → k + 1 < length l.initial.cuts → get_or l.cuts k false ≡ (get_or l.initial.cuts k false || get_or l.cuts (k + 1) false);
  end : get_or l.cuts (length l.initial.cuts - 1) false ≡ get_or l.initial.cuts (length l.initial.cuts - 1) false;
}
