use Rattle.std.proofs.Common.{◌≡◌, ℕ, ◌+◌, ◌≤◌, ◌<◌, ◌&&◌, false, get_or}
use Rattle.sq_value.specs.private.Pattern.{takes}
use Rattle.sq_value.proofs.pattern.put_one_code.Given as goal

abbrev pub invariant-loop-place : goal.invariant-loop-place
invariant-loop-place l = record {
  before : (k : ℕ) → k < l.place → get_or l.cuts k false ≡ (takes l.item (get_or l.text k 0) && get_or l.initial.cuts (k + 1) false);
  after : (k : ℕ) → l.place ≤ k → get_or l.cuts k false ≡ get_or l.initial.cuts k false;
}
