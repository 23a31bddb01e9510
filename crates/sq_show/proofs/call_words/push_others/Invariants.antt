use Rattle.std.proofs.Common.{◌≡◌, ◌++◌, flat_map, take}
use Rattle.sq_show.specs.CallWords.{other_argument}
use Rattle.sq_show.proofs.call_words.push_others.Given as goal

abbrev pub invariant-loop-value : goal.invariant-loop-value
invariant-loop-value l = l.notes.items ≡ l.fn.notes.items ++ flat_map other_argument (take l.value-index l.values)
