use Rattle.std.proofs.Common.{◌≡◌, ◌++◌, take}
use Rattle.sq_show.specs.CauseWords.{without_ends}
use Rattle.sq_show.proofs.words.add_to_line.Given as goal

abbrev pub invariant-loop-code : goal.invariant-loop-code
invariant-loop-code l = l.line.items ≡ l.fn.line.items ++ without_ends (take l.code-index l.words)
