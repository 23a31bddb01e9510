use Rattle.std.proofs.Common.{length}
use Rattle.sqmod.proofs.shell.talk.Talk.take_line.Given as goal

abbrev pub decreases-loop-size : goal.decreases-loop-size
decreases-loop-size g l = length l.rest
