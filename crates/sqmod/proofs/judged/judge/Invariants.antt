use Rattle.sqmod.specs.Judged.{AreSourcesLeft}
use Rattle.sqmod.proofs.judged.judge.Given as goal

abbrev pub invariant-loop : goal.invariant-loop
invariant-loop l = AreSourcesLeft l.checking.sources.now l.left
