use Rattle.sqmod.proofs.suite.cases.+add_cases.Given as goal

abbrev pub decreases-add_cases : goal.decreases-add_cases
decreases-add_cases g l = l.levels
