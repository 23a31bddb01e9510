-- Left open for is_passed: its result; answered by NamedRows.
use Rattle.sq_query.proofs.Keys.NamedRows.{passed_all, passed_noted, passed_quiet}
use Rattle.sq_query.proofs.named.is_passed.Goals as goal

pub returns-in-All : goal.returns-in-All
returns-in-All c = λ yes. passed_all c.args.sure c.args.test.now c.in-All.is

pub returns-in-Noted : goal.returns-in-Noted
returns-in-Noted c = λ yes. passed_noted c.args.sure c.args.test.now c.in-Noted.is yes

pub returns-in-Unnoted : goal.returns-in-Unnoted
returns-in-Unnoted c = λ yes. passed_quiet c.args.sure c.args.test.now (c.has_truth.ensures yes)
