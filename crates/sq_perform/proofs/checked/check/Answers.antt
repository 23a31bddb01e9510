-- Left open for check: the clause refused; answered without a law.
use Rattle.sq_perform.specs.Texts.{texts}
use Rattle.sq_perform.proofs.checked.check.Goals as goal

pub returns-in-Ok-clause-refused : goal.returns-in-Ok-clause-refused
returns-in-Ok-clause-refused c = c.check_over.ensures.refused (texts c.args.schemas.now) c.in-Ok.ensures.declared
