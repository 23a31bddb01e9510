-- Left open for admit: the clauses taken and first; answered by Refused.
use Rattle.sq_meaning.specs.ModuleRefusal.{first_module_refusal}
use Rattle.sq_module.proofs.Refused.{if_taken, if_refused}
use Rattle.sq_module.proofs.admission.admit.Goals as goal

pub returns-clause-taken : goal.returns-clause-taken
returns-clause-taken c = if_taken (first_module_refusal c.args.modules.now) c.admit_all-admitted.result c.admit_all-admitted.ensures.first

pub returns-clause-first : goal.returns-clause-first
returns-clause-first c = if_refused (first_module_refusal c.args.modules.now) c.admit_all-admitted.result c.admit_all-admitted.ensures.first
