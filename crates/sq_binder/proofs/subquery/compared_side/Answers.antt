-- Left open for compared_side: its result; answered without a law.
use Rattle.std.proofs.Common.{sym, subst}
use Rattle.sq_binding.specs.Seen.{select_seen}
use Rattle.sq_binder.specs.Found.{Finds}
use Rattle.sq_binder.specs.Subquery.{compared_side}
use Rattle.sq_binder.proofs.subquery.compared_side.Goals as goal

pub returns-in-None : goal.returns-in-None
returns-in-None c = λ b before found. subst (λ quantifier. Finds select_seen (compared_side quantifier c.args.kind b) before c.make_scalar.result) (sym c.in-None.is) (c.make_scalar.ensures b before found)

pub returns-in-Some : goal.returns-in-Some
returns-in-Some c = λ b before found. subst (λ quantifier. Finds select_seen (compared_side quantifier c.args.kind b) before c.check_beside.result) (sym c.in-Some.is) (c.check_beside.ensures b before found)
