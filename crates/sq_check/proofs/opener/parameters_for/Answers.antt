-- Left open for parameters_for: its result; answered by Cursors.
use Rattle.std.proofs.Common.{refl, sym}
use Rattle.sq_check.proofs.Cursors.{its_parameters, no_parameters, opener_found}
use Rattle.sq_check.proofs.opener.parameters_for.Goals as goal

pub returns-in-Some : goal.returns-in-Some
returns-in-Some c =
    λ p m are.
    its_parameters p m c.args.cursor _ c.in-Some.procedure.now.now (opener_found p m c.args.openers.now.entries c.args.cursor c.in-Some.procedure.now are (sym c.in-Some.ensures.value)) c.as_slice.ensures

pub returns-in-None : goal.returns-in-None
returns-in-None c = λ p m are. no_parameters p m c.args.cursor _ refl
