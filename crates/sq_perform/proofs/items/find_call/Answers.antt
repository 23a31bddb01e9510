-- Left open for find_call: the clauses action and prepared; answered by Taken.
use Rattle.std.proofs.Common.{sym, ◌∙◌}
use Rattle.sq_meaning.specs.Script.{argument_values}
use Rattle.sq_perform.specs.declared.action.CallAction.{CallAction}
use Rattle.sq_perform.proofs.Taken.{call_asked, call_prepared, still_fits}
use Rattle.sq_perform.proofs.items.find_call.Goals as goal

pub returns-clause-action : goal.returns-clause-action
returns-clause-action g c =
    let call : CallAction = record { procedure = c.in-Some.procedure; values = c.in_ok-values.values } in
    call_asked c.args.session.now.procedures c.args.session.now.tables c.args.«module» c.args.name (argument_values c.args.arguments.now) call
    (sym c.procedure.ensures ∙ c.in-Some.is) c.in_ok-values.ensures

pub returns-clause-prepared : goal.returns-clause-prepared
returns-clause-prepared g c =
    let call : CallAction = record { procedure = c.in-Some.procedure; values = c.in_ok-values.values } in
    let procedures = c.args.session.now.procedures in (
      call_prepared procedures c.args.«module» c.args.name call (sym c.procedure.ensures ∙ c.in-Some.is),
      still_fits procedures c.in-Some.procedure c.as_slice.result.now c.in_ok-values.values c.fits.result c.as_slice.ensures c.fits.ensures c.if-not-fits.false,
    )
