-- Left open for value_taken: the clauses value and others; answered by Outputs.
use Rattle.std.proofs.Common.{Some, ap, sym, ◌∙◌}
use Rattle.std.specs.Option.{option_map}
use Rattle.sq_session.specs.declared.target.Assignment.{Assignment}
use Rattle.sq_session.proofs.Parameters.Outputs.{first_to, none_to, others_kept}
use Rattle.sq_session.proofs.target.value_taken.Goals as goal

pub returns-in_err-number-clause-value : goal.returns-in_err-number-clause-value
returns-in_err-number-clause-value c = c.from_residual.ensures ∙ sym (none_to c.args.place c.args.assignments.now (sym c.in_err-number.ensures.number))

pub returns-clause-value : goal.returns-clause-value
returns-clause-value c =
    let at = c.index-assignments-number.is in
    let first = first_to c.args.place c.args.assignments.now c.in_ok-number.number c.index-assignments-number.result (sym c.in_ok-number.ensures.number) at in
    ap Some (c.replace.ensures.value ∙ ap (λ (a : Assignment). a.value) (sym at)) ∙ sym (ap (λ o. option_map (λ (a : Assignment). a.value) o) first)

pub returns-clause-others : goal.returns-clause-others
returns-clause-others c =
    let at = c.index-assignments-number.is in
    others_kept c.args.place c.args.assignments.now c.in_ok-number.number c.index-assignments-number.result _ (sym c.in_ok-number.ensures.number) at (ap (λ (a : Assignment). a.parameter) (sym at))
