-- Left open for truth_on: the clauses plain and known; answered by Rows.
use Rattle.std.proofs.Common.{[], ◌∷◌, sym}
use Rattle.sq_condition.proofs.Right.{means_same}
use Rattle.sq_query.proofs.FoundByKey.Rows.{meant_outside, truth_outside}
use Rattle.sq_query.proofs.row.truth_on.Goals as goal

pub returns-clause-plain : goal.returns-clause-plain
returns-clause-plain c =
    truth_outside c.line_frame.result c.args.context.now (c.args.row.now ∷ []) c.line_frame.ensures.scopes c.line_frame.ensures.functions
    c.args.condition.now c.truth.result c.truth.ensures.plain

pub returns-clause-known : goal.returns-clause-known
returns-clause-known c = λ meant knows memo.
    let told = c.truth.ensures.known meant knows memo in
    (told.0, means_same c.truth.result _ _ (sym (meant_outside c.line_frame.result c.args.context.now (c.args.row.now ∷ []) c.line_frame.ensures.scopes c.line_frame.ensures.functions c.args.condition.now)) told.1)
