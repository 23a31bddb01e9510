-- Left open for value_of: its result; answered without a law.
use Rattle.std.proofs.Common.{Option, ap, subst, sym}
use Rattle.std.specs.Borrow.{Bor}
use Rattle.std.specs.Option.{option_copied}
use Rattle.sq_meaning.specs.Environment.{Row, Line}
use Rattle.sq_query.specs.Row.{line_of, HasValueOn}
use Rattle.sq_query.proofs.row.value_of.Goals as goal

pub returns-in-Some : goal.returns-in-Some
returns-in-Some c =
    subst (λ (line : Line). HasValueOn c.value_on_row.result c.args.expr.now line c.args.inputs.parameters.now c.args.inputs.user)
    (sym (ap (λ (r : Option (Bor Row)). line_of (option_copied r)) c.in-Some.is)) c.value_on_row.ensures

pub returns-in-None : goal.returns-in-None
returns-in-None c =
    subst (λ (line : Line). HasValueOn c.value_on.result c.args.expr.now line c.args.inputs.parameters.now c.args.inputs.user)
    (sym (ap (λ (r : Option (Bor Row)). line_of (option_copied r)) c.in-None.is)) c.value_on.ensures
