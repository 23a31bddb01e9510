-- Left open for whole_column: its result; answered by Wholes.
use Rattle.std.proofs.Common.{◌≡◌, Ok, rules}
use Rattle.sq_expression.specs.Frame.{column_meant}
use Rattle.sq_expression.proofs.Wholes.{whole_found}
use Rattle.sq_expression.proofs.whole_expression.whole_column.Goals as goal

pub returns-in-Some : goal.returns-in-Some
returns-in-Some c =
    let meant : column_meant c.args.frame.now c.args.place ≡ Ok c.in-Some.value.now = search rules in
    whole_found (column_meant c.args.frame.now c.args.place) c.in-Some.value.now c.of_value.result meant c.of_value.ensures
