-- Left open for is_column: its result; answered by ItemSearch.
use Rattle.sq_query.proofs.FoundByKey.ItemSearch.{column_so}
use Rattle.sq_query.proofs.named.is_column.Goals as goal

pub returns-in-Column : goal.returns-in-Column
returns-in-Column c = λ yes. column_so c.args.expr.now c.in-Column.place c.args.item c.args.column c.in-Column.is (c.is_place.ensures yes)
