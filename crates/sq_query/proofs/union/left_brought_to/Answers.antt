-- Left open for left_brought_to: its result; answered by BroughtRows.
use Rattle.std.specs.Prelude.{option_copied}
use Rattle.sq_query.proofs.ByUnion.BroughtRows.{left_stay}
use Rattle.sq_query.proofs.union.left_brought_to.Goals as goal

pub returns-then-stay_under : goal.returns-then-stay_under
returns-then-stay_under c = λ were all. left_stay (option_copied c.args.before) c.args.columns.now c.args.rows.items (c.stay_under.ensures c.if-stay_under.true) were
