-- Left open for value_in: its result; answered by Shown.
use Rattle.sq_session.proofs.Fetching.Shown.{column_there, value_there}
use Rattle.sq_session.proofs.retrieved.value_in.Goals as goal

pub returns : goal.returns
returns c =
    let columns = c.args.columns.now in
    value_there c.args.values.now columns c.args.place 0 c.index-values-columns.result c.requires.there
    (column_there _ columns c.args.place 0 c.requires.columns c.requires.there) c.index-values-columns.is
