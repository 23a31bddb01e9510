-- Left open for base_rows: the clause rows; answered by AddedRows.
use Rattle.std.proofs.Common.{map, refl}
use Rattle.sq_query.specs.Table.{numbered_row}
use Rattle.sq_query.proofs.Keys.AddedRows.{rows_without}
use Rattle.sq_query.proofs.valued.base_rows.Goals as goal

pub returns-clause-rows : goal.returns-clause-rows
returns-clause-rows c = rows_without (map numbered_row c.args.found.now) c.args.found.now c.args.found.now c.in_ok-rows.rows.items refl refl c.in_ok-rows.ensures
