-- Left open for rows_over: its result; answered by KnownSearch.
use Rattle.std.proofs.Common.{refl}
use Rattle.sq_query.proofs.FoundByKey.KnownSearch.{rows_found}
use Rattle.sq_query.proofs.known.rows_over.Goals as goal

pub returns : goal.returns
returns c = rows_found _ c.args.found.now refl refl c.args.query.now c.requires.number c.requires.found c.outermost_rows.result c.outermost_rows.ensures
