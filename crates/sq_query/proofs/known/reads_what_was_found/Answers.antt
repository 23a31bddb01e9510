-- Left open for reads_what_was_found: its result; answered by KnownSearch.
use Rattle.sq_query.proofs.FoundByKey.KnownSearch.{all_found}
use Rattle.sq_query.proofs.known.reads_what_was_found.Goals as goal

pub returns : goal.returns
returns c = λ all. all_found c.args.found.now c.args.query.now c.in_ok-tables.tables c.without-left.result c.in_ok-tables.ensures.reads c.without-left.ensures.left (c.is_empty.ensures.none all)
