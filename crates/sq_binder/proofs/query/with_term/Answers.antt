-- Left open for with_term: its result; answered by Queries.
use Rattle.std.proofs.Common.{◌≡◌, List, map, sym, ap, ◌∙◌}
use Rattle.sq_bound.specs.declared.condition.ResultColumn.{ResultColumn}
use Rattle.sq_bound.specs.declared.query.BoundQuery.{out-BoundQuery, roll-BoundQuery}
use Rattle.sq_bound.specs.declared.query.BoundUnion.{BoundUnion}
use Rattle.sq_binding.specs.QueryExpression.{NumberedQuery, columns_of_query}
use Rattle.sq_binding.specs.Seen.{column_of}
use Rattle.sq_binding.specs.SeenQuery.{query_seen, term_seen}
use Rattle.sq_binding.proofs.Standing.SeenQueries.{query_parts}
use Rattle.sq_binder.proofs.WholeQueries.Queries.{further_have, further_seen, made_has}
use Rattle.sq_binder.proofs.query.with_term.Goals as goal

pub returns-in-Ok : goal.returns-in-Ok
returns-in-Ok c =
    let q = c.args.query in
    let columns = c.args.columns in
    let first = (out-BoundQuery q).first in
    let u : BoundUnion = record { all = c.args.all; term = c.args.term; columns = c.as_slice.result.now } in
    let seen : query_seen (roll-BoundQuery (record { first = first; rest = c.in-Ok.rest; columns = columns })) ≡ NumberedQuery.joined c.args.all (query_seen q) (term_seen c.args.term) (map column_of columns) =
    further_seen q u c.in-Ok.rest columns c.in-Ok.ensures
    ∙ ap (λ (cs : List ResultColumn). NumberedQuery.joined c.args.all (query_seen q) (term_seen c.args.term) (map column_of cs)) c.as_slice.ensures in (
      seen,
      made_has first c.in-Ok.rest columns (query_parts q c.requires.query).0 (further_have q u c.in-Ok.rest c.requires.query c.requires.term c.in-Ok.ensures) (ap columns_of_query (sym seen)),
    )
