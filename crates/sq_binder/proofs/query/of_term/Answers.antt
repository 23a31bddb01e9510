-- Left open for of_term: its result; answered by Queries.
use Rattle.std.proofs.Common.{◌≡◌, map, sym, ap, subst, ◌∙◌}
use Rattle.std.specs.List.{AllByRecursion}
use Rattle.sq_bound.specs.declared.query.BoundQuery.{roll-BoundQuery}
use Rattle.sq_binding.specs.QueryExpression.{columns_of_query}
use Rattle.sq_binding.specs.Seen.{column_of}
use Rattle.sq_binding.specs.SeenQuery.{UnionHasColumns, query_seen, term_seen}
use Rattle.sq_binder.proofs.WholeQueries.Queries.{alone_seen, made_has}
use Rattle.sq_binder.proofs.query.of_term.Goals as goal

pub returns-in-Ok : goal.returns-in-Ok
returns-in-Ok c =
    let first = c.args.term in
    let rest = c.new.result in
    let columns = c.in-Ok.columns in
    let seen : query_seen (roll-BoundQuery (record { first = first; rest = rest; columns = columns })) ≡ term_seen first = alone_seen first rest columns c.new.ensures in (
      seen,
      made_has first rest columns c.requires (subst (AllByRecursion UnionHasColumns) (sym c.new.ensures) tt) (ap (map column_of) c.in-Ok.ensures ∙ c.columns_of.ensures ∙ ap columns_of_query (sym seen)),
    )
