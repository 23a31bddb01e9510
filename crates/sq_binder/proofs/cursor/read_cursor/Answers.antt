-- Left open: what the call of of_term asks for, and the clause binds; answered by laws of sq_binding.
use Rattle.std.proofs.Common.{List, Ok, map, ap, subst, ◌∙◌}
use Rattle.sq_meaning.specs.Rows.{SortColumn}
use Rattle.sq_binding.specs.Cursor.{sorted_cursor}
use Rattle.sq_binding.specs.QueryExpression.{NumberedQuery}
use Rattle.sq_binder.specs.Binds.{Binds}
use Rattle.sq_binding.specs.SeenQuery.{cursor_seen, sort_seen}
use Rattle.sq_binding.proofs.Standing.SeenQueries.{specification_made, term_seen-Specification}
use Rattle.sq_binder.proofs.cursor.read_cursor.Goals as goal

pub returns-clause-binds : goal.returns-clause-binds
returns-clause-binds c =
    subst (λ (z : NumberedQuery × List SortColumn). Binds cursor_seen (Ok (sorted_cursor c.args.cursor.now z.0 z.1)) c.rows_cursor.result)
    (λ i. ((c.in_ok-query.ensures.0 ∙ term_seen-Specification c.args.query) i, ap (map sort_seen) c.new.ensures i)) c.rows_cursor.ensures.binds

pub of_term-requires : goal.of_term-requires
of_term-requires c = specification_made c.args.query
