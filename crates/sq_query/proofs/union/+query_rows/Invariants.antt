use Rattle.std.specs.Prelude.{option_copied}
use Rattle.sq_query.specs.Union.{rows_behind}
use Rattle.sq_query.proofs.ByUnion.QuerySizes.{query_size, term_size}
use Rattle.sq_query.proofs.ByUnion.UnionRows.{AreLeft, AreMeant}
use Rattle.sq_query.proofs.union.+query_rows.Given as goal

abbrev pub decreases-query_rows : goal.decreases-query_rows
decreases-query_rows g l = query_size l.query.now

abbrev pub decreases-term_rows : goal.decreases-term_rows
decreases-term_rows g l = term_size l.term.now

abbrev pub invariant-query_rows-loop-union : goal.invariant-query_rows-loop-union
invariant-query_rows-loop-union g l = record {
  meant : AreMeant (g.N.Names.base_tables l.names) (g.N.Names.view_queries l.names) (g.N.Names.column_kinds l.names) (g.S.Store.content_now l.store) l.call.user l.call.parameters.now
      l.query l.union-index (rows_behind (option_copied l.before) l.so_far.items);
  left : AreLeft (g.N.Names.base_tables l.names) (g.N.Names.view_queries l.names) (g.N.Names.column_kinds l.names) (g.S.Store.content_now l.store) l.call.user l.call.parameters.now
      l.query (option_copied l.before) l.so_far.items;
}
