-- Left open for rows_cursor: the clause binds; answered by laws of sq_binding.
use Rattle.std.proofs.Common.{None, Ok, map, sym, ap, ◌∙◌}
use Rattle.sq_binding.specs.Cursor.{NumberedRows}
use Rattle.sq_binding.specs.Seen.{column_of}
use Rattle.sq_binding.specs.SeenQuery.{query_seen, sort_seen}
use Rattle.sq_binding.proofs.Standing.SeenQueries.{query_itself}
use Rattle.sq_binder.proofs.cursor.rows_cursor.Goals as goal

pub returns-in-Ok-clause-binds : goal.returns-in-Ok-clause-binds
returns-in-Ok-clause-binds c = λ i. Ok (record {
  insensitive = c.args.cursor.now.insensitive;
  scroll = c.args.cursor.now.scroll;
  table = None;
  columns = (sym (query_itself c.args.query c.requires) ∙ ap (map column_of) (sym (c.in-Ok.ensures ∙ c.as_slice.ensures))) i;
  rows = NumberedRows.sorted (query_seen c.args.query) (map sort_seen c.args.sorts);
})
