-- Left open for updatable_cursor: the clause binds; answered by laws of sq_binding.
use Rattle.std.proofs.Common.{Some, Ok, map, sym, ap, ◌∙◌}
use Rattle.sq_binding.proofs.Standing.SeenLevels.{columns_seen}
use Rattle.sq_binding.specs.Cursor.{NumberedRows}
use Rattle.sq_binding.specs.Seen.{column_of}
use Rattle.sq_binding.specs.SeenQuery.{table_named, updatable_seen}
use Rattle.sq_binder.proofs.cursor.updatable_cursor.Goals as goal

pub returns-in-Ok-clause-binds : goal.returns-in-Ok-clause-binds
returns-in-Ok-clause-binds c = λ i. Ok (record {
  insensitive = c.args.cursor.now.insensitive;
  scroll = c.args.cursor.now.scroll;
  table = Some (table_named c.args.over.0);
  columns = (columns_seen c.args.query ∙ ap (map column_of) (sym (c.in-Ok.ensures ∙ c.as_slice.ensures))) i;
  rows = NumberedRows.updatable (updatable_seen c.args.over);
})
