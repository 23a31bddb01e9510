-- Cursors that statements name, as the definitions see them (ISO/IEC 9075:1992, 13.1).
use Rattle.std.specs.Prelude.{map}
use Rattle.std.specs.Option.{option_map}
use Rattle.sq_bound.specs.declared.names.KnownCursor.{KnownCursor}
use Rattle.sq_binding.specs.Change.{NamedCursor}
use Rattle.sq_binding.specs.Seen.{column_of}
use Rattle.sq_binding.specs.SeenQuery.{table_named}

abbrev pub named_cursor_of : KnownCursor → NamedCursor
named_cursor_of k = record {
  number = k.number;
  scroll = k.cursor.now.scroll;
  columns = map column_of k.cursor.now.columns;
  table = option_map table_named k.cursor.now.table;
}
