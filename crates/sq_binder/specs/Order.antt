-- ORDER BY: the names of the columns by which it sorts (ISO/IEC 9075:1992, 13.1).
use Rattle.std.specs.Prelude.{List, map, Option}
use Rattle.sq_lex.specs.declared.name.Name.{Name}
use Rattle.sq_bound.specs.declared.condition.ResultColumn.{ResultColumn}
use Rattle.sq_binding.specs.Order.{names_of}
use Rattle.sq_binding.specs.Seen.{column_of}

-- the names of result columns
abbrev pub names_seen : List ResultColumn → List (Option Name)
names_seen columns = names_of (map column_of columns)
