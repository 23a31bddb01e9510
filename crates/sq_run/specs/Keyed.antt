-- Updatable cursors and SELECT INTO that name a row by a key in a call (own rule: then one row at most is
-- read; ISO/IEC 9075:1992 asks nothing of how rows are found).
use Rattle.std.specs.Prelude.{Bool, false, not, ◌&&◌, List, [], ◌∷◌}
use Rattle.sq_lex.specs.declared.name.Name.{Name}
use Rattle.sq_tree.specs.declared.module.Cursor.{Cursor}
use Rattle.sq_tree.specs.declared.statement.Select.{Select as SelectStatement}
use Rattle.sq_meaning.specs.Environment.{Input}
use Rattle.sq_meaning.specs.Spelled.{Named, select_of_parts}
use Rattle.sq_meaning.specs.Syntax.{Select, select}
use Rattle.sq_meaning.specs.Target.{clause_has_subquery}
use Rattle.sq_meaning.specs.Keyed.{is_keyed}
use Rattle.sq_meaning.specs.Schema.{Elements, table_named}
use Rattle.sq_meaning.specs.WellFormedStatement.{Surroundings, updatable_query}
use Rattle.sq_meaning.specs.Words.{is_some_and}

-- a query specification over one base table, whose WHERE clause names a row by a key
abbrev pub is_keyed_query : Elements → List Input → Select Named → Bool
is_keyed_query elements inputs (select distinct list (r ∷ []) filter by having) =
    is_some_and (λ t. is_keyed t inputs filter) (table_named elements r.table)
is_keyed_query elements inputs _ = false

-- an updatable cursor that is opened with these inputs (13.1)
abbrev pub is_keyed_cursor : Surroundings → List Input → Cursor → Bool
is_keyed_cursor u inputs c = is_some_and (is_keyed_query u.elements inputs) (updatable_query u c)

-- HAVING has no subquery
abbrev pub having_is_plain : Select Named → Bool
having_is_plain (select distinct list from filter by having) = not (clause_has_subquery having)

-- SELECT INTO, of a user, that reads no table but that one (13.5)
abbrev pub is_keyed_select : Elements → Name → List Input → SelectStatement → Bool
is_keyed_select elements user inputs s =
    is_keyed_query elements inputs (select_of_parts user s.quantifier s.list s.table)
    && having_is_plain (select_of_parts user s.quantifier s.list s.table)
