-- The bodies of cursors, and their parts (ISO/IEC 9075:1992, 13.1).
use Rattle.std.specs.Prelude.{⊤, ◌≡◌, List, Option, None, Some}
use Rattle.sq_lex.specs.declared.name.Name.{Name}
use Rattle.sq_tree.specs.declared.«module».Cursor.{Cursor}
use Rattle.sq_tree.specs.declared.«module».SortSpecification.{SortSpecification}
use Rattle.sq_meaning.specs.Rows.{SortColumn}
use Rattle.sq_meaning.specs.Spelled.{query_of}
use Rattle.sq_bound.specs.declared.query.CursorBody.{CursorBody}
use Rattle.sq_bound.specs.declared.query.CursorBody.TheVariants as body
use Rattle.sq_bound.specs.declared.query.UpdatableQuery.{UpdatableQuery}
use Rattle.sq_binding.specs.Changeable.{UserNames}
use Rattle.sq_binding.specs.Cursor as binding
use Rattle.sq_binding.specs.Cursor.{NumberedCursor, plain_specification}
use Rattle.sq_binding.specs.Found.{Binding, ◌>>=◌, outcome, pure}
use Rattle.sq_binding.specs.Order.{names_of, order_bound}
use Rattle.sq_binding.specs.Outcome.{Outcome}
use Rattle.sq_binding.specs.QueryExpression.{NumberedQuery, columns_of_query}
use Rattle.sq_binding.specs.Select.{Surroundings}
use Rattle.sq_binder.specs.Names.{Changes, IsUnder}
use Rattle.sq_binding.specs.SeenQuery.{table_named}

-- an updatable cursor is over the rows that are under its table
abbrev pub IsOver : Changes → Option (Name × Name) → CursorBody → Type 0
IsOver changes table (body.Rows q order) = ⊤
IsOver changes (Some t) (body.Updatable u) = IsUnder changes (table_named t) u.target.leaf
IsOver changes None (body.Updatable u) = ⊥

-- the cursor of an updatable query, if there is one
abbrev pub IsOverPart : Option ((Name × Name) × UpdatableQuery) → Option (Name × Name) → CursorBody → Type 0
IsOverPart None table (body.Rows q order) = ⊤
IsOverPart None table (body.Updatable u) = ⊥
IsOverPart (Some over) table (body.Rows q order) = ⊥
IsOverPart (Some over) table (body.Updatable u) = (table ≡ Some over.0) × (u ≡ over.1)

-- ---- parts

-- a cursor whose query is in these surroundings
abbrev pub cursor_at : UserNames → Surroundings → Cursor → Outcome NumberedCursor
cursor_at names a c =
    let query = query_of names.user c.query in binding.cursor_of names a c query (plain_specification c query)

-- a query expression, in the order of ORDER BY
abbrev pub in_order : Binding NumberedQuery → List SortSpecification
    → Binding (NumberedQuery × List SortColumn)
in_order b order =
    b >>= λ x. outcome (order_bound (names_of (columns_of_query x)) order) >>= λ by. pure (x, by)
