-- The bound forms of the statements of procedures (ISO/IEC 9075:1992, 13.2 to 13.10, 14.3 and 14.4).
use Rattle.std.specs.Prelude.{ℕ, List, map, Ok}
use Rattle.sq_tree.specs.declared.statement.Fetch.{Fetch}
use Rattle.sq_tree.specs.declared.statement.Statement.{Statement}
use Rattle.sq_tree.specs.declared.statement.Statement.TheVariants as statement
use Rattle.sq_meaning.specs.Placed.{PlacedParameter}
use Rattle.sq_meaning.specs.Spelled.{listed}
use Rattle.sq_meaning.specs.Tables.{Declared}
use Rattle.sq_meaning.specs.WellFormedStatement.{orientation_of}
use Rattle.sq_bound.specs.declared.statement.FetchOrientation.{FetchOrientation}
use Rattle.sq_binding.specs.Change.{NamedCursors, NumberedChange, NumberedInsert, NumberedUpdate, cursor_named, delete_bound, insert_bound, update_bound}
use Rattle.sq_binding.specs.Changeable.{UserNames}
use Rattle.sq_binding.specs.Orientation.{fetched}
use Rattle.sq_binding.specs.Outcome.{Outcome, ◌>>=◌}
use Rattle.sq_binding.specs.Row.{NumberedRow, row_bound}
use Rattle.sq_binding.specs.Targets.{targets_bound}
use Rattle.sq_binding.specs.Whole.{whole}

pub record NumberedFetch : Type 0 where
  pub cursor : ℕ
  pub orientation : FetchOrientation
  pub targets : List PlacedParameter

pub data NumberedStatement : Type 0 where
  open_cursor : ℕ → NumberedStatement
  fetch : NumberedFetch → NumberedStatement
  close_cursor : ℕ → NumberedStatement
  select_row : NumberedRow → NumberedStatement
  insert : NumberedInsert → NumberedStatement
  update : NumberedUpdate → NumberedStatement
  delete : NumberedChange → NumberedStatement
  commit : NumberedStatement
  rollback : NumberedStatement

-- ---- FETCH (13.3)

abbrev pub fetch_bound : List Declared → NamedCursors → Fetch → Outcome NumberedFetch
fetch_bound parameters cursors f = do
  c ← cursor_named cursors f.cursor
  orientation ← fetched parameters c.scroll (orientation_of f)
  targets ← targets_bound parameters (listed f.targets) (map (λ k. k.kind) c.columns)
  Ok (record { cursor = c.number; orientation = orientation; targets = targets })

-- ---- a statement of a user's procedure with these parameters, in a module with these cursors

abbrev pub statement_bound : UserNames → List Declared → NamedCursors → Statement → Outcome NumberedStatement
statement_bound names parameters cursors (statement.Open name) =
    cursor_named cursors name >>= λ c. Ok (NumberedStatement.open_cursor c.number)
statement_bound names parameters cursors (statement.Fetch f) =
    fetch_bound parameters cursors f >>= λ x. Ok (NumberedStatement.fetch x)
statement_bound names parameters cursors (statement.Close name) =
    cursor_named cursors name >>= λ c. Ok (NumberedStatement.close_cursor c.number)
statement_bound names parameters cursors (statement.Select s) =
    whole (row_bound names parameters s) >>= λ x. Ok (NumberedStatement.select_row x)
statement_bound names parameters cursors (statement.Insert i) =
    whole (insert_bound names parameters i) >>= λ x. Ok (NumberedStatement.insert x)
statement_bound names parameters cursors (statement.Update u) =
    whole (update_bound names parameters cursors u) >>= λ x. Ok (NumberedStatement.update x)
statement_bound names parameters cursors (statement.Delete d) =
    whole (delete_bound names parameters cursors d) >>= λ x. Ok (NumberedStatement.delete x)
statement_bound names parameters cursors (statement.Commit work) = Ok NumberedStatement.commit
statement_bound names parameters cursors (statement.Rollback work) = Ok NumberedStatement.rollback
