-- Statements in surroundings (ISO/IEC 9075:1992, 13.2 to 13.10, 14.3 and 14.4).
use Rattle.std.specs.Prelude.{Ok}
use Rattle.sq_tree.specs.declared.statement.Statement.{Statement}
use Rattle.sq_tree.specs.declared.statement.Statement.TheVariants as written
use Rattle.sq_binding.specs.Change.{NamedCursors, cursor_named}
use Rattle.sq_binding.specs.Changeable.{UserNames}
use Rattle.sq_binding.specs.Outcome.{Outcome, ◌>>=◌}
use Rattle.sq_binding.specs.Select.{Surroundings}
use Rattle.sq_binding.specs.Statement.{NumberedStatement, fetch_bound}
use Rattle.sq_binding.specs.Whole.{whole}
use Rattle.sq_binder.specs.Delete.{delete_in}
use Rattle.sq_binder.specs.Insert.{insert_in}
use Rattle.sq_binder.specs.Row.{row_in}
use Rattle.sq_binder.specs.Update.{update_in}

-- a statement in these surroundings
abbrev pub statement_in : UserNames → Surroundings → NamedCursors → Statement → Outcome NumberedStatement
statement_in names a cursors (written.Open name) =
    cursor_named cursors name >>= λ c. Ok (NumberedStatement.open_cursor c.number)
statement_in names a cursors (written.Fetch f) =
    fetch_bound a.parameters cursors f >>= λ x. Ok (NumberedStatement.fetch x)
statement_in names a cursors (written.Close name) =
    cursor_named cursors name >>= λ c. Ok (NumberedStatement.close_cursor c.number)
statement_in names a cursors (written.Select s) =
    whole (row_in names.user a s) >>= λ x. Ok (NumberedStatement.select_row x)
statement_in names a cursors (written.Insert i) =
    whole (insert_in names a i) >>= λ x. Ok (NumberedStatement.insert x)
statement_in names a cursors (written.Update u) =
    whole (update_in names a cursors u) >>= λ x. Ok (NumberedStatement.update x)
statement_in names a cursors (written.Delete d) =
    whole (delete_in names a cursors d) >>= λ x. Ok (NumberedStatement.delete x)
statement_in names a cursors (written.Commit work) = Ok NumberedStatement.commit
statement_in names a cursors (written.Rollback work) = Ok NumberedStatement.rollback
