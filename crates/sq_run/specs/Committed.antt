-- What changes what is committed (ISO/IEC 9075:1992, 4.28, 14.3 and 14.4).
use Rattle.std.specs.Prelude.{◌≡◌, Bool, true, false, if◌then◌else◌}
use Rattle.sq_tree.specs.declared.statement.Statement.{Statement}
use Rattle.sq_tree.specs.declared.statement.Statement.TheVariants as statement
use Rattle.sq_meaning.specs.Machine.{Call, Program, State, stepped}
use Rattle.sq_meaning.specs.Script.{procedure_called}
use Rattle.sq_meaning.specs.Words.{is_some_and}

abbrev pub is_commit : Statement → Bool
is_commit (statement.Commit work) = true
is_commit _ = false

-- a call of a procedure whose statement is COMMIT
abbrev pub commits : Program → Call → Bool
commits p c = is_some_and (λ q. is_commit q.statement) (procedure_called p.modules c.in_module c.procedure)

-- After a call of COMMIT the tables as they were are the committed ones, and after any other call those that were.
unfoldable pub CommitAloneCommits : Program → Type 0
CommitAloneCommits p =
    (s : State) (c : Call) → (stepped p s c).committed ≡ (if commits p c then s.tables else s.committed)
