-- A statement is bound to the written one (ISO/IEC 9075:1992, 13.2 to 13.10, 14.3 and 14.4). Its cursors have the numbers of their
-- names, and its targets are the parameters of the written names. Its queries, conditions and values are the written ones, placed.
use Rattle.std.proofs.Common.{◌≡◌, ℕ, List, [], Ok, refl, subst}
use Rattle.std.specs.Prelude.{⊤}
use Rattle.sq_lex.specs.declared.name.Name.{Name}
use Rattle.sq_tree.specs.declared.statement.Statement.{Statement}
use Rattle.sq_tree.specs.declared.statement.Statement.TheVariants as statement
use Rattle.sq_meaning.specs.Tables.{Declared}
use Rattle.sq_binding.specs.Change.{NamedCursor, NamedCursors, cursor_named, delete_bound, insert_bound, update_bound}
use Rattle.sq_binding.specs.Changeable.{UserNames, outside}
use Rattle.sq_binding.specs.Row.{row_bound}
use Rattle.sq_binding.specs.Select.{Surroundings}
use Rattle.sq_binding.specs.Statement.{NumberedStatement, fetch_bound, statement_bound}
use Rattle.sq_binding.specs.Whole.{whole}
use Rattle.sq_binding.proofs.Faultless.Clean.{steps_of}
use Rattle.sq_binding.proofs.Placing.PlacedChange.{IsDelete, IsUpdate, delete_is_placed, update_is_placed}
use Rattle.sq_binding.proofs.Placing.PlacedInsert.{IsInsert, insert_is_placed}
use Rattle.sq_binding.proofs.Placing.PlacedTargets.{IsFetch, IsRow, fetch_is_placed, row_is_placed}

-- the number of the cursor of a name
pub record IsCursorNumber (cursors : NamedCursors) (name : Name) (n : ℕ) : Type 0 where
  pub cursor : NamedCursor
  pub is_named : cursor_named cursors name ≡ Ok cursor
  pub number : n ≡ cursor.number

module _ (names : UserNames) (parameters : List Declared) (cursors : NamedCursors) where
  abbrev here : Surroundings
  here = outside names parameters

  abbrev pub IsWritten : Statement → NumberedStatement → Type 0
  IsWritten (statement.Open name) (NumberedStatement.open_cursor n) = IsCursorNumber cursors name n
  IsWritten (statement.Fetch f) (NumberedStatement.fetch x) = IsFetch parameters cursors f x
  IsWritten (statement.Close name) (NumberedStatement.close_cursor n) = IsCursorNumber cursors name n
  IsWritten (statement.Select s) (NumberedStatement.select_row x) = IsRow here names s x
  IsWritten (statement.Insert i) (NumberedStatement.insert x) = IsInsert names here i [] x
  IsWritten (statement.Update u) (NumberedStatement.update x) = IsUpdate names here cursors u [] x
  IsWritten (statement.Delete d) (NumberedStatement.delete x) = IsDelete names here cursors d x
  IsWritten (statement.Commit work) NumberedStatement.commit = ⊤
  IsWritten (statement.Rollback work) NumberedStatement.rollback = ⊤
  IsWritten _ _ = ⊥

  -- a statement that is bound is the one that is written
  pub statement_is_placed : (s : Statement) (n : NumberedStatement) → statement_bound names parameters cursors s ≡ Ok n → IsWritten s n
  statement_is_placed (statement.Open name) n is =
      let c = steps_of (cursor_named cursors name) (λ c. Ok (NumberedStatement.open_cursor c.number)) n is in
      let made = c.second in
      let same : NumberedStatement.open_cursor c.step.number ≡ n = cc in
      subst (IsWritten (statement.Open name)) same (record { cursor = c.step; is_named = c.first; number = refl })
  statement_is_placed (statement.Fetch f) n is =
      let x = steps_of (fetch_bound parameters cursors f) (λ x. Ok (NumberedStatement.fetch x)) n is in
      let made = x.second in
      let same : NumberedStatement.fetch x.step ≡ n = cc in
      subst (IsWritten (statement.Fetch f)) same (fetch_is_placed parameters cursors f x.step x.first)
  statement_is_placed (statement.Close name) n is =
      let c = steps_of (cursor_named cursors name) (λ c. Ok (NumberedStatement.close_cursor c.number)) n is in
      let made = c.second in
      let same : NumberedStatement.close_cursor c.step.number ≡ n = cc in
      subst (IsWritten (statement.Close name)) same (record { cursor = c.step; is_named = c.first; number = refl })
  statement_is_placed (statement.Select s) n is =
      let x = steps_of (whole (row_bound names parameters s)) (λ x. Ok (NumberedStatement.select_row x)) n is in
      let made = x.second in
      let same : NumberedStatement.select_row x.step ≡ n = cc in
      subst (IsWritten (statement.Select s)) same (row_is_placed names parameters s x.step x.first)
  statement_is_placed (statement.Insert i) n is =
      let x = steps_of (whole (insert_bound names parameters i)) (λ x. Ok (NumberedStatement.insert x)) n is in
      let made = x.second in
      let same : NumberedStatement.insert x.step ≡ n = cc in
      subst (IsWritten (statement.Insert i)) same (insert_is_placed names parameters i x.step x.first)
  statement_is_placed (statement.Update u) n is =
      let x = steps_of (whole (update_bound names parameters cursors u)) (λ x. Ok (NumberedStatement.update x)) n is in
      let made = x.second in
      let same : NumberedStatement.update x.step ≡ n = cc in
      subst (IsWritten (statement.Update u)) same (update_is_placed names parameters cursors u x.step x.first)
  statement_is_placed (statement.Delete d) n is =
      let x = steps_of (whole (delete_bound names parameters cursors d)) (λ x. Ok (NumberedStatement.delete x)) n is in
      let made = x.second in
      let same : NumberedStatement.delete x.step ≡ n = cc in
      subst (IsWritten (statement.Delete d)) same (delete_is_placed names parameters cursors d x.step x.first)
  statement_is_placed (statement.Commit work) n is = let same : NumberedStatement.commit ≡ n = cc in subst (IsWritten (statement.Commit work)) same tt
  statement_is_placed (statement.Rollback work) n is = let same : NumberedStatement.rollback ≡ n = cc in subst (IsWritten (statement.Rollback work)) same tt
