-- The changes that INSERT, UPDATE and DELETE would make (ISO/IEC 9075:1992, 13.6 to 13.10), before check options and constraints are asked.
use Rattle.std.specs.Prelude.{◌≡◌, ℕ, true, List, Option, Some, None, Ok}
use Rattle.sq_value.specs.declared.value.Value.{Value}
use Rattle.sq_store.specs.Change.{rows_put}
use Rattle.sq_store.specs.declared.change.Change.{Change}
use Rattle.sq_bound.specs.Fits.{under}
use Rattle.sq_bound.specs.declared.names.Leaf.{Leaf}
use Rattle.sq_bound.specs.declared.statement.BoundInsert.{BoundInsert}
use Rattle.sq_bound.specs.declared.statement.BoundStatement.{BoundStatement}
use Rattle.sq_bound.specs.declared.statement.BoundStatement.TheVariants as statement
use Rattle.sq_bound.specs.declared.statement.ChangeTarget.TheVariants as target
use Rattle.sq_change.specs.Changed.{Removals, Replacements, are_insertions}
use Rattle.sq_change.specs.Made.{Seen, Shown, rows_inserted}
use Rattle.sq_change.specs.Statement.{IsShown}
use Rattle.sq_session.specs.Kind.{Kind}
use Rattle.sq_session.specs.Schemas.{Schemas}
use Rattle.sq_session.specs.State.{State}
use Rattle.sq_session.specs.Step.{on_row, seen_in}

-- new rows, which are those of the insert statement
pub record Insertions (s : Seen) (row_numbers : ℕ) (i : BoundInsert) (changes : List Change) : Type 0 where
  pub insertions : are_insertions changes ≡ true
  pub rows : (shown : Shown) → IsShown s shown → rows_inserted shown s row_numbers i ≡ Ok (rows_put changes)

-- what is under the table that a statement changes
abbrev pub leaf_of : Kind → Option Leaf
leaf_of (Kind.inserts caller i) = Some i.leaf
leaf_of (Kind.updates u) = Some (under u.statement.target)
leaf_of (Kind.deletes caller t) = Some t.leaf
leaf_of (Kind.updates_at u p) = Some (under u.statement.target)
leaf_of (Kind.deletes_at caller p) = Some p.leaf
leaf_of _ = None

abbrev pub IsLeafOf : BoundStatement → Leaf → Type 0
IsLeafOf (statement.Insert i) leaf = leaf ≡ i.leaf
IsLeafOf (statement.Update u) leaf = leaf ≡ under u.target
IsLeafOf (statement.Delete t) leaf = leaf ≡ under t
IsLeafOf _ leaf = ⊥

-- the changes of a statement of this kind, whose parameters start with these values
abbrev pub IsMade : Schemas → Kind → List Value → State → List Change → Type 0
IsMade s (Kind.inserts caller i) values state changes =
    Insertions (seen_in s caller values state.tables) state.row_numbers i changes
IsMade s (Kind.updates u) values state changes =
    Replacements (seen_in s u.caller values state.tables) u.statement None changes
IsMade s (Kind.updates_at u p) values state changes =
    Replacements (seen_in s u.caller values state.tables) u.statement (on_row state p) changes
IsMade s (Kind.deletes caller t) values state changes =
    Removals (seen_in s caller values state.tables) (target.Searched t) None changes
IsMade s (Kind.deletes_at caller p) values state changes =
    Removals (seen_in s caller values state.tables) (target.Positioned p) (on_row state p) changes
IsMade s _ values state changes = ⊥
