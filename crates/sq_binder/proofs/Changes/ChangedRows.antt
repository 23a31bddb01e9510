-- The rows that a statement changes: those that meet a condition, or the one that a cursor is on.
use Rattle.std.proofs.Common.{◌≡◌, Bool, true, false, Option, None, Some, Ok, Err, refl, sym, ap, ◌∙◌}
use Rattle.std.specs.Prelude.{Result, if◌then◌else◌}
use Rattle.sq_lex.specs.declared.name.Name.{Name}
use Rattle.sq_tree.specs.declared.cond.Cond.{Cond}
use Rattle.sq_tree.specs.declared.statement.Where.TheVariants as rows_where
use Rattle.sq_meaning.specs.Environment.{TableName, same_table}
use Rattle.sq_meaning.specs.Spelled.{cond_of}
use Rattle.sq_meaning.specs.Syntax.{absent, present}
use Rattle.sq_meaning.specs.Words.{is_some_and}
use Rattle.sq_meaning.specs.declared.fault.BindingFault.TheVariants as fault
use Rattle.sq_bound.specs.declared.query.Target.{Target}
use Rattle.sq_bound.specs.declared.statement.ChangeTarget.TheVariants.{Searched}
use Rattle.sq_binding.specs.Change.{NamedCursor, NamedCursors, NumberedChange, cursor_named, positioned_bound, rows_bound}
use Rattle.sq_binding.specs.Changeable.{ChangedTable, NumberedTarget, UserNames, condition_bound, target_over}
use Rattle.sq_binding.specs.Found.{Binding, Counts, Found, ◌>>=◌, must, outcome, pure}
use Rattle.sq_binding.specs.Outcome.{Outcome, or_fault}
use Rattle.sq_binding.specs.QueryFindings.{nothing}
use Rattle.sq_binding.specs.Select.{Surroundings}
use Rattle.sq_binding.proofs.Inductions.Turns.{only}
use Rattle.sq_binder.specs.Found.{Finds}
use Rattle.sq_binder.specs.declared.found.Counts.{Counts as CodeCounts}
use Rattle.sq_binder.specs.declared.found.Found.{Found as FoundPart}
use Rattle.sq_binder.specs.declared.stop.Stop.{Stop}
use Rattle.sq_binder.proofs.OneByOne.Behind.{Makes, made, made_of, made_twice}
use Rattle.sq_binder.proofs.OneByOne.Finds.{makes_found, makes_stop}
use Rattle.sq_binder.specs.Changeable.{target_bound}
use Rattle.sq_binder.specs.Rows.{is_over, searched}
use Rattle.sq_binder.proofs.OneByOne.Chains.{must_first, outcome_first}
use Rattle.sq_binding.specs.SeenQuery.{change_seen, target_seen}

-- ---- rows that meet a condition

module _ (names : UserNames) (a : Surroundings) (cursors : NamedCursors) (t : ChangedTable) where
  pub condition_made : (c : Cond) → Makes (rows_bound names a cursors t (Some (rows_where.Condition c))) (target_bound a t (present (cond_of names.user c))) (λ target. NumberedChange.searched target)
  condition_made c =
      let b = condition_bound a t (present (cond_of names.user c)) in
      record {
        is = λ counts.
            (made b (λ condition. NumberedChange.searched (target_over t condition))).is counts
            ∙ sym (made_twice (target_over t) (λ target. NumberedChange.searched target) (b counts))
            ∙ ap (made_of (λ target. NumberedChange.searched target)) (sym ((made b (target_over t)).is counts));
      }

  pub all_made : Makes (rows_bound names a cursors t None) (target_bound a t absent) (λ target. NumberedChange.searched target)
  all_made = record { is = λ counts. refl }

pub searched_found : (rows : Binding NumberedChange) (b : Binding NumberedTarget) → Makes rows b (λ target. NumberedChange.searched target) → (before : CodeCounts) (r : Result (FoundPart Target) Stop) → Finds target_seen b before r
    → Finds change_seen rows before (searched r)
searched_found rows b makes before (Ok x) found =
    makes_found target_seen change_seen rows b (λ target. NumberedChange.searched target) makes before x (record { part = Searched x.part; brought = x.brought }) found refl refl
searched_found rows b makes before (Err stop) s = makes_stop target_seen change_seen rows b (λ target. NumberedChange.searched target) makes before stop s

-- ---- the row of a cursor

module _ (cursors : NamedCursors) (t : ChangedTable) (name : Name) (counts : Counts) where
  abbrev row : NamedCursor → NumberedChange
  row c = NumberedChange.positioned c.number t.under.leaf

  abbrev if_over : NamedCursor → Bool → Outcome (Found NumberedChange)
  if_over c over = if over then Ok (only counts.subqueries nothing (row c)) else Err fault.NotUpdatable

  tested : (c : NamedCursor) (over : Bool) → (must over fault.NotUpdatable >>= λ u. pure (row c)) counts ≡ if_over c over
  tested c true = must_first fault.NotUpdatable (pure (row c)) counts
  tested c false = refl

  over_table : (c : NamedCursor) (o : Option TableName)
      → (outcome (or_fault fault.NotUpdatable o) >>= λ over. must (same_table t.reference.table over) fault.NotUpdatable >>= λ u. pure (row c)) counts ≡ if_over c (is_some_and (same_table t.reference.table) o)
  over_table c None = refl
  over_table c (Some over) =
      outcome_first over (λ over. must (same_table t.reference.table over) fault.NotUpdatable >>= λ u. pure (row c)) counts ∙ tested c (same_table t.reference.table over)

  at_cursor : (c : NamedCursor) → cursor_named cursors name ≡ Ok c → positioned_bound cursors t name counts ≡ if_over c (is_over t.reference.table c)
  at_cursor c is =
      ap (λ o. (outcome o >>= behind) counts) is ∙ outcome_first c behind counts ∙ over_table c c.table
    where
      behind : NamedCursor → Binding NumberedChange
      behind c = outcome (or_fault fault.NotUpdatable c.table) >>= λ over. must (same_table t.reference.table over) fault.NotUpdatable >>= λ u. pure (row c)

  pub row_there : (c : NamedCursor) → cursor_named cursors name ≡ Ok c → is_over t.reference.table c ≡ true → positioned_bound cursors t name counts ≡ Ok (only counts.subqueries nothing (row c))
  row_there c is over = at_cursor c is ∙ ap (if_over c) over

  pub row_elsewhere : (c : NamedCursor) → cursor_named cursors name ≡ Ok c → is_over t.reference.table c ≡ false → positioned_bound cursors t name counts ≡ Err fault.NotUpdatable
  row_elsewhere c is over = at_cursor c is ∙ ap (if_over c) over
