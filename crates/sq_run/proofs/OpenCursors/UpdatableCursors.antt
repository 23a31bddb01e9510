-- A cursor that is bound goes over rows of a base table exactly where the rules find it updatable (ISO/IEC
-- 9075:1992, 7.9 and 13.1).
use Rattle.std.proofs.Common.{◌≡◌, List, Option, Some, None, Ok, Err, refl, sym, subst, ◌∙◌}
use Rattle.std.specs.Option.{option_and_then, option_map}
use Rattle.std.specs.Result.{result_ok}
use Rattle.sq_tree.specs.declared.«module».Cursor.{Cursor}
use Rattle.sq_meaning.specs.Environment.{TableName}
use Rattle.sq_meaning.specs.Spelled.{Named, listed_if_any, query_of}
use Rattle.sq_meaning.specs.Status as status
use Rattle.sq_meaning.specs.Syntax.{Query, Select}
use Rattle.sq_meaning.specs.Tables.{Tables}
use Rattle.sq_meaning.specs.Target.{Source, Target, cursor_target, seen_through, target_of, updatable_source}
use Rattle.sq_meaning.specs.Privileges.{updatable_here}
use Rattle.sq_bound.specs.declared.query.CursorBody.{CursorBody}
use Rattle.sq_bound.specs.declared.query.CursorBody.TheVariants as body
use Rattle.sq_binding.specs.Changeable.{NumberedUpdatable, UserNames, outside, updatable_bound}
use Rattle.sq_binding.specs.Condition.{select_bound}
use Rattle.sq_binding.specs.Cursor.{NumberedCursor, NumberedRows, behind, cursor_bound, cursor_of, cursor_over, plain_specification, select_cursor, sorted_bound, sorted_cursor}
use Rattle.sq_binding.specs.NumberedCondition.{NumberedSelect}
use Rattle.sq_binding.specs.Outcome.{and_then}
use Rattle.sq_binding.specs.Select.{Surroundings}
use Rattle.sq_binding.specs.Whole.{at_first, permitted, whole}
use Rattle.sq_binding.proofs.Faultless.Clean.{steps_of}
use Rattle.sq_binding.specs.SeenQuery.{rows_seen}
use Rattle.sq_run.proofs.OpenCursors.CursorOpens.{IsUpdatableAs}
use Rattle.sq_meaning.specs.Tables.{Declared}

-- ---- it is over a table exactly where it goes over rows of one

abbrev IsOverAs : NumberedRows → Option TableName → Type 0
IsOverAs (NumberedRows.sorted q order) table = table ≡ None
IsOverAs (NumberedRows.updatable u) table = (t : TableName) × (table ≡ Some t)

over_as : (c : Cursor) (s : NumberedSelect) (o : Option NumberedUpdatable) → IsOverAs (cursor_over c s o).rows (cursor_over c s o).table
over_as c s None = refl
over_as c s (Some u) = (u.table, refl)

module _ (names : UserNames) (a : Surroundings) (c : Cursor) (query : Query Named) where
  tells : (o : Option (Select Named)) (n : NumberedCursor) → cursor_of names a c query o ≡ Ok n → IsOverAs n.rows n.table
  tells (Some q) n is =
      let s = steps_of (select_bound a q at_first) (select_cursor names a c q) n is in
      let t = steps_of (permitted s.step) (λ x. and_then (updatable_bound names a q x (behind s.step)) (λ y. Ok (cursor_over c x y.part))) n s.second in
      let u = steps_of (updatable_bound names a q t.step (behind s.step)) (λ y. Ok (cursor_over c t.step y.part)) n t.second in
      let made = u.second in
      let same : cursor_over c t.step u.step.part ≡ n = cc in
      subst (λ (k : NumberedCursor). IsOverAs k.rows k.table) same (over_as c t.step u.step.part)
  tells None n is =
      let s = steps_of (whole (sorted_bound a query (listed_if_any c.order_by))) (λ x. Ok (sorted_cursor c x.0 x.1)) n is in
      let made = s.second in
      let same : sorted_cursor c s.step.0 s.step.1 ≡ n = cc in
      subst (λ (k : NumberedCursor). IsOverAs k.rows k.table) same refl

pub cursor_tells : (names : UserNames) (parameters : List Declared) (c : Cursor) (n : NumberedCursor) → cursor_bound names parameters c ≡ Ok n → IsOverAs n.rows n.table
cursor_tells names parameters c n is =
    tells names (outside names parameters) c (query_of names.user c.query) (plain_specification c (query_of names.user c.query)) n is

-- ---- and the rules know that table exactly where it has a target

module _ (tables : Tables) where
  abbrev table_known : Option (Select Named) → Option TableName
  table_known o = option_map (λ (s : Source). s.item.reference.table) (option_and_then (updatable_here tables) o)

  abbrev target_known : Option (Select Named) → Option Target
  target_known o = option_and_then (λ q. result_ok (cursor_target tables q)) o

  -- there is a target where there is a table, and none where there is none
  abbrev AreAlike : Option TableName → Option Target → Type 0
  AreAlike None target = target ≡ None
  AreAlike (Some t) target = (x : Target) × (target ≡ Some x)

  by_target : (s : Source) (o : status.Outcome Target)
      → AreAlike (option_map (λ (y : Source). y.item.reference.table) (result_ok (status.and_then o (λ _. Ok s)))) (result_ok (status.and_then o (λ under. Ok (seen_through s under))))
  by_target s (Ok under) = (seen_through s under, refl)
  by_target s (Err e) = refl

  by_source : (o : status.Outcome Source)
      → AreAlike (option_map (λ (y : Source). y.item.reference.table) (result_ok (status.and_then o (λ s. status.and_then (target_of tables s.item.reference.table) (λ _. Ok s)))))
      (result_ok (status.and_then o (λ s. status.and_then (target_of tables s.item.reference.table) (λ under. Ok (seen_through s under)))))
  by_source (Ok s) = by_target s (target_of tables s.item.reference.table)
  by_source (Err e) = refl

  alike : (o : Option (Select Named)) → AreAlike (table_known o) (target_known o)
  alike None = refl
  alike (Some q) = by_source (updatable_source tables q)

  pub updatable_as : (b : CursorBody) (over : TableName) (table : Option TableName) (o : Option (Select Named)) → IsOverAs (rows_seen over b) table
      → table ≡ table_known o → IsUpdatableAs b (target_known o)
  updatable_as (body.Rows q sorts) over table o told known =
      subst (λ t. AreAlike t (target_known o)) (sym known ∙ told) (alike o)
  updatable_as (body.Updatable u) over table o told known =
      subst (λ t. AreAlike t (target_known o)) (sym known ∙ told.1) (alike o)
