-- The rows that UPDATE and DELETE change are those that are written, under a table that may be changed, and their conditions are well formed
-- (ISO/IEC 9075:1992, 13.6, 13.7, 13.9 and 13.10).
use Rattle.std.proofs.Common.{◌≡◌, ◌<◌, ℕ, Bool, true, false, List, [], ◌∷◌, map, Option, Some, None, Ok, Err, refl, sym, ap, subst, ◌∙◌, lt-ltb}
use Rattle.std.specs.Option.{option_and_then, option_map}
use Rattle.std.specs.Prelude.{IfSome, slice_get}
use Rattle.sq_lex.specs.declared.name.Name.{Name}
use Rattle.sq_value.specs.declared.domain.Kind.{Kind}
use Rattle.sq_tree.specs.declared.statement.Where.{Where}
use Rattle.sq_tree.specs.declared.statement.Where.TheVariants as rows_where
use Rattle.sq_meaning.specs.Environment.{TableName, TableReference, same_table}
use Rattle.sq_meaning.specs.Spelled as spelled
use Rattle.sq_meaning.specs.Spelled.{cond_of}
use Rattle.sq_meaning.specs.Status as status
use Rattle.sq_meaning.specs.Syntax.{Clause, absent, present}
use Rattle.sq_meaning.specs.Privilege.{Privilege}
use Rattle.sq_meaning.specs.declared.fault.BindingFault.{BindingFault}
use Rattle.sq_meaning.specs.declared.fault.BindingFault.TheVariants as fault
use Rattle.sq_bound.specs.Fits.{IsBase, is_cursor, under}
use Rattle.sq_bound.specs.Known.{KnownTable, KnownTables, Under, under_of}
use Rattle.sq_bound.specs.WellFormed.{IsChangeTarget, TableKinds, kinds_of_parameters}
use Rattle.sq_bound.specs.declared.condition.BoundCond as bound_cond
use Rattle.sq_bound.specs.declared.names.BaseTable.{BaseTable}
use Rattle.sq_bound.specs.declared.names.ParameterDesc.{ParameterDesc}
use Rattle.sq_bound.specs.declared.query.Target.{Target}
use Rattle.sq_bound.specs.declared.statement.ChangeTarget.{ChangeTarget}
use Rattle.sq_bound.specs.declared.statement.ChangeTarget.TheVariants as target
use Rattle.sq_bound.specs.declared.statement.PositionedTarget.{PositionedTarget}
use Rattle.sq_binding.specs.Change.{NamedCursor, NamedCursors, NumberedChange, cursor_named, positioned_bound, rows_bound}
use Rattle.sq_binding.specs.Changeable.{ChangedTable, NumberedTarget, UserNames, changed_table, condition_bound, item_at_leaf, table_over, target_over}
use Rattle.sq_binding.specs.Condition.{clause_bound}
use Rattle.sq_binding.specs.Found.{Binding, Counts, Found, ◌>>=◌, ◌>>◌, after, must, outcome, pure}
use Rattle.sq_binding.specs.NumberedCondition.{NumberedClause}
use Rattle.sq_binding.specs.Outcome.{Outcome, and_then, or_fault}
use Rattle.sq_binding.specs.PlacedQuery.{clause_placed}
use Rattle.sq_binding.specs.QueryFindings as query_findings
use Rattle.sq_binding.specs.Scope as scope
use Rattle.sq_binding.specs.Select.{Surroundings, of_lines}
use Rattle.sq_binding.proofs.Faultless.Clean.{steps_of}
use Rattle.sq_binding.proofs.Faultless.CleanConds.{After, after_of}
use Rattle.sq_binding.specs.Names.{NamesMean, Stands, StandsUnder, meant_by, outside}
use Rattle.sq_binding.specs.SeenQuery.{change_seen, clause_seen, target_seen}
use Rattle.sq_binding.specs.Written.{ClauseIs, IsTargetOf, changed_item, filter_placed, item_at_leaf as written_item}
use Rattle.sq_binding.proofs.WellFormed.Named.{leaf_stands}
use Rattle.sq_binding.proofs.WellFormed.Over.{IsChanged, here, if_there, is_changed, names, table_at, target_is_written, target_stands}

-- ---- steps

pub or_some : {A : Type 0} (f : BindingFault) (o : Option A) (x : A) → or_fault f o ≡ Ok x → o ≡ Some x
or_some f (Some y) x e = let same : y ≡ x = cc in ap Some same
or_some f None x e = cc

pub outcome_is : {A : Type 0} (o : Outcome A) (counts : Counts) (x : Found A) → outcome o counts ≡ Ok x → (o ≡ Ok x.part) × (x.calls ≡ [])
outcome_is {A} (Ok y) counts x e =
    let only : Found A = record { part = y; calls = []; calls_can_fail = false; findings = query_findings.nothing; subqueries = counts.subqueries } in
    let same : only ≡ x = cc in
    (ap (λ (x : Found A). Ok x.part) same, sym (ap (λ (x : Found A). x.calls) same))
outcome_is (Err f) counts x e = cc

pub part_of : {A B : Type 0} {b : Binding A} {f : A → Binding B} {counts : Counts} {z : Found B} (s : After b f counts z) → z.part ≡ s.second.part
part_of {A} {B} s = sym (ap (λ (z : Found B). z.part) s.is_joined)

pub pure_part : {A : Type 0} (x : A) (counts : Counts) (z : Found A) → pure x counts ≡ Ok z → z.part ≡ x
pure_part {A} x counts z e =
    let only : Found A = record { part = x; calls = []; calls_can_fail = false; findings = query_findings.nothing; subqueries = counts.subqueries } in
    let same : only ≡ z = cc in sym (ap (λ (z : Found A). z.part) same)

-- what a statement knows of the cursors that it names: their numbers, so many as there are, and the kinds of their columns
pub record IsKnownCursor (IsNumberOf : Name → ℕ → Type 0) (count : ℕ) (kinds : List (List Kind)) (name : Name) (c : NamedCursor) : Type 0 where
  pub is_number : IsNumberOf name c.number
  pub is_there : c.number < count
  pub columns : slice_get kinds c.number ≡ Some (map (λ k. k.kind) c.columns)

abbrev pub CursorsMean : (Name → ℕ → Type 0) → ℕ → List (List Kind) → NamedCursors → Type 0
CursorsMean IsNumberOf count kinds cursors = (name : Name) → IfSome (cursors name) (IsKnownCursor IsNumberOf count kinds name)

pub cursor_is : (IsNumberOf : Name → ℕ → Type 0) (count : ℕ) (kinds : List (List Kind)) (cursors : NamedCursors) → CursorsMean IsNumberOf count kinds cursors → (name : Name) (c : NamedCursor) → cursor_named cursors name ≡ Ok c
    → IsKnownCursor IsNumberOf count kinds name c
cursor_is IsNumberOf count kinds cursors mean name c is = if_there (IsKnownCursor IsNumberOf count kinds name) (cursors name) c (mean name) (or_some fault.UnknownCursor (cursors name) c is)

no_condition : (t : Target) → clause_seen t.condition ≡ NumberedClause.absent → t.condition ≡ None
no_condition t e = by t.condition e
  where
    by : (o : Option bound_cond.BoundCond) → clause_seen o ≡ NumberedClause.absent → o ≡ None
    by None e = refl
    by (Some c) e = cc

module _ (bases : List BaseTable) (kinds : TableKinds) (known : KnownTables) (mean : NamesMean bases kinds known) (user : Name) (selects grants : TableName → Bool) (holds : TableName → Privilege → Bool) (parameters : List ParameterDesc) where
  abbrev pub own : UserNames
  own = names known user selects grants holds

  abbrev pub a : Surroundings
  a = here known user selects grants holds parameters

  -- ---- the table

  abbrev pub reference_to : TableName → TableReference
  reference_to t = record { table = t; correlation = None }

  abbrev pub Changed : TableName → ChangedTable → Type 0
  Changed t = IsChanged known user selects grants holds (reference_to t)

  pub changed_is : (t : TableName) (c : ChangedTable) → changed_table own t ≡ Ok c → Changed t c
  changed_is t c is =
      let n = steps_of (or_fault fault.UnknownTable (own.tables t)) (λ n. and_then (or_fault fault.NotUpdatable (own.under t)) (λ u. Ok (table_over (reference_to t) n u))) c is in
      let u = steps_of (or_fault fault.NotUpdatable (own.under t)) (λ u. Ok (table_over (reference_to t) n.step u)) c n.second in
      let made = u.second in
      let same : table_over (reference_to t) n.step u.step ≡ c = cc in
      subst (Changed t) same
      (is_changed known user selects grants holds (reference_to t) n.step u.step (or_some fault.UnknownTable (own.tables t) n.step n.first) (or_some fault.NotUpdatable (own.under t) u.step u.first))

  pub stands_under : (t : TableName) (c : ChangedTable) (h : Changed t c) → StandsUnder bases kinds h.table.columns h.under
  stands_under t c h =
      if_there (StandsUnder bases kinds h.table.columns) h.table.under h.under (if_there (Stands bases kinds) (meant_by known t) h.table (mean t) h.is_known).under h.is_under

  pub under_known : (t : TableName) (c : ChangedTable) (h : Changed t c) (u : Under) → u ≡ h.under → option_and_then (λ (k : KnownTable). k.under) (meant_by known t) ≡ Some u
  under_known t c h u same = ap (option_and_then (λ (k : KnownTable). k.under)) h.is_known ∙ h.is_under ∙ ap Some (sym same)

  -- ---- the rows

  module _ (IsNumberOf : Name → ℕ → Type 0) (count : ℕ) (cursor_kinds : List (List Kind)) (cursors : NamedCursors) (cursors_mean : CursorsMean IsNumberOf count cursor_kinds cursors) (t : TableName) (c : ChangedTable) (h : Changed t c)
    where
      -- what the rows are
      pub record AreRows (w : Option Where) (ct : ChangeTarget) : Type 0 where
        pub stands : IsChangeTarget kinds (kinds_of_parameters parameters) ct
        pub is_there : is_cursor count ct ≡ true
        pub is_under : under_of (under ct) ≡ h.under
        pub is_written : IsTargetOf IsNumberOf (filter_placed known parameters user t) w ct

      item_is : changed_item known t ≡ Ok (written_item t h.table)
      item_is = ap (λ (k : Option KnownTable). status.well_formed (option_map (written_item t) k)) h.is_known

      searched_is : (w : Option Where) (text : Clause spelled.Named) (counts : Counts) (clause : Found NumberedClause) → counts.functions ≡ 0 → clause_bound (of_lines (item_at_leaf c ∷ []) a) text counts ≡ Ok clause → (s : Target)
          → target_seen s ≡ target_over c clause.part → IsBase bases s.leaf.table
          → (ClauseIs (clause_placed (of_lines (written_item t h.table ∷ []) (outside known parameters)) text) s.condition → IsTargetOf IsNumberOf (filter_placed known parameters user t) w (target.Searched s)) → AreRows w (target.Searched s)
      searched_is w text counts clause first is s same base written =
          let r = reference_to t in
          let own_clause : clause_bound (of_lines (item_at_leaf (table_at known user selects grants holds r h.table h.under) ∷ []) a) text counts ≡ Ok clause
          = subst (λ (c : ChangedTable). clause_bound (of_lines (item_at_leaf c ∷ []) a) text counts ≡ Ok clause) h.is_table is in
          let own_target : target_seen s ≡ target_over (table_at known user selects grants holds r h.table h.under) clause.part = same ∙ ap (λ (c : ChangedTable). target_over c clause.part) h.is_table in
          record {
            stands = target_stands known user selects grants holds parameters bases kinds mean r h.table h.under h.is_known h.is_under clause text counts first own_clause s own_target base;
            is_there = refl;
            is_under = ap (λ (t : NumberedTarget). t.leaf) own_target;
            is_written = written (target_is_written known user selects grants holds parameters bases kinds mean r h.table h.under h.is_known h.is_under clause text counts first own_clause s own_target base);
          }

      positioned_is : (name : Name) (counts : Counts) (x : Found NumberedChange) → positioned_bound cursors c name counts ≡ Ok x → (p : PositionedTarget) → change_seen (target.Positioned p) ≡ x.part → IsBase bases p.leaf.table
          → AreRows (Some (rows_where.CurrentOf name)) (target.Positioned p)
      positioned_is name counts x is p same base =
          let k = after_of (outcome (cursor_named cursors name)) (λ k. outcome (or_fault fault.NotUpdatable k.table) >>= λ over. must (same_table c.reference.table over) fault.NotUpdatable >> pure (NumberedChange.positioned k.number c.under.leaf)) counts x is in
          let over = after_of (outcome (or_fault fault.NotUpdatable k.first.part.table)) (λ over. must (same_table c.reference.table over) fault.NotUpdatable >> pure (NumberedChange.positioned k.first.part.number c.under.leaf)) (after counts k.first) k.second k.is_second in
          let test = after_of (must (same_table c.reference.table over.first.part) fault.NotUpdatable) (λ u. pure (NumberedChange.positioned k.first.part.number c.under.leaf)) (after (after counts k.first) over.first) over.second over.is_second in
          let part : x.part ≡ NumberedChange.positioned k.first.part.number c.under.leaf
          = part_of k ∙ part_of over ∙ part_of test ∙ pure_part (NumberedChange.positioned k.first.part.number c.under.leaf) (after (after (after counts k.first) over.first) test.first) test.second test.is_second in
          let both : NumberedChange.positioned p.cursor (under_of p.leaf) ≡ NumberedChange.positioned k.first.part.number c.under.leaf = same ∙ part in
          let number : p.cursor ≡ k.first.part.number = cc (both) in
          let leaf : under_of p.leaf ≡ c.under.leaf = cc (both) in
          let its_leaf : under_of p.leaf ≡ h.under = leaf ∙ ap (λ (c : ChangedTable). c.under.leaf) h.is_table in
          let known_cursor = cursor_is IsNumberOf count cursor_kinds cursors cursors_mean name k.first.part (outcome_is (cursor_named cursors name) counts k.first k.is_first).0 in
          record {
            stands = leaf_stands bases kinds h.table.columns h.under (stands_under t c h) p.leaf its_leaf base;
            is_there = lt-ltb p.cursor count (subst (λ n. n < count) (sym number) known_cursor.is_there);
            is_under = its_leaf;
            is_written = subst (IsNumberOf name) (sym number) known_cursor.is_number;
          }

      -- the rows of a table that may be changed
      pub rows_are : (w : Option Where) (counts : Counts) (x : Found NumberedChange) → rows_bound own a cursors c w counts ≡ Ok x → (ct : ChangeTarget) → change_seen ct ≡ x.part → IsBase bases (under ct).table → AreRows w ct
      rows_are None counts x is (target.Searched s) same base =
          let part : x.part ≡ NumberedChange.searched (target_over c NumberedClause.absent) = pure_part (NumberedChange.searched (target_over c NumberedClause.absent)) counts x is in
          let both : NumberedChange.searched (target_seen s) ≡ NumberedChange.searched (target_over c NumberedClause.absent) = same ∙ part in
          let own_target : target_seen s ≡ target_over c NumberedClause.absent = cc (both) in
          let clause : Found NumberedClause = record { part = NumberedClause.absent; calls = []; calls_can_fail = false; findings = query_findings.nothing; subqueries = counts.subqueries } in
          searched_is None absent (record counts { functions = 0 }) clause refl refl s own_target base (λ _. no_condition s (ap (λ (t : NumberedTarget). t.condition) own_target))
      rows_are None counts x is (target.Positioned p) same base =
          let part : x.part ≡ NumberedChange.searched (target_over c NumberedClause.absent) = pure_part (NumberedChange.searched (target_over c NumberedClause.absent)) counts x is in
          absurd (let no : NumberedChange.positioned p.cursor (under_of p.leaf) ≡ NumberedChange.searched (target_over c NumberedClause.absent) = same ∙ part in cc)
      rows_are (Some (rows_where.Condition cond)) counts x is (target.Searched r) same base =
          let s = after_of (condition_bound a c (present (cond_of user cond))) (λ condition. pure (NumberedChange.searched (target_over c condition))) counts x is in
          let part : x.part ≡ NumberedChange.searched (target_over c s.first.part)
          = part_of s ∙ pure_part (NumberedChange.searched (target_over c s.first.part)) (after counts s.first) s.second s.is_second in
          let both : NumberedChange.searched (target_seen r) ≡ NumberedChange.searched (target_over c s.first.part) = same ∙ part in
          let own_target : target_seen r ≡ target_over c s.first.part = cc (both) in
          searched_is (Some (rows_where.Condition cond)) (present (cond_of user cond)) (record counts { functions = 0 }) s.first refl s.is_first r own_target base
          (λ written functions.
          ap (λ (o : status.Outcome scope.FromItem). status.and_then o (λ item. clause_placed (of_lines (item ∷ []) (outside known parameters)) (present (cond_of user cond)))) item_is ∙ written functions)
      rows_are (Some (rows_where.Condition cond)) counts x is (target.Positioned p) same base =
          let s = after_of (condition_bound a c (present (cond_of user cond))) (λ condition. pure (NumberedChange.searched (target_over c condition))) counts x is in
          let part : x.part ≡ NumberedChange.searched (target_over c s.first.part)
          = part_of s ∙ pure_part (NumberedChange.searched (target_over c s.first.part)) (after counts s.first) s.second s.is_second in
          absurd (let no : NumberedChange.positioned p.cursor (under_of p.leaf) ≡ NumberedChange.searched (target_over c s.first.part) = same ∙ part in cc)
      rows_are (Some (rows_where.CurrentOf name)) counts x is (target.Positioned p) same base = positioned_is name counts x is p same base
      rows_are (Some (rows_where.CurrentOf name)) counts x is (target.Searched s) same base =
          let k = after_of (outcome (cursor_named cursors name)) (λ k. outcome (or_fault fault.NotUpdatable k.table) >>= λ over. must (same_table c.reference.table over) fault.NotUpdatable >> pure (NumberedChange.positioned k.number c.under.leaf)) counts x is in
          let over = after_of (outcome (or_fault fault.NotUpdatable k.first.part.table)) (λ over. must (same_table c.reference.table over) fault.NotUpdatable >> pure (NumberedChange.positioned k.first.part.number c.under.leaf)) (after counts k.first) k.second k.is_second in
          let test = after_of (must (same_table c.reference.table over.first.part) fault.NotUpdatable) (λ u. pure (NumberedChange.positioned k.first.part.number c.under.leaf)) (after (after counts k.first) over.first) over.second over.is_second in
          let part : x.part ≡ NumberedChange.positioned k.first.part.number c.under.leaf
          = part_of k ∙ part_of over ∙ part_of test ∙ pure_part (NumberedChange.positioned k.first.part.number c.under.leaf) (after (after (after counts k.first) over.first) test.first) test.second test.is_second in
          absurd (let no : NumberedChange.searched (target_seen s) ≡ NumberedChange.positioned k.first.part.number c.under.leaf = same ∙ part in cc)
