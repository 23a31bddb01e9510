-- UPDATE and DELETE are well formed, and are those that are written (ISO/IEC 9075:1992, 13.6, 13.7, 13.9 and 13.10).
use Rattle.std.proofs.Common.{◌≡◌, ◌<◌, ℕ, Bool, true, false, not, ◌&&◌, List, [], ◌∷◌, ◌++◌, length, map, Option, Some, Ok, refl, sym, ap, subst, arith, ◌∙◌, lt-ltb}
use Rattle.std.proofs.lemmas.List.{length-map}
use Rattle.std.proofs.lemmas.Option.{slice_get_within}
use Rattle.std.specs.List.{AllByRecursion, AllZip}
use Rattle.std.specs.Prelude.{slice_get}
use Rattle.sq_lex.specs.declared.name.Name.{Name}
use Rattle.sq_value.specs.declared.domain.Kind.{Kind}
use Rattle.sq_tree.specs.declared.statement.Assignment.{Assignment}
use Rattle.sq_tree.specs.declared.statement.Delete.{Delete}
use Rattle.sq_tree.specs.declared.statement.NewValue as new_value_tree
use Rattle.sq_tree.specs.declared.statement.NewValue.TheVariants as new_value
use Rattle.sq_tree.specs.declared.statement.Update.{Update}
use Rattle.sq_meaning.specs.Environment.{TableName}
use Rattle.sq_meaning.specs.Spelled.{listed, table_of}
use Rattle.sq_meaning.specs.Privilege.{Privilege}
use Rattle.sq_meaning.specs.Schema.{has_name_twice}
use Rattle.sq_meaning.specs.declared.fault.BindingFault.TheVariants as fault
use Rattle.sq_bound.specs.Fits.{IsBase, IsColumnOf, are_columns, is_cursor, under}
use Rattle.sq_bound.specs.Known.{KnownTable, KnownTables, Under, under_of}
use Rattle.sq_bound.specs.WellFormed.{IsAssignment, IsChangeTarget, TableKinds, base_kinds, kinds_of_parameters, of_base, of_base_at}
use Rattle.sq_bound.specs.declared.names.BaseColumn.{BaseColumn}
use Rattle.sq_bound.specs.declared.names.BaseTable.{BaseTable}
use Rattle.sq_bound.specs.declared.names.Column.{Column}
use Rattle.sq_bound.specs.declared.names.ParameterDesc.{ParameterDesc}
use Rattle.sq_bound.specs.declared.statement.BoundAssignment.{BoundAssignment}
use Rattle.sq_bound.specs.declared.statement.BoundUpdate.{BoundUpdate}
use Rattle.sq_bound.specs.declared.statement.ChangeTarget.{ChangeTarget}
use Rattle.sq_binding.specs.Change.{NamedCursors, NumberedAssignment, NumberedUpdate, Receiver, assignment_bound, delete_bound, each_column, new_value_bound, reading, receiver_named, receivers_of, rows_bound, update_bound, update_parts, with_reading}
use Rattle.sq_binding.specs.Changeable as changeable
use Rattle.sq_binding.specs.Changeable.{ChangedTable, changed_table, item_at_leaf}
use Rattle.sq_binding.specs.Found.{Binding, Counts, Found, ◌>>=◌, ◌>>◌, after, has_found, must, outcome, pure}
use Rattle.sq_binding.specs.Seen.{numbered_of}
use Rattle.sq_binding.specs.Select.{Surroundings, of_lines}
use Rattle.sq_binding.specs.Whole.{at_first, needed, whole}
use Rattle.sq_binding.proofs.Faultless.Clean.{steps_of}
use Rattle.sq_binding.proofs.Faultless.CleanConds.{after_of}
use Rattle.sq_binding.specs.Scope as scope
use Rattle.sq_binding.proofs.Placing.PlacedParts as placed_parts
use Rattle.sq_binding.proofs.Standing.Levels.{AreLevels, MayStandAt}
use Rattle.sq_binding.specs.Names.{NamesMean, StandsUnder, declared, outside}
use Rattle.sq_binding.specs.SeenQuery.{assignment_seen, change_seen, update_seen}
use Rattle.sq_binding.specs.There.{IsPlain}
use Rattle.sq_binding.specs.Written.{IsDeleteOf, IsSetTo, IsUpdateOf, SetOn, value_placed, item_at_leaf as written_item}
use Rattle.sq_binding.proofs.WellFormed.Inserts.{named_is, whole_of}
use Rattle.sq_binding.proofs.WellFormed.Named.{base_is, leaf_is_over}
use Rattle.sq_binding.proofs.WellFormed.NewValues.{new_value_is, new_value_written, no_calls, receiver_kind}
use Rattle.sq_binding.proofs.WellFormed.Over as over_spec
use Rattle.sq_binding.proofs.WellFormed.Rows.{Changed, CursorsMean, changed_is, outcome_is, part_of, pure_part, rows_are, stands_under, under_known}

-- SELECT may be needed as well
reading_of : {A : Type 0} (names : changeable.UserNames) (t : ChangedTable) (b : Binding A) (counts : Counts) (x : Found A) → reading names t b counts ≡ Ok x → (y : Found A) × ((b counts ≡ Ok y) × (y.part ≡ x.part))
reading_of {A} names t b counts x is =
    let s = steps_of (b counts) (λ x. Ok (with_reading names t x)) x is in
    let made = s.second in
    let same : with_reading names t s.step ≡ x = cc in
    (s.step, (s.first, ap (λ (x : Found A). x.part) same))

column_there : (b : BaseTable) (a : BoundAssignment) → IsColumnOf b a.column → a.column.position < length b.columns
column_there b a h =
    let within : a.column.position < length (map (λ (c : BaseColumn). c.domain) b.columns) = slice_get_within (map (λ (c : BaseColumn). c.domain) b.columns) a.column.position a.column.domain h in
    subst (λ n. a.column.position < n) (length-map b.columns (λ (c : BaseColumn). c.domain)) within

pub columns_there : (b : BaseTable) (list : List BoundAssignment) → AllByRecursion (λ (a : BoundAssignment). IsColumnOf b a.column) list → are_columns (length b.columns) list ≡ true
columns_there b [] h = refl
columns_there b (a ∷ list) h = λ i. lt-ltb a.column.position (length b.columns) (column_there b a h.0) i && columns_there b list h.1 i

module _ (bases : List BaseTable) (kinds : TableKinds) (known : KnownTables) (mean : NamesMean bases kinds known) (user : Name) (selects grants : TableName → Bool) (holds : TableName → Privilege → Bool) (parameters : List ParameterDesc) where
  abbrev mine : changeable.UserNames
  mine = over_spec.names known user selects grants holds

  abbrev a : Surroundings
  a = over_spec.here known user selects grants holds parameters

  abbrev IsOn : TableName → ChangedTable → Type 0
  IsOn = Changed bases kinds known mean user selects grants holds parameters

  -- ---- set clauses

  module _ (t : TableName) (c : ChangedTable) (h : IsOn t c) (b : BaseTable) (base : (stands_under bases kinds known mean user selects grants holds parameters t c h).base ≡ b) (place : b.place ≡ h.under.base) where
    abbrev on_rows : Surroundings
    on_rows = of_lines (item_at_leaf c ∷ []) a

    abbrev its : StandsUnder bases kinds h.table.columns h.under
    its = stands_under bases kinds known mean user selects grants holds parameters t c h

    on_levels : AreLevels kinds (of_base b) on_rows.scopes
    on_levels =
        subst (λ n. AreLevels kinds (of_base_at n) on_rows.scopes) (sym place)
        (record { over = (leaf_is_over bases kinds h.table.columns h.under its (item_at_leaf c) (ap (λ (c : ChangedTable). (item_at_leaf c).columns) h.is_table), tt); is_read = refl }, tt)

    on_row : (has_ungrouped : Bool) → MayStandAt kinds (of_base b) on_rows.scopes false has_ungrouped
    on_row has_ungrouped = record { are_levels = on_levels; functions = λ e. cc; reads = refl }

    all_own : AllByRecursion (λ (k : Column). slice_get (base_kinds b) k.leaf_column ≡ Some k.kind) h.table.columns
    all_own = subst (λ (b : BaseTable). AllByRecursion (λ (k : Column). slice_get (base_kinds b) k.leaf_column ≡ Some k.kind) h.table.columns) base its.columns_are

    item_same : item_at_leaf c ≡ written_item t h.table
    item_same = ap item_at_leaf h.is_table

    -- what a value becomes on a row of it
    same_text : (w : new_value_tree.NewValue) → value_placed (placed_parts.around on_rows) w ≡ value_placed (of_lines (written_item t h.table ∷ []) (outside known parameters)) w
    same_text (new_value.Expr e) = ap (λ (i : scope.FromItem). value_placed (of_lines (i ∷ []) (outside known parameters)) (new_value.Expr e)) item_same
    same_text new_value.Null = refl

    abbrev IsSet : Assignment → BoundAssignment → Type 0
    IsSet = IsSetTo (of_lines (written_item t h.table ∷ []) (outside known parameters)) h.table.columns

    -- the calls of each set clause are none
    assignment_calls : (s : Assignment) (r : Receiver) (counts : Counts) (x : Found NumberedAssignment) → assignment_bound mine a c s r counts ≡ Ok x → x.calls ≡ []
    assignment_calls s r counts x is =
        let v = after_of (new_value_bound on_rows r.kind s.value) (λ v. has_found (needed (holds c.reference.table (Privilege.update s.column))) >> pure (record { column = r.column; value = v })) counts x is in
        let f = after_of (has_found (needed (holds c.reference.table (Privilege.update s.column)))) (λ u. pure (record { column = r.column; value = v.first.part })) (after counts v.first) v.second v.is_second in
        let first : v.first.calls ≡ [] = no_calls kinds parameters on_rows refl refl (of_base b) on_row r.kind s.value counts v.first v.is_first in
        let found = f.is_first in
        let found_calls : [] ≡ f.first.calls = cc in
        let last = f.is_second in
        let last_calls : [] ≡ f.second.calls = cc in
        sym (ap (λ (x : Found NumberedAssignment). x.calls) v.is_joined) ∙ (λ i. first i ++ (sym (ap (λ (x : Found NumberedAssignment). x.calls) f.is_joined) ∙ (λ j. sym found_calls j ++ sym last_calls j)) i)

    one_set : (s : Assignment) (r : Receiver) (counts : Counts) (x : Found NumberedAssignment) → counts.functions ≡ 0 → receiver_named c s.column ≡ Ok r → assignment_bound mine a c s r counts ≡ Ok x → (set : BoundAssignment) → assignment_seen set ≡ x.part
        → IsColumnOf b set.column → IsPlain set.value → IsAssignment kinds (kinds_of_parameters parameters) b set × IsSet s set
    one_set s r counts x first named is set same column plain =
        let v = after_of (new_value_bound on_rows r.kind s.value) (λ v. has_found (needed (holds c.reference.table (Privilege.update s.column))) >> pure (record { column = r.column; value = v })) counts x is in
        let f = after_of (has_found (needed (holds c.reference.table (Privilege.update s.column)))) (λ u. pure (record { column = r.column; value = v.first.part })) (after counts v.first) v.second v.is_second in
        let made : NumberedAssignment = record { column = r.column; value = v.first.part } in
        let part : assignment_seen set ≡ made = same ∙ part_of v ∙ part_of f ∙ pure_part made (after (after counts v.first) f.first) f.second f.is_second in
        let at : set.column.position ≡ r.column = ap (λ (n : NumberedAssignment). n.column) part in
        let value : numbered_of set.value ≡ v.first.part = ap (λ (n : NumberedAssignment). n.value) part in
        let two = named_is (base_kinds b) h.table.columns all_own c (ap receivers_of h.is_table) s.column r named in (
          (column, new_value_is kinds parameters on_rows refl refl (of_base b) on_row r.kind s.value counts v.first first v.is_first set.value value plain set.column (receiver_kind b set.column r column two.0 at)),
          record {
            column = two.1 ∙ ap Some (sym at);
            value = λ functions. sym (same_text s.value) ∙ new_value_written kinds parameters on_rows refl refl (of_base b) on_row r.kind s.value counts v.first first v.is_first set.value value functions;
          },
        )

    -- each set clause, with the names before it
    sets_are : (before : List Name) (ws : List Assignment) (counts : Counts) (x : Found (List NumberedAssignment)) → counts.functions ≡ 0 → each_column c (λ s. s.column) (assignment_bound mine a c) before ws counts ≡ Ok x
        → (sets : List BoundAssignment) → map assignment_seen sets ≡ x.part → AllByRecursion (λ (s : BoundAssignment). IsColumnOf b s.column × IsPlain s.value) sets
        → AllByRecursion (IsAssignment kinds (kinds_of_parameters parameters) b) sets × AllZip IsSet ws sets
    sets_are before [] counts x first is [] same there = (tt, tt)
    sets_are before [] counts x first is (set ∷ sets) same there =
        let none : x.part ≡ [] = pure_part [] counts x is in absurd (let no : assignment_seen set ∷ map assignment_seen sets ≡ [] = same ∙ none in cc)
    sets_are before (w ∷ ws) counts x first is sets same there =
        let names_before : List Name = before ++ w.column ∷ [] in
        let rest : Binding (List NumberedAssignment) = each_column c (λ (s : Assignment). s.column) (assignment_bound mine a c) names_before ws in
        let r = after_of (outcome (receiver_named c w.column)) (λ r. must (not (has_name_twice names_before)) fault.ColumnTwice >> (assignment_bound mine a c w r >>= λ y. rest >>= λ ys. pure (y ∷ ys))) counts x is in
        let m = after_of (must (not (has_name_twice names_before)) fault.ColumnTwice) (λ u. assignment_bound mine a c w r.first.part >>= λ y. rest >>= λ ys. pure (y ∷ ys)) (after counts r.first) r.second r.is_second in
        let y = after_of (assignment_bound mine a c w r.first.part) (λ y. rest >>= λ ys. pure (y ∷ ys)) (after (after counts r.first) m.first) m.second m.is_second in
        let ys = after_of rest (λ ys. pure (y.first.part ∷ ys)) (after (after (after counts r.first) m.first) y.first) y.second y.is_second in
        let part : x.part ≡ y.first.part ∷ ys.first.part
        = part_of r ∙ part_of m ∙ part_of y ∙ part_of ys ∙ pure_part (y.first.part ∷ ys.first.part) (after (after (after (after counts r.first) m.first) y.first) ys.first) ys.second ys.is_second in
        let named = outcome_is (receiver_named c w.column) counts r.first r.is_first in
        let first1 : (after (after counts r.first) m.first).functions ≡ 0
        = must_first (not (has_name_twice names_before)) (after counts r.first) m.first (let none : length r.first.calls ≡ 0 = ap length named.1 in omega (arith, first, none)) m.is_first in
        let none : length y.first.calls ≡ 0 = ap length (assignment_calls w r.first.part (after (after counts r.first) m.first) y.first y.is_first) in
        let first2 : (after (after (after counts r.first) m.first) y.first).functions ≡ 0 = omega (arith, first1, none) in
        by_sets (λ set seen column plain. one_set w r.first.part (after (after counts r.first) m.first) y.first first1 named.0 y.is_first set seen column plain)
        (λ sets seen there. sets_are names_before ws (after (after (after counts r.first) m.first) y.first) ys.first first2 ys.is_first sets seen there) sets (same ∙ part) there
      where
        must_first : (test : Bool) (counts : Counts) (u : Found (Unit {0})) → counts.functions ≡ 0 → must test fault.ColumnTwice counts ≡ Ok u → (after counts u).functions ≡ 0
        must_first true counts u first e = let none : [] ≡ u.calls = cc in let size : 0 ≡ length u.calls = ap length none in omega (arith, first, size)
        must_first false counts u first e = cc

        by_sets : {y : NumberedAssignment} {ys : List NumberedAssignment} → ((set : BoundAssignment) → assignment_seen set ≡ y → IsColumnOf b set.column → IsPlain set.value → IsAssignment kinds (kinds_of_parameters parameters) b set × IsSet w set)
            → ((sets : List BoundAssignment) → map assignment_seen sets ≡ ys → AllByRecursion (λ (s : BoundAssignment). IsColumnOf b s.column × IsPlain s.value) sets → AllByRecursion (IsAssignment kinds (kinds_of_parameters parameters) b) sets × AllZip IsSet ws sets)
            → (sets : List BoundAssignment) → map assignment_seen sets ≡ y ∷ ys → AllByRecursion (λ (s : BoundAssignment). IsColumnOf b s.column × IsPlain s.value) sets
            → AllByRecursion (IsAssignment kinds (kinds_of_parameters parameters) b) sets × AllZip IsSet (w ∷ ws) sets
        by_sets one others [] seen there = cc
        by_sets {y} {ys} one others (set ∷ sets) seen there =
            let head : assignment_seen set ≡ y = cc (seen) in
            let tail : map assignment_seen sets ≡ ys = cc (seen) in
            let h = one set head there.0.0 there.0.1 in
            let g = others sets tail there.1 in
            ((h.0, g.0), (h.1, g.1))

  -- ---- statements

  module _ (IsNumberOf : Name → ℕ → Type 0) (count : ℕ) (cursor_kinds : List (List Kind)) (cursors : NamedCursors) (cursors_mean : CursorsMean IsNumberOf count cursor_kinds cursors) where
    pub delete_is : (d : Delete) (ct : ChangeTarget) → whole (delete_bound mine (declared parameters) cursors d) ≡ Ok (change_seen ct) → IsBase bases (under ct).table
        → (IsChangeTarget kinds (kinds_of_parameters parameters) ct × (is_cursor count ct ≡ true)) × IsDeleteOf IsNumberOf known parameters user d ct
    delete_is d ct is base =
        let w = whole_of (delete_bound mine (declared parameters) cursors d) (change_seen ct) is in
        let name : TableName = table_of user d.table in
        let t = after_of (outcome (changed_table mine name)) (λ t. reading mine t (rows_bound mine a cursors t d.target) >>= λ rows. has_found (needed (holds t.reference.table Privilege.delete)) >> pure rows) at_first w.found w.is_found in
        let c : ChangedTable = t.first.part in
        let o = outcome_is (changed_table mine name) at_first t.first t.is_first in
        let counts1 : Counts = after at_first t.first in
        let r = after_of (reading mine c (rows_bound mine a cursors c d.target)) (λ rows. has_found (needed (holds c.reference.table Privilege.delete)) >> pure rows) counts1 t.second t.is_second in
        let f = after_of (has_found (needed (holds c.reference.table Privilege.delete))) (λ u. pure r.first.part) (after counts1 r.first) r.second r.is_second in
        let y = reading_of mine c (rows_bound mine a cursors c d.target) counts1 r.first r.is_first in
        let same : change_seen ct ≡ y.0.part = sym w.part ∙ part_of t ∙ part_of r ∙ part_of f ∙ pure_part r.first.part (after (after counts1 r.first) f.first) f.second f.is_second ∙ sym y.1.1 in
        let h = changed_is bases kinds known mean user selects grants holds parameters name c o.0 in
        let rows = rows_are bases kinds known mean user selects grants holds parameters IsNumberOf count cursor_kinds cursors cursors_mean name c h d.target counts1 y.0 y.1.0 ct same base in (
          (rows.stands, rows.is_there),
          record { is_under = under_known bases kinds known mean user selects grants holds parameters name c h (under_of (under ct)) rows.is_under; rows = rows.is_written },
        )

    pub update_is : (u : Update) (update : BoundUpdate) → whole (update_bound mine (declared parameters) cursors u) ≡ Ok (update_seen update) → IsBase bases (under update.target).table
        → AllByRecursion (λ (s : BoundAssignment). IsColumnOf (under update.target).table s.column × IsPlain s.value) update.assignments
        → (IsChangeTarget kinds (kinds_of_parameters parameters) update.target × (is_cursor count update.target ≡ true) × AllByRecursion (IsAssignment kinds (kinds_of_parameters parameters) (under update.target).table) update.assignments)
        × IsUpdateOf IsNumberOf known parameters user u update
    update_is u update is base there =
        let w = whole_of (update_bound mine (declared parameters) cursors u) (update_seen update) is in
        let name : TableName = table_of user u.table in
        let t = after_of (outcome (changed_table mine name)) (λ t. reading mine t (update_parts mine a cursors t u)) at_first w.found w.is_found in
        let c : ChangedTable = t.first.part in
        let o = outcome_is (changed_table mine name) at_first t.first t.is_first in
        let counts1 : Counts = after at_first t.first in
        let y = reading_of mine c (update_parts mine a cursors c u) counts1 t.second t.is_second in
        let sets : Binding (List NumberedAssignment) = each_column c (λ (s : Assignment). s.column) (assignment_bound mine a c) [] (listed u.assignments) in
        let s = after_of sets (λ sets. rows_bound mine a cursors c u.target >>= λ rows. pure (record { rows = rows; assignments = sets })) counts1 y.0 y.1.0 in
        let r = after_of (rows_bound mine a cursors c u.target) (λ rows. pure (record { rows = rows; assignments = s.first.part })) (after counts1 s.first) s.second s.is_second in
        let made : NumberedUpdate = record { rows = r.first.part; assignments = s.first.part } in
        let same : update_seen update ≡ made = sym w.part ∙ part_of t ∙ sym y.1.1 ∙ part_of s ∙ part_of r ∙ pure_part made (after (after counts1 s.first) r.first) r.second r.is_second in
        let h = changed_is bases kinds known mean user selects grants holds parameters name c o.0 in
        let rows = rows_are bases kinds known mean user selects grants holds parameters IsNumberOf count cursor_kinds cursors cursors_mean name c h u.target (after counts1 s.first) r.first r.is_first update.target (ap (λ (n : NumberedUpdate). n.rows) same) base in
        let stands = stands_under bases kinds known mean user selects grants holds parameters name c h in
        let table : stands.base ≡ (under update.target).table = base_is bases kinds h.table.columns h.under stands (under update.target) rows.is_under base in
        let none : length t.first.calls ≡ 0 = ap length o.1 in
        let first : counts1.functions ≡ 0 = omega (arith, none) in
        let set = sets_are name c h (under update.target).table table (ap (λ (u : Under). u.base) rows.is_under) [] (listed u.assignments) counts1 s.first first s.is_first update.assignments (ap (λ (n : NumberedUpdate). n.assignments) same) there in (
          (rows.stands, rows.is_there, set.0),
          record {
            is_under = under_known bases kinds known mean user selects grants holds parameters name c h (under_of (under update.target)) rows.is_under;
            rows = rows.is_written;
            values = subst (λ (k : Option KnownTable). SetOn (outside known parameters) name k (listed u.assignments) update.assignments) (sym h.is_known) set.1;
          },
        )
