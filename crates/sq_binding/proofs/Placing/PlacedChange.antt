-- INSERT, UPDATE and DELETE are bound to their values, conditions and queries with names placed, for the table and the columns that are
-- named (ISO/IEC 9075:1992, 13.6 to 13.10).
use Rattle.std.proofs.Common.{◌≡◌, ℕ, Bool, false, not, List, [], ◌∷◌, ◌++◌, Option, Some, None, Ok, Err, refl, subst}
use Rattle.std.specs.Prelude.{⊤}
use Rattle.sq_lex.specs.declared.name.Name.{Name}
use Rattle.sq_value.specs.declared.domain.Kind.{Kind}
use Rattle.sq_value.specs.declared.value.Value.TheVariants.{Null}
use Rattle.sq_tree.specs.declared.statement.Assignment.{Assignment}
use Rattle.sq_tree.specs.declared.statement.Delete.{Delete}
use Rattle.sq_tree.specs.declared.statement.NewValue.{NewValue}
use Rattle.sq_tree.specs.declared.statement.NewValue.TheVariants as new_value
use Rattle.sq_tree.specs.declared.statement.Update.{Update}
use Rattle.sq_tree.specs.declared.statement.Where.{Where}
use Rattle.sq_tree.specs.declared.statement.Where.TheVariants as rows_where
use Rattle.sq_meaning.specs.Environment.{same_table}
use Rattle.sq_meaning.specs.Spelled.{cond_of, expr_of, listed, table_of}
use Rattle.sq_meaning.specs.Status as status
use Rattle.sq_meaning.specs.Syntax.{literal, present}
use Rattle.sq_meaning.specs.Tables.{Declared}
use Rattle.sq_meaning.specs.WellFormed.{is_comparable}
use Rattle.sq_meaning.specs.Privilege.{Privilege}
use Rattle.sq_meaning.specs.Schema.{has_name_twice}
use Rattle.sq_meaning.specs.declared.fault.BindingFault.TheVariants as fault
use Rattle.sq_bound.specs.Condition.{PlacedClause}
use Rattle.sq_bound.specs.Expression.{PlacedExpr}
use Rattle.sq_bound.specs.Known.{Under}
use Rattle.sq_binding.specs.Change.{NamedCursor, NamedCursors, NumberedAssignment, NumberedChange, NumberedUpdate, Receiver, assignment_bound, cursor_named, delete_bound, each_column, new_value_bound, positioned_bound, reading, receiver_named, rows_bound, update_bound, update_parts, with_reading}
use Rattle.sq_binding.specs.Changeable.{ChangedTable, NumberedTarget, UserNames, changed_table, condition_bound, item_at_leaf, outside, target_over}
use Rattle.sq_binding.specs.Condition.{must_agree}
use Rattle.sq_binding.specs.Found.{Binding, Counts, Found, ◌>>=◌, ◌>>◌, has_found, must, outcome, pure}
use Rattle.sq_binding.specs.Numbered.{Numbered, tree_of}
use Rattle.sq_binding.specs.NumberedCondition.{NumberedClause, clause_of}
use Rattle.sq_binding.specs.Outcome as bound_outcome
use Rattle.sq_binding.specs.Outcome.{Outcome, or_fault}
use Rattle.sq_binding.specs.PlacedQuery.{clause_placed, expr_placed}
use Rattle.sq_binding.specs.Select.{Surroundings, of_lines, value}
use Rattle.sq_binding.specs.Whole.{at_first, needed, permitted, whole}
use Rattle.sq_binding.proofs.Faultless.Clean.{steps_of}
use Rattle.sq_binding.proofs.Faultless.CleanExprs.{if_ok}
use Rattle.sq_binding.proofs.Inductions.Parts.{Anything, Binds, IfFound, IsPart, has_found_binds, must_binds, one_binds, outcome_binds, pure_binds, then_any, then_binds, whole_part}
use Rattle.sq_binding.proofs.Placing.PlacedParts.{TypedIs, around, value_binds}
use Rattle.sq_binding.proofs.Placing.PlacedUnion.{ConditionIs, condition_is_placed}

-- ---- a whole that is bound has no set functions

permitted_is : {A : Type 0} (x : Found A) (y : A) → permitted x ≡ Ok y → x.part ≡ y
permitted_is x y is = let e = (if_ok x.findings.lacks_privilege fault.PrivilegeMissing (Ok x.part) y is).1 in let same : x.part ≡ y = cc in same

pub whole_is : {A : Type 0} (P : List PlacedExpr → A → Type 0) (b : Binding A) → Binds false P b → (x : A) → whole b ≡ Ok x → P [] x
whole_is {A} P b h x is =
    let s = steps_of (b at_first) permitted x is in
    let part = subst (IfFound (IsPart false at_first P)) s.first (h at_first) in
    subst (P []) (permitted_is s.step x s.second) (subst (λ (calls : List PlacedExpr). P calls s.step.part) (part.none_forbidden refl) (whole_part false at_first P s.step part))

-- ---- the columns that are named, each once

abbrev pub Along : {A B : Type 0} → (A → B → Type 0) → List A → List B → Type 0
Along P [] [] = ⊤
Along P (x ∷ xs) (y ∷ ys) = P x y × Along P xs ys
Along P _ _ = ⊥

-- what is made of a column that is there
pub record IsMade {A B : Type 0} (t : ChangedTable) (name : Name) (P : Receiver → A → B → Type 0) (x : A) (y : B) : Type 0 where
  pub receiver : Receiver
  pub is_named : receiver_named t name ≡ Ok receiver
  pub is_made : P receiver x y

module _ {A B : Type 0} (allowed : Bool) (t : ChangedTable) (name_of : A → Name) (make : A → Receiver → Binding B) (P : List PlacedExpr → Receiver → A → B → Type 0)
    (made : (x : A) (r : Receiver) → Binds allowed (λ functions y. P functions r x y) (make x r)) where
  abbrev AreMade : List PlacedExpr → List A → List B → Type 0
  AreMade functions xs ys = Along (λ x y. IsMade t (name_of x) (P functions) x y) xs ys

  abbrev IsNamed : A → Receiver → Type 0
  IsNamed x r = receiver_named t (name_of x) ≡ Ok r

  pub columns_bind : (before : List Name) (xs : List A) → Binds allowed (λ functions ys. AreMade functions xs ys) (each_column t name_of make before xs)
  columns_bind before [] = pure_binds allowed (λ functions ys. AreMade functions [] ys) [] (λ functions. tt)
  columns_bind before (x ∷ xs) =
      then_binds allowed (λ functions r. IsNamed x r) (λ functions ys. AreMade functions (x ∷ xs) ys) (outcome (receiver_named t (name_of x)))
      (λ r. must (not (has_name_twice (before ++ name_of x ∷ []))) fault.ColumnTwice >> (make x r >>= λ y. each_column t name_of make (before ++ name_of x ∷ []) xs >>= λ ys. pure (y ∷ ys)))
      (outcome_binds allowed (λ functions r. IsNamed x r) (receiver_named t (name_of x)) (λ r is functions. is))
      (λ r.
      then_any allowed (λ functions ys. IsNamed x r → AreMade functions (x ∷ xs) ys) (must (not (has_name_twice (before ++ name_of x ∷ []))) fault.ColumnTwice)
      (λ _. make x r >>= λ y. each_column t name_of make (before ++ name_of x ∷ []) xs >>= λ ys. pure (y ∷ ys)) (must_binds allowed (not (has_name_twice (before ++ name_of x ∷ []))) fault.ColumnTwice)
      (λ _.
      then_binds allowed (λ functions y. P functions r x y) (λ functions ys. IsNamed x r → AreMade functions (x ∷ xs) ys) (make x r) (λ y. each_column t name_of make (before ++ name_of x ∷ []) xs >>= λ ys. pure (y ∷ ys)) (made x r)
      (λ y.
      one_binds allowed (λ functions ys. AreMade functions xs ys) (λ functions zs. P functions r x y → IsNamed x r → AreMade functions (x ∷ xs) zs) (each_column t name_of make (before ++ name_of x ∷ []) xs) (λ ys. y ∷ ys)
      (columns_bind (before ++ name_of x ∷ []) xs) (λ functions ys rest first is. (record { receiver = r; is_named = is; is_made = first }, rest)))))

-- ---- values

abbrev pub value_placed : Surroundings → NewValue → status.Outcome PlacedExpr
value_placed a (new_value.Expr e) = expr_placed a (expr_of e)
value_placed a new_value.Null = Ok (literal Null)

abbrev pub ValueIs : Surroundings → NewValue → List PlacedExpr → Numbered → Type 0
ValueIs a w functions x = value_placed (around a) w ≡ Ok (tree_of functions x)

pub new_value_is_placed : (a : Surroundings) (k : Kind) (w : NewValue) → Binds a.functions_allowed (ValueIs a w) (new_value_bound a k w)
new_value_is_placed a k (new_value.Expr e) =
    then_binds a.functions_allowed (TypedIs a (expr_of e)) (ValueIs a (new_value.Expr e)) (value a (expr_of e)) (λ x. must_agree x.kind k >> pure x.tree) (value_binds a (expr_of e))
    (λ x.
    then_any a.functions_allowed (λ functions y. TypedIs a (expr_of e) functions x → ValueIs a (new_value.Expr e) functions y) (must_agree x.kind k) (λ _. pure x.tree) (must_binds a.functions_allowed (is_comparable x.kind k) fault.KindMismatch)
    (λ _. pure_binds a.functions_allowed (λ functions y. TypedIs a (expr_of e) functions x → ValueIs a (new_value.Expr e) functions y) x.tree (λ functions h. h)))
new_value_is_placed a k new_value.Null = pure_binds a.functions_allowed (ValueIs a new_value.Null) (Numbered.literal Null) (λ functions. refl)

-- ---- the rows that UPDATE and DELETE change

-- the row of the cursor of this name
pub record IsRowOfCursor (cursors : NamedCursors) (t : ChangedTable) (name : Name) (n : ℕ) (leaf : Under) : Type 0 where
  pub cursor : NamedCursor
  pub is_named : cursor_named cursors name ≡ Ok cursor
  pub number : n ≡ cursor.number
  pub is_under : leaf ≡ t.under.leaf

-- the rows under the table that meet this condition
pub record AreRowsUnder (a : Surroundings) (t : ChangedTable) (x : NumberedTarget) (placed : status.Outcome PlacedClause) : Type 0 where
  pub place : x.table ≡ t.table.place
  pub is_under : x.leaf ≡ t.under.leaf
  pub condition : placed ≡ Ok (clause_of [] x.condition)

module _ (names : UserNames) (a : Surroundings) (cursors : NamedCursors) (t : ChangedTable) where
  abbrev pub RowsAre : Option Where → NumberedChange → Type 0
  RowsAre None (NumberedChange.searched x) = x ≡ target_over t NumberedClause.absent
  RowsAre (Some (rows_where.Condition c)) (NumberedChange.searched x) = AreRowsUnder a t x (clause_placed (around (of_lines (item_at_leaf t ∷ []) a)) (present (cond_of names.user c)))
  RowsAre (Some (rows_where.CurrentOf name)) (NumberedChange.positioned n leaf) = IsRowOfCursor cursors t name n leaf
  RowsAre _ _ = ⊥

  position_binds : (allowed : Bool) (name : Name) → Binds allowed (λ functions x. RowsAre (Some (rows_where.CurrentOf name)) x) (positioned_bound cursors t name)
  position_binds allowed name =
      then_binds allowed (λ functions c. cursor_named cursors name ≡ Ok c) (λ functions x. RowsAre (Some (rows_where.CurrentOf name)) x) (outcome (cursor_named cursors name))
      (λ c. outcome (or_fault fault.NotUpdatable c.table) >>= λ over. must (same_table t.reference.table over) fault.NotUpdatable >> pure (NumberedChange.positioned c.number t.under.leaf))
      (outcome_binds allowed (λ functions c. cursor_named cursors name ≡ Ok c) (cursor_named cursors name) (λ c is functions. is))
      (λ c.
      then_any allowed (λ functions x. cursor_named cursors name ≡ Ok c → RowsAre (Some (rows_where.CurrentOf name)) x) (outcome (or_fault fault.NotUpdatable c.table))
      (λ over. must (same_table t.reference.table over) fault.NotUpdatable >> pure (NumberedChange.positioned c.number t.under.leaf))
      (outcome_binds allowed Anything (or_fault fault.NotUpdatable c.table) (λ over is functions. tt))
      (λ over.
      then_any allowed (λ functions x. cursor_named cursors name ≡ Ok c → RowsAre (Some (rows_where.CurrentOf name)) x) (must (same_table t.reference.table over) fault.NotUpdatable)
      (λ _. pure (NumberedChange.positioned c.number t.under.leaf)) (must_binds allowed (same_table t.reference.table over) fault.NotUpdatable)
      (λ _.
      pure_binds allowed (λ functions x. cursor_named cursors name ≡ Ok c → RowsAre (Some (rows_where.CurrentOf name)) x) (NumberedChange.positioned c.number t.under.leaf)
      (λ functions is. record { cursor = c; is_named = is; number = refl; is_under = refl }))))

  pub rows_bind : (allowed : Bool) (target : Option Where) → Binds allowed (λ functions x. RowsAre target x) (rows_bound names a cursors t target)
  rows_bind allowed None = pure_binds allowed (λ functions x. RowsAre None x) (NumberedChange.searched (target_over t NumberedClause.absent)) (λ functions. refl)
  rows_bind allowed (Some (rows_where.Condition c)) =
      one_binds allowed (ConditionIs (clause_placed (around (of_lines (item_at_leaf t ∷ []) a)) (present (cond_of names.user c)))) (λ functions x. RowsAre (Some (rows_where.Condition c)) x)
      (condition_bound a t (present (cond_of names.user c))) (λ condition. NumberedChange.searched (target_over t condition)) (condition_is_placed a allowed t (present (cond_of names.user c)))
      (λ functions condition is. record { place = refl; is_under = refl; condition = is })
  rows_bind allowed (Some (rows_where.CurrentOf name)) = position_binds allowed name

module _ {A : Type 0} (names : UserNames) (t : ChangedTable) (allowed : Bool) (P : List PlacedExpr → A → Type 0) where
  reading_part : (counts : Counts) (o : Outcome (Found A)) → IfFound (IsPart allowed counts P) o → IfFound (IsPart allowed counts P) (bound_outcome.and_then o (λ x. Ok (with_reading names t x)))
  reading_part counts (Ok x) h = record { is_so = h.is_so; none_forbidden = h.none_forbidden }
  reading_part counts (Err f) h = tt

  reading_binds : (b : Binding A) → Binds allowed P b → Binds allowed P (reading names t b)
  reading_binds b h counts = reading_part counts (b counts) (h counts)

-- ---- DELETE

pub record IsDelete (names : UserNames) (a : Surroundings) (cursors : NamedCursors) (d : Delete) (x : NumberedChange) : Type 0 where
  pub changed : ChangedTable
  pub is_changed : changed_table names (table_of names.user d.table) ≡ Ok changed
  pub rows : RowsAre names a cursors changed d.target x

module _ (names : UserNames) (parameters : List Declared) (cursors : NamedCursors) where
  abbrev here : Surroundings
  here = outside names parameters

  abbrev DeleteIs : Delete → List PlacedExpr → NumberedChange → Type 0
  DeleteIs d functions x = IsDelete names here cursors d x

  delete_binds : (d : Delete) → Binds false (DeleteIs d) (delete_bound names parameters cursors d)
  delete_binds d =
      then_binds false (λ functions t. changed_table names (table_of names.user d.table) ≡ Ok t) (DeleteIs d) (outcome (changed_table names (table_of names.user d.table)))
      (λ t. reading names t (rows_bound names here cursors t d.target) >>= λ rows. has_found (needed (names.holds t.reference.table Privilege.delete)) >> pure rows)
      (outcome_binds false (λ functions t. changed_table names (table_of names.user d.table) ≡ Ok t) (changed_table names (table_of names.user d.table)) (λ t is functions. is))
      (λ t.
      then_binds false (λ functions x. RowsAre names here cursors t d.target x) (λ functions x. changed_table names (table_of names.user d.table) ≡ Ok t → DeleteIs d functions x) (reading names t (rows_bound names here cursors t d.target))
      (λ rows. has_found (needed (names.holds t.reference.table Privilege.delete)) >> pure rows)
      (reading_binds names t false (λ functions x. RowsAre names here cursors t d.target x) (rows_bound names here cursors t d.target) (rows_bind names here cursors t false d.target))
      (λ rows.
      then_any false (λ functions x. RowsAre names here cursors t d.target rows → changed_table names (table_of names.user d.table) ≡ Ok t → DeleteIs d functions x) (has_found (needed (names.holds t.reference.table Privilege.delete)))
      (λ _. pure rows) (has_found_binds false (needed (names.holds t.reference.table Privilege.delete)))
      (λ _.
      pure_binds false (λ functions x. RowsAre names here cursors t d.target rows → changed_table names (table_of names.user d.table) ≡ Ok t → DeleteIs d functions x) rows
      (λ functions h is. record { changed = t; is_changed = is; rows = h }))))

  pub delete_is_placed : (d : Delete) (x : NumberedChange) → whole (delete_bound names parameters cursors d) ≡ Ok x → IsDelete names here cursors d x
  delete_is_placed d x is = whole_is (DeleteIs d) (delete_bound names parameters cursors d) (delete_binds d) x is

-- ---- UPDATE

-- the value of a column
abbrev pub SetTo : Surroundings → List PlacedExpr → Receiver → Assignment → NumberedAssignment → Type 0
SetTo a functions r s y = (y.column ≡ r.column) × (value_placed (around a) s.value ≡ Ok (tree_of functions y.value))

pub record IsUpdate (names : UserNames) (a : Surroundings) (cursors : NamedCursors) (u : Update) (functions : List PlacedExpr) (x : NumberedUpdate) : Type 0 where
  pub changed : ChangedTable
  pub is_changed : changed_table names (table_of names.user u.table) ≡ Ok changed
  pub rows : RowsAre names a cursors changed u.target x.rows
  pub values : Along (λ (s : Assignment) y. IsMade changed s.column (SetTo (of_lines (item_at_leaf changed ∷ []) a) functions) s y) (listed u.assignments) x.assignments

module _ (names : UserNames) (parameters : List Declared) (cursors : NamedCursors) where
  abbrev at_hand : Surroundings
  at_hand = outside names parameters

  abbrev inner : ChangedTable → Surroundings
  inner t = of_lines (item_at_leaf t ∷ []) at_hand

  set_binds : (t : ChangedTable) (s : Assignment) (r : Receiver) → Binds false (λ functions y. SetTo (inner t) functions r s y) (assignment_bound names at_hand t s r)
  set_binds t s r =
      then_binds false (ValueIs (inner t) s.value) (λ functions y. SetTo (inner t) functions r s y) (new_value_bound (inner t) r.kind s.value)
      (λ x. has_found (needed (names.holds t.reference.table (Privilege.update s.column))) >> pure (record { column = r.column; value = x })) (new_value_is_placed (inner t) r.kind s.value)
      (λ x.
      then_any false (λ functions y. ValueIs (inner t) s.value functions x → SetTo (inner t) functions r s y) (has_found (needed (names.holds t.reference.table (Privilege.update s.column))))
      (λ _. pure (record { column = r.column; value = x })) (has_found_binds false (needed (names.holds t.reference.table (Privilege.update s.column))))
      (λ _. pure_binds false (λ functions y. ValueIs (inner t) s.value functions x → SetTo (inner t) functions r s y) (record { column = r.column; value = x }) (λ functions h. (refl, h))))

  abbrev AreSet : ChangedTable → Update → List PlacedExpr → List NumberedAssignment → Type 0
  AreSet t u functions ys = Along (λ (s : Assignment) y. IsMade t s.column (SetTo (inner t) functions) s y) (listed u.assignments) ys

  parts_bind : (t : ChangedTable) (u : Update) → changed_table names (table_of names.user u.table) ≡ Ok t → Binds false (λ functions x. IsUpdate names at_hand cursors u functions x) (update_parts names at_hand cursors t u)
  parts_bind t u is =
      then_binds false (AreSet t u) (λ functions x. IsUpdate names at_hand cursors u functions x) (each_column t (λ s. s.column) (assignment_bound names at_hand t) [] (listed u.assignments))
      (λ assignments. rows_bound names at_hand cursors t u.target >>= λ rows. pure (record { rows = rows; assignments = assignments }))
      (columns_bind false t (λ (s : Assignment). s.column) (assignment_bound names at_hand t) (λ functions r s y. SetTo (inner t) functions r s y) (set_binds t) [] (listed u.assignments))
      (λ assignments.
      one_binds false (λ functions x. RowsAre names at_hand cursors t u.target x) (λ functions x. AreSet t u functions assignments → IsUpdate names at_hand cursors u functions x) (rows_bound names at_hand cursors t u.target)
      (λ rows. record { rows = rows; assignments = assignments }) (rows_bind names at_hand cursors t false u.target) (λ functions rows h set. record { changed = t; is_changed = is; rows = h; values = set }))

  update_over : (u : Update) (counts : Counts) (o : Outcome ChangedTable) → changed_table names (table_of names.user u.table) ≡ o
      → IfFound (IsPart false counts (λ functions x. IsUpdate names at_hand cursors u functions x)) ((outcome o >>= λ t. reading names t (update_parts names at_hand cursors t u)) counts)
  update_over u counts (Err f) is = tt
  update_over u counts (Ok t) is =
      then_any false (λ functions x. IsUpdate names at_hand cursors u functions x) (outcome (Ok t)) (λ _. reading names t (update_parts names at_hand cursors t u)) (outcome_binds false Anything (Ok t) (λ t is functions. tt))
      (λ _. reading_binds names t false (λ functions x. IsUpdate names at_hand cursors u functions x) (update_parts names at_hand cursors t u) (parts_bind t u is)) counts

  pub update_is_placed : (u : Update) (x : NumberedUpdate) → whole (update_bound names parameters cursors u) ≡ Ok x → IsUpdate names at_hand cursors u [] x
  update_is_placed u x is =
      whole_is (λ functions x. IsUpdate names at_hand cursors u functions x) (update_bound names parameters cursors u) (λ counts. update_over u counts (changed_table names (table_of names.user u.table)) refl) x is
