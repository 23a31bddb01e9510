-- INSERT is well formed, and is the one that is written (ISO/IEC 9075:1992, 13.8).
use Rattle.std.proofs.Common.{◌≡◌, ◌≤◌, ◌<◌, ◌+◌, ℕ, zero, suc, Bool, true, false, not, List, [], ◌∷◌, length, map, Option, Some, None, Ok, refl, sym, ap, subst, arith, ◌∙◌}
use Rattle.std.proofs.lemmas.Bool.{le-ltb, lt-ltb, ltb-false, ltb-true}
use Rattle.std.proofs.lemmas.Simd.{map-map}
use Rattle.std.specs.List.{AllByRecursion, AllZip, zip}
use Rattle.std.specs.List as list
use Rattle.std.specs.Option.{option_and_then, option_map}
use Rattle.std.specs.Prelude.{◌==◌, find, if◌then◌else◌, nat_lt, slice_get}
use Rattle.sq_lex.specs.declared.name.Name.{Name}
use Rattle.sq_value.specs.Domain.{kind_of}
use Rattle.sq_value.specs.declared.domain.Kind.{Kind}
use Rattle.sq_tree.specs.declared.list.CommaList.{CommaList}
use Rattle.sq_tree.specs.declared.statement.Insert.{Insert}
use Rattle.sq_tree.specs.declared.statement.InsertSource.{InsertSource}
use Rattle.sq_tree.specs.declared.statement.InsertSource.TheVariants as source
use Rattle.sq_tree.specs.declared.statement.NewValue as new_value_tree
use Rattle.sq_tree.specs.declared.statement.NewValue.TheVariants as new_value_variants
use Rattle.sq_meaning.specs.Environment.{TableName, same_name}
use Rattle.sq_meaning.specs.Spelled.{listed, select_of, table_of}
use Rattle.sq_meaning.specs.Status as status
use Rattle.sq_meaning.specs.Syntax as syntax
use Rattle.sq_meaning.specs.WellFormed.{is_comparable}
use Rattle.sq_meaning.specs.Privilege.{Privilege}
use Rattle.sq_meaning.specs.declared.fault.BindingFault.TheVariants as fault
use Rattle.sq_bound.specs.Expression as expression
use Rattle.sq_bound.specs.SetFunction as call
use Rattle.sq_bound.specs.WellFormed as well_formed
use Rattle.sq_bound.specs.Fits.{IsBase, IsColumnOf}
use Rattle.sq_bound.specs.Known.{KnownTable, KnownTables, under_of}
use Rattle.sq_bound.specs.WellFormed.{IsLeaf, IsSource, MayStore, TableKinds, base_kinds, kinds_of_parameters, kinds_of_select}
use Rattle.sq_bound.specs.declared.condition.BoundSpecification.{out-BoundSpecification}
use Rattle.sq_bound.specs.declared.names.BaseTable.{BaseTable}
use Rattle.sq_bound.specs.declared.names.Column.{Column}
use Rattle.sq_bound.specs.declared.names.ObjectColumn.{ObjectColumn}
use Rattle.sq_bound.specs.declared.names.ParameterDesc.{ParameterDesc}
use Rattle.sq_bound.specs.declared.statement.BoundInsert.{BoundInsert}
use Rattle.sq_bound.specs.declared.statement.InsertedRows.{InsertedRows}
use Rattle.sq_bound.specs.declared.statement.InsertedRows.TheVariants as inserted
use Rattle.sq_binding.specs.Change.{NumberedInsert, NumberedSource, Receiver, column_for, insert_bound, itself, receiver_named, receiver_over, receivers_bound, receivers_of, source_bound, value_for}
use Rattle.sq_binding.specs.Changeable as changeable
use Rattle.sq_binding.specs.Select as select_spec
use Rattle.sq_binding.specs.Changeable.{ChangedTable, changed_table}
use Rattle.sq_binding.specs.Condition.{select_bound}
use Rattle.sq_binding.specs.Found.{Binding, Counts, Found, ◌>>=◌, ◌>>◌, after, each, has_found, must, outcome, pure}
use Rattle.sq_binding.specs.NumberedCondition.{NumberedSelect, ResultColumn, columns_of}
use Rattle.sq_binding.specs.Seen.{column_of, numbered_of, select_seen}
use Rattle.sq_binding.specs.Whole.{at_first, needed, permitted, whole}
use Rattle.sq_binding.proofs.Standing.BoundLaws.{select_is_so, select_is_written}
use Rattle.sq_binding.proofs.Faultless.Clean.{steps_of}
use Rattle.sq_binding.proofs.Faultless.CleanConds.{after_of}
use Rattle.sq_binding.proofs.Faultless.CleanExprs.{if_ok}
use Rattle.sq_binding.proofs.Standing.Levels.{MayStandAt}
use Rattle.sq_binding.proofs.Inductions.Parts.{Binds, IfFound, IsPart, pure_binds}
use Rattle.sq_binding.proofs.Placing.PlacedParts as placed_parts
use Rattle.sq_binding.proofs.Placing.PlacedChange.{Along, IsMade, columns_bind}
use Rattle.sq_binding.proofs.Standing.SeenLevels.{columns_seen}
use Rattle.sq_binding.proofs.FaultsFound.UnionFaults.{lengths_equal}
use Rattle.sq_binding.specs.Names.{NamesMean, declared, descriptor_of, leaf_positions, outside}
use Rattle.sq_binding.specs.SeenQuery.{insert_seen, positions_of, source_seen}
use Rattle.sq_binding.specs.There.{SourceIsPlain}
use Rattle.sq_binding.specs.Written as written_spec
use Rattle.sq_binding.specs.Written.{AreInto, IntoTable, IsInsertOf, IsSourceOf, leaf_named}
use Rattle.sq_binding.proofs.WellFormed.Named as named
use Rattle.sq_binding.proofs.WellFormed.Over as over_spec
use Rattle.sq_binding.proofs.WellFormed.Named.{base_is, leaf_stands, names_know}
use Rattle.sq_binding.proofs.WellFormed.NewValues.{IsReceiverOf, passed, receiver_kind, receivers_are, values_are}
use Rattle.sq_binding.proofs.WellFormed.Outputs.{true_is}
use Rattle.sq_binding.proofs.WellFormed.Rows.{changed_is, or_some, outcome_is, part_of, pure_part, stands_under, under_known}
use Rattle.sq_binding.proofs.Placing.Unprivileged.{select_same}

-- ---- a whole that is bound

pub permitted_is : {A : Type 0} (x : Found A) (y : A) → permitted x ≡ Ok y → x.part ≡ y
permitted_is x y is = let e = (if_ok x.findings.lacks_privilege fault.PrivilegeMissing (Ok x.part) y is).1 in let same : x.part ≡ y = cc in same

pub record IsWhole {A : Type 0} (b : Binding A) (y : A) : Type 0 where
  pub found : Found A
  pub is_found : b at_first ≡ Ok found
  pub part : found.part ≡ y

pub whole_of : {A : Type 0} (b : Binding A) (y : A) → whole b ≡ Ok y → IsWhole b y
whole_of b y is = let s = steps_of (b at_first) permitted y is in record { found = s.step; is_found = s.first; part = permitted_is s.step y s.second }

-- a list of any number of set functions
abbrev so_many : ℕ → List expression.PlacedExpr
so_many zero = []
so_many (suc n) = syntax.user ∷ so_many n

they_are : (n : ℕ) → length (so_many n) ≡ n
they_are zero = refl
they_are (suc n) = ap suc (they_are n)

-- ---- the columns that are named

pub found_holds : {A : Type 0} (P : A → Type 0) (test : A → Bool) (xs : List A) (x : A) → AllByRecursion P xs → find test xs ≡ Some x → P x
found_holds P test [] x h e = cc
found_holds {A} P test (y ∷ ys) x h e = by_test (test y) refl (λ e. found_holds P test ys x h.1 e)
  where
    by_test : (b : Bool) → test y ≡ b → (find test ys ≡ Some x → P x) → P x
    by_test true t rest = let here : Some y ≡ Some x = sym (ap (λ b. if b then Some y else find test ys) t) ∙ e in let same : y ≡ x = cc in subst P same h.0
    by_test false t rest = rest (sym (ap (λ b. if b then Some y else find test ys) t) ∙ e)

-- the first that passes, by whether the first one does
first_or_next : (b : Bool) (n many : ℕ) → (if nat_lt (if not b then 1 + n else 0) (suc many) then Some (if not b then 1 + n else 0) else None) ≡ (if b then Some 0 else option_map suc (if nat_lt n many then Some n else None))
first_or_next true n many = ap (λ t. if t then Some 0 else None) (lt-ltb 0 (suc many) (omega arith))
first_or_next false n many = by_test (nat_lt n many) refl
  where
    one : 1 + n ≡ suc n
    one = omega arith

    by_test : (t : Bool) → nat_lt n many ≡ t → (if nat_lt (1 + n) (suc many) then Some (1 + n) else None) ≡ option_map suc (if t then Some n else None)
    by_test true e = let less : n < many = ltb-true n many e in ap (λ t. if t then Some (1 + n) else None) (lt-ltb (1 + n) (suc many) (omega (arith, less))) ∙ ap (λ k. Some k) one
    by_test false e = let more : many ≤ n = ltb-false n many e in ap (λ t. if t then Some (1 + n) else None) (le-ltb (1 + n) (suc many) (omega (arith, more)))

position_turn : {A : Type 0} (test : A → Bool) (x : A) (xs : List A) → list.position test (x ∷ xs) ≡ (if test x then Some 0 else option_map suc (list.position test xs))
position_turn test x xs = first_or_next (test x) (list.position_or_len test xs) (length xs)

next_position : (l : ℕ) (ls : List ℕ) (o : Option ℕ) → option_and_then (slice_get (l ∷ ls)) (option_map suc o) ≡ option_and_then (slice_get ls) o
next_position l ls None = refl
next_position l ls (Some n) = refl

-- the column of the base table that the column of a name is
pub leaf_is_named : (name : Name) (r : Receiver) (columns : List Column) → find (λ (r : Receiver). same_name r.name name) (map receiver_over (zip (leaf_positions columns) (map descriptor_of columns))) ≡ Some r
    → leaf_named columns name ≡ Some r.column
leaf_is_named name r [] e = cc
leaf_is_named name r (c ∷ columns) e = by_test (same_name c.name name) refl (leaf_is_named name r columns)
  where
    others : List Receiver
    others = map receiver_over (zip (leaf_positions columns) (map descriptor_of columns))

    own_column : Receiver
    own_column = receiver_over (c.leaf_column, descriptor_of c)

    by_test : (b : Bool) → same_name c.name name ≡ b → (find (λ (r : Receiver). same_name r.name name) others ≡ Some r → leaf_named columns name ≡ Some r.column) → leaf_named (c ∷ columns) name ≡ Some r.column
    by_test true t rest =
        let here : Some own_column ≡ Some r = sym (ap (λ b. if b then Some own_column else find (λ (r : Receiver). same_name r.name name) others) t) ∙ e in
        let same : own_column ≡ r = cc in
        ap (option_and_then (slice_get (c.leaf_column ∷ leaf_positions columns))) (position_turn (λ (c : Column). same_name c.name name) c columns)
        ∙ ap (λ b. option_and_then (slice_get (c.leaf_column ∷ leaf_positions columns)) (if b then Some 0 else option_map suc (list.position (λ (c : Column). same_name c.name name) columns))) t ∙ ap (λ (r : Receiver). Some r.column) same
    by_test false t rest =
        ap (option_and_then (slice_get (c.leaf_column ∷ leaf_positions columns))) (position_turn (λ (c : Column). same_name c.name name) c columns)
        ∙ ap (λ b. option_and_then (slice_get (c.leaf_column ∷ leaf_positions columns)) (if b then Some 0 else option_map suc (list.position (λ (c : Column). same_name c.name name) columns))) t
        ∙ next_position c.leaf_column (leaf_positions columns) (list.position (λ (c : Column). same_name c.name name) columns)
        ∙ rest (sym (ap (λ b. if b then Some own_column else find (λ (r : Receiver). same_name r.name name) others) t) ∙ e)

all_positions : (columns : List Column) → map (λ (r : Receiver). r.column) (map receiver_over (zip (leaf_positions columns) (map descriptor_of columns))) ≡ leaf_positions columns
all_positions [] = refl
all_positions (c ∷ columns) = ap (λ ns. c.leaf_column ∷ ns) (all_positions columns)

abbrev pub over : List Column → List Receiver
over columns = map receiver_over (zip (leaf_positions columns) (map descriptor_of columns))

-- the columns that get values: those that are listed, or all
abbrev IntoIs : ChangedTable → Option (CommaList Name) → List Receiver → Type 0
IntoIs t None rs = rs ≡ receivers_of t
IntoIs t (Some list) rs = Along (λ (name : Name) (r : Receiver). IsMade t name (λ (found : Receiver) (x : Name) (y : Receiver). y ≡ found) name r) (listed list) rs

into_binds : (t : ChangedTable) (list : Option (CommaList Name)) → Binds false (λ functions rs. IntoIs t list rs) (receivers_bound t list)
into_binds t None = pure_binds false (λ functions rs. IntoIs t None rs) (receivers_of t) (λ functions. refl)
into_binds t (Some list) =
    columns_bind false t (λ (name : Name). name) itself (λ functions (found : Receiver) (x : Name) (y : Receiver). y ≡ found) (λ x r. pure_binds false (λ functions (y : Receiver). y ≡ r) r (λ functions. refl)) [] (listed list)

module _ (own_kinds : List Kind) (columns : List Column) (all : AllByRecursion (λ (c : Column). slice_get own_kinds c.leaf_column ≡ Some c.kind) columns) (t : ChangedTable) (are : receivers_of t ≡ over columns) where
  one_named : (name : Name) (r : Receiver) → receiver_named t name ≡ Ok r → IsReceiverOf own_kinds r × (leaf_named columns name ≡ Some r.column)
  one_named name r is =
      let found : find (λ (r : Receiver). same_name r.name name) (over columns) ≡ Some r
      = ap (find (λ (r : Receiver). same_name r.name name)) (sym are) ∙ or_some fault.UnknownColumn (find (λ (r : Receiver). same_name r.name name) (receivers_of t)) r is in
      (found_holds (IsReceiverOf own_kinds) (λ (r : Receiver). same_name r.name name) (over columns) r (receivers_are own_kinds columns all) found, leaf_is_named name r columns found)

  pub named_is : (name : Name) (r : Receiver) → receiver_named t name ≡ Ok r → IsReceiverOf own_kinds r × (leaf_named columns name ≡ Some r.column)
  named_is name r is = one_named name r is

  listed_are : (names : List Name) (rs : List Receiver) → Along (λ (name : Name) (r : Receiver). IsMade t name (λ (found : Receiver) (x : Name) (y : Receiver). y ≡ found) name r) names rs
      → (objects : List ObjectColumn) → positions_of objects ≡ map (λ (r : Receiver). r.column) rs
      → AllByRecursion (IsReceiverOf own_kinds) rs × AllZip (λ name (c : ObjectColumn). leaf_named columns name ≡ Some c.position) names objects
  listed_are [] [] h [] at = (tt, tt)
  listed_are [] [] h (c ∷ objects) at = cc
  listed_are [] (r ∷ rs) h objects at = absurd h
  listed_are (name ∷ names) [] h objects at = absurd h
  listed_are (name ∷ names) (r ∷ rs) h [] at = cc
  listed_are (name ∷ names) (r ∷ rs) h (c ∷ objects) at =
      let one = one_named name h.0.receiver h.0.is_named in
      let place : c.position ≡ r.column = cc (at) in
      let places : positions_of objects ≡ map (λ (r : Receiver). r.column) rs = cc (at) in
      let rest = listed_are names rs h.1 objects places in
      let same : r ≡ h.0.receiver = h.0.is_made in (
        (subst (IsReceiverOf own_kinds) (sym same) one.0, rest.0),
        (one.1 ∙ ap (λ (r : Receiver). Some r.column) (sym same) ∙ ap Some (sym place), rest.1),
      )

  pub receivers_named : (list : Option (CommaList Name)) (counts : Counts) (x : Found (List Receiver)) → receivers_bound t list counts ≡ Ok x → (objects : List ObjectColumn) → positions_of objects ≡ map (λ (r : Receiver). r.column) x.part
      → AllByRecursion (IsReceiverOf own_kinds) x.part × AreInto columns list objects
  receivers_named None counts x is objects at =
      let rs : x.part ≡ over columns = pure_part (receivers_of t) counts x is ∙ are in
      (subst (AllByRecursion (IsReceiverOf own_kinds)) (sym rs) (receivers_are own_kinds columns all), at ∙ ap (map (λ (r : Receiver). r.column)) rs ∙ all_positions columns)
  receivers_named (Some names) counts x is objects at =
      let part = subst (IfFound (IsPart false counts (λ functions rs. IntoIs t (Some names) rs))) is (into_binds t (Some names) counts) in
      listed_are (listed names) x.part (part.is_so (so_many counts.functions) [] (they_are counts.functions)) objects at

-- what holds of each column of a table holds of those of its columns that get values
module _ (P : Receiver → Type 0) (t : ChangedTable) (all : AllByRecursion P (receivers_of t)) where
  named_holds : (name : Name) (r : Receiver) → receiver_named t name ≡ Ok r → P r
  named_holds name r is =
      found_holds P (λ (r : Receiver). same_name r.name name) (receivers_of t) r all (or_some fault.UnknownColumn (find (λ (r : Receiver). same_name r.name name) (receivers_of t)) r is)

  listed_hold : (names : List Name) (rs : List Receiver) → Along (λ (name : Name) (r : Receiver). IsMade t name (λ (found : Receiver) (x : Name) (y : Receiver). y ≡ found) name r) names rs → AllByRecursion P rs
  listed_hold [] [] h = tt
  listed_hold [] (r ∷ rs) h = absurd h
  listed_hold (name ∷ names) [] h = absurd h
  listed_hold (name ∷ names) (r ∷ rs) h = (subst P (sym h.0.is_made) (named_holds name h.0.receiver h.0.is_named), listed_hold names rs h.1)

  pub receivers_hold : (list : Option (CommaList Name)) (counts : Counts) (x : Found (List Receiver)) → receivers_bound t list counts ≡ Ok x → AllByRecursion P x.part
  receivers_hold None counts x is = subst (AllByRecursion P) (sym (pure_part (receivers_of t) counts x is)) all
  receivers_hold (Some names) counts x is =
      let part = subst (IfFound (IsPart false counts (λ functions rs. IntoIs t (Some names) rs))) is (into_binds t (Some names) counts) in
      listed_hold (listed names) x.part (part.is_so (so_many counts.functions) [] (they_are counts.functions))

pub no_receiver_calls : (t : ChangedTable) (list : Option (CommaList Name)) (counts : Counts) (x : Found (List Receiver)) → receivers_bound t list counts ≡ Ok x → x.calls ≡ []
no_receiver_calls t list counts x is = (subst (IfFound (IsPart false counts (λ functions rs. IntoIs t list rs))) is (into_binds t list counts)).none_forbidden refl

-- ---- the columns of a query

may_store : (b : BaseTable) (cs : List ResultColumn) (rs : List Receiver) (counts : Counts) (x : Found (List (Unit {0}))) → length rs ≡ length cs → each column_for (zip cs rs) counts ≡ Ok x
    → (objects : List ObjectColumn) → positions_of objects ≡ map (λ (r : Receiver). r.column) rs → AllByRecursion (IsColumnOf b) objects → AllByRecursion (IsReceiverOf (base_kinds b)) rs
    → AllZip MayStore objects (map (λ (c : ResultColumn). c.kind) cs)
may_store b [] [] counts x count is [] at columns receivers = tt
may_store b [] [] counts x count is (c ∷ objects) at columns receivers = cc
may_store b [] (r ∷ rs) counts x count is objects at columns receivers = cc
may_store b (k ∷ cs) [] counts x count is objects at columns receivers = cc
may_store b (k ∷ cs) (r ∷ rs) counts x count is [] at columns receivers = cc
may_store b (k ∷ cs) (r ∷ rs) counts x count is (c ∷ objects) at columns receivers =
    let s = after_of (column_for (k, r)) (λ y. each column_for (zip cs rs) >>= λ ys. pure (y ∷ ys)) counts x is in
    let t = after_of (each column_for (zip cs rs)) (λ ys. pure (s.first.part ∷ ys)) (after counts s.first) s.second s.is_second in
    let shorter : length rs ≡ length cs = omega (arith, count) in
    let place : c.position ≡ r.column = cc (at) in
    let places : positions_of objects ≡ map (λ (r : Receiver). r.column) rs = cc (at) in (
      true_is (is_comparable k.kind (kind_of c.domain)) (ap (is_comparable k.kind) (receiver_kind b c r columns.0 receivers.0 place) ∙ passed (is_comparable k.kind r.kind) fault.KindMismatch counts s.first s.is_first),
      may_store b cs rs (after counts s.first) t.first shorter t.is_first objects places columns.1 receivers.1,
    )

-- ---- INSERT

module _ (bases : List BaseTable) (kinds : TableKinds) (known : KnownTables) (mean : NamesMean bases kinds known) (user : Name) (selects grants : TableName → Bool) (holds : TableName → Privilege → Bool) (parameters : List ParameterDesc) where
  abbrev mine : changeable.UserNames
  mine = over_spec.names known user selects grants holds

  abbrev a : select_spec.Surroundings
  a = over_spec.here known user selects grants holds parameters

  outermost : (has_ungrouped : Bool) → MayStandAt kinds [] a.scopes false has_ungrouped
  outermost has_ungrouped = record { are_levels = tt; functions = λ e. cc; reads = refl }

  -- where the rows come from
  source_is : (b : BaseTable) (rs : List Receiver) (s : InsertSource) (counts : Counts) (x : Found NumberedSource) → counts.functions ≡ 0 → source_bound mine a rs s counts ≡ Ok x → (rows : InsertedRows) → source_seen rows ≡ x.part → SourceIsPlain rows
      → (objects : List ObjectColumn) → positions_of objects ≡ map (λ (r : Receiver). r.column) rs → AllByRecursion (IsColumnOf b) objects → AllByRecursion (IsReceiverOf (base_kinds b)) rs
      → IsSource kinds (kinds_of_parameters parameters) objects rows × IsSourceOf (outside known parameters) user s rows
  source_is b rs (source.Values list) counts x first is (inserted.Values es) same plain objects at columns receivers =
      let m = after_of (must (length rs == length (listed list)) fault.CountMismatch) (λ u. each (value_for a) (zip rs (listed list)) >>= λ given. pure (NumberedSource.values given)) counts x is in
      let g = after_of (each (value_for a) (zip rs (listed list))) (λ given. pure (NumberedSource.values given)) (after counts m.first) m.second m.is_second in
      let test = passed (length rs == length (listed list)) fault.CountMismatch counts m.first m.is_first in
      let part : x.part ≡ NumberedSource.values g.first.part = part_of m ∙ part_of g ∙ pure_part (NumberedSource.values g.first.part) (after (after counts m.first) g.first) g.second g.is_second in
      let both : NumberedSource.values (map numbered_of es) ≡ NumberedSource.values g.first.part = same ∙ part in
      let values : map numbered_of es ≡ g.first.part = cc (both) in
      let still : (after counts m.first).functions ≡ 0 = must_first (length rs == length (listed list)) m.first m.is_first in
      let made = values_are kinds parameters a refl refl [] outermost b rs (listed list) (after counts m.first) g.first still (lengths_equal (length rs) (length (listed list)) test) g.is_first es values plain objects at columns receivers in
      (made.0, λ functions. values_bare (listed list) (map (expression.expr_of (map call.call_of functions)) es) (made.1 functions))
    where
      must_first : (test : Bool) (u : Found (Unit {0})) → must test fault.CountMismatch counts ≡ Ok u → (after counts u).functions ≡ 0
      must_first true u e = let none : [] ≡ u.calls = cc in let size : 0 ≡ length u.calls = ap length none in omega (arith, first, size)
      must_first false u e = cc

      value_bare : (w : new_value_tree.NewValue) → written_spec.value_placed (placed_parts.around a) w ≡ written_spec.value_placed (outside known parameters) w
      value_bare (new_value_variants.Expr e) = refl
      value_bare new_value_variants.Null = refl

      values_bare : (ws : List new_value_tree.NewValue) (es : List expression.PlacedExpr) → status.each (written_spec.value_placed (placed_parts.around a)) ws ≡ Ok es → status.each (written_spec.value_placed (outside known parameters)) ws ≡ Ok es
      values_bare ws es e = sym (λ i. status.each (λ w. value_bare w i) ws) ∙ e
  source_is b rs (source.Values list) counts x first is (inserted.Query q) same plain objects at columns receivers =
      let m = after_of (must (length rs == length (listed list)) fault.CountMismatch) (λ u. each (value_for a) (zip rs (listed list)) >>= λ given. pure (NumberedSource.values given)) counts x is in
      let g = after_of (each (value_for a) (zip rs (listed list))) (λ given. pure (NumberedSource.values given)) (after counts m.first) m.second m.is_second in
      let part : x.part ≡ NumberedSource.values g.first.part = part_of m ∙ part_of g ∙ pure_part (NumberedSource.values g.first.part) (after (after counts m.first) g.first) g.second g.is_second in
      absurd (let no : NumberedSource.query (select_seen q) ≡ NumberedSource.values g.first.part = same ∙ part in cc)
  source_is b rs (source.Query q) counts x first is rows same plain objects at columns receivers =
      let s = after_of (select_bound a (select_of user q)) (λ x. must (length rs == length (columns_of x)) fault.CountMismatch >> (each column_for (zip (columns_of x) rs) >> pure (NumberedSource.query x))) counts x is in
      let m = after_of (must (length rs == length (columns_of s.first.part)) fault.CountMismatch) (λ u. each column_for (zip (columns_of s.first.part) rs) >> pure (NumberedSource.query s.first.part)) (after counts s.first) s.second s.is_second in
      let g = after_of (each column_for (zip (columns_of s.first.part) rs)) (λ u. pure (NumberedSource.query s.first.part)) (after (after counts s.first) m.first) m.second m.is_second in
      let test = passed (length rs == length (columns_of s.first.part)) fault.CountMismatch (after counts s.first) m.first m.is_first in
      let part : x.part ≡ NumberedSource.query s.first.part = part_of s ∙ part_of m ∙ part_of g ∙ pure_part (NumberedSource.query s.first.part) (after (after (after counts s.first) m.first) g.first) g.second g.is_second in
      by_rows s.first s.is_first (may_store b (columns_of s.first.part) rs (after (after counts s.first) m.first) g.first (lengths_equal (length rs) (length (columns_of s.first.part)) test) g.is_first objects at columns receivers) rows (same ∙ part)
    where
      by_rows : (y : Found NumberedSelect) → select_bound a (select_of user q) counts ≡ Ok y → AllZip MayStore objects (map (λ (c : ResultColumn). c.kind) (columns_of y.part)) → (rows : InsertedRows) → source_seen rows ≡ NumberedSource.query y.part
          → IsSource kinds (kinds_of_parameters parameters) objects rows × IsSourceOf (outside known parameters) user (source.Query q) rows
      by_rows y is may (inserted.Values es) same = cc
      by_rows y is may (inserted.Query query) same =
          let part : select_seen query ≡ y.part = cc in
          let shown : map (λ (c : ResultColumn). c.kind) (columns_of y.part) ≡ kinds_of_select query =
          ap (λ (s : NumberedSelect). map (λ (c : ResultColumn). c.kind) (columns_of s)) (sym part) ∙ ap (map (λ (c : ResultColumn). c.kind)) (columns_seen query)
          ∙ map-map (λ (c : ResultColumn). c.kind) column_of (out-BoundSpecification query).columns in (
            (
              subst (λ ks. well_formed.IsSelect kinds ks [] query) (named.kinds_of_declared parameters) (select_is_so kinds a counts (select_of user q) y is query part (names_know bases kinds known mean selects grants) tt [] tt),
              subst (AllZip MayStore objects) shown may,
            ),
            sym (select_same known selects grants (select_of user q) (outside known parameters)) ∙ select_is_written kinds a counts (select_of user q) y is query part,
          )

  -- an INSERT that is bound
  pub insert_is : (i : Insert) (insert : BoundInsert) → whole (insert_bound mine (declared parameters) i) ≡ Ok (insert_seen insert) → IsBase bases insert.leaf.table → AllByRecursion (IsColumnOf insert.leaf.table) insert.columns → SourceIsPlain insert.source
      → (IsLeaf kinds insert.leaf × IsSource kinds (kinds_of_parameters parameters) insert.columns insert.source) × IsInsertOf known parameters user i insert
  insert_is i insert is base columns plain =
      let w = whole_of (insert_bound mine (declared parameters) i) (insert_seen insert) is in
      let name : TableName = table_of user i.table in
      let t = after_of (outcome (changed_table mine name))
      (λ t. receivers_bound t i.columns >>= λ rs. source_bound mine a rs i.source >>= λ s. has_found (needed (holds t.reference.table Privilege.insert)) >> pure (record { leaf = t.under.leaf; columns = map (λ (r : Receiver). r.column) rs; source = s })) at_first w.found w.is_found in
      let c : ChangedTable = t.first.part in
      let o = outcome_is (changed_table mine name) at_first t.first t.is_first in
      let counts1 : Counts = after at_first t.first in
      let r = after_of (receivers_bound c i.columns)
      (λ rs. source_bound mine a rs i.source >>= λ s. has_found (needed (holds c.reference.table Privilege.insert)) >> pure (record { leaf = c.under.leaf; columns = map (λ (r : Receiver). r.column) rs; source = s })) counts1 t.second t.is_second in
      let counts2 : Counts = after counts1 r.first in
      let s = after_of (source_bound mine a r.first.part i.source)
      (λ s. has_found (needed (holds c.reference.table Privilege.insert)) >> pure (record { leaf = c.under.leaf; columns = map (λ (r : Receiver). r.column) r.first.part; source = s })) counts2 r.second r.is_second in
      let f = after_of (has_found (needed (holds c.reference.table Privilege.insert))) (λ u. pure (record { leaf = c.under.leaf; columns = map (λ (r : Receiver). r.column) r.first.part; source = s.first.part })) (after counts2 s.first) s.second s.is_second in
      let made : NumberedInsert = record { leaf = c.under.leaf; columns = map (λ (r : Receiver). r.column) r.first.part; source = s.first.part } in
      let same : insert_seen insert ≡ made = sym w.part ∙ part_of t ∙ part_of r ∙ part_of s ∙ part_of f ∙ pure_part made (after (after counts2 s.first) f.first) f.second f.is_second in
      let h = changed_is bases kinds known mean user selects grants holds parameters name c o.0 in
      let under = stands_under bases kinds known mean user selects grants holds parameters name c h in
      let leaf : under_of insert.leaf ≡ h.under = ap (λ (n : NumberedInsert). n.leaf) same ∙ ap (λ (c : ChangedTable). c.under.leaf) h.is_table in
      let at : positions_of insert.columns ≡ map (λ (r : Receiver). r.column) r.first.part = ap (λ (n : NumberedInsert). n.columns) same in
      let table : under.base ≡ insert.leaf.table = base_is bases kinds h.table.columns h.under under insert.leaf leaf base in
      let all = subst (λ (b : BaseTable). AllByRecursion (λ (c : Column). slice_get (base_kinds b) c.leaf_column ≡ Some c.kind) h.table.columns) table under.columns_are in
      let into = receivers_named (base_kinds insert.leaf.table) h.table.columns all c (ap receivers_of h.is_table) i.columns counts1 r.first r.is_first insert.columns at in
      let none1 : length t.first.calls ≡ 0 = ap length o.1 in
      let none2 : length r.first.calls ≡ 0 = ap length (no_receiver_calls c i.columns counts1 r.first r.is_first) in
      let first : counts2.functions ≡ 0 = omega (arith, none1, none2) in
      let rows = source_is insert.leaf.table r.first.part i.source counts2 s.first first s.is_first insert.source (ap (λ (n : NumberedInsert). n.source) same) plain insert.columns at columns into.0 in (
        (leaf_stands bases kinds h.table.columns h.under under insert.leaf leaf base, rows.0),
        record {
          under = under_known bases kinds known mean user selects grants holds parameters name c h (under_of insert.leaf) leaf;
          columns = subst (λ (o : Option KnownTable). IntoTable o i.columns insert.columns) (sym h.is_known) into.1;
          source = rows.1;
        },
      )
