-- The columns of a table are columns of the base table under it.
use Rattle.std.proofs.Common.{◌≡◌, ℕ, zero, suc, ◌+◌, ◌<◌, ◌≤◌, Bool, true, false, ◌&&◌, List, [], ◌∷◌, length, drop, map, get_or, Option, None, Some, Ok, refl, sym, ap, subst, arith, ◌∙◌}
use Rattle.std.proofs.lemmas.Bool.Decides.{nat_tests}
use Rattle.std.proofs.lemmas.List.{drop_all, drop_more}
use Rattle.std.proofs.lemmas.Simd.{map-map}
use Rattle.std.specs.List.{list_all, zip}
use Rattle.std.specs.Prelude.{cond, find, nat_lt}
use Rattle.sq_value.proofs.Truths.{both_left, both_right}
use Rattle.sq_lex.specs.declared.name.Name.{Name}
use Rattle.sq_meaning.specs.Environment.{same_name}
use Rattle.sq_meaning.specs.Tables.{ColumnDescriptor}
use Rattle.sq_meaning.specs.declared.fault.BindingFault.TheVariants as fault
use Rattle.sq_bound.specs.declared.names.Column.{Column}
use Rattle.sq_binding.specs.Change as change
use Rattle.sq_binding.specs.Changeable.{item_at_leaf}
use Rattle.sq_binding.specs.Changeable as changeable
use Rattle.sq_binding.specs.From.{column_over}
use Rattle.sq_binding.specs.Outcome.{and_then, or_fault}
use Rattle.sq_binding.specs.Scope as binding
use Rattle.sq_binder.specs.Scope.{column_of}
use Rattle.sq_binder.specs.declared.column.ItemColumn.{ItemColumn}
use Rattle.sq_binder.specs.Changeable.{changed_of}
use Rattle.sq_binder.specs.declared.changeable.ChangedTable.{ChangedTable}
use Rattle.sq_binding.proofs.WellFormed.Inserts.{found_holds}
use Rattle.sq_binder.specs.Receiver.{AreWithin, named_once, once, receiver_at, receiver_seen}
use Rattle.sq_binder.specs.declared.receiver.Receiver.{Receiver}

with_rest : (a b c : Bool) → (b ≡ true → c ≡ true) → (a && b) ≡ true → (a && c) ≡ true
with_rest true b c f h = f h
with_rest false b c f h = h

is_below : (m n : ℕ) → nat_lt m n ≡ true → m < n
is_below m n e = grind (arith, nat_tests, e)

abbrev as_receiver : binding.ItemColumn → change.Receiver
as_receiver c = record { name = c.name; column = c.position; kind = c.kind }

module _ (n : ℕ) where
  abbrev within : binding.ItemColumn → Bool
  within c = nat_lt c.position n

  all_within : (under : List Column) (columns : List ColumnDescriptor) → list_all (λ c. nat_lt c.leaf_column n) under ≡ true → list_all within (map column_over (zip (map (λ c. c.leaf_column) under) columns)) ≡ true
  all_within [] columns h = λ i. true
  all_within (u ∷ under) [] h = λ i. true
  all_within (u ∷ under) (c ∷ columns) h =
      with_rest (nat_lt u.leaf_column n) (list_all (λ c. nat_lt c.leaf_column n) under) (list_all within (map column_over (zip (map (λ c. c.leaf_column) under) columns))) (all_within under columns) h

  receivers_within : (columns : List binding.ItemColumn) → list_all within columns ≡ true → AreWithin n (map as_receiver columns)
  receivers_within [] h = tt
  receivers_within (c ∷ columns) h =
      (is_below c.position n (both_left (within c) (list_all within columns) h), receivers_within columns (both_right (within c) (list_all within columns) h))

pub table_within : (t : ChangedTable) → AreWithin (length t.under.leaf.now.table.columns) (change.receivers_of (changed_of t))
table_within t =
    let n = length t.under.leaf.now.table.columns in
    subst (AreWithin n) (map-map as_receiver column_over (zip (changed_of t).under.columns (changed_of t).table.columns))
    (receivers_within n (item_at_leaf (changed_of t)).columns (all_within n t.under.columns.now (changed_of t).table.columns t.under.placed))

-- one of some columns
pub one_within : (n : ℕ) (all : List Receiver) (i : ℕ) (receiver : Receiver) → AreWithin n (map receiver_seen all) → i < length all → receiver ≡ get_or all i receiver → receiver.column < n
one_within n [] i receiver h lt at = absurd (omega (arith, lt))
one_within n (r ∷ all) zero receiver h lt at = subst (λ (r : Receiver). r.column < n) (sym at) h.0
one_within n (r ∷ all) (suc i) receiver h lt at = one_within n all i receiver h.1 (omega (arith, lt)) at

-- the column of a name is one of them
pub named_within : (n : ℕ) (all : List change.Receiver) (name : Name) (again : Bool) (r : change.Receiver) → AreWithin n all → named_once all name again ≡ Ok r → r.column < n
named_within n all name again r h is = by (find (λ (r : change.Receiver). same_name r.name name) all) refl is
  where
    kept : (again : Bool) (s : change.Receiver) → s.column < n → once again s ≡ Ok r → r.column < n
    kept true s lt e = cc
    kept false s lt e = let same : s ≡ r = cc in subst (λ (r : change.Receiver). r.column < n) same lt

    by : (o : Option change.Receiver) → find (λ (r : change.Receiver). same_name r.name name) all ≡ o → and_then (or_fault fault.UnknownColumn o) (once again) ≡ Ok r → r.column < n
    by None found e = cc
    by (Some s) found e = kept again s (found_holds (λ (r : change.Receiver). r.column < n) (λ (r : change.Receiver). same_name r.name name) all s h found) e

-- ---- all columns

pub all_seen : (t : changeable.ChangedTable) (columns : List ItemColumn) → map column_of columns ≡ (item_at_leaf t).columns → map receiver_at columns ≡ change.receivers_of t
all_seen t columns are = sym (map-map as_receiver column_of columns) ∙ ap (map as_receiver) are ∙ map-map as_receiver column_over (zip t.under.columns t.table.columns)

-- ---- the first with a name

module _ (name : Name) (all : List Receiver) (i : ℕ) where
  abbrev named : change.Receiver → Bool
  named r = same_name r.name name

  next_left : (receiver : Receiver) → i < length all → receiver ≡ get_or all i receiver
      → find named (map receiver_seen (drop i all)) ≡ cond (same_name receiver.name name) (Some (receiver_seen receiver)) (find named (map receiver_seen (drop (i + 1) all)))
  next_left receiver lt at = ap (λ l. find named (map receiver_seen l)) (drop_more all i receiver lt ∙ ap (λ r. r ∷ drop (i + 1) all) (sym at))

  pub found_next : (receiver : Receiver) → i < length all → receiver ≡ get_or all i receiver → same_name receiver.name name ≡ true → find named (map receiver_seen (drop i all)) ≡ Some (receiver_seen receiver)
  found_next receiver lt at is = next_left receiver lt at ∙ ap (λ b. cond b (Some (receiver_seen receiver)) (find named (map receiver_seen (drop (i + 1) all)))) is

  pub passed_next : (receiver : Receiver) → i < length all → receiver ≡ get_or all i receiver → same_name receiver.name name ≡ false
      → find named (map receiver_seen (drop i all)) ≡ find named (map receiver_seen (drop (i + 1) all))
  passed_next receiver lt at is = next_left receiver lt at ∙ ap (λ b. cond b (Some (receiver_seen receiver)) (find named (map receiver_seen (drop (i + 1) all)))) is

  pub none_left : length all ≤ i → find named (map receiver_seen (drop i all)) ≡ None
  none_left past = ap (λ l. find named (map receiver_seen l)) (drop_all i all past)
