-- The tables and columns that a statement names exist: the base table under its table, columns of that, and NULL as itself.
use Rattle.std.proofs.Common.{◌≡◌, ℕ, Bool, true, false, List, map, Option, None, Some, Ok, Err, sym, subst}
use Rattle.std.specs.List.{AllByRecursion}
use Rattle.std.specs.Prelude.{Result, IfOk, slice_get, if◌then◌else◌}
use Rattle.sq_meaning.specs.declared.fault.BindingFault.{BindingFault}
use Rattle.sq_meaning.specs.declared.fault.BindingFault.TheVariants.{PrivilegeMissing}
use Rattle.sq_bound.specs.Fits.{IsBase, IsColumnOf, under}
use Rattle.sq_bound.specs.declared.condition.BoundSpecification.{BoundSpecification, out-BoundSpecification}
use Rattle.sq_bound.specs.declared.names.BaseColumn.{BaseColumn}
use Rattle.sq_bound.specs.declared.names.BaseTable.{BaseTable}
use Rattle.sq_bound.specs.declared.names.Leaf.{Leaf}
use Rattle.sq_bound.specs.declared.names.ObjectColumn.{ObjectColumn}
use Rattle.sq_bound.specs.declared.query.Target.{Target}
use Rattle.sq_bound.specs.declared.statement.BoundAssignment.{BoundAssignment}
use Rattle.sq_bound.specs.declared.statement.BoundInsert.{BoundInsert}
use Rattle.sq_bound.specs.declared.statement.BoundStatement.TheVariants as statement
use Rattle.sq_bound.specs.declared.statement.BoundUpdate.{BoundUpdate}
use Rattle.sq_bound.specs.declared.statement.ChangeTarget.{ChangeTarget}
use Rattle.sq_bound.specs.declared.statement.InsertedRows.{InsertedRows}
use Rattle.sq_bound.specs.declared.statement.InsertedRows.TheVariants as inserted
use Rattle.sq_binder.specs.Binds.{broken}
use Rattle.sq_binder.specs.declared.found.Found.{Found}
use Rattle.sq_binder.specs.declared.stop.Stop.{Stop}
use Rattle.sq_binder.specs.declared.changeable.ChangedTable.{ChangedTable}
use Rattle.sq_binding.specs.There.{IsPlain, SourceIsPlain, StatementIsThere}
use Rattle.sq_binder.specs.Insert.{InsertsInto, IsInsertOver}
use Rattle.sq_binder.specs.Needed.{Permits}
use Rattle.sq_binder.specs.Rows.{searched}
use Rattle.sq_binder.specs.Source.{Inserts, column_fault, unless}
use Rattle.sq_binder.specs.Update.{AreAssignmentsOf, IsUpdateOver, updated}
use Rattle.sq_binder.specs.declared.receiver.Receiver.{Receiver}

-- ---- statements over rows of a base table that is there

module _ (bases : List BaseTable) (leaf : Leaf) (base : IsBase bases leaf.table) where
  pub insert_there : (i : BoundInsert) → IsInsertOver leaf i → StatementIsThere bases (statement.Insert i)
  insert_there i is = subst (λ (l : Leaf). IsBase bases l.table × AllByRecursion (IsColumnOf l.table) i.columns × SourceIsPlain i.source) (sym is.0) (base, is.1, is.2)

  pub update_there : (u : BoundUpdate) → IsUpdateOver leaf u → StatementIsThere bases (statement.Update u)
  update_there u is =
      subst (λ (l : Leaf). IsBase bases l.table × AllByRecursion (λ (a : BoundAssignment). IsColumnOf l.table a.column × IsPlain a.value) u.assignments) (sym is.0) (base, is.1)

  pub delete_there : (t : ChangeTarget) → under t ≡ leaf → StatementIsThere bases (statement.Delete t)
  delete_there t is = subst (λ (l : Leaf). IsBase bases l.table) (sym is) base

-- a part, unless a privilege is missing
abbrev permitted_if : {A : Type 0} → A → (lacks : Bool) → Result A Stop
permitted_if part lacks = if lacks then Err (broken PrivilegeMissing) else Ok part

-- what holds of a part holds of what is bound by itself
pub whole_holds : {A : Type 0} (P : A → Type 0) (found : Result (Found A) Stop) (r : Result A Stop) → Permits found r → IfOk found (λ x. P x.part) → IfOk r P
whole_holds {A} P (Ok x) r is h = subst (λ (r : Result A Stop). IfOk r P) (sym is) (by x.brought.findings.lacks_privilege)
  where
    by : (lacks : Bool) → IfOk (permitted_if x.part lacks) P
    by true = tt
    by false = h
whole_holds {A} P (Err stop) r is h = subst (λ (r : Result A Stop). IfOk r P) (sym is) tt

-- ---- INSERT

pub insert_is_over : (t : ChangedTable) (may : Bool) (parts : Result (Found (List Receiver × InsertedRows)) Stop) (r : Result (Found BoundInsert) Stop) → InsertsInto t may parts r → IfOk parts (λ p. SourceIsPlain p.part.1)
    → IfOk r (λ found. IsInsertOver t.under.leaf.now found.part)
insert_is_over t may (Ok p) (Ok i) is h = (is.0, is.2, subst SourceIsPlain (sym is.3) h)
insert_is_over t may (Ok p) (Err stop) is h = tt
insert_is_over t may (Err earlier) (Ok i) is h = absurd is
insert_is_over t may (Err earlier) (Err stop) is h = tt

-- the rows of a query have no values of their own
pub query_is_plain : (receivers : List Receiver) (query : Result (Found BoundSpecification) Stop) (r : Result (Found InsertedRows) Stop) → Inserts receivers query r → IfOk r (λ found. SourceIsPlain found.part)
query_is_plain receivers (Ok q) r is = subst (λ (r : Result (Found InsertedRows) Stop). IfOk r (λ found. SourceIsPlain found.part)) (sym is) (by (column_fault (out-BoundSpecification q.part).columns receivers))
  where
    by : (o : Option BindingFault) → IfOk (unless o (record { part = inserted.Query q.part; brought = q.brought })) (λ (found : Found InsertedRows). SourceIsPlain found.part)
    by None = tt
    by (Some f) = tt
query_is_plain receivers (Err stop) r is = subst (λ (r : Result (Found InsertedRows) Stop). IfOk r (λ found. SourceIsPlain found.part)) (sym is) tt

-- ---- UPDATE and DELETE

pub searched_under : (leaf : Leaf) (r : Result (Found Target) Stop) → IfOk r (λ found. found.part.leaf ≡ leaf) → IfOk (searched r) (λ found. under found.part ≡ leaf)
searched_under leaf (Ok x) is = is
searched_under leaf (Err stop) is = tt

pub update_is_over : (leaf : Leaf) (r : Result (Found (List BoundAssignment × ChangeTarget)) Stop) → IfOk r (λ found. AreAssignmentsOf leaf.table found.part.0) → IfOk r (λ found. under found.part.1 ≡ leaf)
    → IfOk (updated r) (λ found. IsUpdateOver leaf found.part)
update_is_over leaf (Ok x) columns rows = (rows, columns)
update_is_over leaf (Err stop) columns rows = tt

-- a column of the base table at a position
pub object_of : (base found : BaseTable) → found ≡ base → (c : ObjectColumn) (n : ℕ) → c.position ≡ n → slice_get (map (λ (column : BaseColumn). column.domain) found.columns) n ≡ Some c.domain → IsColumnOf base c
object_of base found same c n at is =
    subst (λ (b : BaseTable). slice_get (map (λ (column : BaseColumn). column.domain) b.columns) c.position ≡ Some c.domain) same
    (subst (λ n. slice_get (map (λ (column : BaseColumn). column.domain) found.columns) n ≡ Some c.domain) (sym at) is)
