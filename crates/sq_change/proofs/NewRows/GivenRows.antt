-- The rows that an insert statement gives (ISO/IEC 9075:1992, 13.8).
use Rattle.std.proofs.Common.{◌≡◌, ◌+◌, ◌-◌, ◌<◌, ◌≤◌, ℕ, true, false, List, [], ◌∷◌, length, nat_le, Ok, Err, arith, refl, ap}
use Rattle.std.proofs.lemmas.Grind.{common_steps}
use Rattle.sq_lex.specs.declared.name.Name.{Name}
use Rattle.sq_value.specs.declared.domain.Kind.{Kind}
use Rattle.sq_value.specs.declared.value.Value.{Value}
use Rattle.sq_store.specs.Change.{rows_put}
use Rattle.sq_store.specs.Content.{Content, table_at}
use Rattle.sq_store.specs.declared.change.Change.{Change}
use Rattle.sq_store.specs.declared.change.Change.TheVariants.{Insert, Replace, Remove}
use Rattle.sq_meaning.specs.Environment.{Row}
use Rattle.sq_meaning.specs.Status.{each}
use Rattle.sq_meaning.specs.declared.status.Status.TheVariants as status
use Rattle.sq_bound.specs.WellFormed.{TableKinds, IsSelect}
use Rattle.sq_bound.specs.declared.condition.BoundSpecification.{BoundSpecification}
use Rattle.sq_bound.specs.declared.names.BaseTable.{BaseTable}
use Rattle.sq_bound.specs.declared.names.ObjectColumn.{ObjectColumn}
use Rattle.sq_bound.specs.declared.statement.BoundInsert.{BoundInsert}
use Rattle.sq_bound.specs.declared.statement.InsertedRows.{InsertedRows}
use Rattle.sq_bound.specs.declared.statement.InsertedRows.TheVariants as source
use Rattle.sq_expression.specs.Fault.{Meets}
use Rattle.sq_expression.specs.declared.fault.Fault.{Fault}
use Rattle.sq_expression.proofs.Expressions.{meets_by}
use Rattle.sq_expression.proofs.Groups.{fails_then}
use Rattle.sq_query.specs.MayRead.{MayRead}
use Rattle.sq_query.specs.Table.{AreMeant}
use Rattle.sq_change.specs.Changed.{are_insertions}
use Rattle.sq_change.specs.Given.{MayGive}
use Rattle.sq_change.specs.Made.{Seen, Shown, numbers_suffice, row_stored, rows_found, rows_given, rows_inserted, rows_made}
use Rattle.sq_change.proofs.NewRows.Storable.{query_well}

-- ---- the source

pub query_ends : (shown : Shown) (s : Seen) (columns : List ObjectColumn) (from : InsertedRows) (q : BoundSpecification) → from ≡ source.Query q → (f : Fault)
    → Meets {A = List Row} (Err f) (rows_found shown s q) → Meets {A = List Row} (Err f) (rows_given shown s columns from)
query_ends shown s columns from q is f failed =
    meets_by {A = List Row} (Err f) _ _ (ap (rows_given shown s columns) is) (fails_then f (rows_found shown s q) (each (row_stored columns)) failed)

-- what holds of the query where it may read some tables holds of these
pub query_on : (bases : List BaseTable) (queries : List BoundSpecification) (columns : TableKinds) (content : Content) (user : Name) (values : List Value)
    (objects : List ObjectColumn) (from : InsertedRows) (q : BoundSpecification) → MayGive bases queries columns content user values objects from → from ≡ source.Query q
    → (P : Shown → Type 0)
    → ((parameters : List Kind) (tables : Shown) → MayRead bases queries columns content user values parameters tables → IsSelect columns parameters [] q → P tables)
    → (shown : Shown) → AreMeant queries content user shown → P shown
query_on bases queries columns content user values objects from q may is P h shown meant =
    let reads : MayRead bases queries columns content user values may.parameters shown
    = record { inputs = may.reads.inputs; there = may.reads.there; in_domains = may.reads.in_domains; meant = meant } in
    h may.parameters shown reads (query_well bases queries columns content user values objects from q may is)

-- ---- row numbers

as_many : (changes : List Change) → are_insertions changes ≡ true → length (rows_put changes) ≡ length changes
as_many [] h = refl
as_many (Insert row ∷ changes) h = omega (arith, as_many changes h)
as_many (Replace number row ∷ changes) h = cc
as_many (Remove number ∷ changes) h = cc

module _ (greatest next : ℕ) (changes : List Change) (all : are_insertions changes ≡ true) where
  pub few_rows : 0 < length changes → length changes ≤ greatest + 1 - next → nat_le (next + length (rows_put changes)) (greatest + 1) ≡ true
  few_rows some few = let fits : next + length (rows_put changes) ≤ greatest + 1 = omega (arith, as_many changes all) in grind (arith, common_steps)

  pub many_rows : greatest + 1 - next < length changes → nat_le (next + length (rows_put changes)) (greatest + 1) ≡ false
  many_rows many = let over : greatest + 1 < next + length (rows_put changes) = omega (arith, as_many changes all) in grind (arith, common_steps)

module _ (shown : Shown) (s : Seen) (greatest : ℕ) (i : BoundInsert) where
  pub inserted_are : (rows : List Row) → rows_made shown s i.leaf.table i.columns i.source ≡ Ok rows → numbers_suffice greatest (table_at s.tables i.leaf.table.place) rows ≡ true
      → rows_inserted shown s greatest i ≡ Ok rows
  inserted_are rows made enough = rw (made, enough) refl

  pub inserted_none : (rows : List Row) → rows_made shown s i.leaf.table i.columns i.source ≡ Ok rows → numbers_suffice greatest (table_at s.tables i.leaf.table.place) rows ≡ false
      → rows_inserted shown s greatest i ≡ Err status.NoRowNumberLeft
  inserted_none rows made enough = rw (made, enough) refl
