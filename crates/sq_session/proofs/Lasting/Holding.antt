-- Tables that have rows for the base tables.
use Rattle.std.proofs.Common.{◌≡◌, ◌+◌, ◌<◌, ℕ, zero, suc, Bool, true, false, nat_eq, List, [], ◌∷◌, find, length, slice_get, Some, refl, ap, sym, subst, true≢false, arith}
use Rattle.std.proofs.lemmas.Bool.{and_parts, eqb-true, ltb-true}
use Rattle.std.proofs.lemmas.Grind.{common_steps}
use Rattle.std.proofs.lemmas.Slice.Zip.{AllZip-long}
use Rattle.std.specs.List.{enumerate_from, list_all}
use Rattle.std.specs.Prelude.{Vec}
use Rattle.std.specs.declared.alloc.Global.{Global}
use Rattle.sq_value.specs.Domain.{IsInDomain}
use Rattle.sq_value.specs.declared.value.Value.{Value}
use Rattle.sq_store.specs.Content.{Content, empty, no_rows, row_at, table_at}
use Rattle.sq_store.specs.Keys.{keys_of}
use Rattle.sq_store.specs.declared.table.Numbered.{Numbered}
use Rattle.sq_store.specs.declared.table.Table.{Table}
use Rattle.sq_bound.specs.Fits.{AreInDomains, AreRowsIn, FitsQuery, FitsTarget, IsBase, has_its_values, have_width, holds, keys_of_bases, not_nulls_hold}
use Rattle.sq_bound.specs.Names.{are_positions}
use Rattle.sq_bound.specs.declared.names.BaseColumn.{BaseColumn}
use Rattle.sq_bound.specs.declared.names.BaseTable.{BaseTable}
use Rattle.sq_bound.specs.declared.names.Reference.{Reference}
use Rattle.sq_bound.specs.declared.query.Target.{Target}
use Rattle.sq_bound.specs.declared.query.UpdatableQuery.{UpdatableQuery}
use Rattle.sq_bound.specs.declared.statement.ChangeTarget.TheVariants as target
use Rattle.sq_bound.specs.declared.statement.PositionedTarget.{PositionedTarget}
use Rattle.sq_catalog.specs.Catalog.{Catalog}
use Rattle.sq_change.specs.Constraints.{constraints_hold, is_met_in, reference_met_in, references_met}
use Rattle.sq_change.proofs.Changes.Held.{is_there, width_at}

pub none : {A : Type 0} → false ≡ true → A
none h = absurd (true≢false (sym h))

-- ---- tables of a new store

none_hold : (bases : List BaseTable) → AreInDomains bases (no_rows (length bases))
none_hold [] = tt
none_hold (b ∷ bases) = (tt, none_hold bases)

pub no_rows_hold : (bases : List BaseTable) (content : Content) → content ≡ no_rows (length bases) → AreInDomains bases content
no_rows_hold bases content h = subst (λ (c : Content). AreInDomains bases c) (sym h) (none_hold bases)

none_at : (m p : ℕ) → table_at (no_rows m) p ≡ empty
none_at zero p = refl
none_at (suc m) zero = refl
none_at (suc m) (suc p) = none_at m p

-- no row refers to anything
none_referring : (bases all : List BaseTable) (n place : ℕ) → list_all (λ p. list_all (reference_met_in (keys_of_bases all) (no_rows n) p.0) p.1.references) (enumerate_from place bases) ≡ true
none_referring [] all n place = refl
none_referring (b ∷ bases) all n place = grind (arith, common_steps, none_referring bases all n (place + 1), of_table b.references)
  where
    of_table : (rs : List Reference) → list_all (reference_met_in (keys_of_bases all) (no_rows n) place) rs ≡ true
    of_table [] = refl
    of_table (r ∷ rs) =
        let none : reference_met_in (keys_of_bases all) (no_rows n) place r ≡ true = ap (λ (t : Table). list_all (λ (x : Numbered). is_met_in (keys_of_bases all) (no_rows n) r x.row) t.rows) (none_at n place) in
        grind (arith, common_steps, of_table rs)

-- no row lacks a value
none_lacking : (bases : List BaseTable) (n place : ℕ) → list_all (λ p. list_all (λ (x : Numbered). has_its_values p.1 x.row) (table_at (no_rows n) p.0).rows) (enumerate_from place bases) ≡ true
none_lacking [] n place = refl
none_lacking (b ∷ bases) n place =
    let none : list_all (λ (x : Numbered). has_its_values b x.row) (table_at (no_rows n) place).rows ≡ true = ap (λ (t : Table). list_all (λ (x : Numbered). has_its_values b x.row) t.rows) (none_at n place) in
    grind (arith, common_steps, none_lacking bases n (place + 1))

pub no_rows_obey : (bases : List BaseTable) (content : Content) → content ≡ no_rows (length bases) → constraints_hold bases content ≡ true
no_rows_obey bases content h =
    let values : not_nulls_hold bases content ≡ true = rw h (none_lacking bases (length bases) 0) in
    let references : references_met bases content ≡ true = rw h (none_referring bases bases (length bases) 0) in
    rw (values, references) refl

-- ---- values in the domains of their columns

wide_in : (columns : List BaseColumn) (rows : List Numbered) → AreRowsIn columns rows → have_width (length columns) rows ≡ true
wide_in columns [] h = refl
wide_in columns (r ∷ rows) h =
    let wide : length r.row ≡ length columns = AllZip-long (λ (c : BaseColumn) (v : Value). IsInDomain c.domain v) columns r.row h.0 in
    let rest = wide_in columns rows h.1 in
    grind (arith, common_steps)

-- A row whose values are in the domains of its columns has a value for each column of its table.
pub wide_where_in : (bases : List BaseTable) (content : Content) → AreInDomains bases content → holds bases content ≡ true
wide_where_in [] [] h = refl
wide_where_in [] (t ∷ ts) h = absurd h
wide_where_in (b ∷ bases) [] h = absurd h
wide_where_in (b ∷ bases) (t ∷ ts) h = let wide = wide_in b.columns t.rows h.0 in let rest = wide_where_in bases ts h.1 in grind (arith, common_steps)

-- a store that was made for the keys of base tables has as many
pub keys_count : (given : List (Vec (Vec ℕ Global) Global)) (bases : List BaseTable) → keys_of given ≡ keys_of_bases bases → length given ≡ length bases
keys_count [] [] h = refl
keys_count [] (b ∷ bases) h = cc
keys_count (x ∷ given) [] h = cc
keys_count (x ∷ given) (b ∷ bases) h = let rest : keys_of given ≡ keys_of_bases bases = cc in ap suc (keys_count given bases rest)

-- there are as many tables as base tables
pub as_many_tables : (bases : List BaseTable) (tables : Content) → holds bases tables ≡ true → length bases ≡ length tables
as_many_tables [] [] h = refl
as_many_tables [] (t ∷ ts) h = none h
as_many_tables (b ∷ bases) [] h = none h
as_many_tables (b ∷ bases) (t ∷ ts) h = ap suc (as_many_tables bases ts (and_parts (have_width (length b.columns) t.rows) (holds bases ts) h).1)

-- A catalog has as many names of base tables as base tables.
pub as_many_names : (c : Catalog) → length c.bases ≡ length c.tables
as_many_names c = eqb-true (length c.bases) (length c.tables) c.counted

-- ---- the table of a base table

parts : (b : BaseTable) (bases : List BaseTable) (t : Table) (ts : Content) → holds (b ∷ bases) (t ∷ ts) ≡ true → (have_width (length b.columns) t.rows ≡ true) × (holds bases ts ≡ true)
parts b bases t ts h = and_parts (have_width (length b.columns) t.rows) (holds bases ts) h

-- ---- a row of it

found_wide : (w n : ℕ) (rows : List Numbered) (r : Numbered) → have_width w rows ≡ true → find (λ x. nat_eq x.number n) rows ≡ Some r → length r.row ≡ w
found_wide w n [] r h at = cc
found_wide w n (x ∷ rows) r h at = by (nat_eq x.number n) refl (λ later. found_wide w n rows r (and_parts (nat_eq (length x.row) w) (have_width w rows) h).1 later)
  where
    by : (b : Bool) → nat_eq x.number n ≡ b → (find (λ y. nat_eq y.number n) rows ≡ Some r → length r.row ≡ w) → length r.row ≡ w
    by true t others =
        let first : Some x ≡ Some r = rw t at at in
        let same : x ≡ r = cc in
        subst (λ (y : Numbered). length y.row ≡ w) same (eqb-true (length x.row) w (and_parts (nat_eq (length x.row) w) (have_width w rows) h).0)
    by false t others = others (rw t at at)

pub row_wide : (bases : List BaseTable) (tables : Content) (p n : ℕ) (b : BaseTable) (r : Numbered) → holds bases tables ≡ true → slice_get bases p ≡ Some b → row_at (table_at tables p) n ≡ Some r
    → length r.row ≡ length b.columns
row_wide bases tables p n b r h at found = found_wide (length b.columns) n (table_at tables p).rows r (width_at bases tables p b h at) found

-- ---- what an updatable query is over

-- a base table at a place, which has these columns
abbrev pub HasColumns : List BaseTable → ℕ → List ℕ → Type 0
HasColumns bases p columns = (b : BaseTable) × (slice_get bases p ≡ Some b) × (are_positions (length b.columns) columns ≡ true)

pub query_over : (bases : List BaseTable) (q : UpdatableQuery) → FitsQuery bases q → HasColumns bases q.target.base q.columns
query_over bases q fits = (q.target.leaf.table, subst (λ (p : ℕ). slice_get bases p ≡ Some q.target.leaf.table) (sym q.target.is_under) fits.0, fits.1)

-- The base table of a target is there.
pub target_there : (bases : List BaseTable) (tables : Content) (t : Target) → holds bases tables ≡ true → IsBase bases t.leaf.table → t.base < length tables
target_there bases tables t held base = subst (λ (n : ℕ). n < length tables) (sym t.is_under) (is_there bases tables t.leaf.table.place t.leaf.table held base)

-- ---- what a positioned statement is over

pub positioned_there : (bases : List BaseTable) (tables : Content) (cursors : ℕ) (p : PositionedTarget) → holds bases tables ≡ true → FitsTarget bases cursors (target.Positioned p) → p.base < length tables
positioned_there bases tables cursors p held fits = subst (λ (n : ℕ). n < length tables) (sym p.is_under) (is_there bases tables p.leaf.table.place p.leaf.table held fits.0)

pub positioned_cursor : (bases : List BaseTable) (cursors : ℕ) (p : PositionedTarget) → FitsTarget bases cursors (target.Positioned p) → p.cursor < cursors
positioned_cursor bases cursors p fits = ltb-true p.cursor cursors fits.1
