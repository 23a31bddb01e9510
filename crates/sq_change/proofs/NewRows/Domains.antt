-- Rows whose values are in the domains of their columns.
use Rattle.std.proofs.Common.{◌≡◌, ℕ, zero, suc, ◌<◌, Bool, true, false, nat_eq, not, List, [], ◌∷◌, ◌++◌, length, map, find, Option, None, Some, IfSome, get_or, min, slice_get, slice_set, take, ◌+◌, refl, sym, subst, arith, add-one}
use Rattle.std.specs.Borrow.{Bor}
use Rattle.std.specs.List.{AllByRecursion, AllZip, position}
use Rattle.std.proofs.Math.Seq.{take-length, take-suc}
use Rattle.std.proofs.lemmas.Slice.Zip.{AllZip-long, all_zipped_more}
use Rattle.std.proofs.lemmas.Bool.{eqb-true}
use Rattle.std.proofs.lemmas.List.Quantifiers.{position-Some}
use Rattle.std.proofs.lemmas.List.Elements.{All-from_recursion, All-contains}
use Rattle.sq_value.specs.Domain.{IsInDomain}
use Rattle.sq_value.specs.declared.domain.Domain.{Domain}
use Rattle.sq_value.specs.declared.value.Value.{Value}
use Rattle.sq_store.specs.declared.change.Change.{Change}
use Rattle.sq_store.specs.declared.change.Change.TheVariants.{Insert, Replace, Remove}
use Rattle.sq_store.specs.declared.table.Numbered.{Numbered}
use Rattle.sq_store.specs.declared.table.Table.{Table}
use Rattle.sq_store.specs.Content.{Content, changed, changed_by, row_at, table_at, with_table}
use Rattle.sq_store.proofs.Search.{put}
use Rattle.sq_bound.specs.Fits.{AreInDomains, AreRowsIn, IsBase, IsColumnOf, IsRowIn}
use Rattle.sq_bound.specs.declared.names.BaseColumn.{BaseColumn}
use Rattle.sq_bound.specs.declared.names.BaseTable.{BaseTable}
use Rattle.sq_bound.specs.declared.names.ObjectColumn.{ObjectColumn}
use Rattle.sq_bound.specs.declared.statement.ChangeTarget.{ChangeTarget}
use Rattle.sq_meaning.proofs.AnswerLaws.{all_appended, all_filtered}
use Rattle.sq_change.specs.Changed.{AreRowsPut, Removals}
use Rattle.sq_change.specs.Made.{Seen}
use Rattle.sq_change.specs.Given.{AreStored, IsStoredFor}
use Rattle.sq_change.proofs.NewRows.Storable.{zipped_at}

-- ---- the rows of a table

in_put : (columns : List BaseColumn) (number : ℕ) (row : List Value) (rows : List Numbered) → IsRowIn columns row → AreRowsIn columns rows → AreRowsIn columns (map (put number row) rows)
in_put columns number row [] is h = tt
in_put columns number row (r ∷ rows) is h = (by_test (nat_eq r.number number) refl, in_put columns number row rows is h.1)
  where
    by_test : (b : Bool) → nat_eq r.number number ≡ b → IsRowIn columns (put number row r).row
    by_test true t = rw t is
    by_test false t = rw t h.0

-- rows stay in the domains where the rows that are put in are in them
in_changed_by : (columns : List BaseColumn) (t : Table) (changes : List Change) → AreRowsIn columns t.rows → AreRowsPut columns changes → AreRowsIn columns (changed_by t changes).rows
in_changed_by columns t [] h put = h
in_changed_by columns t (Insert row ∷ changes) h put =
    in_changed_by columns (changed t (Insert row)) changes (all_appended (λ r. IsRowIn columns r.row) t.rows (record { number = t.next; row = row } ∷ []) h (put.0, tt)) put.1
in_changed_by columns t (Replace number row ∷ changes) h put =
    in_changed_by columns (changed t (Replace number row)) changes (in_put columns number row t.rows put.0 h) put.1
in_changed_by columns t (Remove number ∷ changes) h put =
    in_changed_by columns (changed t (Remove number)) changes (all_filtered (λ r. IsRowIn columns r.row) (λ r. not (nat_eq r.number number)) t.rows h) put

found_in : (columns : List BaseColumn) (test : Numbered → Bool) (rows : List Numbered) (f : Numbered) → AreRowsIn columns rows → find test rows ≡ Some f → IsRowIn columns f.row
found_in columns test [] f h e = cc
found_in columns test (r ∷ rows) f h e = by_test (test r) refl (found_in columns test rows f h.1)
  where
    by_test : (b : Bool) → test r ≡ b → (find test rows ≡ Some f → IsRowIn columns f.row) → IsRowIn columns f.row
    by_test true t later = let k : Some r ≡ Some f = rw t at e in let q : r ≡ f = cc in subst (λ (x : Numbered). IsRowIn columns x.row) q h.0
    by_test false t later = later (rw t at e)

-- ---- all tables

rows_at : (bases : List BaseTable) (content : Content) (place : ℕ) (b : BaseTable) → AreInDomains bases content → slice_get bases place ≡ Some b → AreRowsIn b.columns (table_at content place).rows
rows_at [] content place b h e = cc
rows_at (a ∷ bs) [] place b h e = absurd h
rows_at (a ∷ bs) (t ∷ ts) zero b h e = let k : Some a ≡ Some b = e in let q : a ≡ b = cc in subst (λ (x : BaseTable). AreRowsIn x.columns t.rows) q h.0
rows_at (a ∷ bs) (t ∷ ts) (suc place) b h e = rows_at bs ts place b h.1 e

in_with : (bases : List BaseTable) (content : Content) (place : ℕ) (b : BaseTable) (t : Table) → AreInDomains bases content → slice_get bases place ≡ Some b → AreRowsIn b.columns t.rows
    → AreInDomains bases (with_table content place t)
in_with [] content place b t h e k = cc
in_with (a ∷ bs) [] place b t h e k = absurd h
in_with (a ∷ bs) (u ∷ ts) zero b t h e k = let s : Some a ≡ Some b = e in let q : a ≡ b = cc in (subst (λ (x : BaseTable). AreRowsIn x.columns t.rows) (sym q) k, h.1)
in_with (a ∷ bs) (u ∷ ts) (suc place) b t h e k = (h.0, in_with bs ts place b t h.1 e k)

-- a change of a base table leaves all values in the domains of their columns
pub still_in : (bases : List BaseTable) (before after : Content) (b : BaseTable) (changes : List Change) → AreInDomains bases before → IsBase bases b → AreRowsPut b.columns changes
    → after ≡ with_table before b.place (changed_by (table_at before b.place) changes) → AreInDomains bases after
still_in bases before after b changes h e put made =
    subst (λ (c : Content). AreInDomains bases c) (sym made)
    (in_with bases before b.place b (changed_by (table_at before b.place) changes) h e (in_changed_by b.columns (table_at before b.place) changes (rows_at bases before b.place b h e) put))

-- the row under a number
pub row_at_in : (bases : List BaseTable) (content : Content) (b : BaseTable) (number : ℕ) (row : List Value) → AreInDomains bases content → IsBase bases b
    → row_at (table_at content b.place) number ≡ Some (record { number = number; row = row }) → IsRowIn b.columns row
row_at_in bases content b number row h e found = found_in b.columns (λ r. nat_eq r.number number) (table_at content b.place).rows (record { number = number; row = row }) (rows_at bases content b.place b h e) found

-- ---- rows that are put in

pub inserted_in : (columns : List BaseColumn) (changes : List Change) (row : List Value) → AreRowsPut columns changes → IsRowIn columns row → AreRowsPut columns (changes ++ Insert row ∷ [])
inserted_in columns [] row h is = (is, tt)
inserted_in columns (Insert other ∷ changes) row h is = (h.0, inserted_in columns changes row h.1 is)
inserted_in columns (Replace number other ∷ changes) row h is = (h.0, inserted_in columns changes row h.1 is)
inserted_in columns (Remove number ∷ changes) row h is = inserted_in columns changes row h is

pub replaced_in : (columns : List BaseColumn) (changes : List Change) (number : ℕ) (row : List Value) → AreRowsPut columns changes → IsRowIn columns row → AreRowsPut columns (changes ++ Replace number row ∷ [])
replaced_in columns [] number row h is = (is, tt)
replaced_in columns (Insert other ∷ changes) number row h is = (h.0, replaced_in columns changes number row h.1 is)
replaced_in columns (Replace place other ∷ changes) number row h is = (h.0, replaced_in columns changes number row h.1 is)
replaced_in columns (Remove place ∷ changes) number row h is = replaced_in columns changes number row h is

removed_in : (columns : List BaseColumn) (numbers : List ℕ) → AreRowsPut columns (map Remove numbers)
removed_in columns [] = tt
removed_in columns (number ∷ numbers) = removed_in columns numbers

-- DELETE puts no row in
pub removals_in : (s : Seen) (t : ChangeTarget) (on : Option ℕ) (changes : List Change) (columns : List BaseColumn) → Removals s t on changes → AreRowsPut columns changes
removals_in s t on changes columns h = subst (λ (cs : List Change). AreRowsPut columns cs) (sym h.all) (removed_in columns h.numbers)

-- ---- a row with another value in a column

set_in : (columns : List BaseColumn) (row : List Value) (place : ℕ) (d : Domain) (v : Value) → slice_get (map (λ c. c.domain) columns) place ≡ Some d → IsInDomain d v → IsRowIn columns row
    → IsRowIn columns (slice_set row place v)
set_in [] row place d v e is h = cc
set_in (c ∷ columns) [] place d v e is h = absurd h
set_in (c ∷ columns) (w ∷ row) zero d v e is h = let k : Some c.domain ≡ Some d = e in let q : c.domain ≡ d = cc in (subst (λ (x : Domain). IsInDomain x v) (sym q) is, h.1)
set_in (c ∷ columns) (w ∷ row) (suc place) d v e is h = (h.0, set_in columns row place d v e is h.1)

pub assigned_in : (t : BaseTable) (c : ObjectColumn) (row : List Value) (v : Value) → IsColumnOf t c → IsInDomain c.domain v → IsRowIn t.columns row → IsRowIn t.columns (slice_set row c.position v)
assigned_in t c row v e is h = set_in t.columns row c.position c.domain v e is h

-- ---- elements

-- what holds of all holds of the one at a place
pub all_at : {X : Type 0} (P : X → Type 0) (xs : List X) (i : ℕ) (x : X) → AllByRecursion P xs → i < length xs → x ≡ get_or xs i x → P x
all_at P [] i x h lt e = absurd (omega arith)
all_at P (y ∷ ys) zero x h lt e = subst P (sym e) h.0
all_at P (y ∷ ys) (suc i) x h lt e = all_at P ys i x h.1 (omega arith) e

pub all_taken : {X : Type 0} (P : X → Type 0) (n : ℕ) (xs : List X) → AllByRecursion P xs → AllByRecursion P (take n xs)
all_taken P zero xs h = tt
all_taken P (suc n) [] h = tt
all_taken P (suc n) (x ∷ xs) h = (h.0, all_taken P n xs h.1)

pub all_pushed : {X : Type 0} (P : X → Type 0) (xs : List X) (x : X) → AllByRecursion P xs → P x → AllByRecursion P (xs ++ x ∷ [])
all_pushed P xs x h is = all_appended P xs (x ∷ []) h (is, tt)

-- ---- values that are given

there : {X : Type 0} (xs : List X) (i : ℕ) → i < length xs → (x : X) × (x ≡ get_or xs i x)
there [] i lt = absurd (omega arith)
there (y ∷ ys) zero lt = (y, refl)
there (y ∷ ys) (suc i) lt = there ys i (omega arith)

-- the value where the column at a position is listed
stored_where : (columns : List ObjectColumn) (values : List Value) (place i : ℕ) (v : Value) → AreStored columns values → i < length columns → ((d : ObjectColumn) → nat_eq (get_or columns i d).position place ≡ true)
    → v ≡ get_or values i v → IsStoredFor columns place v
stored_where columns values place i v h lt is at =
    let c = there columns i lt in
    let named : nat_eq c.0.position place ≡ true = subst (λ (x : ObjectColumn). nat_eq x.position place ≡ true) (sym c.1) (is c.0) in
    (c.0, (i, lt, sym c.1), eqb-true c.0.position place named, zipped_at (λ d w. IsInDomain d.domain w) columns values i c.0 v h lt c.1 at)

-- there is a value for each column that is listed
pub listed_within : (columns : List ObjectColumn) (values : List Value) (place i : ℕ) → AreStored columns values → position (λ c. nat_eq c.position place) columns ≡ Some i → i < length values
listed_within [] values place i h e = cc
listed_within (c ∷ columns) values place i h e =
    let test : ObjectColumn → Bool = λ x. nat_eq x.position place in
    omega (arith, AllZip-long (λ d w. IsInDomain d.domain w) (c ∷ columns) values h, (position-Some test (c ∷ columns) i c e).0)

pub found_stored : (columns : List ObjectColumn) (values : List Value) (place i : ℕ) (v : Value) → AreStored columns values → position (λ c. nat_eq c.position place) columns ≡ Some i
    → v ≡ get_or values i v → IsStoredFor columns place v
found_stored [] values place i v h e at = cc
found_stored (c ∷ columns) values place i v h e at =
    let test : ObjectColumn → Bool = λ x. nat_eq x.position place in
    stored_where (c ∷ columns) values place i v h (position-Some test (c ∷ columns) i c e).0 (λ d. (position-Some test (c ∷ columns) i d e).1) at

-- one more, for the next of the others
pub zipped_push : {X Y : Type 0} (P : X → Y → Type 0) (xs : List X) (i : ℕ) (ys : List Y) (x : X) (y : Y) → i < length xs → x ≡ get_or xs i x → AllZip P (take i xs) ys → P x y → AllZip P (take (i + 1) xs) (ys ++ y ∷ [])
zipped_push P xs i ys x y lt e h is = rw (add-one, take-suc xs i x lt, ← e) (all_zipped_more P (take i xs) ys x y h is)

-- one more value of a row
pub stored_push : (columns : List ObjectColumn) (i : ℕ) (values : List Value) (c : ObjectColumn) (v : Value) → i < length columns → c ≡ get_or columns i c → AreStored (take i columns) values → IsInDomain c.domain v
    → AreStored (take (i + 1) columns) (values ++ v ∷ [])
stored_push columns i values c v lt e h is = zipped_push (λ d w. IsInDomain d.domain w) columns i values c v lt e h is

-- where the loop over as many other elements has ended
pub stored_all : {X : Type 0} (P : ObjectColumn → X → Type 0) (columns : List ObjectColumn) (xs : List X) (n : ℕ) (values : List Value) → AllZip P columns xs → n ≡ min (length columns) (length xs)
    → AreStored (take n columns) values → AreStored columns values
stored_all P columns xs n values h e stored =
    let all : n ≡ length columns = omega (arith, AllZip-long P columns xs h) in
    subst (λ (cs : List ObjectColumn). AreStored cs values) (take-length columns) (subst (λ k. AreStored (take k columns) values) all stored)

domain_at : (columns : List BaseColumn) (place : ℕ) (column : BaseColumn) (d : Domain) → place < length columns → column ≡ get_or columns place column → slice_get (map (λ c. c.domain) columns) place ≡ Some d → d ≡ column.domain
domain_at [] place column d lt e at = absurd (omega arith)
domain_at (c ∷ columns) zero column d lt e at = let k : Some c.domain ≡ Some d = at in let p : column ≡ c = e in cc
domain_at (c ∷ columns) (suc place) column d lt e at = domain_at columns place column d (omega arith) e at

-- a value that is given for the column at a place is in its domain
pub given_in : (t : BaseTable) (columns : List ObjectColumn) (place : ℕ) (column : BaseColumn) (v : Value) → AllByRecursion (IsColumnOf t) columns → IsStoredFor columns place v → place < length t.columns
    → column ≡ get_or t.columns place column → IsInDomain column.domain v
given_in t columns place column v are h lt e =
    let c = h.0 in
    let is : IsColumnOf t c = All-contains (IsColumnOf t) columns c (All-from_recursion (IsColumnOf t) columns are) h.1 in
    let at : slice_get (map (λ x. x.domain) t.columns) place ≡ Some c.domain = subst (λ (p : ℕ). slice_get (map (λ x. x.domain) t.columns) p ≡ Some c.domain) h.2 is in
    subst (λ (d : Domain). IsInDomain d v) (domain_at t.columns place column c.domain lt e at) h.3

pub given_in_if : (t : BaseTable) (columns : List ObjectColumn) (place : ℕ) (column : BaseColumn) (given : Option (Bor Value)) → AllByRecursion (IsColumnOf t) columns
    → IfSome given (λ v. IsStoredFor columns place v.now) → place < length t.columns → column ≡ get_or t.columns place column → IfSome given (λ v. IsInDomain column.domain v.now)
given_in_if t columns place column None are h lt e = tt
given_in_if t columns place column (Some v) are h lt e = given_in t columns place column v.now are h lt e

-- one more value of a row
one_more : (columns : List BaseColumn) (i : ℕ) (row : List Value) (column : BaseColumn) (v : Value) → i < length columns → column ≡ get_or columns i column → IsRowIn (take i columns) row → IsInDomain column.domain v
    → IsRowIn (take (suc i) columns) (row ++ v ∷ [])
one_more [] i row column v lt e h is = absurd (omega arith)
one_more (c ∷ columns) zero [] column v lt e h is = let p : column ≡ c = e in (subst (λ (x : BaseColumn). IsInDomain x.domain v) p is, tt)
one_more (c ∷ columns) zero (w ∷ row) column v lt e h is = absurd h
one_more (c ∷ columns) (suc i) [] column v lt e h is = absurd h
one_more (c ∷ columns) (suc i) (w ∷ row) column v lt e h is = (h.0, one_more columns i row column v (omega arith) e h.1 is)

pub pushed_in : (columns : List BaseColumn) (i : ℕ) (row : List Value) (column : BaseColumn) (v : Value) → i < length columns → column ≡ get_or columns i column → IsRowIn (take i columns) row → IsInDomain column.domain v
    → IsRowIn (take (i + 1) columns) (row ++ v ∷ [])
pushed_in columns i row column v lt e h is = rw add-one (one_more columns i row column v lt e h is)
