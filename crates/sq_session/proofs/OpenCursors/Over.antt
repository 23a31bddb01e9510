-- Each cursor goes over what the declared one does.
use Rattle.std.proofs.Common.{if◌then◌else◌, ◌≡◌, ◌<◌, ℕ, zero, suc, Bool, true, false, List, [], ◌∷◌, length, get_or, replicate, slice_index_or, slice_set, Option, refl, ap, subst, arith}
use Rattle.std.proofs.lemmas.Bool.{and_parts, eqb-true}
use Rattle.sq_store.specs.Content.{Content}
use Rattle.sq_bound.specs.Fits.{FitsBody, holds}
use Rattle.sq_bound.specs.declared.names.BaseTable.{BaseTable}
use Rattle.sq_bound.specs.declared.query.CursorBody.{CursorBody}
use Rattle.sq_bound.specs.declared.query.CursorBody.TheVariants as body
use Rattle.sq_module.specs.Program.{CursorsFit}
use Rattle.sq_module.specs.declared.program.DeclaredCursor.{DeclaredCursor}
use Rattle.sq_bound.specs.declared.statement.BoundUpdate.{BoundUpdate}
use Rattle.sq_change.proofs.Changes.Held.{is_there}
use Rattle.sq_session.specs.Cursors.{are_over, go_on, goes_on, is_listed, is_over, is_over_numbers, is_over_table, is_updatable, listed}
use Rattle.sq_session.specs.Kind.{Over, columns_at, columns_of, over_at, over_of}
use Rattle.sq_session.specs.State.{all_closed, off_row}
use Rattle.sq_session.specs.declared.cursor.CursorState.{CursorState}
use Rattle.sq_session.specs.declared.cursor.CursorState.TheVariants as cursor
use Rattle.sq_session.specs.declared.cursor.NumbersCursor.{NumbersCursor}
use Rattle.sq_session.specs.declared.walk.WalkingCursor.{WalkingCursor}
use Rattle.sq_session.proofs.Lasting.Holding.{HasColumns, none, query_over}

-- ---- one cursor

-- a declared cursor that is open over numbers, or walked, is updatable
pub numbers_updatable : (o : Over) (c : NumbersCursor) → is_over o (cursor.Numbers c) ≡ true → is_updatable o ≡ true
numbers_updatable Over.rows c h = none h
numbers_updatable (Over.numbers t) c h = refl
numbers_updatable (Over.walk t) c h = refl

pub walk_updatable : (o : Over) (w : WalkingCursor) → is_over o (cursor.Walking w) ≡ true → is_updatable o ≡ true
walk_updatable Over.rows w h = none h
walk_updatable (Over.numbers t) w h = none h
walk_updatable (Over.walk t) w h = refl

-- what is walked may be gone over by numbers
pub as_numbers : (o : Over) (table : ℕ) → is_over_table o table ≡ true → is_over_numbers o table ≡ true
as_numbers Over.rows table h = none h
as_numbers (Over.numbers t) table h = none h
as_numbers (Over.walk t) table h = h

-- ---- all cursors

none_over : (d : DeclaredCursor) (ds : List DeclaredCursor) {A : Type 0} → are_over (d ∷ ds) [] ≡ true → A
none_over d ds h = none h

some_over : (c : CursorState) (cs : List CursorState) {A : Type 0} → are_over [] (c ∷ cs) ≡ true → A
some_over c cs h = none h

first_over : (d : DeclaredCursor) (ds : List DeclaredCursor) (c : CursorState) (cs : List CursorState) → are_over (d ∷ ds) (c ∷ cs) ≡ true
    → (is_over (over_of d.cursor.body) c ≡ true) × (are_over ds cs ≡ true)
first_over d ds c cs h = and_parts (is_over (over_of d.cursor.body) c) (are_over ds cs) h

next_over : (d : DeclaredCursor) (ds : List DeclaredCursor) (c : CursorState) (cs : List CursorState) → is_over (over_of d.cursor.body) c ≡ true → are_over ds cs ≡ true
    → are_over (d ∷ ds) (c ∷ cs) ≡ true
next_over d ds c cs h k = rw h k

pub as_many : (ds : List DeclaredCursor) (cs : List CursorState) → are_over ds cs ≡ true → length ds ≡ length cs
as_many [] [] h = refl
as_many [] (c ∷ cs) h = some_over c cs h
as_many (d ∷ ds) [] h = none_over d ds h
as_many (d ∷ ds) (c ∷ cs) h = ap suc (as_many ds cs (first_over d ds c cs h).1)

pub over_there : (ds : List DeclaredCursor) (cs : List CursorState) (i : ℕ) (c : CursorState) → are_over ds cs ≡ true → i < length cs → is_over (over_at ds i) (get_or cs i c) ≡ true
over_there [] [] i c h lt = absurd (omega (arith, lt))
over_there [] (x ∷ xs) i c h lt = some_over x xs h
over_there (d ∷ ds) [] i c h lt = none_over d ds h
over_there (d ∷ ds) (x ∷ xs) zero c h lt = (first_over d ds x xs h).0
over_there (d ∷ ds) (x ∷ xs) (suc i) c h lt = over_there ds xs i c (first_over d ds x xs h).1 (omega (arith, lt))

pub over_here : (ds : List DeclaredCursor) (cs : List CursorState) (i : ℕ) (d : DeclaredCursor) (c : CursorState) → are_over ds cs ≡ true → i < length cs
    → is_over (over_of (get_or ds i d).cursor.body) (get_or cs i c) ≡ true
over_here [] [] i d c h lt = absurd (omega (arith, lt))
over_here [] (x ∷ xs) i d c h lt = some_over x xs h
over_here (y ∷ ds) [] i d c h lt = none_over y ds h
over_here (y ∷ ds) (x ∷ xs) zero d c h lt = (first_over y ds x xs h).0
over_here (y ∷ ds) (x ∷ xs) (suc i) d c h lt = over_here ds xs i d c (first_over y ds x xs h).1 (omega (arith, lt))

-- ---- a cursor that is put in place of another

-- A cursor over what the one before it was over is put in its place.
pub put_like : (ds : List DeclaredCursor) (cs : List CursorState) (i : ℕ) (c e : CursorState) → are_over ds cs ≡ true → slice_index_or cs i cursor.Closed ≡ c
    → ((o : Over) → is_over o c ≡ true → is_over o e ≡ true) → are_over ds (slice_set cs i e) ≡ true
put_like [] [] i c e h at like = h
put_like [] (x ∷ xs) i c e h at like = some_over x xs h
put_like (d ∷ ds) [] i c e h at like = h
put_like (d ∷ ds) (x ∷ xs) zero c e h at like =
    let k = first_over d ds x xs h in
    next_over d ds e xs (like (over_of d.cursor.body) (subst (λ (y : CursorState). is_over (over_of d.cursor.body) y ≡ true) at k.0)) k.1
put_like (d ∷ ds) (x ∷ xs) (suc i) c e h at like =
    let k = first_over d ds x xs h in
    next_over d ds x (slice_set xs i e) k.0 (put_like ds xs i c e k.1 at like)

-- A cursor over what is declared is put in place.
pub put_over : (ds : List DeclaredCursor) (cs : List CursorState) (i : ℕ) (e : CursorState) → are_over ds cs ≡ true → is_over (over_at ds i) e ≡ true → are_over ds (slice_set cs i e) ≡ true
put_over [] [] i e h is = h
put_over [] (x ∷ xs) i e h is = some_over x xs h
put_over (d ∷ ds) [] i e h is = h
put_over (d ∷ ds) (x ∷ xs) zero e h is = next_over d ds e xs is (first_over d ds x xs h).1
put_over (d ∷ ds) (x ∷ xs) (suc i) e h is =
    let k = first_over d ds x xs h in
    next_over d ds x (slice_set xs i e) k.0 (put_over ds xs i e k.1 is)

pub put_closed : (ds : List DeclaredCursor) (cs : List CursorState) (i : ℕ) → are_over ds cs ≡ true → are_over ds (slice_set cs i cursor.Closed) ≡ true
put_closed [] [] i h = h
put_closed [] (x ∷ xs) i h = some_over x xs h
put_closed (d ∷ ds) [] i h = h
put_closed (d ∷ ds) (x ∷ xs) zero h = next_over d ds cursor.Closed xs refl (first_over d ds x xs h).1
put_closed (d ∷ ds) (x ∷ xs) (suc i) h =
    let k = first_over d ds x xs h in
    next_over d ds x (slice_set xs i cursor.Closed) k.0 (put_closed ds xs i k.1)

off_over : (o : Over) (c : CursorState) → is_over o c ≡ true → is_over o (off_row c) ≡ true
off_over o cursor.Closed h = h
off_over o (cursor.Rows c) h = h
off_over o (cursor.Numbers c) h = h
off_over o (cursor.Walking c) h = h

pub put_off : (ds : List DeclaredCursor) (cs : List CursorState) (i : ℕ) → are_over ds cs ≡ true → are_over ds (slice_set cs i (off_row (slice_index_or cs i cursor.Closed))) ≡ true
put_off [] [] i h = h
put_off [] (x ∷ xs) i h = some_over x xs h
put_off (d ∷ ds) [] i h = h
put_off (d ∷ ds) (x ∷ xs) zero h = let k = first_over d ds x xs h in next_over d ds (off_row x) xs (off_over (over_of d.cursor.body) x k.0) k.1
put_off (d ∷ ds) (x ∷ xs) (suc i) h =
    let k = first_over d ds x xs h in
    next_over d ds x (slice_set xs i (off_row (slice_index_or xs i cursor.Closed))) k.0 (put_off ds xs i k.1)

-- ---- all of them

pub closed_over : (ds : List DeclaredCursor) (cs : List CursorState) → are_over ds cs ≡ true → are_over ds (all_closed cs) ≡ true
closed_over [] [] h = refl
closed_over [] (x ∷ xs) h = some_over x xs h
closed_over (d ∷ ds) [] h = none_over d ds h
closed_over (d ∷ ds) (x ∷ xs) h = next_over d ds cursor.Closed (all_closed xs) refl (closed_over ds xs (first_over d ds x xs h).1)

pub start_over : (ds : List DeclaredCursor) → are_over ds (replicate (length ds) cursor.Closed) ≡ true
start_over [] = refl
start_over (d ∷ ds) = next_over d ds cursor.Closed (replicate (length ds) cursor.Closed) refl (start_over ds)

-- a list is over the table that was walked
listed_over : (o : Over) (tables : Content) (d : DeclaredCursor) (w : WalkingCursor) (b : Bool) → is_over o (cursor.Walking w) ≡ true
    → is_over o (if b then cursor.Numbers (listed d tables w) else cursor.Walking w) ≡ true
listed_over o tables d w true h = as_numbers o w.table h
listed_over o tables d w false h = h

goes_on_over : (u : BoundUpdate) (on : Option ℕ) (tables : Content) (o : Over) (d : DeclaredCursor) (c : CursorState) → is_over o c ≡ true → is_over o (goes_on u on tables d c) ≡ true
goes_on_over u on tables o d cursor.Closed h = h
goes_on_over u on tables o d (cursor.Rows c) h = h
goes_on_over u on tables o d (cursor.Numbers c) h = h
goes_on_over u on tables o d (cursor.Walking c) h = listed_over o tables d c (is_listed u on d c) h

pub go_on_over : (u : BoundUpdate) (on : Option ℕ) (tables : Content) (es ds : List DeclaredCursor) (cs : List CursorState) → are_over ds cs ≡ true → are_over ds (go_on u on tables es cs) ≡ true
go_on_over u on tables [] ds cs h = h
go_on_over u on tables (e ∷ es) ds [] h = h
go_on_over u on tables (e ∷ es) [] (c ∷ cs) h = some_over c cs h
go_on_over u on tables (e ∷ es) (d ∷ ds) (c ∷ cs) h =
    let k = first_over d ds c cs h in
    next_over d ds (goes_on u on tables e c) (go_on u on tables es cs) (goes_on_over u on tables (over_of d.cursor.body) e c k.0) (go_on_over u on tables es ds cs k.1)

-- ---- the base table under an open cursor

pub over_quiet : (quiet : Bool) (base table : ℕ) → is_over_numbers (if quiet then Over.walk base else Over.numbers base) table ≡ true → base ≡ table
over_quiet true base table h = eqb-true base table h
over_quiet false base table h = eqb-true base table h

body_over : (bases : List BaseTable) (b : CursorBody) (table : ℕ) → FitsBody bases b → is_over_numbers (over_of b) table ≡ true → HasColumns bases table (columns_of b)
body_over bases (body.Rows q order) table fits h = none h
body_over bases (body.Updatable q) table fits h =
    subst (λ (p : ℕ). HasColumns bases p q.columns) (over_quiet q.target.is_quiet q.target.base table h) (query_over bases q fits)

-- The table that a cursor walks has the columns that the cursor shows.
table_over : (bases : List BaseTable) (ds : List DeclaredCursor) (i table : ℕ) → CursorsFit bases ds → is_over_numbers (over_at ds i) table ≡ true → HasColumns bases table (columns_at ds i)
table_over bases [] i table fit h = none h
table_over bases (d ∷ ds) zero table fit h = body_over bases d.cursor.body table fit.0 h
table_over bases (d ∷ ds) (suc i) table fit h = table_over bases ds i table fit.1 h

pub numbers_over : (bases : List BaseTable) (ds : List DeclaredCursor) (i : ℕ) (c : NumbersCursor) → CursorsFit bases ds → is_over (over_at ds i) (cursor.Numbers c) ≡ true → HasColumns bases c.table (columns_at ds i)
numbers_over bases ds i c fit h = table_over bases ds i c.table fit h

pub walk_over : (bases : List BaseTable) (ds : List DeclaredCursor) (i : ℕ) (w : WalkingCursor) → CursorsFit bases ds → is_over (over_at ds i) (cursor.Walking w) ≡ true → HasColumns bases w.table (columns_at ds i)
walk_over bases ds i w fit h = table_over bases ds i w.table fit (as_numbers (over_at ds i) w.table h)

-- The table of a cursor is in a store that has rows for the base tables.
pub numbers_there : (bases : List BaseTable) (tables : Content) (ds : List DeclaredCursor) (i : ℕ) (c : NumbersCursor) → holds bases tables ≡ true → CursorsFit bases ds
    → is_over (over_at ds i) (cursor.Numbers c) ≡ true → c.table < length tables
numbers_there bases tables ds i c held fit h = let t = numbers_over bases ds i c fit h in is_there bases tables c.table t.0 held t.1

pub walk_there : (bases : List BaseTable) (tables : Content) (ds : List DeclaredCursor) (i : ℕ) (w : WalkingCursor) → holds bases tables ≡ true → CursorsFit bases ds
    → is_over (over_at ds i) (cursor.Walking w) ≡ true → w.table < length tables
walk_there bases tables ds i w held fit h = let t = walk_over bases ds i w fit h in is_there bases tables w.table t.0 held t.1
