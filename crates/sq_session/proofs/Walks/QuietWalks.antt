-- The conditions of a walk answer no status, and what a declared cursor gives of that.
use Rattle.std.proofs.Common.{◌≡◌, ◌<◌, ◌≤◌, ℕ, zero, suc, Bool, true, false, nat_le, List, [], ◌∷◌, length, get_or, map, slice_get, if◌then◌else◌, Some, Ok, Err, refl, sym, ◌∙◌, subst, arith}
use Rattle.std.proofs.lemmas.Bool.{eqb-true}
use Rattle.std.specs.List.{AllByRecursion}
use Rattle.sq_lex.specs.declared.name.Name.{Name}
use Rattle.sq_value.specs.Domain.{kind_of}
use Rattle.sq_value.specs.declared.truth.Truth.{Truth}
use Rattle.sq_value.specs.declared.truth.Truth.TheVariants as truths
use Rattle.sq_value.specs.declared.value.Value.{Value}
use Rattle.sq_store.specs.Content.{Content, first_among, table_at}
use Rattle.sq_store.specs.declared.table.Numbered.{Numbered}
use Rattle.sq_meaning.specs.Environment.{Row}
use Rattle.sq_meaning.specs.Placed.{by_place}
use Rattle.sq_meaning.specs.Query.{truth}
use Rattle.sq_meaning.specs.Status.{Outcome}
use Rattle.sq_meaning.specs.WellFormed.{HasValue, IsRowOf}
use Rattle.sq_bound.specs.Condition.{cond_of}
use Rattle.sq_bound.specs.Fits.{AreInDomains, AreRowsIn, FitsBody, IsBase}
use Rattle.sq_bound.specs.WellFormed.{TableKinds, base_kinds}
use Rattle.sq_bound.specs.declared.condition.BoundCond.{BoundCond}
use Rattle.sq_bound.specs.declared.names.BaseColumn.{BaseColumn}
use Rattle.sq_bound.specs.declared.names.BaseTable.{BaseTable}
use Rattle.sq_bound.specs.declared.query.BoundCursor.{BoundCursor}
use Rattle.sq_bound.specs.declared.query.CursorBody.{CursorBody}
use Rattle.sq_bound.specs.declared.query.CursorBody.TheVariants as body
use Rattle.sq_bound.specs.declared.query.Target.{Target}
use Rattle.sq_bound.specs.declared.query.UpdatableQuery.{UpdatableQuery}
use Rattle.sq_bound.proofs.QuietRows as quiet
use Rattle.sq_module.specs.Program.{CursorsFit}
use Rattle.sq_module.specs.declared.program.DeclaredCursor.{DeclaredCursor}
use Rattle.sq_expression.specs.Frame.{inputs_of}
use Rattle.sq_query.specs.Row.{outside}
use Rattle.sq_query.specs.Target.{IsChosen, are_true, conditions_of}
use Rattle.sq_query.proofs.Keys.KeyedRows.{both_are, inputs_are}
use Rattle.sq_query.proofs.Targets.QuietTargets.{are_plain}
use Rattle.sq_expression.specs.declared.fault.Failure.{Failure}
use Rattle.sq_expression.specs.declared.fault.Fault.TheVariants as fault
use Rattle.sq_session.specs.Cursors.{HasKept, HasKeptAt, HaveKept, MayKeep, is_over, is_over_table}
use Rattle.sq_session.specs.Kind.{IsDeclaredAt, Over, columns_at, conditions_at, over_at, over_of, over_target, target_at}
use Rattle.sq_session.specs.Walk.{AreRowsUnder, IsQuietWith, is_meant, no_tables}
use Rattle.sq_session.specs.declared.cursor.CursorState.{CursorState}
use Rattle.sq_session.specs.declared.cursor.CursorState.TheVariants as cursor
use Rattle.sq_session.specs.declared.cursor.NumbersCursor.{NumbersCursor}
use Rattle.sq_session.specs.declared.walk.WalkingCursor.{WalkingCursor}
use Rattle.sq_session.proofs.Fetching.Coming.{row_kinds, rows_in}
use Rattle.sq_session.proofs.Lasting.Holding.{none}

-- ---- conditions one after the other

-- Where each condition has a truth value, it is known whether all are true.
truths_known : (test : BoundCond → Outcome Truth) (cs : List BoundCond) → AllByRecursion (λ c. HasValue (test c)) cs → HasValue (are_true test cs)
truths_known test [] h = tt
truths_known test (c ∷ cs) h = by (test c) refl h.0 (truths_known test cs h.1)
  where
    by : (o : Outcome Truth) → test c ≡ o → HasValue o → HasValue (are_true test cs) → HasValue (are_true test (c ∷ cs))
    by (Ok truths.True) e v others = rw e others
    by (Ok truths.Unknown) e v others = rw e tt
    by (Ok truths.False) e v others = rw e tt
    by (Err status) e v others = absurd v

-- ---- a quiet target

known_on_row : (columns : TableKinds) (t : Target) (values : List Value) (user : Name) (row : Row) → IsQuietWith columns t values → IsRowOf (base_kinds t.leaf.table) row
    → HasValue (are_true (λ c. truth (by_place quiet.no_tables) (cond_of [] c) (outside (row ∷ []) values user)) (conditions_of t))
known_on_row columns t values user row q is_row =
    let each = quiet.target_on_row columns q.parameters row (inputs_of values) user (inputs_are q.parameters values q.given) t q.quiet q.is_target is_row in
    truths_known (λ c. truth (by_place quiet.no_tables) (cond_of [] c) (outside (row ∷ []) values user)) (conditions_of t)
    (both_are (λ c. HasValue (truth (by_place quiet.no_tables) (cond_of [] c) (outside (row ∷ []) values user))) t.leaf.conditions t.condition each.0 each.1)

-- A quiet target answers no status on a row of its base table.
pub no_status : (columns : TableKinds) (t : Target) (values : List Value) (user : Name) (row : Row) (f : Failure) → IsQuietWith columns t values → IsRowOf (base_kinds t.leaf.table) row
    → IsChosen (Err (fault.Status f)) (conditions_of t) row values user → ⊥
no_status columns t values user row f q is_row h =
    let ends = h (are_plain t q.quiet) quiet.no_tables in
    rw ends at (known_on_row columns t values user row q is_row)

-- The answer of a quiet target is whether it means the row.
pub meant : (columns : TableKinds) (t : Target) (values : List Value) (user : Name) (number : ℕ) (row : Row) (b : Bool) → IsQuietWith columns t values → IsChosen (Ok b) (conditions_of t) row values user
    → is_meant (conditions_of t) values user (record { number = number; row = row }) ≡ b
meant columns t values user number row b q h = rw (h (are_plain t q.quiet) no_tables) refl

-- ---- rows of its base table

pub found_under : (t : Target) (rows : List Numbered) (number : ℕ) (f : Numbered) → AreRowsUnder t rows → first_among rows number ≡ Some f → IsRowOf (base_kinds t.leaf.table) f.row
found_under t [] number f h e = cc
found_under t (r ∷ rows) number f h e = by (nat_le number r.number) refl (λ later. found_under t rows number f h.1 later)
  where
    by : (b : Bool) → nat_le number r.number ≡ b → (first_among rows number ≡ Some f → IsRowOf (base_kinds t.leaf.table) f.row) → IsRowOf (base_kinds t.leaf.table) f.row
    by true k others = let first : Some r ≡ Some f = rw k at e in let same : r ≡ f = cc in subst (λ (x : Numbered). IsRowOf (base_kinds t.leaf.table) x.row) same h.0
    by false k others = others (rw k at e)

rows_under : (columns : List BaseColumn) (rows : List Numbered) → AreRowsIn columns rows → AllByRecursion (λ r. IsRowOf (map (λ (c : BaseColumn). kind_of c.domain) columns) r.row) rows
rows_under columns [] h = tt
rows_under columns (r ∷ rows) h = (row_kinds columns r.row h.0, rows_under columns rows h.1)

-- The rows of the base table of a target.
pub rows_of_base : (bases : List BaseTable) (tables : Content) (t : Target) (table : ℕ) → AreInDomains bases tables → IsBase bases t.leaf.table → t.base ≡ table → AreRowsUnder t (table_at tables table).rows
rows_of_base bases tables t table in_domains base over =
    let place : t.leaf.table.place ≡ table = sym t.is_under ∙ over in
    let there : slice_get bases table ≡ Some t.leaf.table = subst (λ (p : ℕ). slice_get bases p ≡ Some t.leaf.table) place base in
    rows_under t.leaf.table.columns (table_at tables table).rows (rows_in bases tables table t.leaf.table in_domains there)

pub are_under : (bases : List BaseTable) (tables : Content) (u : UpdatableQuery) (table : ℕ) → AreInDomains bases tables → FitsBody bases (body.Updatable u) → u.target.base ≡ table
    → AreRowsUnder u.target (table_at tables table).rows
are_under bases tables u table in_domains fits over = rows_of_base bases tables u.target table in_domains fits.0 over

-- ---- a cursor that is declared

walks_quietly : (quiet : Bool) (base table : ℕ) → is_over_table (if quiet then Over.walk base else Over.numbers base) table ≡ true → quiet ≡ true
walks_quietly true base table h = refl
walks_quietly false base table h = none h

over_target_of : (b : CursorBody) (u : UpdatableQuery) (table : ℕ) → b ≡ body.Updatable u → is_over_table (over_of b) table ≡ true → is_over_table (over_target u.target) table ≡ true
over_target_of b u table is over = subst (λ (x : CursorBody). is_over_table (over_of x) table ≡ true) is over

-- The target of a walking cursor is quiet with the values that the cursor keeps.
pub quiet_with : (columns : TableKinds) (c : BoundCursor) (u : UpdatableQuery) (values : List Value) (table : ℕ) → c.body ≡ body.Updatable u → MayKeep columns c values
    → is_over_table (over_of c.body) table ≡ true → IsQuietWith columns u.target values
quiet_with columns c u values table is may over =
    let is_cursor = rw is at may.is_cursor in
    record { quiet = walks_quietly u.target.is_quiet u.target.base table (over_target_of c.body u table is over); parameters = may.parameters; is_target = is_cursor.0; given = may.given }

walks_over : (quiet : Bool) (base table : ℕ) → is_over_table (if quiet then Over.walk base else Over.numbers base) table ≡ true → base ≡ table
walks_over true base table h = eqb-true base table h
walks_over false base table h = none h

-- The target of a walking cursor is over the table that is walked.
pub over_that : (c : BoundCursor) (u : UpdatableQuery) (table : ℕ) → c.body ≡ body.Updatable u → is_over_table (over_of c.body) table ≡ true → u.target.base ≡ table
over_that c u table is over = walks_over u.target.is_quiet u.target.base table (over_target_of c.body u table is over)

pub body_fits : (bases : List BaseTable) (ds : List DeclaredCursor) (n : ℕ) (d : DeclaredCursor) → CursorsFit bases ds → slice_get ds n ≡ Some d → FitsBody bases d.cursor.body
body_fits bases [] n d fit at = cc
body_fits bases (x ∷ ds) zero d fit at = let same : x ≡ d = cc in subst (λ (y : DeclaredCursor). FitsBody bases y.cursor.body) same fit.0
body_fits bases (x ∷ ds) (suc n) d fit at = body_fits bases ds n d fit.1 at

pub declared_at : (ds : List DeclaredCursor) (n : ℕ) (d : DeclaredCursor) (u : UpdatableQuery) → slice_get ds n ≡ Some d → d.cursor.body ≡ body.Updatable u → IsDeclaredAt ds n u
declared_at ds n d u at is = record { declared = d; at = at; body_is = is }

pub columns_are : (ds : List DeclaredCursor) (n : ℕ) (u : UpdatableQuery) → IsDeclaredAt ds n u → columns_at ds n ≡ u.columns
columns_are ds n u is = rw (is.at, is.body_is) refl

pub conditions_are : (ds : List DeclaredCursor) (n : ℕ) (u : UpdatableQuery) → IsDeclaredAt ds n u → conditions_at ds n ≡ conditions_of u.target
conditions_are ds n u is = rw (is.at, is.body_is) refl

pub target_is : (ds : List DeclaredCursor) (n : ℕ) (u : UpdatableQuery) → IsDeclaredAt ds n u → target_at ds n ≡ Some u.target
target_is ds n u is = rw (is.at, is.body_is) refl

-- what a cursor keeps, by its number
pub kept_there : (columns : TableKinds) (ds : List DeclaredCursor) (cs : List CursorState) (n : ℕ) (c : CursorState) → HaveKept columns ds cs → n < length cs → HasKeptAt columns ds n (get_or cs n c)
kept_there columns [] [] n c h lt = absurd (omega (arith, lt))
kept_there columns [] (x ∷ cs) n c h lt = absurd h
kept_there columns (d ∷ ds) [] n c h lt = absurd h
kept_there columns (d ∷ ds) (x ∷ cs) zero c h lt = h.0
kept_there columns (d ∷ ds) (x ∷ cs) (suc n) c h lt = kept_there columns ds cs n c h.1 (omega (arith, lt))

pub kept_here : (columns : TableKinds) (ds : List DeclaredCursor) (cs : List CursorState) (n : ℕ) (d : DeclaredCursor) (c : CursorState) → HaveKept columns ds cs → n < length cs
    → HasKept columns (get_or ds n d).cursor (get_or cs n c)
kept_here columns [] [] n d c h lt = absurd (omega (arith, lt))
kept_here columns [] (x ∷ cs) n d c h lt = absurd h
kept_here columns (y ∷ ds) [] n d c h lt = absurd h
kept_here columns (y ∷ ds) (x ∷ cs) zero d c h lt = h.0
kept_here columns (y ∷ ds) (x ∷ cs) (suc n) d c h lt = kept_here columns ds cs n d c h.1 (omega (arith, lt))

-- A cursor over numbers has passed no more numbers than it has.
pub passed_there : (columns : TableKinds) (ds : List DeclaredCursor) (n : ℕ) (c : NumbersCursor) → is_over (over_at ds n) (cursor.Numbers c) ≡ true → HasKeptAt columns ds n (cursor.Numbers c) → c.passed ≤ length c.numbers
passed_there columns [] n c over h = none over
passed_there columns (d ∷ ds) zero c over h = h
passed_there columns (d ∷ ds) (suc n) c over h = passed_there columns ds n c over h

pub fits_here : (bases : List BaseTable) (ds : List DeclaredCursor) (n : ℕ) (d : DeclaredCursor) → CursorsFit bases ds → n < length ds → FitsBody bases (get_or ds n d).cursor.body
fits_here bases [] n d fit lt = absurd (omega (arith, lt))
fits_here bases (x ∷ ds) zero d fit lt = fit.0
fits_here bases (x ∷ ds) (suc n) d fit lt = fits_here bases ds n d fit.1 (omega (arith, lt))

over_declared : (ds : List DeclaredCursor) (n : ℕ) (d : DeclaredCursor) (w : WalkingCursor) → slice_get ds n ≡ Some d → is_over (over_at ds n) (cursor.Walking w) ≡ true → is_over_table (over_of d.cursor.body) w.table ≡ true
over_declared ds n d w at over = rw at at over

pub quiet_at : (columns : TableKinds) (ds : List DeclaredCursor) (n : ℕ) (u : UpdatableQuery) (w : WalkingCursor) → IsDeclaredAt ds n u → HasKeptAt columns ds n (cursor.Walking w)
    → is_over (over_at ds n) (cursor.Walking w) ≡ true → IsQuietWith columns u.target w.values
quiet_at columns ds n u w is kept over =
    quiet_with columns is.declared.cursor u w.values w.table is.body_is (rw is.at at kept) (over_declared ds n is.declared w is.at over)

pub base_at : (ds : List DeclaredCursor) (n : ℕ) (u : UpdatableQuery) (w : WalkingCursor) → IsDeclaredAt ds n u → is_over (over_at ds n) (cursor.Walking w) ≡ true → u.target.base ≡ w.table
base_at ds n u w is over = over_that is.declared.cursor u w.table is.body_is (over_declared ds n is.declared w is.at over)

pub stands_at : (bases : List BaseTable) (ds : List DeclaredCursor) (n : ℕ) (u : UpdatableQuery) → CursorsFit bases ds → IsDeclaredAt ds n u → IsBase bases u.target.leaf.table
stands_at bases ds n u fit is = (subst (λ (b : CursorBody). FitsBody bases b) is.body_is (body_fits bases ds n is.declared fit is.at)).0
