-- What a cursor may come to is what the targets of a FETCH take, and the orientation means a place.
use Rattle.std.proofs.Common.{◌≡◌, ◌<◌, ℕ, zero, suc, Bool, true, false, List, [], ◌∷◌, length, map, nat_eq, find, get_or, slice_get, slice_index_or, Option, Some, None, refl, sym, ◌∙◌, subst, arith}
use Rattle.std.specs.List.{AllByRecursion, AllZip}
use Rattle.std.specs.Option.{option_map}
use Rattle.std.proofs.lemmas.Bool.{and_parts}
use Rattle.sq_lex.specs.declared.name.Name.{Name}
use Rattle.sq_value.specs.Domain.{IsOfKind, kind_of}
use Rattle.sq_value.specs.Key.{in_columns}
use Rattle.sq_value.specs.declared.domain.Kind.{Kind}
use Rattle.sq_value.specs.declared.domain.Kind.TheVariants as kind
use Rattle.sq_value.specs.declared.value.Value.{Value}
use Rattle.sq_value.specs.declared.value.Value.TheVariants as value
use Rattle.sq_store.specs.Content.{Content, row_at, table_at}
use Rattle.sq_store.specs.declared.table.Numbered.{Numbered}
use Rattle.sq_store.specs.declared.table.Table.{Table}
use Rattle.sq_meaning.specs.Status.{and_then, well_formed}
use Rattle.sq_meaning.specs.WellFormed.{Has, HasValue, IsRowOf}
use Rattle.sq_meaning.proofs.KindLaws.{of_its_kind}
use Rattle.sq_meaning.specs.Cursor.{row_at as row_of}
use Rattle.sq_bound.specs.Fits.{AreInDomains, AreRowsIn, FitsBody, IsRowIn}
use Rattle.sq_bound.specs.WellFormed.{IsCursor, IsCursorBody, IsDistance, IsOrientation, TableKinds, TakeKinds, kinds_of_parameters, kinds_of_results}
use Rattle.sq_bound.specs.declared.condition.BoundCond.{BoundCond}
use Rattle.sq_bound.specs.declared.names.BaseColumn.{BaseColumn}
use Rattle.sq_bound.specs.declared.names.BaseTable.{BaseTable}
use Rattle.sq_bound.specs.declared.names.ParameterDesc.{ParameterDesc}
use Rattle.sq_bound.specs.declared.query.CursorBody.{CursorBody}
use Rattle.sq_bound.specs.declared.query.CursorBody.TheVariants as body
use Rattle.sq_bound.specs.declared.query.Target.{Target as Changed}
use Rattle.sq_bound.specs.declared.query.UpdatableQuery.{UpdatableQuery}
use Rattle.sq_bound.specs.declared.statement.BoundFetch.{BoundFetch}
use Rattle.sq_bound.specs.declared.statement.Distance.{Distance}
use Rattle.sq_bound.specs.declared.statement.Distance.TheVariants as distance
use Rattle.sq_bound.specs.declared.statement.FetchOrientation.{FetchOrientation}
use Rattle.sq_bound.specs.declared.statement.FetchOrientation.TheVariants as orientation
use Rattle.sq_bound.specs.declared.statement.Output.{Output as Target}
use Rattle.sq_module.specs.Program.{CursorsAreWellFormed, CursorsFit, kinds_of_cursors}
use Rattle.sq_module.specs.declared.program.DeclaredCursor.{DeclaredCursor}
use Rattle.sq_session.specs.Cursors.{HasKept, HaveKept, are_over, is_over, is_over_numbers}
use Rattle.sq_session.specs.Fetch.{HasNumber, IsFetch, MayTakeFrom, MayTakeShown, MeansPlace, row_on, whole_number}
use Rattle.sq_session.specs.Kind.{Fetching, columns_at, columns_of, conditions_at, fetching, over_of, target_at}
use Rattle.sq_session.specs.Parameter.{AreGiven, IsGiven}
use Rattle.sq_session.specs.Target.{MayTake, MayTakeRows}
use Rattle.sq_session.specs.declared.cursor.CursorState.{CursorState}
use Rattle.sq_session.specs.declared.cursor.CursorState.TheVariants as cursor
use Rattle.sq_session.proofs.Lasting.Holding.{none}
use Rattle.sq_session.proofs.OpenCursors.Over.{as_numbers, over_quiet}
use Rattle.sq_session.proofs.Parameters.Taken.{rows_taken}

-- ---- the place that an orientation means

whole_given : (v : Value) → IsGiven (kind.Num 0) v → HasValue (whole_number v)
whole_given value.Null g = absurd (g.1 refl)
whole_given (value.Num n) g = tt
whole_given (value.Chars t) g = absurd g.0

number_given : (ks : List Kind) (vs : List Value) (p : ℕ) → AreGiven ks vs → slice_get ks p ≡ Some (kind.Num 0) → HasValue (and_then (well_formed (slice_get vs p)) whole_number)
number_given [] vs p g h = cc
number_given (k ∷ ks) [] p g h = absurd g
number_given (k ∷ ks) (v ∷ vs) zero g h = let same : k ≡ kind.Num 0 = cc in whole_given v (subst (λ (x : Kind). IsGiven x v) same g.0)
number_given (k ∷ ks) (v ∷ vs) (suc p) g h = number_given ks vs p g.1 h

distance_given : (ks : List Kind) (vs : List Value) (d : Distance) → AreGiven ks vs → IsDistance ks d → HasNumber vs d
distance_given ks vs (distance.Number n) g h = tt
distance_given ks vs (distance.Parameter p) g h = number_given ks vs p g h

-- while its parameters have values
pub place_meant : (ks : List Kind) (vs : List Value) (o : FetchOrientation) → AreGiven ks vs → IsOrientation ks o → MeansPlace vs o
place_meant ks vs orientation.Next g h = tt
place_meant ks vs orientation.Prior g h = tt
place_meant ks vs orientation.First g h = tt
place_meant ks vs orientation.Last g h = tt
place_meant ks vs (orientation.Absolute d) g h = distance_given ks vs d g h
place_meant ks vs (orientation.Relative d) g h = distance_given ks vs d g h

-- ---- a row of a base table

pub row_kinds : (columns : List BaseColumn) (row : List Value) → IsRowIn columns row → IsRowOf (map (λ (c : BaseColumn). kind_of c.domain) columns) row
row_kinds [] [] h = tt
row_kinds [] (v ∷ row) h = absurd h
row_kinds (c ∷ columns) [] h = absurd h
row_kinds (c ∷ columns) (v ∷ row) h = (of_its_kind c.domain v h.0, row_kinds columns row h.1)

kind_there : (ks : List Kind) (row : List Value) (p : ℕ) (k : Kind) → IsRowOf ks row → slice_get ks p ≡ Some k → IsOfKind k (slice_index_or row p value.Null)
kind_there [] row p k h at = cc
kind_there (x ∷ ks) [] p k h at = absurd h
kind_there (x ∷ ks) (v ∷ row) zero k h at = let same : x ≡ k = cc in subst (λ (y : Kind). IsOfKind y v) same h.0
kind_there (x ∷ ks) (v ∷ row) (suc p) k h at = kind_there ks row p k h.1 at

columns_kinds : (ks : List Kind) (row : List Value) (columns : List ℕ) (kinds : List Kind) → IsRowOf ks row → AllZip (λ p k. slice_get ks p ≡ Some k) columns kinds → IsRowOf kinds (in_columns row columns)
columns_kinds ks row [] [] h at = tt
columns_kinds ks row [] (k ∷ kinds) h at = absurd at
columns_kinds ks row (p ∷ columns) [] h at = absurd at
columns_kinds ks row (p ∷ columns) (k ∷ kinds) h at = (kind_there ks row p k h at.0, columns_kinds ks row columns kinds h at.1)

pub rows_in : (bases : List BaseTable) (tables : Content) (p : ℕ) (b : BaseTable) → AreInDomains bases tables → slice_get bases p ≡ Some b → AreRowsIn b.columns (table_at tables p).rows
rows_in [] tables p b h at = cc
rows_in (x ∷ bases) [] p b h at = absurd h
rows_in (x ∷ bases) (t ∷ ts) zero b h at = let same : x ≡ b = cc in subst (λ (y : BaseTable). AreRowsIn y.columns t.rows) same h.0
rows_in (x ∷ bases) (t ∷ ts) (suc p) b h at = rows_in bases ts p b h.1 at

-- ---- the rows that a cursor may come to

shown_taken : (ps : List ParameterDesc) (ts : List Target) (columns : List BaseColumn) (places : List ℕ) (kinds : List Kind) (rows : List Numbered) → TakeKinds (kinds_of_parameters ps) ts kinds
    → AllZip (λ p k. slice_get (map (λ (c : BaseColumn). kind_of c.domain) columns) p ≡ Some k) places kinds → AreRowsIn columns rows → AllByRecursion (λ r. MayTake ps ts (in_columns r.row places)) rows
shown_taken ps ts columns places kinds [] takes at h = tt
shown_taken ps ts columns places kinds (r ∷ rows) takes at h =
    let of_kinds = columns_kinds (map (λ (c : BaseColumn). kind_of c.domain) columns) r.row places kinds (row_kinds columns r.row h.0) at in
    (record { kinds = kinds; taken = takes; of_kinds = of_kinds }, shown_taken ps ts columns places kinds rows takes at h.1)

-- those of a base table, as an updatable query shows them
query_taken : (columns : TableKinds) (bases : List BaseTable) (tables : Content) (parameters kinds : List Kind) (u : UpdatableQuery) (table : ℕ) (ps : List ParameterDesc) (ts : List Target)
    → AreInDomains bases tables → FitsBody bases (body.Updatable u) → IsCursorBody columns parameters kinds (body.Updatable u) → TakeKinds (kinds_of_parameters ps) ts kinds → u.target.base ≡ table
    → AllByRecursion (λ r. MayTake ps ts (in_columns r.row u.columns)) (table_at tables table).rows
query_taken columns bases tables parameters kinds u table ps ts in_domains fits is takes over =
    let place : u.target.leaf.table.place ≡ table = sym u.target.is_under ∙ over in
    let there : slice_get bases table ≡ Some u.target.leaf.table = subst (λ (p : ℕ). slice_get bases p ≡ Some u.target.leaf.table) place fits.0 in
    shown_taken ps ts u.target.leaf.table.columns u.columns kinds (table_at tables table).rows takes is.1 (rows_in bases tables table u.target.leaf.table in_domains there)

body_taken : (columns : TableKinds) (bases : List BaseTable) (tables : Content) (parameters kinds : List Kind) (b : CursorBody) (table : ℕ) (ps : List ParameterDesc) (ts : List Target)
    → AreInDomains bases tables → FitsBody bases b → IsCursorBody columns parameters kinds b → TakeKinds (kinds_of_parameters ps) ts kinds → is_over_numbers (over_of b) table ≡ true
    → AllByRecursion (λ r. MayTake ps ts (in_columns r.row (columns_of b))) (table_at tables table).rows
body_taken columns bases tables parameters kinds (body.Rows q order) table ps ts in_domains fits is takes over = none over
body_taken columns bases tables parameters kinds (body.Updatable u) table ps ts in_domains fits is takes over =
    query_taken columns bases tables parameters kinds u table ps ts in_domains fits is takes (over_quiet u.target.is_quiet u.target.base table over)

-- those of a cursor
cursor_taken : (columns : TableKinds) (bases : List BaseTable) (tables : Content) (parameters : List Kind) (d : DeclaredCursor) (c : CursorState) (n : ℕ) (o : FetchOrientation) (conditions : List BoundCond) (target : Option Changed) (user : Name)
    (ps : List ParameterDesc) (ts : List Target) → AreInDomains bases tables → FitsBody bases d.cursor.body → IsCursor columns parameters d.cursor → TakeKinds (kinds_of_parameters ps) ts (kinds_of_results d.cursor.columns)
    → is_over (over_of d.cursor.body) c ≡ true → HasKept columns d.cursor c
    → MayTakeFrom (record { cursor = n; orientation = o; columns = columns_of d.cursor.body; conditions = conditions; target = target; user = user; parameters = ps; targets = ts }) tables c
cursor_taken columns bases tables parameters d cursor.Closed n o conditions target user ps ts in_domains fits is takes over has = tt
cursor_taken columns bases tables parameters d (cursor.Rows c) n o conditions target user ps ts in_domains fits is takes over has = rows_taken ps ts (kinds_of_results d.cursor.columns) c.rows takes has
cursor_taken columns bases tables parameters d (cursor.Numbers c) n o conditions target user ps ts in_domains fits is takes over has =
    body_taken columns bases tables parameters (kinds_of_results d.cursor.columns) d.cursor.body c.table ps ts in_domains fits is takes over
cursor_taken columns bases tables parameters d (cursor.Walking c) n o conditions target user ps ts in_domains fits is takes over has =
    body_taken columns bases tables parameters (kinds_of_results d.cursor.columns) d.cursor.body c.table ps ts in_domains fits is takes (as_numbers (over_of d.cursor.body) c.table over)

at_taken : (columns : TableKinds) (bases : List BaseTable) (tables : Content) (ds : List DeclaredCursor) (cs : List CursorState) (i n : ℕ) (o : FetchOrientation) (conditions : List BoundCond) (target : Option Changed) (user : Name)
    (ps : List ParameterDesc) (ts : List Target) (c : CursorState) → AreInDomains bases tables → CursorsFit bases ds → CursorsAreWellFormed columns ds → are_over ds cs ≡ true → HaveKept columns ds cs
    → Has (TakeKinds (kinds_of_parameters ps) ts) (well_formed (slice_get (kinds_of_cursors ds) i)) → i < length cs
    → MayTakeFrom (record { cursor = n; orientation = o; columns = columns_at ds i; conditions = conditions; target = target; user = user; parameters = ps; targets = ts }) tables (get_or cs i c)
at_taken columns bases tables [] cs i n o conditions target user ps ts c in_domains fit are over have takes lt = absurd takes
at_taken columns bases tables (d ∷ ds) [] i n o conditions target user ps ts c in_domains fit are over have takes lt = absurd have
at_taken columns bases tables (d ∷ ds) (x ∷ cs) zero n o conditions target user ps ts c in_domains fit are over have takes lt =
    cursor_taken columns bases tables are.0.0 d x n o conditions target user ps ts in_domains fit.0 are.0.1 takes (and_parts (is_over (over_of d.cursor.body) x) (are_over ds cs) over).0 have.0
at_taken columns bases tables (d ∷ ds) (x ∷ cs) (suc i) n o conditions target user ps ts c in_domains fit are over have takes lt =
    at_taken columns bases tables ds cs i n o conditions target user ps ts c in_domains fit.1 are.1 (and_parts (is_over (over_of d.cursor.body) x) (are_over ds cs) over).1 have.1 takes (omega (arith, lt))

-- those of the cursor that a FETCH names
pub fetched_taken : (columns : TableKinds) (bases : List BaseTable) (tables : Content) (ds : List DeclaredCursor) (cs : List CursorState) (user : Name) (ps : List ParameterDesc) (f : BoundFetch) (c : CursorState)
    → AreInDomains bases tables → CursorsFit bases ds → CursorsAreWellFormed columns ds → are_over ds cs ≡ true → HaveKept columns ds cs
    → IsFetch (kinds_of_cursors ds) (kinds_of_parameters ps) f → f.cursor < length cs → MayTakeFrom (fetching ds user ps f) tables (get_or cs f.cursor c)
fetched_taken columns bases tables ds cs user ps f c in_domains fit are over have asked lt =
    at_taken columns bases tables ds cs f.cursor f.cursor f.orientation (conditions_at ds f.cursor) (target_at ds f.cursor) user ps f.outputs c in_domains fit are over have asked.1 lt

-- ---- a row that it comes to

pub row_taken : (ps : List ParameterDesc) (ts : List Target) (rows : List (List Value)) (place : ℕ) (row : List Value) → MayTakeRows ps ts rows → row_of rows place ≡ Some row → MayTake ps ts row
row_taken ps ts rows zero row may at = cc
row_taken ps ts [] (suc n) row may at = cc
row_taken ps ts (x ∷ rows) (suc zero) row may at = let same : x ≡ row = cc in subst (λ (r : List Value). MayTake ps ts r) same may.0
row_taken ps ts (x ∷ rows) (suc (suc n)) row may at = row_taken ps ts rows (suc n) row may.1 at

found_taken : (ps : List ParameterDesc) (ts : List Target) (columns : List ℕ) (rows : List Numbered) (n : ℕ) (r : Numbered) → AllByRecursion (λ r. MayTake ps ts (in_columns r.row columns)) rows
    → find (λ x. nat_eq x.number n) rows ≡ Some r → MayTake ps ts (in_columns r.row columns)
found_taken ps ts columns [] n r may at = cc
found_taken ps ts columns (x ∷ rows) n r may at = by (nat_eq x.number n) refl (λ later. found_taken ps ts columns rows n r may.1 later)
  where
    by : (b : Bool) → nat_eq x.number n ≡ b → (find (λ y. nat_eq y.number n) rows ≡ Some r → MayTake ps ts (in_columns r.row columns)) → MayTake ps ts (in_columns r.row columns)
    by true t others =
        let first : Some x ≡ Some r = rw t at at in
        let same : x ≡ r = cc in
        subst (λ (y : Numbered). MayTake ps ts (in_columns y.row columns)) same may.0
    by false t others = others (rw t at at)

-- where it shows these columns
pub shown_taken_on : (f : Fetching) (t : Table) (n : ℕ) (columns : List ℕ) (row : List Value) → MayTakeShown f t → f.columns ≡ columns → row_on t (Some n) ≡ Some row
    → MayTake f.parameters f.targets (in_columns row columns)
shown_taken_on f t n columns row may shows on = subst (λ (cs : List ℕ). MayTake f.parameters f.targets (in_columns row cs)) shows (by (row_at t n) refl on)
  where
    by : (o : Option Numbered) → row_at t n ≡ o → option_map (λ r. r.row) o ≡ Some row → MayTake f.parameters f.targets (in_columns row f.columns)
    by None e h = cc
    by (Some r) e h =
        let same : r.row ≡ row = cc in
        subst (λ (x : List Value). MayTake f.parameters f.targets (in_columns x f.columns)) same (found_taken f.parameters f.targets f.columns t.rows n r may e)
