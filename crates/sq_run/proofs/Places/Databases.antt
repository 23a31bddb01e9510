-- In a database whose tables and views are as they are declared, a name means by its place what it means as a name (ISO/IEC
-- 9075:1992, 11.3 and 11.19). By name the rows of a view are those of its query over the tables before it; by place they are those of
-- what its query became, over the tables that a statement reads. Both are the same, view after view.
use Rattle.std.proofs.Common.{◌≡◌, ℕ, suc, cond, Bool, true, false, List, [], ◌∷◌, length, Option, Some, None, refl, sym, ap, subst, ◌∙◌, Ok, Err}
use Rattle.std.specs.Cmp.Lexicographic.{pointwise, same_text}
use Rattle.std.specs.Prelude.{nat_eq, nat_lt, find, slice_get, if◌then◌else◌, IfOk, IfSome}
use Rattle.std.specs.List.{AllByRecursion}
use Rattle.std.proofs.lemmas.Bool.{and_parts}
use Rattle.sq_lex.specs.declared.name.Name.{Name}
use Rattle.sq_value.specs.Domain.{IsOfKind}
use Rattle.sq_value.specs.declared.domain.Kind.{Kind}
use Rattle.sq_store.specs.Content.{Content, table_at}
use Rattle.sq_meaning.specs.Database.{IsBodyOf, IsDatabaseOf}
use Rattle.sq_meaning.specs.Environment.{Item, Row, TableName, TableReference, outermost, same_table}
use Rattle.sq_meaning.specs.Query.{rows}
use Rattle.sq_meaning.specs.Spelled.{Named}
use Rattle.sq_meaning.specs.Status.{Outcome, and_then, well_formed, not_well_formed}
use Rattle.sq_meaning.specs.Syntax.{Select}
use Rattle.sq_meaning.specs.Tables.{TableBody, TableDescriptor, Tables, base_table, viewed_table, by_name, column_kinds, column_names, descriptor_of, item_of, kinds_by_name, reading_by_name, rows_in, table_rows}
use Rattle.sq_meaning.specs.WellFormed.{Answers, AreRowsOf, Fits, Has, HasValue}
use Rattle.sq_meaning.proofs.ReadingKinds.{tables_of_kinds}
use Rattle.sq_bound.specs.Known.{KnownTable, KnownTables}
use Rattle.sq_bound.specs.WellFormed.{TableKinds, kinds_of_columns}
use Rattle.sq_bound.specs.declared.condition.BoundSpecification.{BoundSpecification}
use Rattle.sq_bound.specs.declared.condition.TablePlace.{TablePlace}
use Rattle.sq_bound.specs.declared.condition.TablePlace.TheVariants.{Base, View}
use Rattle.sq_bound.specs.declared.names.Column.{Column}
use Rattle.sq_bound.specs.declared.names.ParameterDesc.{ParameterDesc}
use Rattle.sq_binding.specs.PlacedQuery.{select_placed}
use Rattle.sq_binding.specs.Names.{outside}
use Rattle.sq_binding.specs.Written.{SelectIs}
use Rattle.sq_query.specs.Table.{AreMeant, rows_of_view, stored_rows}
use Rattle.sq_run.proofs.Places.Bound.{view_rows_same}
use Rattle.sq_run.proofs.Places.ColumnKinds.{AreTyped, HasKinds}
use Rattle.sq_run.proofs.Places.FromClauses.{MeansSame, SelectReads, select_becomes, select_reads}
use Rattle.sq_run.proofs.Places.Items.{IsFit, IsKnownAs, names_of_columns}
use Rattle.sq_run.proofs.Places.Outcomes.{same_length, some_also}
use Rattle.sq_run.proofs.Places.Setting.{Setting}
use Rattle.sq_run.proofs.Sites.StarRules.{select_stars}

-- ---- what is declared

-- a base table is one of the database, at its place; a view has at its place what its query becomes, around which are no parameter and no query
abbrev pub StandsAt : KnownTables → List BoundSpecification → Content → TableBody → TablePlace → Type 0
StandsAt known queries content (base_table n) (Base place) = (place ≡ n) × (nat_lt n (length content) ≡ true)
StandsAt known queries content (viewed_table q check_option) (View place) =
    (b : BoundSpecification) × (slice_get queries place ≡ Some b) × SelectIs (select_placed (outside known []) q) b
StandsAt known queries content _ _ = ⊥

-- a table is known with the columns that it has, each with its name and kind, and at the place where it stands
pub record IsDeclaredAs (known : KnownTables) (columns : TableKinds) (queries : List BoundSpecification) (content : Content)
    (d : TableDescriptor) (t : KnownTable) : Type 0 where
  pub names : column_names d ≡ names_of_columns t.columns
  pub kinds : column_kinds d ≡ kinds_of_columns t.columns
  pub kinds_there : columns t.place ≡ Ok (kinds_of_columns t.columns)
  pub stands : StandsAt known queries content d.body t.place

-- Each table and view is known by its name as it is declared.
abbrev pub AreDeclared : KnownTables → TableKinds → List BoundSpecification → Content → Tables → Type 0
AreDeclared known columns queries content tables =
    AllByRecursion
    (λ d. Has (IsDeclaredAs known columns queries content d) (well_formed (known d.table.user d.table.name))) tables

-- No name is known but those of tables and views.
abbrev pub AreAll : KnownTables → Tables → Type 0
AreAll known tables = (name : TableName) → IfSome (known name.user name.name) (λ t. HasValue (descriptor_of tables name))

-- A database in two readings. Its rows are of the declared kinds, and the query of each view is well formed among the tables before it
-- (which the rules of schemas and the machine keep); its names are known as they are declared, and no others (which the catalog says);
-- and the places have the rows of the store and of the views' queries (which a statement reads).
pub record IsDatabase (tables : Tables) (content : Content) (user : Name) (known : KnownTables) (columns : TableKinds)
    (queries : List BoundSpecification)
    (shown : TablePlace → Outcome (List Row)) : Type 0 where
  pub kept : IsDatabaseOf tables content user
  pub declared : AreDeclared known columns queries content tables
  pub all : AreAll known tables
  pub meant : AreMeant queries content user shown

-- where a text of a procedure with these parameters is read in a database
abbrev pub in_database : Tables → Content → Name → KnownTables → (TablePlace → Outcome (List Row)) → List ParameterDesc → Setting
in_database tables content user known shown parameters = record {
  tables = tables;
  rows_of = table_rows tables content user;
  known = known;
  shown = shown;
  parameters = parameters;
}

-- ---- the tables before a view

abbrev pub known_if : {A : Type 0} → Outcome A → Option KnownTable → Option KnownTable
known_if (Ok d) found = found
known_if (Err status) found = None

-- what is known of these tables alone
abbrev pub known_among : Tables → KnownTables → KnownTables
known_among tables known user name = known_if (descriptor_of tables (record { user = user; name = name })) (known user name)

pub among_same : (tables : Tables) (known : KnownTables) (r : TableReference) → HasValue (item_of tables r)
    → MeansSame known (known_among tables known) r
among_same tables known r h = by_descriptor (descriptor_of tables r.table) h
  where
    by_descriptor : (o : Outcome TableDescriptor)
        → HasValue {A = Item} (and_then o (λ d. Ok (record { reference = r; columns = column_names d })))
        → known r.table.user r.table.name ≡ known_if o (known r.table.user r.table.name)
    by_descriptor (Ok d) h = refl
    by_descriptor (Err status) h = absurd h

-- ---- names

pub table_is : (s t : TableName) → same_table s t ≡ true → s ≡ t
table_is s t e =
    let parts = and_parts (pointwise nat_eq s.user t.user) (pointwise nat_eq s.name t.name) e in
    λ i. record { user = same_text s.user t.user (sym parts.0) i; name = same_text s.name t.name (sym parts.1) i }

-- ---- how wide rows are

all_wide : (kinds : List Kind) (found : List Row) → AreRowsOf kinds found
    → AllByRecursion (λ row. length row ≡ length kinds) found
all_wide kinds [] h = tt
all_wide kinds (row ∷ found) h = (sym (same_length IsOfKind kinds row h.0), all_wide kinds found h.1)

rows_wide : (kinds : List Kind) (o : Outcome (List Row)) → Answers (AreRowsOf kinds) o
    → IfOk o (AllByRecursion (λ row. length row ≡ length kinds))
rows_wide kinds (Ok found) h = all_wide kinds found h
rows_wide kinds (Err status) h = tt

kinds_count : (columns : List Column) → length (kinds_of_columns columns) ≡ length columns
kinds_count [] = refl
kinds_count (c ∷ cs) = ap suc (kinds_count cs)

-- ---- one table or view

-- the rows that the body of a table has by name
abbrev rows_by_name : Tables → Content → Name → TableBody → Outcome (List Row)
rows_by_name earlier content user body = elim body as (λ _. Outcome (List Row)) [
  | base_table n ↦ Ok (rows_in (table_at content n))
  | viewed_table q check_option ↦ rows (reading_by_name earlier (table_rows earlier content user)) q (outermost [] user)
]

-- what a name means, where this is found under it
abbrev pub IsSameTable : Outcome TableDescriptor → Outcome (List Row) → TableKinds → (TablePlace → Outcome (List Row))
    → KnownTable → Type 0
IsSameTable found named_rows columns shown t =
    Has (λ d. column_names d ≡ names_of_columns t.columns) found
    × Has (λ d. column_kinds d ≡ kinds_of_columns t.columns) found
    × (columns t.place ≡ Ok (kinds_of_columns t.columns))
    × (named_rows ≡ shown t.place)
    × IfOk (shown t.place) (AllByRecursion (λ row. length row ≡ length t.columns))

module _ (content : Content) (user : Name) (known : KnownTables) (columns : TableKinds) (queries : List BoundSpecification)
    (shown : TablePlace → Outcome (List Row))
    (meant : AreMeant queries content user shown) where
  -- what surrounds the views that are made over these tables
  abbrev before : Tables → Setting
  before earlier = in_database earlier content user (known_among earlier known) shown []

  view_same : (earlier : Tables) (kinds : List Kind) (q : Select Named) (check_option : Bool) (place : ℕ) → IsFit (before earlier)
      → IsBodyOf earlier content user kinds (viewed_table q check_option)
      → StandsAt known queries content (viewed_table q check_option) (View place)
      → rows (reading_by_name earlier (table_rows earlier content user)) q (outermost [] user) ≡ shown (View place)
  view_same earlier kinds q check_option place fit body stands =
      let m = by_name earlier content user in
      let k = kinds_by_name earlier [] in
      let names : SelectReads (MeansSame known (known_among earlier known)) q
      = select_reads m k (λ p. ⊥) (MeansSame known (known_among earlier known)) (among_same earlier known) [] q body.0 in
      view_rows_same (before earlier) fit refl q (select_stars m k (λ p. ⊥) [] q body.0) stands.0
      (sym (select_becomes known (known_among earlier known) [] [] q names) ∙ stands.2) user
      ∙ sym (meant.views place ∙ ap (λ o. and_then (well_formed o) (rows_of_view shown user)) stands.1)

  body_same : (earlier : Tables) (kinds : List Kind) (body : TableBody) (place : TablePlace) → IsFit (before earlier)
      → IsBodyOf earlier content user kinds body → StandsAt known queries content body place
      → rows_by_name earlier content user body ≡ shown place
  body_same earlier kinds (base_table n) (Base place) fit h stands =
      sym (meant.bases place ∙ ap (stored_rows content) stands.0 ∙ ap (λ b. and_then (if b then Ok (table_at content n) else not_well_formed) (λ found. Ok (rows_in found))) stands.1)
  body_same earlier kinds (base_table n) (View place) fit h stands = absurd stands
  body_same earlier kinds (viewed_table q check_option) (Base place) fit h stands = absurd stands
  body_same earlier kinds (viewed_table q check_option) (View place) fit h stands =
      view_same earlier kinds q check_option place fit h stands

  -- the first table of a list
  first_same : (d : TableDescriptor) (earlier : Tables) → IsFit (before earlier)
      → IsBodyOf earlier content user (column_kinds d) d.body
      → Answers (AreRowsOf (column_kinds d)) (rows_by_name earlier content user d.body)
      → (found : Option KnownTable) → Has (IsDeclaredAs known columns queries content d) (well_formed found) → IfSome found
      (IsSameTable (Ok d) (rows_by_name earlier content user d.body) columns shown)
  first_same d earlier fit body kept None h = absurd h
  first_same d earlier fit body kept (Some t) h =
      let same : rows_by_name earlier content user d.body ≡ shown t.place
      = body_same earlier (column_kinds d) d.body t.place fit body h.stands in
      let count : length (column_kinds d) ≡ length t.columns = ap length h.kinds ∙ kinds_count t.columns in
      let wide : IfOk (rows_by_name earlier content user d.body) (AllByRecursion (λ row. length row ≡ length (column_kinds d)))
      = rows_wide (column_kinds d) (rows_by_name earlier content user d.body) kept in
      (h.names, h.kinds, h.kinds_there, same, subst (λ n. IfOk (shown t.place) (AllByRecursion (λ row. length row ≡ n))) count (subst (λ o. IfOk o (AllByRecursion (λ row. length row ≡ length (column_kinds d)))) same wide))

  -- what each name means is what the laws of texts ask for
  pub fits_before : (earlier : Tables)
      → ((name : TableName) → IfSome (known_among earlier known name.user name.name) (IsSameTable (descriptor_of earlier name) (table_rows earlier content user name) columns shown))
      → IsFit (before earlier)
  fits_before earlier each = λ name.
      some_also (known_among earlier known name.user name.name)
      (IsSameTable (descriptor_of earlier name) (table_rows earlier content user name) columns shown)
      (IsKnownAs (before earlier) name)
      (each name) (λ t a. record { columns = a.0; rows = a.3; widths = a.4 })

  -- The columns of earlier views have the kinds that are declared.
  pub typed_before : (earlier : Tables)
      → ((name : TableName) → IfSome (known_among earlier known name.user name.name) (IsSameTable (descriptor_of earlier name) (table_rows earlier content user name) columns shown))
      → AreTyped (before earlier) columns
  typed_before earlier each = λ name.
      some_also (known_among earlier known name.user name.name)
      (IsSameTable (descriptor_of earlier name) (table_rows earlier content user name) columns shown)
      (HasKinds (before earlier) columns name)
      (each name) (λ t a. record { by_name = a.1; by_place = a.2 })

  -- each name that is known of these tables means the same
  pub each_same : (tables : Tables) → IsDatabaseOf tables content user → AreDeclared known columns queries content tables
      → (name : TableName)
      → IfSome (known_among tables known name.user name.name)
      (IsSameTable (descriptor_of tables name) (table_rows tables content user name) columns shown)
  each_same [] h declared name = tt
  each_same (d ∷ earlier) h declared name =
      split (same_table d.table name) refl (each_same earlier h.1 declared.1 name)
      (fits_before earlier (each_same earlier h.1 declared.1))
    where
      split : (b : Bool) → same_table d.table name ≡ b
          → IfSome (known_among earlier known name.user name.name)
          (IsSameTable (descriptor_of earlier name) (table_rows earlier content user name) columns shown)
          → IsFit (before earlier)
          → IfSome (known_if (well_formed (cond b (Some d) (find (λ e. same_table e.table name) earlier))) (known name.user name.name))
          (IsSameTable (well_formed (cond b (Some d) (find (λ e. same_table e.table name) earlier)))
          (elim b as (λ _. Outcome (List Row)) [ false ↦ table_rows earlier content user name | true ↦ rows_by_name earlier content user d.body ]) columns shown)
      split false e others fit = others
      split true e others fit =
          first_same d earlier fit h.0
          (subst (λ b. Fits AreRowsOf (and_then (well_formed (cond b (Some d) (find (λ e. same_table e.table name) earlier))) (λ e. Ok (column_kinds e)))
          (elim b as (λ _. Outcome (List Row)) [ false ↦ table_rows earlier content user name | true ↦ rows_by_name earlier content user d.body ])) e
          (tables_of_kinds (d ∷ earlier) content user h name))
          (known name.user name.name)
          (subst (λ n. Has (IsDeclaredAs known columns queries content d) (well_formed (known n.user n.name))) (table_is d.table name e) declared.0)

-- ---- a whole database

-- what is known of its tables is all that is known
all_known : {A : Type 0} (o : Outcome A) (P : KnownTable → Type 0) (found : Option KnownTable) → IfSome found (λ t. HasValue o)
    → IfSome (known_if o found) P → IfSome found P
all_known o P None all h = tt
all_known (Ok d) P (Some t) all h = h
all_known (Err status) P (Some t) all h = absurd all

module _ (tables : Tables) (content : Content) (user : Name) (known : KnownTables) (columns : TableKinds)
    (queries : List BoundSpecification) (shown : TablePlace → Outcome (List Row))
    (database : IsDatabase tables content user known columns queries shown) where
  name_same : (name : TableName)
      → IfSome (known name.user name.name)
      (IsSameTable (descriptor_of tables name) (table_rows tables content user name) columns shown)
  name_same name =
      all_known (descriptor_of tables name)
      (IsSameTable (descriptor_of tables name) (table_rows tables content user name) columns shown) (known name.user name.name)
      (database.all name)
      (each_same content user known columns queries shown database.meant tables database.kept database.declared name)

  -- Each name that is known has in the database the columns that it is known with, and its rows are those at its place.
  pub database_fits : (parameters : List ParameterDesc) → IsFit (in_database tables content user known shown parameters)
  database_fits parameters = λ name.
      some_also (known name.user name.name)
      (IsSameTable (descriptor_of tables name) (table_rows tables content user name) columns shown)
      (IsKnownAs (in_database tables content user known shown parameters) name) (name_same name)
      (λ t a. record { columns = a.0; rows = a.3; widths = a.4 })

  -- And the columns have their kinds, by name and by place.
  pub database_typed : (parameters : List ParameterDesc)
      → AreTyped (in_database tables content user known shown parameters) columns
  database_typed parameters = λ name.
      some_also (known name.user name.name)
      (IsSameTable (descriptor_of tables name) (table_rows tables content user name) columns shown)
      (HasKinds (in_database tables content user known shown parameters) columns name) (name_same name)
      (λ t a. record { by_name = a.1; by_place = a.2 })

  -- The rows of a table or view by its name are those at its place.
  pub rows_of_name : (name : TableName)
      → IfSome (known name.user name.name) (λ t. table_rows tables content user name ≡ shown t.place)
  rows_of_name name =
      some_also (known name.user name.name)
      (IsSameTable (descriptor_of tables name) (table_rows tables content user name) columns shown)
      (λ t. table_rows tables content user name ≡ shown t.place) (name_same name) (λ t a. a.3)
