-- A view that the catalog sees as it is written is known as the definitions describe it (ISO/IEC 9075:1992,
-- 7.9 and 11.19): its columns have the same names and the same kinds.
use Rattle.std.proofs.Common.{◌≡◌, ℕ, List, [], ◌∷◌, map, Option, Some, None, refl, sym, ap, ◌∙◌, Ok}
use Rattle.std.specs.Prelude.{slice_get, unwrap_or}
use Rattle.std.specs.List.{zip}
use Rattle.std.specs.Result.{result_ok}
use Rattle.sq_lex.specs.declared.name.Name.{Name}
use Rattle.sq_tree.specs.declared.list.CommaList.{CommaList}
use Rattle.sq_value.specs.declared.domain.Kind.{Kind}
use Rattle.sq_store.specs.Content.{Content}
use Rattle.sq_meaning.specs.Environment.{Row}
use Rattle.sq_meaning.specs.Kind.{select_kinds}
use Rattle.sq_meaning.specs.SortKeys.{select_names}
use Rattle.sq_meaning.specs.Spelled.{Named, select_of}
use Rattle.sq_meaning.specs.Status.{Outcome}
use Rattle.sq_meaning.specs.Syntax.{Select}
use Rattle.sq_meaning.specs.Tables.{ColumnDescriptor, Tables, by_name, kinds_by_name}
use Rattle.sq_meaning.specs.WellFormed.{WellFormedSelect, kinds_by_place}
use Rattle.sq_meaning.specs.Catalog.{names_written, view_descriptor, view_kinds, view_names}
use Rattle.sq_bound.specs.Condition.{select_of as placed_of}
use Rattle.sq_bound.specs.Known.{KnownTables}
use Rattle.sq_bound.specs.WellFormed.{TableKinds, kinds_of_columns, kinds_of_select}
use Rattle.sq_bound.specs.declared.condition.BoundSpecification.{BoundSpecification}
use Rattle.sq_bound.specs.declared.condition.TablePlace.{TablePlace}
use Rattle.sq_bound.specs.declared.condition.TablePlace.TheVariants.{View}
use Rattle.sq_bound.specs.declared.names.Column.{Column}
use Rattle.sq_binding.specs.ColumnNames.{names_placed}
use Rattle.sq_binding.specs.PlacedQuery.{select_placed}
use Rattle.sq_binding.specs.Names.{tables_of}
use Rattle.sq_catalog.specs.Catalog.{SeenView, view_meant}
use Rattle.sq_catalog.specs.Views.{HasQueryOf, IsSeenAs, WrittenView, column_names as names_listed}
use Rattle.sq_run.proofs.Places.ColumnKinds.{AreTyped}
use Rattle.sq_run.proofs.Places.Databases.{IsDeclaredAs, among_same, in_database, known_among}
use Rattle.sq_run.proofs.Places.FromClauses.{MeansSame, SelectReads, names_become, select_becomes, select_reads}
use Rattle.sq_run.proofs.Places.Items.{IsFit, names_of_columns}
use Rattle.sq_run.proofs.Places.Outcomes.{known_of, ok_same}
use Rattle.sq_run.proofs.Places.Queries.{SameKinds, names_same, select_kinds_same}
use Rattle.sq_run.proofs.Places.Setting.{Setting, around}

-- The columns of a view are of the kinds of its query's columns, which are noted right.
pub record HasKindsOf (columns : TableKinds) (v : SeenView) (q : BoundSpecification) : Type 0 where
  pub noted : kinds_of_columns v.columns ≡ kinds_of_select q
  pub kinds_are : select_kinds (kinds_by_place columns []) [] (placed_of q) ≡ Ok (kinds_of_select q)

-- ---- columns

zip_names : (cs : List Column)
    → map (λ (c : ColumnDescriptor). c.name) (map (λ c. record { name = unwrap_or c.0 []; kind = c.1 }) (zip (map (λ c. Some c.name) cs) (kinds_of_columns cs)))
    ≡ names_of_columns cs
zip_names [] = refl
zip_names (c ∷ cs) = ap (λ ns. c.name ∷ ns) (zip_names cs)

zip_kinds : (cs : List Column)
    → map (λ (c : ColumnDescriptor). c.kind) (map (λ c. record { name = unwrap_or c.0 []; kind = c.1 }) (zip (map (λ c. Some c.name) cs) (kinds_of_columns cs)))
    ≡ kinds_of_columns cs
zip_kinds [] = refl
zip_kinds (c ∷ cs) = ap (λ ks. c.kind ∷ ks) (zip_kinds cs)

module _ (content : Content) (caller : Name) (known : KnownTables) (columns : TableKinds) (queries : List BoundSpecification)
    (shown : TablePlace → Outcome (List Row)) (earlier : Tables)
    (fit : IsFit (in_database earlier content caller (known_among earlier known) shown []))
    (typed : AreTyped (in_database earlier content caller (known_among earlier known) shown []) columns) (w : WrittenView)
    (well : WellFormedSelect (by_name earlier content caller) (kinds_by_name earlier []) (λ p. ⊥) [] (select_of w.user w.view.query))
    (seen : SeenView) (is_seen : IsSeenAs known w seen) (q : BoundSpecification) (is_query : HasQueryOf known w q)
    (kinds : HasKindsOf columns seen q) where
  abbrev s : Setting
  s = in_database earlier content caller (known_among earlier known) shown []

  abbrev text : Select Named
  text = select_of w.user w.view.query

  reads : SelectReads (MeansSame known (known_among earlier known)) text
  reads =
      select_reads (by_name earlier content caller) (kinds_by_name earlier []) (λ p. ⊥) (MeansSame known (known_among earlier known))
      (among_same earlier known) [] text well

  -- the kinds of the query's columns
  pub query_kinds_are : select_kinds (kinds_by_name earlier []) [] text ≡ Ok (kinds_of_columns seen.columns)
  query_kinds_are =
      known_of (select_placed (around s []) text) (SameKinds s columns text) (placed_of q) (select_kinds_same s columns fit typed text)
      (sym (select_becomes known (known_among earlier known) [] [] text reads) ∙ is_query)
      ∙ kinds.kinds_are ∙ ap (λ (ks : List Kind). Ok ks) (sym kinds.noted)

  kinds_are : view_kinds earlier w.user w.view ≡ kinds_of_columns seen.columns
  kinds_are = ap (λ (o : Outcome (List Kind)). unwrap_or (result_ok o) []) query_kinds_are

  -- their names, or those that are listed
  names_are : view_names earlier w.user w.view ≡ map (λ c. Some c.name) seen.columns
  names_are = by_list w.view.columns is_seen.names
    where
      by_list : (list : Option (CommaList Name)) → names_listed list (names_placed (tables_of known) text) ≡ Ok (map (λ c. Some c.name) seen.columns)
          → names_written list (unwrap_or (result_ok (select_names earlier text)) []) ≡ map (λ c. Some c.name) seen.columns
      by_list None e =
          ap (λ (o : Outcome (List (Option Name))). unwrap_or (result_ok o) [])
          (known_of (names_placed (tables_of (known_among earlier known)) text) (λ ns. select_names earlier text ≡ Ok ns) (map (λ c. Some c.name) seen.columns)
          (names_same s fit text) (sym (names_become known (known_among earlier known) [] text reads) ∙ e))
      by_list (Some list) e = ok_same (names_written (Some list) []) (map (λ c. Some c.name) seen.columns) e

  -- A view is known as it is declared.
  pub view_declared : (place : ℕ) → slice_get queries place ≡ Some q → columns (View place) ≡ Ok (kinds_of_select q)
      → IsDeclaredAs known columns queries content (view_descriptor earlier w.user w.view) (view_meant place seen)
  view_declared place at there = record {
    names =
        (λ i. map (λ (c : ColumnDescriptor). c.name) (map (λ c. record { name = unwrap_or c.0 []; kind = c.1 }) (zip (names_are i) (kinds_are i))))
        ∙ zip_names seen.columns;
    kinds =
        (λ i. map (λ (c : ColumnDescriptor). c.kind) (map (λ c. record { name = unwrap_or c.0 []; kind = c.1 }) (zip (names_are i) (kinds_are i))))
        ∙ zip_kinds seen.columns;
    kinds_there = there ∙ ap (λ (ks : List Kind). Ok ks) (sym kinds.noted);
    stands = (q, at, is_query);
  }
