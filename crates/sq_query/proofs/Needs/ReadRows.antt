-- What a well-formed statement reads has rows of its kinds, or ends with a status other than 42000 (ISO/IEC 9075:1992, 7.9, 7.10 and 13.1).
use Rattle.std.proofs.Common.{◌≡◌, ℕ, List, [], ◌∷◌, sym, subst, Ok}
use Rattle.std.specs.Prelude.{⊤}
use Rattle.sq_lex.specs.declared.name.Name.{Name}
use Rattle.sq_value.specs.declared.domain.Kind.{Kind}
use Rattle.sq_value.specs.declared.value.Value.{Value}
use Rattle.sq_store.specs.Content.{Content}
use Rattle.sq_meaning.specs.Status.{Outcome, and_then}
use Rattle.sq_meaning.specs.Environment.{Row, alone, outermost}
use Rattle.sq_meaning.specs.Placed.{by_place}
use Rattle.sq_meaning.specs.Query.{rows}
use Rattle.sq_meaning.specs.QueryExpression.{query_rows}
use Rattle.sq_meaning.specs.Rows.{SortColumn, by_columns, sorted}
use Rattle.sq_meaning.specs.WellFormed.{Answers, IsRowOf, AreRowsOf, WellFormedCond, kinds_by_place, IsDeclaredAt}
use Rattle.sq_meaning.proofs.AnswerLaws.{all_sorted, then_answers}
use Rattle.sq_meaning.proofs.QueryKinds.{truth_of_kinds}
use Rattle.sq_meaning.proofs.ReadingKinds.{env_by_place, places_agree}
use Rattle.sq_bound.specs.Condition.{cond_of, select_of}
use Rattle.sq_bound.specs.Query.{query_of}
use Rattle.sq_bound.specs.WellFormed.{TableKinds, IsSelect, IsQuery, IsViewQuery, kinds_of_select, kinds_of_query, of_base_at}
use Rattle.sq_bound.specs.declared.condition.BoundCond.{BoundCond}
use Rattle.sq_bound.specs.declared.condition.BoundSpecification.{BoundSpecification}
use Rattle.sq_bound.specs.declared.condition.TablePlace.{TablePlace}
use Rattle.sq_bound.specs.declared.condition.TablePlace.TheVariants.{View}
use Rattle.sq_bound.specs.declared.names.BaseTable.{BaseTable}
use Rattle.sq_bound.specs.declared.query.BoundQuery.{BoundQuery}
use Rattle.sq_expression.specs.Frame.{inputs_of}
use Rattle.sq_query.specs.MayRead.{MayRead}
use Rattle.sq_query.specs.OnRow.{StandsOnRow}
use Rattle.sq_query.specs.Row.{IsOnRow, outside, truth_on_row}
use Rattle.sq_query.specs.Union.{AreFitting}
use Rattle.sq_query.proofs.Needs.Fitting.{query_fits}
use Rattle.sq_query.proofs.Keys.KeyedRows.{inputs_are}
use Rattle.sq_query.proofs.Needs.KindsOfTables.{KindsAreOf}
use Rattle.sq_query.proofs.Needs.TablesMeant.{select_fits, tables_fit}
use Rattle.sq_query.proofs.ByUnion.UnionRows.{query_known}

-- a well-formed condition stands on its row
pub stands_so : (columns : TableKinds) (parameters : List Kind) (row : Row) (c : BoundCond) → IsOnRow columns parameters row c → StandsOnRow columns parameters row c
stands_so columns parameters row c on = record {
  place = on.place;
  stands = λ rows_of. subst (WellFormedCond (by_place rows_of) (kinds_by_place columns parameters) (IsDeclaredAt parameters) (of_base_at on.place)) (sym (on.well.is_tree [])) (on.well.stands rows_of);
  notes = on.well.notes;
  numbers = on.well.numbers;
  fits = on.fits;
}

module _ (bases : List BaseTable) (queries : List BoundSpecification) (columns : TableKinds) (content : Content) (user : Name) (values : List Value) (kinds_of_bases : KindsAreOf columns bases)
    (kinds_of_views : (place : ℕ) (kinds : List Kind) → columns (View place) ≡ Ok kinds → IsViewQuery columns queries place kinds)
    (parameters : List Kind) (tables : TablePlace → Outcome (List Row)) (may : MayRead bases queries columns content user values parameters tables) where
  pub fitting : AreFitting columns tables
  fitting = tables_fit bases queries columns content user tables kinds_of_bases may.there may.in_domains may.meant kinds_of_views

  pub select_answers : (s : BoundSpecification) → IsSelect columns parameters [] s → Answers (AreRowsOf (kinds_of_select s)) (rows (by_place tables) (select_of s) (outermost (inputs_of values) user))
  select_answers s well = select_fits columns tables fitting parameters (inputs_of values) (inputs_are parameters values may.inputs) user s well

  pub query_answers : (q : BoundQuery) → IsQuery columns parameters q → Answers (AreRowsOf (kinds_of_query q)) (query_rows (by_place tables) (kinds_by_place columns parameters) (query_of q) (outermost (inputs_of values) user))
  query_answers q well =
      let known = query_known columns parameters tables q well in
      query_fits columns parameters tables fitting values may.inputs user (query_of q) (kinds_of_query q) known.0 known.1

  pub sorted_answers : (q : BoundQuery) (order : List SortColumn) → IsQuery columns parameters q
      → Answers (AreRowsOf (kinds_of_query q)) (and_then (query_rows (by_place tables) (kinds_by_place columns parameters) (query_of q) (outermost (inputs_of values) user)) (λ found. Ok (sorted (by_columns order) found)))
  sorted_answers q order well =
      then_answers (AreRowsOf (kinds_of_query q)) (AreRowsOf (kinds_of_query q)) (query_rows (by_place tables) (kinds_by_place columns parameters) (query_of q) (outermost (inputs_of values) user)) (λ found. Ok (sorted (by_columns order) found))
      (query_answers q well) (λ found p. all_sorted (IsRowOf (kinds_of_query q)) (by_columns order) found p)

  pub truth_stands : (row : Row) (c : BoundCond) → StandsOnRow columns parameters row c → Answers (λ t. ⊤) (truth_on_row tables values user row c)
  truth_stands row c on =
      truth_of_kinds (by_place tables) (kinds_by_place columns parameters) (IsDeclaredAt parameters) (places_agree tables columns parameters fitting) (cond_of [] c) (of_base_at on.place) (outside (row ∷ []) values user) (on.stands tables)
      (env_by_place tables columns parameters (of_base_at on.place) (alone [] (row ∷ []) ∷ []) (inputs_of values) user (record { line = (on.fits, tt); group = tt }, tt) (inputs_are parameters values may.inputs))

  pub truth_answers : (row : Row) (c : BoundCond) → IsOnRow columns parameters row c → Answers (λ t. ⊤) (truth_on_row tables values user row c)
  truth_answers row c on = truth_stands row c (stands_so columns parameters row c on)
