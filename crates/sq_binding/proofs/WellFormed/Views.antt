-- The query of a view is well formed, and is the text with its names placed. If it is updatable, the same holds for its query over
-- the base table (ISO/IEC 9075:1992, 11.19).
use Rattle.std.proofs.Common.{◌≡◌, Bool, List, [], map, Option, Some, None, Ok, sym, ap, subst, ◌∙◌}
use Rattle.std.proofs.lemmas.Simd.{map-map}
use Rattle.std.specs.Option.{option_map}
use Rattle.std.specs.Prelude.{IfSome}
use Rattle.sq_lex.specs.declared.name.Name.{Name}
use Rattle.sq_meaning.specs.Environment.{TableName}
use Rattle.sq_meaning.specs.Kind.{select_kinds}
use Rattle.sq_meaning.specs.WellFormed.{kinds_by_place}
use Rattle.sq_meaning.specs.Spelled.{Named}
use Rattle.sq_meaning.specs.Syntax.{Select}
use Rattle.sq_meaning.specs.Privilege.{Privilege}
use Rattle.sq_bound.specs.Condition as condition
use Rattle.sq_bound.specs.Condition.{select_of as select_meant}
use Rattle.sq_bound.specs.Fits.{FitsQuery, IsBase}
use Rattle.sq_bound.specs.Known.{KnownTables}
use Rattle.sq_bound.specs.WellFormed.{IsSelect, IsUpdatable, TableKinds, kinds_of_select}
use Rattle.sq_bound.specs.declared.condition.BoundSpecification.{BoundSpecification, out-BoundSpecification}
use Rattle.sq_bound.specs.declared.condition.ResultColumn.{ResultColumn as BoundColumn}
use Rattle.sq_bound.specs.declared.names.BaseTable.{BaseTable}
use Rattle.sq_bound.specs.declared.query.UpdatableQuery.{UpdatableQuery}
use Rattle.sq_binding.specs.Changeable.{UserNames, updatable_bound}
use Rattle.sq_binding.specs.ColumnNames.{names_placed}
use Rattle.sq_binding.specs.Condition.{select_bound}
use Rattle.sq_binding.specs.Cursor.{behind}
use Rattle.sq_binding.specs.NumberedCondition.{NumberedSelect, ResultColumn, columns_of, select_of}
use Rattle.sq_binding.specs.Outcome.{and_then}
use Rattle.sq_binding.specs.PlacedQuery.{select_placed}
use Rattle.sq_binding.specs.Seen.{column_of, select_seen}
use Rattle.sq_binding.specs.Select as select_spec
use Rattle.sq_binding.specs.View.{NumberedView, view_bound, view_of}
use Rattle.sq_binding.specs.Whole.{at_first}
use Rattle.sq_binding.proofs.Standing.BoundLaws.{select_is_so, select_is_written}
use Rattle.sq_binding.proofs.Faultless.Clean.{Steps, steps_of}
use Rattle.sq_binding.proofs.Notes.ColumnNames.{names_are}
use Rattle.sq_binding.proofs.Standing.SeenLevels.{columns_seen}
use Rattle.sq_binding.proofs.Standing.SeenTrees as seen
use Rattle.sq_binding.specs.Names.{NamesMean, outside, tables_of}
use Rattle.sq_binding.specs.SeenQuery.{updatable_seen}
use Rattle.sq_binding.specs.Written.{IsUpdatableOf, NamesAre, SelectIs}
use Rattle.sq_binding.proofs.WellFormed.Named.{names_know}
use Rattle.sq_binding.proofs.WellFormed.Over.{IsOver, here, is_over, names, updatable_fits, updatable_is_written, updatable_stands}
use Rattle.sq_binding.proofs.Placing.Unprivileged.{names_same, select_same}

-- the names of columns that are bound
pub names_seen : (q : BoundSpecification) → map (λ (c : ResultColumn). c.name) (columns_of (select_seen q)) ≡ map (λ (c : BoundColumn). c.name) (out-BoundSpecification q).columns
names_seen q = ap (map (λ (c : ResultColumn). c.name)) (columns_seen q) ∙ map-map (λ (c : ResultColumn). c.name) column_of (out-BoundSpecification q).columns

-- what is bound of a view
pub record IsViewBound (names : UserNames) (q : Select Named) (query : BoundSpecification) (updatable : Option ((Name × Name) × UpdatableQuery)) : Type 0 where
  pub view : NumberedView
  pub is_bound : view_bound names q ≡ Ok view
  pub query_is : view.query ≡ select_seen query
  pub updatable_is : view.updatable ≡ option_map updatable_seen updatable

module _ (bases : List BaseTable) (kinds : TableKinds) (known : KnownTables) (mean : NamesMean bases kinds known) (user : Name) (selects grants : TableName → Bool) (holds : TableName → Privilege → Bool) (q : Select Named) (query : BoundSpecification)
    (updatable : Option ((Name × Name) × UpdatableQuery)) (is : IsViewBound (names known user selects grants holds) q query updatable) where
  abbrev own : UserNames
  own = names known user selects grants holds

  abbrev a : select_spec.Surroundings
  a = here known user selects grants holds []

  first : Steps (select_bound a q at_first) (λ x. and_then (updatable_bound own a q x.part (behind x)) (λ y. Ok (view_of x y))) is.view
  first = steps_of (select_bound a q at_first) (λ x. and_then (updatable_bound own a q x.part (behind x)) (λ y. Ok (view_of x y))) is.view is.is_bound

  second : Steps (updatable_bound own a q first.step.part (behind first.step)) (λ y. Ok (view_of first.step y)) is.view
  second = steps_of (updatable_bound own a q first.step.part (behind first.step)) (λ y. Ok (view_of first.step y)) is.view first.second

  view_is : view_of first.step second.step ≡ is.view
  view_is = let made = second.second in cc

  part_is : select_seen query ≡ first.step.part
  part_is = sym is.query_is ∙ sym (ap (λ (v : NumberedView). v.query) view_is)

  over_is : second.step.part ≡ option_map updatable_seen updatable
  over_is = ap (λ (v : NumberedView). v.updatable) view_is ∙ is.updatable_is

  -- the view's query is well formed
  pub view_stands : IsSelect kinds [] [] query
  view_stands = select_is_so kinds a at_first q first.step first.first query part_is (names_know bases kinds known mean selects grants) tt [] tt

  placed : select_placed a q ≡ Ok (select_meant query)
  placed = select_is_written kinds a at_first q first.step first.first query part_is

  -- the view's query is the one that is written
  pub view_is_written : SelectIs (select_placed (outside known []) q) query
  view_is_written = sym (select_same known selects grants q (outside known [])) ∙ placed

  -- the view's columns have the names of the text
  pub view_names : NamesAre (names_placed (tables_of known) q) query
  view_names =
      sym (names_same known selects grants q) ∙ names_are q a at_first first.step first.first
      ∙ ap (λ (ns : List (Option Name)). Ok ns) (ap (λ (s : NumberedSelect). map (λ (c : ResultColumn). c.name) (columns_of s)) (sym part_is) ∙ names_seen query)

  seen_placed : select_placed a q ≡ Ok (select_of (select_seen query))
  seen_placed = placed ∙ ap (λ (t : condition.PlacedSelect). Ok t) (seen.select_tree query)

  seen_kinds : select_kinds (kinds_by_place kinds []) [] (select_of (select_seen query)) ≡ Ok (kinds_of_select query)
  seen_kinds = sym (ap (select_kinds (kinds_by_place kinds []) []) (seen.select_tree query)) ∙ view_stands.kinds_are

  abbrev OverIs : (Name × Name) × UpdatableQuery → Type 0
  OverIs over = IsOver known user selects grants holds [] q (select_seen query) (updatable_seen over)

  each_over : (o : Option ((Name × Name) × UpdatableQuery)) → second.step.part ≡ option_map updatable_seen o → IfSome o OverIs
  each_over None e = tt
  each_over (Some over) e =
      subst (λ (s : NumberedSelect). IsOver known user selects grants holds [] q s (updatable_seen over)) (sym part_is)
      (is_over known user selects grants holds [] q first.step.part (updatable_seen over) (behind first.step) second.step second.first e)

  if_over : (P : UpdatableQuery → Type 0) → ((over : (Name × Name) × UpdatableQuery) → OverIs over → IsBase bases over.1.target.leaf.table → P over.1)
      → (o : Option ((Name × Name) × UpdatableQuery)) → IfSome o OverIs → IfSome o (λ over. IsBase bases over.1.target.leaf.table) → IfSome o (λ over. P over.1)
  if_over P h None over there = tt
  if_over P h (Some o) over there = h o over there

  module _ (there : IfSome updatable (λ over. IsBase bases over.1.target.leaf.table)) where
    pub view_fits : IfSome updatable (λ over. FitsQuery bases over.1)
    view_fits = if_over (FitsQuery bases) (λ over o base. updatable_fits known user selects grants holds [] bases kinds mean q (select_seen query) (kinds_of_select query) seen_kinds seen_placed over o base) updatable (each_over updatable over_is) there

    pub view_updatable : IfSome updatable (λ over. IsUpdatable kinds [] (kinds_of_select query) over.1)
    view_updatable =
        if_over (IsUpdatable kinds [] (kinds_of_select query)) (λ over o base. updatable_stands known user selects grants holds [] bases kinds mean q (select_seen query) (kinds_of_select query) seen_kinds seen_placed over o base) updatable (each_over updatable over_is) there

    pub view_over : IfSome updatable (λ over. IsUpdatableOf known [] q over.1)
    view_over =
        if_over (IsUpdatableOf known [] q) (λ over o base. updatable_is_written known user selects grants holds [] bases kinds mean q (select_seen query) (kinds_of_select query) seen_kinds seen_placed over o base) updatable (each_over updatable over_is) there
