-- A query specification has the rows that it has over the rows of each base table that were found in the subqueries of its HAVING clause
-- (ISO/IEC 9075:1992, 7.7 to 7.9 and 7.11).
use Rattle.std.proofs.Common.{◌≡◌, ◌∙◌, List, ◌∷◌, ◌++◌, map, Option, Some, Result, sym, ap, subst, Ok, Err}
use Rattle.std.specs.Prelude.{IfOk, Vec}
use Rattle.std.specs.List.{AllByRecursion, AllZip}
use Rattle.std.specs.Option.{option_map}
use Rattle.std.specs.declared.alloc.Global.{Global}
use Rattle.sq_lex.specs.declared.name.Name.{Name}
use Rattle.sq_value.specs.declared.domain.Kind.{Kind}
use Rattle.sq_value.specs.declared.value.Value.{Value}
use Rattle.sq_store.specs.Content.{Content}
use Rattle.sq_store.specs.Keys.{Keys}
use Rattle.sq_meaning.specs.Environment.{Env, Line, Row, Scope, within}
use Rattle.sq_meaning.specs.Placed.{Placed, by_place}
use Rattle.sq_meaning.specs.Query.{clause_functions, clause_truth, is_grouped, list_functions, rows, scopes_of}
use Rattle.sq_meaning.specs.Status.{Outcome, each}
use Rattle.sq_meaning.specs.WellFormed.{Answers, Has, HasValue, IsDeclaredAt, IsRowOf, IsScopeOf, Level, WellFormedClause, WellFormedCond, WellFormedSelect, WellFormedTable, kinds_by_place, shown_level}
use Rattle.sq_meaning.proofs.AnswerLaws.{all_weaker}
use Rattle.sq_meaning.proofs.FunctionKinds.{functions_well_formed}
use Rattle.sq_meaning.proofs.ReadingKinds.{env_by_place, places_agree}
use Rattle.sq_meaning.proofs.RowKinds.{scopes_answer}
use Rattle.sq_bound.specs.Condition.{Groups, PlacedClause, PlacedSelect, clause_of, cond_of, groups_if, groups_of, select_by, select_of}
use Rattle.sq_bound.specs.Expression.{PlacedExpr}
use Rattle.sq_bound.specs.Noted.{CondIsNoted, IsNoted}
use Rattle.sq_bound.specs.Numbered.{CondWith, GroupingWith}
use Rattle.sq_bound.specs.SetFunction.{call_of}
use Rattle.sq_bound.specs.WellFormed.{Levels, TableKinds}
use Rattle.sq_bound.specs.declared.condition.BoundCond.{BoundCond}
use Rattle.sq_bound.specs.declared.condition.BoundSpecification.{BoundSpecification, out-BoundSpecification}
use Rattle.sq_bound.specs.declared.condition.Grouping.{Grouping, out-Grouping}
use Rattle.sq_bound.specs.declared.condition.TablePlace.{TablePlace}
use Rattle.sq_bound.proofs.ConditionLaws.{groups_of-out, select_of-out}
use Rattle.sq_bound.proofs.Nested.{grouping_held, select_held}
use Rattle.sq_expression.specs.Frame.{inputs_of}
use Rattle.sq_expression.specs.declared.fault.Fault.{Fault}
use Rattle.sq_expression.specs.declared.table.BaseRows.{BaseRows}
use Rattle.sq_query.specs.Around.{AreRowsAround, IsAround, IsAroundGroups}
use Rattle.sq_query.specs.Inner.{IsInStore, ReadsLines, ServesCond, ServesSelect, StandsSelect, lines_tables}
use Rattle.sq_query.specs.Items.{items_of, over}
use Rattle.sq_query.specs.Needed.{Adds, IsNeeded}
use Rattle.sq_query.specs.Union.{AreFitting}
use Rattle.sq_query.specs.declared.around.Around.{Around}
use Rattle.sq_query.specs.declared.needed.Needed.{Needed}
use Rattle.sq_query.proofs.Needs.Added.{lines_needed, needs_more}
use Rattle.sq_query.proofs.Needs.NeededViews.{clause_weaker}
use Rattle.sq_query.proofs.FoundByKey.FewerRows.{kinds_of}
use Rattle.sq_query.proofs.FoundByKey.ItemRows.{groups_in, list_in, where_in}
use Rattle.sq_query.proofs.FoundByKey.LeftOut.{kept_are, lines_are, same_by_groups}
use Rattle.sq_query.proofs.Keys.KeyTests.{if_some}
use Rattle.sq_query.proofs.Keys.KeyedRows.{inputs_are}

module _ (q : BoundSpecification) (content : Content) (keys : List Keys) (values : List Value) (caller : Name) (elsewhere : Needed) (a : Around) (g : Grouping) (is_grouped_by : (out-BoundSpecification q).grouping ≡ Some g) (c : BoundCond) (is_having : (out-Grouping g).having ≡ Some c) (b : Around) (groups : IsAroundGroups a b)
    (others : Needed) (adds : Adds elsewhere (lines_tables (select_of q)) others) (before after : List BaseRows) where
  abbrev pub functions_in : List PlacedExpr
  functions_in = map call_of (out-Grouping g).set_functions

  abbrev ts : List TablePlace
  ts = items_of q

  abbrev having_in : PlacedClause
  having_in = (groups_in q).having

  abbrev parts_in : PlacedSelect
  parts_in = select_by (out-BoundSpecification q).distinct (out-BoundSpecification q).list ts (where_in q) (groups_in q)

  abbrev env_in : List (Scope (Unit {0})) → Env (Unit {0})
  env_in scopes = record { scopes = scopes; inputs = inputs_of values; user = caller }

  having_is : having_in ≡ clause_of functions_in (Some c)
  having_is =
      ap (λ (o : Option Grouping). (groups_if (option_map groups_of o)).having) is_grouped_by
      ∙ ap (λ (h : Groups). h.having) (groups_of-out g)
      ∙ ap (clause_of functions_in) is_having

  abbrev level : Level (Placed TablePlace)
  level = shown_level (list_in q) ts (groups_in q).columns having_in

  module _ (serves : ServesCond (cond_of functions_in c) (CondIsNoted c) others b content keys values caller before after) where
    module _ (columns : TableKinds) (parameters : List Kind) (levels : Levels) (tables : TablePlace → Outcome (List Row)) (given : IsInStore columns parameters content keys values tables) (stands : StandsSelect q columns parameters levels) (fitting : AreFitting columns (over before tables)) where
      abbrev now : TablePlace → Outcome (List Row)
      now = over before tables

      abbrev next : TablePlace → Outcome (List Row)
      next = over after tables

      abbrev IsWell : (TablePlace → Outcome (List Row)) → PlacedSelect → Type 0
      IsWell f = WellFormedSelect (by_place f) (kinds_by_place columns parameters) (IsDeclaredAt parameters) levels

      well : (f : TablePlace → Outcome (List Row)) → IsWell f parts_in
      well f = subst (IsWell f) (select_of-out q) (stands.0 f)

      cond_stands : (f : TablePlace → Outcome (List Row)) → WellFormedCond (by_place f) (kinds_by_place columns parameters) (IsDeclaredAt parameters) (level ∷ levels) (cond_of functions_in c)
      cond_stands f = subst (WellFormedClause (by_place f) (kinds_by_place columns parameters) (IsDeclaredAt parameters) (level ∷ levels)) having_is (well f).4

      cond_notes : CondIsNoted c
      cond_notes =
          let held = if_some (GroupingWith IsNoted) (out-BoundSpecification q).grouping g (select_held IsNoted q stands.1).1 is_grouped_by in
          if_some (CondWith IsNoted) (out-Grouping g).having c (grouping_held IsNoted g held) is_having

      tables_known : AllByRecursion (λ t. HasValue (columns t)) ts
      tables_known = all_weaker (WellFormedTable (by_place tables) (kinds_by_place columns parameters) (IsDeclaredAt parameters)) (λ t. HasValue (columns t)) (λ t h. h.0) ts (well tables).0

      abbrev IsIn : TablePlace → Row → Type 0
      IsIn t row = Has (λ ks. IsRowOf ks row) (columns t)

      rows_are : AllByRecursion (λ t. (rs : List Row) → now t ≡ Ok rs → AllByRecursion (IsIn t) rs) ts
      rows_are = all_weaker (λ t. HasValue (columns t)) (λ t. (rs : List Row) → now t ≡ Ok rs → AllByRecursion (IsIn t) rs) (λ t there rs is. kinds_of columns now fitting t rs there is) ts tables_known

      module _ (apart : (t : TablePlace) → IsNeeded others t → now t ≡ next t)
          (same : (scopes : List (Scope (Unit {0}))) → IsAround b scopes → AreRowsAround columns parameters (level ∷ levels) scopes → clause_truth (by_place now) (clause_of functions_in (Some c)) (env_in scopes) ≡ clause_truth (by_place next) (clause_of functions_in (Some c)) (env_in scopes))
          (scopes : List (Scope (Unit {0}))) (is_around : IsAround a scopes) (rows_around : AreRowsAround columns parameters levels scopes) where
        abbrev IsGroup : Scope (Unit {0}) → Type 0
        IsGroup = IsScopeOf (by_place now) (kinds_by_place columns parameters) (IsDeclaredAt parameters) level

        on_group : (scope : Scope (Unit {0})) → IsGroup scope → clause_truth (by_place now) having_in (within scope (env_in scopes)) ≡ clause_truth (by_place next) having_in (within scope (env_in scopes))
        on_group scope is =
            let around : AreRowsAround columns parameters (level ∷ levels) (scope ∷ scopes) = λ f. (record { line = is.found.line; group = is.found.group }, rows_around f) in
            (λ i. clause_truth (by_place now) (having_is i) (within scope (env_in scopes)))
            ∙ same (scope ∷ scopes) (groups scopes scope is_around) around
            ∙ sym (λ i. clause_truth (by_place next) (having_is i) (within scope (env_in scopes)))

        groups_are : (heads : List (Unit {0})) (lines : List Line) (found : List (Scope (Unit {0}))) → each (λ (t : TablePlace). let item : Outcome (Unit {0}) = Ok tt in item) ts ≡ Ok heads → AllByRecursion (AllZip IsIn ts) lines
            → scopes_of (by_place now) (list_in q) (groups_in q).columns having_in heads lines (env_in scopes) ≡ Ok found → AllByRecursion IsGroup found
        groups_are heads lines found items lines_known are =
            subst (Answers (AllByRecursion IsGroup)) are
            (scopes_answer (by_place now) (kinds_by_place columns parameters) (IsDeclaredAt parameters) (places_agree now columns parameters fitting) levels ts (is_grouped (list_in q) (groups_in q).columns having_in) (list_functions (list_in q) ++ clause_functions having_in) (groups_in q).columns heads lines (env_in scopes) items (well now).3
            (functions_well_formed (by_place now) (kinds_by_place columns parameters) (IsDeclaredAt parameters) (level ∷ levels) (is_grouped (list_in q) (groups_in q).columns having_in) (list_in q) having_in (well now).1 (well now).4) lines_known
            (env_by_place now columns parameters levels scopes (inputs_of values) caller (rows_around now) (inputs_are parameters values given.inputs)))

        all_same : rows (by_place now) (select_of q) (env_in scopes) ≡ rows (by_place next) (select_of q) (env_in scopes)
        all_same =
            let reads = subst (ReadsLines (IsNeeded others)) (select_of-out q) (lines_needed elsewhere others (select_of q) adds) in
            let distinct = (out-BoundSpecification q).distinct in
            let same_items = all_weaker (IsNeeded others) (λ t. now t ≡ next t) apart ts reads.0 in
            let same_where = clause_weaker (IsNeeded others) (λ t. now t ≡ next t) apart (where_in q) reads.1 in
            subst (λ (s : PlacedSelect). rows (by_place now) s (env_in scopes) ≡ rows (by_place next) s (env_in scopes)) (sym (select_of-out q))
            (same_by_groups now next distinct (list_in q) ts (where_in q) (groups_in q).columns having_in (env_in scopes) same_items same_where
            (λ heads lines found items kept_lines are.
            all_weaker IsGroup (λ scope. clause_truth (by_place now) having_in (within scope (env_in scopes)) ≡ clause_truth (by_place next) having_in (within scope (env_in scopes))) on_group found
            (groups_are heads lines found items
            (kept_are now next distinct (list_in q) ts (where_in q) (groups_in q).columns having_in (env_in scopes) (AllZip IsIn ts) heads lines (lines_are now IsIn ts rows_are) kept_lines) are)))

    pub having_serves : ServesSelect q elsewhere a content keys values caller before after
    having_serves columns parameters levels tables given stands fitting =
        let s = serves columns parameters (level ∷ levels) tables given (cond_stands columns parameters levels tables given stands fitting, cond_notes columns parameters levels tables given stands fitting) fitting in record {
          fit = s.fit;
          apart = λ t h. s.apart t (needs_more elsewhere others (lines_tables (select_of q)) adds t h);
          same = all_same columns parameters levels tables given stands fitting s.apart s.same;
        }

-- in the result of a search
pub having_found : (q : BoundSpecification) (content : Content) (keys : List Keys) (values : List Value) (caller : Name) (elsewhere : Needed) (a : Around) (g : Grouping) → (out-BoundSpecification q).grouping ≡ Some g → (c : BoundCond) → (out-Grouping g).having ≡ Some c → (b : Around) → IsAroundGroups a b
    → (others : Needed) → Adds elsewhere (lines_tables (select_of q)) others → (before : List BaseRows) (r : Result (Vec BaseRows Global) Fault)
    → ((functions : List PlacedExpr) → IfOk r (λ found. ServesCond (cond_of functions c) (CondIsNoted c) others b content keys values caller before found.items)) → IfOk r (λ found. ServesSelect q elsewhere a content keys values caller before found.items)
having_found q content keys values caller elsewhere a g grouped c is_having b groups others adds before (Err e) serves = tt
having_found q content keys values caller elsewhere a g grouped c is_having b groups others adds before (Ok found) serves =
    having_serves q content keys values caller elsewhere a g grouped c is_having b groups others adds before found.items (serves (map call_of (out-Grouping g).set_functions))
