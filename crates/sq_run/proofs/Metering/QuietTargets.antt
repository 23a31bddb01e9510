-- The conditions of a target are quiet by its places exactly where they are by its names, whatever views
-- stand between (ISO/IEC 9075:1992, 7.9, 11.19 and 13.1). So a cursor walks over its base table exactly
-- where its declaration is that of a quiet cursor.
use Rattle.std.proofs.Common.{◌≡◌, Bool, true, false, ◌&&◌, List, [], ◌∷◌, Option, Some, None, refl, sym, ap, subst, ◌∙◌, Ok}
use Rattle.std.proofs.lemmas.List.Folds.{list_all-append}
use Rattle.std.specs.Prelude.{ℕ, if◌then◌else◌, IfSome}
use Rattle.std.specs.Option.{option_and_then}
use Rattle.std.specs.Result.{result_ok}
use Rattle.sq_tree.specs.declared.«module».Cursor.{Cursor}
use Rattle.sq_meaning.specs.Environment.{TableName, same_table}
use Rattle.sq_meaning.specs.Quiet.{is_quiet_clause, is_quiet_target}
use Rattle.sq_meaning.specs.Spelled.{Named}
use Rattle.sq_meaning.specs.Status.{Outcome, and_then, well_formed}
use Rattle.sq_meaning.specs.Syntax.{Query, Select, specification, union}
use Rattle.sq_meaning.specs.Tables.{TableBody, TableDescriptor, Tables, base_table, viewed_table}
use Rattle.sq_meaning.specs.Target.{Level, Source, Target, base_target, cursor_target, places_of, seen_through, target_of, updatable_source, with_check_option}
use Rattle.sq_meaning.specs.WellFormed.{Has}
use Rattle.sq_meaning.specs.Catalog.{tables_of}
use Rattle.sq_meaning.specs.Keyed.{is_quiet_cursor}
use Rattle.sq_meaning.specs.WellFormedStatement.{Surroundings, cursor_query, is_plain, only_specification, own, updatable_cursor}
use Rattle.sq_meaning.specs.Words.{is_some_and}
use Rattle.sq_bound.specs.Condition.{clause_of}
use Rattle.sq_bound.specs.Known.{KnownTable, KnownTables, Under, under_of}
use Rattle.sq_bound.specs.Names.{option_all}
use Rattle.sq_bound.specs.Quiet.{are_quiet_conds, is_quiet_cond}
use Rattle.sq_bound.specs.declared.condition.BoundCond.{BoundCond}
use Rattle.sq_bound.specs.declared.names.BaseTable.{BaseTable}
use Rattle.sq_bound.specs.declared.names.Column.{Column}
use Rattle.sq_bound.specs.declared.names.ParameterDesc.{ParameterDesc}
use Rattle.sq_bound.specs.declared.query.BoundCursor.{BoundCursor}
use Rattle.sq_bound.specs.declared.query.CursorBody.{CursorBody}
use Rattle.sq_bound.specs.declared.query.CursorBody.TheVariants as body
use Rattle.sq_bound.specs.declared.query.UpdatableQuery.{UpdatableQuery}
use Rattle.sq_binding.specs.PlacedQuery.{clause_placed}
use Rattle.sq_binding.specs.Select.{of_lines}
use Rattle.sq_binding.specs.Names.{outside}
use Rattle.sq_binding.specs.Written.{HasRowsOf, IsCursorOf, IsUpdatableOf, leaf_item}
use Rattle.sq_query.specs.Target.{and_own}
use Rattle.sq_session.specs.Kind.{Over, over_of}
use Rattle.sq_run.proofs.Places.Databases.{table_is}
use Rattle.sq_run.proofs.Changed.Levels.{item_found}
use Rattle.sq_run.proofs.Places.Outcomes.{known_of}
use Rattle.sq_run.proofs.Metering.QuietSame.{IsClauseAs, clause_as}
use Rattle.sq_run.proofs.Schemas.ViewTargets.{AreUnder, IsMadeOver, IsUnderBody, made_over}
use Rattle.sq_run.proofs.Places.BoundTarget.{target_of_query}
use Rattle.sq_run.proofs.OpenCursors.CursorOpens.{IsUpdatableAs}

-- ---- a target

-- the conditions of the views under a table
abbrev pub IsQuietAs : Target → Under → Type 0
IsQuietAs target u = is_quiet_target target ≡ are_quiet_conds u.conditions

own_as : (o : Option BoundCond) → is_quiet_clause (clause_of [] o) ≡ option_all is_quiet_cond o
own_as None = refl
own_as (Some c) = refl

both_as : (b : Bool) → b ≡ (b && true)
both_as true = refl
both_as false = refl

-- with one behind them
and_own_as : (conditions : List BoundCond) (o : Option BoundCond)
    → (are_quiet_conds conditions && option_all is_quiet_cond o) ≡ are_quiet_conds (and_own conditions o)
and_own_as conditions None = sym (both_as (are_quiet_conds conditions))
and_own_as conditions (Some c) =
    (λ i. are_quiet_conds conditions && both_as (is_quiet_cond c) i) ∙ sym (list_all-append is_quiet_cond conditions (c ∷ []))

-- a check option changes no condition
option_as : (b : Bool) (t : Target) → is_quiet_target (with_check_option b t) ≡ is_quiet_target t
option_as true t = refl
option_as false t = refl

-- an updatable query over a table whose conditions are so
module _ (known : KnownTables) (ps : List ParameterDesc) (earlier : Tables) (q : Select Named) (over : UpdatableQuery)
    (text : IsUpdatableOf known ps q over) (check_option : Bool) (target : Target)
    (made : IsMadeOver earlier text.reference text.list text.filter check_option target) where
  abbrev source : Source
  source = record { item = item_found text.reference made.descriptor; columns = made.columns; condition = text.filter }

  abbrev level : Level
  level = record { item = source.item; columns = made.under.columns; condition = text.filter }

  abbrev is_quiet_level : Level → Bool
  is_quiet_level l = is_quiet_clause l.condition

  clause_is : is_quiet_clause text.filter ≡ is_quiet_clause (clause_of [] over.target.condition)
  clause_is =
      known_of (clause_placed (of_lines (leaf_item text.reference text.table ∷ []) (outside known ps)) text.filter)
      (IsClauseAs text.filter) (clause_of [] over.target.condition)
      (clause_as (of_lines (leaf_item text.reference text.table ∷ []) (outside known ps)) text.filter) (text.condition [])

  query_quiet : IsQuietAs made.under (under_of over.target.leaf)
      → is_quiet_target target ≡ are_quiet_conds (and_own over.target.leaf.conditions over.target.condition)
  query_quiet below =
      sym (ap is_quiet_target made.target_is)
      ∙ option_as check_option (seen_through source made.under)
      ∙ list_all-append is_quiet_level made.under.levels (level ∷ [])
      ∙ (λ i. below i && (sym (both_as (is_quiet_clause text.filter)) ∙ clause_is ∙ own_as over.target.condition) i)
      ∙ and_own_as over.target.leaf.conditions over.target.condition

-- what walks
abbrev pub is_walk : Over → Bool
is_walk Over.rows = false
is_walk (Over.numbers table) = false
is_walk (Over.walk table) = true

-- ---- along the views

module _ (known : KnownTables) (bases : List BaseTable) where
  -- what a table's name means, where the others before it are so
  abbrev EachQuiet : Tables → Type 0
  EachQuiet earlier =
      (name : TableName) (target : Target) → target_of earlier name ≡ Ok target
      → (t : KnownTable) → known name.user name.name ≡ Some t → (u : Under) → t.under ≡ Some u → IsQuietAs target u

  body_quiet : (d : TableDescriptor) (earlier : Tables) → EachQuiet earlier → (b : TableBody) (columns : List Column) (u : Under)
      (target : Target)
      → IsUnderBody known bases b columns u
      → (elim b as (λ _. Outcome Target) [
        | base_table n ↦ Ok (base_target n (places_of d.columns))
        | viewed_table q check_option ↦ and_then (updatable_source earlier q) (λ source. and_then (target_of earlier source.item.reference.table) (λ under. Ok (with_check_option check_option (seen_through source under))))
      ]) ≡ Ok target
      → IsQuietAs target u
  body_quiet d earlier each (base_table n) columns u target h e =
      let is : base_target n (places_of d.columns) ≡ target = cc in
      sym (ap is_quiet_target is) ∙ sym (ap (λ (v : Under). are_quiet_conds v.conditions) h.0)
  body_quiet d earlier each (viewed_table q check_option) columns u target h e =
      query_quiet known [] earlier q h.over text check_option target made
      (each text.reference.table made.under made.means text.table text.is_known (under_of h.over.target.leaf) text.is_over)
      ∙ sym (ap are_quiet_conds h.conditions)
    where
      text : IsUpdatableOf known [] q h.over
      text = h.is_over

      made : IsMadeOver earlier text.reference text.list text.filter check_option target
      made =
          made_over earlier text.reference text.list text.filter check_option target
          (subst (λ p. and_then (updatable_source earlier p) (λ source. and_then (target_of earlier source.item.reference.table) (λ under. Ok (with_check_option check_option (seen_through source under)))) ≡ Ok target) text.is_plain e)

  -- The conditions under each table that may be changed.
  pub each_quiet : (earlier : Tables) → AreUnder known bases earlier → EachQuiet earlier
  each_quiet [] under name target e t is_known u has = cc
  each_quiet (d ∷ earlier) under name target e t is_known u has =
      split (each_quiet earlier under.1) (same_table d.table name) refl e
    where
      of_name : (P : TableName → Type 0) → same_table d.table name ≡ true → P d.table → P name
      of_name P same h = subst P (table_is d.table name same) h

      split : EachQuiet earlier → (b : Bool) → same_table d.table name ≡ b
          → (elim b as (λ _. Outcome Target) [
            | false ↦ target_of earlier name
            | true ↦ elim d.body as (λ _. Outcome Target) [
              | base_table place ↦ Ok (base_target place (places_of d.columns))
              | viewed_table q check_option ↦ and_then (updatable_source earlier q) (λ source. and_then (target_of earlier source.item.reference.table) (λ under. Ok (with_check_option check_option (seen_through source under))))
            ]
          ]) ≡ Ok target
          → IsQuietAs target u
      split among false same e = among name target e t is_known u has
      split among true same e =
          body_quiet d earlier among d.body t.columns u target
          (subst (λ o. IfSome o (IsUnderBody known bases d.body t.columns)) has
          (subst (λ found. Has (λ k. IfSome k.under (IsUnderBody known bases d.body k.columns)) (well_formed found)) is_known
          (of_name (λ n. Has (λ k. IfSome k.under (IsUnderBody known bases d.body k.columns)) (well_formed (known n.user n.name))) same under.0)))
          e

  -- ---- a cursor

  -- The target of an updatable query is quiet exactly where that is noted.
  pub cursor_quiet : (ps : List ParameterDesc) (tables : Tables) → AreUnder known bases tables → (q : Select Named)
      (over : UpdatableQuery) → IsUpdatableOf known ps q over → (target : Target) → cursor_target tables q ≡ Ok target
      → is_quiet_target target ≡ over.target.is_quiet
  cursor_quiet ps tables under q over text target e =
      query_quiet known ps tables q over text false target made
      (each_quiet tables under text.reference.table made.under made.means text.table text.is_known (under_of over.target.leaf) text.is_over)
      ∙ sym (and_own_as over.target.leaf.conditions over.target.condition) ∙ sym over.target.quiet
    where
      made : IsMadeOver tables text.reference text.list text.filter false target
      made =
          made_over tables text.reference text.list text.filter false target
          (subst (λ p. and_then (updatable_source tables p) (λ source. and_then (target_of tables source.item.reference.table) (λ below. Ok (seen_through source below))) ≡ Ok target) text.is_plain e)

  module _ (u : Surroundings) (under : AreUnder known bases (tables_of u.elements)) (ps : List ParameterDesc) (c : Cursor) where
    walk_if : (quiet : Bool) (place : ℕ) → is_walk (if quiet then Over.walk place else Over.numbers place) ≡ quiet
    walk_if true place = refl
    walk_if false place = refl

    by_query : (b : CursorBody) (q : Query Named) → cursor_query u c ≡ q → HasRowsOf known ps q b
        → IsUpdatableAs b (updatable_cursor u c) → is_walk (over_of b) ≡ is_quiet_cursor u c
    by_query (body.Rows query order) q is rows updatable = sym (ap (is_some_and is_quiet_target) updatable)
    by_query (body.Updatable over) (specification s) is rows updatable =
        walk_if over.target.is_quiet over.target.base
        ∙ sym (cursor_quiet ps (tables_of u.elements) under s over rows updatable.0
        (target_of_query (is_plain c) (cursor_target (tables_of u.elements)) s updatable.0
        (sym (λ i. option_and_then (λ x. result_ok (cursor_target (tables_of u.elements) x)) (if is_plain c then only_specification (is i) else None)) ∙ updatable.1)))
        ∙ sym (ap (is_some_and is_quiet_target) updatable.1)
    by_query (body.Updatable over) (union all left right) is rows updatable = absurd rows

    -- A cursor walks exactly where its declaration is that of a quiet cursor.
    pub walks_where_quiet : (cursor : BoundCursor) → IsCursorOf known (own u) ps c cursor
        → IsUpdatableAs cursor.body (updatable_cursor u c) → is_walk (over_of cursor.body) ≡ is_quiet_cursor u c
    walks_where_quiet cursor is updatable = by_query cursor.body (cursor_query u c) refl is.rows updatable
