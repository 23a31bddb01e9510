-- A cursor that is bound as it is written is opened over what the machine's is (ISO/IEC 9075:1992, 13.1 and
-- 13.2), whatever it goes over: the rows of its query in their order, the numbers of the rows of an
-- updatable one, or, where no condition may answer a status, the base table.
use Rattle.std.proofs.Common.{◌≡◌, ℕ, ◌<◌, Bool, true, false, List, length, map, filter, Option, Some, None, refl, sym, ap, subst, ◌∙◌, Ok}
use Rattle.std.proofs.lemmas.Option.{slice_get_within}
use Rattle.std.specs.Prelude.{if◌then◌else◌}
use Rattle.std.specs.Option.{option_and_then}
use Rattle.std.specs.Result.{result_ok}
use Rattle.sq_tree.specs.declared.«module».Cursor.{Cursor}
use Rattle.sq_value.specs.declared.value.Value.{Value}
use Rattle.sq_store.specs.Content.{Content, table_at}
use Rattle.sq_store.specs.Rising.{has_rising_rows}
use Rattle.sq_meaning.specs.Environment.{Row}
use Rattle.sq_meaning.specs.Spelled.{Named, listed_if_any}
use Rattle.sq_meaning.specs.Status.{Outcome, and_then}
use Rattle.sq_meaning.specs.Syntax.{Query, Select, specification, union}
use Rattle.sq_meaning.specs.Target.{Target as Meant, cursor_target}
use Rattle.sq_meaning.specs.WellFormedStatement.{cursor_query, is_plain, only_specification, updatable_cursor}
use Rattle.sq_meaning.specs.Change.{tables_in}
use Rattle.sq_meaning.specs.Cursor as machine
use Rattle.sq_meaning.specs.Machine as by_name
use Rattle.sq_meaning.specs.Machine.{Running, setting, surroundings}
use Rattle.sq_bound.specs.Fits.{AreInDomains, FitsBody}
use Rattle.sq_bound.specs.Known.{KnownTables}
use Rattle.sq_bound.specs.declared.condition.TablePlace.{TablePlace}
use Rattle.sq_bound.specs.declared.names.ParameterDesc.{ParameterDesc}
use Rattle.sq_bound.specs.declared.query.CursorBody.{CursorBody}
use Rattle.sq_bound.specs.declared.query.CursorBody.TheVariants as body
use Rattle.sq_bound.specs.declared.query.UpdatableQuery.{UpdatableQuery}
use Rattle.sq_binding.specs.Names.{declared, tables_of}
use Rattle.sq_binding.specs.Written.{HasRowsOf, IsCursorOf, IsSortedBy, IsUpdatableOf, query_names_placed}
use Rattle.sq_module.specs.declared.program.DeclaredCursor.{DeclaredCursor}
use Rattle.sq_query.specs.Table.{AreMeant}
use Rattle.sq_query.specs.Target.{conditions_of, is_true_of, numbers_chosen}
use Rattle.sq_query.proofs.Keys.KeyedRows.{there_so}
use Rattle.sq_session.specs.Cursors.{MayKeep, is_over_table}
use Rattle.sq_session.specs.Kind.{Over, conditions_in, over_of}
use Rattle.sq_session.specs.Open.{IsMeant, IsOpenOver}
use Rattle.sq_session.specs.Schemas.{Schemas, columns_of}
use Rattle.sq_session.specs.Walk.{is_meant}
use Rattle.sq_session.specs.declared.cursor.CursorState.{CursorState}
use Rattle.sq_session.proofs.Walks.QuietWalks.{are_under, quiet_with}
use Rattle.sq_run.proofs.Places.Databases.{IsDatabase}
use Rattle.sq_run.proofs.Places.Parameters.{AreNamed}
use Rattle.sq_run.proofs.Changed.RowsAgain.{itself}
use Rattle.sq_run.proofs.Sites.Stars.{QueryStars}
use Rattle.sq_run.proofs.Changed.Statements.{values_in}
use Rattle.sq_run.proofs.Schemas.ViewTargets.{AreUnder}
use Rattle.sq_run.proofs.Places.BoundTarget.{target_of_query}
use Rattle.sq_run.proofs.OpenCursors.OpenQueries.{numbers_open, opens_numbers, query_opens}
use Rattle.sq_run.proofs.OpenCursors.OpenSame.{OpensAlike}
use Rattle.sq_run.proofs.OpenCursors.OpenWalks.{walk_opens}
use Rattle.sq_run.proofs.OpenCursors.QuietOpens.{quiet_numbers}

-- a cursor that is bound as an updatable one is updatable, and no other is
abbrev pub IsUpdatableAs : CursorBody → Option Meant → Type 0
IsUpdatableAs (body.Rows q sorts) o = o ≡ None
IsUpdatableAs (body.Updatable u) o = (target : Meant) × (o ≡ Some target)

module _ (r : Running) (known : KnownTables) (schemas : Schemas) (shown : TablePlace → Outcome (List Row))
    (database : IsDatabase (tables_in (setting r)) r.state.tables r.in_module.authorization known (columns_of schemas) schemas.views shown)
    (parameters : List ParameterDesc) (names : AreNamed parameters (setting r).inputs) (values : List Value)
    (given : values ≡ values_in (setting r)) (tables : Content) (same : r.state.tables ≡ tables) (d : DeclaredCursor) (c : Cursor)
    (meant : AreMeant schemas.views tables r.in_module.authorization shown)
    (under : AreUnder known schemas.bases (tables_in (setting r))) (stars : QueryStars (cursor_query (surroundings r) c))
    (declares : (surroundings r).parameters ≡ declared parameters) (of_user : d.user ≡ r.in_module.authorization)
    (count : length tables ≡ length schemas.bases) (rising : (place : ℕ) → has_rising_rows (table_at tables place) ≡ true)
    (in_domains : AreInDomains schemas.bases tables) (may : MayKeep (columns_of schemas) d.cursor values) where
  -- ---- of an updatable query

  module _ (u : UpdatableQuery) (is : d.cursor.body ≡ body.Updatable u) (fits : FitsBody schemas.bases (body.Updatable u)) (s : Select Named)
      (text : IsUpdatableOf known parameters s u) (query_is : cursor_query (surroundings r) c ≡ specification s) (target : Meant)
      (means : cursor_target (tables_in (setting r)) s ≡ Ok target) (updatable : updatable_cursor (surroundings r) c ≡ Some target) where
    there : u.target.base < length tables
    there =
        subst (λ n. n < length tables) (sym u.target.is_under)
        (subst (λ k. u.target.leaf.table.place < k) (sym count) (slice_get_within schemas.bases u.target.leaf.table.place u.target.leaf.table fits.0))

    -- where it is quiet, it is walked
    walk_meant : u.target.is_quiet ≡ true
        → by_name.opened r c
        ≡ Ok (machine.before_numbers (map (λ x. x.number) (filter (is_meant (conditions_of u.target) values r.in_module.authorization) (table_at tables u.target.base).rows)))
    walk_meant quiet =
        opens_numbers r known schemas shown database parameters names values given tables same d c meant under s u text
        (subst QueryStars query_is stars) target means updatable
        ∙ ap (λ (o : Outcome (List ℕ)). and_then o (λ ns. Ok (machine.before_numbers ns)))
        (ap (λ o. and_then o (numbers_chosen (is_true_of shown values r.in_module.authorization) (conditions_of u.target))) (there_so tables u.target.base there)
        ∙ quiet_numbers values r.in_module.authorization (columns_of schemas) u.target
        (quiet_with (columns_of schemas) d.cursor u values u.target.base is may
        (subst (λ b. is_over_table (over_of b) u.target.base ≡ true) (sym is) (subst (λ b. is_over_table (if b then Over.walk u.target.base else Over.numbers u.target.base) u.target.base ≡ true) (sym quiet) (itself u.target.base))))
        (table_at tables u.target.base).rows (are_under schemas.bases tables u u.target.base in_domains fits refl) shown)

    updatable_opens : (quiet : Bool) → u.target.is_quiet ≡ quiet → (opened : Outcome CursorState)
        → IsOpenOver (if quiet then Over.walk u.target.base else Over.numbers u.target.base) values tables opened
        → IsMeant schemas (body.Updatable u) r.in_module.authorization parameters values tables opened
        → OpensAlike tables d opened (by_name.opened r c)
    updatable_opens false quiet opened over h =
        numbers_open r known schemas shown database parameters names values given tables same d c meant under s u text
        (subst QueryStars query_is stars) target means updatable (rising u.target.base) opened (h quiet)
    updatable_opens true quiet opened over h =
        subst (λ o. OpensAlike tables d o (by_name.opened r c)) (sym over)
        (walk_opens tables d u.target.base values (rising u.target.base) (by_name.opened r c)
        (walk_meant quiet ∙ (λ i. Ok (machine.before_numbers (map (λ x. x.number) (filter (is_meant (conditions_in (is_so i)) values (user_so i)) (table_at tables u.target.base).rows))))))
      where
        is_so : body.Updatable u ≡ d.cursor.body
        is_so = sym is

        user_so : r.in_module.authorization ≡ d.user
        user_so = sym of_user

  -- ---- of any

  by_query : (b : CursorBody) → d.cursor.body ≡ b → (q : Query Named) → cursor_query (surroundings r) c ≡ q → (plain : Bool)
      → is_plain c ≡ plain → HasRowsOf known parameters q b
      → IsSortedBy (query_names_placed (tables_of known) q) (listed_if_any c.order_by) b
      → IsUpdatableAs b (updatable_cursor (surroundings r) c) → FitsBody schemas.bases b → (opened : Outcome CursorState)
      → IsOpenOver (over_of b) values tables opened
      → IsMeant schemas b r.in_module.authorization parameters values tables opened
      → OpensAlike tables d opened (by_name.opened r c)
  by_query (body.Rows b sorts) is q query_is plain plain_is rows order updatable fits opened over h =
      query_opens r known schemas shown database parameters names values given tables same d c meant updatable declares stars b sorts
      (subst (λ x. HasRowsOf known parameters x (body.Rows b sorts)) (sym query_is) rows)
      (subst (λ x. IsSortedBy (query_names_placed (tables_of known) x) (listed_if_any c.order_by) (body.Rows b sorts)) (sym query_is) order)
      opened h
  by_query (body.Updatable u) is (specification s) query_is plain plain_is rows order updatable fits opened over h =
      updatable_opens u is fits s rows query_is updatable.0
      (target_of_query plain (cursor_target (tables_in (setting r))) s updatable.0
      (sym (λ i. option_and_then (λ x. result_ok (cursor_target (tables_in (setting r)) x)) (if plain_is i then only_specification (query_is i) else None)) ∙ updatable.1))
      updatable.1 u.target.is_quiet refl opened over h
  by_query (body.Updatable u) is (union all left right) query_is plain plain_is rows order updatable fits opened over h = absurd rows

  -- It is opened over the same, or ends with the same status.
  pub cursor_opens : IsCursorOf known r.in_module.authorization parameters c d.cursor
      → IsUpdatableAs d.cursor.body (updatable_cursor (surroundings r) c) → FitsBody schemas.bases d.cursor.body
      → (opened : Outcome CursorState) → IsOpenOver (over_of d.cursor.body) values tables opened
      → IsMeant schemas d.cursor.body r.in_module.authorization parameters values tables opened
      → OpensAlike tables d opened (by_name.opened r c)
  cursor_opens is updatable fits opened over h =
      by_query d.cursor.body refl (cursor_query (surroundings r) c) refl (is_plain c) refl is.rows is.order updatable fits opened over h
