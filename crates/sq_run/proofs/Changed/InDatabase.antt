-- What binding promises of INSERT, UPDATE and DELETE (`IsInsertOf`, `IsUpdateOf`, `IsDeleteOf`) is enough, in a database whose tables and
-- views are as they are declared: the statements come to the same by their places and by their names (ISO/IEC 9075:1992, 13.6 to 13.10).
use Rattle.std.proofs.Common.{◌≡◌, ℕ, true, List, [], ◌∷◌, Option, Some, None, refl, sym, ap, subst, ◌∙◌, Ok}
use Rattle.std.specs.Prelude.{slice_get}
use Rattle.std.specs.List.{AllByRecursion}
use Rattle.std.specs.Option.{option_and_then, option_map}
use Rattle.sq_lex.specs.declared.name.Name.{Name}
use Rattle.sq_store.specs.Content.{row_at, table_at}
use Rattle.sq_store.specs.Rising.{has_rising_rows}
use Rattle.sq_store.specs.declared.table.Numbered.{Numbered}
use Rattle.sq_tree.specs.declared.statement.Delete.{Delete}
use Rattle.sq_tree.specs.declared.statement.Insert.{Insert}
use Rattle.sq_tree.specs.declared.statement.Update.{Update}
use Rattle.sq_tree.specs.declared.statement.Where.{Where}
use Rattle.sq_tree.specs.declared.statement.Where.TheVariants as where_is
use Rattle.sq_meaning.specs.Environment.{TableName}
use Rattle.sq_meaning.specs.Spelled.{Named, cond_of, listed, table_of}
use Rattle.sq_meaning.specs.Status.{and_then, well_formed}
use Rattle.sq_meaning.specs.Syntax.{Clause, absent, present}
use Rattle.sq_meaning.specs.Tables.{TableDescriptor, descriptor_of}
use Rattle.sq_meaning.specs.Target.{Target, target_of}
use Rattle.sq_meaning.specs.Schema.{BaseTable}
use Rattle.sq_meaning.specs.Change as by_name
use Rattle.sq_meaning.specs.Change.{Which, base_at, outer_env, tables_in}
use Rattle.sq_bound.specs.Condition.{clause_of}
use Rattle.sq_bound.specs.Fits.{IsColumnOf, under as below}
use Rattle.sq_bound.specs.Known.{KnownTable, KnownTables, Under, under_of}
use Rattle.sq_bound.specs.WellFormed.{TableKinds}
use Rattle.sq_bound.specs.declared.condition.BoundSpecification.{BoundSpecification}
use Rattle.sq_bound.specs.declared.names.BaseTable.{BaseTable as BoundTable}
use Rattle.sq_bound.specs.declared.names.Leaf.{Leaf}
use Rattle.sq_bound.specs.declared.names.ObjectColumn.{ObjectColumn}
use Rattle.sq_bound.specs.declared.names.ParameterDesc.{ParameterDesc}
use Rattle.sq_bound.specs.declared.query.Target.{Target as BoundTarget}
use Rattle.sq_bound.specs.declared.statement.BoundInsert.{BoundInsert}
use Rattle.sq_bound.specs.declared.statement.BoundUpdate.{BoundUpdate}
use Rattle.sq_bound.specs.declared.statement.ChangeTarget.TheVariants as change
use Rattle.sq_bound.specs.declared.statement.PositionedTarget.{PositionedTarget}
use Rattle.sq_binding.specs.PlacedQuery.{clause_placed}
use Rattle.sq_binding.specs.Select.{of_lines}
use Rattle.sq_binding.specs.Names.{meant_by, outside}
use Rattle.sq_binding.specs.Written.{AreInto, AreSetTo, IntoTable, IsDeleteOf, IsInsertOf, IsTargetOf, IsUpdateOf, SetOn, filter_on, filter_placed, item_at_leaf}
use Rattle.sq_change.specs.Made.{Shown}
use Rattle.sq_change.specs.Performed as performed
use Rattle.sq_run.proofs.Changed.Changes.{positioned_chosen, searched_chosen}
use Rattle.sq_run.proofs.Changed.Constraints.{IsCheckedAs}
use Rattle.sq_run.proofs.Places.Databases.{IsDatabase, database_fits}
use Rattle.sq_run.proofs.Changed.Inserts.{IsInsertIn, IsSourceRight}
use Rattle.sq_run.proofs.Places.Parameters.{AreNamed}
use Rattle.sq_run.proofs.Changed.Performed.{delete_outcome_same, insert_outcome_same, update_outcome_same}
use Rattle.sq_run.proofs.Changed.Searched.{IsSearchIn}
use Rattle.sq_run.proofs.Sites.Stars.{ClauseStars}
use Rattle.sq_run.proofs.Changed.Statements.{IsTableAs, IsTableIn, call_seen, outer_places, seen_in}
use Rattle.sq_run.proofs.Schemas.ViewTargets.{AreUnder, each_target, names_there}

-- ---- the table that a statement names

-- The definitions find a table or an updatable view of the name, and the base table under it; this is among the bound ones, with the
-- columns of its definition (which the rules of well-formed statements and the catalog say).
pub record IsFound (m : by_name.Setting) (bases : List BoundTable) (name : TableName) (b : BoundTable) : Type 0 where
  pub descriptor : TableDescriptor
  pub is_there : descriptor_of (tables_in m) name ≡ Ok descriptor
  pub target : Target
  pub means : target_of (tables_in m) name ≡ Ok target
  pub base : BaseTable
  pub is_base : base_at m target.place ≡ Ok base
  pub base_is : IsTableAs base b
  pub stands : slice_get bases b.place ≡ Some b

-- what is known under a name that may be changed
pub known_under : (o : Option KnownTable) (u : Under) → option_and_then (λ k. k.under) o ≡ Some u
    → (k : KnownTable) × (o ≡ Some k) × (k.under ≡ Some u)
known_under None u e = cc
known_under (Some k) u e = (k, refl, e)

into_known : (o : Option KnownTable) (k : KnownTable) → o ≡ Some k → (i : Insert) (objects : List ObjectColumn)
    → IntoTable o i.columns objects → AreInto k.columns i.columns objects
into_known o k e i objects h = subst (λ found. IntoTable found i.columns objects) e h

module _ (m : by_name.Setting) (known : KnownTables) (kinds : TableKinds) (queries : List BoundSpecification) (shown : Shown)
    (database : IsDatabase (tables_in m) m.content m.user known kinds queries shown)
    (bases : List BoundTable) (under : AreUnder known bases (tables_in m)) where
  -- each table that a statement names is known as it is declared
  pub table_in_database : (name : TableName) (leaf : Leaf) → IsFound m bases name leaf.table
      → option_and_then (λ k. k.under) (meant_by known name) ≡ Some (under_of leaf) → IsTableIn m known shown bases name leaf
  table_in_database name leaf found is_under =
      let k = known_under (meant_by known name) (under_of leaf) is_under in
      record {
        descriptor = found.descriptor;
        is_there = found.is_there;
        target = found.target;
        means = found.means;
        base = found.base;
        is_base = found.is_base;
        table = k.0;
        is_known = k.1;
        names = names_there (tables_in m) m.content m.user known kinds queries shown bases database.meant (tables_in m) database.kept database.declared name found.descriptor found.is_there k.0 k.1;
        under = each_target (tables_in m) m.content m.user known kinds queries shown bases database.meant
            (database_fits (tables_in m) m.content m.user known kinds queries shown database []) (outer_env m) (outer_places m)
            (call_seen m [] tt)
            (tables_in m) database.kept database.declared under name found.target found.means k.0 k.1 (under_of leaf) k.2;
        base_is = found.base_is;
        stands = found.stands;
      }

  module _ (parameters : List ParameterDesc) (names : AreNamed parameters m.inputs) where
    -- ---- INSERT (13.8)

    pub insert_comes_to_same : (i : Insert) (x : BoundInsert) → IsInsertOf known parameters m.user i x
        → (found : IsFound m bases (table_of m.user i.table) x.leaf.table) → AllByRecursion
        (IsColumnOf x.leaf.table) x.columns → IsSourceRight m.user i.source
        → IsCheckedAs m queries shown bases found.base x.leaf.table
        → by_name.insert_outcome m i ≡ performed.insert_outcome shown (seen_in m queries) bases m.row_numbers x
    unfolding table_in_database
    insert_comes_to_same i x is found columns right same =
        insert_outcome_same m queries known shown bases parameters names
        (database_fits (tables_in m) m.content m.user known kinds queries shown database parameters) i x is_in same
      where
        is_in : IsInsertIn m known shown bases parameters i x
        is_in =
            let table = table_in_database (table_of m.user i.table) x.leaf found is.under in
            record {
              table = table;
              into = into_known (meant_by known (table_of m.user i.table)) table.table table.is_known i x.columns is.columns;
              are_columns = columns;
              right = right;
              source_is = is.source;
            }

    -- ---- the search condition of UPDATE and DELETE

    -- the condition that is written, or none
    abbrev pub clause_written : Option Where → Clause Named
    clause_written None = absent
    clause_written (Some (where_is.Condition c)) = present (cond_of m.user c)
    clause_written (Some (where_is.CurrentOf cursor)) = absent

    condition_placed : (IsNumberOf : Name → ℕ → Type 0) (name : TableName) (k : KnownTable) → meant_by known name ≡ Some k
        → (w : Option Where) (x : BoundTarget)
        → IsTargetOf IsNumberOf (filter_placed known parameters m.user name) w (change.Searched x)
        → clause_placed (of_lines (item_at_leaf name k ∷ []) (outside known parameters)) (clause_written w)
        ≡ Ok (clause_of [] x.condition)
    condition_placed IsNumberOf name k is_known None x h = ap (λ o. Ok (clause_of [] o)) (sym h)
    condition_placed IsNumberOf name k is_known (Some (where_is.Condition c)) x h =
        sym (ap (λ o. and_then (well_formed (option_map (item_at_leaf name) o)) (λ item. filter_on (outside known parameters) m.user item c)) is_known)
        ∙ h []
    condition_placed IsNumberOf name k is_known (Some (where_is.CurrentOf cursor)) x h = absurd h

    search_in_database : (IsNumberOf : Name → ℕ → Type 0) (name : TableName) (w : Option Where) (x : BoundTarget)
        → IsFound m bases name x.leaf.table
        → option_and_then (λ k. k.under) (meant_by known name) ≡ Some (under_of x.leaf)
        → IsTargetOf IsNumberOf (filter_placed known parameters m.user name) w (change.Searched x)
        → ClauseStars (clause_written w) → IsSearchIn m known shown bases parameters name (clause_written w) x
    search_in_database IsNumberOf name w x found is_under rows stars =
        let table = table_in_database name x.leaf found is_under in
        record {
          table = table;
          own = condition_placed IsNumberOf name table.table table.is_known w x rows;
          stars = stars;
        }

    -- ---- DELETE (13.6 and 13.7)

    pub delete_comes_to_same : (IsNumberOf : Name → ℕ → Type 0) (d : Delete) (x : BoundTarget) (on : Option ℕ)
        → IsDeleteOf IsNumberOf known parameters m.user d (change.Searched x)
        → (found : IsFound m bases (table_of m.user d.table) x.leaf.table) → ClauseStars (clause_written d.target)
        → IsCheckedAs m queries shown bases found.base x.leaf.table
        → by_name.delete_outcome m d (Which.searched (clause_written d.target))
        ≡ performed.delete_outcome shown (seen_in m queries) bases (change.Searched x) on
    unfolding search_in_database table_in_database
    delete_comes_to_same IsNumberOf d x on is found stars same =
        delete_outcome_same m queries known shown bases name (change.Searched x) is_in.table (clause_written d.target)
        (Which.searched (clause_written d.target)) on
        (searched_chosen m queries known shown bases parameters names (database_fits (tables_in m) m.content m.user known kinds queries shown database parameters) name (clause_written d.target) x is_in on)
        d refl same
      where
        name : TableName
        name = table_of m.user d.table

        is_in : IsSearchIn m known shown bases parameters name (clause_written d.target) x
        is_in = search_in_database IsNumberOf name d.target x found is.is_under is.rows stars

    -- A positioned statement changes the row that a cursor is on.
    pub delete_at_comes_to_same : (IsNumberOf : Name → ℕ → Type 0) (d : Delete) (p : PositionedTarget)
        → IsDeleteOf IsNumberOf known parameters m.user d (change.Positioned p)
        → (found : IsFound m bases (table_of m.user d.table) p.leaf.table) → (number : ℕ) (r : Numbered) → row_at
        (table_at m.content found.target.place) number ≡ Some r
        → IsCheckedAs m queries shown bases found.base p.leaf.table
        → by_name.delete_outcome m d (Which.numbered number)
        ≡ performed.delete_outcome shown (seen_in m queries) bases (change.Positioned p) (Some number)
    unfolding table_in_database
    delete_at_comes_to_same IsNumberOf d p is found number r there same =
        let table = table_in_database (table_of m.user d.table) p.leaf found is.is_under in
        delete_outcome_same m queries known shown bases (table_of m.user d.table) (change.Positioned p) table absent
        (Which.numbered number) (Some number)
        (positioned_chosen m queries known shown bases (table_of m.user d.table) p table number r there) d refl same

    -- ---- UPDATE (13.9 and 13.10)

    pub update_comes_to_same : (IsNumberOf : Name → ℕ → Type 0) (u : Update) (bound : BoundUpdate) (x : BoundTarget)
        (on : Option ℕ)
        → bound.target ≡ change.Searched x
        → IsUpdateOf IsNumberOf known parameters m.user u bound
        → (found : IsFound m bases (table_of m.user u.table) x.leaf.table) → AllByRecursion
        (λ a. IsColumnOf x.leaf.table a.column) bound.assignments → ClauseStars (clause_written u.target)
        → has_rising_rows (table_at m.content found.target.place) ≡ true
        → IsCheckedAs m queries shown bases found.base x.leaf.table
        → by_name.update_outcome m u (Which.searched (clause_written u.target))
        ≡ performed.update_outcome shown (seen_in m queries) bases bound on
    unfolding search_in_database table_in_database
    update_comes_to_same IsNumberOf u bound x on is_searched is found columns stars rising same =
        update_outcome_same m queries known shown bases name (change.Searched x) is_in.table (clause_written u.target)
        (Which.searched (clause_written u.target)) on
        (searched_chosen m queries known shown bases parameters names (database_fits (tables_in m) m.content m.user known kinds queries shown database parameters) name (clause_written u.target) x is_in on)
        parameters names u rising bound refl is_searched set columns same
      where
        name : TableName
        name = table_of m.user u.table

        is_in : IsSearchIn m known shown bases parameters name (clause_written u.target) x
        is_in =
            search_in_database IsNumberOf name u.target x found
            (subst (λ t. option_and_then (λ k. k.under) (meant_by known name) ≡ Some (under_of (below t))) is_searched is.is_under)
            (subst (IsTargetOf IsNumberOf (filter_placed known parameters m.user name) u.target) is_searched is.rows) stars

        set : AreSetTo (of_lines (item_at_leaf name is_in.table.table ∷ []) (outside known parameters)) is_in.table.table.columns
            (listed u.assignments) bound.assignments
        set =
            subst (λ o. SetOn (outside known parameters) name o (listed u.assignments) bound.assignments) is_in.table.is_known is.values

    -- A positioned statement changes the row that a cursor is on.
    pub update_at_comes_to_same : (IsNumberOf : Name → ℕ → Type 0) (u : Update) (bound : BoundUpdate) (p : PositionedTarget)
        → bound.target ≡ change.Positioned p
        → IsUpdateOf IsNumberOf known parameters m.user u bound
        → (found : IsFound m bases (table_of m.user u.table) p.leaf.table) → AllByRecursion
        (λ a. IsColumnOf p.leaf.table a.column) bound.assignments
        → (number : ℕ) (r : Numbered) → row_at (table_at m.content found.target.place) number
        ≡ Some r → has_rising_rows (table_at m.content found.target.place) ≡ true
        → IsCheckedAs m queries shown bases found.base p.leaf.table
        → by_name.update_outcome m u (Which.numbered number)
        ≡ performed.update_outcome shown (seen_in m queries) bases bound (Some number)
    unfolding table_in_database
    update_at_comes_to_same IsNumberOf u bound p is_positioned is found columns number r there rising same =
        update_outcome_same m queries known shown bases name (change.Positioned p) table absent (Which.numbered number)
        (Some number)
        (positioned_chosen m queries known shown bases name p table number r there) parameters names u rising bound refl is_positioned set columns same
      where
        name : TableName
        name = table_of m.user u.table

        table : IsTableIn m known shown bases name p.leaf
        table =
            table_in_database name p.leaf found
            (subst (λ t. option_and_then (λ k. k.under) (meant_by known name) ≡ Some (under_of (below t))) is_positioned is.is_under)

        set : AreSetTo (of_lines (item_at_leaf name table.table ∷ []) (outside known parameters)) table.table.columns
            (listed u.assignments) bound.assignments
        set =
            subst (λ o. SetOn (outside known parameters) name o (listed u.assignments) bound.assignments) table.is_known is.values
