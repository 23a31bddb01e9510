-- INSERT, UPDATE and DELETE come to the same by their places and by their names over the tables that
-- accepted schemas declare, as the catalog has them, in which all constraints hold (ISO/IEC 9075:1992,
-- 13.6 to 13.10). Asked for is what binding promises of the statement, and what the rules of
-- well-formed statements say of it: its table may be changed, no set function stands in VALUES, and
-- `*` in no grouped query.
use Rattle.std.proofs.Common.{◌≡◌, ℕ, true, List, length, None, Option, Some, sym, subst, Ok}
use Rattle.std.specs.List.{AllByRecursion, AllZip}
use Rattle.std.specs.Option.{option_and_then}
use Rattle.sq_lex.specs.declared.name.Name.{Name}
use Rattle.sq_tree.specs.declared.schema.SchemaText.{SchemaText}
use Rattle.sq_tree.specs.declared.statement.Delete.{Delete}
use Rattle.sq_tree.specs.declared.statement.Insert.{Insert}
use Rattle.sq_tree.specs.declared.statement.Update.{Update}
use Rattle.sq_store.specs.Content.{Content, row_at, table_at}
use Rattle.sq_store.specs.Rising.{has_rising_rows}
use Rattle.sq_store.specs.declared.table.Numbered.{Numbered}
use Rattle.sq_meaning.specs.Environment.{Input, Row, TableName}
use Rattle.sq_meaning.specs.Spelled.{table_of}
use Rattle.sq_meaning.specs.Status.{Outcome}
use Rattle.sq_meaning.specs.Target.{Target, target_of}
use Rattle.sq_meaning.specs.SchemaRefusal.{elements_of, first_schema_refusal}
use Rattle.sq_meaning.specs.Change as by_name
use Rattle.sq_meaning.specs.Change.{Which, tables_in}
use Rattle.sq_meaning.specs.Constraints.{ConstraintsHold}
use Rattle.sq_bound.specs.Fits.{IsBase, IsColumnOf, under as below}
use Rattle.sq_bound.specs.Known.{KnownTables, under_of}
use Rattle.sq_bound.specs.declared.condition.BoundSpecification.{BoundSpecification}
use Rattle.sq_bound.specs.declared.condition.TablePlace.{TablePlace}
use Rattle.sq_bound.specs.declared.names.BaseTable.{BaseTable as BoundTable}
use Rattle.sq_bound.specs.declared.names.Leaf.{Leaf}
use Rattle.sq_bound.specs.declared.names.ParameterDesc.{ParameterDesc}
use Rattle.sq_bound.specs.declared.query.Target.{Target as BoundTarget}
use Rattle.sq_bound.specs.declared.statement.BoundInsert.{BoundInsert}
use Rattle.sq_bound.specs.declared.statement.BoundUpdate.{BoundUpdate}
use Rattle.sq_bound.specs.declared.statement.ChangeTarget.{ChangeTarget}
use Rattle.sq_bound.specs.declared.statement.ChangeTarget.TheVariants as change
use Rattle.sq_bound.specs.declared.statement.PositionedTarget.{PositionedTarget}
use Rattle.sq_binding.specs.Names.{meant_by}
use Rattle.sq_binding.specs.Written.{IsDeleteOf, IsInsertOf, IsUpdateOf}
use Rattle.sq_catalog.specs.Catalog.{kinds_at}
use Rattle.sq_catalog.specs.Declares.{Declares}
use Rattle.sq_change.specs.Performed as performed
use Rattle.sq_query.specs.Table.{AreMeant}
use Rattle.sq_run.proofs.Changed.Constraints.{IsCheckedAs}
use Rattle.sq_run.proofs.Changed.InDatabase.{IsFound, clause_written, delete_at_comes_to_same, delete_comes_to_same, insert_comes_to_same, update_at_comes_to_same, update_comes_to_same}
use Rattle.sq_run.proofs.Changed.Inserts.{IsSourceRight}
use Rattle.sq_run.proofs.Places.Parameters.{AreNamed}
use Rattle.sq_run.proofs.Sites.Stars.{ClauseStars}
use Rattle.sq_run.proofs.Changed.Statements.{seen_in}
use Rattle.sq_run.proofs.Schemas.ViewTargets.{AreUnder}
use Rattle.sq_run.proofs.Schemas.Declared.{declares_are_under}
use Rattle.sq_run.proofs.Schemas.DeclaredStatements.{declared_database, is_checked, is_found, m, target_found}
use Rattle.sq_run.proofs.Schemas.DeclaredView.{HasKindsOf}
use Rattle.sq_run.proofs.Changed.ReferencesMet.{references_alike}

module _ (texts : List SchemaText) (known : KnownTables) (bases : List BoundTable) (views : List BoundSpecification)
    (d : Declares texts known bases views) (accepted : first_schema_refusal texts ≡ None)
    (kinds : AllZip (HasKindsOf (kinds_at bases views)) d.seen views) (row_numbers : ℕ) (content : Content) (inputs : List Input)
    (caller : Name) (shown : TablePlace → Outcome (List Row)) (meant : AreMeant views content caller shown)
    (count : length content ≡ length bases) (hold : ConstraintsHold (elements_of texts) content) where
  abbrev pub reads : by_name.Setting
  reads = m texts known bases views d accepted kinds row_numbers content inputs caller shown meant count hold

  pub are_under : AreUnder known bases (tables_in reads)
  are_under = declares_are_under texts known bases views d accepted

  -- the table that is named, and how it is checked
  module _ (name : TableName) (leaf : Leaf) (target : Target) (means : target_of (tables_in reads) name ≡ Ok target)
      (is_under : option_and_then (λ k. k.under) (meant_by known name) ≡ Some (under_of leaf))
      (is_base : IsBase bases leaf.table) where
    found : IsFound reads bases name leaf.table
    found = is_found texts known bases views d accepted kinds row_numbers content inputs caller shown meant count hold name leaf target means is_under is_base

    checked : IsCheckedAs reads views shown bases found.base leaf.table
    unfolding found
    checked =
        is_checked texts known bases views d accepted kinds row_numbers content inputs caller shown meant count hold name leaf target means is_under is_base
        (λ after. references_alike texts known bases views d accepted after)

    target_is : found.target ≡ target
    unfolding found
    target_is =
        target_found texts known bases views d accepted kinds row_numbers content inputs caller shown meant count hold name leaf target means is_under is_base

  module _ (parameters : List ParameterDesc) (names : AreNamed parameters inputs) where
    -- ---- INSERT (13.8)

    pub insert_agrees : (i : Insert) (x : BoundInsert) → IsInsertOf known parameters caller i x → IsBase bases x.leaf.table
        → AllByRecursion (IsColumnOf x.leaf.table) x.columns
        → (target : Target) → target_of (tables_in reads) (table_of caller i.table) ≡ Ok target → IsSourceRight caller i.source
        → by_name.insert_outcome reads i ≡ performed.insert_outcome shown (seen_in reads views) bases row_numbers x
    insert_agrees i x is is_base columns target means right =
        insert_comes_to_same reads known (kinds_at bases views) views shown
        (declared_database texts known bases views d accepted kinds row_numbers content inputs caller shown meant count hold) bases are_under
        parameters names i x is (found (table_of caller i.table) x.leaf target means is.under is_base) columns right
        (checked (table_of caller i.table) x.leaf target means is.under is_base)

    -- ---- DELETE (13.6 and 13.7)

    pub delete_agrees : (IsNumberOf : Name → ℕ → Type 0) (x : Delete) (t : BoundTarget) (on : Option ℕ)
        → IsDeleteOf IsNumberOf known parameters caller x (change.Searched t) → IsBase bases t.leaf.table
        → (target : Target) → target_of (tables_in reads) (table_of caller x.table) ≡ Ok target
        → ClauseStars (clause_written reads known (kinds_at bases views) views shown
        (declared_database texts known bases views d accepted kinds row_numbers content inputs caller shown meant count hold) bases are_under parameters names x.target)
        → by_name.delete_outcome reads x (Which.searched (clause_written reads known (kinds_at bases views) views shown
        (declared_database texts known bases views d accepted kinds row_numbers content inputs caller shown meant count hold) bases are_under parameters names x.target))
        ≡ performed.delete_outcome shown (seen_in reads views) bases (change.Searched t) on
    delete_agrees IsNumberOf x t on is is_base target means stars =
        delete_comes_to_same reads known (kinds_at bases views) views shown
        (declared_database texts known bases views d accepted kinds row_numbers content inputs caller shown meant count hold) bases are_under
        parameters names IsNumberOf x t on is (found (table_of caller x.table) t.leaf target means is.is_under is_base) stars
        (checked (table_of caller x.table) t.leaf target means is.is_under is_base)

    -- A positioned statement changes the row that a cursor is on.
    pub delete_at_agrees : (IsNumberOf : Name → ℕ → Type 0) (x : Delete) (p : PositionedTarget)
        → IsDeleteOf IsNumberOf known parameters caller x (change.Positioned p) → IsBase bases p.leaf.table
        → (target : Target) → target_of (tables_in reads) (table_of caller x.table) ≡ Ok target
        → (number : ℕ) (r : Numbered) → row_at (table_at content target.place) number ≡ Some r
        → by_name.delete_outcome reads x (Which.numbered number)
        ≡ performed.delete_outcome shown (seen_in reads views) bases (change.Positioned p) (Some number)
    delete_at_agrees IsNumberOf x p is is_base target means number r there =
        delete_at_comes_to_same reads known (kinds_at bases views) views shown
        (declared_database texts known bases views d accepted kinds row_numbers content inputs caller shown meant count hold) bases are_under
        parameters names IsNumberOf x p is (found (table_of caller x.table) p.leaf target means is.is_under is_base) number r
        (subst (λ (s : Target). row_at (table_at content s.place) number ≡ Some r) (sym (target_is (table_of caller x.table) p.leaf target means is.is_under is_base)) there)
        (checked (table_of caller x.table) p.leaf target means is.is_under is_base)

    -- ---- UPDATE (13.9 and 13.10)

    module _ (IsNumberOf : Name → ℕ → Type 0) (u : Update) (bound : BoundUpdate)
        (is : IsUpdateOf IsNumberOf known parameters caller u bound) (target : Target)
        (means : target_of (tables_in reads) (table_of caller u.table) ≡ Ok target)
        (rising : has_rising_rows (table_at content target.place) ≡ true) where
      under_is : (t : ChangeTarget) → bound.target ≡ t
          → option_and_then (λ k. k.under) (meant_by known (table_of caller u.table)) ≡ Some (under_of (below t))
      under_is t e = subst (λ s. option_and_then (λ k. k.under) (meant_by known (table_of caller u.table)) ≡ Some (under_of (below s))) e is.is_under

      pub update_agrees : (t : BoundTarget) (on : Option ℕ) → bound.target ≡ change.Searched t → IsBase bases t.leaf.table
          → AllByRecursion (λ a. IsColumnOf t.leaf.table a.column) bound.assignments
          → ClauseStars (clause_written reads known (kinds_at bases views) views shown
          (declared_database texts known bases views d accepted kinds row_numbers content inputs caller shown meant count hold) bases are_under parameters names u.target)
          → by_name.update_outcome reads u (Which.searched (clause_written reads known (kinds_at bases views) views shown
          (declared_database texts known bases views d accepted kinds row_numbers content inputs caller shown meant count hold) bases are_under parameters names u.target))
          ≡ performed.update_outcome shown (seen_in reads views) bases bound on
      update_agrees t on is_searched is_base columns stars =
          update_comes_to_same reads known (kinds_at bases views) views shown
          (declared_database texts known bases views d accepted kinds row_numbers content inputs caller shown meant count hold) bases are_under
          parameters names IsNumberOf u bound t on is_searched is
          (found (table_of caller u.table) t.leaf target means (under_is (change.Searched t) is_searched) is_base) columns stars
          (subst (λ (s : Target). has_rising_rows (table_at content s.place) ≡ true) (sym (target_is (table_of caller u.table) t.leaf target means (under_is (change.Searched t) is_searched) is_base)) rising)
          (checked (table_of caller u.table) t.leaf target means (under_is (change.Searched t) is_searched) is_base)

      -- A positioned statement changes the row that a cursor is on.
      pub update_at_agrees : (p : PositionedTarget) → bound.target ≡ change.Positioned p → IsBase bases p.leaf.table
          → AllByRecursion (λ a. IsColumnOf p.leaf.table a.column) bound.assignments
          → (number : ℕ) (r : Numbered) → row_at (table_at content target.place) number ≡ Some r
          → by_name.update_outcome reads u (Which.numbered number)
          ≡ performed.update_outcome shown (seen_in reads views) bases bound (Some number)
      update_at_agrees p is_positioned is_base columns number r there =
          update_at_comes_to_same reads known (kinds_at bases views) views shown
          (declared_database texts known bases views d accepted kinds row_numbers content inputs caller shown meant count hold) bases are_under
          parameters names IsNumberOf u bound p is_positioned is
          (found (table_of caller u.table) p.leaf target means (under_is (change.Positioned p) is_positioned) is_base) columns number r
          (subst (λ (s : Target). row_at (table_at content s.place) number ≡ Some r) (sym (target_is (table_of caller u.table) p.leaf target means (under_is (change.Positioned p) is_positioned) is_base)) there)
          (subst (λ (s : Target). has_rising_rows (table_at content s.place) ≡ true) (sym (target_is (table_of caller u.table) p.leaf target means (under_is (change.Positioned p) is_positioned) is_base)) rising)
          (checked (table_of caller u.table) p.leaf target means (under_is (change.Positioned p) is_positioned) is_base)
