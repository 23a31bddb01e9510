-- Over the tables that accepted schemas declare, in which all constraints hold, what INSERT, UPDATE and
-- DELETE read by their names and by their places is the same database (ISO/IEC 9075:1992, 13.6 to 13.10):
-- the table that is named, and how it is checked.
use Rattle.std.proofs.Common.{◌≡◌, ℕ, zero, suc, ◌<◌, Bool, true, false, cond, List, [], ◌∷◌, length, Option, Some, None, refl, sym, ap, subst, ◌∙◌, Ok}
use Rattle.std.proofs.lemmas.Bool.{lt-ltb}
use Rattle.std.proofs.lemmas.Option.{slice_get_within}
use Rattle.std.specs.Prelude.{find, slice_get}
use Rattle.std.specs.List.{AllZip}
use Rattle.std.specs.Option.{option_and_then}
use Rattle.sq_lex.specs.declared.name.Name.{Name}
use Rattle.sq_tree.specs.declared.schema.SchemaText.{SchemaText}
use Rattle.sq_store.specs.Content.{Content, table_at}
use Rattle.sq_meaning.specs.Environment.{Input, Row, TableName, same_table}
use Rattle.sq_meaning.specs.Status.{Outcome, and_then, well_formed}
use Rattle.sq_meaning.specs.Tables.{TableDescriptor, Tables, base_table, viewed_table, descriptor_of, rows_in}
use Rattle.sq_meaning.specs.Target.{Target, base_target, places_of, seen_through, target_of, updatable_source, with_check_option}
use Rattle.sq_meaning.specs.WellFormed.{AreRowsOf}
use Rattle.sq_meaning.specs.declared.status.Status.TheVariants.{IntegrityConstraintViolation}
use Rattle.sq_meaning.specs.Schema.{BaseTable, base_tables}
use Rattle.sq_meaning.specs.SchemaRefusal.{elements_of, first_schema_refusal}
use Rattle.sq_meaning.specs.Change as by_name
use Rattle.sq_meaning.specs.Change.{outer_env, tables_in}
use Rattle.sq_meaning.specs.Constraints.{ConstraintsHold, all_satisfied, demanded, references_satisfied}
use Rattle.sq_bound.specs.Fits.{IsBase}
use Rattle.sq_bound.specs.Known.{KnownTables, under_of}
use Rattle.sq_bound.specs.WellFormed.{base_kinds}
use Rattle.sq_bound.specs.declared.condition.BoundSpecification.{BoundSpecification}
use Rattle.sq_bound.specs.declared.condition.TablePlace.{TablePlace}
use Rattle.sq_bound.specs.declared.names.BaseTable.{BaseTable as BoundTable}
use Rattle.sq_bound.specs.declared.names.Leaf.{Leaf}
use Rattle.sq_binding.proofs.Standing.Levels.{all_at}
use Rattle.sq_binding.specs.Names.{meant_by}
use Rattle.sq_run.proofs.Laws.CallLaws.{NamesDiffer}
use Rattle.sq_run.proofs.Laws.NameLaws.{accepted_names_differ}
use Rattle.sq_catalog.specs.Catalog.{kinds_at}
use Rattle.sq_catalog.specs.Declares.{Declares}
use Rattle.sq_change.specs.Constraints.{references_met}
use Rattle.sq_query.specs.Table.{AreMeant}
use Rattle.sq_run.proofs.Changed.Constraints.{IsCheckedAs}
use Rattle.sq_run.proofs.Places.Databases.{IsDatabase, database_fits}
use Rattle.sq_run.proofs.Changed.InDatabase.{IsFound, known_under}
use Rattle.sq_run.proofs.Changed.Statements.{call_seen, outer_places}
use Rattle.sq_run.proofs.Schemas.ViewTargets.{each_target}
use Rattle.sq_run.proofs.Schemas.Declared.{declares_are_under, declares_database}
use Rattle.sq_run.proofs.Schemas.DeclaredChecks.{keys_held, row_checked_as}
use Rattle.sq_run.proofs.Schemas.DeclaredContent.{rows_hold, rows_of_kinds}
use Rattle.sq_run.proofs.Schemas.DeclaredTables.{IsBaseAs, IsSoundTable, all_bases, sound_tables, table_as}
use Rattle.sq_run.proofs.Schemas.DeclaredView.{HasKindsOf}

-- ---- lists

-- what is said of two lists place by place, from the second on
pub zip_back : {A B : Type 0} (R : A → B → Type 0) (xs : List A) (ys : List B) (n : ℕ) (y : B) → AllZip R xs ys
    → slice_get ys n ≡ Some y → (x : A) × (slice_get xs n ≡ Some x) × R x y
zip_back R [] [] n y h e = cc
zip_back R [] (v ∷ ys) n y h e = absurd h
zip_back R (x ∷ xs) [] n y h e = absurd h
zip_back R (x ∷ xs) (v ∷ ys) zero y h e = let same : v ≡ y = cc in (x, refl, subst (λ w. R x w) same h.0)
zip_back R (x ∷ xs) (v ∷ ys) (suc n) y h e = zip_back R xs ys n y h.1 e

-- ---- a table that is there

-- where a name has a target there is a table or view of the name
described : (tables : Tables) (name : TableName) (target : Target) → target_of tables name ≡ Ok target
    → (d : TableDescriptor) × (descriptor_of tables name ≡ Ok d)
described [] name target e = cc
described (d ∷ earlier) name target e = by_name_same (same_table d.table name) (described earlier name target) e
  where
    by_name_same : (b : Bool)
        → (target_of earlier name ≡ Ok target → (x : TableDescriptor) × (descriptor_of earlier name ≡ Ok x))
        → (elim b as (λ _. Outcome Target) [
          | false ↦ target_of earlier name
          | true ↦ elim d.body as (λ _. Outcome Target) [
            | base_table place ↦ Ok (base_target place (places_of d.columns))
            | viewed_table q check_option ↦ and_then (updatable_source earlier q) (λ source. and_then (target_of earlier source.item.reference.table) (λ under. Ok (with_check_option check_option (seen_through source under))))
          ]
        ]) ≡ Ok target
        → (x : TableDescriptor) × (well_formed (cond b (Some d) (find (λ e. same_table e.table name) earlier)) ≡ Ok x)
    by_name_same false others e = others e
    by_name_same true others e = (d, refl)

module _ (texts : List SchemaText) (known : KnownTables) (bases : List BoundTable) (views : List BoundSpecification)
    (d : Declares texts known bases views) (accepted : first_schema_refusal texts ≡ None)
    (kinds : AllZip (HasKindsOf (kinds_at bases views)) d.seen views) (row_numbers : ℕ) (content : Content) (inputs : List Input)
    (caller : Name) (shown : TablePlace → Outcome (List Row)) (meant : AreMeant views content caller shown)
    (count : length content ≡ length bases) (hold : ConstraintsHold (elements_of texts) content) where
  -- what a statement of a call reads
  abbrev pub m : by_name.Setting
  m = record { elements = elements_of texts; row_numbers = row_numbers; content = content; inputs = inputs; user = caller }

  differ : NamesDiffer (elements_of texts)
  differ = accepted_names_differ texts accepted

  bases_are : AllZip IsBaseAs (base_tables (elements_of texts)) bases
  bases_are = all_bases texts known bases views d

  rows_are : (n : ℕ) (b : BoundTable) → slice_get bases n ≡ Some b → AreRowsOf (base_kinds b) (rows_in (table_at content n))
  rows_are n b at =
      let found = zip_back IsBaseAs (base_tables (elements_of texts)) bases n b bases_are at in
      rows_of_kinds (elements_of texts) differ content hold n found.0 found.1 b found.2

  -- It is a database in two readings.
  pub declared_database : IsDatabase (tables_in m) m.content m.user known (kinds_at bases views) views shown
  declared_database = declares_database texts known bases views d accepted kinds content caller shown meant count rows_are

  -- ---- the table that a statement names

  module _ (name : TableName) (leaf : Leaf) (target : Target) (means : target_of (tables_in m) name ≡ Ok target)
      (is_under : option_and_then (λ k. k.under) (meant_by known name) ≡ Some (under_of leaf))
      (is_base : IsBase bases leaf.table) where
    pub place_is : target.place ≡ leaf.table.place
    place_is =
        let k = known_under (meant_by known name) (under_of leaf) is_under in
        (each_target (tables_in m) content caller known (kinds_at bases views) views shown bases meant
        (database_fits (tables_in m) content caller known (kinds_at bases views) views shown declared_database [])
        (outer_env m) (outer_places m) (call_seen m [] tt) (tables_in m) declared_database.kept declared_database.declared
        (declares_are_under texts known bases views d accepted) name target means k.0 k.1 (under_of leaf) k.2).place

    -- The definitions find what is bound, where they find a target.
    pub is_found : IsFound m bases name leaf.table
    is_found =
        let own = described (tables_in m) name target means in
        let base = zip_back IsBaseAs (base_tables (elements_of texts)) bases leaf.table.place leaf.table bases_are is_base in
        record {
          descriptor = own.0;
          is_there = own.1;
          target = target;
          means = means;
          base = base.0;
          is_base = ap (λ n. well_formed (slice_get (base_tables (elements_of texts)) n)) place_is ∙ ap (λ (o : Option BaseTable). well_formed o) base.1;
          base_is = table_as base.0 leaf.table base.2;
          stands = is_base;
        }

    -- with that target
    pub target_found : is_found.target ≡ target
    unfolding is_found
    target_found = refl

    -- ---- how it is checked

    -- It is checked as it is written, where references are met alike.
    pub is_checked : ((after : Content) → all_satisfied (references_satisfied (elements_of texts) after) (base_tables (elements_of texts))
        ≡ demanded (references_met bases after) IntegrityConstraintViolation)
        → IsCheckedAs m views shown bases is_found.base leaf.table
    unfolding is_found
    is_checked references =
        let base = zip_back IsBaseAs (base_tables (elements_of texts)) bases leaf.table.place leaf.table bases_are is_base in
        let sound = all_at IsSoundTable (base_tables (elements_of texts)) leaf.table.place base.0 (sound_tables texts accepted) base.1 in
        record {
          place = differ leaf.table.place base.0 base.1;
          stored = lt-ltb leaf.table.place (length content) (subst (λ k. leaf.table.place < k) (sym count) (slice_get_within bases leaf.table.place leaf.table is_base));
          rows = row_checked_as base.0 leaf.table base.2 sound.once sound.of_row;
          keys_are = keys_held base.0.definition leaf.table.keys base.2.keys;
          references = references;
          held = rows_hold (elements_of texts) differ content hold leaf.table.place base.0 base.1;
        }
