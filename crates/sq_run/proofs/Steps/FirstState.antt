-- Before the first call a session is to the machine what calls keep (ISO/IEC 9075:1992, 4.21): all tables
-- are empty, and all cursors closed.
use Rattle.std.proofs.Common.{◌≡◌, ℕ, zero, suc, Bool, true, false, cond, ◌&&◌, ◌||◌, List, [], ◌∷◌, ◌++◌, length, map, Some, refl, sym, ap, subst, ◌∙◌}
use Rattle.std.proofs.lemmas.List.Folds.{list_any-append}
use Rattle.std.specs.List.{AllByRecursion, flat_map, list_any}
use Rattle.std.specs.Prelude.{find, slice_get}
use Rattle.std.proofs.lemmas.Bool.{and_parts}
use Rattle.sq_lex.specs.declared.name.Name.{Name}
use Rattle.sq_tree.specs.declared.«module».Cursor.{Cursor}
use Rattle.sq_tree.specs.declared.«module».ModuleText.{ModuleText}
use Rattle.sq_tree.specs.declared.schema.SchemaText.{SchemaText}
use Rattle.sq_store.specs.Content.{Content, empty, no_rows, table_at}
use Rattle.sq_store.specs.Rising.{has_rising_rows}
use Rattle.sq_meaning.specs.Environment.{same_name}
use Rattle.sq_meaning.specs.Catalog.{base_count}
use Rattle.sq_meaning.specs.Module.{cursor_named, cursors, module_named}
use Rattle.sq_meaning.specs.SchemaRefusal.{elements_of}
use Rattle.sq_run.proofs.Laws.NameLaws.{hold_at_first}
use Rattle.sq_meaning.specs.Cursor as machine
use Rattle.sq_meaning.specs.Machine as by_name
use Rattle.sq_meaning.specs.Machine.{CursorEntry, all_closed, cursor_at, entries_of, first_state, is_entry}
use Rattle.sq_meaning.specs.Run.{program_of}
use Rattle.sq_bound.specs.Fits.{keys_of_bases}
use Rattle.sq_bound.specs.Known.{KnownTables}
use Rattle.sq_bound.specs.declared.names.BaseTable.{BaseTable as BoundTable}
use Rattle.sq_catalog.specs.Catalog.{declared_definitions, declared_tables}
use Rattle.sq_catalog.specs.declared.catalog.FullName.{FullName}
use Rattle.sq_tree.specs.declared.schema.TableDefinition.{TableDefinition}
use Rattle.sq_catalog.specs.Base.{AreBasesOf}
use Rattle.sq_module.specs.declared.program.DeclaredCursor.{DeclaredCursor}
use Rattle.sq_module.specs.declared.program.Program.{Program}
use Rattle.sq_session.specs.Cursors.{are_over, is_over}
use Rattle.sq_session.specs.Kind.{over_of}
use Rattle.sq_session.specs.Schemas.{Schemas}
use Rattle.sq_session.specs.State.{AreClosed, State}
use Rattle.sq_session.specs.State as session
use Rattle.sq_session.specs.declared.cursor.CursorState.{CursorState}
use Rattle.sq_session.specs.declared.cursor.CursorState.TheVariants as cursor
use Rattle.sq_run.proofs.Schemas.Created.{declared_tables_are}
use Rattle.sq_run.proofs.Schemas.Declared.{tables_counted}
use Rattle.sq_run.proofs.OpenCursors.SameCursors.{AreSame}
use Rattle.sq_run.proofs.Steps.SameStates.{SameCursor}
use Rattle.sq_run.proofs.Steps.Agrees.{Agrees, module_of, name_of}
use Rattle.sq_run.proofs.Steps.Exact.{IsBoundExactly, IsCursorExactly, IsOpenedFrom}
use Rattle.sq_run.proofs.Steps.Moves.{AllRise}
use Rattle.sq_run.proofs.Steps.Projected.{closed_found, entry_of, state_at}

-- ---- empty tables

none_at : (n k : ℕ) → table_at (no_rows n) k ≡ empty
none_at zero k = refl
none_at (suc n) zero = refl
none_at (suc n) (suc k) = none_at n k

pub empty_rise : (n : ℕ) → AllRise (no_rows n)
empty_rise n k = ap has_rising_rows (none_at n k)

pub empty_count : (n : ℕ) → length (no_rows n) ≡ n
empty_count zero = refl
empty_count (suc n) = ap suc (empty_count n)

-- There are as many tables as base tables.
based_count : (ns : List FullName) (ds : List TableDefinition) (bs : List BoundTable) → AreBasesOf ns ds bs → length ns ≡ length bs
based_count [] [] [] h = refl
based_count (n ∷ ns) (d ∷ ds) (b ∷ bs) h = ap suc (based_count ns ds bs h.1)
based_count _ _ _ h = absurd h

pub counted_tables : (texts : List SchemaText) → base_count (elements_of texts) ≡ length (declared_tables texts)
counted_tables texts = sym (tables_counted (elements_of texts)) ∙ ap (λ ts. length ts) (sym (declared_tables_are texts))

-- ---- closed cursors

closed_all : (ms : List ModuleText) → all_closed (flat_map entries_of ms) ≡ flat_map entries_of ms
closed_all [] = refl
closed_all (m ∷ ms) = closed_both (entries_of m) (flat_map entries_of ms) ∙ (λ i. closed_of (cursors m) i ++ closed_all ms i)
  where
    closed_both : (xs ys : List CursorEntry) → all_closed (xs ++ ys) ≡ all_closed xs ++ all_closed ys
    closed_both [] ys = refl
    closed_both (x ∷ xs) ys = ap (λ l. record x { state = machine.CursorState.closed } ∷ l) (closed_both xs ys)

    closed_of : (cs : List Cursor)
        → all_closed (map (λ c. record { in_module = m.name; name = c.name; state = machine.CursorState.closed }) cs)
        ≡ map (λ c. record { in_module = m.name; name = c.name; state = machine.CursorState.closed }) cs
    closed_of [] = refl
    closed_of (c ∷ cs) = ap (λ l. record { in_module = m.name; name = c.name; state = machine.CursorState.closed } ∷ l) (closed_of cs)

module _ (texts : List SchemaText) (modules : List ModuleText) (row_numbers : ℕ) where
  abbrev first : by_name.State
  first = first_state (program_of texts modules row_numbers)

  first_closed : (m name : Name) → cursor_at first m name ≡ machine.CursorState.closed
  first_closed m name = ap (λ es. state_at es m name) (sym (closed_all modules)) ∙ closed_found m name (flat_map entries_of modules)

  -- an entry for each cursor
  entry_there : (m name : Name) (text : ModuleText) (c : Cursor) → module_named modules m ≡ Some text → cursor_named text name ≡ Some c
      → list_any (is_entry m name) (flat_map entries_of modules) ≡ true
  entry_there m name text c is_text is_cursor = in_modules modules is_text
    where
      in_cursors : (k : Name) → same_name k m ≡ true → (cs : List Cursor) → find (λ d. same_name d.name name) cs ≡ Some c
          → list_any (is_entry m name) (map (λ d. record { in_module = k; name = d.name; state = machine.CursorState.closed }) cs) ≡ true
      in_cursors k is [] e = cc
      in_cursors k is (d ∷ cs) e = by_test (same_name d.name name) (in_cursors k is cs) e
        where
          by_test : (b : Bool) → (find (λ x. same_name x.name name) cs ≡ Some c → list_any (is_entry m name) (map (λ x. record { in_module = k; name = x.name; state = machine.CursorState.closed }) cs) ≡ true)
              → cond b (Some d) (find (λ x. same_name x.name name) cs) ≡ Some c
              → (same_name k m && b || list_any (is_entry m name) (map (λ x. record { in_module = k; name = x.name; state = machine.CursorState.closed }) cs)) ≡ true
          by_test true others e = ap (λ t. t && true || list_any (is_entry m name) (map (λ x. record { in_module = k; name = x.name; state = machine.CursorState.closed }) cs)) is
          by_test false others e = ap (λ t. t && false || list_any (is_entry m name) (map (λ x. record { in_module = k; name = x.name; state = machine.CursorState.closed }) cs)) is ∙ others e

      or_behind : (b : Bool) → (b || true) ≡ true
      or_behind true = refl
      or_behind false = refl

      in_modules : (ms : List ModuleText) → find (λ t. same_name t.name m) ms ≡ Some text → list_any (is_entry m name) (flat_map entries_of ms) ≡ true
      in_modules [] e = cc
      in_modules (t ∷ ms) e = list_any-append (is_entry m name) (entries_of t) (flat_map entries_of ms) ∙ by_test (same_name t.name m) refl (in_modules ms) e
        where
          by_test : (b : Bool) → same_name t.name m ≡ b → (find (λ y. same_name y.name m) ms ≡ Some text → list_any (is_entry m name) (flat_map entries_of ms) ≡ true)
              → cond b (Some t) (find (λ y. same_name y.name m) ms) ≡ Some text
              → (list_any (is_entry m name) (entries_of t) || list_any (is_entry m name) (flat_map entries_of ms)) ≡ true
          by_test true is others e =
              let same : t ≡ text = cc in
              ap (λ b. b || list_any (is_entry m name) (flat_map entries_of ms)) (in_cursors t.name is (cursors t) (ap (λ y. cursor_named y name) same ∙ is_cursor))
          by_test false is others e = ap (λ b. list_any (is_entry m name) (entries_of t) || b) (others e) ∙ or_behind (list_any (is_entry m name) (entries_of t))

  -- ---- a session's

  same_closed : (tables : Content) (ds : List DeclaredCursor) (cs : List CursorState) → are_over ds cs ≡ true → AreClosed cs
      → AreSame (SameCursor tables) ds cs (map (entry_of module_of name_of first) ds)
  same_closed tables [] [] h closed = tt
  same_closed tables [] (c ∷ cs) h closed = cc
  same_closed tables (d ∷ ds) [] h closed = cc
  same_closed tables (d ∷ ds) (c ∷ cs) h closed =
      let head : c ≡ cursor.Closed = cc in
      let rest : cs ≡ session.all_closed cs = cc in (
        subst (λ y. SameCursor tables d y (cursor_at first d.«module» d.name)) (sym head) (first_closed d.«module» d.name),
        same_closed tables ds cs (and_parts (is_over (over_of d.cursor.body) c) (are_over ds cs) h).1 rest,
      )

  module _ (known : KnownTables) (schemas : Schemas) (program : Program) (o : IsOpenedFrom texts modules known schemas program)
      (exact : IsBoundExactly texts modules program) where
    there_all : (ds : List DeclaredCursor) → ((n : ℕ) (d : DeclaredCursor) → slice_get ds n ≡ Some d → IsCursorExactly texts modules d)
        → AllByRecursion (λ d. list_any (is_entry (module_of d) (name_of d)) first.cursors ≡ true) ds
    there_all [] h = tt
    there_all (d ∷ ds) h =
        let c = h 0 d refl in (entry_there d.«module» d.name c.text c.cursor c.is_text c.is_cursor, there_all ds (λ n e at. h (suc n) e at))

    -- With empty tables and closed cursors, one for each that is declared, they agree.
    pub first_agrees : (s : State) → s.tables ≡ no_rows (length (declared_tables texts)) → s.committed ≡ no_rows (length (declared_tables texts))
        → s.row_numbers ≡ row_numbers → s.keys ≡ keys_of_bases schemas.bases → AreClosed s.cursors → are_over program.cursors.items s.cursors ≡ true
        → Agrees texts row_numbers schemas program.cursors.items s first
    first_agrees s tables committed numbers keys closed over =
        let count : base_count (elements_of texts) ≡ length schemas.bases
        = counted_tables texts ∙ based_count (declared_tables texts) (declared_definitions texts) schemas.bases (o.declares).bases_are in
        record {
          same = record {
            tables = ap no_rows (counted_tables texts) ∙ sym tables;
            committed = ap no_rows (counted_tables texts) ∙ sym committed;
            cursors = same_closed s.tables program.cursors.items s.cursors over closed;
          };
          over = record {
            there = there_all program.cursors.items exact.cursors;
            others = λ m name none. first_closed m name;
          };
          counts = (empty_count (base_count (elements_of texts)) ∙ count, empty_count (base_count (elements_of texts)) ∙ count);
          rising = (empty_rise (base_count (elements_of texts)), empty_rise (base_count (elements_of texts)));
          hold = hold_at_first (program_of texts modules row_numbers);
          goes_over = (over, (numbers, keys));
        }
