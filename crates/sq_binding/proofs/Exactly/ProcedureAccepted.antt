-- A procedure of a module is bound exactly if the rules find it well formed (ISO/IEC 9075:1992, 12.1, 12.3 and clause 13).
use Rattle.std.proofs.Common.{◌≡◌, ℕ, Bool, true, false, not, List, [], ◌∷◌, map, Option, Some, None, Ok, Err, refl, sym, ap, subst, ◌∙◌}
use Rattle.std.specs.Option.{option_and_then, option_map}
use Rattle.std.specs.Prelude.{find, if◌then◌else◌, is_ok}
use Rattle.std.specs.Result.{result_ok}
use Rattle.sq_lex.specs.declared.name.Name.{Name}
use Rattle.sq_tree.specs.declared.«module».Cursor.{Cursor}
use Rattle.sq_tree.specs.declared.«module».ModuleText.{ModuleText}
use Rattle.sq_tree.specs.declared.«module».Procedure.{Procedure}
use Rattle.sq_meaning.specs.Environment.{TableName, same_name}
use Rattle.sq_meaning.specs.Spelled.{query_of}
use Rattle.sq_meaning.specs.Binding.{Judged, unknown_cursor}
use Rattle.sq_meaning.specs.Binding as rules
use Rattle.sq_meaning.specs.Module.{cursor_named, cursors}
use Rattle.sq_meaning.specs.Privilege.{Privilege}
use Rattle.sq_meaning.specs.Schema.{Elements}
use Rattle.sq_meaning.specs.Site.{KnownCursor, Site}
use Rattle.sq_meaning.specs.WellFormedStatement.{Surroundings, cursor_query, cursor_sites, is_sound, is_well_formed_procedure, judged_by, known_cursor, known_in, known_in_query, opener_parameters, opener_surroundings, own, surroundings_of}
use Rattle.sq_meaning.specs.Words.{is_some_and}
use Rattle.sq_binding.specs.Change.{NamedCursor, NamedCursors}
use Rattle.sq_binding.specs.Changeable.{UnderTable, UserNames}
use Rattle.sq_binding.specs.Cursor.{NumberedCursor, cursor_bound}
use Rattle.sq_binding.specs.From.{NamedTables}
use Rattle.sq_binding.specs.Outcome.{Outcome}
use Rattle.sq_binding.specs.Procedure.{cursor_if_sound, module_cursors, numbered, procedure_bound}
use Rattle.sq_binding.proofs.Exactly.Accepts.{accepted}
use Rattle.sq_binding.proofs.Exactly.ChangedTold.{TablesFit}
use Rattle.sq_binding.proofs.Exactly.CursorAccepted.{UserFits, cursor_accepts}
use Rattle.sq_binding.proofs.OneTable.CursorKnown.{IsCursor, cursor_known}
use Rattle.sq_binding.proofs.Exactly.FetchTold.{IfCursor}
use Rattle.sq_binding.proofs.Exactly.InsertAccepted.{HoldsFit}
use Rattle.sq_binding.proofs.AtSites.Privileges.{ReadsFit}
use Rattle.sq_binding.proofs.Exactly.StatementAccepted.{IsDeclared, StatementFits, StatementSpellsNoNull, accepted_exactly}
use Rattle.sq_binding.proofs.FaultsFound.UnionFaults.{QuerySpellsNoNull}
use Rattle.sq_binding.proofs.OneTable.UpdatableRule.{ColumnsFit}

module _ (u : Surroundings) (tables : NamedTables) (under : TableName → Option UnderTable) (held : TableName → Privilege → Bool) (number : Name → ℕ) where
  abbrev pub names : UserNames
  names = record { user = own u; tables = tables; under = under; holds = held }

  abbrev j : Judged
  j = judged_by u (known_in u)

  -- What names mean to the module's user is what the rules know, and no cursor spells the null value.
  pub record UserKnows : Type 0 where
    pub tables_fit : TablesFit names j
    pub once : ColumnsFit names
    pub reads : ReadsFit tables j
    pub holds : HoldsFit names j
    pub null : (c : Cursor) → QuerySpellsNoNull (query_of (own u) c.query)

  module _ (knows : UserKnows) where
    abbrev opened : NamedCursors
    opened = module_cursors names number u.in_module

    -- ---- a cursor, for the parameters of the procedure that opens it

    abbrev opener : Cursor → Judged
    opener c = judged_by u (known_in_query (opener_surroundings u c))

    opener_fits : (c : Cursor) → TablesFit names (opener c)
    opener_fits c = record { tables = knows.tables_fit.tables; wide = knows.tables_fit.wide; changes = knows.tables_fit.changes; narrow = knows.tables_fit.narrow; apart = knows.tables_fit.apart }

    user_fits : (c : Cursor) → UserFits names (opener c)
    user_fits c = record { tables = knows.tables_fit.tables; reads = knows.reads; wide = knows.tables_fit.wide }

    bound_sound : (c : Cursor) → is_ok (cursor_bound names (opener_parameters u.in_module c.name) c) ≡ is_sound u c
    bound_sound c = accepted (opener c) (cursor_sites u c) (cursor_bound names (opener_parameters u.in_module c.name) c) (cursor_accepts names (opener c) (user_fits c) c (knows.null c))

    bound_known : (c : Cursor) (n : NumberedCursor) → cursor_bound names (opener_parameters u.in_module c.name) c ≡ Ok n → IsCursor names (opener c) (opener_fits c) knows.once c (cursor_query u c) n
    bound_known c n is = cursor_known names (opener c) (opener_fits c) knows.once c (knows.null c) n is

    -- ---- cursors by their names

    find_known : (name : Name) (cs : List Cursor) → find (λ (k : KnownCursor). same_name k.name name) (map (known_cursor u) cs) ≡ option_map (known_cursor u) (find (λ c. same_name c.name name) cs)
    find_known name [] = refl
    find_known name (c ∷ cs) = by (same_name c.name name) (find_known name cs)
      where
        by : (b : Bool) → find (λ (k : KnownCursor). same_name k.name name) (map (known_cursor u) cs) ≡ option_map (known_cursor u) (find (λ c. same_name c.name name) cs)
            → (if b then Some (known_cursor u c) else find (λ (k : KnownCursor). same_name k.name name) (map (known_cursor u) cs)) ≡ option_map (known_cursor u) (if b then Some c else find (λ c. same_name c.name name) cs)
        by true h = refl
        by false h = h

    known_named : (name : Name) → rules.cursor_known (known_in u) name ≡ option_map (known_cursor u) (cursor_named u.in_module name)
    known_named name = find_known name (cursors u.in_module)

    unknown_is : (name : Name) (o : Option Cursor) → cursor_named u.in_module name ≡ o → unknown_cursor (known_in u) (Site.cursor_used name) ≡ not (is_some_and (λ (k : KnownCursor). k.sound) (option_map (known_cursor u) o))
    unknown_is name o e = ap (λ o. not (is_some_and (λ (k : KnownCursor). k.sound) o)) (known_named name ∙ ap (option_map (known_cursor u)) e)

    opened_fit : (name : Name) → IfCursor j name (opened name)
    opened_fit name = by (cursor_named u.in_module name) refl
      where
        bound_one : (c : Cursor) → cursor_named u.in_module name ≡ Some c → (o : Outcome NumberedCursor) → is_ok o ≡ is_sound u c → IfCursor j name (option_map (numbered (number name)) (result_ok o))
        bound_one c e (Ok n) sound = unknown_is name (Some c) e ∙ ap not (sym sound)
        bound_one c e (Err f) sound = unknown_is name (Some c) e ∙ ap not (sym sound)

        by : (o : Option Cursor) → cursor_named u.in_module name ≡ o → IfCursor j name (option_and_then (cursor_if_sound names (number name) u.in_module) o)
        by None e = unknown_is name None e
        by (Some c) e = bound_one c e (cursor_bound names (opener_parameters u.in_module c.name) c) (bound_sound c)

    -- What is known of a cursor by its name.
    record IsOpened (name : Name) (c : NamedCursor) : Type 0 where
      cursor : Cursor
      named : cursor_named u.in_module name ≡ Some cursor
      bound : NumberedCursor
      is_bound : cursor_bound names (opener_parameters u.in_module cursor.name) cursor ≡ Ok bound
      is : numbered (number name) bound ≡ c

    opened_is : (name : Name) (c : NamedCursor) → opened name ≡ Some c → IsOpened name c
    opened_is name c e = by (cursor_named u.in_module name) refl e
      where
        one : (d : Cursor) → cursor_named u.in_module name ≡ Some d → (o : Outcome NumberedCursor) → cursor_bound names (opener_parameters u.in_module d.name) d ≡ o → option_map (numbered (number name)) (result_ok o) ≡ Some c → IsOpened name c
        one d named (Ok n) bound e = let same : numbered (number name) n ≡ c = cc in record { cursor = d; named = named; bound = n; is_bound = bound; is = same }
        one d named (Err f) bound e = cc

        by : (o : Option Cursor) → cursor_named u.in_module name ≡ o → option_and_then (cursor_if_sound names (number name) u.in_module) o ≡ Some c → IsOpened name c
        by None named e = cc
        by (Some d) named e = one d named (cursor_bound names (opener_parameters u.in_module d.name) d) refl e

    opened_over : (name : Name) (c : NamedCursor) → opened name ≡ Some c → (k : KnownCursor) × (rules.cursor_known (known_in u) name ≡ Some k) × (k.table ≡ c.table)
    opened_over name c e =
        let o = opened_is name c e in
        let h = bound_known o.cursor o.bound o.is_bound in
        (known_cursor u o.cursor, known_named name ∙ ap (option_map (known_cursor u)) o.named, sym h.table ∙ ap (λ (c : NamedCursor). c.table) o.is)

    opened_declared : (name : Name) (c : NamedCursor) → opened name ≡ Some c → IsDeclared u name c
    opened_declared name c e =
        let o = opened_is name c e in
        let h = bound_known o.cursor o.bound o.is_bound in
        subst (IsDeclared u name) o.is (record { cursor = o.cursor; declared = o.named; scrolls = h.scrolls; kinds = h.kinds; count = h.count })

    statement_fits : StatementFits u names opened
    statement_fits = record { tables = knows.tables_fit; reads = knows.reads; holds = knows.holds; known = opened_fit; positions = opened_over; declared = opened_declared }

-- a procedure of a module
module _ (elements : Elements) (m : ModuleText) (p : Procedure) (tables : NamedTables) (under : TableName → Option UnderTable) (held : TableName → Privilege → Bool) (number : Name → ℕ)
    (knows : UserKnows (surroundings_of elements m p) tables under held number) where
  abbrev here : Surroundings
  here = surroundings_of elements m p

  -- is bound exactly where it is well formed
  pub procedure_accepted : StatementSpellsNoNull (names here tables under held number) p.statement → is_ok (procedure_bound (names here tables under held number) number m p) ≡ is_well_formed_procedure elements m p
  procedure_accepted null = accepted_exactly here tables under held (module_cursors (names here tables under held number) number m) (statement_fits here tables under held number knows) p.statement null
