-- Binding is exact: the program of a session is what the definitions of binding compute where names mean
-- what the schemas declare. So a procedure is bound exactly where the rules find no fault in it, and a
-- cursor updatable exactly where they say (ISO/IEC 9075:1992, 7.9, 13.1 and clause 13).
use Rattle.std.proofs.Common.{◌≡◌, ℕ, List, [], map, Option, Some, None, Result, Ok, Err, refl, sym, ap, subst, ◌∙◌}
use Rattle.std.specs.List.{AllByRecursion}
use Rattle.std.specs.Option.{option_map}
use Rattle.std.specs.Prelude.{if◌then◌else◌, is_ok, is_some}
use Rattle.sq_lex.specs.declared.name.Name.{Name}
use Rattle.sq_tree.specs.declared.«module».ModuleText.{ModuleText}
use Rattle.sq_tree.specs.declared.«module».Procedure.{Procedure}
use Rattle.sq_tree.specs.declared.schema.SchemaText.{SchemaText}
use Rattle.sq_meaning.specs.Spelled.{query_of}
use Rattle.sq_meaning.specs.Tables.{Declared}
use Rattle.sq_meaning.specs.Binding.{Judged}
use Rattle.sq_meaning.specs.Catalog.{tables_of}
use Rattle.sq_meaning.specs.Module.{cursor_named, cursors, declared_parameters, module_named, procedure_named}
use Rattle.sq_meaning.specs.ModuleRefusal.{first_module_refusal}
use Rattle.sq_meaning.specs.Schema.{Elements}
use Rattle.sq_meaning.specs.SchemaRefusal.{elements_of, first_schema_refusal, schema_parts}
use Rattle.sq_meaning.specs.Site.{KnownCursor}
use Rattle.sq_meaning.specs.WellFormedStatement.{is_plain, known_cursor, only_specification, opener_parameters, surroundings_of}
use Rattle.sq_bound.specs.declared.statement.BoundStatement.{BoundStatement}
use Rattle.sq_binding.specs.Changeable.{UnderTable, UserNames}
use Rattle.sq_binding.specs.Cursor.{cursor_bound}
use Rattle.sq_binding.specs.Outcome.{Outcome}
use Rattle.sq_binding.specs.Procedure.{procedure_bound}
use Rattle.sq_binding.specs.Statement.{NumberedStatement}
use Rattle.sq_binding.proofs.Exactly.ChangedTold.{TablesFit}
use Rattle.sq_binding.proofs.OneTable.CursorKnown.{cursor_known}
use Rattle.sq_binding.proofs.Exactly.InsertAccepted.{HoldsFit}
use Rattle.sq_binding.proofs.AtSites.Privileges.{ReadsFit}
use Rattle.sq_binding.proofs.Exactly.ProcedureAccepted.{UserKnows, procedure_accepted}
use Rattle.sq_binding.proofs.OneTable.UpdatableRule.{ColumnsFit}
use Rattle.sq_binding.specs.Catalog.{Catalog, names_of}
use Rattle.sq_binding.specs.Declaring.{catalog_of}
use Rattle.sq_binding.proofs.Schemas.Catalogs.{columns_fit_all, holds_fit_all, judged, not_refused, tables_fit_all, user_fits_all}
use Rattle.sq_binding.proofs.Schemas.Refused.{IsPlainPart}
use Rattle.sq_binder.specs.declared.stop.Fault.{Fault}
use Rattle.sq_binding.specs.SeenQuery.{cursor_seen, over_table}
use Rattle.sq_catalog.specs.UserTables.{without_conditions, without_conditions_under}
use Rattle.sq_module.specs.Computed.{IsComputed, IsComputedCursor, IsComputedProcedure, IsProgramOf}
use Rattle.sq_module.specs.declared.program.BoundProcedure.{BoundProcedure}
use Rattle.sq_module.specs.declared.program.DeclaredCursor.{DeclaredCursor}
use Rattle.sq_module.specs.declared.program.ProcedureName.{ProcedureName}
use Rattle.sq_module.specs.declared.program.Program.{Program}
use Rattle.sq_run.proofs.Schemas.SchemasRefused.{parts_plain}
use Rattle.sq_run.proofs.Steps.Exact.{IsBoundExactly, IsCursorExactly, IsProcedureExactly}
use Rattle.sq_run.proofs.Steps.Found.{cursor_found, each_of_all, module_found, procedure_found}
use Rattle.sq_run.proofs.Sites.NoNull.{cursor_plain, statement_plain}
use Rattle.sq_run.proofs.OpenCursors.UpdatableCursors.{cursor_tells, updatable_as}

-- ---- names that are the same but for conditions under tables, which the rules of binding don't ask about

module _ (names : UserNames) (j : Judged) where
  some_too : (o : Option UnderTable) → is_some o ≡ is_some (option_map without_conditions_under o)
  some_too None = refl
  some_too (Some u) = refl

  tables_too : TablesFit (without_conditions names) j → TablesFit names j
  tables_too h = record {
    tables = h.tables;
    wide = λ t n u there under. h.wide t n (without_conditions_under u) there (ap (option_map without_conditions_under) under);
    changes = λ t n there. some_too (names.under t) ∙ h.changes t n there;
    narrow = h.narrow;
    apart = h.apart;
  }

  columns_too : ColumnsFit (without_conditions names) → ColumnsFit names
  columns_too h = λ t u under. h t (without_conditions_under u) (ap (option_map without_conditions_under) under)

-- ---- a statement that is what is computed

ok_alike : (outcome : Outcome NumberedStatement) (bound : Result BoundStatement Fault) → IsComputed outcome bound → is_ok bound ≡ is_ok outcome
ok_alike outcome (Ok s) is = sym (ap (λ (o : Outcome NumberedStatement). is_ok o) is)
ok_alike outcome (Err f) is = sym (ap (λ (o : Outcome NumberedStatement). is_ok o) is)

module _ (texts : List SchemaText) (modules : List ModuleText) (admitted : first_module_refusal modules ≡ None) (catalog : Catalog)
    (is : catalog_of texts ≡ Ok catalog) where
  abbrev elements : Elements
  elements = elements_of texts

  plain : AllByRecursion (λ p. IsPlainPart p.user p.element) (schema_parts texts)
  plain = parts_plain (schema_parts texts)

  -- The definitions refuse none of the schemas.
  pub accepted : first_schema_refusal texts ≡ None
  accepted = not_refused texts plain catalog is

  module _ (names : Name → UserNames) (names_are : (user : Name) → names_of catalog user ≡ without_conditions (names user)) where
    -- the names of a user, who is this one
    abbrev names_for : Name → UserNames
    names_for user = record { user = user; tables = (names user).tables; under = (names user).under; holds = (names user).holds }

    user_is : (user : Name) → names_for user ≡ names user
    user_is user = λ i. record { user = (names_are user i).user; tables = (names user).tables; under = (names user).under; holds = (names user).holds }

    names_same : (user : Name) → names_of catalog user ≡ without_conditions (names_for user)
    names_same user = names_are user ∙ ap without_conditions (sym (user_is user))

    -- What names mean to a user is what the rules know, with any parameters and cursors.
    module _ (user : Name) (parameters : List Declared) (cursors : List KnownCursor) where
      abbrev j : Judged
      j = judged texts plain catalog is user parameters cursors

      tables_fit : TablesFit (names_for user) j
      tables_fit = tables_too (names_for user) j (subst (λ n. TablesFit n j) (names_same user) (tables_fit_all texts plain catalog is user parameters cursors))

      columns_fit : ColumnsFit (names_for user)
      columns_fit = columns_too (names_for user) j (subst ColumnsFit (names_same user) (columns_fit_all texts plain catalog is user parameters cursors))

      reads_fit : ReadsFit (names_for user).tables j
      reads_fit = subst (λ (n : UserNames). ReadsFit n.tables j) (names_same user) (user_fits_all texts plain catalog is user parameters cursors).reads

      holds_fit : HoldsFit (names_for user) j
      holds_fit = subst (λ n. HoldsFit n j) (names_same user) (holds_fit_all texts plain catalog is user parameters cursors)

    knows : (m : ModuleText) (p : Procedure) (number : Name → ℕ)
        → UserKnows (surroundings_of elements m p) (names_for m.authorization).tables (names_for m.authorization).under (names_for m.authorization).holds number
    knows m p number =
        let known = map (known_cursor (surroundings_of elements m p)) (cursors m) in
        record {
          tables_fit = tables_fit m.authorization (declared_parameters p) known;
          once = columns_fit m.authorization (declared_parameters p) known;
          reads = reads_fit m.authorization (declared_parameters p) known;
          holds = holds_fit m.authorization (declared_parameters p) known;
          null = cursor_plain (names_for m.authorization);
        }

    -- ---- a procedure

    procedure_exactly : (e : ProcedureName × BoundProcedure) → IsComputedProcedure names modules e → IsProcedureExactly texts modules e
    procedure_exactly e h =
        let user = h.text.authorization in
        record {
          text = h.text;
          is_text = ap (module_named modules) h.named ∙ module_found modules admitted h.text h.among;
          procedure = h.procedure;
          is_procedure = ap (procedure_named h.text) h.is_named ∙ procedure_found modules admitted h.text h.among h.procedure h.is_item;
          accepted =
              ok_alike (procedure_bound (names user) h.number h.text h.procedure) e.1.statement h.computed
              ∙ ap (λ n. is_ok (procedure_bound n h.number h.text h.procedure)) (sym (user_is user))
              ∙ procedure_accepted elements h.text h.procedure (names_for user).tables (names_for user).under (names_for user).holds h.number (knows h.text h.procedure h.number)
              (statement_plain (names_for user) h.procedure.statement);
        }

    -- ---- a cursor

    cursor_exactly : (d : DeclaredCursor) → IsComputedCursor names modules d → IsCursorExactly texts modules d
    cursor_exactly d h =
        let m = h.text in
        let c = h.cursor in
        let user = m.authorization in
        let parameters = opener_parameters m c.name in
        let computed : cursor_bound (names_for user) parameters c ≡ Ok (cursor_seen d.cursor) = ap (λ n. cursor_bound n parameters c) (user_is user) ∙ h.computed in
        let known = cursor_known (names_for user) (j user parameters []) (tables_fit user parameters []) (columns_fit user parameters []) c (cursor_plain (names_for user) c) (cursor_seen d.cursor) computed in
        record {
          text = m;
          is_text = ap (module_named modules) h.named ∙ module_found modules admitted m h.among;
          cursor = c;
          is_cursor = ap (cursor_named m) h.is_named ∙ cursor_found modules admitted m h.among c h.is_item;
          updatable = λ others.
              updatable_as (tables_of elements) d.cursor.body (over_table d.cursor.table) (cursor_seen d.cursor).table
              (if is_plain c then only_specification (query_of user c.query) else None)
              (cursor_tells (names_for user) parameters c (cursor_seen d.cursor) computed) known.table;
        }

    -- ---- all of them

    pub exactly_bound : (program : Program) → IsProgramOf names modules program → IsBoundExactly texts modules program
    exactly_bound program of = record {
      accepted = accepted;
      procedures = λ i e at. procedure_exactly e (each_of_all (IsComputedProcedure names modules) program.procedures.entries of.procedures i e at);
      cursors = λ n d at. cursor_exactly d (each_of_all (IsComputedCursor names modules) program.cursors.items of.cursors n d at);
    }
