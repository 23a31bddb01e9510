-- A whole call of a session is the machine's step (ISO/IEC 9075:1992, 12.4 and clause 13): the same
-- status, the same values of parameters in the order of their declaration, and states that are to each
-- other what they were before it.
--
-- A procedure with a fault answers 42000 in both, and changes nothing.
use Rattle.std.proofs.Common.{◌≡◌, ℕ, Bool, true, false, ◌&&◌, List, length, Option, Some, None, refl, sym, ap, subst, ◌∙◌, Ok, Err}
use Rattle.std.specs.Cmp.Lexicographic.{same_text}
use Rattle.std.specs.List.{list_any}
use Rattle.std.specs.Option.{option_and_then, option_map, option_map_or}
use Rattle.std.specs.Prelude.{IfOk, Result, is_err, is_ok, not, slice_get, unwrap_or}
use Rattle.std.specs.Result.{result_map_both, result_ok}
use Rattle.std.proofs.lemmas.Bool.{and_parts}
use Rattle.sq_lex.specs.declared.name.Name.{Name}
use Rattle.sq_tree.specs.declared.«module».ModuleText.{ModuleText}
use Rattle.sq_tree.specs.declared.schema.SchemaText.{SchemaText}
use Rattle.sq_tree.specs.declared.statement.Statement.{Statement}
use Rattle.sq_tree.specs.declared.statement.Statement.TheVariants as statement
use Rattle.sq_tree.specs.declared.statement.Where.{Where}
use Rattle.sq_tree.specs.declared.statement.Where.TheVariants as rows_where
use Rattle.sq_tree.specs.declared.cond.Cond.{Cond}
use Rattle.sq_value.specs.declared.value.Value.{Value}
use Rattle.sq_meaning.specs.Environment.{same_name}
use Rattle.sq_meaning.specs.Spelled.{table_of}
use Rattle.sq_meaning.specs.Status.{Outcome}
use Rattle.sq_meaning.specs.WellFormed.{IsNoSyntaxError}
use Rattle.sq_meaning.specs.Words.{is_some_and}
use Rattle.sq_meaning.specs.declared.status.Status.{Status}
use Rattle.sq_meaning.specs.declared.status.Status.TheVariants as status
use Rattle.sq_meaning.specs.Module.{module_named, procedure_named}
use Rattle.sq_meaning.specs.Script.{fit}
use Rattle.sq_meaning.specs.SchemaRefusal.{elements_of}
use Rattle.sq_meaning.specs.WellFormedStatement.{is_well_formed_procedure}
use Rattle.sq_run.proofs.Laws.NameLaws.{accepted_hold_after}
use Rattle.sq_meaning.specs.Machine as by_name
use Rattle.sq_meaning.specs.Machine.{Call, Outcomes, Running, call_in, call_of, outcome, performed, performed_if, replied, running, stepped}
use Rattle.sq_meaning.specs.Parameter.{replied_with}
use Rattle.sq_meaning.specs.Run.{program_of}
use Rattle.sq_bound.specs.Fits.{FitsStatement, keys_of_bases}
use Rattle.sq_bound.specs.Known.{KnownTables}
use Rattle.sq_bound.specs.WellFormed.{kinds_of_parameters}
use Rattle.sq_binder.specs.declared.stop.Fault.{Fault}
use Rattle.sq_bound.specs.declared.names.ParameterDesc.{ParameterDesc}
use Rattle.sq_bound.specs.declared.statement.BoundStatement.{BoundStatement}
use Rattle.sq_bound.specs.declared.statement.BoundStatement.TheVariants as bound
use Rattle.sq_bound.specs.declared.statement.ChangeTarget.{ChangeTarget}
use Rattle.sq_bound.specs.declared.statement.ChangeTarget.TheVariants as change
use Rattle.sq_binding.specs.Written.{IsTargetOf, filter_placed}
use Rattle.sq_bound.specs.Condition.{PlacedClause}
use Rattle.sq_binding.proofs.Schemas.Names.{position_at}
use Rattle.sq_module.specs.Program.{FitsProcedure, OpensWellFormed, ProcedureOpens}
use Rattle.sq_module.specs.Written.{IsDeclaredFrom, IsFromTexts, IsNumberOf, IsStatementIn}
use Rattle.sq_module.specs.declared.program.BoundProcedure.{BoundProcedure}
use Rattle.sq_module.specs.declared.program.DeclaredCursor.{DeclaredCursor}
use Rattle.sq_module.specs.declared.program.ProcedureName.{ProcedureName}
use Rattle.sq_module.specs.declared.program.Program.{Program}
use Rattle.sq_session.specs.Kind.{Kind, Procedure, fits_at, kind_at, kind_of}
use Rattle.sq_session.specs.Schemas.{Schemas, columns_of}
use Rattle.sq_session.specs.Session.{is_procedure, procedure_number, procedure_of, procedures_of}
use Rattle.sq_session.specs.State.{State}
use Rattle.sq_session.specs.Step.{MayCall}
use Rattle.sq_session.specs.declared.reply.Done.{Done}
use Rattle.sq_run.specs.Faulty.{is_faulty, is_syntax_error}
use Rattle.sq_run.proofs.Steps.SameStates.{SameReply, SameStates, ended_same}
use Rattle.sq_run.proofs.Steps.Agrees.{Agrees, has_one, module_of, name_of, unmapped_at}
use Rattle.sq_run.proofs.Steps.Exact.{IsBoundExactly, IsOpenedFrom, IsProcedureExactly}
use Rattle.sq_run.proofs.Steps.Found.{each_of_all, itself, module_found, procedure_found}
use Rattle.sq_run.proofs.OpenCursors.GoesOver.{GoesOver, still_over}
use Rattle.sq_run.proofs.Steps.Moves.{AllRise, HaveCount, InWhere, NamesOnly, count_kept, kept_of_both, performed_goes, rise_kept}
use Rattle.sq_run.proofs.Steps.Projected.{IsOver, is_named, performed_projected, projected}
use Rattle.sq_run.proofs.Steps.Started.{as_many}
use Rattle.sq_run.proofs.Steps.PerformedStatements.{some_same, statement_is}
use Rattle.sq_run.proofs.Steps.Turns.{any_at, over_after}

-- ---- how a call ends

no_syntax_error : (st : Status) → IsNoSyntaxError st → is_syntax_error st ≡ false
no_syntax_error status.SuccessfulCompletion h = refl
no_syntax_error status.TextTruncated h = refl
no_syntax_error status.NoData h = refl
no_syntax_error status.CardinalityViolation h = refl
no_syntax_error status.TextTooLong h = refl
no_syntax_error status.NullWithoutIndicator h = refl
no_syntax_error status.NumericValueOutOfRange h = refl
no_syntax_error status.DivisionByZero h = refl
no_syntax_error status.InvalidEscapeCharacter h = refl
no_syntax_error status.InvalidEscapeSequence h = refl
no_syntax_error status.IntegrityConstraintViolation h = refl
no_syntax_error status.InvalidCursorState h = refl
no_syntax_error status.SyntaxErrorOrAccessRuleViolation h = absurd h
no_syntax_error status.CheckOptionViolation h = refl
no_syntax_error status.NoRowNumberLeft h = refl

-- with 42000 exactly where the procedure's statement has a fault
pub ends_faulty : (schemas : Schemas) (q : Procedure) (values : List Value) (s : State) (d : Done) (after : State)
    → MayCall schemas (result_ok q.statement) values s d after → is_syntax_error d.status ≡ is_err q.statement
ends_faulty schemas q values s d after may = by_statement q.statement may
  where
    by_statement : (r : Result Kind Fault) → MayCall schemas (result_ok r) values s d after → is_syntax_error d.status ≡ is_err r
    by_statement (Ok k) h = no_syntax_error d.status h.1
    by_statement (Err fault) h = ap (λ (x : Done). is_syntax_error x.status) h.0

is_err_mapped : {A B : Type 0} (g : A → B) (r : Result A Fault) → is_err (result_map_both g (λ z. z) r) ≡ not (is_ok r)
is_err_mapped g (Ok x) = refl
is_err_mapped g (Err fault) = refl

module _ (texts : List SchemaText) (modules : List ModuleText) (row_numbers : ℕ) (known : KnownTables) (schemas : Schemas) (program : Program)
    (o : IsOpenedFrom texts modules known schemas program) (exact : IsBoundExactly texts modules program) where
  abbrev declared : List DeclaredCursor
  declared = program.cursors.items

  abbrev pub machine : by_name.Program
  machine = program_of texts modules row_numbers

  -- ---- the cursors that a statement names are declared

  module _ (m : ModuleText) where
    abbrev IsOne : Name → Type 0
    IsOne name = list_any (is_named module_of name_of m.name name) declared ≡ true

    one_there : (name : Name) (n : ℕ) → IsNumberOf known m declared name n → IsOne name
    one_there name n h =
        let found = has_one (IsDeclaredFrom known m h.cursor) (slice_get declared n) h.bound in
        any_at (is_named module_of name_of m.name name) declared n found.0 found.1
        ((λ i. same_name (found.2.of_module i) m.name && same_name ((found.2.named ∙ h.named) i) name) ∙ (λ i. itself m.name i && itself name i))

    in_where : (filter : Cond → Outcome PlacedClause) (w : Option Where) (t : ChangeTarget) → IsTargetOf (IsNumberOf known m declared) filter w t → InWhere IsOne w
    in_where filter None t h = tt
    in_where filter (Some (rows_where.Condition c)) t h = tt
    in_where filter (Some (rows_where.CurrentOf cursor)) (change.Searched t) h = absurd h
    in_where filter (Some (rows_where.CurrentOf cursor)) (change.Positioned q) h = one_there cursor q.cursor h

    names_only : (ps : List ParameterDesc) (s : Statement) (b : BoundStatement) → IsStatementIn known m declared ps s b → NamesOnly IsOne s
    names_only ps (statement.Open name) (bound.Open n) h = one_there name n h
    names_only ps (statement.Fetch f) (bound.Fetch x) h = one_there f.cursor x.cursor h.0
    names_only ps (statement.Close name) (bound.Close n) h = one_there name n h
    names_only ps (statement.Select q) b h = tt
    names_only ps (statement.Insert i) b h = tt
    names_only ps (statement.Update u) b h = tt
    names_only ps (statement.Delete x) (bound.Delete t) h = in_where (filter_placed known ps m.authorization (table_of m.authorization x.table)) x.target t h.rows
    names_only ps (statement.Commit work) b h = tt
    names_only ps (statement.Rollback work) b h = tt
    names_only ps _ b h = absurd h

  -- ---- one call

  module _ (s : State) (x : by_name.State) (agrees : Agrees texts row_numbers schemas declared s x) (number : ℕ)
      (e : ProcedureName × BoundProcedure) (at : slice_get program.procedures.entries number ≡ Some e)
      (f : IsFromTexts known modules declared e) (values : List Value) (many : length values ≡ length e.1.parameters) where
    abbrev run : Running
    run = running machine x values f.text f.procedure

    -- all but the constraints, which the machine keeps by its own law
    pub record Agreed (after : State) (y : by_name.State) : Type 0 where
      pub same : SameStates declared after (projected module_of name_of declared y)
      pub over : IsOver module_of name_of declared y
      pub counts : HaveCount (length schemas.bases) y.tables × HaveCount (length schemas.bases) y.committed
      pub rising : AllRise y.tables × AllRise y.committed
      pub goes_over : GoesOver declared row_numbers (keys_of_bases schemas.bases) after

    abbrev Both : Done → State → Outcomes → Type 0
    Both d after out = Agreed after out.0 × SameReply d out.1

    unchanged : (after : State) → after ≡ s → Agreed after x
    unchanged after is = subst (λ z. Agreed z x) (sym is) (record {
      same = agrees.same;
      over = agrees.over;
      counts = agrees.counts;
      rising = agrees.rising;
      goes_over = agrees.goes_over;
    })

    goes_on : (b : BoundStatement) → is_well_formed_procedure (elements_of texts) f.text f.procedure ≡ true
        → IsStatementIn known f.text declared e.1.parameters f.procedure.statement b
        → FitsStatement schemas.bases (length declared) (length e.1.parameters) b
        → OpensWellFormed (columns_of schemas) declared (kinds_of_parameters e.1.parameters) b → (d : Done) (after : State)
        → MayCall schemas (Some (kind_of declared f.text.authorization e.1.parameters b)) values s d after
        → Both d after (performed run f.procedure.statement)
    goes_on b well is fits opens d after may =
        let step = statement_is texts modules row_numbers known schemas program o exact s x agrees may.2 f.text f.among f.procedure f.is_item e.1.parameters
        f.bound.parameters values many f.procedure.statement refl well b is fits opens d after may.1 may.0 in
        let few = performed_projected module_of name_of declared run agrees.over f.procedure.statement in
        let goes = performed_goes (IsOne f.text) run f.procedure.statement (names_only f.text e.1.parameters f.procedure.statement b is) in (
          record {
            same = subst (SameStates declared after) few.0 step.0;
            over = over_after module_of name_of declared x (performed run f.procedure.statement).0 agrees.over f.text.name goes.1;
            counts = kept_of_both (HaveCount (length schemas.bases)) (count_kept (length schemas.bases)) x (performed run f.procedure.statement).0 goes.0 agrees.counts;
            rising = kept_of_both AllRise rise_kept x (performed run f.procedure.statement).0 goes.0 agrees.rising;
            goes_over = still_over declared row_numbers (keys_of_bases schemas.bases) schemas f.text.authorization e.1.parameters b _ s d after agrees.goes_over may.0;
          },
          subst (SameReply d) few.1 step.1,
        )

    -- with a fault, and without
    by_statement : (st : Result BoundStatement Fault) (well : Bool) → is_ok st ≡ well
        → is_well_formed_procedure (elements_of texts) f.text f.procedure ≡ well
        → IfOk st (IsStatementIn known f.text declared e.1.parameters f.procedure.statement)
        → IfOk st (FitsStatement schemas.bases (length declared) (length e.1.parameters))
        → IfOk st (OpensWellFormed (columns_of schemas) declared (kinds_of_parameters e.1.parameters)) → (d : Done) (after : State)
        → MayCall schemas (result_ok (result_map_both (kind_of declared f.text.authorization e.1.parameters) (λ z. z) st)) values s d after
        → Both d after (performed_if well run)
    by_statement (Err fault) true is w h fits opens d after may = cc
    by_statement (Err fault) false is w h fits opens d after may =
        (unchanged after may.1, ended_same d status.SyntaxErrorOrAccessRuleViolation may.0)
    by_statement (Ok b) false is w h fits opens d after may = cc
    by_statement (Ok b) true is w h fits opens d after may = goes_on b w h fits opens d after may

    called : is_ok e.1.statement ≡ is_well_formed_procedure (elements_of texts) f.text f.procedure
        → FitsProcedure schemas.bases (length declared) e.1 → ProcedureOpens (columns_of schemas) declared e.1 → (d : Done) (after : State)
        → MayCall schemas (result_ok (procedure_of declared e).statement) values s d after
        → Both d after (call_of machine x values f.text f.procedure)
    called accepted fits opens d after may =
        by_statement e.1.statement (is_well_formed_procedure (elements_of texts) f.text f.procedure) accepted refl f.bound.statement fits opens d after
        (subst (λ user. MayCall schemas (result_ok (result_map_both (kind_of declared user e.1.parameters) (λ z. z) e.1.statement)) values s d after) f.bound.user may)

  -- ---- the call of a name

  exactly : (number : ℕ) (e : ProcedureName × BoundProcedure) → slice_get program.procedures.entries number ≡ Some e
      → (f : IsFromTexts known modules declared e) → is_ok e.1.statement ≡ is_well_formed_procedure (elements_of texts) f.text f.procedure
  exactly number e at f =
      let h : IsProcedureExactly texts modules e = exact.procedures number e at in
      let text : h.text ≡ f.text = some_same h.text f.text (sym h.is_text ∙ ap (module_named modules) f.named ∙ module_found modules o.admitted f.text f.among) in
      let procedure : h.procedure ≡ f.procedure
      = some_same h.procedure f.procedure (sym h.is_procedure ∙ (λ i. procedure_named (text i) (f.is_named i)) ∙ procedure_found modules o.admitted f.text f.among f.procedure f.is_item) in
      h.accepted ∙ (λ i. is_well_formed_procedure (elements_of texts) (text i) (procedure i))

  -- It answers 42000 exactly where the rules find a fault in its statement.
  pub numbered_faults : (s : State) (procedures : List Procedure) → procedures ≡ procedures_of declared program.procedures.entries
      → («module» name : Name) (number : ℕ) (q : Procedure) → slice_get procedures number ≡ Some q → is_procedure «module» name q ≡ true
      → (values : List Value) (d : Done) (after : State) → MayCall schemas (kind_at procedures number) values s d after
      → is_syntax_error d.status ≡ is_faulty machine (record { in_module = «module»; procedure = name; values = values })
  numbered_faults s procedures are «module» name number q at named values d after may =
      let found = unmapped_at (procedure_of declared) program.procedures.entries number q (ap (λ ps. slice_get ps number) (sym are) ∙ at) in
      let e : ProcedureName × BoundProcedure = found.0 in
      let is : procedure_of declared e ≡ q = found.2 in
      let here : slice_get procedures number ≡ Some (procedure_of declared e) = at ∙ ap (λ p. Some p) (sym is) in
      let names = and_parts _ _ (subst (λ p. is_procedure «module» name p ≡ true) (sym is) named) in
      let f : IsFromTexts known modules declared e = each_of_all (IsFromTexts known modules declared) program.procedures.entries o.is_of.procedures number e found.1 in
      ends_faulty schemas (procedure_of declared e) values s d after
      (subst (λ z. MayCall schemas (option_and_then (λ (q : Procedure). result_ok q.statement) z) values s d after) here may)
      ∙ is_err_mapped (kind_of declared e.1.user e.1.parameters) e.1.statement ∙ ap not (exactly number e found.1 f)
      ∙ sym (ap (is_some_and (λ m. is_some_and (λ q. not (is_well_formed_procedure (elements_of texts) m q)) (procedure_named m name)))
      (ap (module_named modules) (same_text «module» e.0.«module» (sym names.0) ∙ f.named) ∙ module_found modules o.admitted f.text f.among)
      ∙ ap (is_some_and (λ q. not (is_well_formed_procedure (elements_of texts) f.text q)))
      (ap (procedure_named f.text) (same_text name e.0.name (sym names.1) ∙ f.is_named) ∙ procedure_found modules o.admitted f.text f.among f.procedure f.is_item))

  -- A call of the procedure with this number, with values that fit it, is the machine's step by that name.
  pub numbered_is_step : (s : State) (x : by_name.State) → Agrees texts row_numbers schemas declared s x → (procedures : List Procedure)
      → procedures ≡ procedures_of declared program.procedures.entries → («module» name : Name) (number : ℕ) (q : Procedure)
      → slice_get procedures number ≡ Some q → is_procedure «module» name q ≡ true → (values : List Value) → fits_at procedures number values ≡ true
      → (d : Done) (after : State) → MayCall schemas (kind_at procedures number) values s d after
      → Agrees texts row_numbers schemas declared after (stepped machine x (record { in_module = «module»; procedure = name; values = values }))
      × SameReply d (replied machine x (record { in_module = «module»; procedure = name; values = values }))
  numbered_is_step s x agrees procedures are «module» name number q at named values fit_them d after may =
      let found = unmapped_at (procedure_of declared) program.procedures.entries number q (ap (λ ps. slice_get ps number) (sym are) ∙ at) in
      let e : ProcedureName × BoundProcedure = found.0 in
      let is : procedure_of declared e ≡ q = found.2 in
      let here : slice_get procedures number ≡ Some (procedure_of declared e) = at ∙ ap (λ p. Some p) (sym is) in
      let names = and_parts _ _ (subst (λ p. is_procedure «module» name p ≡ true) (sym is) named) in
      let f : IsFromTexts known modules declared e = each_of_all (IsFromTexts known modules declared) program.procedures.entries o.is_of.procedures number e found.1 in
      let many = as_many e.1.parameters values (subst (λ z. option_map_or (λ (q : Procedure). fit q.parameters values) z false ≡ true) here fit_them) in
      let both = called s x agrees number e found.1 f values many (exactly number e found.1 f)
      (each_of_all (λ g. FitsProcedure schemas.bases (length declared) g.1) program.procedures.entries o.fits.1 number e found.1)
      (each_of_all (λ g. ProcedureOpens (columns_of schemas) declared g.1) program.procedures.entries (o.well_formed).2 number e found.1)
      d after (subst (λ z. MayCall schemas (option_and_then (λ (q : Procedure). result_ok q.statement) z) values s d after) here may) in
      let c : Call = record { in_module = «module»; procedure = name; values = values } in
      let out : outcome machine x c ≡ call_of machine x values f.text f.procedure
      = ap (λ z. unwrap_or (option_and_then (call_in machine x c) z) (x, replied_with status.SyntaxErrorOrAccessRuleViolation))
      (ap (module_named modules) (same_text «module» e.0.«module» (sym names.0) ∙ f.named) ∙ module_found modules o.admitted f.text f.among)
      ∙ ap (λ z. unwrap_or (option_map (call_of machine x values f.text) z) (x, replied_with status.SyntaxErrorOrAccessRuleViolation))
      (ap (procedure_named f.text) (same_text name e.0.name (sym names.1) ∙ f.is_named) ∙ procedure_found modules o.admitted f.text f.among f.procedure f.is_item) in
      let agreed = subst (λ z. Agreed s x agrees number e found.1 f values many after z.0) (sym out) both.0 in (
        record {
          same = agreed.same;
          over = agreed.over;
          counts = agreed.counts;
          rising = agreed.rising;
          hold = accepted_hold_after texts modules row_numbers x c exact.accepted agrees.hold;
          goes_over = agreed.goes_over;
        },
        subst (λ z. SameReply d z.1) (sym out) both.1,
      )

  -- So is a call of a procedure that is found by its name.
  pub call_is_step : (s : State) (x : by_name.State) → Agrees texts row_numbers schemas declared s x → (procedures : List Procedure)
      → procedures ≡ procedures_of declared program.procedures.entries → («module» name : Name) (number : ℕ)
      → procedure_number procedures «module» name ≡ Some number → (values : List Value) → fits_at procedures number values ≡ true
      → (d : Done) (after : State) → MayCall schemas (kind_at procedures number) values s d after
      → Agrees texts row_numbers schemas declared after (stepped machine x (record { in_module = «module»; procedure = name; values = values }))
      × SameReply d (replied machine x (record { in_module = «module»; procedure = name; values = values }))
  call_is_step s x agrees procedures are «module» name number called_as values fit_them d after may =
      let there = position_at (is_procedure «module» name) procedures number called_as in
      numbered_is_step s x agrees procedures are «module» name number there.0 there.1 there.2 values fit_them d after may
