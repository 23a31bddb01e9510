-- A session beside the machine does what the machine does: each call is its step, keeps constraints, and reads few rows (ISO/IEC
-- 9075:1992, 4.10, 4.21, 12.4 and clause 13).
use Rattle.std.proofs.Common.{◌≡◌, ℕ, ◌-◌, ◌≤◌, Bool, true, false, List, [], ◌∷◌, Option, Some, None, Result, Ok, Err, refl, sym, ap, subst, ◌∙◌}
use Rattle.std.specs.Option.{option_and_then, option_map, option_map_or}
use Rattle.std.specs.Prelude.{IfOk, flat_map, is_err, is_ok, is_some, not, slice_get, unwrap_or}
use Rattle.std.specs.Result.{result_err, result_map_both, result_ok}
use Rattle.sq_lex.specs.declared.name.Name.{Name}
use Rattle.sq_value.specs.declared.value.Value.{Value}
use Rattle.sq_store.specs.Content.{table_at}
use Rattle.sq_tree.specs.declared.«module».Cursor.{Cursor}
use Rattle.sq_tree.specs.declared.«module».ModuleText.{ModuleText}
use Rattle.sq_tree.specs.declared.«module».Procedure.{Procedure}
use Rattle.sq_tree.specs.declared.schema.SchemaText.{SchemaText}
use Rattle.sq_tree.specs.declared.statement.Fetch.{Fetch}
use Rattle.sq_tree.specs.declared.statement.Statement.{Statement}
use Rattle.sq_tree.specs.declared.statement.Statement.TheVariants as statement
use Rattle.sq_meaning.specs.Cursor.{number_on}
use Rattle.sq_meaning.specs.Machine as by_name
use Rattle.sq_meaning.specs.Machine.{Call, cursor_at, first_state, replied, stepped}
use Rattle.sq_meaning.specs.Module.{cursor_named, declared_parameters, module_named, procedure_named}
use Rattle.sq_meaning.specs.Parameter.{Reply as MachineReply}
use Rattle.sq_meaning.specs.Report.{Bytes}
use Rattle.sq_meaning.specs.Run.{program_of}
use Rattle.sq_meaning.specs.Schema.{base_place}
use Rattle.sq_meaning.specs.SchemaRefusal.{elements_of}
use Rattle.sq_meaning.specs.Script.{fit}
use Rattle.sq_meaning.specs.WellFormedStatement.{is_well_formed_procedure}
use Rattle.sq_bound.specs.declared.names.ParameterDesc.{ParameterDesc}
use Rattle.sq_bound.specs.declared.statement.BoundStatement.{BoundStatement}
use Rattle.sq_bound.specs.declared.statement.BoundStatement.TheVariants as bound
use Rattle.sq_binder.specs.declared.stop.Fault.{Fault}
use Rattle.sq_catalog.specs.Catalog.{table_number}
use Rattle.sq_module.proofs.Named.{bound_declared}
use Rattle.sq_module.specs.Program.{declared_procedures}
use Rattle.sq_module.specs.Written.{IsFromTexts, IsStatementIn}
use Rattle.sq_module.specs.declared.program.BoundProcedure.{BoundProcedure}
use Rattle.sq_module.specs.declared.program.ProcedureName.{ProcedureName}
use Rattle.sq_module.specs.declared.program.Program.{Program}
use Rattle.sq_session.specs.Kind as session
use Rattle.sq_session.specs.Kind.{fault_at, fits_at, kind_at, kind_of}
use Rattle.sq_session.specs.Metered.{CallReads}
use Rattle.sq_session.specs.Session.{Session, names_of, procedure_number, procedure_of, rows_named}
use Rattle.sq_session.specs.Step.{MayCall}
use Rattle.sq_session.specs.declared.reply.Reply.{Reply}
use Rattle.sq_perform.specs.Opened.{Opened}
use Rattle.sq_perform.specs.Run.{IsOpened as IsOpenedSession}
use Rattle.sq_perform.specs.Steps.{told}
use Rattle.sq_run.specs.Beside.{Brought, Called, IsBeside, Numbered, after_calls, first_machine}
use Rattle.sq_run.specs.Faulty.{is_syntax_error}
use Rattle.sq_run.specs.Processor.{AllHold, AreAccepted, CallReadsFew, FailsWithoutChange, IsOpened, IsStep, Machine, after_call, call_at, call_of, has_fault, needs_memory, number_of, procedure_at, ReadsFew, rows_of, takes, takes_memory, with_module}
use Rattle.sq_run.proofs.Steps.Agrees.{unmapped_at}
use Rattle.sq_run.proofs.OpenCursors.AheadWalks.{AreAhead, all_closed_ahead, call_ahead}
use Rattle.sq_run.proofs.Steps.CallIsStep.{ends_faulty, numbered_is_step}
use Rattle.sq_run.proofs.Laws.CallLaws.{failed_changes_nothing}
use Rattle.sq_run.proofs.Steps.Exact.{IsBoundExactly, IsOpenedFrom, IsProcedureExactly}
use Rattle.sq_run.proofs.Metering.FetchReads.{fetch_reads}
use Rattle.sq_run.proofs.Steps.Found.{each_of_all, module_found, procedure_found}
use Rattle.sq_run.proofs.Texts.Headline as headline
use Rattle.sq_run.proofs.Metering.KeyedCalls.{keyed_call_reads_one}
use Rattle.sq_run.proofs.Metering.KeyedSelects.{keyed_select_reads_one}
use Rattle.sq_run.proofs.Texts.OneTree.{one_modules, one_schemas}
use Rattle.sq_run.proofs.Steps.PerformedStatements.{some_same}
use Rattle.sq_run.proofs.Steps.ProcedureNumbers.{IsOf, StandAt, number_same, of_session, of_texts, stands_at}
use Rattle.sq_run.proofs.Metering.Quiet.{quiet_open_reads_none}
use Rattle.sq_run.proofs.Metering.ReadCalls.{IsCall}
use Rattle.sq_run.proofs.Texts.Reports.{IsSession, base_found}
use Rattle.sq_run.proofs.Laws.RisingNumbers.{CursorsRise, fetch_goes_on, first_rise, rises_after}
use Rattle.sq_run.proofs.Steps.SameStates.{SameReply}
use Rattle.sq_run.proofs.Texts.Scripts.{base_missing}

there_if : {A : Type 0} (f : A → Bool) (o : Option A) → option_map_or f o false ≡ true → (x : A) × (o ≡ Some x)
there_if f None e = cc
there_if f (Some x) e = (x, refl)

err_there : {A E : Type 0} (r : Result A E) → is_some (result_err r) ≡ is_err r
err_there (Ok x) = refl
err_there (Err e) = refl

told_same : (reply : Reply) (r : MachineReply) → SameReply (record { status = reply.status; outputs = reply.outputs }) r → told reply ≡ r
told_same reply r h = λ i. record { status = h.status i; outputs = h.outputs i }

-- ---- a session that the texts opened

module _ (row_numbers : ℕ) (texts : List SchemaText) (modules : List ModuleText) (start : Session) (opened : IsOpenedSession row_numbers texts modules start) where
  abbrev program : Program
  program = headline.program row_numbers texts modules start opened

  abbrev o : IsOpenedFrom texts modules opened.known start.schemas program
  o = headline.opened_from row_numbers texts modules start opened

  abbrev exact : IsBoundExactly texts modules program
  exact = headline.exact row_numbers texts modules start opened

  abbrev machine : by_name.Program
  machine = program_of texts modules row_numbers

  abbrev all : List (ModuleText × Procedure)
  all = flat_map with_module modules

  abbrev Is : Session → by_name.State → Type 0
  Is s x = IsSession texts modules row_numbers opened.known start.schemas program o exact s x

  names : (s : Session) (x : by_name.State) → Is s x → names_of s.procedures ≡ declared_procedures modules
  names s x is = ap names_of (is.procedures ∙ sym opened.written.are) ∙ opened.procedures

  -- what stands at the number of a call
  abbrev IsCalled : Session → ℕ → ModuleText × Procedure → Type 0
  IsCalled s number e = (q : session.Procedure) × StandAt modules s.procedures number e q

  called_by : (s : Session) (x : by_name.State) → Is s x → (number : ℕ) (values : List Value) → fits_at s.procedures number values ≡ true
      → (e : ModuleText × Procedure) × IsCalled s number e
  called_by s x is number values fits =
      let q = there_if (λ (p : session.Procedure). fit p.parameters values) (slice_get s.procedures number) fits in
      let found = of_session modules s.procedures (names s x is) number q.0 q.1 in
      (found.0, (q.0, found.1))

  -- ---- a call

  -- the step of the procedure that stands at the number
  record Steps (x : by_name.State) (number : ℕ) (values : List Value) (reply : Reply) (t : Session) : Type 0 where
    called : ModuleText × Procedure
    there : slice_get all number ≡ Some called
    is : Is t (stepped machine x (call_of values called))
    replies : told reply ≡ replied machine x (call_of values called)

  one_call : (s : Session) (x : by_name.State) → Is s x → (number : ℕ) (values : List Value) (reply : Reply) (t : Session)
      → Called s number values reply t → Steps x number values reply t
  one_call s x is number values reply t c =
      let found = called_by s x is number values c.fits in
      let e : ModuleText × Procedure = found.0 in
      let q : session.Procedure = (found.1).0 in
      let at : StandAt modules s.procedures number e q = (found.1).1 in
      let step = numbered_is_step texts modules row_numbers opened.known start.schemas program o exact s.state x is.agrees s.procedures is.procedures
      e.0.name e.1.name number q at.called at.is_named values c.fits (record { status = reply.status; outputs = reply.outputs }) t.state
      (subst (λ z. MayCall z (kind_at s.procedures number) values s.state (record { status = reply.status; outputs = reply.outputs }) t.state) is.schemas_are c.may) in
      record {
        called = e;
        there = at.there;
        is = record {
          procedures = c.procedures ∙ is.procedures;
          tables = c.tables ∙ is.tables;
          schemas_are = c.schemas ∙ is.schemas_are;
          agrees = step.0;
        };
        replies = told_same reply (replied machine x (call_of values e)) step.1;
      }

  abbrev first : Machine
  first = first_machine texts modules row_numbers

  -- a machine of these texts that the session is beside
  record Stands (s : Session) (m : Machine) : Type 0 where
    runs : m.program ≡ machine
    is : Is s m.state
    rise : CursorsRise m.state
    ahead : AreAhead s.state.cursors

  called_at : (m : Machine) → m.program ≡ machine → (number : ℕ) (values : List Value) (e : ModuleText × Procedure) → slice_get all number ≡ Some e
      → call_at m.program number values ≡ Some (call_of values e)
  called_at m runs number values e there =
      ap (λ p. call_at p number values) runs ∙ ap (option_map (call_of values)) there

  state_after : (m : Machine) → m.program ≡ machine → (number : ℕ) (values : List Value) (e : ModuleText × Procedure) → slice_get all number ≡ Some e
      → (after_call m number values).state ≡ stepped machine m.state (call_of values e)
  state_after m runs number values e there =
      ap (λ c. option_map_or (stepped m.program m.state) c m.state) (called_at m runs number values e there)
      ∙ ap (λ p. stepped p m.state (call_of values e)) runs

  stands_after : (s : Session) (m : Machine) → Stands s m → (number : ℕ) (values : List Value) (reply : Reply) (t : Session)
      → Called s number values reply t → Stands t (after_call m number values)
  stands_after s m h number values reply t c =
      let one = one_call s m.state h.is number values reply t c in
      let state = sym (state_after m h.runs number values one.called one.there) in
      record {
        runs = h.runs;
        is = subst (Is t) state one.is;
        rise = subst CursorsRise state (rises_after machine m.state (call_of values one.called) h.is.agrees.rising.0 h.rise);
        ahead = call_ahead s.schemas (kind_at s.procedures number) values s.state (record { status = reply.status; outputs = reply.outputs }) t.state h.ahead c.may;
      }

  all_stand : (calls : List Numbered) (s : Session) → Brought calls start s → Stands s (after_calls first calls)
  all_stand [] s h =
      record {
        runs = refl;
        is = subst (λ z. Is z (first_state machine)) (sym h) (headline.starts row_numbers texts modules start opened);
        rise = first_rise machine;
        ahead = subst (λ z. AreAhead z.state.cursors) (sym h) (subst AreAhead (sym opened.start.closed) (all_closed_ahead start.state.cursors));
      }
  all_stand (c ∷ earlier) s h =
      stands_after h.0 (after_calls first earlier) (all_stand earlier h.0 h.2) c.0 c.1 h.1 s h.3

  -- ---- what stands beside the machine

  module _ (s : Session) (m : Machine) (h : Stands s m) where
    abbrev x : by_name.State
    x = m.state

    abbrev same : names_of s.procedures ≡ declared_procedures modules
    same = names s x h.is

    number_beside : (in_module name : Name) → procedure_number s.procedures in_module name ≡ number_of m.program in_module name
    number_beside in_module name =
        number_same modules s.procedures same in_module name ∙ ap (λ p. number_of p in_module name) (sym h.runs)

    hold_beside : AllHold m
    hold_beside = subst (λ (p : by_name.Program). AllHold (record { program = p; state = x })) (sym h.runs) h.is.agrees.hold

    rows_at : (user name : Name) (k : Option ℕ) → table_number s.tables user name ≡ k
        → option_map (λ n. (table_at s.state.tables n).rows) k
        ≡ option_map (λ place. (table_at x.tables place).rows) (base_place (elements_of texts) (record { user = user; name = name }))
    rows_at user name None e =
        ap (option_map (λ place. (table_at x.tables place).rows)) (sym (base_missing texts user name (ap (λ ts. table_number ts user name) (sym h.is.tables) ∙ e)))
    rows_at user name (Some k) e =
        ap (λ c. Some ((table_at c k).rows)) (sym h.is.agrees.same.tables)
        ∙ ap (option_map (λ place. (table_at x.tables place).rows))
        (sym (base_found texts exact.accepted user name k (ap (λ ts. table_number ts user name) (sym h.is.tables) ∙ e)))

    rows_beside : (user name : Name) → rows_named s user name ≡ rows_of m user name
    rows_beside user name =
        rows_at user name (table_number s.tables user name) refl
        ∙ ap (λ (p : by_name.Program). option_map (λ place. (table_at x.tables place).rows) (base_place p.elements (record { user = user; name = name }))) (sym h.runs)

    -- ---- the procedure at a number

    module _ (number : ℕ) (e : ModuleText × Procedure) (q : session.Procedure) (at : StandAt modules s.procedures number e q) where
      entry : (f : ProcedureName × BoundProcedure) × (slice_get program.procedures.entries number ≡ Some f) × (procedure_of program.cursors.items f ≡ q)
      entry = unmapped_at (procedure_of program.cursors.items) program.procedures.entries number q (ap (λ ps. slice_get ps number) (sym h.is.procedures) ∙ at.called)

      abbrev f : ProcedureName × BoundProcedure
      f = entry.0

      from : IsFromTexts opened.known modules program.cursors.items f
      from = each_of_all (IsFromTexts opened.known modules program.cursors.items) program.procedures.entries o.is_of.procedures number f entry.1

      of : IsOf modules e
      of = stands_at modules number e at.there

      module_name : f.0.«module» ≡ e.0.name
      module_name = ap (λ (p : session.Procedure). p.«module») entry.2 ∙ ap (λ (k : ProcedureName). k.«module») at.same

      own_name : f.0.name ≡ e.1.name
      own_name = ap (λ (p : session.Procedure). p.name) entry.2 ∙ ap (λ (k : ProcedureName). k.name) at.same

      text_found : module_named modules e.0.name ≡ Some e.0
      text_found = module_found modules o.admitted e.0 of.among

      found : procedure_named e.0 e.1.name ≡ Some e.1
      found = procedure_found modules o.admitted e.0 of.among e.1 of.is_item

      text_is : from.text ≡ e.0
      text_is =
          some_same from.text e.0
          (sym (module_found modules o.admitted from.text from.among) ∙ ap (module_named modules) (sym from.named ∙ module_name) ∙ text_found)

      procedure_is : from.procedure ≡ e.1
      procedure_is =
          some_same from.procedure e.1
          (sym (procedure_found modules o.admitted from.text from.among from.procedure from.is_item)
          ∙ (λ i. procedure_named (text_is i) ((sym from.is_named ∙ own_name) i)) ∙ found)

      fits_there : (values : List Value) → fit q.parameters values ≡ fit (declared_parameters e.1) values
      fits_there values =
          ap (λ (p : session.Procedure). fit p.parameters values) (sym entry.2)
          ∙ ap (λ ds. fit ds values) (bound_declared from.procedure f.1.parameters from.bound.parameters)
          ∙ ap (λ p. fit (declared_parameters p) values) procedure_is

      -- CLOSE, COMMIT and ROLLBACK are bound as such
      ends : (ps : List ParameterDesc) (user : Name) (st : Statement) (b : BoundStatement)
          → IsStatementIn opened.known from.text program.cursors.items ps st b → takes_memory st ≡ false
          → session.takes_memory (kind_of program.cursors.items user ps b) ≡ false
      ends ps user (statement.Close name) (bound.Close n) is e = refl
      ends ps user (statement.Commit work) bound.Commit is e = refl
      ends ps user (statement.Rollback work) bound.Rollback is e = refl
      ends ps user (statement.Close name) b is e = absurd is
      ends ps user (statement.Commit work) b is e = absurd is
      ends ps user (statement.Rollback work) b is e = absurd is
      ends ps user _ b is e = cc

      kind_needs : (r : Result BoundStatement Fault) → IfOk r (IsStatementIn opened.known from.text program.cursors.items f.1.parameters from.procedure.statement)
          → takes_memory from.procedure.statement ≡ false
          → session.needs_memory (result_ok (result_map_both (kind_of program.cursors.items f.1.user f.1.parameters) (λ z. z) r)) ≡ false
      kind_needs (Err fault) is e = refl
      kind_needs (Ok b) is e = ends f.1.parameters f.1.user from.procedure.statement b is e

      needs_none : takes_memory e.1.statement ≡ false → session.needs_memory (kind_at s.procedures number) ≡ false
      needs_none none =
          ap (λ z. session.needs_memory (option_and_then (λ (p : session.Procedure). result_ok p.statement) z)) (at.called ∙ ap (λ p. Some p) (sym entry.2))
          ∙ kind_needs f.1.statement from.bound.statement (ap (λ (p : Procedure). takes_memory p.statement) procedure_is ∙ none)

      -- its statement has a fault where the rules find one
      accepted_there : is_ok f.1.statement ≡ is_well_formed_procedure (elements_of texts) e.0 e.1
      accepted_there =
          let k : IsProcedureExactly texts modules f = exact.procedures number f entry.1 in
          let text : k.text ≡ e.0 = some_same k.text e.0 (sym k.is_text ∙ ap (module_named modules) module_name ∙ text_found) in
          let procedure : k.procedure ≡ e.1 = some_same k.procedure e.1 (sym k.is_procedure ∙ (λ i. procedure_named (text i) (own_name i)) ∙ found) in
          k.accepted ∙ (λ i. is_well_formed_procedure (elements_of texts) (text i) (procedure i))

      fault_of : (r : Result BoundStatement Fault)
          → is_some (result_err (result_map_both (kind_of program.cursors.items f.1.user f.1.parameters) (λ z. z) r)) ≡ not (is_ok r)
      fault_of (Ok b) = refl
      fault_of (Err fault) = refl

      fault_there : is_some (fault_at s.procedures number) ≡ not (is_well_formed_procedure (elements_of texts) e.0 e.1)
      fault_there =
          ap (λ z. is_some (option_and_then (λ (p : session.Procedure). result_err p.statement) z)) (at.called ∙ ap (λ p. Some p) (sym entry.2))
          ∙ fault_of f.1.statement ∙ ap not accepted_there

      -- ---- the rows that a call of it reads

      module _ (values : List Value) (reply : Reply) (t : Session) (c : Called s number values reply t)
          (reads : CallReads (kind_at s.procedures number) values s.state reply.reads)
          (sound : is_well_formed_procedure (elements_of texts) e.0 e.1 ≡ true) where
        is_call : IsCall texts modules s e.0 e.1 values reply t.state
        is_call = record {
          «module» = e.0.name;
          name = e.1.name;
          text = text_found;
          procedure = found;
          sound = sound;
          number = number;
          called = q;
          numbered = at.called;
          named = at.is_named;
          fits = c.fits;
          may = c.may;
          reads = reads;
        }

        -- the machine that is behind it
        steps : Is t (stepped machine x (call_of values e))
        steps =
            let made : Steps x number values reply t = one_call s x h.is number values reply t c in
            subst (λ k. Is t (stepped machine x (call_of values k))) (some_same made.called e (sym made.there ∙ at.there)) made.is

        fetches_few : (f : Fetch) (k : Cursor) (n : ℕ) → e.1.statement ≡ statement.Fetch f → cursor_named e.0 f.cursor ≡ Some k
            → number_on (cursor_at (stepped machine x (call_of values e)) e.0.name f.cursor) ≡ Some n
            → (1 ≤ reply.reads) × (reply.reads ≤ n - unwrap_or (number_on (cursor_at x e.0.name f.cursor)) 0)
        fetches_few f k n fetches named on =
            let later = fetch_goes_on machine x (call_of values e) h.is.agrees.rising.0 h.rise e.0 text_found e.1 found sound f fetches k named n on in
            fetch_reads texts modules row_numbers opened.known start.schemas program o exact s x h.is e.0 e.1 values reply t.state is_call f fetches k named
            h.ahead t (stepped machine x (call_of values e)) steps refl n on later

        reads_few : (m_after : Machine) → m_after.state ≡ stepped machine x (call_of values e)
            → ReadsFew (record { program = machine; state = x }) values e reply.reads m_after
        reads_few m_after behind = record {
          changes = keyed_call_reads_one texts modules row_numbers opened.known start.schemas program o exact s x h.is e.0 e.1 values reply t.state is_call;
          selects = λ w selects keyed.
              keyed_select_reads_one texts modules row_numbers opened.known start.schemas program o exact s x h.is e.0 e.1 values reply t.state is_call w selects keyed;
          opens = λ name c opens named quiet.
              quiet_open_reads_none texts modules row_numbers opened.known start.schemas program o exact s x h.is e.0 e.1 values reply t.state is_call name opens c named quiet;
          fetches = λ f k n fetches named on.
              fetches_few f k n fetches named (ap (λ (z : by_name.State). number_on (cursor_at z e.0.name f.cursor)) (sym behind) ∙ on);
        }

    abbrev fits_if : List Value → Option session.Procedure → Bool
    fits_if values q = option_map_or (λ (p : session.Procedure). fit p.parameters values) q false

    abbrev takes_if : List Value → Option (ModuleText × Procedure) → Bool
    takes_if values e = option_map_or (λ (k : ModuleText × Procedure). fit (declared_parameters k.1) values) e false

    fits_are : (number : ℕ) (values : List Value) → fits_at s.procedures number values ≡ takes machine number values
    fits_are number values = by_session (slice_get s.procedures number) refl
      where
        by_texts : (e : Option (ModuleText × Procedure)) → slice_get all number ≡ e → slice_get s.procedures number ≡ None
            → fits_if values (slice_get s.procedures number) ≡ takes_if values (slice_get all number)
        by_texts None there none = ap (fits_if values) none ∙ ap (takes_if values) (sym there)
        by_texts (Some e) there none = let q = of_texts modules s.procedures same number e there in cc (none, q.1.called)

        by_session : (q : Option session.Procedure) → slice_get s.procedures number ≡ q
            → fits_if values (slice_get s.procedures number) ≡ takes_if values (slice_get all number)
        by_session (Some q) called =
            let found = of_session modules s.procedures same number q called in
            ap (fits_if values) called ∙ fits_there number found.0 q found.1 values ∙ ap (takes_if values) (sym found.1.there)
        by_session None none = by_texts (slice_get all number) refl none

    abbrev is_faulty : Option (ModuleText × Procedure) → Bool
    is_faulty e = option_map_or (λ (k : ModuleText × Procedure). not (is_well_formed_procedure (elements_of texts) k.0 k.1)) e false

    faults_are : (number : ℕ) → is_some (fault_at s.procedures number) ≡ has_fault machine number
    faults_are number = by_session (slice_get s.procedures number) refl
      where
        by_texts : (e : Option (ModuleText × Procedure)) → slice_get all number ≡ e → slice_get s.procedures number ≡ None
            → is_some (fault_at s.procedures number) ≡ is_faulty (slice_get all number)
        by_texts None there none =
            ap (λ z. is_some (option_and_then (λ (p : session.Procedure). result_err p.statement) z)) none ∙ ap is_faulty (sym there)
        by_texts (Some e) there none = let q = of_texts modules s.procedures same number e there in cc (none, q.1.called)

        by_session : (q : Option session.Procedure) → slice_get s.procedures number ≡ q
            → is_some (fault_at s.procedures number) ≡ is_faulty (slice_get all number)
        by_session (Some q) called =
            let found = of_session modules s.procedures same number q called in
            fault_there number found.0 q found.1 ∙ ap is_faulty (sym found.1.there)
        by_session None none = by_texts (slice_get all number) refl none

-- ---- the laws

module _ (s : Session) (m : Machine) (b : IsBeside s m) where
  abbrev S : Type 0
  S = Stands b.row_numbers b.schemas b.modules b.start b.opened s m

  stands : S
  stands =
      subst (Stands b.row_numbers b.schemas b.modules b.start b.opened s) (sym b.is)
      (all_stand b.row_numbers b.schemas b.modules b.start b.opened b.calls s b.brought)

  -- A name has the number that the texts give it.
  pub number_is : (in_module name : Name) → procedure_number s.procedures in_module name ≡ number_of m.program in_module name
  number_is = number_beside b.row_numbers b.schemas b.modules b.start b.opened s m stands

  -- The procedure with a number takes the values that its parameters can store.
  pub fits_is : (number : ℕ) (values : List Value) → fits_at s.procedures number values ≡ takes m.program number values
  fits_is number values =
      fits_are b.row_numbers b.schemas b.modules b.start b.opened s m stands number values ∙ ap (λ p. takes p number values) (sym stands.runs)

  -- It has a fault where the rules find one.
  pub fault_is : (number : ℕ) → is_some (fault_at s.procedures number) ≡ has_fault m.program number
  fault_is number =
      faults_are b.row_numbers b.schemas b.modules b.start b.opened s m stands number ∙ ap (λ p. has_fault p number) (sym stands.runs)

  -- A base table has the rows that the machine has.
  pub rows_is : (user name : Name) → rows_named s user name ≡ rows_of m user name
  rows_is = rows_beside b.row_numbers b.schemas b.modules b.start b.opened s m stands

  -- All constraints hold.
  pub all_hold : AllHold m
  all_hold = hold_beside b.row_numbers b.schemas b.modules b.start b.opened s m stands

  module _ (number : ℕ) (values : List Value) (reply : Reply) (t : Session) (c : Called s number values reply t) where
    -- After a call the session is still beside the machine,
    pub beside_after : IsBeside t (after_call m number values)
    beside_after = record {
      row_numbers = b.row_numbers;
      schemas = b.schemas;
      modules = b.modules;
      start = b.start;
      opened = b.opened;
      calls = (number, values) ∷ b.calls;
      brought = (s, reply, b.brought, c);
      is = ap (λ (n : Machine). after_call n number values) b.is;
    }

    one : Steps b.row_numbers b.schemas b.modules b.start b.opened m.state number values reply t
    one = one_call b.row_numbers b.schemas b.modules b.start b.opened s m.state stands.is number values reply t c

    -- which made its step,
    pub step_is : IsStep m number values reply (after_call m number values)
    step_is = record {
      call = call_of values one.called;
      is = called_at b.row_numbers b.schemas b.modules b.start b.opened m stands.runs number values one.called one.there;
      replies = one.replies ∙ ap (λ p. replied p m.state (call_of values one.called)) (sym stands.runs);
      steps = λ i. record {
        program = m.program;
        state = option_map_or (stepped m.program m.state) (called_at b.row_numbers b.schemas b.modules b.start b.opened m stands.runs number values one.called one.there i) m.state;
      };
    }

    -- and a call that is not successful changes no table.
    pub failure_is : FailsWithoutChange m reply (after_call m number values)
    failure_is failed =
        ap (λ (n : Machine). n.state.tables) step_is.steps
        ∙ failed_changes_nothing m.program m.state step_is.call (λ e. failed (ap (λ (r : MachineReply). r.status) step_is.replies ∙ e))

    pub reads_is : CallReads (kind_at s.procedures number) values s.state reply.reads → CallReadsFew m number values reply.reads (after_call m number values)
    reads_is reads e there sound =
        let here = ap (λ p. procedure_at p number) (sym stands.runs) ∙ there in
        let at = of_texts b.modules s.procedures (names b.row_numbers b.schemas b.modules b.start b.opened s m.state stands.is) number e here in
        subst (λ (p : by_name.Program). ReadsFew (record { program = p; state = m.state }) values e reply.reads (after_call m number values)) (sym stands.runs)
        (reads_few b.row_numbers b.schemas b.modules b.start b.opened s m stands number e at.0 at.1 values reply t c reads
        (ap (λ (p : by_name.Program). is_well_formed_procedure p.elements e.0 e.1) (sym stands.runs) ∙ sound) (after_call m number values)
        (state_after b.row_numbers b.schemas b.modules b.start b.opened m stands.runs number values e here))

    -- It answers 42000 exactly where the rules find a fault in its statement.
    pub faults_is : is_syntax_error reply.status ≡ has_fault m.program number
    faults_is = by_procedure (there_if (λ (p : session.Procedure). fit p.parameters values) (slice_get s.procedures number) c.fits) ∙ fault_is number
      where
        by_procedure : (q : session.Procedure) × (slice_get s.procedures number ≡ Some q) → is_syntax_error reply.status ≡ is_some (fault_at s.procedures number)
        by_procedure q =
            ends_faulty s.schemas q.0 values s.state (record { status = reply.status; outputs = reply.outputs }) t.state
            (subst (λ z. MayCall s.schemas (option_and_then (λ (p : session.Procedure). result_ok p.statement) z) values s.state
            (record { status = reply.status; outputs = reply.outputs }) t.state) q.1 c.may)
            ∙ sym (ap (λ z. is_some (option_and_then (λ (p : session.Procedure). result_err p.statement) z)) q.1 ∙ err_there (q.0).statement)

  -- CLOSE, COMMIT and ROLLBACK take no memory.
  pub memory_is : (number : ℕ) (values : List Value) → fits_at s.procedures number values ≡ true → needs_memory m.program number ≡ false
      → session.needs_memory (kind_at s.procedures number) ≡ false
  memory_is number values fits none =
      let found = called_by b.row_numbers b.schemas b.modules b.start b.opened s m.state stands.is number values fits in
      needs_none b.row_numbers b.schemas b.modules b.start b.opened s m stands number found.0 (found.1).0 (found.1).1
      (sym (ap (λ o. option_map_or (λ (e : ModuleText × Procedure). takes_memory e.1.statement) o false) ((found.1).1).there)
      ∙ ap (λ p. needs_memory p number) (sym stands.runs) ∙ none)

-- ---- a call of a processor, whose machine contracts know under another name

module _ (s : Session) (m : Machine) (b : IsBeside s m) (old : Machine) (view : m ≡ old) (number : ℕ) (values : List Value) where
  pub fits_old : takes old.program number values ≡ true → fits_at s.procedures number values ≡ true
  fits_old fits = fits_is s m b number values ∙ ap (λ (n : Machine). takes n.program number values) view ∙ fits

  pub memory_old : takes old.program number values ≡ true → needs_memory old.program number ≡ false → session.needs_memory (kind_at s.procedures number) ≡ false
  memory_old fits none = memory_is s m b number values (fits_old fits) (ap (λ (n : Machine). needs_memory n.program number) view ∙ none)

  -- what is kept of it
  pub record CallKeeps (reply : Reply) (t : Session) (after : Machine) : Type 0 where
    pub beside : IsBeside t after
    pub step : IsStep old number values reply after
    pub faults : is_syntax_error reply.status ≡ has_fault old.program number
    pub failures : FailsWithoutChange old reply after
    pub holds : AllHold after
    pub few : CallReads (kind_at s.procedures number) values s.state reply.reads → CallReadsFew old number values reply.reads after

  pub call_keeps : (reply : Reply) (t : Session) (after : Machine) → after ≡ after_call m number values → takes old.program number values ≡ true
      → MayCall s.schemas (kind_at s.procedures number) values s.state (record { status = reply.status; outputs = reply.outputs }) t.state
      → t.procedures ≡ s.procedures → t.tables ≡ s.tables → t.schemas ≡ s.schemas → CallKeeps reply t after
  call_keeps reply t after is fits may procedures tables schemas =
      let c : Called s number values reply t = record { fits = fits_old fits; may = may; procedures = procedures; tables = tables; schemas = schemas } in
      let stays : IsBeside t after = subst (IsBeside t) (sym is) (beside_after s m b number values reply t c) in
      record {
        beside = stays;
        step = subst (λ n. IsStep n number values reply after) view (subst (IsStep m number values reply) (sym is) (step_is s m b number values reply t c));
        faults = faults_is s m b number values reply t c ∙ ap (λ (n : Machine). has_fault n.program number) view;
        failures = subst (λ n. FailsWithoutChange n reply after) view (subst (FailsWithoutChange m reply) (sym is) (failure_is s m b number values reply t c));
        holds = all_hold t after stays;
        few = λ reads. subst (λ n. CallReadsFew n number values reply.reads after) view
            (subst (CallReadsFew m number values reply.reads) (sym is) (reads_is s m b number values reply t c reads));
      }

-- ---- at first

-- Texts that open a session are accepted.
pub accepted_by : (row_numbers : ℕ) (schemas modules : List Bytes) (s : Session) → Opened row_numbers schemas modules s → AreAccepted schemas modules
accepted_by row_numbers schemas modules s h = record {
  schema_trees = h.schema_trees;
  module_trees = h.module_trees;
  schemas_spell = h.schemas_spell;
  modules_spell = h.modules_spell;
  accepted = (exact row_numbers h.schema_trees h.module_trees s h.is_opened).accepted;
  admitted = h.is_opened.admitted;
}

-- The session is beside the machine in its first state.
pub beside_first : (row_numbers : ℕ) (schemas modules : List Bytes) (s : Session) → Opened row_numbers schemas modules s → (m : Machine)
    → IsOpened row_numbers schemas modules m → IsBeside s m
beside_first row_numbers schemas modules s h m first =
    let ts = one_schemas schemas first.texts.schema_trees h.schema_trees first.texts.schemas_spell h.schemas_spell in
    let ms = one_modules modules first.texts.module_trees h.module_trees first.texts.modules_spell h.modules_spell in
    let runs : m.program ≡ program_of h.schema_trees h.module_trees row_numbers = first.program ∙ (λ i. program_of (ts i) (ms i) row_numbers) in
    record {
      row_numbers = row_numbers;
      schemas = h.schema_trees;
      modules = h.module_trees;
      start = s;
      opened = h.is_opened;
      calls = [];
      brought = refl;
      is = λ i. record { program = runs i; state = (first.state ∙ ap first_state runs) i };
    }
