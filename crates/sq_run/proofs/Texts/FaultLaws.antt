-- Each call of a run that ends well answers 42000 exactly where the rules find a fault in the statement of its procedure
-- (ISO/IEC 9075:1992, 12.3 and 22.1).
use Rattle.std.proofs.Common.{◌≡◌, ℕ, zero, suc, List, [], ◌∷◌, map, take, Option, Some, Result, Ok, Err, sym, ap, subst, ◌∙◌}
use Rattle.std.specs.Prelude.{IfOk, OnOk, slice_get}
use Rattle.sq_tree.specs.declared.«module».ModuleText.{ModuleText}
use Rattle.sq_tree.specs.declared.schema.SchemaText.{SchemaText}
use Rattle.sq_meaning.specs.Machine as by_name
use Rattle.sq_meaning.specs.Machine.{Call, first_state, replied}
use Rattle.sq_meaning.specs.Report.{Bytes}
use Rattle.sq_meaning.specs.Run.{RunItem, after, after_item, program_of}
use Rattle.sq_bound.specs.Known.{KnownTables}
use Rattle.sq_binding.proofs.Schemas.Names.{position_at}
use Rattle.sq_catalog.specs.Catalog.{declared_tables}
use Rattle.sq_catalog.specs.declared.catalog.FullName.{FullName}
use Rattle.sq_module.specs.declared.program.Program.{Program}
use Rattle.sq_session.specs.Kind.{Procedure, kind_at}
use Rattle.sq_session.specs.Schemas.{Schemas}
use Rattle.sq_session.specs.Session.{Session, is_procedure}
use Rattle.sq_session.specs.Step.{MayCall}
use Rattle.sq_perform.proofs.Actions.{by_action}
use Rattle.sq_perform.specs.Action.{call_of, item_of, name_of}
use Rattle.sq_perform.specs.Run.{Run}
use Rattle.sq_perform.specs.Steps.{Step, Steps}
use Rattle.sq_perform.specs.Stop as session_stop
use Rattle.sq_perform.specs.declared.refusal.RunFault.{RunFault}
use Rattle.sq_run.specs.Answer.{answered}
use Rattle.sq_run.specs.Faulty.{FaultsAnswer42000, is_faulty, is_syntax_error}
use Rattle.sq_run.proofs.Texts.Answered.{asked_by, task_answered}
use Rattle.sq_run.proofs.Steps.CallIsStep.{call_is_step, numbered_faults}
use Rattle.sq_run.proofs.Steps.Exact.{IsBoundExactly, IsOpenedFrom}
use Rattle.sq_run.proofs.Texts.Headline as headline
use Rattle.sq_run.proofs.Texts.Reports.{Action, IsSession, procedures_there, step_is, tables_there}

call_same : (a b : Call) → RunItem.call a ≡ RunItem.call b → a ≡ b
call_same a b e = cc

module _ (texts : List SchemaText) (modules : List ModuleText) (row_numbers : ℕ) (known : KnownTables) (schemas : Schemas) (program : Program)
    (o : IsOpenedFrom texts modules known schemas program) (exact : IsBoundExactly texts modules program) where
  abbrev p : by_name.Program
  p = program_of texts modules row_numbers

  abbrev Is : Session → by_name.State → Type 0
  Is s x = IsSession texts modules row_numbers known schemas program o exact s x

  -- what an action asks of such a session
  abbrev asked : Action → RunItem
  asked = item_of (procedures_there texts modules row_numbers known schemas program o exact) (tables_there texts modules row_numbers known schemas program o exact)

  abbrev Answers : by_name.State → Call → Type 0
  Answers x c = is_syntax_error (replied p x c).status ≡ is_faulty p c

  -- the first item, if it is a call
  abbrev First : Action → Type 0
  First a = (s : Session) (x : by_name.State) → Is s x → (lines : Bytes) (t : Session) → Step a s lines t → (c : Call) → asked a ≡ RunItem.call c
      → Answers x c

  first : (a : Action) → First a
  first =
      by_action First
      (λ k s x is lines t h c e.
      let may = subst (λ z. MayCall z (kind_at s.procedures k.procedure) k.values s.state (record { status = h.0.status; outputs = h.0.outputs }) t.state) is.schemas_are h.1.may in
      let name = name_of s.procedures k in
      let there = position_at (is_procedure name.«module» name.name) s.procedures k.procedure (h.1.prepared).0 in
      let step = call_is_step texts modules row_numbers known schemas program o exact s.state x is.agrees s.procedures is.procedures name.«module» name.name k.procedure
      (h.1.prepared).0 k.values (h.1.prepared).1 (record { status = h.0.status; outputs = h.0.outputs }) t.state may in
      subst (Answers x) (ap (λ named. call_of named k) is.procedures ∙ call_same _ c e)
      (ap is_syntax_error (sym step.1.status)
      ∙ numbered_faults texts modules row_numbers known schemas program o exact s.state s.procedures is.procedures name.«module» name.name k.procedure there.0 there.1 there.2
      k.values (record { status = h.0.status; outputs = h.0.outputs }) t.state may))
      (λ v s x is lines t h c e. cc)

  all_answer : (actions : List Action) (s : Session) (x : by_name.State) → Is s x → (bytes : Bytes) (t : Session) → Steps actions s bytes t → (count : ℕ)
      (c : Call) → slice_get (map asked actions) count ≡ Some (RunItem.call c) → Answers (after p x (take count (map asked actions))) c
  all_answer [] s x is bytes t h count c at = cc
  all_answer (a ∷ rest) s x is bytes t h zero c at = first a s x is h.0 h.2 h.3 c (some_same (asked a) (RunItem.call c) at)
    where
      some_same : (i j : RunItem) → Some i ≡ Some j → i ≡ j
      some_same i j e = cc
  all_answer (a ∷ rest) s x is bytes t h (suc count) c at =
      all_answer rest h.2 (after_item p x (asked a))
      (step_is texts modules row_numbers known schemas program o exact a s x is h.0 h.2 h.3).1 h.1 t h.4 count c at

module _ (row_numbers : ℕ) (schemas modules : List Bytes) (script : Bytes) where
  module _ (r : Run row_numbers schemas modules script) where
    task_answers : (bytes : Bytes) (last : Session) → Steps r.actions r.start bytes last → FaultsAnswer42000 (asked_by row_numbers schemas modules script r)
    unfolding FaultsAnswer42000
    task_answers bytes last h = λ count c at.
        let are_items =
        ap (λ (named : List Procedure). map (item_of named (declared_tables r.schema_trees)) r.actions) (sym r.is_opened.written.are)
        ∙ ap (λ (tables : List FullName). map (item_of r.start.procedures tables) r.actions) (sym r.is_opened.tables) ∙ r.are_items in
        subst
        (λ items. is_syntax_error (replied machine (after machine (first_state machine) (take count items)) c).status ≡ is_faulty machine c) are_items
        (all_answer r.schema_trees r.module_trees row_numbers r.is_opened.known r.start.schemas
        (headline.program row_numbers r.schema_trees r.module_trees r.start r.is_opened)
        (headline.opened_from row_numbers r.schema_trees r.module_trees r.start r.is_opened) (headline.exact row_numbers r.schema_trees r.module_trees r.start r.is_opened)
        r.actions r.start (first_state machine) (headline.starts row_numbers r.schema_trees r.module_trees r.start r.is_opened) bytes last h count c
        (ap (λ items. slice_get items count) are_items ∙ at))
      where
        machine : by_name.Program
        machine = program_of r.schema_trees r.module_trees row_numbers

  pub faults_answer : (old new : Option Bytes) (result : Result (Unit {0}) RunFault)
      → OnOk result (session_stop.WroteAll row_numbers schemas modules script old new)
      → OnOk result (IfOk (answered schemas modules script row_numbers) FaultsAnswer42000)
  unfolding session_stop.WroteAll
  faults_answer old new (Ok tt) h =
      subst (λ a. IfOk a FaultsAnswer42000) (sym (task_answered row_numbers schemas modules script h.0))
      (task_answers h.0 h.1.report h.1.last h.1.steps)
  faults_answer old new (Err fault) h = tt
