-- The bytes that a run writes are the machine's report of its script, item by item, on the
-- trees that its texts spell.
use Rattle.std.proofs.Common.{◌≡◌, ℕ, zero, suc, ◌+◌, ◌<◌, List, [], ◌∷◌, ◌++◌, length, map, take, Option, refl, sym, ap, subst, ◌∙◌, append_assoc, arith}
use Rattle.std.proofs.lemmas.List.{length-append, take-append-le}
use Rattle.std.specs.Io.KnownBytes.{Appends}
use Rattle.sq_tree.specs.declared.«module».ModuleText.{ModuleText}
use Rattle.sq_tree.specs.declared.schema.SchemaText.{SchemaText}
use Rattle.sq_store.specs.Content.{no_rows}
use Rattle.sq_catalog.specs.Catalog.{declared_tables}
use Rattle.sq_catalog.specs.declared.catalog.FullName.{FullName}
use Rattle.sq_meaning.specs.Machine as by_name
use Rattle.sq_meaning.specs.Machine.{first_state}
use Rattle.sq_meaning.specs.Report.{Bytes, item_lines, report}
use Rattle.sq_meaning.specs.Run.{RunItem, after_item, item_of_script, program_of}
use Rattle.sq_module.specs.declared.program.Program.{Program}
use Rattle.sq_session.specs.Kind.{Procedure}
use Rattle.sq_session.specs.Session.{Session}
use Rattle.sq_perform.specs.Run.{IsOpened, Run}
use Rattle.sq_perform.specs.Action.{item_of}
use Rattle.sq_perform.specs.Steps.{Reported, Steps}
use Rattle.sq_perform.specs.Stop.{StoppedInside}
use Rattle.sq_run.proofs.Steps.Exact.{IsBoundExactly, IsOpenedFrom}
use Rattle.sq_run.proofs.Steps.ExactlyBound.{exactly_bound}
use Rattle.sq_run.proofs.Steps.FirstState.{first_agrees}
use Rattle.sq_run.proofs.Steps.Found.{mapped_before}
use Rattle.sq_run.proofs.Texts.Reports.{Action, IsSession, steps_are}

module _ (row_numbers : ℕ) (texts : List SchemaText) (modules : List ModuleText) (s : Session) (opened : IsOpened row_numbers texts modules s) where
  abbrev pub program : Program
  program = opened.written.program

  abbrev pub opened_from : IsOpenedFrom texts modules opened.known s.schemas program
  opened_from = record {
    declares = opened.declares;
    admitted = opened.admitted;
    is_of = opened.written.is_of;
    fits = opened.written.fits;
    well_formed = opened.written.well_formed;
  }

  -- The definitions accept the schemas, and binding is exact.
  pub exact : IsBoundExactly texts modules program
  exact = exactly_bound texts modules opened.admitted opened.catalog opened.is_catalog opened.names opened.names_are program opened.written.computed

  -- A session that the texts opened is the machine in its first state.
  pub starts : IsSession texts modules row_numbers opened.known s.schemas program opened_from exact s (first_state (program_of texts modules row_numbers))
  starts = record {
    procedures = opened.written.are;
    tables = opened.tables;
    schemas_are = refl;
    agrees =
        first_agrees texts modules row_numbers opened.known s.schemas program opened_from exact s.state
        (opened.start.empty ∙ ap (λ ts. no_rows (length ts)) opened.tables) (opened.start.committed ∙ ap (λ ts. no_rows (length ts)) opened.tables)
        opened.start.numbers opened.written.keys opened.start.closed opened.written.cursors;
  }

-- ---- what is written

-- the report of all items begins with that of the first
begins : (p : by_name.Program) (x : by_name.State) (k : ℕ) (items : List RunItem) → (more : Bytes) × (report p x items ≡ report p x (take k items) ++ more)
begins p x zero items = (report p x items, refl)
begins p x (suc k) [] = ([], refl)
begins p x (suc k) (i ∷ items) =
    let rest = begins p (after_item p x i) k items in
    (rest.0, ap (λ l. item_lines p x i ++ l) rest.1 ∙ sym (append_assoc (item_lines p x i) (report p (after_item p x i) (take k items)) rest.0))

module _ (row_numbers : ℕ) (schemas modules : List Bytes) (script : Bytes) (r : Run row_numbers schemas modules script) (old new : Option Bytes) where
  -- the machine of the texts' trees, and the items of the script
  abbrev pub machine : by_name.Program
  machine = program_of r.schema_trees r.module_trees row_numbers

  abbrev pub items : List RunItem
  items = map item_of_script r.script_tree.items

  abbrev pub lines : List RunItem → Bytes
  lines some = report machine (first_state machine) some

  -- what an action asks of the session
  abbrev asked : Action → RunItem
  asked = item_of r.start.procedures r.start.tables

  report_is : (actions : List Action) (some : List RunItem) → map asked actions ≡ some → (bytes : Bytes) (last : Session)
      → Steps actions r.start bytes last → bytes ≡ lines some
  report_is actions some are bytes last h =
      steps_are r.schema_trees r.module_trees row_numbers r.is_opened.known r.start.schemas (program row_numbers r.schema_trees r.module_trees r.start r.is_opened)
      (opened_from row_numbers r.schema_trees r.module_trees r.start r.is_opened) (exact row_numbers r.schema_trees r.module_trees r.start r.is_opened)
      actions r.start (first_state machine) (starts row_numbers r.schema_trees r.module_trees r.start r.is_opened) bytes last h
      ∙ ap (λ (named : List Procedure). lines (map (item_of named (declared_tables r.schema_trees)) actions)) (sym r.is_opened.written.are)
      ∙ ap (λ (tables : List FullName). lines (map (item_of r.start.procedures tables) actions)) (sym r.is_opened.tables) ∙ ap lines are

  first_items : (k : ℕ) → map asked (take k r.actions) ≡ take k items
  first_items k = sym (mapped_before asked k r.actions) ∙ ap (take k) r.are_items

  -- What is written is the machine's report.
  pub run_reports : Reported r.actions r.start old new → Appends old new (lines items)
  run_reports h = subst (Appends old new) (report_is r.actions items r.are_items h.report h.last h.steps) h.taken

  -- Where it stops after some items, it is the report of these;
  pub run_stops_after : (k : ℕ) → Reported (take k r.actions) r.start old new → Appends old new (lines (take k items))
  run_stops_after k h = subst (Appends old new) (report_is (take k r.actions) (take k items) (first_items k) h.report h.last h.steps) h.taken

  -- Where the output fails, the first bytes of the report were written, which has more.
  pub run_stops_inside : (n : ℕ) → StoppedInside n r.actions r.start old new → (n < length (lines items)) × Appends old new (take n (lines items))
  run_stops_inside n h =
      let some : List RunItem = take (h.items + 1) items in
      let is : h.reported.report ≡ lines some = report_is (take (h.items + 1) r.actions) some (first_items (h.items + 1)) h.reported.report h.reported.last h.reported.steps in
      let more = begins machine (first_state machine) (h.items + 1) items in
      let within : n < length (lines some) = subst (λ l. n < length l) is h.reported.fewer in
      let long : length (lines some ++ more.0) ≡ length (lines some) + length more.0 = length-append (lines some) more.0 in
      let fewer : n < length (lines some ++ more.0) = omega (arith, within, long) in
      let same : take n (lines some ++ more.0) ≡ take n (lines some) = take-append-le n (lines some) more.0 (omega (arith, within)) in (
        subst (λ l. n < length l) (sym more.1) fewer,
        subst (Appends old new) (ap (take n) is ∙ sym same ∙ ap (take n) (sym more.1)) h.reported.taken,
      )
