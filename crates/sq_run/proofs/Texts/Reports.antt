-- What a session reports of the items of a script is the machine's report of them (own form): a call's line
-- tells the machine's status and outputs, and a base table that is shown has the machine's rows.
use Rattle.std.proofs.Common.{◌≡◌, ℕ, zero, suc, List, [], ◌∷◌, ◌++◌, length, map, Some, None, refl, sym, ap, subst, ◌∙◌, arith}
use Rattle.std.specs.Cmp.Lexicographic.{pointwise, same_text}
use Rattle.std.specs.Option.{option_map}
use Rattle.std.specs.Prelude.{nat_eq, slice_get, unwrap_or}
use Rattle.std.proofs.lemmas.Bool.{and_parts}
use Rattle.sq_lex.specs.declared.name.Name.{Name}
use Rattle.sq_tree.specs.declared.«module».ModuleText.{ModuleText}
use Rattle.sq_tree.specs.declared.schema.SchemaText.{SchemaText}
use Rattle.sq_tree.specs.declared.schema.TableDefinition.{TableDefinition}
use Rattle.sq_store.specs.Content.{empty, table_at}
use Rattle.sq_meaning.specs.Schema.{BaseTable, base_place}
use Rattle.sq_meaning.specs.SchemaRefusal.{elements_of, first_schema_refusal}
use Rattle.sq_run.proofs.Laws.NameLaws.{accepted_names_differ}
use Rattle.sq_meaning.specs.Machine as by_name
use Rattle.sq_meaning.specs.Machine.{replied}
use Rattle.sq_meaning.specs.Parameter.{Reply as MachineReply}
use Rattle.sq_meaning.specs.Report.{Bytes, call_line, item_lines, report, shown_table, table_lines}
use Rattle.sq_meaning.specs.Run.{after_item, program_of}
use Rattle.sq_bound.specs.Known.{KnownTables}
use Rattle.sq_binding.proofs.Schemas.Names.{position_at}
use Rattle.sq_catalog.specs.Catalog.{declared_definitions, declared_tables, is_table, table_number}
use Rattle.sq_catalog.specs.declared.catalog.FullName.{FullName}
use Rattle.sq_module.specs.declared.program.Program.{Program}
use Rattle.sq_session.specs.Schemas.{Schemas}
use Rattle.sq_session.specs.Kind.{Procedure, kind_at}
use Rattle.sq_session.specs.Session.{Session, procedures_of}
use Rattle.sq_session.specs.Step.{MayCall}
use Rattle.sq_session.specs.declared.reply.Reply.{Reply}
use Rattle.sq_perform.proofs.Actions.{by_action}
use Rattle.sq_perform.specs.Action.{call_of, item_of, name_of, shown_name, table_of}
use Rattle.sq_perform.specs.Steps.{Step, Steps, told}
use Rattle.sq_perform.specs.declared.action.Action.TheVariants.{Call}
use Rattle.sq_run.proofs.Schemas.Created.{declared_definitions_are, declared_tables_are}
use Rattle.sq_run.proofs.Schemas.Declared.{definitions_counted}
use Rattle.sq_run.proofs.Schemas.DeclaredTables.{base_tables_named, named_table, named_tables}
use Rattle.sq_run.proofs.Steps.SameStates.{SameReply}
use Rattle.sq_run.proofs.Steps.Agrees.{Agrees}
use Rattle.sq_run.proofs.Steps.CallIsStep.{call_is_step}
use Rattle.sq_run.proofs.Steps.Exact.{IsBoundExactly, IsOpenedFrom}

-- what a script asks a session for has no public name
abbrev source_of : {A B : Type 0} → (A → B) → Type 0
source_of {A} {B} f = A

abbrev pub Action : Type 0
Action = source_of (item_of [] [])

-- ---- the place of a base table

named_at : (ns : List FullName) (ds : List TableDefinition) (k : ℕ) (n : FullName) → length ds ≡ length ns → slice_get ns k ≡ Some n
    → (t : BaseTable) × (slice_get (named_tables ns ds) k ≡ Some t) × (t.name ≡ record { user = n.user; name = n.name })
named_at [] ds k n e at = cc
named_at (x ∷ ns) [] k n e at = absurd (omega arith)
named_at (x ∷ ns) (d ∷ ds) zero n e at =
    let same : x ≡ n = cc in (named_table x d, refl, λ i. record { user = (same i).user; name = (same i).name })
named_at (x ∷ ns) (d ∷ ds) (suc k) n e at = let fewer : length ds ≡ length ns = omega arith in named_at ns ds k n fewer at

-- A base table is found where the texts declare it.
pub base_found : (texts : List SchemaText) → first_schema_refusal texts ≡ None → (user name : Name) (k : ℕ)
    → table_number (declared_tables texts) user name ≡ Some k
    → base_place (elements_of texts) (record { user = user; name = name }) ≡ Some k
base_found texts accepted user name k at =
    let found = position_at (is_table user name) (declared_tables texts) k at in
    let parts = and_parts (pointwise nat_eq user (found.0).user) (pointwise nat_eq name (found.0).name) found.2 in
    let counted : length (declared_definitions texts) ≡ length (declared_tables texts)
    = ap (λ ds. length ds) (declared_definitions_are texts) ∙ definitions_counted (elements_of texts) ∙ ap (λ ts. length ts) (sym (declared_tables_are texts)) in
    let base = named_at (declared_tables texts) (declared_definitions texts) k found.0 counted found.1 in
    let named : (base.0).name ≡ record { user = user; name = name }
    = base.2 ∙ (λ i. record { user = sym (same_text user (found.0).user (sym parts.0)) i; name = sym (same_text name (found.0).name (sym parts.1)) i }) in
    subst (λ n. base_place (elements_of texts) n ≡ Some k) named
    (accepted_names_differ texts accepted k base.0 (ap (λ ts. slice_get ts k) (base_tables_named texts) ∙ base.1))

-- ---- a reply as a line tells it

told_same : (reply : Reply) (r : MachineReply) → SameReply (record { status = reply.status; outputs = reply.outputs }) r → told reply ≡ r
told_same reply r h = λ i. record { status = h.status i; outputs = h.outputs i }

-- ---- all items

module _ (texts : List SchemaText) (modules : List ModuleText) (row_numbers : ℕ) (known : KnownTables) (schemas : Schemas) (program : Program)
    (o : IsOpenedFrom texts modules known schemas program) (exact : IsBoundExactly texts modules program) where
  -- a session of these texts, whose state agrees with the machine's
  pub record IsSession (s : Session) (x : by_name.State) : Type 0 where
    pub procedures : s.procedures ≡ procedures_of program.cursors.items program.procedures.entries
    pub tables : s.tables ≡ declared_tables texts
    pub schemas_are : s.schemas ≡ schemas
    pub agrees : Agrees texts row_numbers schemas program.cursors.items s.state x

  abbrev p : by_name.Program
  p = program_of texts modules row_numbers

  -- the procedures of each such session
  abbrev pub procedures_there : List Procedure
  procedures_there = procedures_of program.cursors.items program.procedures.entries

  -- and its base tables
  abbrev pub tables_there : List FullName
  tables_there = declared_tables texts

  -- an item's lines, and the session behind it, where these procedures give calls their names
  abbrev IsStepAs : List Procedure → Action → by_name.State → Bytes → Session → Type 0
  IsStepAs named a x lines t = (lines ≡ item_lines p x (item_of named tables_there a)) × IsSession t (after_item p x (item_of named tables_there a))

  -- the lines of an item, and the session behind it
  abbrev pub IsStep : Action → Type 0
  IsStep a = (s : Session) (x : by_name.State) → IsSession s x → (lines : Bytes) (t : Session) → Step a s lines t → IsStepAs procedures_there a x lines t

  pub step_is : (a : Action) → IsStep a
  step_is =
      by_action IsStep
      (λ c s x is lines t h.
      let name = name_of s.procedures c in
      let step = call_is_step texts modules row_numbers known schemas program o exact s.state x is.agrees s.procedures is.procedures name.«module» name.name c.procedure
      (h.1.prepared).0 c.values (h.1.prepared).1 (record { status = h.0.status; outputs = h.0.outputs }) t.state
      (subst (λ z. MayCall z (kind_at s.procedures c.procedure) c.values s.state (record { status = h.0.status; outputs = h.0.outputs }) t.state) is.schemas_are h.1.may) in
      let call = call_of s.procedures c in
      let done : IsStepAs s.procedures (Call c) x lines t = (
        h.2 ∙ ap (call_line call) (told_same h.0 (replied p x call) step.1),
        record {
          procedures = h.1.procedures ∙ is.procedures;
          tables = h.1.tables ∙ is.tables;
          schemas_are = h.1.schemas ∙ is.schemas_are;
          agrees = step.0;
        },
      ) in
      subst (λ named. IsStepAs named (Call c) x lines t) is.procedures done)
      (λ v s x is lines t h.
      let name = shown_name tables_there v in
      let place : base_place (elements_of texts) (table_of tables_there v) ≡ Some v.table
      = base_found texts exact.accepted name.user name.name v.table
      (subst (λ ts. table_number ts (shown_name ts v).user (shown_name ts v).name ≡ Some v.table) is.tables h.0) in
      let shown : table_at s.state.tables v.table ≡ shown_table p x (table_of tables_there v)
      = ap (λ c. table_at c v.table) (sym is.agrees.same.tables) ∙ ap (λ z. unwrap_or (option_map (table_at x.tables) z) empty) (sym place) in (
        h.2 ∙ ap (λ ts. table_lines (table_of ts v) (table_at s.state.tables v.table)) is.tables ∙ ap (table_lines (table_of tables_there v)) shown,
        subst (λ z. IsSession z x) (sym h.1) is,
      ))

  -- The lines of all items are the machine's report.
  pub steps_are : (actions : List Action) (s : Session) (x : by_name.State) → IsSession s x → (bytes : Bytes) (t : Session) → Steps actions s bytes t
      → bytes ≡ report p x (map (item_of procedures_there tables_there) actions)
  steps_are [] s x is bytes t h = h.0
  steps_are (a ∷ rest) s x is bytes t h =
      let one = step_is a s x is h.0 h.2 h.3 in
      let others = steps_are rest h.2 (after_item p x (item_of procedures_there tables_there a)) one.1 h.1 t h.4 in
      h.5 ∙ (λ i. one.0 i ++ others i)
