-- A session of texts takes an item of a script exactly where the definitions find no fault in it, and else
-- refuses it for that fault (own form: a script stands for the calls of a host program).
use Rattle.std.proofs.Common.{◌≡◌, ℕ, zero, suc, ◌+◌, Bool, true, false, ◌&&◌, List, [], ◌∷◌, map, take, slice_get, All, Option, Some, None, refl, sym, ap, subst, ◌∙◌, arith}
use Rattle.std.proofs.lemmas.List.Elements.{recursion_from_All}
use Rattle.std.specs.Cmp.Lexicographic.{pointwise, same_text}
use Rattle.std.specs.List.{AllByRecursion, enumerate_from, flat_map}
use Rattle.std.specs.Option.{option_and_then, option_map, option_map_or, option_or}
use Rattle.std.specs.Prelude.{filter_map, find, if◌then◌else◌, is_some, nat_eq}
use Rattle.std.proofs.lemmas.Cmp.{nat_list_eq_equiv}
use Rattle.std.proofs.lemmas.Bool.{and_parts}
use Rattle.sq_lex.specs.declared.name.Name.{Name}
use Rattle.sq_value.specs.declared.value.Value.{Value}
use Rattle.sq_tree.specs.declared.«module».ModuleItem.{ModuleItem}
use Rattle.sq_tree.specs.declared.«module».ModuleItem.TheVariants as item
use Rattle.sq_tree.specs.declared.«module».ModuleText.{ModuleText}
use Rattle.sq_tree.specs.declared.«module».Procedure.{Procedure}
use Rattle.sq_tree.specs.declared.schema.SchemaText.{SchemaText}
use Rattle.sq_tree.specs.declared.script.ScriptItem.{ScriptItem}
use Rattle.sq_tree.specs.declared.script.ScriptItem.TheVariants as script
use Rattle.sq_tree.specs.declared.script.ScriptText.{ScriptText}
use Rattle.sq_tree.specs.declared.schema.TableDefinition.{TableDefinition}
use Rattle.sq_meaning.specs.Environment.{same_name, same_table}
use Rattle.sq_meaning.specs.Module.{declared_parameters, module_named, procedure_in, procedure_named}
use Rattle.sq_meaning.specs.Schema.{BaseTable, Elements, base_place, base_tables}
use Rattle.sq_meaning.specs.SchemaRefusal.{elements_of}
use Rattle.sq_meaning.specs.Script.{argument_values, arguments_fault, first_script_refusal, fit, item_refusal, procedure_called, script_fault_of}
use Rattle.sq_meaning.specs.Script as rules
use Rattle.sq_meaning.specs.Words.{first_some}
use Rattle.sq_meaning.specs.declared.refusal.ScriptFault.{ScriptFault}
use Rattle.sq_meaning.specs.declared.refusal.ScriptFault.TheVariants as fault
use Rattle.sq_binding.proofs.Schemas.Names.{position_at}
use Rattle.sq_catalog.specs.Catalog.{declared_definitions, declared_tables, is_table, table_number}
use Rattle.sq_catalog.specs.declared.catalog.FullName.{FullName}
use Rattle.sq_module.specs.Program.{declared_procedures, module_procedures}
use Rattle.sq_module.specs.Program as program
use Rattle.sq_module.specs.Written.{IsFromTexts}
use Rattle.sq_module.specs.declared.program.BoundProcedure.{BoundProcedure}
use Rattle.sq_module.specs.declared.program.ProcedureName.{ProcedureName}
use Rattle.sq_module.proofs.Named.{bound_declared}
use Rattle.sq_session.specs.Kind.{Procedure as SessionProcedure, fits_at}
use Rattle.sq_session.specs.Session.{Session, is_procedure, name_of, procedure_number, procedure_of, procedures_of}
use Rattle.sq_run.proofs.Schemas.DeclaredTables.{base_tables_named, named_tables}
use Rattle.sq_run.proofs.Steps.Agrees.{unmapped_at}
use Rattle.sq_run.proofs.Steps.ExactlyBound.{accepted}
use Rattle.sq_run.proofs.Steps.Found.{each_of_all, module_found, none_placed, procedure_found}
use Rattle.sq_run.proofs.Texts.Reports.{base_found}
use Rattle.sq_perform.specs.Items.{IsTaken, call_fault, item_fault, table_fault}
use Rattle.sq_perform.specs.Refusal.{script_fault}
use Rattle.sq_perform.specs.Run.{IsOpened}
use Rattle.sq_perform.specs.declared.refusal.RefusalName.{RefusalName}
use Rattle.sq_perform.specs.declared.refusal.RefusalName.TheVariants as refusal
use Rattle.sq_run.proofs.Sites.SiteLaws.{all_parts}
use Rattle.sq_run.proofs.Schemas.Numbers.{none_there}

-- The code and the definitions find no fault, or the code a name and the definitions
-- the fault that it is for.
abbrev pub AreAlike : Option RefusalName → Option ScriptFault → Type 0
AreAlike None o = o ≡ None
AreAlike (Some what) o = (f : ScriptFault) × (o ≡ Some f) × (script_fault what ≡ Some f)

-- ---- where no one has a place

mapped_all : {A B : Type 0} (P : B → Type 0) (f : A → B) (xs : List A) → AllByRecursion (λ x. P (f x)) xs → AllByRecursion P (map f xs)
mapped_all P f [] h = tt
mapped_all P f (x ∷ xs) h = (h.0, mapped_all P f xs h.1)

-- ---- a procedure that no module has

abbrev is_called : Name → Name → ProcedureName → Bool
is_called «module» name p = pointwise nat_eq «module» p.«module» && pointwise nat_eq name p.name

abbrev IsNone : Name → Name → ProcedureName → Type 0
IsNone «module» name p = is_called «module» name p ≡ false

module _ («module» name : Name) where
  none_in : (m : Name) → same_name m «module» ≡ true → (items : List ModuleItem) → AllByRecursion (IsNone «module» name) (flat_map (program.procedure_in m) items)
      → find (λ p. same_name p.name name) (filter_map procedure_in items) ≡ None
  none_in m is [] h = refl
  none_in m is (item.Cursor c ∷ items) h = none_in m is items h
  none_in m is (item.Procedure p ∷ items) h = by (same_name p.name name) refl (none_in m is items h.1)
    where
      by : (b : Bool) → same_name p.name name ≡ b → find (λ q. same_name q.name name) (filter_map procedure_in items) ≡ None
          → (if b then Some p else find (λ q. same_name q.name name) (filter_map procedure_in items)) ≡ None
      by true e rest =
          let both : is_called «module» name (record { «module» = m; name = p.name }) ≡ true
          = (λ i. (nat_list_eq_equiv.symm «module» m ∙ is) i && (nat_list_eq_equiv.symm name p.name ∙ e) i) in cc
      by false e rest = rest

  none_called : (modules : List ModuleText) → AllByRecursion (IsNone «module» name) (declared_procedures modules) → procedure_called modules «module» name ≡ None
  none_called [] h = refl
  none_called (m ∷ modules) h =
      let parts = all_parts (IsNone «module» name) (module_procedures m) (declared_procedures modules) h in
      by (same_name m.name «module») refl parts.0 (none_called modules parts.1)
    where
      by : (b : Bool) → same_name m.name «module» ≡ b → AllByRecursion (IsNone «module» name) (module_procedures m) → procedure_called modules «module» name ≡ None
          → option_and_then (λ t. procedure_named t name) (if b then Some m else module_named modules «module») ≡ None
      by true e own rest = none_in m.name e m.items own
      by false e own rest = rest

-- ---- a table that no schema has

none_named : (user name : Name) (ns : List FullName) (ds : List TableDefinition) → AllByRecursion (λ n. is_table user name n ≡ false) ns
    → AllByRecursion (λ (t : BaseTable). same_table t.name (record { user = user; name = name }) ≡ false) (named_tables ns ds)
none_named user name [] ds h = tt
none_named user name (n ∷ ns) [] h = tt
none_named user name (n ∷ ns) (d ∷ ds) h = ((λ i. nat_list_eq_equiv.symm n.user user i && nat_list_eq_equiv.symm n.name name i) ∙ h.0, none_named user name ns ds h.1)

pub base_missing : (texts : List SchemaText) (user name : Name) → table_number (declared_tables texts) user name ≡ None
    → base_place (elements_of texts) (record { user = user; name = name }) ≡ None
base_missing texts user name none =
    none_there (λ (t : BaseTable). same_table t.name (record { user = user; name = name })) (base_tables (elements_of texts))
    (subst (AllByRecursion (λ (t : BaseTable). same_table t.name (record { user = user; name = name }) ≡ false)) (sym (base_tables_named texts))
    (none_named user name (declared_tables texts) (declared_definitions texts) (none_placed (is_table user name) (declared_tables texts) none)))

-- ---- an item

module _ (row_numbers : ℕ) (texts : List SchemaText) (modules : List ModuleText) (s : Session) (opened : IsOpened row_numbers texts modules s) where
  abbrev elements : Elements
  elements = elements_of texts

  -- what the session calls by these names is the procedure that the modules declare, with its parameters
  record IsCalled («module» name : Name) (number : ℕ) : Type 0 where
    procedure : Procedure
    is : procedure_called modules «module» name ≡ Some procedure
    fits : (values : List Value) → fits_at s.procedures number values ≡ fit (declared_parameters procedure) values

  is_called_as : («module» name : Name) (number : ℕ) → procedure_number s.procedures «module» name ≡ Some number → IsCalled «module» name number
  is_called_as «module» name number found =
      let program = opened.written.program in
      let all = procedures_of program.cursors.items program.procedures.entries in
      let there = position_at (is_procedure «module» name) all number (subst (λ ps. procedure_number ps «module» name ≡ Some number) opened.written.are found) in
      let of = unmapped_at (procedure_of program.cursors.items) program.procedures.entries number there.0 there.1 in
      let e : ProcedureName × BoundProcedure = of.0 in
      let is : procedure_of program.cursors.items e ≡ there.0 = of.2 in
      let here : slice_get s.procedures number ≡ Some (procedure_of program.cursors.items e) = ap (λ ps. slice_get ps number) opened.written.are ∙ there.1 ∙ ap (λ q. Some q) (sym is) in
      let names = and_parts _ _ (subst (λ q. is_procedure «module» name q ≡ true) (sym is) there.2) in
      let f : IsFromTexts opened.known modules program.cursors.items e
      = each_of_all (IsFromTexts opened.known modules program.cursors.items) program.procedures.entries opened.written.is_of.procedures number e of.1 in
      record {
        procedure = f.procedure;
        is =
            ap (option_and_then (λ m. procedure_named m name))
            (ap (module_named modules) (same_text «module» e.0.«module» (sym names.0) ∙ f.named) ∙ module_found modules opened.admitted f.text f.among)
            ∙ ap (procedure_named f.text) (same_text name e.0.name (sym names.1) ∙ f.is_named) ∙ procedure_found modules opened.admitted f.text f.among f.procedure f.is_item;
        fits = λ values.
            ap (λ o. option_map_or (λ (p : SessionProcedure). fit p.parameters values) o false) here
            ∙ ap (λ ds. fit ds values) (bound_declared f.procedure e.1.parameters f.bound.parameters);
      }

  not_called : («module» name : Name) → procedure_number s.procedures «module» name ≡ None → procedure_called modules «module» name ≡ None
  not_called «module» name none =
      none_called «module» name modules
      (subst (AllByRecursion (IsNone «module» name)) opened.procedures
      (mapped_all (IsNone «module» name) name_of s.procedures (none_placed (is_procedure «module» name) s.procedures none)))

  arguments_alike : (fits : Bool) → AreAlike (if fits then None else Some refusal.BadArguments) (if fits then None else Some fault.BadArguments)
  arguments_alike true = refl
  arguments_alike false = (fault.BadArguments, refl, refl)

  call_alike : («module» name : Name) (values : List Value) (o : Option ℕ) → procedure_number s.procedures «module» name ≡ o
      → AreAlike (call_fault s.procedures values o) (rules.call_fault values (procedure_called modules «module» name))
  call_alike «module» name values None e =
      (fault.UnknownProcedure, ap (rules.call_fault values) (not_called «module» name e), refl)
  call_alike «module» name values (Some number) e =
      let c = is_called_as «module» name number e in
      subst (AreAlike (call_fault s.procedures values (Some number))) (sym (ap (rules.call_fault values) c.is))
      (subst (λ b. AreAlike (if b then None else Some refusal.BadArguments) (arguments_fault values c.procedure)) (sym (c.fits values))
      (arguments_alike (fit (declared_parameters c.procedure) values)))

  table_alike : (user name : Name) (o : Option ℕ) → table_number s.tables user name ≡ o
      → AreAlike (table_fault o) (if is_some (base_place elements (record { user = user; name = name })) then None else Some fault.UnknownTable)
  table_alike user name None e = (
    fault.UnknownTable,
    ap (λ o. if is_some o then None else Some fault.UnknownTable) (base_missing texts user name (subst (λ ts. table_number ts user name ≡ None) opened.tables e)),
    refl,
  )
  table_alike user name (Some k) e =
      ap (λ o. if is_some o then None else Some fault.UnknownTable)
      (base_found texts (accepted texts modules opened.admitted opened.catalog opened.is_catalog) user name k (subst (λ ts. table_number ts user name ≡ Some k) opened.tables e))

  item_alike : (x : ScriptItem) → AreAlike (item_fault s x) (script_fault_of elements modules x)
  item_alike (script.Call «module» name arguments) = call_alike «module» name (argument_values arguments) (procedure_number s.procedures «module» name) refl
  item_alike (script.Table user name) = table_alike user name (table_number s.tables user name) refl

  -- ---- all items

  no_fault : (x : ScriptItem) → IsTaken s x → script_fault_of elements modules x ≡ None
  no_fault x taken = subst (λ o. AreAlike o (script_fault_of elements modules x)) taken (item_alike x)

  no_refusal : (n : ℕ) (xs : List ScriptItem) → AllByRecursion (IsTaken s) xs → first_some (map (item_refusal elements modules) (enumerate_from n xs)) ≡ None
  no_refusal n [] h = refl
  no_refusal n (x ∷ xs) h =
      ap (λ o. option_or (option_map (λ f. record { item = n; fault = f }) o) (first_some (map (item_refusal elements modules) (enumerate_from (n + 1) xs)))) (no_fault x h.0)
      ∙ no_refusal (n + 1) xs h.1

  -- No item of a script that is taken has a fault.
  pub script_accepted : (text : ScriptText) → All (IsTaken s) text.items → first_script_refusal elements modules text ≡ None
  script_accepted text taken = no_refusal 0 text.items (recursion_from_All (IsTaken s) text.items taken)

  first_refusal : (n k : ℕ) (xs : List ScriptItem) (x : ScriptItem) (f : ScriptFault) → slice_get xs k ≡ Some x → script_fault_of elements modules x ≡ Some f
      → AllByRecursion (IsTaken s) (take k xs) → first_some (map (item_refusal elements modules) (enumerate_from n xs)) ≡ Some (record { item = n + k; fault = f })
  first_refusal n k [] x f at is before = cc
  first_refusal n zero (y ∷ xs) x f at is before =
      let same : y ≡ x = cc in
      let here : n ≡ n + 0 = omega arith in
      ap (λ o. option_or (option_map (λ g. record { item = n; fault = g }) o) (first_some (map (item_refusal elements modules) (enumerate_from (n + 1) xs)))) (ap (script_fault_of elements modules) same ∙ is)
      ∙ ap (λ i. Some (record { item = i; fault = f })) here
  first_refusal n (suc k) (y ∷ xs) x f at is before =
      let there : n + 1 + k ≡ n + suc k = omega arith in
      ap (λ o. option_or (option_map (λ g. record { item = n; fault = g }) o) (first_some (map (item_refusal elements modules) (enumerate_from (n + 1) xs)))) (no_fault y before.0)
      ∙ first_refusal (n + 1) k xs x f at is before.1 ∙ ap (λ i. Some (record { item = i; fault = f })) there

  -- Where an item is not taken, and all before it are, its fault is the first refusal.
  pub record IsFirst (text : ScriptText) (number : ℕ) (what : RefusalName) : Type 0 where
    pub fault : ScriptFault
    pub first : first_script_refusal elements modules text ≡ Some (record { item = number; fault = fault })
    pub is : script_fault what ≡ Some fault

  pub script_refused : (text : ScriptText) (number : ℕ) (x : ScriptItem) (what : RefusalName) → slice_get text.items number ≡ Some x → item_fault s x ≡ Some what
      → All (IsTaken s) (take number text.items) → IsFirst text number what
  script_refused text number x what at is before =
      let alike = subst (λ o. AreAlike o (script_fault_of elements modules x)) is (item_alike x) in
      let found : ScriptFault = alike.0 in
      let place : 0 + number ≡ number = omega arith in
      record {
        fault = found;
        first =
            first_refusal 0 number text.items x found at alike.1 (recursion_from_All (IsTaken s) (take number text.items) before)
            ∙ ap (λ i. Some (record { item = i; fault = found })) place;
        is = alike.2;
      }
