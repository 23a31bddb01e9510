-- Accepted texts never come to a default of the definitions (ISO/IEC 9075:1992, 11.4, 12.3 and 13.1).
use Rattle.std.proofs.Common.{ap, inl, inr, sym, ◌∙◌}
use Rattle.std.proofs.lemmas.Bool.{and_parts, or_parts}
use Rattle.std.proofs.lemmas.List.Folds.{list_any-append}
use Rattle.std.specs.List.{AllByRecursion, IsAmong, list_any}
use Rattle.std.specs.Prelude.{◌≡◌, ◌⊎◌, ℕ, zero, suc, Bool, true, false, ◌&&◌, ◌||◌, List, [], ◌∷◌, map, length, flat_map, nat_lt, is_none, is_ok, is_some, if◌then◌else◌, slice_get, Option, unwrap_or, refl, Some, None, Result, Ok, Err}
use Rattle.std.specs.Result.{result_ok}
use Rattle.sq_lex.specs.declared.name.Name.{Name}
use Rattle.sq_value.specs.Domain.{start_value}
use Rattle.sq_value.specs.Storing.{stored}
use Rattle.sq_value.specs.declared.domain.Domain.{Domain}
use Rattle.sq_value.specs.declared.fault.StoreFault.{StoreFault}
use Rattle.sq_value.specs.declared.value.Value.{Value}
use Rattle.sq_value.specs.declared.value.Value.TheVariants as value
use Rattle.sq_tree.specs.declared.module.Cursor.{Cursor}
use Rattle.sq_tree.specs.declared.module.ModuleItem.TheVariants as item
use Rattle.sq_tree.specs.declared.module.ModuleText.{ModuleText}
use Rattle.sq_tree.specs.declared.module.Procedure.{Procedure}
use Rattle.sq_tree.specs.declared.schema.SchemaElement.{SchemaElement}
use Rattle.sq_tree.specs.declared.schema.SchemaElement.TheVariants as element
use Rattle.sq_tree.specs.declared.schema.SchemaText.{SchemaText}
use Rattle.sq_meaning.specs.Assignment.{IsStoreOutcome, assigned}
use Rattle.sq_meaning.specs.Environment.{same_name}
use Rattle.sq_meaning.specs.Spelled.{domain_of}
use Rattle.sq_meaning.specs.Status.{Outcome}
use Rattle.sq_meaning.specs.Tables.{Declared}
use Rattle.sq_meaning.specs.declared.refusal.ScriptFault.TheVariants as script_fault
use Rattle.sq_meaning.proofs.AnswerLaws.{all_weaker}
use Rattle.sq_meaning.proofs.AssignmentLaws.{store_statuses}
use Rattle.sq_meaning.specs.Cursor.{CursorState}
use Rattle.sq_meaning.specs.Machine.{Call, Outcomes, Program, State, entries_of, is_entry, performed, performed_if, running, first_state}
use Rattle.sq_meaning.specs.Module.{cursors, declared_parameters, module_named, parameter_declarations, procedure_named}
use Rattle.sq_meaning.specs.ModuleRefusal.{first_module_refusal, is_bad_type}
use Rattle.sq_meaning.specs.Parameter.{started}
use Rattle.sq_meaning.specs.Run.{RunItem, after, after_item, program_of}
use Rattle.sq_meaning.specs.Schema.{Elements, base_place, column_definitions, has_name_twice}
use Rattle.sq_meaning.specs.SchemaRefusal.{elements_of, first_schema_refusal}
use Rattle.sq_meaning.specs.Script.{fit, fits_in}
use Rattle.sq_meaning.specs.WellFormedStatement.{is_well_formed_procedure}
use Rattle.sq_run.specs.Defaults.{AreStarted, DefaultsAreNotReached, HasCursors, HaveDomains, ParametersHaveDomains}
use Rattle.sq_run.proofs.Laws.Accepted.{AreAccepted, IsAccepted, accepted_elements}
use Rattle.sq_run.proofs.Laws.CalledAs.{called_as, no_module, no_procedure}
use Rattle.sq_run.proofs.Steps.Found.{among_at, itself, parameters_good}
use Rattle.sq_run.proofs.Steps.Projected.{closed_there, still_there}
use Rattle.sq_run.proofs.Laws.ShownRowLaws.{Turn, turn}
use Rattle.sq_run.proofs.Sites.SiteLaws.{none_passes}

-- ---- domains of columns and parameters

is_there : {A : Type 0} (o : Option A) → is_none o ≡ false → is_some o ≡ true
is_there (Some x) e = refl
is_there None e = cc

columns_of : (before : Elements) (user : Name) (x : SchemaElement) → IsAccepted before user x → HaveDomains x
columns_of before user (element.Table t) h =
    all_weaker (λ c. is_none (domain_of c.data_type) ≡ false) (λ c. is_some (domain_of c.data_type) ≡ true) (λ c e. is_there (domain_of c.data_type) e) (column_definitions t)
    (none_passes (λ c. is_none (domain_of c.data_type)) (column_definitions t) h.1.1.0)
columns_of before user (element.View v) h = tt
columns_of before user (element.Grant g) h = tt

all_columns : (elements : Elements) → AreAccepted elements → AllByRecursion (λ e. HaveDomains e.element) elements
all_columns [] h = tt
all_columns (e ∷ before) h = (columns_of before e.user e.element h.0, all_columns before h.1)

parameters_of : (modules : List ModuleText) → first_module_refusal modules ≡ None → (m : ModuleText) (q : Procedure) → IsAmong modules m
    → IsAmong m.items (item.Procedure q) → ParametersHaveDomains q
parameters_of modules admitted m q among is_item =
    let ds = parameter_declarations q in
    let good = parameters_good modules admitted m among q is_item in
    let typed = (or_parts (has_name_twice (map (λ d. d.name) ds)) (list_any (λ d. is_bad_type d.data_type) ds) (or_parts (has_name_twice (map (λ d. d.name) ds) || list_any (λ d. is_bad_type d.data_type) ds) (nat_lt 64 (length ds)) good).0).1 in
    all_weaker (λ d. is_bad_type d.data_type ≡ false) (λ d. is_some (domain_of d.data_type) ≡ true) (λ d e. is_there (domain_of d.data_type) e) ds
    (none_passes (λ d. is_bad_type d.data_type) ds typed)

-- ---- values that are handed in

abbrev StartsAs : Domain → Value → Type 0
StartsAs d v = (v ≡ value.Null) ⊎ (assigned d v ≡ Ok (started d v))

stored_there : (d : Domain) (v : Value) → is_ok (stored d v) ≡ true → (w : Value) × (assigned d v ≡ Ok w)
stored_there d v e = by_result (stored d v) (assigned d v) (store_statuses d v) e
  where
    by_result : (r : Result Value StoreFault) (o : Outcome Value) → IsStoreOutcome r o → is_ok r ≡ true → (w : Value) × (o ≡ Ok w)
    by_result (Ok w) o h e = (w, h)
    by_result (Err fault) o h e = cc

starts_as : (d : Domain) (v : Value) → fits_in d v ≡ true → StartsAs d v
starts_as d value.Null e = inl refl
starts_as d (value.Num n) e =
    let w = stored_there d (value.Num n) e in
    inr (w.1 ∙ ap Ok (sym (ap (λ (o : Outcome Value). unwrap_or (result_ok o) (start_value d)) w.1)))
starts_as d (value.Chars t) e =
    let w = stored_there d (value.Chars t) e in
    inr (w.1 ∙ ap Ok (sym (ap (λ (o : Outcome Value). unwrap_or (result_ok o) (start_value d)) w.1)))

all_start : (ds : List Declared) (vs : List Value) → fit ds vs ≡ true → AreStarted ds vs
all_start [] [] e = tt
all_start [] (v ∷ vs) e = cc
all_start (d ∷ ds) [] e = cc
all_start (d ∷ ds) (v ∷ vs) e =
    let both = and_parts (fits_in d.domain v) (fit ds vs) e in (starts_as d.domain v both.0, all_start ds vs both.1)

-- ---- cursors

any_there : {A : Type 0} (test : A → Bool) (xs : List A) (n : ℕ) (x : A) → slice_get xs n ≡ Some x → test x ≡ true → list_any test xs ≡ true
any_there test [] n x at e = cc
any_there test (y ∷ ys) zero x at e = let same : y ≡ x = cc in ap (λ b. b || list_any test ys) (ap test same ∙ e)
any_there {A} test (y ∷ ys) (suc n) x at e = or_else (test y) (list_any test ys) (any_there test ys n x at e)
  where
    or_else : (a b : Bool) → b ≡ true → (a || b) ≡ true
    or_else true b h = refl
    or_else false b h = h

any_in_one : {A B : Type 0} (test : B → Bool) (f : A → List B) (xs : List A) (n : ℕ) (x : A) → slice_get xs n ≡ Some x → list_any test (f x) ≡ true
    → list_any test (flat_map f xs) ≡ true
any_in_one test f [] n x at e = cc
any_in_one test f (y ∷ ys) zero x at e =
    let same : y ≡ x = cc in
    list_any-append test (f y) (flat_map f ys) ∙ ap (λ b. b || list_any test (flat_map f ys)) (ap (λ z. list_any test (f z)) same ∙ e)
any_in_one {A} test f (y ∷ ys) (suc n) x at e =
    list_any-append test (f y) (flat_map f ys) ∙ or_else (list_any test (f y)) (list_any test (flat_map f ys)) (any_in_one test f ys n x at e)
  where
    or_else : (a b : Bool) → b ≡ true → (a || b) ≡ true
    or_else true b h = refl
    or_else false b h = h

any_entry : (m : ModuleText) (cs : List Cursor) (n : ℕ) (c : Cursor) → slice_get cs n ≡ Some c
    → list_any (is_entry m.name c.name) (map (λ d. record { in_module = m.name; name = d.name; state = CursorState.closed }) cs) ≡ true
any_entry m [] n c at = cc
any_entry m (d ∷ cs) zero c at =
    let same : d ≡ c = cc in
    ap (λ b. b || list_any (is_entry m.name c.name) (map (λ e. record { in_module = m.name; name = e.name; state = CursorState.closed }) cs))
    ((λ i. itself m.name i && same_name (same i).name c.name) ∙ itself c.name)
any_entry m (d ∷ cs) (suc n) c at = or_else (is_entry m.name c.name (record { in_module = m.name; name = d.name; state = CursorState.closed })) (any_entry m cs n c at)
  where
    or_else : (a : Bool) → {b : Bool} → b ≡ true → (a || b) ≡ true
    or_else true h = refl
    or_else false h = h

module _ (p : Program) where
  first_cursors : HasCursors p (first_state p)
  first_cursors = λ m c among own.
      let at = among_at p.modules m among in
      let there = among_at (cursors m) c own in
      any_in_one (is_entry m.name c.name) entries_of p.modules at.0 m at.1 (any_entry m (cursors m) there.0 c there.1)

  same_cursors : (s t : State) → t.cursors ≡ s.cursors → HasCursors p s → HasCursors p t
  same_cursors s t e h = λ m c among own. ap (list_any (is_entry m.name c.name)) e ∙ h m c among own

  call_keeps : (s : State) (c : Call) → HasCursors p s → HasCursors p (after_item p s (RunItem.call c))
  call_keeps s c h = by_module (module_named p.modules c.in_module) refl
    where
      by_turn : (m : ModuleText) (q : Procedure) → (o : Outcomes) → after_item p s (RunItem.call c) ≡ o.0 → Turn (running p s c.values m q) q.statement o
          → HasCursors p (after_item p s (RunItem.call c))
      by_turn m q o e (Turn.stays t) = same_cursors s (after_item p s (RunItem.call c)) (ap (λ (x : State). x.cursors) e ∙ t) h
      by_turn m q o e (Turn.all_close t) = λ k d among own.
          ap (list_any (is_entry k.name d.name)) (ap (λ (x : State). x.cursors) e ∙ t) ∙ closed_there k.name d.name s.cursors ∙ h k d among own
      by_turn m q o e (Turn.sets name x t set) = λ k d among own.
          ap (list_any (is_entry k.name d.name)) (ap (λ (y : State). y.cursors) e ∙ t) ∙ still_there m.name name k.name d.name x s.cursors ∙ h k d among own

      by_rules : (m : ModuleText) → module_named p.modules c.in_module ≡ Some m → (q : Procedure) → procedure_named m c.procedure ≡ Some q
          → (b : Bool) → is_well_formed_procedure p.elements m q ≡ b → HasCursors p (after_item p s (RunItem.call c))
      by_rules m is_m q is_q true e =
          by_turn m q (performed (running p s c.values m q) q.statement)
          (ap (λ (o : Outcomes). o.0) (called_as p s c m is_m q is_q ∙ ap (λ b. performed_if b (running p s c.values m q)) e))
          (turn (running p s c.values m q) q.statement)
      by_rules m is_m q is_q false e =
          same_cursors s (after_item p s (RunItem.call c))
          (ap (λ (o : Outcomes). (o.0).cursors) (called_as p s c m is_m q is_q ∙ ap (λ b. performed_if b (running p s c.values m q)) e)) h

      by_procedure : (m : ModuleText) → module_named p.modules c.in_module ≡ Some m → (o : Option Procedure) → procedure_named m c.procedure ≡ o
          → HasCursors p (after_item p s (RunItem.call c))
      by_procedure m is_m None e = same_cursors s (after_item p s (RunItem.call c)) (ap (λ (o : Outcomes). (o.0).cursors) (no_procedure p s c m is_m e)) h
      by_procedure m is_m (Some q) e = by_rules m is_m q e (is_well_formed_procedure p.elements m q) refl

      by_module : (o : Option ModuleText) → module_named p.modules c.in_module ≡ o → HasCursors p (after_item p s (RunItem.call c))
      by_module None e = same_cursors s (after_item p s (RunItem.call c)) (ap (λ (o : Outcomes). (o.0).cursors) (no_module p s c e)) h
      by_module (Some m) e = by_procedure m e (procedure_named m c.procedure) refl

  item_keeps : (s : State) (i : RunItem) → HasCursors p s → HasCursors p (after_item p s i)
  item_keeps s (RunItem.call c) h = call_keeps s c h
  item_keeps s (RunItem.show name) h = h

  all_keep : (items : List RunItem) (s : State) → HasCursors p s → HasCursors p (after p s items)
  all_keep [] s h = h
  all_keep (i ∷ items) s h = all_keep items (after_item p s i) (item_keeps s i h)

-- ---- all of them

shown_there : (o : Option ℕ) → (if is_some o then None else Some script_fault.UnknownTable) ≡ None → is_some o ≡ true
shown_there (Some place) e = refl
shown_there None e = cc

pub defaults_are_not_reached : (schemas : List SchemaText) (modules : List ModuleText) (row_numbers : ℕ)
    → first_schema_refusal schemas ≡ None → first_module_refusal modules ≡ None → DefaultsAreNotReached (program_of schemas modules row_numbers)
defaults_are_not_reached schemas modules row_numbers accepted admitted = record {
  columns = all_columns (elements_of schemas) (accepted_elements schemas accepted);
  parameters = parameters_of modules admitted;
  values = λ q vs e. all_start (declared_parameters q) vs e;
  cursors = λ items. all_keep (program_of schemas modules row_numbers) items (first_state (program_of schemas modules row_numbers)) (first_cursors (program_of schemas modules row_numbers));
  shown = λ user table e. shown_there (base_place (elements_of schemas) (record { user = user; name = table })) e;
}
