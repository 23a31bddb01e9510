-- What holds of every state that calls lead to: the rows of each table stand in the order of rising numbers (own rule), and the
-- cursors are those that modules declare (ISO/IEC 9075:1992, 4.21).
use Rattle.std.proofs.Common.{ap, sym, subst, ◌∙◌}
use Rattle.std.specs.List.{list_any}
use Rattle.std.specs.Prelude.{◌≡◌, ⊤, Bool, true, false, List, [], ◌∷◌, fold, Option, refl, Some, None}
use Rattle.sq_lex.specs.declared.name.Name.{Name}
use Rattle.sq_value.specs.declared.value.Value.{Value}
use Rattle.sq_tree.specs.declared.module.ModuleText.{ModuleText}
use Rattle.sq_tree.specs.declared.module.Procedure.{Procedure}
use Rattle.sq_tree.specs.declared.statement.Statement.{Statement}
use Rattle.sq_tree.specs.declared.statement.Statement.TheVariants as statement
use Rattle.sq_tree.specs.declared.statement.Where.{Where}
use Rattle.sq_tree.specs.declared.statement.Where.TheVariants as rows_where
use Rattle.sq_meaning.specs.Catalog.{base_count}
use Rattle.sq_meaning.specs.Machine.{Call, Outcomes, Program, Running, State, first_state, is_entry, performed, performed_if, running, stepped}
use Rattle.sq_meaning.specs.Module.{module_named, procedure_named}
use Rattle.sq_meaning.specs.Run.{RunItem, after_item}
use Rattle.sq_meaning.specs.WellFormedStatement.{is_well_formed_procedure}
use Rattle.sq_run.specs.ShownRows.{state_after}
use Rattle.sq_run.proofs.Laws.CalledAs.{called_as, no_module, no_procedure}
use Rattle.sq_run.proofs.Laws.ShownRowLaws.{Turn, turn}
use Rattle.sq_run.proofs.Steps.Projected.{closed_there, still_there}
use Rattle.sq_run.proofs.Steps.FirstState.{empty_rise}
use Rattle.sq_run.proofs.Steps.Moves.{AllRise, InWhere, NamesOnly, kept_of_both, performed_goes, rise_kept}

abbrev Any : Name → Type 0
Any name = ⊤

any_where : (w : Option Where) → InWhere Any w
any_where None = tt
any_where (Some (rows_where.Condition c)) = tt
any_where (Some (rows_where.CurrentOf cursor)) = tt

any_named : (x : Statement) → NamesOnly Any x
any_named (statement.Open name) = tt
any_named (statement.Fetch f) = tt
any_named (statement.Close name) = tt
any_named (statement.Select x) = tt
any_named (statement.Insert x) = tt
any_named (statement.Update x) = tt
any_named (statement.Delete x) = any_where x.target
any_named (statement.Commit work) = tt
any_named (statement.Rollback work) = tt

abbrev BothRise : State → Type 0
BothRise s = AllRise s.tables × AllRise s.committed

-- what each statement keeps holds after any items
module _ (P : State → Type 0) (p : Program)
    (keeps : (s : State) (values : List Value) (m : ModuleText) (q : Procedure) → P s → P (performed (running p s values m q) q.statement).0) where
  module _ (s : State) (c : Call) (h : P s) where
    as_performed : (m : ModuleText) (q : Procedure) (b : Bool) → P (performed_if b (running p s c.values m q)).0
    as_performed m q true = keeps s c.values m q h
    as_performed m q false = h

    by_procedure : (m : ModuleText) → module_named p.modules c.in_module ≡ Some m → (o : Option Procedure) → procedure_named m c.procedure ≡ o
        → P (stepped p s c)
    by_procedure m is_m None e = subst (λ (x : Outcomes). P x.0) (sym (no_procedure p s c m is_m e)) h
    by_procedure m is_m (Some q) e = subst (λ (x : Outcomes). P x.0) (sym (called_as p s c m is_m q e)) (as_performed m q (is_well_formed_procedure p.elements m q))

    by_module : (o : Option ModuleText) → module_named p.modules c.in_module ≡ o → P (stepped p s c)
    by_module None e = subst (λ (x : Outcomes). P x.0) (sym (no_module p s c e)) h
    by_module (Some m) e = by_procedure m e (procedure_named m c.procedure) refl

  one_item : (s : State) (i : RunItem) → P s → P (after_item p s i)
  one_item s (RunItem.call c) h = by_module s c h (module_named p.modules c.in_module) refl
  one_item s (RunItem.show name) h = h

  after_items : (s : State) (items : List RunItem) → P s → P (fold (after_item p) s items)
  after_items s [] h = h
  after_items s (i ∷ items) h = after_items (after_item p s i) items (one_item s i h)

pub states_rise : (p : Program) (items : List RunItem) → AllRise (state_after p items).tables × AllRise (state_after p items).committed
states_rise p items =
    after_items BothRise p
    (λ s values m q h. kept_of_both AllRise rise_kept s (performed (running p s values m q) q.statement).0
    (performed_goes Any (running p s values m q) q.statement (any_named q.statement)).0 h)
    (first_state p) items (empty_rise (base_count p.elements), empty_rise (base_count p.elements))

-- ---- cursors

entry_turned : (k name : Name) (r : Running) (x : Statement) (o : Outcomes) → Turn r x o
    → list_any (is_entry k name) (o.0).cursors ≡ list_any (is_entry k name) r.state.cursors
entry_turned k name r x o (Turn.stays e) = ap (list_any (is_entry k name)) e
entry_turned k name r x o (Turn.all_close e) = ap (list_any (is_entry k name)) e ∙ closed_there k name r.state.cursors
entry_turned k name r x o (Turn.sets other c e set) = ap (list_any (is_entry k name)) e ∙ still_there r.in_module.name other k name c r.state.cursors

-- Calls add no cursor, and take none away.
pub entries_stay : (p : Program) (items : List RunItem) (k name : Name)
    → list_any (is_entry k name) (state_after p items).cursors ≡ list_any (is_entry k name) (first_state p).cursors
entries_stay p items k name =
    after_items (λ s. list_any (is_entry k name) s.cursors ≡ list_any (is_entry k name) (first_state p).cursors) p
    (λ s values m q h. entry_turned k name (running p s values m q) q.statement (performed (running p s values m q) q.statement) (turn (running p s values m q) q.statement) ∙ h)
    (first_state p) items refl
