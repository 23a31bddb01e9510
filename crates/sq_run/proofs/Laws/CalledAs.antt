-- What a call is performed as: nothing where its module or procedure is not there, and else what its procedure's
-- statement is, where no rule is broken (ISO/IEC 9075:1992, 12.3 and 12.4).
use Rattle.std.proofs.Common.{ap, ◌∙◌}
use Rattle.std.proofs.lemmas.Bool.{not-true}
use Rattle.std.specs.Prelude.{◌≡◌, Option, not, true, unwrap_or, option_map, option_and_then, refl, Some, None}
use Rattle.sq_tree.specs.declared.module.ModuleText.{ModuleText}
use Rattle.sq_tree.specs.declared.module.Procedure.{Procedure}
use Rattle.sq_meaning.specs.declared.status.Status.TheVariants as status
use Rattle.sq_meaning.specs.Machine.{Call, Outcomes, Program, State, call_in, call_of, outcome, performed_if, running}
use Rattle.sq_meaning.specs.Module.{module_named, procedure_named}
use Rattle.sq_meaning.specs.Parameter.{replied_with}
use Rattle.sq_meaning.specs.WellFormedStatement.{is_well_formed_procedure}
use Rattle.sq_meaning.specs.Words.{is_some_and}
use Rattle.sq_run.specs.Faulty.{FaultsChangeNothing}

module _ (p : Program) (s : State) (c : Call) where
  abbrev pub unknown : Outcomes
  unknown = (s, replied_with status.SyntaxErrorOrAccessRuleViolation)

  pub no_module : module_named p.modules c.in_module ≡ None → outcome p s c ≡ unknown
  no_module e = ap (λ (o : Option ModuleText). unwrap_or (option_and_then (call_in p s c) o) unknown) e

  pub no_procedure : (m : ModuleText) → module_named p.modules c.in_module ≡ Some m → procedure_named m c.procedure ≡ None
      → outcome p s c ≡ unknown
  no_procedure m is_m e =
      ap (λ (o : Option ModuleText). unwrap_or (option_and_then (call_in p s c) o) unknown) is_m
      ∙ ap (λ (o : Option Procedure). unwrap_or (option_map (call_of p s c.values m) o) unknown) e

  pub called_as : (m : ModuleText) → module_named p.modules c.in_module ≡ Some m → (q : Procedure) → procedure_named m c.procedure ≡ Some q
      → outcome p s c ≡ performed_if (is_well_formed_procedure p.elements m q) (running p s c.values m q)
  called_as m is_m q is_q =
      ap (λ (o : Option ModuleText). unwrap_or (option_and_then (call_in p s c) o) unknown) is_m
      ∙ ap (λ (o : Option Procedure). unwrap_or (option_map (call_of p s c.values m) o) unknown) is_q

-- With a fault in its procedure a call answers 42000 and changes nothing.
pub faults_change_nothing : (p : Program) → FaultsChangeNothing p
unfolding FaultsChangeNothing
faults_change_nothing p = λ s c e. by_module s c (module_named p.modules c.in_module) refl e
  where
    by_procedure : (s : State) (c : Call) (m : ModuleText) → module_named p.modules c.in_module ≡ Some m → (o : Option Procedure)
        → procedure_named m c.procedure ≡ o → is_some_and (λ q. not (is_well_formed_procedure p.elements m q)) o ≡ true
        → outcome p s c ≡ unknown p s c
    by_procedure s c m is_m None is_q e = cc
    by_procedure s c m is_m (Some q) is_q e =
        called_as p s c m is_m q is_q ∙ ap (λ b. performed_if b (running p s c.values m q)) (not-true (is_well_formed_procedure p.elements m q) e)

    by_module : (s : State) (c : Call) (o : Option ModuleText) → module_named p.modules c.in_module ≡ o
        → is_some_and (λ m. is_some_and (λ q. not (is_well_formed_procedure p.elements m q)) (procedure_named m c.procedure)) o ≡ true
        → outcome p s c ≡ unknown p s c
    by_module s c None is_m e = cc
    by_module s c (Some m) is_m e = by_procedure s c m is_m (procedure_named m c.procedure) refl e
