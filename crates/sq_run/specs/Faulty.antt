-- Which calls answer 42000: those of a procedure in whose statement the rules find a fault (ISO/IEC 9075:1992, 12.3 and 22.1).
use Rattle.std.specs.Prelude.{◌≡◌, ℕ, Bool, true, false, not, take, slice_get, Some}
use Rattle.sq_meaning.specs.declared.status.Status.{Status}
use Rattle.sq_meaning.specs.declared.status.Status.TheVariants.{SyntaxErrorOrAccessRuleViolation}
use Rattle.sq_meaning.specs.Machine.{Call, Program, State, outcome, replied}
use Rattle.sq_meaning.specs.Module.{module_named, procedure_named}
use Rattle.sq_meaning.specs.Parameter.{replied_with}
use Rattle.sq_meaning.specs.Run.{RunItem}
use Rattle.sq_meaning.specs.WellFormedStatement.{is_well_formed_procedure}
use Rattle.sq_meaning.specs.Words.{is_some_and}
use Rattle.sq_run.specs.Answer.{Task}
use Rattle.sq_run.specs.ShownRows.{state_after}

abbrev pub is_syntax_error : Status → Bool
is_syntax_error SyntaxErrorOrAccessRuleViolation = true
is_syntax_error _ = false

-- the rules find a fault in the statement of the procedure that is called
abbrev pub is_faulty : Program → Call → Bool
is_faulty p c =
    is_some_and (λ m. is_some_and
    (λ q. not (is_well_formed_procedure p.elements m q)) (procedure_named m c.procedure))
    (module_named p.modules c.in_module)

-- In every state a call of a procedure with a fault answers 42000 and changes nothing.
unfoldable pub FaultsChangeNothing : Program → Type 0
FaultsChangeNothing p =
    (s : State) (c : Call) → is_faulty p c ≡ true
    → outcome p s c ≡ (s, replied_with SyntaxErrorOrAccessRuleViolation)

-- the state of the machine behind the first items
abbrev pub behind_first : Task → ℕ → State
behind_first task count = state_after task.machine (take count task.items)

-- Each call of a script answers 42000 exactly where its procedure has a fault.
unfoldable pub FaultsAnswer42000 : Task → Type 0
FaultsAnswer42000 task =
    (count : ℕ) (c : Call) → slice_get task.items count ≡ Some (RunItem.call c)
    → is_syntax_error (replied task.machine (behind_first task count) c).status ≡ is_faulty task.machine c
