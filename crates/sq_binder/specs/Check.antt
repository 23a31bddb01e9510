-- The contract of a function that binds the condition of a CHECK (ISO/IEC 9075:1992, 11.9).
use Rattle.std.specs.Prelude.{⊤, ◌≡◌, false, None, Result, Ok, Err}
use Rattle.sq_bound.specs.declared.condition.BoundCond.{BoundCond}
use Rattle.sq_binding.specs.NumberedCondition.{NumberedCond}
use Rattle.sq_binding.specs.Seen.{cond_seen}
use Rattle.sq_binding.specs.Select.{Surroundings}
use Rattle.sq_binding.specs.View.{CheckFault}
use Rattle.sq_binder.specs.Scope.{parameters_in, scopes_in}
use Rattle.sq_binder.specs.declared.scope.Environment.{Environment}
use Rattle.sq_binder.specs.declared.check.CheckStop.{CheckStop}
use Rattle.sq_binder.specs.declared.check.CheckStop.TheVariants as stop

abbrev pub StopsCheck : Result NumberedCond CheckFault → CheckStop → Type 0
StopsCheck outcome stop.NoMemory = ⊤
StopsCheck outcome (stop.Broken fault) = outcome ≡ Err (CheckFault.broken fault)
StopsCheck outcome stop.NotInCheck = outcome ≡ Err CheckFault.not_in_check

-- a condition of CHECK is bound as the definition computes it, or memory ran out
abbrev pub BindsCheck : Result NumberedCond CheckFault → Result BoundCond CheckStop → Type 0
BindsCheck outcome (Ok c) = outcome ≡ Ok (cond_seen c)
BindsCheck outcome (Err stop) = StopsCheck outcome stop

-- surroundings in which no table may be named
abbrev pub no_tables : Environment → Surroundings
no_tables environment = record {
  names = λ t. None;
  parameters = parameters_in environment;
  scopes = scopes_in environment;
  functions_allowed = false;
}
