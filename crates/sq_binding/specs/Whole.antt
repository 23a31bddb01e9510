-- Parts that are bound by themselves, in no query. Their subqueries are numbered from 0, and a missing privilege is a fault if there is
-- no other.
use Rattle.std.specs.Prelude.{Bool, false, not, if◌then◌else◌, Ok, Err}
use Rattle.sq_meaning.specs.declared.fault.BindingFault.{BindingFault}
use Rattle.sq_meaning.specs.declared.fault.BindingFault.TheVariants as fault
use Rattle.sq_binding.specs.Findings.{none}
use Rattle.sq_binding.specs.Found.{Binding, Counts, Found}
use Rattle.sq_binding.specs.Outcome.{Outcome, and_then}
use Rattle.sq_binding.specs.QueryFindings.{QueryFindings}

abbrev pub at_first : Counts
at_first = record { functions = 0; subqueries = 0 }

abbrev pub permitted : {A : Type 0} → Found A → Outcome A
permitted x = if x.findings.lacks_privilege then Err fault.PrivilegeMissing else Ok x.part

abbrev pub whole : {A : Type 0} → Binding A → Outcome A
whole b = and_then (b at_first) permitted

-- the findings in a part that needs a privilege
abbrev pub needed : (is_held : Bool) → QueryFindings
needed is_held = record {
  values = none;
  has_subquery = false;
  lacks_privilege = not is_held;
  lacks_grant_option = false;
}

-- a test that has to hold
abbrev pub must_hold : Bool → BindingFault → Outcome (Unit {0})
must_hold test f = if test then Ok tt else Err f
