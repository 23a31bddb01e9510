use Rattle.std.proofs.Common.{◌≡◌, drop}
use Rattle.sq_binding.specs.Scope.{fits}
use Rattle.sq_binder.specs.Scope.{only, scope_of}
use Rattle.sq_binder.specs.declared.scope.Scope.{out-Scope}
use Rattle.sq_binder.proofs.Clauses.Scopes.{fits_from, only_with}
use Rattle.sq_binder.proofs.scope.Scope.only_fit.Given as goal

abbrev pub invariant-loop-number : goal.invariant-loop-number
invariant-loop-number l = only (fits l.reference (scope_of l.self)) ≡ only_with l.found (fits_from l.reference l.number (drop l.number (out-Scope l.self).items.now))
