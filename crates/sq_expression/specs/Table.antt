-- The tables that are read, by their places.
use Rattle.std.specs.Prelude.{ℕ, find, nat_eq, Option, Some, None, Ok, Err}
use Rattle.sq_meaning.specs.Status.{Outcome, ◌>>=◌, well_formed}
use Rattle.sq_expression.specs.Fault.{status_of}
use Rattle.sq_expression.specs.declared.context.Context.{Context}
use Rattle.sq_expression.specs.declared.fault.Failure.{Failure}
use Rattle.sq_expression.specs.declared.table.BaseRows.{BaseRows}
use Rattle.sq_expression.specs.declared.table.ViewRows.{ViewRows}

-- a base table
abbrev pub base_there : Context → ℕ → Outcome BaseRows
base_there context place = well_formed (find (λ t. nat_eq t.place place) context.bases.now)

-- a view, or the status that its query ended with
abbrev pub unless_failed : ViewRows → Option Failure → Outcome ViewRows
unless_failed view None = Ok view
unless_failed view (Some failure) = Err (status_of failure)

abbrev pub view_there : Context → ℕ → Outcome ViewRows
view_there context place =
    well_formed (find (λ t. nat_eq t.place place) context.views.now) >>= λ t. unless_failed t t.failure
