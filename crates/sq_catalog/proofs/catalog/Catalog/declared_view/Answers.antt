-- Left open for Catalog::declared_view: the clause exact; answered by ViewMade.
use Rattle.std.proofs.Common.{◌≡◌, Ok, ap, subst}
use Rattle.sq_meaning.specs.declared.refusal.SchemaFault.TheVariants.{NameTwice}
use Rattle.sq_binding.specs.ElementOutcome.{refused_if}
use Rattle.sq_binding.specs.Table.{is_taken}
use Rattle.sq_binding.specs.CreateView.{declared_view}
use Rattle.sq_catalog.specs.Exact.{declared, name_in}
use Rattle.sq_catalog.specs.Fault.{Stops}
use Rattle.sq_catalog.specs.ViewMade.{view_found}
use Rattle.sq_catalog.proofs.CreateView.ViewMade.{declared_made, declared_taken, declared_twice, declared_unbound, view_handed_on}
use Rattle.sq_catalog.proofs.catalog.Catalog.declared_view.Goals as goal

pub returns-in_err-check_new_name-clause-exact : goal.returns-in_err-check_new_name-clause-exact
returns-in_err-check_new_name-clause-exact c =
    let d = declared c.args.self.now in
    let stop = c.in_err-check_new_name.field-0.0 in
    view_handed_on c.args.name.now (declared_view d c.args.user c.args.definition.now) c.from_residual.result stop c.from_residual.ensures.1
    (declared_taken d c.args.user c.args.definition.now stop (subst (λ t. Stops (refused_if NameTwice (is_taken d c.args.user t)) stop) (ap name_in c.requires) c.in_err-check_new_name.ensures.exact))

pub returns-in_err-listed-clause-exact : goal.returns-in_err-listed-clause-exact
returns-in_err-listed-clause-exact c =
    let d = declared c.args.self.now in
    let stop = c.in_err-listed.field-0.0 in
    view_handed_on c.args.name.now (declared_view d c.args.user c.args.definition.now) c.from_residual-in_err-listed.result stop c.from_residual-in_err-listed.ensures.1
    (declared_twice d c.args.user c.args.definition.now stop (subst (λ t. refused_if NameTwice (is_taken d c.args.user t) ≡ Ok tt) (ap name_in c.requires) c.in_ok-check_new_name.ensures.exact) c.in_err-listed.ensures.exact)

pub returns-in-Ok-clause-exact : goal.returns-in-Ok-clause-exact
returns-in-Ok-clause-exact c =
    let d = declared c.args.self.now in
    declared_made d c.args.user c.args.definition.now c.args.name.now (view_found c.in-Ok.bound) c.named_view.result
    (subst (λ t. refused_if NameTwice (is_taken d c.args.user t) ≡ Ok tt) (ap name_in c.requires) c.in_ok-check_new_name.ensures.exact) c.in_ok-listed.ensures.exact c.in-Ok.ensures.exact c.named_view.ensures.exact

pub returns-in-Err-clause-exact : goal.returns-in-Err-clause-exact
returns-in-Err-clause-exact c =
    let d = declared c.args.self.now in
    declared_unbound d c.args.user c.args.definition.now c.in-Err.fault
    (subst (λ t. refused_if NameTwice (is_taken d c.args.user t) ≡ Ok tt) (ap name_in c.requires) c.in_ok-check_new_name.ensures.exact) c.in_ok-listed.ensures.exact c.in-Err.ensures.exact
