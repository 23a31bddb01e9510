-- Left open for Catalog::bound_view: the clauses bound and exact; answered by ViewAlone and ViewFound.
use Rattle.std.proofs.Common.{ap, sym, subst, ◌∙◌}
use Rattle.sq_meaning.specs.Spelled.{select_of}
use Rattle.sq_binding.specs.View.{view_bound}
use Rattle.sq_binding.specs.CreateView.{or_bad_view}
use Rattle.sq_catalog.specs.Fault.{Makes}
use Rattle.sq_catalog.specs.UserTables.{names_in}
use Rattle.sq_catalog.specs.ViewMade.{view_found}
use Rattle.sq_catalog.proofs.CreateView.ViewAlone.{found_alone, view_is_alone}
use Rattle.sq_catalog.proofs.CreateView.ViewFound.{answer_is_found}
use Rattle.sq_catalog.proofs.catalog.Catalog.bound_view.Goals as goal

pub returns-clause-bound : goal.returns-clause-bound
returns-clause-bound c =
    answer_is_found c.args.self.now c.args.user c.args.definition.now c.names_stand.ensures c.or_bad_view.result c.bind_view.result c.or_bad_view.ensures.value c.bind_view.ensures.binds c.bind_view.ensures.under

pub returns-clause-exact : goal.returns-clause-exact
returns-clause-exact c =
    let names = names_in c.args.self.now c.args.user in
    let q = select_of c.args.user c.args.definition.now.query in
    subst (λ o. Makes view_found (or_bad_view o) c.or_bad_view.result) (sym (ap (λ n. view_bound n q) (c.names_stand.ensures.are_seen c.args.user) ∙ view_is_alone names q))
    (found_alone (view_bound names q) c.or_bad_view.result (c.or_bad_view.ensures.exact (view_bound names q) c.bind_view.ensures.binds))
