-- Left open for Catalog::next_view: the clauses place and exact; answered by Entries and ViewQueries.
use Rattle.std.proofs.Common.{ap, length, sym, ◌∙◌}
use Rattle.sq_catalog.specs.Catalog.{Catalog}
use Rattle.sq_catalog.specs.Exact.{declared}
use Rattle.sq_catalog.proofs.Meaning.Entries.{views_counted}
use Rattle.sq_catalog.proofs.CreateView.ViewQueries.{queries_long}
use Rattle.sq_catalog.proofs.catalog.Catalog.next_view.Goals as goal

pub returns-clause-place : goal.returns-clause-place
returns-clause-place c = c.len.ensures.len ∙ sym (queries_long 0 c.self.inside.views.entries c.self.invariant.6) ∙ ap (λ (s : Catalog). length s.views) c.self.view_is

pub returns-clause-exact : goal.returns-clause-exact
returns-clause-exact c = c.len.ensures.len ∙ sym (views_counted 0 c.self.inside.views.entries c.self.invariant.6) ∙ ap (λ (s : Catalog). length (declared s).views) c.self.view_is
