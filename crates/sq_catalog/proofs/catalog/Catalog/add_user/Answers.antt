-- Left open for Catalog::add_user: the clauses tables and views; answered by Gains and GainsViews.
use Rattle.std.proofs.Common.{ap}
use Rattle.sq_catalog.specs.Catalog.{Catalog}
use Rattle.sq_catalog.proofs.Growth.Gains.{gains_kept}
use Rattle.sq_catalog.proofs.Growth.GainsViews.{views_as_before}
use Rattle.sq_catalog.proofs.catalog.Catalog.add_user.Goals as goal

pub returns-clause-tables : goal.returns-clause-tables
returns-clause-tables c = gains_kept c.args.self.now _ (ap (λ (s : Catalog). s.tables) c.self.view_is) (ap (λ (s : Catalog). s.columns) c.self.view_is) (ap (λ (s : Catalog). s.bases) c.self.view_is)

pub returns-clause-views : goal.returns-clause-views
returns-clause-views c =
    views_as_before c.args.self.now _ (ap (λ (s : Catalog). s.tables) c.self.view_is) (ap (λ (s : Catalog). s.columns) c.self.view_is) (ap (λ (s : Catalog). s.view_names) c.self.view_is) (ap (λ (s : Catalog). s.seen_views) c.self.view_is)
    (ap (λ (s : Catalog). s.views) c.self.view_is)
