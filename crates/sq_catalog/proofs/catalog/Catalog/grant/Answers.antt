-- Left open: the clauses tables, views and exact; answered by Gains, GainsViews, Granting and Turns.
use Rattle.std.proofs.Common.{◌≡◌, List, ap, map, subst, ◌∙◌}
use Rattle.std.specs.Prelude.{OnOk}
use Rattle.sq_binding.specs.Catalog.{with_grants}
use Rattle.sq_binding.specs.Grant.{declared_grants, with_granted}
use Rattle.sq_catalog.specs.Catalog.{Catalog}
use Rattle.sq_catalog.specs.Exact.{bases_declared, declared, views_declared}
use Rattle.sq_catalog.specs.Held.{grant_seen, grants_held}
use Rattle.sq_catalog.specs.declared.held.Grant.{Grant}
use Rattle.sq_catalog.proofs.Growth.Gains.{gains_none_if}
use Rattle.sq_catalog.proofs.Growth.GainsViews.{views_none_if}
use Rattle.sq_catalog.proofs.Rights.Granting.{catalog_with, makes_granted}
use Rattle.sq_catalog.proofs.OneByOne.Turns.{stops_then}
use Rattle.sq_catalog.proofs.catalog.Catalog.grant.Goals as goal

pub returns-in-Ok-clause-tables : goal.returns-in-Ok-clause-tables
returns-in-Ok-clause-tables c = gains_none_if c.add_all-added.result c.args.self.now _ (ap (λ (s : Catalog). s.tables) c.self.view_is) (ap (λ (s : Catalog). s.columns) c.self.view_is) (ap (λ (s : Catalog). s.bases) c.self.view_is)

pub returns-in-Ok-clause-views : goal.returns-in-Ok-clause-views
returns-in-Ok-clause-views c =
    views_none_if c.add_all-added.result c.args.self.now _ (ap (λ (s : Catalog). s.tables) c.self.view_is) (ap (λ (s : Catalog). s.columns) c.self.view_is) (ap (λ (s : Catalog). s.view_names) c.self.view_is) (ap (λ (s : Catalog). s.seen_views) c.self.view_is) (ap (λ (s : Catalog). s.views) c.self.view_is)

pub returns-in-Ok-clause-exact : goal.returns-in-Ok-clause-exact
returns-in-Ok-clause-exact c =
    let gs = map grant_seen c.in-Ok.grants in
    let old = grants_held c.self.inside.held in
    let held = grants_held c.add_all-added.new.self in
    makes_granted (declared c.args.self.now) _ old held gs (declared_grants (declared c.args.self.now) c.args.user c.args.statement.now) c.in-Ok.ensures
    (λ grown. ap (catalog_with c.self.inside.users.keys (bases_declared c.self.inside.bases.entries) (views_declared c.self.inside.views.entries)) grown ∙ ap (λ (s : Catalog). with_granted (declared s) gs) c.self.view_is)
    c.add_all-added.result
    (subst (λ (lent : List Grant). OnOk c.add_all-added.result (held ≡ with_grants old (map grant_seen lent))) c.as_slice.ensures c.add_all-added.ensures.added) c.add_all-added.ensures.memory

pub returns-in-Err-clause-exact : goal.returns-in-Err-clause-exact
returns-in-Err-clause-exact c = stops_then (declared_grants (declared c.args.self.now) c.args.user c.args.statement.now) _ c.in-Err.fault c.in-Err.ensures
