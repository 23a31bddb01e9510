-- Left open: the clauses exact and views; answered by GainsViews, ViewMade and Turns.
use Rattle.std.proofs.Common.{◌≡◌, List, ap, map, subst, ◌∙◌}
use Rattle.std.specs.Result.{OnOk, is_ok}
use Rattle.sq_binding.specs.Catalog as definition
use Rattle.sq_binding.specs.Catalog.{with_grants}
use Rattle.sq_binding.specs.CreateView.{create_view}
use Rattle.sq_catalog.specs.Catalog.{Catalog}
use Rattle.sq_catalog.specs.Exact.{declared}
use Rattle.sq_catalog.specs.Held.{grant_seen, grants_held}
use Rattle.sq_catalog.proofs.Growth.GainsViews.{view_created}
use Rattle.sq_catalog.proofs.CreateView.ViewMade.{create_answered, create_stops}
use Rattle.sq_catalog.proofs.OneByOne.Turns.{handed_on, no_memory}
use Rattle.sq_catalog.proofs.catalog.Catalog.create_view.Goals as goal

pub returns-in_err-table-clause-exact : goal.returns-in_err-table-clause-exact
returns-in_err-table-clause-exact c =
    let d = declared c.args.self.now in
    let stop = c.in_err-table.field-0.0 in
    handed_on _ (create_view d c.args.user c.args.definition.now) c.from_residual.result stop c.from_residual.ensures.1 (create_stops d c.args.user c.args.definition.now stop c.in_err-table.ensures.exact)

pub returns-in-Ok-clause-views : goal.returns-in-Ok-clause-views
returns-in-Ok-clause-views c =
    view_created c.add_all.result c.add_view.result c.args.self.now c.add_view.new.self _ (record { user = c.args.user; view = c.args.definition.now }) c.full_name-name.result c.in_ok-table.field-0.table
    c.in_ok-table.ensures.written c.in_ok-table.ensures.next c.full_name-name.ensures.named (ap is_ok c.in-Ok.is) c.add_view.ensures.kept c.add_view.ensures.views
    (ap (λ (s : Catalog). s.tables) c.self.view_is) (ap (λ (s : Catalog). s.columns) c.self.view_is) (ap (λ (s : Catalog). s.view_names) c.self.view_is)
    (ap (λ (s : Catalog). s.seen_views) c.self.view_is) (ap (λ (s : Catalog). s.views) c.self.view_is)

pub returns-in-Ok-clause-exact : goal.returns-in-Ok-clause-exact
returns-in-Ok-clause-exact c =
    let made = c.in_ok-table.ensures.exact in
    let grants = c.as_slice.result.now in
    let added : Catalog = c.add_view.new.self in
    let whole : Catalog = record added { users = c.self.inside.users.keys; base_entries = c.self.inside.bases.entries; view_entries = c.self.inside.views.entries; grants = grants_held c.add_all.new.self } in
    create_answered c.args.self.now added whole c.full_name-name.result c.in_ok-table.field-0.table made.0 grants c.args.user c.args.definition.now c.add_all.result c.add_all.ensures.memory
    (subst (λ (gs : List definition.Grant). OnOk c.add_all.result (grants_held c.add_all.new.self ≡ with_grants gs (map grant_seen grants))) (ap (λ (s : Catalog). s.grants) c.self.view_is) c.add_all.ensures.added)
    made.1 c.in-Ok.ensures.exact made.2.view (ap (map grant_seen) c.as_slice.ensures ∙ made.2.grants)
    (ap (λ (s : Catalog). s.users) c.self.view_is) (ap (λ (s : Catalog). s.base_entries) c.self.view_is) (ap (λ (s : Catalog). s.view_entries) c.self.view_is)

pub returns-in-Err-clause-exact : goal.returns-in-Err-clause-exact
returns-in-Err-clause-exact c = no_memory (create_view (declared c.args.self.now) c.args.user c.args.definition.now) c.in-Err.fault c.in-Err.ensures.memory
