-- Left open: the clauses views and exact, and the invariant of self; answered by Added, Entries and others.
use Rattle.std.proofs.Common.{ap, refl}
use Rattle.sq_catalog.specs.Catalog.{Catalog}
use Rattle.sq_catalog.proofs.Growth.Added.{counted_all, refer_whole, stand_whole, whole_added}
use Rattle.sq_catalog.specs.Exact.{declared, views_declared}
use Rattle.sq_catalog.specs.Held.{grants_held}
use Rattle.sq_catalog.proofs.Meaning.Entries.{base_put}
use Rattle.sq_catalog.proofs.Growth.GainsViews.{views_beside}
use Rattle.sq_catalog.proofs.catalog.Catalog.add_base.Goals as goal

pub invariant_of-self-inside : goal.invariant_of-self-inside
invariant_of-self-inside c =
    let same = ap (λ (s : Catalog). s.bases) c.self.view_is in
    let whole =
    whole_added c.insert_with_keys.result c.self.inside.views.entries c.args.self.now.bases c.self.inside.base_tables.items c.insert_with_keys.new.bases.items c.self.inside.bases.entries c.insert_with_keys.new.tables.entries
    c.args.name c.args.table c.args.base c.insert_with_keys.ensures.added c.insert_with_keys.ensures.bases c.insert_with_keys.ensures.unchanged same c.requires.next c.self.invariant in (
      counted_all c.insert_with_keys.new.bases.items c.insert_with_keys.new.tables.entries whole.4,
      (
        c.insert_with_keys.ensures.keyed,
        (
          refer_whole c.insert_with_keys.result c.args.self.now.bases c.self.inside.base_tables.items c.insert_with_keys.new.bases.items c.self.inside.bases.entries c.insert_with_keys.new.tables.entries c.args.name c.args.table c.args.base
              c.insert_with_keys.ensures.added c.insert_with_keys.ensures.bases c.insert_with_keys.ensures.unchanged same c.requires.next c.self.inside.refer,
          (stand_whole c.self.inside.views.entries c.insert_with_keys.new.bases.items c.insert_with_keys.new.tables.entries whole, tt),
        ),
      ),
    )

pub invariant_of-self : goal.invariant_of-self
invariant_of-self c =
    let same = ap (λ (s : Catalog). s.bases) c.self.view_is in
    whole_added c.insert_with_keys.result c.self.inside.views.entries c.args.self.now.bases c.self.inside.base_tables.items c.insert_with_keys.new.bases.items c.self.inside.bases.entries c.insert_with_keys.new.tables.entries
    c.args.name c.args.table c.args.base c.insert_with_keys.ensures.added c.insert_with_keys.ensures.bases c.insert_with_keys.ensures.unchanged same c.requires.next c.self.invariant

pub returns-clause-views : goal.returns-clause-views
returns-clause-views c =
    views_beside c.insert_with_keys.result c.args.self.now _ c.self.inside.bases.entries c.insert_with_keys.new.tables.entries c.args.name c.args.table c.requires.new
    (ap (λ (s : Catalog). s.tables) c.self.view_is) (ap (λ (s : Catalog). s.columns) c.self.view_is) refl refl (ap (λ (s : Catalog). s.view_names) c.self.view_is) (ap (λ (s : Catalog). s.seen_views) c.self.view_is) (ap (λ (s : Catalog). s.views) c.self.view_is) c.insert_with_keys.ensures.added

pub returns-clause-exact : goal.returns-clause-exact
returns-clause-exact c =
    base_put c.insert_with_keys.result c.self.inside.bases.entries c.insert_with_keys.new.tables.entries (declared c.args.self.now) c.self.inside.users.keys (views_declared c.self.inside.views.entries) (grants_held c.self.inside.held)
    c.args.self.now.bases c.args.name c.args.table c.args.base c.insert_with_keys.ensures.added (ap declared c.self.view_is) c.requires.next
