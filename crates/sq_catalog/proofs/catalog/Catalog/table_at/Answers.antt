-- Left open for Catalog::table_at: the clauses of, place and there; answered by Added, Extending and others.
use Rattle.std.proofs.Common.{ap, refl}
use Rattle.sq_bound.specs.declared.condition.TablePlace.TheVariants.{Base, View}
use Rattle.sq_catalog.proofs.Growth.Added.{base_found, place_read, view_found}
use Rattle.sq_catalog.proofs.Growth.Extending.{of_catalog, tables_read, tables_stored}
use Rattle.sq_catalog.proofs.CreateView.ViewQueries.{bases_among, views_read}
use Rattle.sq_catalog.specs.Catalog.{Catalog}
use Rattle.sq_catalog.proofs.catalog.Catalog.table_at.Goals as goal

pub returns-in-Base-clause-of : goal.returns-in-Base-clause-of
returns-in-Base-clause-of c =
    let entries = c.self.inside.bases.entries in
    let found = c.value_at.ensures in
    of_catalog c.args.self.now c.value_at.result (tables_stored _ _ c.value_at.result entries c.self.view_is c.self.invariant.0 found.stored)
    (bases_among _ c.value_at.result c.in-Base.place (place_read Base c.value_at.result entries c.in-Base.place c.self.invariant.5 found.there))
    (tables_read _ _ c.value_at.result entries c.self.view_is c.self.invariant.2 found.well_formed)

pub returns-in-View-clause-of : goal.returns-in-View-clause-of
returns-in-View-clause-of c =
    let entries = c.self.inside.views.entries in
    let found = c.value_at-in-View.ensures in
    of_catalog c.args.self.now c.value_at-in-View.result (tables_stored _ _ c.value_at-in-View.result entries c.self.view_is c.self.invariant.1 found.stored)
    (views_read _ c.value_at-in-View.result entries c.in-View.place (ap (λ (s : Catalog). s.views) c.self.view_is) c.self.invariant.6 found.there)
    (tables_read _ _ c.value_at-in-View.result entries c.self.view_is c.self.invariant.3 found.well_formed)

pub returns-in-Base-clause-place : goal.returns-in-Base-clause-place
returns-in-Base-clause-place c = rw c.in-Base.is (place_read Base c.value_at.result c.self.inside.bases.entries c.in-Base.place c.self.invariant.5 c.value_at.ensures.there)

pub returns-in-View-clause-place : goal.returns-in-View-clause-place
returns-in-View-clause-place c = rw c.in-View.is (place_read View c.value_at-in-View.result c.self.inside.views.entries c.in-View.place c.self.invariant.6 c.value_at-in-View.ensures.there)

pub returns-in-Base-clause-there : goal.returns-in-Base-clause-there
returns-in-Base-clause-there c = rw c.in-Base.is (base_found _ _ c.value_at.result c.self.inside.bases.entries c.in-Base.place c.self.view_is c.self.invariant.4 c.value_at.ensures.found)

pub returns-in-View-clause-there : goal.returns-in-View-clause-there
returns-in-View-clause-there c = rw c.in-View.is (view_found _ _ c.value_at-in-View.result c.self.inside.views.entries c.in-View.place c.self.view_is refl c.self.invariant.6 c.value_at-in-View.ensures.found)
