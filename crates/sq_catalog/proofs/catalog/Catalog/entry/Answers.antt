-- Left open: the clauses of, named, known, number, exact and described; answered by Known and others.
use Rattle.std.proofs.Common.{◌≡◌, None, Some, ap, subst, sym, ◌∙◌}
use Rattle.std.specs.Map.{keys_of, lookup}
use Rattle.std.specs.Option.{option_or}
use Rattle.sq_bound.specs.Known.{known_by}
use Rattle.sq_catalog.proofs.Meaning.Known.{base_here, view_here}
use Rattle.sq_bound.specs.WellFormed.{IsViewAmong}
use Rattle.sq_bound.specs.declared.condition.TablePlace.TheVariants.{Base, View}
use Rattle.sq_catalog.specs.Catalog.{Catalog, base_meant, is_table, known, known_at, known_first, table_number, view_meant}
use Rattle.sq_catalog.specs.Stored.{IsNumbered, IsStored, columns_of, seen_of}
use Rattle.sq_catalog.proofs.Meaning.Entries.{described_at, entry_at}
use Rattle.sq_catalog.proofs.Growth.Extending.{table_read}
use Rattle.sq_catalog.proofs.Growth.Added.{stands_at}
use Rattle.sq_catalog.proofs.CreateTable.References.{numbered_here, view_without}
use Rattle.sq_catalog.proofs.Growth.Stored.{named_at, stored_at}
use Rattle.sq_catalog.proofs.CreateView.ViewQueries.{base_among, view_read}
use Rattle.sq_catalog.proofs.catalog.Catalog.entry.Goals as goal

pub returns-in-Some-clause-of : goal.returns-in-Some-clause-of
returns-in-Some-clause-of c =
    let entries = c.self.inside.bases.entries in
    let place = c.in-Some.place in
    let key = c.in-Some.field-0-1.now in
    let table = c.in-Some.table.now in
    let is = c.in-Some.ensures.entry in
    record {
      stored = subst (λ (s : Catalog). IsStored s.bases table) c.self.view_is (stored_at c.self.inside.base_tables.items entries place key table c.self.invariant.0 is);
      view = base_among _ place table.body (stands_at Base entries place key table c.self.invariant.5 is);
      well_formed = table_read _ _ entries place key table c.self.view_is c.self.invariant.2 is;
    }

pub returns-in-Some-get_full-clause-of : goal.returns-in-Some-get_full-clause-of
returns-in-Some-get_full-clause-of c =
    let entries = c.self.inside.views.entries in
    let place = c.in-Some-get_full.place in
    let key = c.in-Some-get_full.field-0-1.now in
    let table = c.in-Some-get_full.table.now in
    let is = c.in-Some-get_full.ensures.entry in
    record {
      stored = subst (λ (s : Catalog). IsStored s.bases table) c.self.view_is (stored_at c.self.inside.base_tables.items entries place key table c.self.invariant.1 is);
      view = subst (λ (s : Catalog). IsViewAmong s.views table.body) c.self.view_is (view_read entries place key table c.self.invariant.6 is);
      well_formed = table_read _ _ entries place key table c.self.view_is c.self.invariant.3 is;
    }

pub returns-in-Some-clause-named : goal.returns-in-Some-clause-named
returns-in-Some-clause-named c =
    named_at c.self.inside.bases.entries c.in-Some.place c.args.full_name.now c.in-Some.field-0-1.now c.in-Some.table.now c.self.invariant.7 c.in-Some.ensures.entry (sym c.in-Some.ensures.key)

pub returns-in-Some-get_full-clause-named : goal.returns-in-Some-get_full-clause-named
returns-in-Some-get_full-clause-named c =
    named_at c.self.inside.views.entries c.in-Some-get_full.place c.args.full_name.now c.in-Some-get_full.field-0-1.now c.in-Some-get_full.table.now c.self.invariant.8 c.in-Some-get_full.ensures.entry (sym c.in-Some-get_full.ensures.key)

pub returns-in-Some-clause-known : goal.returns-in-Some-clause-known
returns-in-Some-clause-known c =
    let name = c.args.full_name.now in
    let views = c.self.inside.views.entries in
    subst (λ (s : Catalog). Some (known_by c.in-Some.table.now) ≡ known s name.user name.name) c.self.view_is
    (ap (λ k. known_first k (known_at view_meant (seen_of views) (table_number (keys_of views) name.user name.name)))
    (base_here c.self.inside.bases.entries c.in-Some.place c.in-Some.field-0-1.now c.in-Some.table.now (table_number (keys_of c.self.inside.bases.entries) name.user name.name) (sym c.in-Some.ensures.index) c.in-Some.ensures.entry
    (stands_at Base c.self.inside.bases.entries c.in-Some.place c.in-Some.field-0-1.now c.in-Some.table.now c.self.invariant.5 c.in-Some.ensures.entry)
    (stored_at c.self.inside.base_tables.items c.self.inside.bases.entries c.in-Some.place c.in-Some.field-0-1.now c.in-Some.table.now c.self.invariant.0 c.in-Some.ensures.entry).itself))

pub returns-in-Some-get_full-clause-known : goal.returns-in-Some-get_full-clause-known
returns-in-Some-get_full-clause-known c =
    let name = c.args.full_name.now in
    let bases = c.self.inside.bases.entries in
    let views = c.self.inside.views.entries in
    let absent : table_number (keys_of bases) name.user name.name ≡ None = sym c.in-None.ensures.index in
    subst (λ (s : Catalog). Some (known_by c.in-Some-get_full.table.now) ≡ known s name.user name.name) c.self.view_is
    (view_here views c.in-Some-get_full.place c.in-Some-get_full.field-0-1.now c.in-Some-get_full.table.now (table_number (keys_of views) name.user name.name) (sym c.in-Some-get_full.ensures.index) c.in-Some-get_full.ensures.entry
    (stands_at View views c.in-Some-get_full.place c.in-Some-get_full.field-0-1.now c.in-Some-get_full.table.now c.self.invariant.6 c.in-Some-get_full.ensures.entry)
    ∙ sym (ap (λ n. known_first (known_at base_meant (columns_of bases) n) (known_at view_meant (seen_of views) (table_number (keys_of views) name.user name.name))) absent))

pub returns-in-None-get_full-clause-known : goal.returns-in-None-get_full-clause-known
returns-in-None-get_full-clause-known c =
    let name = c.args.full_name.now in
    let bases = c.self.inside.bases.entries in
    let views = c.self.inside.views.entries in
    let no_base : None ≡ table_number (keys_of bases) name.user name.name = c.in-None.ensures.index in
    let no_view : None ≡ table_number (keys_of views) name.user name.name = c.in-None-get_full.ensures.index in
    subst (λ (s : Catalog). None ≡ known s name.user name.name) c.self.view_is
    (λ i. known_first (known_at base_meant (columns_of bases) (no_base i)) (known_at view_meant (seen_of views) (no_view i)))

pub returns-in-Some-clause-number : goal.returns-in-Some-clause-number
returns-in-Some-clause-number c =
    let name = c.args.full_name.now in
    let entries = c.self.inside.bases.entries in
    subst (λ (s : Catalog). IsNumbered s.tables s.columns name c.in-Some.table.now.columns c.in-Some.table.now.body) c.self.view_is
    (numbered_here (keys_of entries) entries name c.in-Some.field-0-1.now c.in-Some.table.now c.in-Some.place (sym c.in-Some.ensures.index) c.in-Some.ensures.entry
    (stands_at Base entries c.in-Some.place c.in-Some.field-0-1.now c.in-Some.table.now c.self.invariant.5 c.in-Some.ensures.entry))

pub returns-in-Some-get_full-clause-number : goal.returns-in-Some-get_full-clause-number
returns-in-Some-get_full-clause-number c =
    view_without c.args.self.now.tables c.args.self.now.columns c.args.full_name.now c.in-Some-get_full.table.now c.in-Some-get_full.place
    (stands_at View c.self.inside.views.entries c.in-Some-get_full.place c.in-Some-get_full.field-0-1.now c.in-Some-get_full.table.now c.self.invariant.6 c.in-Some-get_full.ensures.entry)

pub returns-in-Some-clause-exact : goal.returns-in-Some-clause-exact
returns-in-Some-clause-exact c =
    entry_at c.args.self.now c.self.inside.bases.entries c.self.inside.views.entries (ap (λ (s : Catalog). s.base_entries) c.self.view_is) (ap (λ (s : Catalog). s.view_entries) c.self.view_is) c.self.invariant.5 c.self.invariant.6 c.args.full_name.now (Some c.in-Some.table.now)
    (ap (λ o. option_or o (lookup (is_table c.args.full_name.now.user c.args.full_name.now.name) c.self.inside.views.entries)) c.in-Some.ensures.value)

pub returns-in-Some-clause-described : goal.returns-in-Some-clause-described
returns-in-Some-clause-described c =
    described_at c.args.self.now c.self.inside.bases.entries c.self.inside.views.entries (ap (λ (s : Catalog). s.base_entries) c.self.view_is) (ap (λ (s : Catalog). s.view_entries) c.self.view_is) c.args.full_name.now (Some c.in-Some.table.now)
    (ap (λ o. option_or o (lookup (is_table c.args.full_name.now.user c.args.full_name.now.name) c.self.inside.views.entries)) c.in-Some.ensures.value)

pub returns-in-Some-get_full-clause-exact : goal.returns-in-Some-get_full-clause-exact
returns-in-Some-get_full-clause-exact c =
    entry_at c.args.self.now c.self.inside.bases.entries c.self.inside.views.entries (ap (λ (s : Catalog). s.base_entries) c.self.view_is) (ap (λ (s : Catalog). s.view_entries) c.self.view_is) c.self.invariant.5 c.self.invariant.6 c.args.full_name.now (Some c.in-Some-get_full.table.now)
    (λ i. option_or (c.in-None.ensures.value i) (c.in-Some-get_full.ensures.value i))

pub returns-in-Some-get_full-clause-described : goal.returns-in-Some-get_full-clause-described
returns-in-Some-get_full-clause-described c =
    described_at c.args.self.now c.self.inside.bases.entries c.self.inside.views.entries (ap (λ (s : Catalog). s.base_entries) c.self.view_is) (ap (λ (s : Catalog). s.view_entries) c.self.view_is) c.args.full_name.now (Some c.in-Some-get_full.table.now)
    (λ i. option_or (c.in-None.ensures.value i) (c.in-Some-get_full.ensures.value i))

pub returns-in-None-get_full-clause-exact : goal.returns-in-None-get_full-clause-exact
returns-in-None-get_full-clause-exact c =
    entry_at c.args.self.now c.self.inside.bases.entries c.self.inside.views.entries (ap (λ (s : Catalog). s.base_entries) c.self.view_is) (ap (λ (s : Catalog). s.view_entries) c.self.view_is) c.self.invariant.5 c.self.invariant.6 c.args.full_name.now None
    (λ i. option_or (c.in-None.ensures.value i) (c.in-None-get_full.ensures.value i))

pub returns-in-None-get_full-clause-described : goal.returns-in-None-get_full-clause-described
returns-in-None-get_full-clause-described c =
    described_at c.args.self.now c.self.inside.bases.entries c.self.inside.views.entries (ap (λ (s : Catalog). s.base_entries) c.self.view_is) (ap (λ (s : Catalog). s.view_entries) c.self.view_is) c.args.full_name.now None
    (λ i. option_or (c.in-None.ensures.value i) (c.in-None-get_full.ensures.value i))
