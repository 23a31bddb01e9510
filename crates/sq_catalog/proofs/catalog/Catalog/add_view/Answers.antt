-- Left open: the clauses tables and views, and the invariant of self; answered by Added and others.
use Rattle.std.proofs.Common.{List, ap, refl, subst, sym}
use Rattle.sq_bound.specs.declared.names.BaseTable.{BaseTable}
use Rattle.sq_catalog.specs.Catalog.{Catalog}
use Rattle.sq_catalog.specs.Stored.{IsNamed, IsStored}
use Rattle.sq_catalog.proofs.Growth.Added.{stand_added}
use Rattle.sq_catalog.proofs.Growth.Extending.{tables_beside, view_beside}
use Rattle.sq_catalog.proofs.Growth.Gains.{gains_kept}
use Rattle.sq_catalog.proofs.Growth.GainsViews.{adds_view}
use Rattle.sq_catalog.proofs.OneByOne.Listed.{all_inserted}
use Rattle.sq_catalog.proofs.CreateView.ViewQueries.{stand_all}
use Rattle.sq_catalog.proofs.catalog.Catalog.add_view.Goals as goal

pub invariant_of-self : goal.invariant_of-self
invariant_of-self c =
    let same = ap (λ (s : Catalog). s.bases) c.self.view_is in (
      c.self.invariant.0,
      all_inserted (λ e. IsStored c.self.inside.base_tables.items e.1) c.insert_table.result c.self.inside.views.entries c.insert_table.new.tables.entries (c.args.name, c.args.table) c.insert_table.ensures.added c.insert_table.ensures.unchanged
          c.self.invariant.1 (subst (λ (bs : List BaseTable). IsStored bs c.args.table) (sym same) c.requires.next.stored),
      tables_beside c.insert_table.result c.self.inside.base_tables.items c.self.inside.views.entries c.insert_table.new.tables.entries c.self.inside.bases.entries c.args.name c.args.table
          c.insert_table.ensures.added c.insert_table.ensures.unchanged c.self.invariant.2,
      view_beside c.insert_table.result c.args.self.now c.self.inside.base_tables.items c.self.inside.views.entries c.insert_table.new.tables.entries c.args.name c.args.table
          c.insert_table.ensures.added c.insert_table.ensures.unchanged same (ap (λ (s : Catalog). s.views) c.self.view_is) c.requires.next c.self.invariant.3,
      c.self.invariant.4,
      c.self.invariant.5,
      stand_added c.insert_table.result c.args.self.now c.self.inside.views.entries c.insert_table.new.tables.entries c.args.name c.args.table
          c.insert_table.ensures.added c.insert_table.ensures.unchanged (ap (λ (s : Catalog). s.views) c.self.view_is) c.requires.next c.self.invariant.6,
      c.self.invariant.7,
      all_inserted (λ e. IsNamed e.0 e.1) c.insert_table.result c.self.inside.views.entries c.insert_table.new.tables.entries (c.args.name, c.args.table) c.insert_table.ensures.added c.insert_table.ensures.unchanged
          c.self.invariant.8 c.requires.next.named,
    )

pub invariant_of-self-inside : goal.invariant_of-self-inside
invariant_of-self-inside c =
    let same = ap (λ (s : Catalog). s.bases) c.self.view_is in (
      c.self.inside.counted,
      (
        c.self.inside.keyed,
        (
          c.self.inside.refer,
          (
            stand_all c.self.inside.base_tables.items c.insert_table.new.tables.entries
                (view_beside c.insert_table.result c.args.self.now c.self.inside.base_tables.items c.self.inside.views.entries c.insert_table.new.tables.entries c.args.name c.args.table
                c.insert_table.ensures.added c.insert_table.ensures.unchanged same (ap (λ (s : Catalog). s.views) c.self.view_is) c.requires.next c.self.invariant.3)
                (stand_added c.insert_table.result c.args.self.now c.self.inside.views.entries c.insert_table.new.tables.entries c.args.name c.args.table
                c.insert_table.ensures.added c.insert_table.ensures.unchanged (ap (λ (s : Catalog). s.views) c.self.view_is) c.requires.next c.self.invariant.6),
            tt,
          ),
        ),
      ),
    )

pub returns-clause-tables : goal.returns-clause-tables
returns-clause-tables c = gains_kept c.args.self.now _ (ap (λ (s : Catalog). s.tables) c.self.view_is) (ap (λ (s : Catalog). s.columns) c.self.view_is) (ap (λ (s : Catalog). s.bases) c.self.view_is)

pub returns-clause-views : goal.returns-clause-views
returns-clause-views c =
    adds_view c.insert_table.result c.args.self.now _ c.self.inside.views.entries c.insert_table.new.tables.entries c.args.name c.args.table
    (ap (λ (s : Catalog). s.view_names) c.self.view_is) (ap (λ (s : Catalog). s.seen_views) c.self.view_is) (ap (λ (s : Catalog). s.views) c.self.view_is) refl refl refl c.insert_table.ensures.added
