-- Left open: the call of updated_row, the clauses replacements and meant, and the loop's invariant; answered by Applied and others.
use Rattle.std.proofs.Common.{◌≡◌, ◌∙◌, ℕ, List, [], ◌∷◌, ◌++◌, Bor, length, map, refl, subst, arith, Some, Err}
use Rattle.std.proofs.lemmas.List.{take_all}
use Rattle.std.specs.List.{AllZip}
use Rattle.sq_store.specs.Content.{row_at, table_at}
use Rattle.sq_store.specs.declared.change.Change.TheVariants.{Replace}
use Rattle.sq_store.specs.declared.table.Numbered.{Numbered}
use Rattle.sq_meaning.specs.Environment.{Row}
use Rattle.sq_meaning.specs.Status.{each}
use Rattle.sq_meaning.proofs.OutcomeLaws.{each_map}
use Rattle.sq_bound.specs.Fits.{IsRowIn}
use Rattle.sq_expression.proofs.Groups.{meets_same}
use Rattle.sq_expression.proofs.Views.{handed_on_as}
use Rattle.sq_query.specs.Table.{numbered_row}
use Rattle.sq_change.specs.Changed.{IsReplacement, rows_replaced, rows_replaced_in}
use Rattle.sq_change.specs.Made.{Seen, rows_updated, seen_by, updated_under}
use Rattle.sq_change.proofs.Changes.Applied.{wide_replaced}
use Rattle.sq_change.proofs.NewRows.Domains.{all_at, replaced_in, row_at_in, zipped_push}
use Rattle.sq_change.proofs.Changes.Held.{row_at_wide}
use Rattle.sq_change.proofs.OneByOne.InTurn.{made_all, made_failed, made_more, made_none}
use Rattle.sq_change.proofs.Changes.RowsChanged.{all_unmapped, zip_mapped}
use Rattle.sq_change.proofs.NewRows.Storable.{assigns}
use Rattle.sq_change.proofs.NewRows.UpdatedRows.{replaced_more, under_done, under_failed}
use Rattle.sq_change.proofs.target.replace_rows.Goals as goal

abbrev Found : Type 0
Found = ℕ × Bor Row

pub updated_row-requires-clause-columns : goal.updated_row-requires-clause-columns
updated_row-requires-clause-columns g c =
    let setting = c.args.setting.now in
    let table = c.args.table.now in
    let content = g.S.Store.content_now setting.store.now in
    let found = c.found-item.result in
    let there = all_at (λ (f : Found). row_at (table_at content table.place) f.0 ≡ Some (numbered_row f)) c.args.rows.now c.loop-found.found-index found
    (all_unmapped (λ (r : Numbered). row_at (table_at content table.place) r.number ≡ Some r) numbered_row c.args.rows.now c.requires.there) c.loop-found-test.true c.found-item.is in
    let wide : length found.1.now ≡ length table.columns
    = row_at_wide (g.N.Names.base_tables setting.names.now) content table found.0 found.1.now c.requires.kept.tables c.requires.base there in
    rw wide c.requires.assigned.there

pub updated_row-requires-clause-assignable : goal.updated_row-requires-clause-assignable
updated_row-requires-clause-assignable g c =
    let setting = c.args.setting.now in
    let table = c.args.table.now in
    let content = g.S.Store.content_now setting.store.now in
    let found = c.found-item.result in
    let there = all_at (λ (f : Found). row_at (table_at content table.place) f.0 ≡ Some (numbered_row f)) c.args.rows.now c.loop-found.found-index found
    (all_unmapped (λ (r : Numbered). row_at (table_at content table.place) r.number ≡ Some r) numbered_row c.args.rows.now c.requires.there) c.loop-found-test.true c.found-item.is in
    let is : IsRowIn table.columns found.1.now
    = row_at_in (g.N.Names.base_tables setting.names.now) content table found.0 found.1.now c.requires.kept.in_domains c.requires.base there in
    assigns (g.N.Names.column_kinds setting.names.now) setting.parameters.now setting.user table c.args.assignments.now found.1.now c.requires.assigned
    (g.met.N.Names.kinds_of_bases setting.names.now table.place table c.requires.base) is

pub loop-found-init : goal.loop-found-init
loop-found-init g c = record {
  meant = λ shown. made_none _ c.args.rows.now _ (rw c.in_ok-changes.ensures.items refl);
  replacements = rw c.in_ok-changes.ensures.items tt;
  fit = rw c.in_ok-changes.ensures.items (record { wide = refl; in_domains = tt });
}

pub loop-found-preserved : goal.loop-found-preserved
loop-found-preserved g c =
    let setting = c.args.setting.now in
    let table = c.args.table.now in
    let content = g.S.Store.content_now setting.store.now in
    let rows = c.args.rows.now in
    let i = c.loop-found.found-index in
    let found = c.found-item.result in
    let there = all_at (λ (f : Found). row_at (table_at content table.place) f.0 ≡ Some (numbered_row f)) rows i found
    (all_unmapped (λ (r : Numbered). row_at (table_at content table.place) r.number ≡ Some r) numbered_row rows c.requires.there) c.loop-found-test.true c.found-item.is in
    let wide : length found.1.now ≡ length table.columns
    = row_at_wide (g.N.Names.base_tables setting.names.now) content table found.0 found.1.now c.requires.kept.tables c.requires.base there in
    let is : IsRowIn table.columns found.1.now
    = row_at_in (g.N.Names.base_tables setting.names.now) content table found.0 found.1.now c.requires.kept.in_domains c.requires.base there in
    let s : Seen = seen_by (g.N.Names.view_queries setting.names.now) content setting.user setting.parameters.now in
    let t = table_at s.tables table.place in
    record {
      meant = λ shown. rw c.in_ok-push.ensures.items
          (made_more (λ (f : Found). updated_under shown s c.args.assignments.now t f.0) rows (rows_replaced c.loop-found.changes.items)
          (rows_replaced (c.loop-found.changes.items ++ Replace found.0 c.in_ok-row.row ∷ [])) i found (record { number = found.0; row = c.in_ok-row.row }) c.loop-found-test.true c.found-item.is
          (c.loop-found.invariant.meant shown) (under_done shown s c.args.assignments.now t found.0 found.1.now there c.in_ok-row.row (c.in_ok-row.ensures.meant shown))
          (replaced_more c.loop-found.changes.items found.0 c.in_ok-row.row));
      replacements = rw c.in_ok-push.ensures.items
          (zipped_push (λ (f : Found). IsReplacement f.0) rows i c.loop-found.changes.items found (Replace found.0 c.in_ok-row.row) c.loop-found-test.true c.found-item.is c.loop-found.invariant.replacements refl);
      fit = rw c.in_ok-push.ensures.items (record {
        wide = wide_replaced (length table.columns) c.loop-found.changes.items _ c.in_ok-row.row c.loop-found.invariant.fit.wide (c.in_ok-row.ensures.wide ∙ wide);
        in_domains = replaced_in table.columns c.loop-found.changes.items _ c.in_ok-row.row c.loop-found.invariant.fit.in_domains (c.in_ok-row.ensures.in_domains table c.requires.assigned.own is);
      });
    }

pub returns-clause-replacements : goal.returns-clause-replacements
returns-clause-replacements g c =
    let rows = c.args.rows.now in
    let changes = c.loop-found.changes.items in
    zip_mapped IsReplacement (λ (f : Found). f.0) rows changes
    (subst (λ (rs : List Found). AllZip (λ (f : Found). IsReplacement f.0) rs changes) (take_all c.loop-found.found-index rows c.loop-found-test.false) c.loop-found.invariant.replacements)

pub returns-in_err-row-clause-meant : goal.returns-in_err-row-clause-meant
returns-in_err-row-clause-meant g c = λ shown.
    let setting = c.args.setting.now in
    let table = c.args.table.now in
    let content = g.S.Store.content_now setting.store.now in
    let rows = c.args.rows.now in
    let i = c.loop-found.found-index in
    let found = c.found-item.result in
    let there = all_at (λ (f : Found). row_at (table_at content table.place) f.0 ≡ Some (numbered_row f)) rows i found
    (all_unmapped (λ (r : Numbered). row_at (table_at content table.place) r.number ≡ Some r) numbered_row rows c.requires.there) c.loop-found-test.true c.found-item.is in
    let s : Seen = seen_by (g.N.Names.view_queries setting.names.now) content setting.user setting.parameters.now in
    let t = table_at s.tables table.place in
    let e = c.in_err-row.field-0.0 in
    let step = λ (f : Found). updated_under shown s c.args.assignments.now t f.0 in
    handed_on_as rows_replaced_in c.from_residual-in_err-row.result e (rows_updated shown s c.args.assignments.now table.place (map (λ (f : Found). f.0) rows)) c.from_residual-in_err-row.ensures.1
    (meets_same (Err e) _ (each step rows) (each_map (λ (f : Found). f.0) (updated_under shown s c.args.assignments.now t) rows)
    (made_failed step rows (rows_replaced c.loop-found.changes.items) i found e c.loop-found-test.true c.found-item.is
    (c.loop-found.invariant.meant shown) (under_failed shown s c.args.assignments.now t found.0 found.1.now there e (c.in_err-row.ensures.meant shown))))

pub returns-clause-meant : goal.returns-clause-meant
returns-clause-meant g c = λ shown.
    let setting = c.args.setting.now in
    let s : Seen = seen_by (g.N.Names.view_queries setting.names.now) (g.S.Store.content_now setting.store.now) setting.user setting.parameters.now in
    let rows = c.args.rows.now in
    let step = updated_under shown s c.args.assignments.now (table_at s.tables c.args.table.now.place) in
    each_map (λ (f : Found). f.0) step rows
    ∙ made_all (λ (f : Found). step f.0) rows (rows_replaced c.loop-found.changes.items) c.loop-found.found-index (omega (arith, c.loop-found-test.false)) (c.loop-found.invariant.meant shown)
