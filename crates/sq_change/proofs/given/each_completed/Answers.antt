-- Left open: the call of new_row, the clause meant, and the loop's invariant; answered by Applied and others.
use Rattle.std.proofs.Common.{length, arith, refl, rules, sym, ap}
use Rattle.std.proofs.lemmas.Grind.{common_steps}
use Rattle.sq_store.specs.Change.{rows_put}
use Rattle.sq_meaning.specs.Status.{each}
use Rattle.sq_expression.proofs.Views.{handed_on_as}
use Rattle.sq_change.specs.Changed.{new_rows_in}
use Rattle.sq_change.specs.Given.{AreStored}
use Rattle.sq_change.specs.Made.{row_completed}
use Rattle.sq_change.proofs.Changes.Applied.{one_put, wide_inserted}
use Rattle.sq_change.proofs.OneByOne.InTurn.{made_all, made_failed, made_more, made_none}
use Rattle.sq_change.proofs.NewRows.Domains.{all_at, inserted_in}
use Rattle.sq_change.proofs.given.each_completed.Goals as goal

pub new_row-requires-clause-stored : goal.new_row-requires-clause-stored
new_row-requires-clause-stored g c =
    rw c.as_slice.ensures (all_at (AreStored c.args.columns.now) c.args.given.now c.loop-values.values-index c.values-item.result c.requires.stored (omega arith) c.values-item.is)

pub loop-values-preserved : goal.loop-values-preserved
loop-values-preserved g c = record {
  meant =
      made_more (row_completed c.args.setting.now.user c.args.table.now c.args.columns.now) c.args.given.now (new_rows_in c.loop-values.changes) (new_rows_in c.push.new.self)
      c.loop-values.values-index c.values-item.result c.in_ok-row.row c.loop-values-test.true c.values-item.is c.loop-values.invariant.meant
      (rw (sym c.as_slice.ensures) c.in_ok-row.ensures.meant) (one_put c.loop-values.changes.items c.push.new.self.items c.in_ok-row.row c.in_ok-push.ensures.items);
  insertions = grind (arith, common_steps);
  fit = rw c.in_ok-push.ensures.items (record {
    wide = wide_inserted (length c.args.table.now.columns) c.loop-values.changes.items c.in_ok-row.row c.loop-values.invariant.fit.wide c.in_ok-row.ensures.wide;
    in_domains = inserted_in c.args.table.now.columns c.loop-values.changes.items c.in_ok-row.row c.loop-values.invariant.fit.in_domains c.in_ok-row.ensures.in_domains;
  });
  length = grind (arith, common_steps);
}

pub loop-values-init : goal.loop-values-init
loop-values-init g c = record {
  meant = made_none (row_completed c.args.setting.now.user c.args.table.now c.args.columns.now) c.args.given.now (new_rows_in c.in_ok-changes.changes) (ap rows_put c.in_ok-changes.ensures.items);
  insertions = search rules;
  fit = rw c.in_ok-changes.ensures.items (record { wide = refl; in_domains = tt });
  length = search rules;
}

pub returns-in_err-row-clause-meant : goal.returns-in_err-row-clause-meant
returns-in_err-row-clause-meant g c =
    let e = c.in_err-row.field-0.0 in
    let f = row_completed c.args.setting.now.user c.args.table.now c.args.columns.now in
    handed_on_as new_rows_in c.from_residual-in_err-row.result e (each f c.args.given.now) c.from_residual-in_err-row.ensures.1
    (made_failed f c.args.given.now (new_rows_in c.loop-values.changes) c.loop-values.values-index c.values-item.result e
    c.loop-values-test.true c.values-item.is c.loop-values.invariant.meant (rw (sym c.as_slice.ensures) c.in_err-row.ensures.meant))

pub returns-clause-meant : goal.returns-clause-meant
returns-clause-meant g c =
    made_all (row_completed c.args.setting.now.user c.args.table.now c.args.columns.now) c.args.given.now (new_rows_in c.loop-values.changes) c.loop-values.values-index
    c.loop-values-test.false c.loop-values.invariant.meant
