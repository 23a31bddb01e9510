-- Left open: the clause meant, and that the loop keeps its invariant; answered by InTurn and Domains.
use Rattle.std.proofs.Common.{arith, rules, sym}
use Rattle.std.proofs.lemmas.Grind.{common_steps}
use Rattle.sq_expression.specs.Fault.{rows_in}
use Rattle.sq_meaning.specs.Status.{each}
use Rattle.sq_expression.proofs.Views.{handed_on_as}
use Rattle.sq_change.specs.Given.{AreStored}
use Rattle.sq_change.specs.Made.{row_stored}
use Rattle.sq_change.proofs.OneByOne.InTurn.{made_all, made_failed, made_more, made_none}
use Rattle.sq_change.proofs.NewRows.Domains.{all_pushed}
use Rattle.sq_change.proofs.given.stored_rows.Goals as goal

pub loop-row-preserved : goal.loop-row-preserved
loop-row-preserved c = record {
  meant = made_more (row_stored c.args.columns.now) c.args.rows.now c.loop-row.stored.items c.push.new.self.items c.loop-row.row-index c.row-item.result c.in_ok-stored_row.field-0
      c.loop-row-test.true c.row-item.is c.loop-row.invariant.meant (rw (sym c.as_slice.ensures) c.in_ok-stored_row.ensures.meant) c.in_ok-push.ensures.items;
  count = grind (arith, common_steps);
  stored = rw c.in_ok-push.ensures.items (all_pushed (AreStored c.args.columns.now) c.loop-row.stored.items c.in_ok-stored_row.field-0 c.loop-row.invariant.stored c.in_ok-stored_row.ensures.stored);
}

pub loop-row-init : goal.loop-row-init
loop-row-init c = record {
  meant = made_none (row_stored c.args.columns.now) c.args.rows.now c.in_ok-stored.stored.items c.in_ok-stored.ensures.items;
  count = search rules;
  stored = search rules;
}

pub returns-in_err-stored_row-clause-meant : goal.returns-in_err-stored_row-clause-meant
returns-in_err-stored_row-clause-meant c =
    let e = c.in_err-stored_row.field-0.0 in
    handed_on_as rows_in c.from_residual-in_err-stored_row.result e (each (row_stored c.args.columns.now) c.args.rows.now) c.from_residual-in_err-stored_row.ensures.1
    (made_failed (row_stored c.args.columns.now) c.args.rows.now c.loop-row.stored.items c.loop-row.row-index c.row-item.result e
    c.loop-row-test.true c.row-item.is c.loop-row.invariant.meant (rw (sym c.as_slice.ensures) c.in_err-stored_row.ensures.meant))

pub returns-clause-meant : goal.returns-clause-meant
returns-clause-meant c = made_all (row_stored c.args.columns.now) c.args.rows.now c.loop-row.stored.items c.loop-row.row-index c.loop-row-test.false c.loop-row.invariant.meant
