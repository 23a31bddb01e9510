-- Left open for performed_with: the clauses left and performed; answered by After, Ending and Metering.
use Rattle.std.proofs.Common.{refl}
use Rattle.sq_catalog.specs.Catalog.{column_kinds}
use Rattle.sq_session.specs.Step.{ending}
use Rattle.sq_session.proofs.Lasting.After.{still_legal}
use Rattle.sq_session.proofs.Calls.Ending.{also_if}
use Rattle.sq_session.proofs.Calls.Metering.{however}
use Rattle.sq_session.proofs.call.performed_with.Goals as goal

pub returns-in-Open-clause-left : goal.returns-in-Open-clause-left
returns-in-Open-clause-left g c =
    let called = c.args.called.now in
    record {
      tables = still_legal (column_kinds called.catalog.now) called.catalog.now.bases called.cursors.now c.args.machine.now c.open.new.self.tables c.requires.whole c.open.ensures.left.tables;
      opened = rw c.in-Open.is c.open.ensures.left.kept;
    }

pub returns-in-Fetch-clause-left : goal.returns-in-Fetch-clause-left
returns-in-Fetch-clause-left g c =
    let called = c.args.called.now in
    record {
      tables = still_legal (column_kinds called.catalog.now) called.catalog.now.bases called.cursors.now c.args.machine.now c.fetch.new.self.tables c.requires.whole c.fetch.ensures.tables;
      opened = rw c.in-Fetch.is tt;
    }

pub returns-in-Select-clause-performed : goal.returns-in-Select-clause-performed
returns-in-Select-clause-performed g c =
    rw c.in-Select.is (record { step = also_if _ _ (ending c.select.result) refl c.select.ensures.step; right = c.select.ensures.right; read = c.select.ensures.read })

pub returns-in-Insert-clause-performed : goal.returns-in-Insert-clause-performed
returns-in-Insert-clause-performed g c =
    rw c.in-Insert.is (record { step = c.insert.ensures.step; right = c.insert.ensures.right; read = however (ending c.insert.result) tt })
