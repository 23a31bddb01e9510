-- Left open: the call of close, and the clauses left and performed; answered by After, Metering and Over.
use Rattle.std.proofs.Common.{arith}
use Rattle.sq_catalog.specs.Catalog.{column_kinds}
use Rattle.sq_session.specs.Step.{ending}
use Rattle.sq_session.proofs.Lasting.After.{committed_legal, rolled_back_legal, still_legal}
use Rattle.sq_session.proofs.Calls.Metering.{however}
use Rattle.sq_session.proofs.OpenCursors.Over.{as_many}
use Rattle.sq_session.proofs.call.perform_statement.Goals as goal

pub close-requires : goal.close-requires
close-requires g c =
    let asked = rw c.in-Close.is at c.requires.asked in
    let many = as_many c.args.program.now.cursors.items c.args.machine.now.cursors c.requires.whole.3 in
    omega (arith, asked.fits, many)

pub returns-in-Close-clause-left : goal.returns-in-Close-clause-left
returns-in-Close-clause-left g c = record {
  tables =
      still_legal (column_kinds c.args.catalog.now) c.args.catalog.now.bases c.args.program.now.cursors.items c.args.machine.now c.close.new.self.tables c.requires.whole c.close.ensures.tables;
  opened = rw c.in-Close.is tt;
}

pub returns-in-Close-clause-performed : goal.returns-in-Close-clause-performed
returns-in-Close-clause-performed g c =
    rw c.in-Close.is (record { step = c.close.ensures.step; right = c.close.ensures.right; read = however (ending c.close.result) tt })

pub returns-in-Commit-clause-left : goal.returns-in-Commit-clause-left
returns-in-Commit-clause-left g c = record {
  tables =
      committed_legal (column_kinds c.args.catalog.now) c.args.catalog.now.bases c.args.program.now.cursors.items c.args.machine.now c.commit.new.self c.requires.whole c.commit.ensures.state;
  opened = rw c.in-Commit.is tt;
}

pub returns-in-Rollback-clause-left : goal.returns-in-Rollback-clause-left
returns-in-Rollback-clause-left g c = record {
  tables =
      rolled_back_legal (column_kinds c.args.catalog.now) c.args.catalog.now.bases c.args.program.now.cursors.items c.args.machine.now c.rollback.new.self c.requires.whole c.rollback.ensures.state;
  opened = rw c.in-Rollback.is tt;
}
