-- Left open for session_from: the clause holds; answered without a law.
use Rattle.sq_perform.proofs.prepare.session_from.Goals as goal

pub returns-in-Ok-clause-holds : goal.returns-in-Ok-clause-holds
returns-in-Ok-clause-holds g c = record {
  trees = c.args.trees.now;
  spelled = c.requires.spelled;
  tables_are = c.in-Ok.ensures.tables;
  schemas_are = c.in-Ok.ensures.schemas;
  procedures = c.in-Ok.ensures.procedures;
  written = c.in-Ok.ensures.written;
  admitted = c.in-Ok.ensures.first;
  start = c.in-Ok.ensures.start;
}
