-- Left open for bind_statement: the clause binds; answered by Steps and WholeStatements.
use Rattle.std.proofs.Common.{map, sym}
use Rattle.sq_binding.specs.Changeable.{outside}
use Rattle.sq_binding.specs.Statement.{statement_bound}
use Rattle.sq_binder.specs.Scope.{declared_of}
use Rattle.sq_binder.proofs.OneByOne.Steps.{binds_as}
use Rattle.sq_binder.specs.Names.{user_names}
use Rattle.sq_binder.specs.Statement.{statement_in}
use Rattle.sq_binder.proofs.Statements.WholeStatements.{outside_all}
use Rattle.sq_binding.specs.SeenQuery.{statement_seen}
use Rattle.sq_binder.proofs.statement.bind_statement.Goals as goal

pub returns-clause-binds : goal.returns-clause-binds
returns-clause-binds g c =
    let names = user_names c.args.user (g.T.Tables.named c.args.tables.now) (g.T.ChangeableTables.changes c.args.tables.now) in
    let parameters = map declared_of c.args.parameters.now in
    let cursors = g.C.Cursors.named c.args.cursors.now in
    let s = c.args.statement.now in
    binds_as statement_seen (statement_bound names parameters cursors s) (statement_in names (outside names parameters) cursors s) c.statement_at.result (sym (outside_all names parameters cursors s)) c.statement_at.ensures.binds
