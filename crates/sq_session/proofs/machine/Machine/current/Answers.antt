-- Left open for Machine::current: what the call of number_there asks for; answered by Holding and Over.
use Rattle.std.proofs.Common.{◌<◌, arith, length}
use Rattle.sq_session.proofs.Lasting.Holding.{positioned_cursor, positioned_there}
use Rattle.sq_session.proofs.OpenCursors.Over.{as_many}
use Rattle.sq_session.proofs.machine.Machine.current.Goals as goal

pub number_there-requires-clause-cursor : goal.number_there-requires-clause-cursor
number_there-requires-clause-cursor g c =
    let called = c.args.called.now in
    let positioned = c.in-Positioned.positioned in
    let declared : positioned.cursor < length called.cursors.now = positioned_cursor called.catalog.now.bases (length called.cursors.now) positioned (rw c.in-Positioned.is at c.requires.target) in
    omega (arith, declared, as_many called.cursors.now c.args.self.now.cursors c.requires.whole.3)

pub number_there-requires-clause-table : goal.number_there-requires-clause-table
number_there-requires-clause-table g c =
    let called = c.args.called.now in
    positioned_there called.catalog.now.bases c.args.self.now.tables (length called.cursors.now) c.in-Positioned.positioned c.requires.whole.0 (rw c.in-Positioned.is at c.requires.target)
