-- Left open for statement_at: the clauses binds and there; answered by Steps, WholeStatements and There.
use Rattle.std.proofs.Common.{Ok, Err, ap, subst, ◌∙◌}
use Rattle.sq_tree.specs.declared.statement.Statement.TheVariants as written
use Rattle.sq_bound.specs.declared.statement.BoundInsert.{BoundInsert}
use Rattle.sq_bound.specs.declared.statement.BoundStatement.TheVariants as bound
use Rattle.sq_bound.specs.declared.statement.BoundUpdate.{BoundUpdate}
use Rattle.sq_bound.specs.declared.statement.ChangeTarget.{ChangeTarget}
use Rattle.sq_binding.specs.Outcome.{and_then}
use Rattle.sq_binding.specs.Statement.{NumberedStatement}
use Rattle.sq_binding.specs.Whole.{whole}
use Rattle.sq_binder.specs.Found.{Finds}
use Rattle.sq_binder.specs.Surroundings.{surroundings}
use Rattle.sq_binder.proofs.OneByOne.Steps.{handed_on, stops_as, stops_here}
use Rattle.sq_binder.specs.Names.{names_at}
use Rattle.sq_binder.specs.Delete.{delete_in}
use Rattle.sq_binder.specs.Insert.{insert_in}
use Rattle.sq_binding.specs.SeenQuery.{change_seen, insert_seen, statement_seen, update_seen}
use Rattle.sq_binder.specs.Statement.{statement_in}
use Rattle.sq_binder.specs.Update.{update_in}
use Rattle.sq_binder.proofs.Statements.WholeStatements.{whole_binds}
use Rattle.sq_binding.specs.There.{StatementIsThere}
use Rattle.sq_binder.proofs.Statements.There.{whole_holds}
use Rattle.sq_binder.proofs.statement.statement_at.Goals as goal

pub returns-in_ok-take_whole-in-Insert-clause-binds : goal.returns-in_ok-take_whole-in-Insert-clause-binds
returns-in_ok-take_whole-in-Insert-clause-binds g c =
    let names = names_at g.T.Tables.named g.T.ChangeableTables.changes c.args.at.now in
    let a = surroundings g.T.Tables.named c.args.at.now in
    let cursors = g.C.Cursors.named c.args.cursors.now in
    let s = c.in-Insert.insert in
    let b = insert_in names a s in
    let found = subst (λ n. Finds insert_seen b n c.bind_insert.result) c.at_first-first.ensures c.bind_insert.ensures.finds in
    ap (statement_in names a cursors) c.in-Insert.is
    ∙ ap (λ o. and_then o (λ x. Ok (NumberedStatement.insert x))) (whole_binds insert_seen b c.bind_insert.result (Ok c.in_ok-take_whole-in-Insert.field-0) found c.in_ok-take_whole-in-Insert.ensures)

pub returns-in_err-take_whole-in-Insert-clause-binds : goal.returns-in_err-take_whole-in-Insert-clause-binds
returns-in_err-take_whole-in-Insert-clause-binds g c =
    let names = names_at g.T.Tables.named g.T.ChangeableTables.changes c.args.at.now in
    let a = surroundings g.T.Tables.named c.args.at.now in
    let cursors = g.C.Cursors.named c.args.cursors.now in
    let s = c.in-Insert.insert in
    let b = insert_in names a s in
    let found = subst (λ n. Finds insert_seen b n c.bind_insert.result) c.at_first-first.ensures c.bind_insert.ensures.finds in
    let stop = c.in_err-take_whole-in-Insert.field-0.0 in
    handed_on statement_seen (statement_in names a cursors c.args.statement.now) c.from_residual-in_err-take_whole-in-Insert.result stop c.from_residual-in_err-take_whole-in-Insert.ensures.1
    (stops_as (statement_in names a cursors c.args.statement.now) (statement_in names a cursors (written.Insert s)) stop (ap (statement_in names a cursors) c.in-Insert.is)
    (stops_here (whole b) (λ x. Ok (NumberedStatement.insert x)) stop (whole_binds insert_seen b c.bind_insert.result (Err stop) found c.in_err-take_whole-in-Insert.ensures)))

pub returns-in_ok-take_whole-in-Update-clause-binds : goal.returns-in_ok-take_whole-in-Update-clause-binds
returns-in_ok-take_whole-in-Update-clause-binds g c =
    let names = names_at g.T.Tables.named g.T.ChangeableTables.changes c.args.at.now in
    let a = surroundings g.T.Tables.named c.args.at.now in
    let cursors = g.C.Cursors.named c.args.cursors.now in
    let s = c.in-Update.update in
    let b = update_in names a cursors s in
    let found = subst (λ n. Finds update_seen b n c.bind_update.result) c.at_first-first.ensures c.bind_update.ensures.finds in
    ap (statement_in names a cursors) c.in-Update.is
    ∙ ap (λ o. and_then o (λ x. Ok (NumberedStatement.update x))) (whole_binds update_seen b c.bind_update.result (Ok c.in_ok-take_whole-in-Update.field-0) found c.in_ok-take_whole-in-Update.ensures)

pub returns-in_err-take_whole-in-Update-clause-binds : goal.returns-in_err-take_whole-in-Update-clause-binds
returns-in_err-take_whole-in-Update-clause-binds g c =
    let names = names_at g.T.Tables.named g.T.ChangeableTables.changes c.args.at.now in
    let a = surroundings g.T.Tables.named c.args.at.now in
    let cursors = g.C.Cursors.named c.args.cursors.now in
    let s = c.in-Update.update in
    let b = update_in names a cursors s in
    let found = subst (λ n. Finds update_seen b n c.bind_update.result) c.at_first-first.ensures c.bind_update.ensures.finds in
    let stop = c.in_err-take_whole-in-Update.field-0.0 in
    handed_on statement_seen (statement_in names a cursors c.args.statement.now) c.from_residual-in_err-take_whole-in-Update.result stop c.from_residual-in_err-take_whole-in-Update.ensures.1
    (stops_as (statement_in names a cursors c.args.statement.now) (statement_in names a cursors (written.Update s)) stop (ap (statement_in names a cursors) c.in-Update.is)
    (stops_here (whole b) (λ x. Ok (NumberedStatement.update x)) stop (whole_binds update_seen b c.bind_update.result (Err stop) found c.in_err-take_whole-in-Update.ensures)))

pub returns-in_err-take_whole-in-Delete-clause-binds : goal.returns-in_err-take_whole-in-Delete-clause-binds
returns-in_err-take_whole-in-Delete-clause-binds g c =
    let names = names_at g.T.Tables.named g.T.ChangeableTables.changes c.args.at.now in
    let a = surroundings g.T.Tables.named c.args.at.now in
    let cursors = g.C.Cursors.named c.args.cursors.now in
    let s = c.in-Delete.delete in
    let b = delete_in names a cursors s in
    let found = subst (λ n. Finds change_seen b n c.bind_delete.result) c.at_first-first.ensures c.bind_delete.ensures.finds in
    let stop = c.in_err-take_whole-in-Delete.field-0.0 in
    handed_on statement_seen (statement_in names a cursors c.args.statement.now) c.from_residual-in_err-take_whole-in-Delete.result stop c.from_residual-in_err-take_whole-in-Delete.ensures.1
    (stops_as (statement_in names a cursors c.args.statement.now) (statement_in names a cursors (written.Delete s)) stop (ap (statement_in names a cursors) c.in-Delete.is)
    (stops_here (whole b) (λ x. Ok (NumberedStatement.delete x)) stop (whole_binds change_seen b c.bind_delete.result (Err stop) found c.in_err-take_whole-in-Delete.ensures)))

pub returns-in_ok-take_whole-in-Insert-clause-there : goal.returns-in_ok-take_whole-in-Insert-clause-there
returns-in_ok-take_whole-in-Insert-clause-there g c = λ bases over.
    whole_holds (λ (x : BoundInsert). StatementIsThere bases (bound.Insert x)) c.bind_insert.result (Ok c.in_ok-take_whole-in-Insert.field-0) c.in_ok-take_whole-in-Insert.ensures (c.bind_insert.ensures.there bases over)

pub returns-in_ok-take_whole-in-Update-clause-there : goal.returns-in_ok-take_whole-in-Update-clause-there
returns-in_ok-take_whole-in-Update-clause-there g c = λ bases over.
    whole_holds (λ (x : BoundUpdate). StatementIsThere bases (bound.Update x)) c.bind_update.result (Ok c.in_ok-take_whole-in-Update.field-0) c.in_ok-take_whole-in-Update.ensures (c.bind_update.ensures.there bases over)

pub returns-in_ok-take_whole-in-Delete-clause-there : goal.returns-in_ok-take_whole-in-Delete-clause-there
returns-in_ok-take_whole-in-Delete-clause-there g c = λ bases over.
    whole_holds (λ (x : ChangeTarget). StatementIsThere bases (bound.Delete x)) c.bind_delete.result (Ok c.in_ok-take_whole-in-Delete.field-0) c.in_ok-take_whole-in-Delete.ensures (c.bind_delete.ensures.there bases over)
