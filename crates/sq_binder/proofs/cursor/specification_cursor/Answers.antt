-- Left open for specification_cursor: the clause binds; answered by Conditions and Steps.
use Rattle.std.proofs.Common.{◌≡◌, Some, Ok, sym, subst}
use Rattle.sq_meaning.specs.Spelled.{Named, query_of, select_of}
use Rattle.sq_meaning.specs.Syntax.{Select}
use Rattle.sq_binding.specs.Condition.{select_bound}
use Rattle.sq_binding.specs.Cursor.{cursor_of, select_cursor}
use Rattle.sq_binding.specs.Seen.{select_seen}
use Rattle.sq_binding.specs.Whole.{at_first}
use Rattle.sq_binder.specs.Binds.{Stops}
use Rattle.sq_binder.specs.Found.{counts_of, found_of}
use Rattle.sq_binder.specs.Surroundings.{surroundings}
use Rattle.sq_binder.specs.declared.found.Counts.{Counts}
use Rattle.sq_binder.proofs.Clauses.Conditions.{select_of-out}
use Rattle.sq_binder.proofs.OneByOne.Steps.{handed_on, stops_here, then_binds}
use Rattle.sq_binding.specs.SeenQuery.{cursor_seen}
use Rattle.sq_binder.specs.Names.{names_at}
use Rattle.sq_binder.proofs.cursor.specification_cursor.Goals as goal

pub returns-in_err-found-clause-binds : goal.returns-in_err-found-clause-binds
returns-in_err-found-clause-binds g c =
    let a = surroundings g.T.Tables.named c.args.at.now in
    let names = names_at g.T.Tables.named g.T.ChangeableTables.changes c.args.at.now in
    let own = c.args.at.now.environment.now.user in
    let q = select_of own c.args.query.now in
    let stop = c.in_err-found.field-0.0 in
    handed_on cursor_seen (cursor_of names a c.args.cursor.now (query_of own c.args.cursor.now.query) (Some q)) c.from_residual.result stop c.from_residual.ensures.1
    (stops_here (select_bound a q at_first) (select_cursor names a c.args.cursor.now q) stop
    (subst (λ (z : Select Named × Counts). Stops (select_bound a z.0 (counts_of z.1)) stop) (λ i. (sym (select_of-out own c.args.query.now) i, c.at_first.ensures i)) c.in_err-found.ensures))

pub returns-clause-binds : goal.returns-clause-binds
returns-clause-binds g c =
    let a = surroundings g.T.Tables.named c.args.at.now in
    let names = names_at g.T.Tables.named g.T.ChangeableTables.changes c.args.at.now in
    let own = c.args.at.now.environment.now.user in
    let q = select_of own c.args.query.now in
    let found = c.in_ok-found.found in
    then_binds cursor_seen (select_bound a q at_first) (select_cursor names a c.args.cursor.now q) (found_of select_seen found) c.select_cursor.result
    (subst (λ (z : Select Named × Counts). select_bound a z.0 (counts_of z.1) ≡ Ok (found_of select_seen found)) (λ i. (sym (select_of-out own c.args.query.now) i, c.at_first.ensures i)) c.in_ok-found.ensures.0)
    c.select_cursor.ensures.binds
