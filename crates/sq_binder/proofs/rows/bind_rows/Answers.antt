-- Left open for bind_rows: the clauses finds and leaf; answered by There.
use Rattle.std.proofs.Common.{◌≡◌, sym, subst}
use Rattle.std.specs.Prelude.{Result, IfOk}
use Rattle.sq_bound.specs.Fits.{under}
use Rattle.sq_bound.specs.declared.statement.ChangeTarget.{ChangeTarget}
use Rattle.sq_binding.specs.Change.{rows_bound}
use Rattle.sq_binder.specs.Found.{Finds}
use Rattle.sq_binder.specs.declared.found.Found.{Found}
use Rattle.sq_binder.specs.declared.stop.Stop.{Stop}
use Rattle.sq_binder.specs.Surroundings.{surroundings}
use Rattle.sq_binder.specs.Changeable.{changed_of}
use Rattle.sq_binder.specs.Names.{names_at}
use Rattle.sq_binding.specs.SeenQuery.{change_seen}
use Rattle.sq_binder.proofs.Statements.There.{searched_under}
use Rattle.sq_binder.proofs.rows.bind_rows.Goals as goal

pub returns-in-Some-clause-finds : goal.returns-in-Some-clause-finds
returns-in-Some-clause-finds g c =
    let names = names_at g.T.Tables.named g.T.ChangeableTables.changes c.args.at.now in
    let a = surroundings g.T.Tables.named c.args.at.now in
    let cursors = g.C.Cursors.named c.args.cursors.now in
    subst (λ w. Finds change_seen (rows_bound names a cursors (changed_of c.args.table.now) w) c.args.before c.rows_where.result) (sym c.in-Some.is) c.rows_where.ensures.finds

pub returns-in-None-clause-leaf : goal.returns-in-None-clause-leaf
returns-in-None-clause-leaf g c =
    subst (λ (r : Result (Found ChangeTarget) Stop). IfOk r (λ found. under found.part ≡ c.args.table.now.under.leaf.now)) (sym c.make_searched.ensures)
    (searched_under c.args.table.now.under.leaf.now c.bind_target.result c.bind_target.ensures.leaf)
