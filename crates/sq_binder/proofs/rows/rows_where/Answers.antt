-- Left open for rows_where: the clauses finds and leaf; answered by ChangedRows and There.
use Rattle.std.proofs.Common.{◌≡◌, Some, sym, subst}
use Rattle.std.specs.Prelude.{Result, IfOk}
use Rattle.sq_tree.specs.declared.statement.Where.TheVariants as rows_where
use Rattle.sq_meaning.specs.Spelled.{cond_of}
use Rattle.sq_meaning.specs.Syntax.{present}
use Rattle.sq_bound.specs.Fits.{under}
use Rattle.sq_bound.specs.declared.statement.ChangeTarget.{ChangeTarget}
use Rattle.sq_binding.specs.Change.{rows_bound}
use Rattle.sq_binder.specs.Found.{Finds}
use Rattle.sq_binder.specs.declared.found.Found.{Found}
use Rattle.sq_binder.specs.declared.stop.Stop.{Stop}
use Rattle.sq_binder.specs.Surroundings.{surroundings}
use Rattle.sq_binder.specs.Changeable.{changed_of, target_bound}
use Rattle.sq_binder.specs.Names.{names_at}
use Rattle.sq_binding.specs.SeenQuery.{change_seen}
use Rattle.sq_binder.proofs.Changes.ChangedRows.{condition_made, searched_found}
use Rattle.sq_binder.proofs.Statements.There.{searched_under}
use Rattle.sq_binder.proofs.rows.rows_where.Goals as goal

pub returns-in-CurrentOf-clause-finds : goal.returns-in-CurrentOf-clause-finds
returns-in-CurrentOf-clause-finds g c =
    let names = names_at g.T.Tables.named g.T.ChangeableTables.changes c.args.at.now in
    let a = surroundings g.T.Tables.named c.args.at.now in
    let cursors = g.C.Cursors.named c.args.cursors.now in
    subst (λ w. Finds change_seen (rows_bound names a cursors (changed_of c.args.table.now) (Some w)) c.args.before c.bind_positioned.result) (sym c.in-CurrentOf.is) c.bind_positioned.ensures.finds

pub returns-in-Condition-clause-finds : goal.returns-in-Condition-clause-finds
returns-in-Condition-clause-finds g c =
    let names = names_at g.T.Tables.named g.T.ChangeableTables.changes c.args.at.now in
    let a = surroundings g.T.Tables.named c.args.at.now in
    let cursors = g.C.Cursors.named c.args.cursors.now in
    let t = changed_of c.args.table.now in
    let cond = c.in-Condition.cond in
    let rows = rows_bound names a cursors t (Some (rows_where.Condition cond)) in
    subst (λ w. Finds change_seen (rows_bound names a cursors t (Some w)) c.args.before c.make_searched.result) (sym c.in-Condition.is)
    (subst (Finds change_seen rows c.args.before) (sym c.make_searched.ensures)
    (searched_found rows (target_bound a t (present (cond_of names.user cond))) (condition_made names a cursors t cond) c.args.before c.bind_target.result c.bind_target.ensures.finds))

pub returns-in-Condition-clause-leaf : goal.returns-in-Condition-clause-leaf
returns-in-Condition-clause-leaf g c =
    subst (λ (r : Result (Found ChangeTarget) Stop). IfOk r (λ found. under found.part ≡ c.args.table.now.under.leaf.now)) (sym c.make_searched.ensures)
    (searched_under c.args.table.now.under.leaf.now c.bind_target.result c.bind_target.ensures.leaf)
