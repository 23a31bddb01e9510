-- Left open for view_over: the clause binds; answered by Conditions and Steps.
use Rattle.std.proofs.Common.{◌≡◌, Ok, sym, ap, subst, ◌∙◌}
use Rattle.std.specs.Option.{option_map}
use Rattle.sq_meaning.specs.Spelled.{Named, select_of}
use Rattle.sq_meaning.specs.Syntax.{Select}
use Rattle.sq_binding.specs.Changeable.{updatable_bound}
use Rattle.sq_binding.specs.Condition.{select_bound}
use Rattle.sq_binding.specs.Cursor.{behind}
use Rattle.sq_binding.specs.Outcome.{and_then}
use Rattle.sq_binding.specs.Seen.{select_seen}
use Rattle.sq_binding.specs.View.{view_of, view_over}
use Rattle.sq_binding.specs.Whole.{at_first}
use Rattle.sq_binder.specs.Binds.{Stops}
use Rattle.sq_binder.specs.Found.{counts_of, found_of}
use Rattle.sq_binder.specs.Surroundings.{surroundings}
use Rattle.sq_binder.specs.declared.found.Counts.{Counts}
use Rattle.sq_binder.proofs.Clauses.Conditions.{select_of-out}
use Rattle.sq_binder.proofs.OneByOne.Steps.{handed_on, stops_here}
use Rattle.sq_binder.specs.Names.{names_at}
use Rattle.sq_binding.specs.SeenQuery.{updatable_seen}
use Rattle.sq_binder.specs.View.{view_seen}
use Rattle.sq_binder.proofs.view.view_over.Goals as goal

pub returns-in_err-found-clause-binds : goal.returns-in_err-found-clause-binds
returns-in_err-found-clause-binds g c =
    let a = surroundings g.T.Tables.named c.args.at.now in
    let names = names_at g.T.Tables.named g.T.ChangeableTables.changes c.args.at.now in
    let own = c.args.at.now.environment.now.user in
    let q = select_of own c.args.query.now in
    let stop = c.in_err-found.field-0.0 in
    handed_on view_seen (view_over names a q) c.from_residual.result stop c.from_residual.ensures.1
    (stops_here (select_bound a q at_first) (λ x. and_then (updatable_bound names a q x.part (behind x)) (λ y. Ok (view_of x y))) stop
    (subst (λ (z : Select Named × Counts). Stops (select_bound a z.0 (counts_of z.1)) stop) (λ i. (sym (select_of-out own c.args.query.now) i, c.at_first.ensures i)) c.in_err-found.ensures))

pub returns-in-Ok-clause-binds : goal.returns-in-Ok-clause-binds
returns-in-Ok-clause-binds g c =
    let a = surroundings g.T.Tables.named c.args.at.now in
    let names = names_at g.T.Tables.named g.T.ChangeableTables.changes c.args.at.now in
    let own = c.args.at.now.environment.now.user in
    let q = select_of own c.args.query.now in
    let found = c.in_ok-found.found in
    let x = found_of select_seen found in
    let y = found_of (option_map updatable_seen) c.in-Ok.over in
    ap (λ o. and_then o (λ x. and_then (updatable_bound names a q x.part (behind x)) (λ y. Ok (view_of x y))))
    (subst (λ (z : Select Named × Counts). select_bound a z.0 (counts_of z.1) ≡ Ok x) (λ i. (sym (select_of-out own c.args.query.now) i, c.at_first.ensures i)) c.in_ok-found.ensures.0)
    ∙ ap (λ o. and_then o (λ y. Ok (view_of x y)))
    (subst (λ (n : Counts). updatable_bound names a q (select_seen found.part) (counts_of n) ≡ Ok y) c.first.ensures c.in-Ok.ensures.finds.0)
    ∙ ap Ok (sym c.view_of.ensures.view)

pub returns-in-Err-clause-binds : goal.returns-in-Err-clause-binds
returns-in-Err-clause-binds g c =
    let a = surroundings g.T.Tables.named c.args.at.now in
    let names = names_at g.T.Tables.named g.T.ChangeableTables.changes c.args.at.now in
    let own = c.args.at.now.environment.now.user in
    let q = select_of own c.args.query.now in
    let found = c.in_ok-found.found in
    let x = found_of select_seen found in
    subst (λ o. Stops (and_then o (λ x. and_then (updatable_bound names a q x.part (behind x)) (λ y. Ok (view_of x y)))) c.in-Err.stop)
    (sym (subst (λ (z : Select Named × Counts). select_bound a z.0 (counts_of z.1) ≡ Ok x) (λ i. (sym (select_of-out own c.args.query.now) i, c.at_first.ensures i)) c.in_ok-found.ensures.0))
    (stops_here (updatable_bound names a q (select_seen found.part) (behind x)) (λ y. Ok (view_of x y)) c.in-Err.stop
    (subst (λ (n : Counts). Stops (updatable_bound names a q (select_seen found.part) (counts_of n)) c.in-Err.stop) c.first.ensures c.in-Err.ensures.finds))
