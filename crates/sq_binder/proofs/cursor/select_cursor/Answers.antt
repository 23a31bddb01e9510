-- Left open for select_cursor: the clauses binds and under; answered by Steps and CursorTrees.
use Rattle.std.proofs.Common.{◌≡◌, Ok, sym, subst, ◌∙◌}
use Rattle.std.proofs.lemmas.Result.{IfOk-weaker}
use Rattle.std.specs.Option.{option_map}
use Rattle.sq_meaning.specs.Spelled.{select_of}
use Rattle.sq_bound.specs.declared.query.BoundCursor.{BoundCursor}
use Rattle.sq_binding.specs.Changeable.{updatable_bound}
use Rattle.sq_binding.specs.Cursor.{behind, cursor_over}
use Rattle.sq_binding.specs.NumberedCondition.{NumberedSelect}
use Rattle.sq_binding.specs.Outcome.{Outcome, and_then}
use Rattle.sq_binding.specs.Seen.{select_seen}
use Rattle.sq_binding.specs.Whole.{permitted}
use Rattle.sq_binder.specs.Binds.{Stops}
use Rattle.sq_binder.specs.Found.{counts_of, found_of}
use Rattle.sq_binder.specs.Surroundings.{surroundings}
use Rattle.sq_binder.specs.declared.found.Counts.{Counts}
use Rattle.sq_binder.proofs.OneByOne.Steps.{stops_here, then_binds}
use Rattle.sq_binder.specs.Cursor.{IsOver, IsOverPart}
use Rattle.sq_binder.specs.Names.{names_at}
use Rattle.sq_binding.specs.SeenQuery.{cursor_seen, updatable_seen}
use Rattle.sq_binder.proofs.WholeQueries.CursorTrees.{over_as, permitted_is}
use Rattle.sq_binder.proofs.cursor.select_cursor.Goals as goal

pub returns-in-Ok-clause-binds : goal.returns-in-Ok-clause-binds
returns-in-Ok-clause-binds g c =
    let a = surroundings g.T.Tables.named c.args.at.now in
    let names = names_at g.T.Tables.named g.T.ChangeableTables.changes c.args.at.now in
    let q = select_of c.args.at.now.environment.now.user c.args.query.now in
    let cursor = c.args.cursor.now in
    let x = found_of select_seen c.args.found in
    let s = select_seen c.in_ok-part.part in
    let y = found_of (option_map updatable_seen) c.in-Ok.over in
    then_binds cursor_seen (permitted x) (λ (s : NumberedSelect). and_then (updatable_bound names a q s (behind x)) (λ y. Ok (cursor_over cursor s y.part))) s c.cursor_over.result
    (permitted_is select_seen c.args.found c.in_ok-part.part (sym c.take_permitted.ensures ∙ c.in_ok-part.was))
    (then_binds cursor_seen (updatable_bound names a q s (behind x)) (λ y. Ok (cursor_over cursor s y.part)) y c.cursor_over.result
    (subst (λ (n : Counts). updatable_bound names a q s (counts_of n) ≡ Ok y) c.first-behind.ensures c.in-Ok.ensures.finds.0) c.cursor_over.ensures.binds)

pub returns-in-Err-clause-binds : goal.returns-in-Err-clause-binds
returns-in-Err-clause-binds g c =
    let a = surroundings g.T.Tables.named c.args.at.now in
    let names = names_at g.T.Tables.named g.T.ChangeableTables.changes c.args.at.now in
    let q = select_of c.args.at.now.environment.now.user c.args.query.now in
    let cursor = c.args.cursor.now in
    let x = found_of select_seen c.args.found in
    let s = select_seen c.in_ok-part.part in
    subst (λ (o : Outcome NumberedSelect). Stops (and_then o (λ (s : NumberedSelect). and_then (updatable_bound names a q s (behind x)) (λ y. Ok (cursor_over cursor s y.part)))) c.in-Err.stop)
    (sym (permitted_is select_seen c.args.found c.in_ok-part.part (sym c.take_permitted.ensures ∙ c.in_ok-part.was)))
    (stops_here (updatable_bound names a q s (behind x)) (λ y. Ok (cursor_over cursor s y.part)) c.in-Err.stop
    (subst (λ (n : Counts). Stops (updatable_bound names a q s (counts_of n)) c.in-Err.stop) c.first-behind.ensures c.in-Err.ensures.finds))

pub returns-in-Ok-clause-under : goal.returns-in-Ok-clause-under
returns-in-Ok-clause-under g c =
    let changes = g.T.ChangeableTables.changes c.args.at.now.tables.now in
    let over = c.in-Ok.over.part in
    IfOk-weaker c.cursor_over.result (λ (x : BoundCursor). IsOverPart over x.table x.body) (λ (x : BoundCursor). IsOver changes x.table x.body) (λ x is. over_as changes over x.table x.body is c.in-Ok.ensures.under) c.cursor_over.ensures.body
