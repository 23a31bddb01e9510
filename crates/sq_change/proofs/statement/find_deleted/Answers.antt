-- Left open: the clauses right, meant, removals, changes and read; answered by Endings, KeptRest and Made.
use Rattle.std.proofs.Common.{subst, sym}
use Rattle.sq_expression.proofs.Views.{failed_as}
use Rattle.sq_query.specs.Target.{numbers_in}
use Rattle.sq_change.specs.Made.{Seen, numbers_changed, seen_by}
use Rattle.sq_change.specs.Statement.{Chosen}
use Rattle.sq_change.proofs.NewRows.Endings.{ends_so, hands_on, memory_fails, memory_right}
use Rattle.sq_change.proofs.Keys.KeptRest.{removed_made, removed_rest}
use Rattle.sq_change.proofs.Changes.Made.{removals_kept}
use Rattle.sq_change.proofs.statement.find_deleted.Goals as goal

pub returns-in_err-numbers-clause-right : goal.returns-in_err-numbers-clause-right
returns-in_err-numbers-clause-right g c = ends_so c.from_residual.result c.in_err-numbers.field-0.0 c.from_residual.ensures.1 c.in_err-numbers.ensures.right

pub returns-in_err-numbers-clause-meant : goal.returns-in_err-numbers-clause-meant
returns-in_err-numbers-clause-meant g c = λ shown is.
    let setting = c.args.setting.now in
    let s : Seen = seen_by (g.N.Names.view_queries setting.names.now) (g.S.Store.content_now setting.store.now) setting.user setting.parameters.now in
    let found = numbers_changed shown s c.args.target.now c.args.on in
    let f = c.in_err-numbers.field-0.0 in
    hands_on c.from_residual.result f found c.from_residual.ensures.1 (failed_as numbers_in f found (c.in_err-numbers.ensures.meant shown is))

pub returns-clause-meant : goal.returns-clause-meant
returns-clause-meant g c = λ shown is. memory_fails c.remove_rows-changes.result c.make_changed.result _ c.remove_rows-changes.ensures.memory c.make_changed.ensures.fails

pub returns-clause-right : goal.returns-clause-right
returns-clause-right g c = c.make_changed.ensures.right (memory_right c.remove_rows-changes.result c.remove_rows-changes.ensures.memory)

pub returns-clause-removals : goal.returns-clause-removals
returns-clause-removals g c =
    let setting = c.args.setting.now in
    let s : Seen = seen_by (g.N.Names.view_queries setting.names.now) (g.S.Store.content_now setting.store.now) setting.user setting.parameters.now in
    removals_kept c.remove_rows-changes.result c.make_changed.result c.make_changed.ensures.changes s c.args.target.now c.args.on c.as_slice.result.now
    (subst (Chosen s c.args.target.now c.args.on) (sym c.as_slice.ensures.value) c.in_ok-numbers.ensures.meant) c.remove_rows-changes.ensures.removals

pub returns-clause-changes : goal.returns-clause-changes
returns-clause-changes g c =
    let t = c.args.target.now in
    let setting = c.args.setting.now in
    let s : Seen = seen_by (g.N.Names.view_queries setting.names.now) (g.S.Store.content_now setting.store.now) setting.user setting.parameters.now in
    let removals = removals_kept c.remove_rows-changes.result c.make_changed.result c.make_changed.ensures.changes s t c.args.on c.as_slice.result.now
    (subst (Chosen s t c.args.on) (sym c.as_slice.ensures.value) c.in_ok-numbers.ensures.meant) c.remove_rows-changes.ensures.removals in
    removed_made c.make_changed.result s t c.args.on (g.S.Store.row_numbers setting.store.now) removals
    (removed_rest c.all_keys.result c.make_changed.result c.make_changed.ensures.lost s t c.args.on removals (rw (c.get-table.ensures, c.leaf_under.ensures) at c.all_keys.ensures.lost))

pub returns-in_err-numbers-clause-read : goal.returns-in_err-numbers-clause-read
returns-in_err-numbers-clause-read g c = c.in_err-numbers.ensures.read

pub returns-clause-read : goal.returns-clause-read
returns-clause-read g c = c.in_ok-numbers.ensures.read
