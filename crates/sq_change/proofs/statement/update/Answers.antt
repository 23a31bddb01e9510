-- Left open: the calls of find_updated and complete, and the clauses right, meant and read; answered by Endings, Obeyed, OnRows and others.
use Rattle.std.proofs.Common.{map}
use Rattle.sq_store.specs.Content.{table_at}
use Rattle.sq_expression.proofs.Views.{failed_as}
use Rattle.sq_change.specs.Changed.{changed_in}
use Rattle.sq_bound.specs.Fits.{under}
use Rattle.sq_change.specs.Constraints.{completed}
use Rattle.sq_change.specs.Made.{Seen, seen_by}
use Rattle.sq_change.specs.Statement.{update_made, with_replaced}
use Rattle.sq_change.proofs.NewRows.Endings.{ends_so}
use Rattle.sq_change.proofs.Constraints.Obeyed.{keeps_tables}
use Rattle.sq_change.proofs.Constraints.OnRows.{leaf_well}
use Rattle.sq_change.proofs.OneByOne.Outcomes.{stops_as}
use Rattle.sq_change.proofs.Changes.Performed.{update_meets}
use Rattle.sq_change.proofs.statement.update.Goals as goal

pub find_updated-requires-clause-kept : goal.find_updated-requires-clause-kept
find_updated-requires-clause-kept g c =
    let is = c.new-setting.ensures in
    rw (is.names, is.store) (keeps_tables (g.N.Names.base_tables c.args.names.now) (g.S.Store.content_now c.args.store.now) (g.S.Store.key_columns c.args.store.now) c.requires.kept)

pub find_updated-requires-clause-can : goal.find_updated-requires-clause-can
find_updated-requires-clause-can g c = let is = c.new-setting.ensures in rw (is.names, is.store, is.user, is.parameters) c.requires.can

pub complete-requires-clause-leaf : goal.complete-requires-clause-leaf
complete-requires-clause-leaf g c =
    let can = c.requires.can.choose.may in
    rw c.leaf_under-leaf.ensures
    (record { there = can.reads.there; well_formed = leaf_well (g.N.Names.column_kinds c.args.names.now) can.parameters c.args.update.now.target can.target; base = c.requires.can.choose.base })

pub returns-in_err-changed-clause-right : goal.returns-in_err-changed-clause-right
returns-in_err-changed-clause-right g c = ends_so c.from_residual.result c.in_err-changed.field-0.0 c.from_residual.ensures.1 c.in_err-changed.ensures.right

pub returns-clause-right : goal.returns-clause-right
returns-clause-right g c = c.complete.ensures.right c.requires.can.choose.may.parameters c.requires.can.choose.may.tables c.requires.can.choose.may.reads

pub complete-requires-clause-changes : goal.complete-requires-clause-changes
complete-requires-clause-changes g c =
    let same = c.new-setting.ensures in
    rw (c.leaf_under-leaf.ensures, ← same.store) c.in_ok-changed.ensures.changes

pub returns-clause-meant : goal.returns-clause-meant
returns-clause-meant g c = λ shown is.
    let names = c.args.names.now in
    let bases = g.N.Names.base_tables names in
    let content = g.S.Store.content_now c.args.store.now in
    let seen : Seen = seen_by (g.N.Names.view_queries names) content c.args.inputs.user c.args.inputs.parameters.now in
    let same = c.new-setting.ensures in
    let u = c.args.update.now in
    let reads = c.requires.can.choose.may.reads in
    let changes = c.in_ok-changed.changed.changes.items in
    let after = g.S.Store.content_now c.complete.new.store in
    let meant = rw (same.names, same.store, same.user, same.parameters) at c.in_ok-changed.ensures.meant in
    let replacements = rw (same.names, same.store, same.user, same.parameters) at c.in_ok-changed.ensures.replacements in
    let done = rw c.leaf_under-leaf.ensures at (c.complete.ensures.meant c.requires.can.choose.may.parameters shown (record { inputs = reads.inputs; there = reads.there; in_domains = reads.in_domains; meant = is })) in
    update_meets shown seen bases after c.complete.result u c.args.on changes replacements (meant shown is) done

pub returns-in_err-changed-clause-meant : goal.returns-in_err-changed-clause-meant
returns-in_err-changed-clause-meant g c = λ shown is.
    let names = c.args.names.now in
    let bases = g.N.Names.base_tables names in
    let content = g.S.Store.content_now c.args.store.now in
    let seen : Seen = seen_by (g.N.Names.view_queries names) content c.args.inputs.user c.args.inputs.parameters.now in
    let same = c.new-setting.ensures in
    let u = c.args.update.now in
    let meant = rw (same.names, same.store, same.user, same.parameters) at c.in_err-changed.ensures.meant in
    let e = c.in_err-changed.field-0.0 in
    let made = update_made shown seen u c.args.on in
    stops_as (λ (x : Unit {0}). _) c.from_residual.result e made
    (λ rows. completed shown seen bases (under u.target) (map (λ n. n.row) rows) (with_replaced (table_at content (under u.target).table.place) rows)) c.from_residual.ensures.1
    (failed_as changed_in e made (meant shown is))

pub returns-in_err-changed-clause-read : goal.returns-in_err-changed-clause-read
returns-in_err-changed-clause-read g c = let same = c.new-setting.ensures in rw (same.user, same.parameters) at c.in_err-changed.ensures.read

pub returns-clause-read : goal.returns-clause-read
returns-clause-read g c = let same = c.new-setting.ensures in rw (same.user, same.parameters) at c.in_ok-changed.ensures.read
