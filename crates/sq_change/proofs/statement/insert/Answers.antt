-- Left open: the calls of find_inserted and complete, and the clauses right and meant; answered by Obeyed, Outcomes and Performed.
use Rattle.sq_store.specs.Change.{rows_put}
use Rattle.sq_store.specs.Content.{table_at}
use Rattle.sq_expression.proofs.Views.{failed_as}
use Rattle.sq_change.specs.declared.complete.Changed.{Changed}
use Rattle.sq_change.specs.Constraints.{completed}
use Rattle.sq_change.specs.Made.{Seen, rows_inserted, seen_by}
use Rattle.sq_change.specs.Statement.{with_rows}
use Rattle.sq_change.proofs.Constraints.Obeyed.{keeps_tables}
use Rattle.sq_change.proofs.OneByOne.Outcomes.{stops_as}
use Rattle.sq_change.proofs.Changes.Performed.{insert_meets}
use Rattle.sq_change.proofs.statement.insert.Goals as goal

pub find_inserted-requires-clause-can : goal.find_inserted-requires-clause-can
find_inserted-requires-clause-can g c = let is = c.new-setting.ensures in rw (is.names, is.store, is.user, is.parameters) c.requires.can

pub find_inserted-requires-clause-kept : goal.find_inserted-requires-clause-kept
find_inserted-requires-clause-kept g c =
    let is = c.new-setting.ensures in
    rw (is.names, is.store) (keeps_tables (g.N.Names.base_tables c.args.names.now) (g.S.Store.content_now c.args.store.now) (g.S.Store.key_columns c.args.store.now) c.requires.kept)

pub complete-requires-clause-leaf : goal.complete-requires-clause-leaf
complete-requires-clause-leaf g c = rw c.get-leaf.ensures (record { there = c.requires.can.given.reads.there; well_formed = c.requires.can.leaf; base = c.requires.can.base })

pub returns-clause-right : goal.returns-clause-right
returns-clause-right g c = c.complete.ensures.right c.requires.can.given.parameters c.requires.can.given.tables c.requires.can.given.reads

pub complete-requires-clause-changes : goal.complete-requires-clause-changes
complete-requires-clause-changes g c =
    let same = c.new-setting.ensures in
    rw (c.get-leaf.ensures, ← same.store) c.in_ok-changed.ensures.changes

pub returns-clause-meant : goal.returns-clause-meant
returns-clause-meant g c = λ shown is.
    let names = c.args.names.now in
    let bases = g.N.Names.base_tables names in
    let content = g.S.Store.content_now c.args.store.now in
    let seen : Seen = seen_by (g.N.Names.view_queries names) content c.args.inputs.user c.args.inputs.parameters.now in
    let same = c.new-setting.ensures in
    let insert = c.args.insert.now in
    let reads = c.requires.can.given.reads in
    let changes = c.in_ok-changed.changed.changes.items in
    let after = g.S.Store.content_now c.complete.new.store in
    let made = rw (same.names, same.store, same.user, same.parameters) at c.in_ok-changed.ensures.made in
    let done = rw c.get-leaf.ensures at (c.complete.ensures.meant c.requires.can.given.parameters shown (record { inputs = reads.inputs; there = reads.there; in_domains = reads.in_domains; meant = is })) in
    insert_meets shown seen bases after c.complete.result (g.S.Store.row_numbers c.args.store.now) insert changes c.in_ok-changed.ensures.insertions (made shown is) done

pub returns-in_err-changed-clause-meant : goal.returns-in_err-changed-clause-meant
returns-in_err-changed-clause-meant g c = λ shown is.
    let names = c.args.names.now in
    let bases = g.N.Names.base_tables names in
    let content = g.S.Store.content_now c.args.store.now in
    let seen : Seen = seen_by (g.N.Names.view_queries names) content c.args.inputs.user c.args.inputs.parameters.now in
    let same = c.new-setting.ensures in
    let insert = c.args.insert.now in
    let made = rw (same.names, same.store, same.user, same.parameters) at c.in_err-changed.ensures.made in
    let e = c.in_err-changed.field-0.0 in
    let whole = rows_inserted shown seen (g.S.Store.row_numbers c.args.store.now) insert in
    stops_as (λ (u : Unit {0}). _) c.from_residual.result e whole
    (λ rows. completed shown seen bases insert.leaf rows (with_rows (table_at content insert.leaf.table.place) rows)) c.from_residual.ensures.1
    (failed_as (λ (d : Changed). rows_put d.changes.items) e whole (made shown is))
