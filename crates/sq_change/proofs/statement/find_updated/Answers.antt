-- Left open: the call of replace_rows, and the clauses replacements, meant, right, changes and read; answered by Applied and others.
use Rattle.std.proofs.Common.{ℕ, List, Bor, map, sym, subst}
use Rattle.sq_meaning.specs.Environment.{Row}
use Rattle.sq_expression.specs.Fault.{MeetsAs}
use Rattle.sq_expression.proofs.Views.{failed_as}
use Rattle.sq_change.specs.Changed.{changed_in, few_with}
use Rattle.sq_change.specs.Made.{Seen, numbers_changed, rows_updated, seen_by}
use Rattle.sq_change.specs.Statement.{Chosen, base_of}
use Rattle.sq_change.proofs.Changes.Applied.{base_under}
use Rattle.sq_change.proofs.NewRows.Endings.{ends_so}
use Rattle.sq_change.proofs.Changes.Made.{changed_meets, replacements_kept}
use Rattle.sq_change.proofs.OneByOne.Outcomes.{stops_as}
use Rattle.sq_change.proofs.Keys.KeptRest.{replaced_made, replaced_rest}
use Rattle.sq_change.proofs.statement.find_updated.Goals as goal

pub returns-clause-replacements : goal.returns-clause-replacements
returns-clause-replacements g c =
    let u = c.args.update.now in
    let setting = c.args.setting.now in
    let s : Seen = seen_by (g.N.Names.view_queries setting.names.now) (g.S.Store.content_now setting.store.now) setting.user setting.parameters.now in
    replacements_kept c.replace_rows-changes.result c.make_changed.result c.make_changed.ensures.changes s u c.args.on (map (λ (f : ℕ × Bor Row). f.0) c.as_slice.result.now)
    (subst (λ (rows : List (ℕ × Bor Row)). Chosen s u.target c.args.on (map (λ (f : ℕ × Bor Row). f.0) rows)) (sym c.as_slice.ensures) c.in_ok-rows.ensures.meant)
    c.replace_rows-changes.ensures.replacements
    (λ shown. rw (base_under u.target, ← c.leaf_under.ensures, ← c.get-table.ensures, ← c.as_slice-assignments.ensures) (c.replace_rows-changes.ensures.meant shown))

pub returns-clause-meant : goal.returns-clause-meant
returns-clause-meant g c = λ shown is.
    let u = c.args.update.now in
    let setting = c.args.setting.now in
    let s : Seen = seen_by (g.N.Names.view_queries setting.names.now) (g.S.Store.content_now setting.store.now) setting.user setting.parameters.now in
    let numbers = few_with c.in_ok-rows.rows in
    let made : MeetsAs changed_in c.make_changed.result (rows_updated shown s u.assignments (base_of u.target) numbers)
    = changed_meets c.replace_rows-changes.result c.make_changed.result c.make_changed.ensures.changes _
    (rw (base_under u.target, ← c.leaf_under.ensures, ← c.get-table.ensures, ← c.as_slice-assignments.ensures, ← c.as_slice.ensures) (c.replace_rows-changes.ensures.meant shown))
    c.make_changed.ensures.fails in
    rw (c.in_ok-rows.ensures.meant shown is) made

pub returns-in_err-rows-clause-meant : goal.returns-in_err-rows-clause-meant
returns-in_err-rows-clause-meant g c = λ shown is.
    let u = c.args.update.now in
    let setting = c.args.setting.now in
    let s : Seen = seen_by (g.N.Names.view_queries setting.names.now) (g.S.Store.content_now setting.store.now) setting.user setting.parameters.now in
    let f = c.in_err-rows.field-0.0 in
    stops_as changed_in c.from_residual.result f (numbers_changed shown s u.target c.args.on) (rows_updated shown s u.assignments (base_of u.target)) c.from_residual.ensures.1
    (failed_as few_with f (numbers_changed shown s u.target c.args.on) (c.in_err-rows.ensures.meant shown is))

pub returns-clause-right : goal.returns-clause-right
returns-clause-right g c = c.make_changed.ensures.right c.replace_rows-changes.ensures.right

pub returns-in_err-rows-clause-right : goal.returns-in_err-rows-clause-right
returns-in_err-rows-clause-right g c = ends_so c.from_residual.result c.in_err-rows.field-0.0 c.from_residual.ensures.1 c.in_err-rows.ensures.right

pub replace_rows-changes-requires-clause-there : goal.replace_rows-changes-requires-clause-there
replace_rows-changes-requires-clause-there g c = rw (c.as_slice.ensures, c.get-table.ensures, c.leaf_under.ensures) c.in_ok-rows.ensures.there

pub replace_rows-changes-requires-clause-assigned : goal.replace_rows-changes-requires-clause-assigned
replace_rows-changes-requires-clause-assigned g c = rw (c.as_slice-assignments.ensures, c.get-table.ensures, c.leaf_under.ensures) c.requires.can.assign

pub returns-clause-changes : goal.returns-clause-changes
returns-clause-changes g c =
    let u = c.args.update.now in
    let setting = c.args.setting.now in
    let s : Seen = seen_by (g.N.Names.view_queries setting.names.now) (g.S.Store.content_now setting.store.now) setting.user setting.parameters.now in
    let replacements = replacements_kept c.replace_rows-changes.result c.make_changed.result c.make_changed.ensures.changes s u c.args.on (map (λ (f : ℕ × Bor Row). f.0) c.as_slice.result.now)
    (subst (λ (rows : List (ℕ × Bor Row)). Chosen s u.target c.args.on (map (λ (f : ℕ × Bor Row). f.0) rows)) (sym c.as_slice.ensures) c.in_ok-rows.ensures.meant)
    c.replace_rows-changes.ensures.replacements
    (λ shown. rw (base_under u.target, ← c.leaf_under.ensures, ← c.get-table.ensures, ← c.as_slice-assignments.ensures) (c.replace_rows-changes.ensures.meant shown)) in
    let keeps = replaced_rest c.keys_assigned.result c.make_changed.result c.make_changed.ensures.lost s u c.args.on (g.S.Store.row_numbers setting.store.now) (g.met.S.Store.rises setting.store.now) replacements
    (rw (c.as_slice-assignments.ensures, c.get-table.ensures, c.leaf_under.ensures) at c.keys_assigned.ensures.lost) in
    let fit = rw (c.get-table.ensures, c.leaf_under.ensures) at c.replace_rows-changes.ensures.fit in
    replaced_made c.replace_rows-changes.result c.make_changed.result c.make_changed.ensures.changes s u c.args.on (g.S.Store.row_numbers setting.store.now) fit replacements keeps

pub returns-in_err-rows-clause-read : goal.returns-in_err-rows-clause-read
returns-in_err-rows-clause-read g c = c.in_err-rows.ensures.read

pub returns-clause-read : goal.returns-clause-read
returns-clause-read g c = c.in_ok-rows.ensures.read
