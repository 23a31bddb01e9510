-- Left open: the calls of rows_of and only_row, and the clauses there, meant, right and read; answered by Chosen, Held and others.
use Rattle.std.proofs.Common.{◌≡◌, ℕ, ◌<◌, length, subst, sym, arith, Ok, Err}
use Rattle.std.specs.Prelude.{IfSome, IsSome, Option}
use Rattle.std.proofs.lemmas.Grind.{common_steps}
use Rattle.sq_store.specs.Content.{row_at, table_at}
use Rattle.sq_bound.specs.Fits.{under}
use Rattle.sq_bound.specs.WellFormed.{IsChangeTarget, IsTarget}
use Rattle.sq_bound.specs.declared.statement.ChangeTarget.{ChangeTarget}
use Rattle.sq_expression.specs.Fault.{MeetsAs}
use Rattle.sq_expression.specs.declared.fault.Failure.TheVariants as failure
use Rattle.sq_expression.specs.declared.fault.Fault.TheVariants as fault
use Rattle.sq_expression.proofs.Views.{failed_as}
use Rattle.sq_query.specs.FewRows.{few_numbered, few_rows}
use Rattle.sq_query.specs.Table.{stored_numbered}
use Rattle.sq_query.specs.declared.few_rows.FewRows.{FewRows}
use Rattle.sq_query.specs.Target.{AreRowsThere, conditions_of, is_true_of}
use Rattle.sq_query.proofs.Targets.ChosenNumbers.{numbers_fail}
use Rattle.sq_query.proofs.Needs.Finds.{target_finds}
use Rattle.sq_meaning.specs.Change.{if_some}
use Rattle.sq_change.specs.Changed.{few_with}
use Rattle.sq_change.specs.Made.{Seen, Shown, numbers_changed, seen_by}
use Rattle.sq_change.specs.Statement.{IsShown}
use Rattle.sq_change.proofs.Changes.Chosen.{reads_shown}
use Rattle.sq_change.proofs.Changes.Held.{is_there}
use Rattle.sq_change.proofs.OneByOne.Outcomes.{stops_as}
use Rattle.sq_change.proofs.NewRows.Endings.{ends_so}
use Rattle.sq_change.proofs.Changes.KeyedChange.{searched_read}
use Rattle.sq_change.proofs.Changes.RowsChanged.{only_row, rows_none, rows_some}
use Rattle.sq_change.proofs.target.few_changed.Goals as goal

pub rows_of-requires-clause-finds : goal.rows_of-requires-clause-finds
rows_of-requires-clause-finds g c =
    let names = c.args.setting.now.names.now in
    let may = c.requires.can.may in
    target_finds (g.N.Names.base_tables names) (g.N.Names.column_kinds names) may.reads.there may.parameters c.in-Searched.target
    (subst (IsChangeTarget (g.N.Names.column_kinds names) may.parameters) c.in-Searched.is may.target)

pub returns-else-is_empty-clause-there : goal.returns-else-is_empty-clause-there
returns-else-is_empty-clause-there g c =
    let may = c.requires.can.may in
    let t = c.in-Searched.target in
    let content = g.S.Store.content_now c.args.setting.now.store.now in
    let found = c.in_ok-rows-in-Searched in
    let there = found.ensures.there may.parameters may.tables (rw (c.inputs.ensures.user, c.inputs.ensures.parameters) may.reads)
    (subst (IsChangeTarget (g.N.Names.column_kinds c.args.setting.now.names.now) may.parameters) c.in-Searched.is may.target) in
    subst (λ (u : ChangeTarget). AreRowsThere (table_at content (under u).table.place) (few_numbered found.rows)) (sym c.in-Searched.is)
    (subst (λ (place : ℕ). AreRowsThere (table_at content place) (few_numbered found.rows)) t.is_under there)

pub returns-else-is_empty-clause-meant : goal.returns-else-is_empty-clause-meant
returns-else-is_empty-clause-meant g c =
    let setting = c.args.setting.now in
    let may = c.requires.can.may in
    let t = c.in-Searched.target in
    let found = c.in_ok-rows-in-Searched in
    let s : Seen = seen_by (g.N.Names.view_queries setting.names.now) (g.S.Store.content_now setting.store.now) setting.user setting.parameters.now in
    let well : IsTarget (g.N.Names.column_kinds setting.names.now) may.parameters t
    = subst (IsChangeTarget (g.N.Names.column_kinds setting.names.now) may.parameters) c.in-Searched.is may.target in
    let some : 0 < length (few_rows found.rows) = grind (arith, common_steps) in
    subst (λ (u : ChangeTarget). (shown : Shown) → IsShown s shown → MeetsAs few_with (Ok found.rows) (numbers_changed shown s u c.args.on)) (sym c.in-Searched.is)
    (λ shown is. rows_some (is_true_of shown s.values s.user) (conditions_of t) (stored_numbered s.tables t.base) found.rows
    (rw (← c.inputs.ensures.user, ← c.inputs.ensures.parameters) (found.ensures.meant may.parameters shown (rw (c.inputs.ensures.user, c.inputs.ensures.parameters) (reads_shown may.reads is)) well)) some)

pub returns-then-is_empty-clause-meant : goal.returns-then-is_empty-clause-meant
returns-then-is_empty-clause-meant g c =
    let setting = c.args.setting.now in
    let may = c.requires.can.may in
    let t = c.in-Searched.target in
    let found = c.in_ok-rows-in-Searched in
    let s : Seen = seen_by (g.N.Names.view_queries setting.names.now) (g.S.Store.content_now setting.store.now) setting.user setting.parameters.now in
    let well : IsTarget (g.N.Names.column_kinds setting.names.now) may.parameters t
    = subst (IsChangeTarget (g.N.Names.column_kinds setting.names.now) may.parameters) c.in-Searched.is may.target in
    let none : length (few_rows found.rows) ≡ 0 = grind (arith, common_steps) in
    subst (λ (u : ChangeTarget). (shown : Shown) → IsShown s shown → MeetsAs {A = FewRows} few_with (Err (fault.Status failure.NoData)) (numbers_changed shown s u c.args.on)) (sym c.in-Searched.is)
    (λ shown is. rows_none (is_true_of shown s.values s.user) (conditions_of t) (stored_numbered s.tables t.base) found.rows
    (rw (← c.inputs.ensures.user, ← c.inputs.ensures.parameters) (found.ensures.meant may.parameters shown (rw (c.inputs.ensures.user, c.inputs.ensures.parameters) (reads_shown may.reads is)) well)) none)

pub returns-in_err-rows-in-Searched-clause-meant : goal.returns-in_err-rows-in-Searched-clause-meant
returns-in_err-rows-in-Searched-clause-meant g c =
    let setting = c.args.setting.now in
    let may = c.requires.can.may in
    let t = c.in-Searched.target in
    let found = c.in_err-rows-in-Searched in
    let s : Seen = seen_by (g.N.Names.view_queries setting.names.now) (g.S.Store.content_now setting.store.now) setting.user setting.parameters.now in
    let well : IsTarget (g.N.Names.column_kinds setting.names.now) may.parameters t
    = subst (IsChangeTarget (g.N.Names.column_kinds setting.names.now) may.parameters) c.in-Searched.is may.target in
    let f = found.field-0.0 in
    subst (λ (u : ChangeTarget). (shown : Shown) → IsShown s shown → MeetsAs few_with c.from_residual.result (numbers_changed shown s u c.args.on)) (sym c.in-Searched.is)
    (λ shown is. stops_as few_with c.from_residual.result f _ if_some c.from_residual.ensures.1
    (numbers_fail (is_true_of shown s.values s.user) (conditions_of t) (stored_numbered s.tables t.base) f (failed_as few_numbered f _
    (rw (← c.inputs.ensures.user, ← c.inputs.ensures.parameters) (found.ensures.meant may.parameters shown (rw (c.inputs.ensures.user, c.inputs.ensures.parameters) (reads_shown may.reads is)) well)))))

pub returns-in-Some-clause-meant : goal.returns-in-Some-clause-meant
returns-in-Some-clause-meant g c = λ shown is.
    let setting = c.args.setting.now in
    let s : Seen = seen_by (g.N.Names.view_queries setting.names.now) (g.S.Store.content_now setting.store.now) setting.user setting.parameters.now in
    rw (c.in-Positioned.is, c.in-Some.is) (only_row c.in-Some.number c.only_row.result c.only_row.ensures.only)

pub returns-in-Some-clause-there : goal.returns-in-Some-clause-there
returns-in-Some-clause-there g c = rw (← c.leaf_under.ensures, ← c.get.ensures) c.only_row.ensures.there

pub only_row-requires-clause-place : goal.only_row-requires-clause-place
only_row-requires-clause-place g c =
    let setting = c.args.setting.now in
    let content = g.S.Store.content_now setting.store.now in
    let leaf = under c.args.target.now in
    rw (c.get.ensures, c.leaf_under.ensures) (is_there (g.N.Names.base_tables setting.names.now) content leaf.table.place leaf.table c.requires.kept.tables c.requires.can.base)

pub only_row-requires-clause-there : goal.only_row-requires-clause-there
only_row-requires-clause-there g c =
    let content = g.S.Store.content_now c.args.setting.now.store.now in
    rw (c.get.ensures, c.leaf_under.ensures) (subst (λ (o : Option ℕ). IfSome o (λ n. IsSome (row_at (table_at content (under c.args.target.now).table.place) n))) c.in-Some.is c.requires.there)

pub returns-in_err-rows-in-Searched-clause-right : goal.returns-in_err-rows-in-Searched-clause-right
returns-in_err-rows-in-Searched-clause-right g c =
    let numbers = c.in_err-rows-in-Searched in
    let may = c.requires.can.may in
    ends_so c.from_residual.result numbers.field-0.0 c.from_residual.ensures.1
    (numbers.ensures.right may.parameters may.tables (rw (c.inputs.ensures.user, c.inputs.ensures.parameters) may.reads)
    (subst (IsChangeTarget (g.N.Names.column_kinds c.args.setting.now.names.now) may.parameters) c.in-Searched.is may.target))

pub returns-else-is_empty-clause-read : goal.returns-else-is_empty-clause-read
returns-else-is_empty-clause-read g c = searched_read c.args.target.now c.in-Searched.target c.args.setting.now.parameters.now c.inputs.result.parameters.now c.args.setting.now.user c.inputs.result.user _ _ c.in-Searched.is
    c.inputs.ensures.parameters c.inputs.ensures.user c.in_ok-rows-in-Searched.ensures.read

pub returns-then-is_empty-clause-read : goal.returns-then-is_empty-clause-read
returns-then-is_empty-clause-read g c = searched_read c.args.target.now c.in-Searched.target c.args.setting.now.parameters.now c.inputs.result.parameters.now c.args.setting.now.user c.inputs.result.user _ _ c.in-Searched.is
    c.inputs.ensures.parameters c.inputs.ensures.user c.in_ok-rows-in-Searched.ensures.read

pub returns-in_err-rows-in-Searched-clause-read : goal.returns-in_err-rows-in-Searched-clause-read
returns-in_err-rows-in-Searched-clause-read g c = searched_read c.args.target.now c.in-Searched.target c.args.setting.now.parameters.now c.inputs.result.parameters.now c.args.setting.now.user c.inputs.result.user _ _ c.in-Searched.is
    c.inputs.ensures.parameters c.inputs.ensures.user c.in_err-rows-in-Searched.ensures.read

pub returns-in-Some-clause-read : goal.returns-in-Some-clause-read
returns-in-Some-clause-read g c = λ keyed. omega arith
