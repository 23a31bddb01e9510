-- Left open: the call of numbers_of, and the clauses there, meant, right and read; answered by Chosen, Outcomes, Endings and KeyedChange.
use Rattle.std.proofs.Common.{◌≡◌, ℕ, ◌<◌, length, subst, sym, arith, Ok, Err}
use Rattle.std.specs.Prelude.{Vec}
use Rattle.std.specs.declared.alloc.Global.{Global}
use Rattle.std.proofs.lemmas.Grind.{common_steps}
use Rattle.sq_store.specs.Content.{table_at}
use Rattle.sq_bound.specs.Fits.{under}
use Rattle.sq_bound.specs.WellFormed.{IsChangeTarget, IsTarget}
use Rattle.sq_bound.specs.declared.statement.ChangeTarget.{ChangeTarget}
use Rattle.sq_expression.specs.Fault.{MeetsAs}
use Rattle.sq_expression.specs.declared.fault.Failure.TheVariants as failure
use Rattle.sq_expression.specs.declared.fault.Fault.TheVariants as fault
use Rattle.sq_expression.proofs.Views.{failed_as}
use Rattle.sq_query.specs.Target.{AreNumbersOf, numbers_in}
use Rattle.sq_query.proofs.Needs.Finds.{target_finds}
use Rattle.sq_meaning.specs.Change.{if_some}
use Rattle.sq_change.specs.Made.{Seen, Shown, numbers_changed, seen_by}
use Rattle.sq_change.specs.Statement.{IsShown}
use Rattle.sq_change.proofs.Changes.Chosen.{none_found, only_number, reads_shown, some_found}
use Rattle.sq_change.proofs.OneByOne.Outcomes.{stops_as}
use Rattle.sq_change.proofs.NewRows.Endings.{ends_so}
use Rattle.sq_change.proofs.Changes.KeyedChange.{searched_read}
use Rattle.sq_change.proofs.target.numbers_changed.Goals as goal

pub numbers_of-requires-clause-finds : goal.numbers_of-requires-clause-finds
numbers_of-requires-clause-finds g c =
    let names = c.args.setting.now.names.now in
    let may = c.requires.can.may in
    target_finds (g.N.Names.base_tables names) (g.N.Names.column_kinds names) may.reads.there may.parameters c.in-Searched.target
    (subst (IsChangeTarget (g.N.Names.column_kinds names) may.parameters) c.in-Searched.is may.target)

pub returns-else-is_empty-clause-there : goal.returns-else-is_empty-clause-there
returns-else-is_empty-clause-there g c = λ on.
    let may = c.requires.can.may in
    let t = c.in-Searched.target in
    let content = g.S.Store.content_now c.args.setting.now.store.now in
    let found = c.in_ok-numbers-in-Searched in
    let there = found.ensures.there may.parameters may.tables (rw (c.inputs.ensures.user, c.inputs.ensures.parameters) may.reads)
    (subst (IsChangeTarget (g.N.Names.column_kinds c.args.setting.now.names.now) may.parameters) c.in-Searched.is may.target) in
    subst (λ (u : ChangeTarget). AreNumbersOf (table_at content (under u).table.place) found.numbers.items) (sym c.in-Searched.is)
    (subst (λ (place : ℕ). AreNumbersOf (table_at content place) found.numbers.items) t.is_under there)

pub returns-else-is_empty-clause-meant : goal.returns-else-is_empty-clause-meant
returns-else-is_empty-clause-meant g c =
    let setting = c.args.setting.now in
    let may = c.requires.can.may in
    let t = c.in-Searched.target in
    let found = c.in_ok-numbers-in-Searched in
    let s : Seen = seen_by (g.N.Names.view_queries setting.names.now) (g.S.Store.content_now setting.store.now) setting.user setting.parameters.now in
    let well : IsTarget (g.N.Names.column_kinds setting.names.now) may.parameters t
    = subst (IsChangeTarget (g.N.Names.column_kinds setting.names.now) may.parameters) c.in-Searched.is may.target in
    let some : 0 < length found.numbers.items = grind (arith, common_steps) in
    subst (λ (u : ChangeTarget). (shown : Shown) → IsShown s shown → MeetsAs numbers_in (Ok found.numbers) (numbers_changed shown s u c.args.on)) (sym c.in-Searched.is)
    (λ shown is. some_found _ found.numbers.items some
    (rw (← c.inputs.ensures.user, ← c.inputs.ensures.parameters) (found.ensures.meant may.parameters shown (rw (c.inputs.ensures.user, c.inputs.ensures.parameters) (reads_shown may.reads is)) well)))

pub returns-then-is_empty-clause-meant : goal.returns-then-is_empty-clause-meant
returns-then-is_empty-clause-meant g c =
    let setting = c.args.setting.now in
    let may = c.requires.can.may in
    let t = c.in-Searched.target in
    let found = c.in_ok-numbers-in-Searched in
    let s : Seen = seen_by (g.N.Names.view_queries setting.names.now) (g.S.Store.content_now setting.store.now) setting.user setting.parameters.now in
    let well : IsTarget (g.N.Names.column_kinds setting.names.now) may.parameters t
    = subst (IsChangeTarget (g.N.Names.column_kinds setting.names.now) may.parameters) c.in-Searched.is may.target in
    let none : length found.numbers.items ≡ 0 = grind (arith, common_steps) in
    subst (λ (u : ChangeTarget). (shown : Shown) → IsShown s shown → MeetsAs {A = Vec ℕ Global} numbers_in (Err (fault.Status failure.NoData)) (numbers_changed shown s u c.args.on)) (sym c.in-Searched.is)
    (λ shown is. none_found _ found.numbers none
    (rw (← c.inputs.ensures.user, ← c.inputs.ensures.parameters) (found.ensures.meant may.parameters shown (rw (c.inputs.ensures.user, c.inputs.ensures.parameters) (reads_shown may.reads is)) well)))

pub returns-in_err-numbers-in-Searched-clause-meant : goal.returns-in_err-numbers-in-Searched-clause-meant
returns-in_err-numbers-in-Searched-clause-meant g c =
    let setting = c.args.setting.now in
    let may = c.requires.can.may in
    let t = c.in-Searched.target in
    let found = c.in_err-numbers-in-Searched in
    let s : Seen = seen_by (g.N.Names.view_queries setting.names.now) (g.S.Store.content_now setting.store.now) setting.user setting.parameters.now in
    let well : IsTarget (g.N.Names.column_kinds setting.names.now) may.parameters t
    = subst (IsChangeTarget (g.N.Names.column_kinds setting.names.now) may.parameters) c.in-Searched.is may.target in
    let f = found.field-0.0 in
    subst (λ (u : ChangeTarget). (shown : Shown) → IsShown s shown → MeetsAs numbers_in c.from_residual.result (numbers_changed shown s u c.args.on)) (sym c.in-Searched.is)
    (λ shown is. stops_as numbers_in c.from_residual.result f _ if_some c.from_residual.ensures.1 (failed_as numbers_in f _
    (rw (← c.inputs.ensures.user, ← c.inputs.ensures.parameters) (found.ensures.meant may.parameters shown (rw (c.inputs.ensures.user, c.inputs.ensures.parameters) (reads_shown may.reads is)) well))))

pub returns-in-Some-clause-meant : goal.returns-in-Some-clause-meant
returns-in-Some-clause-meant g c = λ shown is.
    let setting = c.args.setting.now in
    let s : Seen = seen_by (g.N.Names.view_queries setting.names.now) (g.S.Store.content_now setting.store.now) setting.user setting.parameters.now in
    rw (c.in-Positioned.is, c.in-Some.is) (only_number c.in-Some.number c.list_only.result c.list_only.ensures.only c.list_only.ensures.memory)

pub returns-in_err-numbers-in-Searched-clause-right : goal.returns-in_err-numbers-in-Searched-clause-right
returns-in_err-numbers-in-Searched-clause-right g c =
    let numbers = c.in_err-numbers-in-Searched in
    let may = c.requires.can.may in
    ends_so c.from_residual.result numbers.field-0.0 c.from_residual.ensures.1
    (numbers.ensures.right may.parameters may.tables (rw (c.inputs.ensures.user, c.inputs.ensures.parameters) may.reads)
    (subst (IsChangeTarget (g.N.Names.column_kinds c.args.setting.now.names.now) may.parameters) c.in-Searched.is may.target))

pub returns-else-is_empty-clause-read : goal.returns-else-is_empty-clause-read
returns-else-is_empty-clause-read g c = searched_read c.args.target.now c.in-Searched.target c.args.setting.now.parameters.now c.inputs.result.parameters.now c.args.setting.now.user c.inputs.result.user _ _ c.in-Searched.is
    c.inputs.ensures.parameters c.inputs.ensures.user c.in_ok-numbers-in-Searched.ensures.read

pub returns-then-is_empty-clause-read : goal.returns-then-is_empty-clause-read
returns-then-is_empty-clause-read g c = searched_read c.args.target.now c.in-Searched.target c.args.setting.now.parameters.now c.inputs.result.parameters.now c.args.setting.now.user c.inputs.result.user _ _ c.in-Searched.is
    c.inputs.ensures.parameters c.inputs.ensures.user c.in_ok-numbers-in-Searched.ensures.read

pub returns-in_err-numbers-in-Searched-clause-read : goal.returns-in_err-numbers-in-Searched-clause-read
returns-in_err-numbers-in-Searched-clause-read g c = searched_read c.args.target.now c.in-Searched.target c.args.setting.now.parameters.now c.inputs.result.parameters.now c.args.setting.now.user c.inputs.result.user _ _ c.in-Searched.is
    c.inputs.ensures.parameters c.inputs.ensures.user c.in_err-numbers-in-Searched.ensures.read

pub returns-in-Some-clause-read : goal.returns-in-Some-clause-read
returns-in-Some-clause-read g c = λ keyed. omega arith
