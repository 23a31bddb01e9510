-- Left open for row_of_single: the call of row_if_true, and the clauses; answered by KnownKeys and SingleRows.
use Rattle.std.proofs.Common.{◌∙◌, ◌+◌, ◌≤◌, ℕ, Ok, ap, subst, sym, true}
use Rattle.sq_store.specs.declared.table.Numbered.{Numbered}
use Rattle.sq_expression.specs.Fault.{MeetsAs}
use Rattle.sq_meaning.specs.WellFormed.{HasValue}
use Rattle.sq_bound.specs.declared.condition.TablePlace.TheVariants.{Base}
use Rattle.sq_query.specs.SingleRow.{lines_of_row}
use Rattle.sq_query.proofs.Keys.KnownKeys.{one_at_most}
use Rattle.sq_query.proofs.Keys.SingleRows.{line_of_found, none_found, stands_on_found, where_plain, where_read}
use Rattle.sq_query.proofs.single_row.row_of_single.Goals as goal

pub row_if_true-requires-clause-finds : goal.row_if_true-requires-clause-finds
row_if_true-requires-clause-finds g c =
    let columns = g.N.Names.column_kinds c.args.names.now in
    let single = c.args.single.now in
    (c.requires.readable.finds.0, where_read (λ t. HasValue (columns t)) c.args.query.now (Base single.base) single.condition.now c.requires.single.over c.requires.single.is_where c.requires.readable.finds.1)

pub returns-in-Some-clause-lines : goal.returns-in-Some-clause-lines
returns-in-Some-clause-lines g c = λ parameters tables may well.
    let names = c.args.names.now in
    let store = c.args.store.now in
    let r : Numbered = record { number = c.in-Some.found.0; row = c.in-Some.found.1.now } in
    subst (MeetsAs lines_of_row c.row_if_true.result)
    (sym (line_of_found (g.N.Names.base_tables names) (g.N.Names.view_queries names) (g.N.Names.column_kinds names) (g.S.Store.content_now store) (g.S.Store.key_columns store) c.args.call.now (g.met.N.Names.kinds_of_bases names) (g.met.N.Names.kinds_of_views names)
    (g.met.S.Store.keyed store) c.args.query.now c.requires.readable c.args.single.now c.requires.single parameters tables may well r c.in-Some.ensures.row))
    (c.row_if_true.ensures.line parameters tables may
    (stands_on_found (g.N.Names.base_tables names) (g.N.Names.view_queries names) (g.N.Names.column_kinds names) (g.S.Store.content_now store) (g.S.Store.key_columns store) c.args.call.now (g.met.N.Names.kinds_of_bases names) (g.met.N.Names.kinds_of_views names)
    (g.met.S.Store.keyed store) c.args.query.now c.requires.readable c.args.single.now c.requires.single parameters tables may well r c.in-Some.ensures.row))

pub returns-in-None-clause-lines : goal.returns-in-None-clause-lines
returns-in-None-clause-lines g c = λ parameters tables may well.
    let names = c.args.names.now in
    let store = c.args.store.now in
    none_found (g.N.Names.base_tables names) (g.N.Names.view_queries names) (g.N.Names.column_kinds names) (g.S.Store.content_now store) (g.S.Store.key_columns store) c.args.call.now (g.met.N.Names.kinds_of_bases names) (g.met.N.Names.kinds_of_views names)
    (g.met.S.Store.keyed store) c.args.query.now c.requires.readable c.args.single.now c.requires.single parameters tables may well c.in-None.ensures.row

pub returns-in-Some-clause-read : goal.returns-in-Some-clause-read
returns-in-Some-clause-read g c = λ none.
    let single = c.args.single.now in
    let s = c.requires.single in
    subst (λ (m : ℕ). m ≤ c.args.meter.now + 1) (sym (c.row_if_true.ensures.read (where_plain c.args.query.now (Base single.base) single.condition.now s.over s.is_where none)))
    (one_at_most true c.args.meter.now c.find_key.new.meter c.in-Some.ensures.metered)
