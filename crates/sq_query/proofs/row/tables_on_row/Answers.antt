-- Left open: the call of tables_of, and the clauses plain, tables and none; answered by FoundRead and others.
use Rattle.std.proofs.Common.{◌≡◌, ◌∙◌, [], List, sym, subst, true}
use Rattle.sq_expression.specs.declared.table.BaseRows.{BaseRows}
use Rattle.sq_query.specs.Items.{is_left}
use Rattle.sq_query.specs.declared.view.Tables.{Tables}
use Rattle.sq_query.proofs.FoundByKey.FoundRead.{left_known}
use Rattle.sq_query.proofs.Needs.ReadTables.{handed}
use Rattle.sq_query.proofs.FoundByKey.RowTables.{handed_fault, only_memory, read_on_row, same_on_row}
use Rattle.sq_query.proofs.Needs.TablesMeant.{tables_fit}
use Rattle.sq_query.proofs.row.tables_on_row.Goals as goal

pub tables_of-requires-clause-known : goal.tables_of-requires-clause-known
tables_of-requires-clause-known g c =
    let columns = g.N.Names.column_kinds c.args.names.now in
    left_known columns c.in_ok-needed.needed c.without-left.result c.without-left.ensures.fewer (c.in_ok-needed.ensures.known columns [] c.requires.finds.1)

pub returns-in_err-tables-clause-plain : goal.returns-in_err-tables-clause-plain
returns-in_err-tables-clause-plain g c = λ plain.
    handed_fault c.from_residual-in_err-tables.result c.in_err-tables.field-0.0 c.from_residual-in_err-tables.ensures.1
    (only_memory c.in_err-tables.field-0.0 [] (c.in_err-tables.ensures.bases [] (c.without-left.ensures.none (c.in_ok-needed.ensures.plain plain))))

pub returns-in_err-tables-clause-tables : goal.returns-in_err-tables-clause-tables
returns-in_err-tables-clause-tables g c = λ parameters tables may on.
    handed Tables c.from_residual-in_err-tables.result c.in_err-tables.field-0.0 _ c.from_residual-in_err-tables.ensures.1 (c.in_err-tables.ensures.meant may.in_domains tables may.meant).0

pub returns-clause-tables : goal.returns-clause-tables
returns-clause-tables g c = λ parameters tables may on.
    let names = c.args.names.now in
    let store = c.args.store.now in
    let content = g.S.Store.content_now store in
    let keys = g.S.Store.key_columns store in
    let bases = g.N.Names.base_tables names in
    let columns = g.N.Names.column_kinds names in
    let user = c.args.call.now.user in
    let values = c.args.call.now.parameters.now in
    let condition = c.args.condition.now in
    let row = c.args.row.now in
    let found = c.in_ok-found.found.items in
    let fitting = tables_fit bases (g.N.Names.view_queries names) columns content user tables (g.met.N.Names.kinds_of_bases names) may.there may.in_domains may.meant (g.met.N.Names.kinds_of_views names) in
    let same = same_on_row bases columns content keys (g.met.S.Store.keyed store) may.there parameters values user may.inputs tables may.meant.bases fitting condition row on c.is_sought.result
    (λ by. c.requires.keys (c.is_sought.ensures.may by)) found c.in_ok-found.ensures.found c.in_ok-found.ensures.none in (
      c.with_bases.ensures.answered,
      read_on_row bases columns content keys (g.met.S.Store.keyed store) may.there parameters values user may.inputs tables may.meant.bases fitting condition row on found same c.in_ok-needed.needed c.without-left.result
          (c.in_ok-needed.ensures.reads []) (λ t h is. c.without-left.ensures.left t h (subst (λ (l : List BaseRows). is_left l t ≡ true) (sym c.as_slice.ensures.value) is))
          c.in_ok-tables.tables (c.in_ok-tables.ensures.meant may.in_domains tables may.meant).1 c.with_bases.result c.with_bases.ensures.bases c.with_bases.ensures.views,
    )

pub returns-in_err-found-clause-none : goal.returns-in_err-found-clause-none
returns-in_err-found-clause-none g c = λ plain.
    c.in_err-found.ensures.unread (c.is_sought.ensures.none (c.in_ok-needed.ensures.plain plain))

pub returns-in_err-tables-clause-none : goal.returns-in_err-tables-clause-none
returns-in_err-tables-clause-none g c = λ plain.
    c.in_err-tables.ensures.none (c.without-left.ensures.none (c.in_ok-needed.ensures.plain plain))
    ∙ c.in_ok-found.ensures.unread (c.is_sought.ensures.none (c.in_ok-needed.ensures.plain plain))

pub returns-clause-none : goal.returns-clause-none
returns-clause-none g c = λ plain.
    c.in_ok-tables.ensures.none (c.without-left.ensures.none (c.in_ok-needed.ensures.plain plain))
    ∙ c.in_ok-found.ensures.unread (c.is_sought.ensures.none (c.in_ok-needed.ensures.plain plain))
