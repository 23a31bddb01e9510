-- Left open for rows_with: the clause rows, and that the loop keeps its invariant; answered by AddedRows.
use Rattle.std.proofs.Common.{◌∙◌, List, ap, map, take}
use Rattle.std.proofs.lemmas.List.{take_all}
use Rattle.std.specs.Prelude.{filter}
use Rattle.sq_value.specs.declared.value.Value.{Value}
use Rattle.sq_store.specs.Content.{table_at}
use Rattle.sq_store.specs.Keys.{key_at}
use Rattle.sq_query.specs.Several.{has_one_of}
use Rattle.sq_query.specs.Table.{numbered_row}
use Rattle.sq_query.proofs.Keys.AddedRows.{next_value, none_yet}
use Rattle.sq_query.proofs.several.rows_with.Goals as goal

pub loop-value-init : goal.loop-value-init
loop-value-init g c =
    let store = c.args.store.now in
    ap (map numbered_row) c.new-rows.ensures.items ∙ none_yet (key_at (g.S.Store.key_columns store) c.args.base c.args.known.now.key) (table_at (g.S.Store.content_now store) c.args.base).rows

pub loop-value-preserved : goal.loop-value-preserved
loop-value-preserved g c =
    let store = c.args.store.now in
    let rows = (table_at (g.S.Store.content_now store) c.args.base).rows in
    let columns = key_at (g.S.Store.key_columns store) c.args.base c.args.known.now.key in
    let values = c.as_slice-value-items.result.now in
    let i = c.loop-value.value-index in
    c.in_ok-add_row_with.ensures.rows (has_one_of columns (take i values)) c.loop-value.invariant ∙ next_value columns values i c.value-item.result rows c.loop-value-test.true c.value-item.is

pub returns-clause-rows : goal.returns-clause-rows
returns-clause-rows g c =
    let store = c.args.store.now in
    let rows = (table_at (g.S.Store.content_now store) c.args.base).rows in
    let columns = key_at (g.S.Store.key_columns store) c.args.base c.args.known.now.key in
    c.loop-value.invariant
    ∙ ap (λ (vs : List Value). filter (has_one_of columns vs) rows) (take_all c.loop-value.value-index c.as_slice-value-items.result.now c.loop-value-test.false ∙ c.as_slice-value-items.ensures.value)
