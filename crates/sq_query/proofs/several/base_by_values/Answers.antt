-- Left open for base_by_values: the clause rows; answered by AddedRows.
use Rattle.sq_query.specs.Several.{rows_with}
use Rattle.sq_query.proofs.Keys.AddedRows.{rows_without}
use Rattle.sq_query.proofs.several.base_by_values.Goals as goal

pub returns-clause-rows : goal.returns-clause-rows
returns-clause-rows g c =
    let store = c.args.store.now in
    rows_without (rows_with (g.S.Store.content_now store) (g.S.Store.key_columns store) c.args.base c.args.known.now) c.in_ok-numbered.numbered.items c.as_slice.result.now c.in_ok-rows.field-0.items c.in_ok-numbered.ensures.rows c.as_slice.ensures.value
    c.in_ok-rows.ensures
