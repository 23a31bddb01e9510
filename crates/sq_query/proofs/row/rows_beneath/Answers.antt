-- Left open for rows_beneath: the clause found; answered by RowTables.
use Rattle.sq_expression.specs.Frame.{scopes_of}
use Rattle.sq_query.proofs.FoundByKey.RowTables.{beneath_so}
use Rattle.sq_query.proofs.row.rows_beneath.Goals as goal

pub returns-then-by_keys-clause-found : goal.returns-then-by_keys-clause-found
returns-then-by_keys-clause-found g c = λ by.
    beneath_so c.args.condition.now c.args.row.now (g.S.Store.content_now c.args.store.now) (g.S.Store.key_columns c.args.store.now) c.args.call.now.parameters.now c.args.call.now.user c.new-nowhere.result (scopes_of c.line_frame.result) c.line_frame.ensures.scopes
    c.new-none.result.items c.new-none.ensures.items c.with_lines-found.result c.with_lines-found.ensures.found
