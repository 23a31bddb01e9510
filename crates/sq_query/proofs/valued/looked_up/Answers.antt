-- Left open for looked_up: its result; answered by WithOne.
use Rattle.std.proofs.Common.{◌∙◌}
use Rattle.sq_query.proofs.FoundByKey.WithOne.{rows_found}
use Rattle.sq_query.proofs.valued.looked_up.Goals as goal

pub returns : goal.returns
returns g c =
    rows_found c.find_rows-found.result (g.S.Store.content_now c.args.store.now) c.args.base c.args.column c.args.values.now c.from_ref.result.now c.as_slice.result.now
    c.from_ref.ensures.value (c.as_slice.ensures.value ∙ c.in_ok-several.ensures) c.find_rows-found.ensures.rows
