-- Left open for rows_by_index: its result; answered by KeyTests.
use Rattle.std.proofs.Common.{◌≡◌, ◌∙◌, ℕ, List, Bor, ap, map}
use Rattle.sq_store.specs.declared.table.Numbered.{Numbered}
use Rattle.sq_meaning.specs.Environment.{Row}
use Rattle.sq_query.specs.Table.{numbered_in, numbered_row}
use Rattle.sq_query.specs.Valued.{rows_with_one}
use Rattle.sq_query.proofs.Keys.KeyTests.{if_some}
use Rattle.sq_query.proofs.valued.rows_by_index.Goals as goal

pub returns-in_ok-base_rows-in-Some : goal.returns-in_ok-base_rows-in-Some
returns-in_ok-base_rows-in-Some g c =
    let rows = rows_with_one (g.S.Store.content_now c.args.store.now) c.args.base c.args.column c.args.values.now in
    let unnumbered = map (λ (r : Numbered). r.row) in (
      c.in_ok-base_rows-in-Some.ensures.place,
      c.in_ok-base_rows-in-Some.ensures.rows
          ∙ ap (λ (l : List (ℕ × Bor Row)). unnumbered (map numbered_row l)) c.as_slice.ensures.value
          ∙ if_some (λ found. unnumbered (numbered_in found) ≡ rows) c.in_ok-found.field-0 c.in-Some.found c.in_ok-found.ensures c.in-Some.is,
    )
