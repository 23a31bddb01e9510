-- Left open for next_there: the clauses next and row; answered by NextNumber.
use Rattle.std.proofs.Common.{ap, drop, is_some, ◌∙◌}
use Rattle.std.specs.Option.{option_map}
use Rattle.sq_store.specs.Content.{table_at}
use Rattle.sq_store.specs.declared.table.Numbered.{Numbered}
use Rattle.sq_session.proofs.Walks.NextNumber.{left_is, none_there, reached}
use Rattle.sq_session.proofs.cursor.next_there.Goals as goal

pub returns-in-Some-clause-next : goal.returns-in-Some-clause-next
returns-in-Some-clause-next g c =
    let t = table_at (g.S.Store.content_now c.args.store.now) c.args.cursor.now.table in
    let p = c.args.cursor.now.passed in
    reached t c.args.cursor.now.numbers _ p c.loop-place.place c.requires.passed
    (left_is p c.as_slice.result.now ∙ ap (λ z. drop p z) c.as_slice.ensures)
    c.loop-place-test.true c.loop-place.invariant.0 (ap is_some c.in-Some.ensures.row)

pub returns-clause-next : goal.returns-clause-next
returns-clause-next g c =
    let t = table_at (g.S.Store.content_now c.args.store.now) c.args.cursor.now.table in
    let p = c.args.cursor.now.passed in
    none_there t c.args.cursor.now.numbers _ p c.loop-place.place c.requires.passed
    (left_is p c.as_slice.result.now ∙ ap (λ z. drop p z) c.as_slice.ensures)
    c.loop-place-test.false c.loop-place.invariant.0

pub returns-in-Some-clause-row : goal.returns-in-Some-clause-row
returns-in-Some-clause-row g c = ap (λ o. option_map (λ (r : Numbered). r.row) o) c.in-Some.ensures.row
