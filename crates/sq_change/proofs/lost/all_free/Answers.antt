-- Left open: the call of references_free, the clause meant, and the loop's invariant; answered by AllMet, Held, InTurn and LostValues.
use Rattle.std.proofs.Common.{◌≡◌, ◌<◌, ℕ, List, length, Some, get_or, slice_get, sym, refl, ◌∙◌}
use Rattle.std.specs.List.{enumerate_from}
use Rattle.std.proofs.lemmas.Bool.{eqb-true}
use Rattle.std.proofs.lemmas.List.{nil_from_length}
use Rattle.std.proofs.lemmas.Option.{slice_get_read}
use Rattle.sq_meaning.specs.declared.status.Status.TheVariants.{IntegrityConstraintViolation}
use Rattle.sq_bound.specs.declared.names.BaseTable.{BaseTable}
use Rattle.sq_change.specs.Lost.{are_free}
use Rattle.sq_change.proofs.OneByOne.AllMet.{fails_so, is_met, met_all, met_more, met_not, was_met}
use Rattle.sq_change.proofs.Changes.Held.{is_there, refers_at, width_at}
use Rattle.sq_change.proofs.OneByOne.InTurn.{all_placed, place_at}
use Rattle.sq_change.proofs.Keys.LostValues.{none_lost, of_all_tables, table_free}
use Rattle.sq_change.proofs.lost.all_free.Goals as goal

-- the element of a loop is the base table at its place
here : (bases items : List BaseTable) (place : ℕ) (b : BaseTable) → items ≡ bases → place < length items → b ≡ get_or items place b → slice_get bases place ≡ Some b
here bases items place b same lt is = rw (← same) (slice_get_read items (length items) place b refl lt is)

pub references_free-requires-clause-kept : goal.references_free-requires-clause-kept
references_free-requires-clause-kept g c =
    let bases = g.N.Names.base_tables c.args.names.now in
    let content = g.S.Store.content_now c.args.store.now in
    let base = c.base-item.result in
    is_there bases content c.loop-place.place base c.requires.tables (here bases c.bases-base-items.result.now c.loop-place.place base c.bases-base-items.ensures c.loop-place-test.true c.base-item.is)

pub references_free-requires-clause-wide : goal.references_free-requires-clause-wide
references_free-requires-clause-wide g c =
    let bases = g.N.Names.base_tables c.args.names.now in
    let content = g.S.Store.content_now c.args.store.now in
    let base = c.base-item.result in
    rw c.get.ensures (width_at bases content c.loop-place.place base c.requires.tables (here bases c.bases-base-items.result.now c.loop-place.place base c.bases-base-items.ensures c.loop-place-test.true c.base-item.is))

pub references_free-requires-clause-keys : goal.references_free-requires-clause-keys
references_free-requires-clause-keys g c =
    let bases = g.N.Names.base_tables c.args.names.now in
    let keys = g.S.Store.key_columns c.args.store.now in
    let base = c.base-item.result in
    rw c.get.ensures (refers_at bases keys c.loop-place.place base (g.met.N.Names.references c.args.names.now) c.requires.keys (here bases c.bases-base-items.result.now c.loop-place.place base c.bases-base-items.ensures c.loop-place-test.true c.base-item.is))

-- ---- what is met

pub returns-then-is_empty-clause-meant : goal.returns-then-is_empty-clause-meant
returns-then-is_empty-clause-meant g c =
    let bases = g.N.Names.base_tables c.args.names.now in
    let content = g.S.Store.content_now c.args.store.now in
    is_met (are_free bases content c.args.table c.args.lost.now) IntegrityConstraintViolation
    (none_lost bases content c.args.table c.args.lost.now (nil_from_length c.args.lost.now (eqb-true (length c.args.lost.now) 0 (sym c.if-is_empty.ensures))))

pub loop-place-preserved : goal.loop-place-preserved
loop-place-preserved g c =
    let bases = g.N.Names.base_tables c.args.names.now in
    let keys = g.S.Store.key_columns c.args.store.now in
    let content = g.S.Store.content_now c.args.store.now in
    let base = c.base-item.result in
    let test = table_free keys content c.args.table c.args.lost.now in
    let at = place_at bases c.loop-place.place base (rw c.bases-base-items.ensures at c.loop-place-test.true) (rw c.bases-base-items.ensures at c.base-item.is) in
    met_more test (enumerate_from 0 bases) c.loop-place.place (c.loop-place.place, base) at.0 at.1 c.loop-place.invariant
    (was_met (test (c.loop-place.place, base)) IntegrityConstraintViolation tt (rw (← c.get.ensures) c.in_ok-references_free.ensures.meant))

pub returns-in_err-references_free-clause-meant : goal.returns-in_err-references_free-clause-meant
returns-in_err-references_free-clause-meant g c =
    let bases = g.N.Names.base_tables c.args.names.now in
    let keys = g.S.Store.key_columns c.args.store.now in
    let content = g.S.Store.content_now c.args.store.now in
    let base = c.base-item.result in
    let test = table_free keys content c.args.table c.args.lost.now in
    let at = place_at bases c.loop-place.place base (rw c.bases-base-items.ensures at c.loop-place-test.true) (rw c.bases-base-items.ensures at c.base-item.is) in
    fails_so c.from_residual.result c.in_err-references_free.field-0.0 (test (c.loop-place.place, base)) (are_free bases content c.args.table c.args.lost.now) IntegrityConstraintViolation c.from_residual.ensures.1
    (λ no. sym (of_all_tables bases keys content c.args.table c.args.lost.now c.requires.keys) ∙ met_not test (enumerate_from 0 bases) c.loop-place.place (c.loop-place.place, base) at.0 at.1 no)
    (rw (← c.get.ensures) c.in_err-references_free.ensures.meant)

pub returns-clause-meant : goal.returns-clause-meant
returns-clause-meant g c =
    let bases = g.N.Names.base_tables c.args.names.now in
    let keys = g.S.Store.key_columns c.args.store.now in
    let content = g.S.Store.content_now c.args.store.now in
    let test = table_free keys content c.args.table c.args.lost.now in
    is_met (are_free bases content c.args.table c.args.lost.now) IntegrityConstraintViolation
    (sym (of_all_tables bases keys content c.args.table c.args.lost.now c.requires.keys)
    ∙ met_all test (enumerate_from 0 bases) c.loop-place.place (all_placed bases c.loop-place.place (rw c.bases-base-items.ensures at c.loop-place-test.false)) c.loop-place.invariant)
