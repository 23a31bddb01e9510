-- Left open: the call of make_insert, and the clauses finds and over; answered by Finds, Inserts and others.
use Rattle.std.proofs.Common.{◌<◌, List, length, map, subst}
use Rattle.sq_binding.specs.Change as change
use Rattle.sq_binding.specs.Change.{receivers_bound, source_bound}
use Rattle.sq_binder.specs.Found.{Finds, counts_of, found_of}
use Rattle.sq_binder.specs.Surroundings.{surroundings}
use Rattle.sq_binder.proofs.OneByOne.Finds.{pairs_found, stop_found}
use Rattle.sq_binder.specs.Changeable.{changed_of}
use Rattle.sq_binder.specs.Names.{names_at}
use Rattle.sq_binder.specs.Insert.{insert_over}
use Rattle.sq_binder.specs.Receiver.{AreWithin, receiver_seen}
use Rattle.sq_binder.specs.declared.receiver.Receiver.{Receiver}
use Rattle.sq_binding.specs.SeenQuery.{insert_seen, source_seen}
use Rattle.sq_binder.proofs.Changes.Inserts.{first_stops, insert_found}
use Rattle.sq_binding.specs.There.{SourceIsPlain}
use Rattle.sq_binding.proofs.WellFormed.Inserts.{receivers_hold}
use Rattle.sq_binder.proofs.OneByOne.Parts.{first_holds, second_holds}
use Rattle.sq_binder.proofs.Changes.Receivers.{table_within}
use Rattle.sq_binder.proofs.Statements.There.{insert_is_over}
use Rattle.sq_binder.proofs.insert.insert_into.Goals as goal

pub returns-in_err-receivers-clause-finds : goal.returns-in_err-receivers-clause-finds
returns-in_err-receivers-clause-finds g c =
    let names = names_at g.T.Tables.named g.T.ChangeableTables.changes c.args.at.now in
    let a = surroundings g.T.Tables.named c.args.at.now in
    let i = c.args.insert.now in
    let table = c.args.table.now in
    let stop = c.in_err-receivers.field-0.0 in
    stop_found insert_seen (insert_over names a i (changed_of table)) c.args.before c.from_residual.result stop c.from_residual.ensures.1 (first_stops names a i table c.args.before stop c.in_err-receivers.ensures)

pub returns-clause-finds : goal.returns-clause-finds
returns-clause-finds g c =
    let names = names_at g.T.Tables.named g.T.ChangeableTables.changes c.args.at.now in
    let a = surroundings g.T.Tables.named c.args.at.now in
    let i = c.args.insert.now in
    let table = c.args.table.now in
    let receivers = c.in_ok-receivers.receivers in
    let source = c.bind_source-source.result in
    let both = c.pair_parts-parts.result in
    insert_found names a i table c.args.before c.holds-may_insert.result c.holds-may_insert.ensures both c.make_insert.result
    (pairs_found (map receiver_seen) source_seen (receivers_bound (changed_of table) i.columns) (λ rs. source_bound names a rs i.source) c.args.before receivers source both c.in_ok-receivers.ensures
    (subst (λ rs. Finds source_seen (source_bound names a (map receiver_seen rs) i.source) receivers.brought.next source) c.as_slice.ensures c.bind_source-source.ensures.finds) c.pair_parts-parts.ensures)
    c.make_insert.ensures

pub make_insert-requires : goal.make_insert-requires
make_insert-requires g c =
    let table = c.args.table.now in
    let columns = length table.under.leaf.now.table.columns in
    let receivers = c.in_ok-receivers.receivers in
    first_holds (λ (rs : List Receiver). AreWithin columns (map receiver_seen rs)) receivers c.bind_source-source.result c.pair_parts-parts.result c.pair_parts-parts.ensures
    (receivers_hold (λ (r : change.Receiver). r.column < columns) (changed_of table) (table_within table) c.args.insert.now.columns (counts_of c.args.before) (found_of (map receiver_seen) receivers) c.in_ok-receivers.ensures.0)

pub returns-clause-over : goal.returns-clause-over
returns-clause-over g c =
    insert_is_over c.args.table.now c.holds-may_insert.result c.pair_parts-parts.result c.make_insert.result c.make_insert.ensures
    (second_holds SourceIsPlain c.in_ok-receivers.receivers c.bind_source-source.result c.pair_parts-parts.result c.pair_parts-parts.ensures c.bind_source-source.ensures.plain)
