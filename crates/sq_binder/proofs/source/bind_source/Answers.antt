-- Left open for bind_source: the clauses finds and plain; answered by Conditions, Sources and There.
use Rattle.std.proofs.Common.{map, sym, subst}
use Rattle.sq_binding.specs.Change.{source_bound}
use Rattle.sq_binding.specs.Condition.{select_bound}
use Rattle.sq_binding.specs.Seen.{select_seen}
use Rattle.sq_binder.specs.Found.{Finds}
use Rattle.sq_binder.specs.Surroundings.{surroundings}
use Rattle.sq_binder.proofs.Clauses.Conditions.{select_of-out}
use Rattle.sq_binder.specs.Names.{names_at}
use Rattle.sq_binder.specs.Receiver.{receiver_seen}
use Rattle.sq_binding.specs.SeenQuery.{source_seen}
use Rattle.sq_binder.proofs.Changes.Sources.{query_found}
use Rattle.sq_binder.proofs.Statements.There.{query_is_plain}
use Rattle.sq_binder.proofs.source.bind_source.Goals as goal

pub returns-in-Query-clause-finds : goal.returns-in-Query-clause-finds
returns-in-Query-clause-finds g c =
    let names = names_at g.T.Tables.named g.T.ChangeableTables.changes c.args.at.now in
    let a = surroundings g.T.Tables.named c.args.at.now in
    let q = c.in-Query.query in
    let query = c.bind_select-query.result in
    subst (λ source. Finds source_seen (source_bound names a (map receiver_seen c.args.receivers.now) source) c.args.before c.inserted_query.result) (sym c.in-Query.is)
    (query_found names a q c.args.receivers.now c.args.before query c.inserted_query.result
    (subst (λ s. Finds select_seen (select_bound a s) c.args.before query) (sym (select_of-out names.user q)) c.bind_select-query.ensures) c.inserted_query.ensures)

pub returns-in-Query-clause-plain : goal.returns-in-Query-clause-plain
returns-in-Query-clause-plain g c = query_is_plain c.args.receivers.now c.bind_select-query.result c.inserted_query.result c.inserted_query.ensures
