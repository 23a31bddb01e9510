-- Left open for target_reads: the clause unread; answered by Assigned and Unread.
use Rattle.std.proofs.Common.{◌∙◌, ap}
use Rattle.sq_query.specs.Target.{conditions_of}
use Rattle.sq_session.specs.Reads.{one_reads}
use Rattle.sq_session.proofs.Walks.Assigned.{none_reads}
use Rattle.sq_session.proofs.Walks.Unread.{unread}
use Rattle.sq_session.proofs.reads.target_reads.Goals as goal

pub returns-else-views-clause-unread : goal.returns-else-views-clause-unread
returns-else-views-clause-unread c =
    let sets = c.args.assignments.now in
    let target = c.args.target.now in λ none. unread sets (conditions_of target) (none_reads sets target.leaf.conditions target.condition c.in-Some.condition c.one_reads-views.result c.cond_reads.result c.in-Some.is
    (c.one_reads-views.ensures ∙ ap (one_reads sets) (c.as_slice.ensures ∙ ap (λ l. l.conditions) c.get.ensures)) c.if-views.false c.cond_reads.ensures none)
