-- Left open for rows_by_scan: the clauses plain and meant; answered by KnownConditions.
use Rattle.sq_query.specs.Table.{stored_numbered}
use Rattle.sq_query.specs.Target.{conditions_of}
use Rattle.sq_query.proofs.Targets.KnownConditions.{rows_answer, target_on_base}
use Rattle.sq_query.proofs.scan.rows_by_scan.Goals as goal

pub returns-clause-plain : goal.returns-clause-plain
returns-clause-plain g c = λ none tables. c.rows_among.ensures.plain (stored_numbered (g.S.Store.content_now c.args.store.now) c.args.target.now.base) c.numbered_rows-all.ensures none tables

pub returns-clause-meant : goal.returns-clause-meant
returns-clause-meant g c = λ parameters tables may well.
    let names = c.args.names.now in
    let target = c.args.target.now in
    let call = c.args.call.now in
    let content = g.S.Store.content_now c.args.store.now in
    let columns = g.N.Names.column_kinds names in
    c.rows_among.ensures.meant (stored_numbered content target.base) c.numbered_rows-all.ensures parameters tables may well
    (rows_answer (g.N.Names.base_tables names) (g.N.Names.view_queries names) columns content call.user call.parameters.now (g.met.N.Names.kinds_of_bases names) (g.met.N.Names.kinds_of_views names) parameters tables may target.base
    (conditions_of target) (target_on_base columns parameters target well))
