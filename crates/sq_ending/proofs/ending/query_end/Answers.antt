-- Left open for query_end: what the call of tables_read asks for, and its result; answered by QueryEnds.
use Rattle.std.proofs.Common.{subst}
use Rattle.std.specs.List.{AllByRecursion}
use Rattle.sq_expression.specs.declared.context.Context.{Context}
use Rattle.sq_ending.specs.Read.{IsThere}
use Rattle.sq_ending.proofs.QueryEnds.{query_ends}
use Rattle.sq_ending.proofs.ending.query_end.Goals as goal

pub tables_read-requires-clause-there : goal.tables_read-requires-clause-there
tables_read-requires-clause-there g c = c.requires.finds.0

pub returns : goal.returns
returns g c =
    let names = c.args.names.now in
    let store = c.args.store.now in
    let read = c.in_ok-tables.tables in
    let context : Context = record { alloc = c.args.alloc; user = c.args.inputs.user; parameters = c.args.inputs.parameters; bases = c.as_slice-2.result; views = c.as_slice-3.result } in
    query_ends (g.N.Names.base_tables names) (g.N.Names.view_queries names) (g.N.Names.column_kinds names) (g.S.Store.content_now store) (g.S.Store.key_columns store) c.args.query.now
    (g.met.N.Names.kinds_of_bases names) (g.met.N.Names.kinds_of_views names) c.requires.keys (g.met.S.Store.keyed store) c.requires.finds
    context read c.in_ok-tables.ensures.right c.in_ok-needed.needed.items c.in_ok-needed.ensures
    (subst (AllByRecursion (IsThere read)) c.as_slice.ensures.value c.in_ok-tables.ensures.there) c.as_slice-2.ensures.value c.as_slice-3.ensures.value
    c.end_over-end.result c.end_over-end.ensures
