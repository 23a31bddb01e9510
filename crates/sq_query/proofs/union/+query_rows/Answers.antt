-- Left open: the calls of term_rows and 2 more, the results, and the loop's invariant; answered by QuerySizes, ReadRows and UnionRows.
use Rattle.std.proofs.Common.{ap, arith, rules, sym, ◌∙◌}
use Rattle.std.specs.Prelude.{option_copied}
use Rattle.sq_bound.specs.declared.query.BoundTerm.TheVariants.{Bracketed}
use Rattle.sq_query.specs.Specification.{IsReadable}
use Rattle.sq_query.specs.Union.{rows_behind}
use Rattle.sq_query.proofs.ByUnion.QuerySizes.{bracketed_smaller, first_smaller, union_smaller}
use Rattle.sq_query.proofs.Needs.ReadRows.{fitting}
use Rattle.sq_query.proofs.ByUnion.UnionRows.{AreFittingThere, all_meant, first_failed, first_meant, in_first, in_union, join_failed, next_left, next_meant, of_bracketed, of_specification, rows_of_bracketed, rows_of_select_term, term_failed, union_handed_on}
use Rattle.sq_query.proofs.union.+query_rows.Goals as goal

pub query_rows-loop-union-init : goal.query_rows-loop-union-init
query_rows-loop-union-init g t c =
    let names = c.args.names.now in
    let bases = g.N.Names.base_tables names in
    let queries = g.N.Names.view_queries names in
    let columns = g.N.Names.column_kinds names in
    let content = g.S.Store.content_now c.args.store.now in
    let user = c.args.call.now.user in
    let values = c.args.call.now.parameters.now in
    let fits : AreFittingThere bases queries columns content user values = fitting bases queries columns content user values (g.met.N.Names.kinds_of_bases names) (g.met.N.Names.kinds_of_views names) in
    record {
      meant = first_meant bases queries columns content user values fits c.args.query.now c.in_ok-so_far.so_far c.in_ok-so_far.ensures;
      left = λ parameters tables may well. tt;
    }

pub query_rows-loop-union-preserved : goal.query_rows-loop-union-preserved
query_rows-loop-union-preserved g t c =
    let names = c.args.names.now in
    let bases = g.N.Names.base_tables names in
    let queries = g.N.Names.view_queries names in
    let columns = g.N.Names.column_kinds names in
    let content = g.S.Store.content_now c.args.store.now in
    let user = c.args.call.now.user in
    let values = c.args.call.now.parameters.now in
    let fits : AreFittingThere bases queries columns content user values = fitting bases queries columns content user values (g.met.N.Names.kinds_of_bases names) (g.met.N.Names.kinds_of_views names) in
    let before = option_copied c.loop-union.before in
    record {
      meant = next_meant bases queries columns content user values fits c.args.query.now c.as_slice-union-items.result.now c.loop-union.union-index c.union-item.result before c.loop-union.so_far.items
          c.as_slice-union-items.ensures c.loop-union-test.true c.union-item.is c.loop-union.invariant.meant c.loop-union.invariant.left c.in-Ok.others c.in_ok-so_far-in-Ok.so_far c.in-Ok.ensures c.in_ok-so_far-in-Ok.ensures;
      left = next_left bases queries columns content user values fits c.args.query.now c.as_slice-union-items.result.now c.loop-union.union-index c.union-item.result before c.loop-union.so_far.items
          c.as_slice-union-items.ensures c.loop-union-test.true c.union-item.is c.loop-union.invariant.meant c.loop-union.invariant.left c.in-Ok.others c.in_ok-so_far-in-Ok.so_far c.in-Ok.ensures c.in_ok-so_far-in-Ok.ensures;
    }

pub query_rows-term_rows-requires : goal.query_rows-term_rows-requires
query_rows-term_rows-requires g t c κs within =
    (omega (arith, first_smaller c.args.query.now, c.decreases), (search rules, (search rules, in_first (IsReadable (g.N.Names.base_tables c.args.names.now) (g.N.Names.column_kinds c.args.names.now) (g.S.Store.content_now c.args.store.now) (g.S.Store.key_columns c.args.store.now)) c.args.query.now c.requires.readable)))

pub query_rows-term_rows-requires-in-loop-union : goal.query_rows-term_rows-requires-in-loop-union
query_rows-term_rows-requires-in-loop-union g t c κs within =
    let unions = c.as_slice-union-items.result.now in
    let u = c.union-item.result in (
      omega (arith, union_smaller c.args.query.now unions c.loop-union.union-index u c.as_slice-union-items.ensures c.loop-union-test.true c.union-item.is, c.decreases),
      (search rules, (search rules, in_union (IsReadable (g.N.Names.base_tables c.args.names.now) (g.N.Names.column_kinds c.args.names.now) (g.S.Store.content_now c.args.store.now) (g.S.Store.key_columns c.args.store.now)) c.args.query.now unions c.loop-union.union-index u c.as_slice-union-items.ensures c.loop-union-test.true c.union-item.is c.requires.readable)),
    )

pub term_rows-rows_of_specification-requires : goal.term_rows-rows_of_specification-requires
term_rows-rows_of_specification-requires g t c = of_specification (IsReadable (g.N.Names.base_tables c.args.names.now) (g.N.Names.column_kinds c.args.names.now) (g.S.Store.content_now c.args.store.now) (g.S.Store.key_columns c.args.store.now)) c.args.term.now _ c.in-Specification.is c.requires.readable

pub term_rows-query_rows-requires : goal.term_rows-query_rows-requires
term_rows-query_rows-requires g t c κs within = (
  omega (arith, bracketed_smaller c.args.term.now _ c.get.result.now c.in-Bracketed.is c.get.ensures, c.decreases),
  (search rules, (search rules, of_bracketed (IsReadable (g.N.Names.base_tables c.args.names.now) (g.N.Names.column_kinds c.args.names.now) (g.S.Store.content_now c.args.store.now) (g.S.Store.key_columns c.args.store.now)) c.args.term.now _ c.get.result.now c.in-Bracketed.is c.get.ensures c.requires.readable)),
)

pub term_rows-returns-in-Specification : goal.term_rows-returns-in-Specification
term_rows-returns-in-Specification g t c =
    let names = c.args.names.now in
    let bases = g.N.Names.base_tables names in
    let queries = g.N.Names.view_queries names in
    let columns = g.N.Names.column_kinds names in
    let content = g.S.Store.content_now c.args.store.now in
    let user = c.args.call.now.user in
    let values = c.args.call.now.parameters.now in
    rows_of_select_term bases queries columns content user values c.rows_of_specification.result c.args.term.now _ c.in-Specification.is c.rows_of_specification.ensures.rows

pub term_rows-returns-in-Bracketed : goal.term_rows-returns-in-Bracketed
term_rows-returns-in-Bracketed g t c =
    let names = c.args.names.now in
    let bases = g.N.Names.base_tables names in
    let queries = g.N.Names.view_queries names in
    let columns = g.N.Names.column_kinds names in
    let content = g.S.Store.content_now c.args.store.now in
    let user = c.args.call.now.user in
    let values = c.args.call.now.parameters.now in
    rows_of_bracketed bases queries columns content user values c.query_rows.result c.args.term.now c.get.result.now (c.in-Bracketed.is ∙ ap Bracketed (sym c.get.ensures)) c.query_rows.ensures

pub query_rows-returns : goal.query_rows-returns
query_rows-returns g t c =
    let names = c.args.names.now in
    let bases = g.N.Names.base_tables names in
    let queries = g.N.Names.view_queries names in
    let columns = g.N.Names.column_kinds names in
    let content = g.S.Store.content_now c.args.store.now in
    let user = c.args.call.now.user in
    let values = c.args.call.now.parameters.now in
    let fits : AreFittingThere bases queries columns content user values = fitting bases queries columns content user values (g.met.N.Names.kinds_of_bases names) (g.met.N.Names.kinds_of_views names) in
    all_meant bases queries columns content user values fits c.args.query.now c.as_slice-union-items.result.now c.loop-union.union-index (rows_behind (option_copied c.loop-union.before) c.loop-union.so_far.items) c.without_repeats.result
    c.as_slice-union-items.ensures c.loop-union-test.false c.loop-union.invariant.meant c.without_repeats.ensures

pub query_rows-returns-in_err-so_far : goal.query_rows-returns-in_err-so_far
query_rows-returns-in_err-so_far g t c =
    let names = c.args.names.now in
    let bases = g.N.Names.base_tables names in
    let queries = g.N.Names.view_queries names in
    let columns = g.N.Names.column_kinds names in
    let content = g.S.Store.content_now c.args.store.now in
    let user = c.args.call.now.user in
    let values = c.args.call.now.parameters.now in
    let fits : AreFittingThere bases queries columns content user values = fitting bases queries columns content user values (g.met.N.Names.kinds_of_bases names) (g.met.N.Names.kinds_of_views names) in
    let e = c.in_err-so_far.field-0.0 in
    union_handed_on bases queries columns content user values c.from_residual.result e c.args.query.now c.from_residual.ensures.1 (first_failed bases queries columns content user values fits c.args.query.now e c.in_err-so_far.ensures)

pub query_rows-returns-in_err-so_far-in-Ok : goal.query_rows-returns-in_err-so_far-in-Ok
query_rows-returns-in_err-so_far-in-Ok g t c =
    let names = c.args.names.now in
    let bases = g.N.Names.base_tables names in
    let queries = g.N.Names.view_queries names in
    let columns = g.N.Names.column_kinds names in
    let content = g.S.Store.content_now c.args.store.now in
    let user = c.args.call.now.user in
    let values = c.args.call.now.parameters.now in
    let fits : AreFittingThere bases queries columns content user values = fitting bases queries columns content user values (g.met.N.Names.kinds_of_bases names) (g.met.N.Names.kinds_of_views names) in
    let e = c.in_err-so_far-in-Ok.field-0.0 in
    union_handed_on bases queries columns content user values c.from_residual-in_err-so_far-in-Ok.result e c.args.query.now c.from_residual-in_err-so_far-in-Ok.ensures.1
    (join_failed bases queries columns content user values fits c.args.query.now c.as_slice-union-items.result.now c.loop-union.union-index c.union-item.result (option_copied c.loop-union.before) c.loop-union.so_far.items
    c.as_slice-union-items.ensures c.loop-union-test.true c.union-item.is c.loop-union.invariant.meant c.loop-union.invariant.left e c.in-Ok.others c.in-Ok.ensures c.in_err-so_far-in-Ok.ensures)

pub query_rows-returns-in-Err : goal.query_rows-returns-in-Err
query_rows-returns-in-Err g t c =
    let names = c.args.names.now in
    let bases = g.N.Names.base_tables names in
    let queries = g.N.Names.view_queries names in
    let columns = g.N.Names.column_kinds names in
    let content = g.S.Store.content_now c.args.store.now in
    let user = c.args.call.now.user in
    let values = c.args.call.now.parameters.now in
    let fits : AreFittingThere bases queries columns content user values = fitting bases queries columns content user values (g.met.N.Names.kinds_of_bases names) (g.met.N.Names.kinds_of_views names) in
    term_failed bases queries columns content user values fits c.args.query.now c.as_slice-union-items.result.now c.loop-union.union-index c.union-item.result (rows_behind (option_copied c.loop-union.before) c.loop-union.so_far.items)
    c.as_slice-union-items.ensures c.loop-union-test.true c.union-item.is c.loop-union.invariant.meant c.in-Err.fault c.in-Err.ensures
