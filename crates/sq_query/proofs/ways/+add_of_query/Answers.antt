-- Left open: what the calls ask for; answered by QuerySizes and UnionRows.
use Rattle.std.proofs.Common.{arith, rules}
use Rattle.sq_query.specs.Needed.{FindsSelect}
use Rattle.sq_query.proofs.ByUnion.QuerySizes.{bracketed_smaller, first_smaller, union_smaller}
use Rattle.sq_query.proofs.ByUnion.UnionRows.{in_first, in_union, of_bracketed, of_specification}
use Rattle.sq_query.proofs.ways.+add_of_query.Goals as goal

pub add_of_query-add_of_query_term-requires : goal.add_of_query-add_of_query_term-requires
add_of_query-add_of_query_term-requires g t c κs within =
    (omega (arith, first_smaller c.args.query.now, c.decreases), (search rules, in_first (FindsSelect (g.N.Names.base_tables c.args.names.now) (g.N.Names.column_kinds c.args.names.now)) c.args.query.now c.requires.readable))

pub add_of_query-add_of_query_term-requires-in-loop-union : goal.add_of_query-add_of_query_term-requires-in-loop-union
add_of_query-add_of_query_term-requires-in-loop-union g t c κs within =
    let unions = c.as_slice-union-items.result.now in
    let u = c.union-item.result in (
      omega (arith, union_smaller c.args.query.now unions c.loop-union.union-index u c.as_slice-union-items.ensures c.loop-union-test.true c.union-item.is, c.decreases),
      (search rules, in_union (FindsSelect (g.N.Names.base_tables c.args.names.now) (g.N.Names.column_kinds c.args.names.now)) c.args.query.now unions c.loop-union.union-index u c.as_slice-union-items.ensures c.loop-union-test.true c.union-item.is c.requires.readable),
    )

pub add_of_query_term-add_of_outermost-requires : goal.add_of_query_term-add_of_outermost-requires
add_of_query_term-add_of_outermost-requires g t c = of_specification (FindsSelect (g.N.Names.base_tables c.args.names.now) (g.N.Names.column_kinds c.args.names.now)) c.args.term.now _ c.in-Specification.is c.requires.readable

pub add_of_query_term-add_of_query-requires : goal.add_of_query_term-add_of_query-requires
add_of_query_term-add_of_query-requires g t c κs within = (
  omega (arith, bracketed_smaller c.args.term.now _ c.get.result.now c.in-Bracketed.is c.get.ensures, c.decreases),
  (search rules, of_bracketed (FindsSelect (g.N.Names.base_tables c.args.names.now) (g.N.Names.column_kinds c.args.names.now)) c.args.term.now _ c.get.result.now c.in-Bracketed.is c.get.ensures c.requires.readable),
)
