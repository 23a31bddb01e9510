-- Left open for known_line: its result; answered by InnerSearch.
use Rattle.sq_query.proofs.FoundByKey.InnerSearch.{line_so, nowhere_so}
use Rattle.sq_query.proofs.inner.known_line.Goals as goal

pub returns-then-has_no_line : goal.returns-then-has_no_line
returns-then-has_no_line c = nowhere_so c.args.query.now c.args.around.now c.args.found.now c.as_slice-tables.result.now c.as_slice-tables.ensures (c.has_no_line.ensures c.if-has_no_line.true) c.new.result.items

pub returns : goal.returns
returns c =
    line_so c.args.query.now c.args.around.now c.args.found.now c.as_slice-tables.result.now c.as_slice-tables.ensures c.in_ok-only.only c.in_ok-only.ensures c.line_within.result.standing c.line_within.result.rows.items c.line_within.ensures.there c.line_within.ensures.within
