-- Left open for only_line: its result, and that the loop keeps its invariant; answered by KeyTests.
use Rattle.std.proofs.Common.{[], subst, sym}
use Rattle.sq_query.specs.Inner.{AreOnlyRows, IsOnlyRow}
use Rattle.sq_query.proofs.Keys.KeyTests.{if_some, zip_all, zip_more}
use Rattle.sq_query.proofs.inner.only_line.Goals as goal

pub loop-table-init : goal.loop-table-init
loop-table-init c = subst (AreOnlyRows c.args.found.now []) (sym c.new-line.ensures.items) tt

pub loop-table-preserved : goal.loop-table-preserved
loop-table-preserved c =
    let found = c.args.found.now in
    let i = c.loop-table.table-index in
    zip_more (λ t row. IsOnlyRow found t row.now) c.args.tables.now i _ c.loop-table.line.items c.push.new.self.items c.in-Some.row c.loop-table-test.true c.loop-table.invariant
    (if_some (λ row. IsOnlyRow found _ row.now) c.only_row_of.result c.in-Some.row c.only_row_of.ensures c.in-Some.is) c.in_ok-push-in-Some.ensures.items

pub returns : goal.returns
returns c = zip_all (λ t row. IsOnlyRow c.args.found.now t row.now) c.args.tables.now c.loop-table.table-index c.loop-table.line.items c.loop-table-test.false c.loop-table.invariant
