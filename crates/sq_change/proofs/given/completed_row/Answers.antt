-- Left open: the clauses meant and in_domains of a row that is given whole; answered by WholeRows.
use Rattle.std.proofs.Common.{◌≡◌, length, arith, subst}
use Rattle.sq_change.proofs.NewRows.WholeRows.{AreInOrder, whole_in, whole_row}
use Rattle.sq_change.proofs.given.completed_row.Goals as goal

pub returns-then-are_in_order-clause-meant : goal.returns-then-are_in_order-clause-meant
returns-then-are_in_order-clause-meant g c =
    let columns = c.args.columns.now in
    let width = length c.args.table.now.columns in
    let wide : length c.args.given ≡ width = omega (arith, c.len.ensures, c.len-width.ensures, c.if-len-width.true) in
    let ordered : AreInOrder columns width = subst (AreInOrder columns) c.len-width.ensures (c.are_in_order.ensures c.if-are_in_order.true) in
    whole_row c.args.setting.now.user c.args.table.now columns c.args.given wide ordered

pub returns-then-are_in_order-clause-in_domains : goal.returns-then-are_in_order-clause-in_domains
returns-then-are_in_order-clause-in_domains g c =
    let columns = c.args.columns.now in
    let width = length c.args.table.now.columns in
    let wide : length c.args.given ≡ width = omega (arith, c.len.ensures, c.len-width.ensures, c.if-len-width.true) in
    let ordered : AreInOrder columns width = subst (AreInOrder columns) c.len-width.ensures (c.are_in_order.ensures c.if-are_in_order.true) in
    whole_in c.args.table.now columns c.args.given c.requires.columns c.requires.stored wide ordered
