-- Left open for common_columns: its result; answered by Finds, Commons and Turns.
use Rattle.std.proofs.Common.{◌≡◌, Ok, arith, length, map, sym, subst}
use Rattle.std.specs.List.{zip}
use Rattle.sq_binding.specs.QueryExpression.{common_columns}
use Rattle.sq_binding.specs.Seen.{column_of}
use Rattle.sq_binder.specs.Found.{Finds, counts_of}
use Rattle.sq_binder.proofs.OneByOne.Finds.{stop_found}
use Rattle.sq_binder.specs.InTurn.{in_turn}
use Rattle.sq_binder.specs.Query.{column_in_common, sides_seen}
use Rattle.sq_binder.proofs.WholeQueries.Commons.{common_is}
use Rattle.sq_binder.proofs.OneByOne.Turns.{found_alone, stops_alone}
use Rattle.sq_binder.proofs.common.common_columns.Goals as goal

pub returns-in_err-columns : goal.returns-in_err-columns
returns-in_err-columns c =
    let left = c.args.left.now in
    let right = c.args.right.now in
    let stop = c.in_err-columns.field-0.0 in
    let e : length left ≡ length right = omega (arith, c.if-left-right.false) in
    let both = common_columns (map column_of left) (map column_of right) in
    stop_found (map column_of) both c.args.before c.from_residual.result stop c.from_residual.ensures.1
    (stops_alone (map column_of) both (in_turn column_in_common (map sides_seen (zip left right))) c.args.before stop (common_is left right (counts_of c.args.before) e) c.in_err-columns.ensures)

pub returns : goal.returns
returns c =
    let left = c.args.left.now in
    let right = c.args.right.now in
    let e : length left ≡ length right = omega (arith, c.if-left-right.false) in
    let both = common_columns (map column_of left) (map column_of right) in
    subst (λ found. Finds (map column_of) both c.args.before (Ok found)) (sym c.bring_nothing.ensures)
    (found_alone (map column_of) both (in_turn column_in_common (map sides_seen (zip left right))) c.args.before c.in_ok-columns.columns (common_is left right (counts_of c.args.before) e) c.in_ok-columns.ensures)
