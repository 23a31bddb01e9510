-- Left open for fault_of_value: its result; answered by laws of std.
use Rattle.std.proofs.Common.{◌<◌, length, refl, arith}
use Rattle.std.proofs.lemmas.Option.{slice_get_read}
use Rattle.sq_cause.proofs.query_value.fault_of_value.Goals as goal

pub returns-in-Some : goal.returns-in-Some
returns-in-Some c =
    let unfit = rw c.in-Some.is at c.in_ok-status.ensures in
    let columns = c.args.columns.now in
    let there : c.args.item < length columns = omega arith in
    record {
      same = refl;
      column = c.index-columns-item.result;
      column_at = slice_get_read columns (length columns) c.args.item c.index-columns-item.result refl there c.index-columns-item.is;
      position = refl;
      status = c.in-Some.status;
      unfit = unfit;
      fault_is = refl;
    }
