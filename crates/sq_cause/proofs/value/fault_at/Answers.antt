-- Left open for fault_at: its result; answered by laws of std.
use Rattle.std.proofs.Common.{◌<◌, length, refl, arith}
use Rattle.std.proofs.lemmas.Option.{slice_get_read}
use Rattle.sq_cause.proofs.value.fault_at.Goals as goal

pub returns-in-Some : goal.returns-in-Some
returns-in-Some g c =
    let faulty = rw c.in-Some.is at c.in_ok-fault.ensures in
    let columns = c.args.columns.now in
    let values = c.args.values.now in
    let there : c.args.item < length columns = omega arith in
    let given : c.args.item < length values = omega arith in
    record {
      column = c.index-columns-item.result;
      column_at = slice_get_read columns (length columns) c.args.item c.index-columns-item.result refl there c.index-columns-item.is;
      position = refl;
      expression = c.index-values-item.result;
      expression_at = slice_get_read values (length values) c.args.item c.index-values-item.result refl given c.index-values-item.is;
      faulty = faulty;
    }
