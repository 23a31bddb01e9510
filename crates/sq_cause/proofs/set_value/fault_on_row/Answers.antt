-- Left open for fault_on_row: its result; answered by laws of std.
use Rattle.std.proofs.Common.{length, refl}
use Rattle.std.proofs.lemmas.Option.{slice_get_read}
use Rattle.sq_cause.proofs.set_value.fault_on_row.Goals as goal

pub returns-in-Some : goal.returns-in-Some
returns-in-Some g c =
    let faulty = rw c.in-Some.is at c.in_ok-fault.ensures in
    let assignments = c.args.assignments.now in
    record {
      assignment = c.index-assignments-item.result;
      at = slice_get_read assignments (length assignments) c.loop-item.item c.index-assignments-item.result refl c.loop-item-test.true c.index-assignments-item.is;
      position = refl;
      faulty = faulty;
    }
