-- Left open for inserted_fault: its result; answered without a law.
use Rattle.std.proofs.Common.{refl}
use Rattle.sq_cause.proofs.value.inserted_fault.Goals as goal

pub returns-in-Some : goal.returns-in-Some
returns-in-Some g c =
    let item = rw (c.in-Some.is, c.as_slice.ensures, c.as_slice-in-Values.ensures) at c.in_ok-found-in-Values.ensures in
    record { table = c.args.insert.now.is_under; given = refl; values = c.in-Values.values; are = c.in-Values.is; item = item }
