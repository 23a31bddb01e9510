-- Left open for target_fault: its result; answered by laws of std.
use Rattle.std.proofs.Common.{◌<◌, length, refl, arith}
use Rattle.std.proofs.lemmas.Option.{slice_get_read}
use Rattle.sq_cause.proofs.target.target_fault.Goals as goal

pub returns-in-Some : goal.returns-in-Some
returns-in-Some c =
    let faulty = rw c.in-Some.is at c.in_ok-fault.ensures in
    let parameters = c.args.parameters.now in
    let there : c.args.target.parameter < length parameters = omega arith in
    record {
      parameter = c.index-parameters-target.result;
      at = slice_get_read parameters (length parameters) c.args.target.parameter c.index-parameters-target.result refl there c.index-parameters-target.is;
      name = refl;
      faulty = faulty;
    }
