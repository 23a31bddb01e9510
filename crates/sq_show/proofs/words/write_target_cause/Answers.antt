-- Left open for write_target_cause: its result; answered by Worded.
use Rattle.sq_show.proofs.Worded.{behind}
use Rattle.sq_show.proofs.words.write_target_cause.Goals as goal

pub returns : goal.returns
returns c =
    behind c.write_target_fault.result c.args.cause c.args.words.now.items c.write_parameter.new.words.items c.write_target_fault.new.words.items c.in_ok-write_parameter.ensures c.write_target_fault.ensures
