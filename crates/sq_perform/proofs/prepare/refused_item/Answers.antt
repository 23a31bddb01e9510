-- Left open: what the call of refused_again asks for, and the result; answered by Taken and Spelled.
use Rattle.sq_tree.specs.Script.{script_tokens}
use Rattle.sq_perform.proofs.Taken.{of_item}
use Rattle.sq_perform.proofs.Spelled.{read_of}
use Rattle.sq_perform.proofs.prepare.refused_item.Goals as goal

pub refused_again-requires : goal.refused_again-requires
refused_again-requires c = read_of c.args.script.now (script_tokens c.args.tree.now) c.requires.spelled.spelled

pub returns-in-Refused : goal.returns-in-Refused
returns-in-Refused c =
    rw c.in-Refused.is
    (of_item c.args.script.now c.args.tree.now c.args.place c.script_item_start.result c.in-Refused.what c.refused_again.result c.requires.spelled.spelled c.requires.there
    c.script_item_start.ensures c.refused_again.ensures.what c.refused_again.ensures.placed)
