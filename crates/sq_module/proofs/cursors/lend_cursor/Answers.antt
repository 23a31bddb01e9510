-- Left open for lend_cursor: its result; answered by Opening.
use Rattle.std.proofs.Common.{ap}
use Rattle.std.specs.Option.{option_map}
use Rattle.sq_module.specs.Named.{numbered_as}
use Rattle.sq_module.proofs.Opening.{cursor_there}
use Rattle.sq_module.proofs.cursors.lend_cursor.Goals as goal

pub returns : goal.returns
returns c = ap (option_map (numbered_as c.args.number)) (cursor_there c.args.cursors.now c.args.number c.index-cursors-number.result c.requires)
