-- Left open: what the call of lend_cursor asks for, and the result; answered by Opening.
use Rattle.std.proofs.Common.{ap, length, sym, ◌∙◌}
use Rattle.std.specs.Option.{option_and_then}
use Rattle.sq_module.specs.Named.{cursor_at}
use Rattle.sq_module.proofs.Opening.{number_there}
use Rattle.sq_module.proofs.cursors.ModuleCursorsCursors.cursor.Goals as goal

pub lend_cursor-requires : goal.lend_cursor-requires
lend_cursor-requires c =
    number_there (length c.args.self.now.cursors.now) c.args.self.now.numbers.now.entries c.args.name c.in-Some.number.now c.args.self.now.there (sym c.in-Some.ensures.value)

pub returns-in-Some : goal.returns-in-Some
returns-in-Some c = sym (ap (option_and_then (cursor_at c.args.self.now.cursors.now)) (sym c.in-Some.ensures.value) ∙ c.lend_cursor.ensures)

pub returns-in-None : goal.returns-in-None
returns-in-None c = ap (option_and_then (cursor_at c.args.self.now.cursors.now)) c.in-None.ensures.value
