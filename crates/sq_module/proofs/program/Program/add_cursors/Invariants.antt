use Rattle.std.proofs.Common.{◌≡◌, take}
use Rattle.sq_module.specs.Added.{HasCursors}
use Rattle.sq_module.proofs.program.Program.add_cursors.Given as goal

abbrev pub invariant-loop-opener : goal.invariant-loop-opener
invariant-loop-opener l = record {
  procedures : l.self.procedures ≡ l.fn.self.procedures;
  opened : HasCursors l.catalog l.«module» l.fn.self.cursors.items (take l.opener-index l.«module».procedures.items) l.self l.numbers.entries;
}
