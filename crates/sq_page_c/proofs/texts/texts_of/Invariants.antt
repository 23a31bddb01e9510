use Rattle.std.proofs.Common.{◌≡◌, ◌++◌, drop}
use Rattle.sq_page_c.specs.Texts.{pieces}
use Rattle.sq_run.specs.Texts.{texts}
use Rattle.sq_page_c.proofs.texts.texts_of.Given as goal

-- the texts so far, and the texts of the rest, make all
abbrev pub invariant-loop-length : goal.invariant-loop-length
invariant-loop-length l = texts l.found.items ++ pieces (drop l.length-index l.lengths) l.left ≡ pieces l.lengths l.bytes
