use Rattle.std.proofs.Common.{◌≡◌, take}
use Rattle.sq_perform.specs.Texts.{texts}
use Rattle.sqmod.proofs.judged.copy_texts.Given as goal

abbrev pub invariant-loop-text : goal.invariant-loop-text
invariant-loop-text l = texts l.copy.items ≡ texts (take l.text-index l.all)
