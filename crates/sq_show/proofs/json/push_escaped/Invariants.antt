use Rattle.std.proofs.Common.{◌≡◌, ◌++◌, flat_map, take}
use Rattle.sq_show.specs.Json.{escaped}
use Rattle.sq_show.proofs.json.push_escaped.Given as goal

abbrev pub invariant-loop-byte : goal.invariant-loop-byte
invariant-loop-byte l = l.page.items ≡ l.fn.page.items ++ flat_map escaped (take l.byte-index l.text)
