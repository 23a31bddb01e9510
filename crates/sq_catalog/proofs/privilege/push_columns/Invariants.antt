use Rattle.std.proofs.Common.{◌≡◌, ◌++◌, map, take}
use Rattle.sq_catalog.specs.Held.{privilege_of, privilege_on}
use Rattle.sq_catalog.proofs.privilege.push_columns.Given as goal

abbrev pub invariant-loop-column : goal.invariant-loop-column
invariant-loop-column l = map privilege_of l.privileges ≡ map privilege_of l.fn.privileges ++ map (privilege_on l.action) (take l.column-index l.columns)
