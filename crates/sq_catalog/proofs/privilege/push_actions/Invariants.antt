use Rattle.std.proofs.Common.{◌≡◌, ◌++◌, flat_map, map, take}
use Rattle.sq_meaning.specs.SchemaRefusal.{action_privileges}
use Rattle.sq_catalog.specs.Held.{privilege_of}
use Rattle.sq_catalog.proofs.privilege.push_actions.Given as goal

abbrev pub invariant-loop-action : goal.invariant-loop-action
invariant-loop-action l = map privilege_of l.privileges ≡ map privilege_of l.fn.privileges ++ flat_map (action_privileges l.columns) (take l.action-index l.actions)
