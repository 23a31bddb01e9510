use Rattle.std.proofs.Common.{◌≡◌, drop}
use Rattle.std.specs.List.{list_any}
use Rattle.sq_change.specs.Lost.{has_reference_to, is_referred}
use Rattle.sq_change.proofs.lost.is_referred.Given as goal

abbrev pub invariant-loop-base : goal.invariant-loop-base
invariant-loop-base g l =
    is_referred (g.N.Names.base_tables l.names) l.table l.key ≡ list_any (has_reference_to l.table l.key) (drop l.base-index (g.N.Names.base_tables l.names))
