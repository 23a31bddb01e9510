use Rattle.std.proofs.Common.{◌≡◌, [], drop, map}
use Rattle.sq_meaning.specs.Status.{each}
use Rattle.sq_query.specs.Table.{stored_base, bases_in}
use Rattle.sq_expression.proofs.Each.{after}
use Rattle.sq_query.proofs.table.base_tables.Given as goal

-- the tables so far, and then those that are left; for no place nothing is read
abbrev pub invariant-loop-place : goal.invariant-loop-place
invariant-loop-place g l =
    let f = stored_base (g.S.Store.content_now l.store) in
    (each f l.places ≡ after (bases_in l.tables) (each f (map (λ place. place) (drop l.place-index l.places)))) × (l.places ≡ [] → l.meter ≡ l.fn.meter)
