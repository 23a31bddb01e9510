-- Left open for Catalog::grants_if_held: its result; answered by Turns.
use Rattle.std.proofs.Common.{List, map, subst}
use Rattle.sq_catalog.specs.Exact.{name_in}
use Rattle.sq_catalog.specs.Fault.{Makes}
use Rattle.sq_catalog.specs.Granting.{grants_of}
use Rattle.sq_catalog.specs.Held.{grant_seen, privilege_of}
use Rattle.sq_catalog.specs.declared.privilege.Privilege.{Privilege}
use Rattle.sq_catalog.proofs.OneByOne.Turns.{stops_then, then_makes}
use Rattle.sq_catalog.proofs.catalog.Catalog.grants_if_held.Goals as goal

pub returns-in-Ok : goal.returns-in-Ok
returns-in-Ok c =
    then_makes (map grant_seen) _ (map privilege_of c.in-Ok.privileges) (λ ps. grants_of (name_in c.args.name.now) ps c.args.statement.now) c.grants_of-grants.result c.in-Ok.ensures
    (subst (λ (ps : List Privilege). Makes (map grant_seen) (grants_of (name_in c.args.name.now) (map privilege_of ps) c.args.statement.now) c.grants_of-grants.result) c.as_slice.ensures c.grants_of-grants.ensures)

pub returns-in-Err : goal.returns-in-Err
returns-in-Err c = stops_then _ _ c.in-Err.fault c.in-Err.ensures
