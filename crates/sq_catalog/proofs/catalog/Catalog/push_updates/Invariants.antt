use Rattle.std.proofs.Common.{◌≡◌, ◌++◌, drop, length, map}
use Rattle.sq_catalog.specs.Exact.{declared, names_in}
use Rattle.sq_catalog.specs.Held.{grant_seen}
use Rattle.sq_catalog.proofs.CreateView.ViewHeld.{left}
use Rattle.sq_catalog.proofs.catalog.Catalog.push_updates.Given as goal

abbrev pub invariant-loop-name : goal.invariant-loop-name
invariant-loop-name l =
    let c = declared l.self in
    let underneath = names_in l.underneath in
    map grant_seen l.fn.grants ++ left c l.owner l.over underneath l.names l.shown
    ≡ map grant_seen l.grants ++ left c l.owner l.over underneath (drop (length l.yielded) l.names) (drop (length l.yielded) l.shown)
