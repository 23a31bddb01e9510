-- Left open: the clauses given and stored, and that a place is within its list; answered by Domains and InTurn.
use Rattle.std.proofs.Common.{sym, ap, ◌∙◌, slice_get}
use Rattle.std.specs.Option.{option_and_then}
use Rattle.sq_change.proofs.NewRows.Domains.{found_stored, listed_within}
use Rattle.sq_change.proofs.OneByOne.InTurn.{found_at}
use Rattle.sq_change.proofs.given.given_at.Goals as goal

pub bounds-given-listed : goal.bounds-given-listed
bounds-given-listed c = listed_within c.args.columns.now c.args.given.now c.args.place c.in_ok-listed.listed c.requires (sym c.in_ok-listed.ensures)

pub returns-clause-given : goal.returns-clause-given
returns-clause-given c =
    sym (found_at c.args.given.now c.in_ok-listed.listed c.index-given-listed.result
    (listed_within c.args.columns.now c.args.given.now c.args.place c.in_ok-listed.listed c.requires (sym c.in_ok-listed.ensures)) c.index-given-listed.is)
    ∙ ap (option_and_then (slice_get c.args.given.now)) c.in_ok-listed.ensures

pub returns-clause-stored : goal.returns-clause-stored
returns-clause-stored c =
    found_stored c.args.columns.now c.args.given.now c.args.place c.in_ok-listed.listed c.index-given-listed.result c.requires (sym c.in_ok-listed.ensures) c.index-given-listed.is
