-- Left open for numbers: its result; answered by Chosen.
use Rattle.std.proofs.Common.{ℕ, List, ap, Ok}
use Rattle.sq_meaning.specs.Status.{Outcome}
use Rattle.sq_query.proofs.Targets.Chosen.{all_numbers}
use Rattle.sq_query.proofs.meant.numbers.Goals as goal

pub returns : goal.returns
returns c =
    ap (λ (ns : List ℕ). let o : Outcome (List ℕ) = Ok ns in o)
    (all_numbers c.loop-found.numbers.items c.args.rows.now c.loop-found.found-index c.loop-found-test.false c.loop-found.invariant)
