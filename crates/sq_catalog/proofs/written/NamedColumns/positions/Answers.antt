-- Left open: the clause exact, and that the loop keeps its invariant; answered by Listed, Turns and others.
use Rattle.std.proofs.Common.{◌≡◌, Some, ap, nat_lt, position, ◌∙◌}
use Rattle.sq_meaning.specs.Environment.{same_name}
use Rattle.sq_bound.specs.Names.{are_positions}
use Rattle.sq_binding.specs.Position.{position_of, positions_of}
use Rattle.sq_catalog.specs.Written.{column_count, names_at}
use Rattle.sq_catalog.proofs.OneByOne.Listed.{all_push, below}
use Rattle.sq_catalog.proofs.OneByOne.Turns.{done_next, done_stops, handed_on}
use Rattle.sq_catalog.proofs.CreateTable.WrittenParts.{zip_read}
use Rattle.sq_catalog.proofs.written.NamedColumns.positions.Goals as goal

pub returns-in_err-position-clause-exact : goal.returns-in_err-position-clause-exact
returns-in_err-position-clause-exact c =
    let names = names_at c.args.self.now in
    let fault = c.in_err-position.field-0.0 in
    handed_on (λ places. places) (positions_of names c.args.wanted.now) c.from_residual.result fault c.from_residual.ensures.1
    (done_stops (position_of names) c.args.wanted.now c.loop-name.name-index c.name-item.result c.loop-name.positions fault c.loop-name-test.true c.name-item.is c.loop-name.invariant.exact c.in_err-position.ensures.exact)

pub loop-name-preserved : goal.loop-name-preserved
loop-name-preserved c =
    let count = column_count c.args.self.now in
    let place = c.in_ok-position.position in
    record {
      within = ap (are_positions count) c.in_ok-push.ensures.ok ∙ all_push (λ p. nat_lt p count) c.loop-name.positions place c.loop-name.invariant.within (below place count c.in_ok-position.ensures.within);
      named =
          zip_read (λ name place. position (same_name name) (names_at c.args.self.now) ≡ Some place) c.args.wanted.now c.loop-name.name-index c.name-item.result c.loop-name.positions c.push.new.self place
          c.loop-name-test.true c.name-item.is c.in_ok-push.ensures.ok c.loop-name.invariant.named c.in_ok-position.ensures.named;
      exact =
          done_next (position_of (names_at c.args.self.now)) c.args.wanted.now c.loop-name.name-index c.name-item.result c.loop-name.positions c.push.new.self place c.loop-name-test.true c.name-item.is
          c.in_ok-push.ensures.ok c.loop-name.invariant.exact c.in_ok-position.ensures.exact;
    }
