-- Left open: the clause exact, and that the loop keeps its invariant; answered by Listed and others.
use Rattle.std.proofs.Common.{◌≡◌, Some, None, ap, length, nat_lt, position, sym, ◌∙◌}
use Rattle.sq_lex.specs.declared.name.Name.{Name}
use Rattle.sq_meaning.specs.Environment.{same_name}
use Rattle.sq_bound.specs.Names.{are_positions}
use Rattle.sq_bound.specs.declared.names.Column.{Column}
use Rattle.sq_meaning.specs.declared.refusal.SchemaFault.TheVariants as refusal
use Rattle.sq_binding.specs.ElementOutcome.{or_fault}
use Rattle.sq_binding.specs.Position.{position_of}
use Rattle.sq_catalog.specs.Exact.{names_in}
use Rattle.sq_catalog.specs.declared.fault.ElementFault.TheVariants.{Refused}
use Rattle.sq_catalog.proofs.OneByOne.Listed.{all_push, below}
use Rattle.sq_catalog.proofs.CreateTable.References.{position_map}
use Rattle.sq_catalog.proofs.OneByOne.Turns.{done_next, done_stops}
use Rattle.sq_catalog.proofs.CreateTable.WrittenParts.{zip_read}
use Rattle.sq_catalog.proofs.reference.positions_of.Goals as goal

pub returns-in-None-clause-exact : goal.returns-in-None-clause-exact
returns-in-None-clause-exact c =
    let columns = c.args.table.now.columns in
    let names = names_in columns in
    let none : position (same_name c.name-item.result) names ≡ None = position_map (λ (x : Column). x.name) (same_name c.name-item.result) columns ∙ sym c.in-None.ensures.first in
    done_stops (position_of names) c.args.names.now c.loop-name.name-index c.name-item.result c.loop-name.positions (Refused refusal.UnknownName) c.loop-name-test.true c.name-item.is c.loop-name.invariant.exact
    (ap (or_fault refusal.UnknownName) none)

pub loop-name-preserved : goal.loop-name-preserved
loop-name-preserved c =
    let columns = c.args.table.now.columns in
    let names = names_in columns in
    let place = c.in-Some.position in
    let named : position (same_name c.name-item.result) names ≡ Some place = position_map (λ (x : Column). x.name) (same_name c.name-item.result) columns ∙ sym c.in-Some.ensures.first in
    record {
      within = ap (are_positions (length columns)) c.in_ok-push-in-Some.ensures.ok
          ∙ all_push (λ p. nat_lt p (length columns)) c.loop-name.positions place c.loop-name.invariant.within (below place (length columns) c.in-Some.ensures.there);
      named =
          zip_read (λ (name : Name) place. position (same_name name) names ≡ Some place) c.args.names.now c.loop-name.name-index c.name-item.result c.loop-name.positions c.push.new.self place
          c.loop-name-test.true c.name-item.is c.in_ok-push-in-Some.ensures.ok c.loop-name.invariant.named named;
      exact =
          done_next (position_of names) c.args.names.now c.loop-name.name-index c.name-item.result c.loop-name.positions c.push.new.self place c.loop-name-test.true c.name-item.is c.in_ok-push-in-Some.ensures.ok
          c.loop-name.invariant.exact (ap (or_fault refusal.UnknownName) named);
    }
