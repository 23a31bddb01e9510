-- Left open for actions_by_parts: that the loop keeps its invariant; answered by AskedParts.
use Rattle.std.proofs.Common.{rules, arith, refl, inl}
use Rattle.std.proofs.lemmas.List.Elements.{All-nil}
use Rattle.sq_perform.specs.Steps.{IsPrepared}
use Rattle.sq_perform.proofs.AskedParts.{none_asked, part_added, rest_of, size_of}
use Rattle.sq_perform.proofs.long_script.actions_by_parts.Goals as goal

pub loop-at-init : goal.loop-at-init
loop-at-init g c = rw c.new-actions.ensures.items
    (record {
      asked = none_asked c.args.session.now;
      prepared = All-nil (IsPrepared c.args.session.now);
      lines = λ h. inl refl;
      within = omega arith;
    })

pub loop-at-preserved : goal.loop-at-preserved
loop-at-preserved g c =
    let before = c.loop-at.invariant in
    let lt = c.loop-at-test.true in
    let more = part_added c.args.session.now c.args.script.now _ _ c.loop-at.at c.part_size-size.result c.loop-at.actions.items c.add_part.new.actions.items _ lt
    c.part_size-size.ensures.within c.part_size-size.ensures.lines (before.lines lt) before.asked before.prepared c.in_ok-add_part.ensures c.if-not-branch.false
    (search (rules, rest_of)) (search (rules, size_of)) in
    record {
      asked = more.asked;
      prepared = more.prepared;
      lines = more.lines;
      within = more.within;
    }
