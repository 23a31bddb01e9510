-- Left open for keys_assigned: its result, and that the loop keeps its invariant; answered by LostKeys.
use Rattle.std.proofs.Common.{ℕ, List, Vec, Global, length, get_or, sym, ap, ◌∙◌, arith}
use Rattle.sq_change.specs.Reference.{is_assigned}
use Rattle.sq_change.proofs.Keys.LostKeys.{loses_at_end, loses_more, loses_no_more}
use Rattle.sq_change.proofs.target.keys_assigned.Goals.{then-is_assigned+in_ok-push, else-is_assigned}
use Rattle.sq_change.proofs.target.keys_assigned.Goals as goal

pub loop-key-preserved : goal.loop-key-preserved
loop-key-preserved c =
    let keys : List (List ℕ) = c.args.table.now.keys in
    let assignments = c.args.assignments.now in
    let lost : List ℕ = c.loop-key.keys.items in
    let key : ℕ = c.loop-key.key in
    let columns : List ℕ = c.columns-item.result in
    elim c.if-is_assigned.branch [
      | then-is_assigned+in_ok-push w ↦ loses_more keys assignments lost key c.loop-key.invariant c.if-is_assigned.keys.items (ap (λ (v : Vec ℕ Global). v.items) w.keys-is ∙ w.in_ok-push.ensures.items)
      | else-is_assigned w ↦ loses_no_more keys assignments lost key c.loop-key.invariant c.if-is_assigned.keys.items (ap (λ (v : Vec ℕ Global). v.items) w.keys-is) columns
          (c.columns-item.is ∙ ap (λ (ks : List (List ℕ)). get_or ks key columns) c.as_slice-columns-items.ensures)
          (ap (λ (cs : List ℕ). is_assigned cs assignments) (sym c.as_slice.ensures) ∙ sym c.is_assigned.ensures ∙ w.if-is_assigned.false)
    ]

pub returns : goal.returns
returns c = record {
  lost = loses_at_end c.args.table.now.keys c.args.assignments.now c.loop-key.keys.items c.loop-key.key c.loop-key.invariant
      (omega (arith, ap (λ (ks : List (List ℕ)). length ks) c.as_slice-columns-items.ensures));
}
