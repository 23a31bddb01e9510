-- Left open: the call of add_of_view, the clauses known and closed, and the loop's invariant; answered by Added and NeededViews.
use Rattle.std.proofs.Common.{◌≡◌, ◌∙◌, ◌+◌, ◌-◌, ◌<◌, arith, ap, sym, subst}
use Rattle.std.specs.List.{list_any}
use Rattle.sq_bound.specs.declared.condition.TablePlace.TheVariants.{View}
use Rattle.sq_query.specs.declared.needed.Needed.{Needed}
use Rattle.sq_query.proofs.Needs.Added.{is}
use Rattle.sq_query.proofs.Needs.NeededViews.{GoesOn, goes_on_with, goes_on_without, goes_to_end}
use Rattle.sq_query.proofs.needed.Needed.add_of_views.Goals as goal
use Rattle.sq_query.proofs.needed.Needed.add_of_views.Goals.{then-is_among+in_ok-add_of_view, else-is_among}

pub add_of_view-requires-clause-known : goal.add_of_view-requires-clause-known
add_of_view-requires-clause-known g c =
    c.loop-behind.invariant.known (View (c.last_view-last.result - c.loop-behind.behind)) (ap (list_any (is (c.last_view-last.result - c.loop-behind.behind))) (sym c.as_slice.ensures.value) ∙ sym c.is_among.ensures ∙ c.if-is_among.true)

pub loop-behind-preserved : goal.loop-behind-preserved
loop-behind-preserved g c =
    let columns = g.N.Names.column_kinds c.args.names.now in
    let queries = g.N.Names.view_queries c.args.names.now in
    let old = c.args.self.now in
    let last = c.last_view-last.result in
    let behind = c.loop-behind.behind in
    let place = last - behind in
    let at : place + behind ≡ last = omega arith in
    let among = ap (list_any (is place)) (sym c.as_slice.ensures.value) ∙ sym c.is_among.ensures in
    elim c.if-is_among.branch [
      | then-is_among+in_ok-add_of_view w ↦
          let added = w.in_ok-add_of_view.ensures in
          subst (λ (n : Needed). GoesOn columns queries old n last (behind + 1)) (sym w.self-is)
          (goes_on_with columns queries old last c.loop-behind.self w.add_of_view.new.self behind place at (among ∙ w.if-is_among.true)
          added.more (added.known c.loop-behind.invariant.known) added.earlier added.closed c.loop-behind.invariant)
      | else-is_among w ↦
          subst (λ (n : Needed). GoesOn columns queries old n last (behind + 1)) (sym w.self-is)
          (goes_on_without columns queries old last c.loop-behind.self behind place at (among ∙ w.if-is_among.false) c.loop-behind.invariant)
    ]

pub returns-after-is_among-clause-known : goal.returns-after-is_among-clause-known
returns-after-is_among-clause-known g c =
    let columns = g.N.Names.column_kinds c.args.names.now in
    let queries = g.N.Names.view_queries c.args.names.now in
    let old = c.args.self.now in
    let last = c.last_view-last.result in
    let behind = c.loop-behind.behind in
    let place = last - behind in
    let at : place + behind ≡ last = omega arith in
    let among = ap (list_any (is place)) (sym c.as_slice.ensures.value) ∙ sym c.is_among.ensures in
    let so_far : GoesOn columns queries old c.if-is_among.self last (behind + 1) = elim c.if-is_among.branch [
      | then-is_among+in_ok-add_of_view w ↦
          let added = w.in_ok-add_of_view.ensures in
          subst (λ (n : Needed). GoesOn columns queries old n last (behind + 1)) (sym w.self-is)
          (goes_on_with columns queries old last c.loop-behind.self w.add_of_view.new.self behind place at (among ∙ w.if-is_among.true)
          added.more (added.known c.loop-behind.invariant.known) added.earlier added.closed c.loop-behind.invariant)
      | else-is_among w ↦
          subst (λ (n : Needed). GoesOn columns queries old n last (behind + 1)) (sym w.self-is)
          (goes_on_without columns queries old last c.loop-behind.self behind place at (among ∙ w.if-is_among.false) c.loop-behind.invariant)
    ] in
    so_far.known

pub returns-after-is_among-clause-closed : goal.returns-after-is_among-clause-closed
returns-after-is_among-clause-closed g c =
    let columns = g.N.Names.column_kinds c.args.names.now in
    let queries = g.N.Names.view_queries c.args.names.now in
    let old = c.args.self.now in
    let last = c.last_view-last.result in
    let behind = c.loop-behind.behind in
    let place = last - behind in
    let at : place + behind ≡ last = omega arith in
    let among = ap (list_any (is place)) (sym c.as_slice.ensures.value) ∙ sym c.is_among.ensures in
    let so_far : GoesOn columns queries old c.if-is_among.self last (behind + 1) = elim c.if-is_among.branch [
      | then-is_among+in_ok-add_of_view w ↦
          let added = w.in_ok-add_of_view.ensures in
          subst (λ (n : Needed). GoesOn columns queries old n last (behind + 1)) (sym w.self-is)
          (goes_on_with columns queries old last c.loop-behind.self w.add_of_view.new.self behind place at (among ∙ w.if-is_among.true)
          added.more (added.known c.loop-behind.invariant.known) added.earlier added.closed c.loop-behind.invariant)
      | else-is_among w ↦
          subst (λ (n : Needed). GoesOn columns queries old n last (behind + 1)) (sym w.self-is)
          (goes_on_without columns queries old last c.loop-behind.self behind place at (among ∙ w.if-is_among.false) c.loop-behind.invariant)
    ] in
    let past : last < behind + 1 = omega arith in
    goes_to_end columns queries old last c.if-is_among.self (behind + 1) past so_far
