-- Left open: the call of view_at, the clause meant, and the loop's invariant; answered by Added and others.
use Rattle.std.proofs.Common.{◌∙◌, ◌+◌, ◌<◌, arith, true≢false, Vec, ap, sym, subst}
use Rattle.std.specs.List.{list_any}
use Rattle.std.specs.declared.alloc.Global.{Global}
use Rattle.sq_bound.specs.declared.condition.TablePlace.TheVariants.{View}
use Rattle.sq_query.specs.Needed.{IsNeeded}
use Rattle.sq_expression.specs.declared.table.ViewRows.{ViewRows}
use Rattle.sq_query.proofs.Needs.Added.{is}
use Rattle.sq_query.proofs.Needs.ReadTables.{AreBelow, ReadBelow, all_read_by, below_more, below_with, place_read, read_skipped}
use Rattle.sq_query.proofs.view.view_tables.Goals as goal
use Rattle.sq_query.proofs.view.view_tables.Goals.{else-loop-place-test, then-loop-place-test+else-place-place-end, then-is_among+in_ok-view_rows+in_ok-push, else-is_among}

pub view_at-view-requires-clause-known : goal.view_at-view-requires-clause-known
view_at-view-requires-clause-known g c = c.requires.known (View c.loop-place.place) (ap (list_any (is c.loop-place.place)) (sym c.as_slice.ensures.value) ∙ sym c.is_among.ensures ∙ c.if-is_among.true)

pub loop-place-preserved : goal.loop-place-preserved
loop-place-preserved g c =
    let columns = g.N.Names.column_kinds c.args.names.now in
    let queries = g.N.Names.view_queries c.args.names.now in
    let needed = c.args.needed.now in
    let bases = c.args.bases.now in
    let place = c.loop-place.place in
    let views = c.loop-place.views.items in
    elim c.if-is_among.branch [
      | then-is_among+in_ok-view_rows+in_ok-push w ↦
          let v = w.in_ok-view_rows.field-0 in
          let items = ap (λ (v : Vec ViewRows Global). v.items) w.views-is ∙ w.in_ok-push.ensures.items in
          let here : IsNeeded needed (View place) = ap (list_any (is place)) (sym c.as_slice.ensures.value) ∙ sym c.is_among.ensures ∙ w.if-is_among.true in (
            subst (AreBelow (place + 1)) (sym items) (below_with place views v c.loop-place.invariant.0 w.in_ok-view_rows.ensures.place),
            λ tables can are. subst (ReadBelow needed bases tables (place + 1)) (sym items)
                (place_read columns queries c.args.user needed tables can bases are views w.as_slice-then-is_among.result.now place w.view_at-view.result.now v w.as_slice-then-is_among.ensures.value w.view_at-view.ensures.is w.view_at-view.ensures.among here
                c.loop-place.invariant.0 w.in_ok-view_rows.ensures.place (w.in_ok-view_rows.ensures.meant tables w.view_at-view.ensures.is.0.notes w.view_at-view.ensures.is.0.numbers) (c.loop-place.invariant.1 tables can are)),
          )
      | else-is_among w ↦
          let items = ap (λ (v : Vec ViewRows Global). v.items) w.views-is in (
            subst (AreBelow (place + 1)) (sym items) (below_more place views c.loop-place.invariant.0),
            λ tables can are. subst (ReadBelow needed bases tables (place + 1)) (sym items)
                (read_skipped needed bases tables place views (c.loop-place.invariant.1 tables can are)
                (λ here. absurd (true≢false (sym here ∙ ap (list_any (is place)) (sym c.as_slice.ensures.value) ∙ sym c.is_among.ensures ∙ w.if-is_among.false)))),
          )
    ]

pub returns-clause-meant : goal.returns-clause-meant
returns-clause-meant g c = λ tables can are.
    let columns = g.N.Names.column_kinds c.args.names.now in
    let queries = g.N.Names.view_queries c.args.names.now in
    let needed = c.args.needed.now in
    let bases = c.args.bases.now in
    let place = c.loop-place.place in
    let views = c.loop-place.views.items in
    let last = c.last_view-place-end.result in
    let ends = c.last_view-place-end.ensures in
    elim c.loop-place-test.branch [
      | else-loop-place-test w ↦
          let past : last < place = omega arith in
          let items = ap (λ (v : Vec ViewRows Global). v.items) w.views-is in
          all_read_by columns queries c.args.user needed tables can bases are _ last place ends past (subst (ReadBelow needed bases tables place) (sym items) (c.loop-place.invariant.1 tables can are))
      | then-loop-place-test+else-place-place-end u ↦
          let past : last < place + 1 = omega arith in
          let seen = ap (λ (v : Vec ViewRows Global). v.items) u.views-is in
          all_read_by columns queries c.args.user needed tables can bases are _ last (place + 1) ends past (subst (ReadBelow needed bases tables (place + 1)) (sym seen)
          (elim u.if-is_among.branch [
            | then-is_among+in_ok-view_rows+in_ok-push w ↦
                let v = w.in_ok-view_rows.field-0 in
                let items = ap (λ (v : Vec ViewRows Global). v.items) w.views-is ∙ w.in_ok-push.ensures.items in
                let here : IsNeeded needed (View place) = ap (list_any (is place)) (sym u.as_slice.ensures.value) ∙ sym u.is_among.ensures ∙ w.if-is_among.true in
                subst (ReadBelow needed bases tables (place + 1)) (sym items) (place_read columns queries c.args.user needed tables can bases are views w.as_slice-then-is_among.result.now place w.view_at-view.result.now v w.as_slice-then-is_among.ensures.value w.view_at-view.ensures.is w.view_at-view.ensures.among here
                c.loop-place.invariant.0 w.in_ok-view_rows.ensures.place (w.in_ok-view_rows.ensures.meant tables w.view_at-view.ensures.is.0.notes w.view_at-view.ensures.is.0.numbers) (c.loop-place.invariant.1 tables can are))
            | else-is_among w ↦
                let items = ap (λ (v : Vec ViewRows Global). v.items) w.views-is in
                subst (ReadBelow needed bases tables (place + 1)) (sym items) (read_skipped needed bases tables place views (c.loop-place.invariant.1 tables can are)
                (λ here. absurd (true≢false (sym here ∙ ap (list_any (is place)) (sym u.as_slice.ensures.value) ∙ sym u.is_among.ensures ∙ w.if-is_among.false))))
          ]))
    ]
