-- Left open for column_named: its result, and that the loop keeps its invariant; answered by Orders.
use Rattle.std.proofs.Common.{◌≡◌, ◌+◌, sym, subst, take, ◌∙◌}
use Rattle.std.specs.Prelude.{option_to_list}
use Rattle.sq_meaning.specs.SortKeys.{columns_named}
use Rattle.sq_binder.specs.Order.{names_seen}
use Rattle.sq_binder.proofs.WholeQueries.Orders.{another, is_none, the_first, the_second}
use Rattle.sq_binder.proofs.order.column_named.Goals as goal
use Rattle.sq_binder.proofs.order.column_named.Goals.{then-is_named+else-is_some, else-is_named}

pub returns-then-is_some : goal.returns-then-is_some
returns-then-is_some c =
    sym (the_second c.args.wanted c.args.columns.now c.loop-position.position c.index-columns-position.result c.loop-position-test.true (sym c.index-columns-position.is) c.loop-position.found
    (sym c.is_named.ensures ∙ c.if-is_named.true) (sym c.is_some.ensures ∙ c.if-is_some.true) c.loop-position.invariant)

pub loop-position-preserved : goal.loop-position-preserved
loop-position-preserved c =
    let columns = c.args.columns.now in
    let wanted = c.args.wanted in
    let i = c.loop-position.position in
    let column = c.index-columns-position.result in
    let found = c.loop-position.found in
    let within = c.loop-position-test.true in
    let at = sym c.index-columns-position.is in
    elim c.if-is_named.branch [
      | then-is_named+else-is_some w ↦
          subst (λ f. columns_named wanted (names_seen (take (i + 1) columns)) ≡ option_to_list f) (sym w.found-is)
          (the_first wanted columns i column within at found (sym c.is_named.ensures ∙ w.if-is_named.true) (is_none found (sym w.is_some.ensures ∙ w.if-is_some.false)) c.loop-position.invariant)
      | else-is_named w ↦
          subst (λ f. columns_named wanted (names_seen (take (i + 1) columns)) ≡ option_to_list f) (sym w.found-is)
          (another wanted columns i column within at found (sym c.is_named.ensures ∙ w.if-is_named.false) c.loop-position.invariant)
    ]
