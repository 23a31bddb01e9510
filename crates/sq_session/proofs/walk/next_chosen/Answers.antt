-- Left open: the call of is_chosen, the clauses first and read, and the loop's invariant; answered by Metering, QuietWalks and TableWalk.
use Rattle.std.proofs.Common.{◌∙◌, ◌+◌, Bool, ap, arith, find, sym}
use Rattle.sq_store.specs.Content.{table_at}
use Rattle.sq_store.specs.declared.table.Numbered.{Numbered}
use Rattle.sq_store.proofs.Walk.{found_behind}
use Rattle.sq_query.specs.Target.{conditions_of}
use Rattle.sq_session.specs.Walk.{is_meant, rows_between}
use Rattle.sq_session.proofs.Calls.Metering.{meter_comes, meter_passes}
use Rattle.sq_session.proofs.Walks.QuietWalks.{found_under as row_under}
use Rattle.sq_session.proofs.Walks.TableWalk.{between_end, between_next, between_past, find_first, find_later, found_positive, found_row}
use Rattle.sq_session.proofs.walk.next_chosen.Goals as goal

pub returns-then-found-mark-clause-first : goal.returns-then-found-mark-clause-first
returns-then-found-mark-clause-first g c =
    let store = c.args.store.now in
    let walk = c.args.walk.now in
    let meant : Numbered → Bool = is_meant (conditions_of walk.target.now) walk.values.now walk.user in
    let row : Numbered = record { number = c.in-Some.found; row = c.in-Some.row.now } in
    let none = sym (c.loop-found.invariant.1 ∙ ap (find meant) (between_past (g.S.Store.row_numbers store) (g.S.Store.content_now store) walk.table c.loop-found.number c.args.mark row
    (g.met.S.Store.rises store) c.in-Some.ensures.row c.if-found-mark.true)) in
    record { meant = none; within = tt; there = tt }

pub is_chosen-requires-clause-row : goal.is_chosen-requires-clause-row
is_chosen-requires-clause-row g c =
    let walk = c.args.walk.now in
    let row : Numbered = record { number = c.in-Some.found; row = c.in-Some.row.now } in
    row_under walk.target.now (table_at (g.S.Store.content_now c.args.store.now) walk.table).rows c.loop-found.number row c.requires.rows c.in-Some.ensures.row

pub returns-then-branch-clause-first : goal.returns-then-branch-clause-first
returns-then-branch-clause-first g c =
    let store = c.args.store.now in
    let walk = c.args.walk.now in
    let rows = (table_at (g.S.Store.content_now store) walk.table).rows in
    let meant : Numbered → Bool = is_meant (conditions_of walk.target.now) walk.values.now walk.user in
    let row : Numbered = record { number = c.in-Some.found; row = c.in-Some.row.now } in
    let next = between_next (g.S.Store.row_numbers store) (g.S.Store.content_now store) walk.table c.loop-found.number c.args.mark row (g.met.S.Store.rises store) c.in-Some.ensures.row c.if-found-mark.false in
    let behind = found_behind (g.S.Store.content_now store) walk.table c.loop-found.number row c.in-Some.ensures.row in
    record {
      meant = sym (c.loop-found.invariant.1 ∙ ap (find meant) next ∙ find_first meant row (rows_between (row.number + 1) c.args.mark rows) (c.in_ok-is_chosen.ensures c.in-Some.found ∙ c.if-branch.true));
      within = (omega (arith, c.loop-found.invariant.0, behind), c.if-found-mark.false);
      there = found_row (g.S.Store.content_now store) walk.table c.loop-found.number row c.in-Some.ensures.row;
    }

pub returns-clause-first : goal.returns-clause-first
returns-clause-first g c =
    let walk = c.args.walk.now in
    let meant : Numbered → Bool = is_meant (conditions_of walk.target.now) walk.values.now walk.user in
    let none = sym (c.loop-found.invariant.1 ∙ ap (find meant) (between_end (g.S.Store.content_now c.args.store.now) walk.table c.loop-found.number c.args.mark c.in_default.ensures.row)) in
    record { meant = none; within = tt; there = tt }

pub returns-then-branch-clause-read : goal.returns-then-branch-clause-read
returns-then-branch-clause-read g c =
    let store = c.args.store.now in
    let walk = c.args.walk.now in
    let row : Numbered = record { number = c.in-Some.found; row = c.in-Some.row.now } in
    let behind = found_behind (g.S.Store.content_now store) walk.table c.loop-found.number row c.in-Some.ensures.row in
    let positive = found_positive (g.S.Store.row_numbers store) (g.S.Store.content_now store) walk.table c.loop-found.number row (g.met.S.Store.rises store) c.in-Some.ensures.row in
    meter_comes _ _ _ c.args.from c.loop-found.number c.in-Some.found c.loop-found.invariant.2 c.loop-found.invariant.0 behind positive c.in-Some.ensures.metered

pub loop-found-preserved : goal.loop-found-preserved
loop-found-preserved g c =
    let store = c.args.store.now in
    let walk = c.args.walk.now in
    let rows = (table_at (g.S.Store.content_now store) walk.table).rows in
    let meant : Numbered → Bool = is_meant (conditions_of walk.target.now) walk.values.now walk.user in
    let row : Numbered = record { number = c.in-Some.found; row = c.in-Some.row.now } in
    let next = between_next (g.S.Store.row_numbers store) (g.S.Store.content_now store) walk.table c.loop-found.number c.args.mark row (g.met.S.Store.rises store) c.in-Some.ensures.row c.if-found-mark.false in
    let behind = found_behind (g.S.Store.content_now store) walk.table c.loop-found.number row c.in-Some.ensures.row in
    let positive = found_positive (g.S.Store.row_numbers store) (g.S.Store.content_now store) walk.table c.loop-found.number row (g.met.S.Store.rises store) c.in-Some.ensures.row in (
      omega (arith, c.loop-found.invariant.0, behind),
      c.loop-found.invariant.1 ∙ ap (find meant) next ∙ find_later meant row (rows_between (row.number + 1) c.args.mark rows) (c.in_ok-is_chosen.ensures c.in-Some.found ∙ c.if-branch.false),
      meter_passes _ _ _ c.args.from c.loop-found.number c.in-Some.found c.loop-found.invariant.2 behind positive c.in-Some.ensures.metered,
    )
