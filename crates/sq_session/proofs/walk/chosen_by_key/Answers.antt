-- Left open: the call of is_chosen, and the clauses first and read; answered by KeyedWalk and Metering.
use Rattle.std.proofs.Common.{arith, sym}
use Rattle.sq_catalog.specs.Catalog.{column_kinds}
use Rattle.sq_meaning.specs.WellFormed.{IsRowOf}
use Rattle.sq_bound.specs.WellFormed.{base_kinds}
use Rattle.sq_store.specs.Keys.{key_at}
use Rattle.sq_store.specs.declared.table.Numbered.{Numbered}
use Rattle.sq_session.proofs.Walks.KeyedWalk.{first_by_key, is_before, is_from, keyed_there, keyed_under, not_before, not_from}
use Rattle.sq_session.proofs.Calls.Metering.{meter_comes}
use Rattle.sq_session.proofs.walk.chosen_by_key.Goals as goal

pub returns-in_default-clause-first : goal.returns-in_default-clause-first
returns-in_default-clause-first g c =
    let walk = c.args.walk.now in
    let store = c.args.store.now in
    let law =
    first_by_key (column_kinds walk.catalog.now) walk.catalog.now.bases (g.S.Store.content_now store) (g.S.Store.key_columns store) walk.target.now walk.values.now walk.user c.args.known.now c.requires.key c.requires.quiet c.requires.base
    c.requires.tables.keys c.requires.tables.not_null c.requires.rows (g.met.S.Store.keyed store) c.args.from c.args.mark in
    record { meant = sym (rw c.in_default.ensures.row at law); within = tt; there = tt }

pub returns-then-number-from-clause-first : goal.returns-then-number-from-clause-first
returns-then-number-from-clause-first g c =
    let walk = c.args.walk.now in
    let store = c.args.store.now in
    let law =
    first_by_key (column_kinds walk.catalog.now) walk.catalog.now.bases (g.S.Store.content_now store) (g.S.Store.key_columns store) walk.target.now walk.values.now walk.user c.args.known.now c.requires.key c.requires.quiet c.requires.base
    c.requires.tables.keys c.requires.tables.not_null c.requires.rows (g.met.S.Store.keyed store) c.args.from c.args.mark in
    let none = sym (rw (c.in-Some.ensures.row, not_from c.args.from c.in-Some.number c.if-number-from.true) at law) in
    record { meant = none; within = tt; there = tt }

pub returns-then-number-mark-clause-first : goal.returns-then-number-mark-clause-first
returns-then-number-mark-clause-first g c =
    let walk = c.args.walk.now in
    let store = c.args.store.now in
    let law =
    first_by_key (column_kinds walk.catalog.now) walk.catalog.now.bases (g.S.Store.content_now store) (g.S.Store.key_columns store) walk.target.now walk.values.now walk.user c.args.known.now c.requires.key c.requires.quiet c.requires.base
    c.requires.tables.keys c.requires.tables.not_null c.requires.rows (g.met.S.Store.keyed store) c.args.from c.args.mark in
    let none = sym (rw (c.in-Some.ensures.row, is_from c.args.from c.in-Some.number c.if-number-from.false, not_before c.in-Some.number c.args.mark c.if-number-mark.true) at law) in
    record { meant = none; within = tt; there = tt }

pub is_chosen-requires-clause-row : goal.is_chosen-requires-clause-row
is_chosen-requires-clause-row g c =
    let store = c.args.store.now in
    let t = c.args.walk.now.target.now in
    let known = c.args.known.now in
    let row : Numbered = record { number = c.in-Some.number; row = c.in-Some.row.now } in
    keyed_under t (g.S.Store.content_now store) (key_at (g.S.Store.key_columns store) t.base known.key) known.values row (λ (s : Numbered). IsRowOf (base_kinds t.leaf.table) s.row) c.requires.rows c.in-Some.ensures.row

pub returns-then-branch-clause-first : goal.returns-then-branch-clause-first
returns-then-branch-clause-first g c =
    let walk = c.args.walk.now in
    let store = c.args.store.now in
    let law =
    first_by_key (column_kinds walk.catalog.now) walk.catalog.now.bases (g.S.Store.content_now store) (g.S.Store.key_columns store) walk.target.now walk.values.now walk.user c.args.known.now c.requires.key c.requires.quiet c.requires.base
    c.requires.tables.keys c.requires.tables.not_null c.requires.rows (g.met.S.Store.keyed store) c.args.from c.args.mark in
    let meant = sym (rw (c.in-Some.ensures.row, is_from c.args.from c.in-Some.number c.if-number-from.false, is_before c.in-Some.number c.args.mark c.if-number-mark.false, c.in_ok-is_chosen.ensures c.in-Some.number, c.if-branch.true) at law) in
    let t = walk.target.now in
    let known = c.args.known.now in
    let row : Numbered = record { number = c.in-Some.number; row = c.in-Some.row.now } in
    let there = (keyed_there (g.S.Store.row_numbers store) (g.S.Store.content_now store) t.base (key_at (g.S.Store.key_columns store) t.base known.key) known.values row (g.met.S.Store.rises store) c.in-Some.ensures.row).1 in
    record { meant = meant; within = (c.if-number-from.false, c.if-number-mark.false); there = there }

pub returns-else-branch-clause-first : goal.returns-else-branch-clause-first
returns-else-branch-clause-first g c =
    let walk = c.args.walk.now in
    let store = c.args.store.now in
    let law =
    first_by_key (column_kinds walk.catalog.now) walk.catalog.now.bases (g.S.Store.content_now store) (g.S.Store.key_columns store) walk.target.now walk.values.now walk.user c.args.known.now c.requires.key c.requires.quiet c.requires.base
    c.requires.tables.keys c.requires.tables.not_null c.requires.rows (g.met.S.Store.keyed store) c.args.from c.args.mark in
    let none = sym (rw (c.in-Some.ensures.row, is_from c.args.from c.in-Some.number c.if-number-from.false, is_before c.in-Some.number c.args.mark c.if-number-mark.false, c.in_ok-is_chosen.ensures c.in-Some.number, c.if-branch.false) at law) in
    record { meant = none; within = tt; there = tt }

pub returns-then-branch-clause-read : goal.returns-then-branch-clause-read
returns-then-branch-clause-read g c =
    let store = c.args.store.now in
    let t = c.args.walk.now.target.now in
    let known = c.args.known.now in
    let row : Numbered = record { number = c.in-Some.number; row = c.in-Some.row.now } in
    let positive = (keyed_there (g.S.Store.row_numbers store) (g.S.Store.content_now store) t.base (key_at (g.S.Store.key_columns store) t.base known.key) known.values row (g.met.S.Store.rises store) c.in-Some.ensures.row).0 in
    meter_comes c.args.meter.now c.args.meter.now c.find_key.new.meter c.args.from c.args.from c.in-Some.number (omega arith) (omega arith) c.if-number-from.false positive c.in-Some.ensures.metered
