-- Left open: the calls of row_changed and push_lost, the clause list, and the loop's invariant; answered by Gathered, Held and LostValues.
use Rattle.std.proofs.Common.{◌∙◌, ◌++◌, [], List, ap, append-nil, sym}
use Rattle.std.specs.Prelude.{Vec}
use Rattle.std.specs.declared.alloc.Global.{Global}
use Rattle.sq_store.specs.Content.{table_at}
use Rattle.sq_store.specs.declared.change.Change.{Change}
use Rattle.sq_change.specs.Lost.{lost_if, row_changed}
use Rattle.sq_change.specs.declared.lost.LostKey.{LostKey}
use Rattle.sq_change.proofs.OneByOne.Gathered.{gathered_all, gathered_more}
use Rattle.sq_change.proofs.Changes.Held.{is_there}
use Rattle.sq_change.proofs.Keys.LostValues.{changed_has_keys}
use Rattle.sq_change.proofs.lost.lost_in.Goals as goal
use Rattle.sq_change.proofs.lost.lost_in.Goals.{in-Some+in_ok-push_lost, in_default}

pub row_changed-requires : goal.row_changed-requires
row_changed-requires g c =
    let setting = c.args.setting.now in
    let table = c.args.table.now in
    is_there (g.N.Names.base_tables setting.names.now) (g.S.Store.content_now setting.store.now) table.place table c.requires.tables c.requires.base

pub push_lost-requires-clause-columns : goal.push_lost-requires-clause-columns
push_lost-requires-clause-columns g c =
    let setting = c.args.setting.now in
    changed_has_keys (g.N.Names.base_tables setting.names.now) (g.S.Store.content_now setting.store.now) c.args.table.now c.change-item.result c.in-Some.row.now c.requires.tables c.requires.base c.in-Some.ensures

pub loop-change-preserved : goal.loop-change-preserved
loop-change-preserved g c =
    let keys = c.args.table.now.keys in
    let some = c.args.keys.now in
    let changes = c.args.changes.now in
    let t = table_at (g.S.Store.content_now c.args.setting.now.store.now) c.args.table.now.place in
    let f = λ (change : Change). lost_if keys some (row_changed t change) in
    let change = c.change-item.result in
    let done = c.loop-change.lost.items in
    let i = c.loop-change.change-index in
    let next = c.match-row_changed.lost.items in
    elim c.match-row_changed.branch [
      | in-Some+in_ok-push_lost w ↦
          gathered_more f changes [] i change change done next c.loop-change-test.true c.change-item.is c.loop-change.invariant
          (ap (λ (v : Vec LostKey Global). v.items) w.lost-is ∙ w.in_ok-push_lost.ensures.list ∙ ap (λ (ls : List LostKey). done ++ ls) (ap (lost_if keys some) (sym w.in-Some.ensures)))
      | in_default w ↦
          gathered_more f changes [] i change change done next c.loop-change-test.true c.change-item.is c.loop-change.invariant
          (ap (λ (v : Vec LostKey Global). v.items) w.lost-is ∙ sym (append-nil done) ∙ ap (λ (ls : List LostKey). done ++ ls) (ap (lost_if keys some) (sym w.in_default.ensures)))
    ]

pub returns-clause-list : goal.returns-clause-list
returns-clause-list g c =
    let t = table_at (g.S.Store.content_now c.args.setting.now.store.now) c.args.table.now.place in
    gathered_all (λ (change : Change). lost_if c.args.table.now.keys c.args.keys.now (row_changed t change)) c.args.changes.now []
    c.loop-change.change-index c.loop-change.lost.items c.loop-change-test.false c.loop-change.invariant
