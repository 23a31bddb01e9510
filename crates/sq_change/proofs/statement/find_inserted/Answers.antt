-- Left open: the call of numbers_left, and the clauses made and changes; answered by Applied and others.
use Rattle.std.proofs.Common.{◌≡◌, ◌+◌, ◌-◌, ◌<◌, ◌≤◌, ◌∙◌, Ok, length, arith, ap, subst, sym}
use Rattle.sq_store.specs.Change.{rows_put}
use Rattle.sq_store.specs.Content.{table_at}
use Rattle.sq_bound.specs.declared.names.BaseTable.{BaseTable}
use Rattle.sq_bound.specs.declared.names.Leaf.{Leaf}
use Rattle.sq_change.specs.Changed.{FitTable}
use Rattle.sq_change.specs.Made.{rows_made, seen_by}
use Rattle.sq_change.proofs.Changes.Applied.{fewer_inserted}
use Rattle.sq_change.proofs.NewRows.GivenRows.{few_rows, inserted_are, inserted_none, many_rows}
use Rattle.sq_change.proofs.Changes.Held.{is_there}
use Rattle.sq_change.proofs.Keys.KeptKeys.{insertions_keep, insertions_put}
use Rattle.sq_change.proofs.statement.find_inserted.Goals as goal

pub returns-clause-made : goal.returns-clause-made
returns-clause-made g c = λ shown is.
    let setting = c.args.setting.now in
    let insert = c.args.insert.now in
    let content = g.S.Store.content_now setting.store.now in
    let greatest = g.S.Store.row_numbers setting.store.now in
    let seen = seen_by (g.N.Names.view_queries setting.names.now) content setting.user setting.parameters.now in
    let changes = c.in_ok-changes.changes.items in
    let next = (table_at content insert.leaf.table.place).next in
    let table : c.get-table.result.now ≡ insert.leaf.table = c.get-table.ensures ∙ ap (λ (l : Leaf). l.table) c.get.ensures in
    let left : c.numbers_left.result ≡ greatest + 1 - next
    = subst (λ (t : BaseTable). c.numbers_left.result ≡ greatest + 1 - (table_at content t.place).next) table c.numbers_left.ensures in
    let some : 0 < length changes = omega (arith, c.in_ok-changes.ensures.some, c.in_ok-changes.changes.ok) in
    let few : length changes ≤ greatest + 1 - next = omega (arith, left, c.len.ensures, c.if-len-numbers_left.false) in
    inserted_are shown seen greatest insert (rows_put changes)
    (subst (λ (t : BaseTable). rows_made shown seen t insert.columns insert.source ≡ Ok (rows_put changes)) table (c.in_ok-changes.ensures.made shown is))
    (few_rows greatest next changes c.in_ok-changes.ensures.insertions some few)

pub returns-then-len-numbers_left-clause-made : goal.returns-then-len-numbers_left-clause-made
returns-then-len-numbers_left-clause-made g c = λ shown is.
    let setting = c.args.setting.now in
    let insert = c.args.insert.now in
    let content = g.S.Store.content_now setting.store.now in
    let greatest = g.S.Store.row_numbers setting.store.now in
    let seen = seen_by (g.N.Names.view_queries setting.names.now) content setting.user setting.parameters.now in
    let changes = c.in_ok-changes.changes.items in
    let next = (table_at content insert.leaf.table.place).next in
    let table : c.get-table.result.now ≡ insert.leaf.table = c.get-table.ensures ∙ ap (λ (l : Leaf). l.table) c.get.ensures in
    let left : c.numbers_left.result ≡ greatest + 1 - next
    = subst (λ (t : BaseTable). c.numbers_left.result ≡ greatest + 1 - (table_at content t.place).next) table c.numbers_left.ensures in
    let many : greatest + 1 - next < length changes = omega (arith, left, c.len.ensures, c.if-len-numbers_left.true) in
    inserted_none shown seen greatest insert (rows_put changes)
    (subst (λ (t : BaseTable). rows_made shown seen t insert.columns insert.source ≡ Ok (rows_put changes)) table (c.in_ok-changes.ensures.made shown is))
    (many_rows greatest next changes c.in_ok-changes.ensures.insertions many)

pub returns-clause-changes : goal.returns-clause-changes
returns-clause-changes g c =
    let insert = c.args.insert.now in
    let content = g.S.Store.content_now c.args.setting.now.store.now in
    let greatest = g.S.Store.row_numbers c.args.setting.now.store.now in
    let changes = c.in_ok-changes.changes.items in
    let t = table_at content insert.leaf.table.place in
    let table : c.get-table.result.now ≡ insert.leaf.table = c.get-table.ensures ∙ ap (λ (l : Leaf). l.table) c.get.ensures in
    let left : c.numbers_left.result ≡ greatest + 1 - t.next
    = subst (λ (t : BaseTable). c.numbers_left.result ≡ greatest + 1 - (table_at content t.place).next) table c.numbers_left.ensures in
    record {
      fit = subst (λ (t : BaseTable). FitTable t changes) table c.in_ok-changes.ensures.fit;
      numbers = omega (arith, left, fewer_inserted changes, c.len.ensures, c.if-len-numbers_left.false, c.in_ok-changes.changes.ok);
      keeps = record {
        keys = insertions_keep insert.leaf.table.keys _ t changes c.in_ok-changes.ensures.insertions;
        put = insertions_put t changes c.in_ok-changes.ensures.insertions;
      };
    }

pub numbers_left-requires : goal.numbers_left-requires
numbers_left-requires g c =
    let names = c.args.setting.now.names.now in
    let table = c.args.insert.now.leaf.table in
    let same : c.get-table.result.now ≡ table = c.get-table.ensures ∙ ap (λ (l : Leaf). l.table) c.get.ensures in
    subst (λ (t : BaseTable). t.place < length (g.S.Store.content_now c.args.setting.now.store.now)) (sym same)
    (is_there (g.N.Names.base_tables names) (g.S.Store.content_now c.args.setting.now.store.now) table.place table c.requires.kept.tables c.requires.can.base)
