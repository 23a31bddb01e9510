use Rattle.std.proofs.Common.{ℕ, Bor, take}
use Rattle.std.specs.List.{AllZip}
use Rattle.sq_store.specs.Content.{table_at}
use Rattle.sq_meaning.specs.Environment.{Row}
use Rattle.sq_change.specs.Changed.{FitTable, IsReplacement, rows_replaced}
use Rattle.sq_change.specs.Made.{Seen, Shown, seen_by, updated_under}
use Rattle.sq_change.proofs.OneByOne.InTurn.{MadeTo}
use Rattle.sq_change.proofs.target.replace_rows.Given as goal

abbrev pub invariant-loop-found : goal.invariant-loop-found
invariant-loop-found g l =
    let s : Seen = seen_by (g.N.Names.view_queries l.setting.names.now) (g.S.Store.content_now l.setting.store.now) l.setting.user l.setting.parameters.now in
    record {
      replacements : AllZip (λ (f : ℕ × Bor Row). IsReplacement f.0) (take l.found-index l.rows) l.changes.items;
      meant : (shown : Shown) → MadeTo (λ (f : ℕ × Bor Row). updated_under shown s l.assignments (table_at s.tables l.table.place) f.0) l.rows l.found-index (rows_replaced l.changes.items);
      fit : FitTable l.table l.changes.items;
    }
