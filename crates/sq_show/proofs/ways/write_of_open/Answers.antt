-- Left open for write_of_open: what the call of ways_of_query asks for; answered by ItemRows.
use Rattle.std.proofs.Common.{◌≡◌, ◌∙◌, Some, ap, length, slice_get, subst, sym}
use Rattle.std.proofs.lemmas.Bool.{ltb-true}
use Rattle.std.proofs.lemmas.Option.{slice_get-get_or}
use Rattle.sq_catalog.specs.Catalog.{column_kinds}
use Rattle.sq_module.specs.declared.program.DeclaredCursor.{DeclaredCursor}
use Rattle.sq_query.proofs.FoundByKey.ItemRows.{one_of_all}
use Rattle.sq_show.specs.Ways.{FindCursors, FindsBody}
use Rattle.sq_show.proofs.ways.write_of_open.Goals as goal

pub ways_of_query-requires : goal.ways_of_query-requires
ways_of_query-requires g c =
    let catalog = c.args.inside.now.catalog.now in
    let cursors = c.deref.result.now in
    let declared = c.in-Some.declared.now in
    let at : slice_get cursors c.args.number ≡ Some declared
    = slice_get-get_or cursors c.args.number declared (ltb-true c.args.number (length cursors) (sym c.in-Some.ensures.lookup.0)) ∙ ap Some (sym c.in-Some.ensures.lookup.1) in
    let find : FindCursors catalog.bases (column_kinds catalog) cursors = rw c.deref.ensures.value c.requires in
    subst (FindsBody catalog.bases (column_kinds catalog)) c.in-Rows.is
    (one_of_all (λ (d : DeclaredCursor). FindsBody catalog.bases (column_kinds catalog) d.cursor.body) cursors c.args.number declared find at)
