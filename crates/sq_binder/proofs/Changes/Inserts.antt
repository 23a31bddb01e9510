-- INSERT: the columns that get values and their source, and the privilege that is needed.
use Rattle.std.proofs.Common.{◌≡◌, Bool, List, map, Ok, Err, refl, sym, ap, subst, ◌∙◌}
use Rattle.std.proofs.lemmas.Simd.{map-map}
use Rattle.std.specs.Prelude.{Result}
use Rattle.sq_tree.specs.declared.statement.Insert.{Insert}
use Rattle.sq_meaning.specs.Privilege.{Privilege}
use Rattle.sq_bound.specs.Known.{under_of}
use Rattle.sq_bound.specs.declared.names.ObjectColumn.{ObjectColumn}
use Rattle.sq_bound.specs.declared.statement.BoundInsert.{BoundInsert}
use Rattle.sq_bound.specs.declared.statement.InsertedRows.{InsertedRows}
use Rattle.sq_binding.specs.Change.{NumberedInsert, NumberedSource, Receiver, receivers_bound, source_bound}
use Rattle.sq_binding.specs.Changeable.{ChangedTable, UserNames}
use Rattle.sq_binding.specs.Found.{Binding, Found}
use Rattle.sq_binding.specs.QueryFindings.{QueryFindings}
use Rattle.sq_binding.specs.Select.{Surroundings}
use Rattle.sq_binding.specs.Whole.{needed}
use Rattle.sq_binding.proofs.Inductions.Turns.{found_too, put}
use Rattle.sq_binder.specs.Binds.{Stops}
use Rattle.sq_binder.specs.Found.{Finds, both_of, brought_of, counts_of, pairs}
use Rattle.sq_binder.specs.declared.found.Counts.{Counts}
use Rattle.sq_binder.specs.declared.found.Found.{Found as FoundPart}
use Rattle.sq_binder.specs.declared.stop.Stop.{Stop}
use Rattle.sq_binder.proofs.OneByOne.Finds.{pairs_stop}
use Rattle.sq_binder.specs.Changeable.{changed_of, table_name}
use Rattle.sq_binder.specs.declared.changeable.ChangedTable.{ChangedTable as FoundTable}
use Rattle.sq_binder.specs.Insert.{InsertsInto, insert_over}
use Rattle.sq_binder.specs.Needed.{requiring}
use Rattle.sq_binder.specs.Receiver.{receiver_seen}
use Rattle.sq_binding.specs.SeenQuery.{insert_seen, source_seen}
use Rattle.sq_binder.specs.declared.receiver.Receiver.{Receiver as CodeReceiver}
use Rattle.sq_binder.proofs.OneByOne.Turned.{found_needed, turned_found, turned_stop, two_needed}

module _ (names : UserNames) (a : Surroundings) (i : Insert) (table : FoundTable) (before : Counts) where
  abbrev t : ChangedTable
  t = changed_of table

  abbrev source_at : List Receiver → Binding NumberedSource
  source_at rs = source_bound names a rs i.source

  abbrev pub parts : Binding (List Receiver × NumberedSource)
  parts = pairs (receivers_bound t i.columns) source_at

  abbrev make : List Receiver × NumberedSource → NumberedInsert
  make p = record { leaf = t.under.leaf; columns = map (λ r. r.column) p.0; source = p.1 }

  abbrev more : QueryFindings
  more = needed (names.holds t.reference.table Privilege.insert)

  abbrev turn : Found (List Receiver × NumberedSource) → Found NumberedInsert
  turn x = found_too more (put (make x.part) x)

  abbrev image : List CodeReceiver × InsertedRows → List Receiver × NumberedSource
  image = both_of (map receiver_seen) source_seen

  pub first_stops : (stop : Stop) → Finds (map receiver_seen) (receivers_bound t i.columns) before (Err stop) → Stops (insert_over names a i t (counts_of before)) stop
  first_stops stop s =
      turned_stop image insert_seen (insert_over names a i t) parts turn (two_needed (receivers_bound t i.columns) source_at more (λ rs s. make (rs, s))) before stop
      (pairs_stop (map receiver_seen) source_seen (receivers_bound t i.columns) source_at before stop s)

  columns_seen : (objects : List ObjectColumn) (rs : List CodeReceiver) → map (λ (c : ObjectColumn). c.position) objects ≡ map (λ (r : CodeReceiver). r.column) rs
      → map (λ (c : ObjectColumn). c.position) objects ≡ map (λ (r : Receiver). r.column) (map receiver_seen rs)
  columns_seen objects rs are = are ∙ sym (map-map (λ (r : Receiver). r.column) receiver_seen rs)

  pub insert_found : (may : Bool) → may ≡ names.holds (table_name table) Privilege.insert → (both : Result (FoundPart (List CodeReceiver × InsertedRows)) Stop) (r : Result (FoundPart BoundInsert) Stop) → Finds image parts before both
      → InsertsInto table may both r → Finds insert_seen (insert_over names a i t) before r
  insert_found may held (Ok x) (Ok y) found is =
      turned_found image insert_seen (insert_over names a i t) parts turn (two_needed (receivers_bound t i.columns) source_at more (λ rs s. make (rs, s))) before (λ x. refl) x y found
      (found_needed image insert_seen make more x y (λ j. record { leaf = under_of (is.0 j); columns = columns_seen y.part.columns x.part.0 is.1 j; source = source_seen (is.3 j) })
      (is.4 ∙ ap (λ may. requiring may (brought_of x.brought)) held)) is.5
  insert_found may held (Ok x) (Err stop) found is = subst (λ (s : Stop). Stops (insert_over names a i t (counts_of before)) s) (sym is) tt
  insert_found may held (Err earlier) (Ok y) found is = absurd is
  insert_found may held (Err earlier) (Err stop) found is =
      subst (λ (s : Stop). Stops (insert_over names a i t (counts_of before)) s) (sym is)
      (turned_stop image insert_seen (insert_over names a i t) parts turn (two_needed (receivers_bound t i.columns) source_at more (λ rs s. make (rs, s))) before earlier found)
