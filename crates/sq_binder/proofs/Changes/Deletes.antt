-- DELETE and UPDATE: the findings in them, and the privileges that are needed.
use Rattle.std.proofs.Common.{◌≡◌, Bool, List, [], map, Ok, Err, refl, sym, subst, ◌∙◌}
use Rattle.std.specs.Prelude.{Result}
use Rattle.sq_meaning.specs.Spelled.{listed}
use Rattle.sq_tree.specs.declared.statement.Delete.{Delete}
use Rattle.sq_tree.specs.declared.statement.Update.{Update}
use Rattle.sq_meaning.specs.Privilege.{Privilege}
use Rattle.sq_bound.specs.declared.statement.BoundAssignment.{BoundAssignment}
use Rattle.sq_bound.specs.declared.statement.BoundUpdate.{BoundUpdate}
use Rattle.sq_bound.specs.declared.statement.ChangeTarget.{ChangeTarget}
use Rattle.sq_binding.specs.Change.{NamedCursors, NumberedAssignment, NumberedChange, NumberedUpdate, assignment_bound, each_column, reading, rows_bound, update_parts, with_reading}
use Rattle.sq_binding.specs.Changeable.{ChangedTable, UserNames}
use Rattle.sq_binding.specs.Found.{Binding, Counts, Found}
use Rattle.sq_binding.specs.Outcome.{Outcome, and_then}
use Rattle.sq_binding.specs.QueryFindings.{QueryFindings}
use Rattle.sq_binding.specs.Select.{Surroundings}
use Rattle.sq_binding.specs.Whole.{needed}
use Rattle.sq_binding.proofs.Inductions.Turns.{found_too, put}
use Rattle.sq_binder.specs.Binds.{Stops}
use Rattle.sq_binder.specs.Found.{Finds, Pairs, both_of, brought_of, counts_of, pairs}
use Rattle.sq_binder.specs.declared.found.Brought.{Brought}
use Rattle.sq_binder.specs.declared.found.Counts.{Counts as CodeCounts}
use Rattle.sq_binder.specs.declared.found.Found.{Found as FoundPart}
use Rattle.sq_binder.specs.declared.stop.Stop.{Stop}
use Rattle.sq_binder.proofs.OneByOne.Behind.{Makes, two_made}
use Rattle.sq_binder.proofs.OneByOne.Finds.{makes_found, makes_stop, pairs_found, pairs_stop}
use Rattle.sq_binder.specs.Delete.{delete_over}
use Rattle.sq_binder.specs.Needed as needed_of
use Rattle.sq_binder.specs.Needed.{requiring}
use Rattle.sq_binding.specs.SeenQuery.{assignment_seen, change_seen, update_seen}
use Rattle.sq_binder.specs.Update.{update_over, updated}
use Rattle.sq_binder.proofs.OneByOne.Turned.{one_needed, turned_found, turned_stop}

two_turns : {A B C : Type 0} (o : Outcome (Found A)) (f : Found A → Found B) (g : Found B → Found C) → and_then (and_then o (λ x. Ok (f x))) (λ y. Ok (g y)) ≡ and_then o (λ x. Ok (g (f x)))
two_turns (Ok x) f g = refl
two_turns (Err fault) f g = refl

module _ (names : UserNames) (a : Surroundings) (cursors : NamedCursors) (t : ChangedTable) (before : CodeCounts) where
  -- ---- DELETE

  module _ (d : Delete) where
    abbrev rows : Binding NumberedChange
    rows = rows_bound names a cursors t d.target

    abbrev more : QueryFindings
    more = needed (names.holds t.reference.table Privilege.delete)

    abbrev turn : Found NumberedChange → Found NumberedChange
    turn x = found_too more (put (with_reading names t x).part (with_reading names t x))

    delete_is : (counts : Counts) → delete_over names a cursors d t counts ≡ and_then (rows counts) (λ x. Ok (turn x))
    delete_is counts = one_needed (reading names t rows) more (λ rows. rows) counts ∙ two_turns (rows counts) (with_reading names t) (λ x. found_too more (put x.part x))

    pub delete_stops : (stop : Stop) → Finds change_seen rows before (Err stop) → Stops (delete_over names a cursors d t (counts_of before)) stop
    delete_stops stop s = turned_stop change_seen change_seen (delete_over names a cursors d t) rows turn delete_is before stop s

    pub delete_found : (x : FoundPart ChangeTarget) (b : Brought) (may_select may_delete : Bool) → may_select ≡ names.holds t.reference.table Privilege.select → may_delete ≡ names.holds t.reference.table Privilege.delete
        → Finds change_seen rows before (Ok x) → brought_of b ≡ requiring may_delete (needed_of.reading may_select (brought_of x.brought)) → b.next ≡ x.brought.next
        → Finds change_seen (delete_over names a cursors d t) before (Ok (record { part = x.part; brought = b }))
    delete_found x b may_select may_delete reads deletes found is next =
        let as_held = is ∙ (λ j. requiring (deletes j) (needed_of.reading (reads j) (brought_of x.brought))) in
        turned_found change_seen change_seen (delete_over names a cursors d t) rows turn delete_is before (λ x. refl) x (record { part = x.part; brought = b }) found
        (λ j. record { part = change_seen x.part; calls = (as_held j).calls; calls_can_fail = (as_held j).calls_can_fail; findings = (as_held j).findings; subqueries = (as_held j).subqueries }) next

  -- ---- UPDATE

  module _ (u : Update) where
    abbrev parts : Binding NumberedUpdate
    parts = update_parts names a cursors t u

    pub update_stops : (stop : Stop) → Finds update_seen parts before (Err stop) → Stops (update_over names a cursors u t (counts_of before)) stop
    update_stops stop s = turned_stop update_seen update_seen (update_over names a cursors u t) parts (with_reading names t) (λ counts. refl) before stop s

    pub update_found : (x : FoundPart BoundUpdate) (b : Brought) (may_select : Bool) → may_select ≡ names.holds t.reference.table Privilege.select → Finds update_seen parts before (Ok x)
        → brought_of b ≡ needed_of.reading may_select (brought_of x.brought) → b.next ≡ x.brought.next → Finds update_seen (update_over names a cursors u t) before (Ok (record { part = x.part; brought = b }))
    update_found x b may_select reads found is next =
        let as_held = is ∙ (λ j. needed_of.reading (reads j) (brought_of x.brought)) in
        turned_found update_seen update_seen (update_over names a cursors u t) parts (with_reading names t) (λ counts. refl) before (λ x. refl) x (record { part = x.part; brought = b }) found
        (λ j. record { part = update_seen x.part; calls = (as_held j).calls; calls_can_fail = (as_held j).calls_can_fail; findings = (as_held j).findings; subqueries = (as_held j).subqueries }) next

    abbrev assignments : Binding (List NumberedAssignment)
    assignments = each_column t (λ s. s.column) (assignment_bound names a t) [] (listed u.assignments)

    abbrev changed : List NumberedAssignment → Binding NumberedChange
    changed xs = rows_bound names a cursors t u.target

    abbrev make : List NumberedAssignment × NumberedChange → NumberedUpdate
    make z = record { rows = z.1; assignments = z.0 }

    abbrev image : List BoundAssignment × ChangeTarget → List NumberedAssignment × NumberedChange
    image = both_of (map assignment_seen) change_seen

    parts_made : Makes parts (pairs assignments changed) make
    parts_made = two_made assignments changed (λ xs rows. record { rows = rows; assignments = xs })

    pub parts_stop : (stop : Stop) → Finds (map assignment_seen) assignments before (Err stop) → Stops (parts (counts_of before)) stop
    parts_stop stop s = makes_stop image update_seen parts (pairs assignments changed) make parts_made before stop (pairs_stop (map assignment_seen) change_seen assignments changed before stop s)

    updated_found : (both : Result (FoundPart (List BoundAssignment × ChangeTarget)) Stop) → Finds image (pairs assignments changed) before both → Finds update_seen parts before (updated both)
    updated_found (Ok x) found =
        makes_found image update_seen parts (pairs assignments changed) make parts_made before x (record { part = record { target = x.part.1; assignments = x.part.0 }; brought = x.brought }) found refl refl
    updated_found (Err stop) s = makes_stop image update_seen parts (pairs assignments changed) make parts_made before stop s

    pub parts_found : (left : FoundPart (List BoundAssignment)) (right : Result (FoundPart ChangeTarget) Stop) (both : Result (FoundPart (List BoundAssignment × ChangeTarget)) Stop) (r : Result (FoundPart BoundUpdate) Stop)
        → Finds (map assignment_seen) assignments before (Ok left) → Finds change_seen (rows_bound names a cursors t u.target) left.brought.next right → Pairs left right both → r ≡ updated both → Finds update_seen parts before r
    parts_found left right both r l m is made =
        subst (Finds update_seen parts before) (sym made) (updated_found both (pairs_found (map assignment_seen) change_seen assignments changed before left right both l m is))
