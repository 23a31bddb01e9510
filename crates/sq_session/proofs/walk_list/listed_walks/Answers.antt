-- Left open: the call of listed_walk, the clause lists, and the loop's invariant; answered by GoOn, Over and QuietWalks.
use Rattle.std.proofs.Common.{◌≡◌, ◌<◌, ◌≤◌, ◌∙◌, ◌++◌, ◌∷◌, [], ap, arith, length, true, slice_index_or, subst, sym}
use Rattle.sq_catalog.specs.Catalog.{column_kinds}
use Rattle.sq_module.specs.declared.program.DeclaredCursor.{DeclaredCursor}
use Rattle.sq_session.specs.Cursors.{HasKept, goes_on, is_listed, is_over, listed}
use Rattle.sq_session.specs.Kind.{over_of}
use Rattle.sq_session.specs.declared.cursor.CursorState.{CursorState}
use Rattle.sq_session.specs.declared.cursor.CursorState.TheVariants as cursor
use Rattle.sq_session.specs.declared.walk_list.ListedCursor.{ListedCursor}
use Rattle.sq_session.proofs.OpenCursors.GoOn.{goes_on_listed, goes_on_same, goes_on_walking, idle_next, listed_all, listed_next, none_listed, same_next, some_listed, there_more}
use Rattle.sq_session.proofs.OpenCursors.Over.{as_many, over_here, over_there, walk_there}
use Rattle.sq_session.proofs.Walks.QuietWalks.{fits_here, kept_here}
use Rattle.sq_session.proofs.walk_list.listed_walks.Goals.{in-Walking+in_ok-list+in-Some+in_ok-push-in-Some, in-Walking+in_ok-list+in-None, in_default}
use Rattle.sq_session.proofs.walk_list.listed_walks.Goals as goal

pub listed_walk-requires-clause-over : goal.listed_walk-requires-clause-over
listed_walk-requires-clause-over g c =
    let declared = c.args.called.now.cursors.now in
    let cursors = c.args.cursors.now in
    let number = c.loop-number.number in
    let over = over_of (slice_index_or declared number c.index-called-number.result).cursor.body in
    let here : is_over over (slice_index_or cursors number c.index-cursors-number.result) ≡ true =
    over_here declared cursors number c.index-called-number.result c.index-cursors-number.result c.requires.cursors c.loop-number-test.true in
    let walks : slice_index_or cursors number c.index-cursors-number.result ≡ cursor.Walking c.in-Walking.walk = sym c.index-cursors-number.is ∙ c.in-Walking.is in
    let P : CursorState → Type 0 = λ x. is_over over x ≡ true in
    subst P walks here

pub listed_walk-requires-clause-there : goal.listed_walk-requires-clause-there
listed_walk-requires-clause-there g c =
    let called = c.args.called.now in
    let cursors = c.args.cursors.now in
    let number = c.loop-number.number in
    let here = over_there called.cursors.now cursors number c.index-cursors-number.result c.requires.cursors c.loop-number-test.true in
    let walks : slice_index_or cursors number c.index-cursors-number.result ≡ cursor.Walking c.in-Walking.walk = sym c.index-cursors-number.is ∙ c.in-Walking.is in
    walk_there called.catalog.now.bases (g.S.Store.content_now c.args.store.now) called.cursors.now number c.in-Walking.walk c.requires.rows c.requires.fit (rw walks at here)

pub listed_walk-requires-clause-fit : goal.listed_walk-requires-clause-fit
listed_walk-requires-clause-fit g c =
    let called = c.args.called.now in
    let cursors = c.args.cursors.now in
    let number = c.loop-number.number in
    let there : number < length called.cursors.now = omega (arith, as_many called.cursors.now cursors c.requires.cursors, c.loop-number-test.true) in
    fits_here called.catalog.now.bases called.cursors.now number c.index-called-number.result c.requires.fit there

pub listed_walk-requires-clause-kept : goal.listed_walk-requires-clause-kept
listed_walk-requires-clause-kept g c =
    let called = c.args.called.now in
    let cursors = c.args.cursors.now in
    let number = c.loop-number.number in
    let columns = column_kinds called.catalog.now in
    let declared = (slice_index_or called.cursors.now number c.index-called-number.result).cursor in
    let walks : slice_index_or cursors number c.index-cursors-number.result ≡ cursor.Walking c.in-Walking.walk = sym c.index-cursors-number.is ∙ c.in-Walking.is in
    let here : HasKept columns declared (slice_index_or cursors number c.index-cursors-number.result) =
    kept_here columns called.cursors.now cursors number c.index-called-number.result c.index-cursors-number.result c.requires.kept c.loop-number-test.true in
    let P : CursorState → Type 0 = λ x. HasKept columns declared x in
    subst P walks here

pub loop-number-preserved : goal.loop-number-preserved
loop-number-preserved g c =
    let declared = c.args.called.now.cursors.now in
    let cursors = c.args.cursors.now in
    let tables = g.S.Store.content_now c.args.store.now in
    let u = c.args.statement.now in
    let on = c.args.on in
    let number = c.loop-number.number in
    let there : number < length declared = omega (arith, as_many declared cursors c.requires.cursors, c.loop-number-test.true) in
    let so_far = c.loop-number.invariant in
    elim c.match-cursor.branch [
      | in-Walking+in_ok-list+in-Some+in_ok-push-in-Some w ↦ (
          let d = slice_index_or declared number w.index-called-number.result in
          let walks : slice_index_or cursors number c.index-cursors-number.result ≡ cursor.Walking w.in-Walking.walk = sym c.index-cursors-number.is ∙ w.in-Walking.is in
          let is = some_listed (is_listed u on d w.in-Walking.walk) w.in-Some.list (listed d tables w.in-Walking.walk) (rw w.in-Some.is at w.in_ok-list.ensures) in
          let goes : goes_on u on tables d (slice_index_or cursors number c.index-cursors-number.result) ≡ cursor.Numbers w.in-Some.list =
          ap (goes_on u on tables d) walks ∙ goes_on_listed u on tables d w.in-Walking.walk is.0 ∙ ap (λ l. cursor.Numbers l) (sym is.1) in
          let one : ListedCursor = record { number = number; cursor = w.in-Some.list } in
          let pushed : w.push.new.self.items ≡ c.loop-number.lists.items ++ one ∷ [] = w.in_ok-push-in-Some.ensures.items in
          rw (w.lists-is, pushed) (
            listed_next u on tables declared cursors c.loop-number.lists.items number w.index-called-number.result c.index-cursors-number.result w.in-Some.list there goes so_far.0,
            there_more (length cursors) c.loop-number.lists.items one so_far.1 c.loop-number-test.true,
          ))
      | in-Walking+in_ok-list+in-None w ↦ (
          let d = slice_index_or declared number w.index-called-number.result in
          let walks : slice_index_or cursors number c.index-cursors-number.result ≡ cursor.Walking w.in-Walking.walk = sym c.index-cursors-number.is ∙ w.in-Walking.is in
          let not = none_listed (is_listed u on d w.in-Walking.walk) (listed d tables w.in-Walking.walk) (rw w.in-None.is at w.in_ok-list.ensures) in
          let stays : goes_on u on tables d (slice_index_or cursors number c.index-cursors-number.result) ≡ slice_index_or cursors number c.index-cursors-number.result =
          ap (goes_on u on tables d) walks ∙ goes_on_walking u on tables d w.in-Walking.walk not ∙ sym walks in
          rw w.lists-is (same_next u on tables declared cursors _ number w.index-called-number.result c.index-cursors-number.result there stays so_far.0, so_far.1))
      | in_default w ↦ (
          let here = c.index-cursors-number.is in
          let idle : (d : DeclaredCursor) → goes_on u on tables d (slice_index_or cursors number c.index-cursors-number.result) ≡ slice_index_or cursors number c.index-cursors-number.result =
          λ d. ap (goes_on u on tables d) (sym here) ∙ goes_on_same u on tables d c.index-cursors-number.result w.in_default.not-Walking ∙ here in
          rw w.lists-is (idle_next u on tables declared cursors _ number c.index-cursors-number.result there idle so_far.0, so_far.1))
    ]

pub returns-clause-lists : goal.returns-clause-lists
returns-clause-lists g c =
    let declared = c.args.called.now.cursors.now in
    let cursors = c.args.cursors.now in
    let enough : length declared ≤ c.loop-number.number = omega (arith, as_many declared cursors c.requires.cursors, c.loop-number-test.false) in
    listed_all c.args.statement.now c.args.on (g.S.Store.content_now c.args.store.now) declared cursors _ c.loop-number.number enough c.loop-number.invariant.0
