-- Left open for tables_at: the clauses meant and none; answered by ReadTables and TablesMeant.
use Rattle.std.proofs.Common.{◌≡◌, Vec, ◌∙◌, [], ap, sym, subst}
use Rattle.sq_meaning.specs.Status.{each}
use Rattle.sq_bound.specs.declared.condition.TablePlace.TheVariants.{Base}
use Rattle.sq_query.specs.Needed.{IsNeeded}
use Rattle.std.specs.declared.alloc.Global.{Global}
use Rattle.sq_query.specs.Table.{ReadsAsMeant, bases_in, rows_among, stored_base}
use Rattle.sq_expression.specs.declared.table.BaseRows.{BaseRows}
use Rattle.std.proofs.Common.{List, ℕ}
use Rattle.sq_query.proofs.Needs.ReadTables.{answered_as, bases_read, bases_there, handed}
use Rattle.sq_query.proofs.Needs.TablesMeant.{known_right}
use Rattle.sq_query.proofs.view.tables_at.Goals as goal

pub returns-in-Ok-clause-meant : goal.returns-in-Ok-clause-meant
returns-in-Ok-clause-meant g c = λ domains tables meant closed.
    let names = c.args.names.now in
    let content = g.S.Store.content_now c.args.store.now in
    let columns = g.N.Names.column_kinds names in
    let needed = c.args.needed.now in
    let right = known_right (g.N.Names.base_tables names) (g.N.Names.view_queries names) columns content c.args.call.now.user tables (g.met.N.Names.kinds_of_bases names) c.requires.there domains meant (g.met.N.Names.kinds_of_views names) in
    let are = bases_read content tables meant.bases needed (λ p here. right (Base p) (c.requires.known (Base p) here)) c.in_ok-bases.bases.items (sym (ap (each (stored_base content)) c.as_slice.ensures.value) ∙ c.in_ok-bases.ensures.rows) in (
      tt,
      subst (λ (bases : List BaseRows). ReadsAsMeant needed (rows_among bases c.in-Ok.views.items) tables) c.as_slice-2.ensures.value
          (c.in-Ok.ensures.meant tables (record { known = c.requires.known; closed = closed; views = meant.views; right = right })
          (subst (λ (bases : List BaseRows). (p : ℕ) → IsNeeded needed (Base p) → rows_among bases [] (Base p) ≡ tables (Base p)) (sym c.as_slice-2.ensures.value) are)),
    )

pub returns-in_err-bases-clause-meant : goal.returns-in_err-bases-clause-meant
returns-in_err-bases-clause-meant g c = λ domains tables meant closed.
    let names = c.args.names.now in
    let content = g.S.Store.content_now c.args.store.now in
    let columns = g.N.Names.column_kinds names in
    let right = known_right (g.N.Names.base_tables names) (g.N.Names.view_queries names) columns content c.args.call.now.user tables (g.met.N.Names.kinds_of_bases names) c.requires.there domains meant (g.met.N.Names.kinds_of_views names) in
    let read = bases_there content tables meant.bases c.args.needed.now (λ p here. right (Base p) (c.requires.known (Base p) here)) in
    let e = c.in_err-bases.field-0.0 in
    handed (Vec BaseRows Global) c.from_residual.result e _ c.from_residual.ensures.1 (answered_as bases_in e _ _ (ap (each (stored_base content)) c.as_slice.ensures.value ∙ read) c.in_err-bases.ensures.rows)

pub returns-in-Ok-clause-none : goal.returns-in-Ok-clause-none
returns-in-Ok-clause-none g c = λ none. c.in_ok-bases.ensures.none (c.as_slice.ensures.value ∙ none.0)

pub returns-in-Err-clause-none : goal.returns-in-Err-clause-none
returns-in-Err-clause-none g c = λ none. c.in_ok-bases.ensures.none (c.as_slice.ensures.value ∙ none.0)

pub returns-in_err-bases-clause-none : goal.returns-in_err-bases-clause-none
returns-in_err-bases-clause-none g c = λ none. c.in_err-bases.ensures.none (c.as_slice.ensures.value ∙ none.0)
