-- Left open: what the call of tables_of asks for, and the result; answered by FoundRead, ItemRows and others.
use Rattle.std.proofs.Common.{◌≡◌, ◌∙◌, ◌++◌, List, Result, true, ap, sym, subst, Ok, Err}
use Rattle.std.specs.Prelude.{IfOk}
use Rattle.sq_expression.specs.declared.fault.Fault.{Fault}
use Rattle.sq_meaning.specs.Environment.{outermost}
use Rattle.sq_meaning.specs.Placed.{by_place}
use Rattle.sq_meaning.specs.Query.{rows}
use Rattle.sq_expression.specs.Frame.{inputs_of}
use Rattle.sq_expression.specs.declared.table.BaseRows.{BaseRows}
use Rattle.sq_meaning.specs.WellFormed.{AreRowsOf, Fits}
use Rattle.sq_bound.specs.Condition.{select_of}
use Rattle.sq_query.specs.Inner.{IsInStore}
use Rattle.sq_query.specs.Items.{is_left, over}
use Rattle.sq_query.specs.Needed.{IsNeeded}
use Rattle.sq_query.specs.declared.view.Tables.{Tables}
use Rattle.sq_query.proofs.FoundByKey.FoundRead.{left_known, read_found}
use Rattle.sq_query.proofs.FoundByKey.ItemRows.{over_none}
use Rattle.sq_query.proofs.Needs.NeededViews.{reads_weaker}
use Rattle.sq_query.proofs.Needs.ReadTables.{handed}
use Rattle.sq_query.proofs.Keys.Searched.{answered_memory}
use Rattle.sq_query.proofs.Needs.TablesMeant.{tables_fit}
use Rattle.sq_query.specs.Union.{AreFitting}
use Rattle.sq_query.specs.ViewItems.{AreServed, is_hidden}
use Rattle.sq_expression.specs.declared.table.ViewRows.{ViewRows}
use Rattle.sq_query.proofs.outside.tables_of_items.Goals as goal

-- what is told more of an answer
told : (P Q : Tables → Type 0) → ((found : Tables) → P found → Q found) → (r : Result Tables Fault) → IfOk r P → IfOk r Q
told P Q more (Err e) h = tt
told P Q more (Ok found) h = more found h

pub tables_of-requires-clause-known : goal.tables_of-requires-clause-known
tables_of-requires-clause-known g c =
    let columns = g.N.Names.column_kinds c.args.names.now in
    left_known columns c.in_ok-others.others c.without_views-left.result (λ t h. c.without.ensures.fewer t (c.without_views-left.ensures.fewer t h)) (c.in_ok-others.ensures.known columns c.requires.finds.1)

pub returns-in_err-found : goal.returns-in_err-found
returns-in_err-found g c = λ parameters tables may well.
    handed Tables c.from_residual.result c.in_err-found.field-0.0 _ c.from_residual.ensures.1 (answered_memory c.in_err-found.field-0.0 c.in_err-found.ensures.memory)

pub returns-in_err-shown : goal.returns-in_err-shown
returns-in_err-shown g c = λ parameters tables may well.
    handed Tables c.from_residual-in_err-shown.result c.in_err-shown.field-0.0 _ c.from_residual-in_err-shown.ensures.1 c.in_err-shown.ensures.answered

pub returns-in_err-tables : goal.returns-in_err-tables
returns-in_err-tables g c = λ parameters tables may well.
    handed Tables c.from_residual-in_err-tables.result c.in_err-tables.field-0.0 _ c.from_residual-in_err-tables.ensures.1 (c.in_err-tables.ensures.meant may.in_domains tables may.meant).0

pub returns-in_err-with_bases : goal.returns-in_err-with_bases
returns-in_err-with_bases g c = λ parameters tables may well.
    handed Tables c.from_residual-in_err-with_bases.result c.in_err-with_bases.field-0.0 _ c.from_residual-in_err-with_bases.ensures.1 c.in_err-with_bases.ensures.answered

pub returns : goal.returns
returns g c = λ parameters tables may well.
    let names = c.args.names.now in
    let store = c.args.store.now in
    let content = g.S.Store.content_now store in
    let keys = g.S.Store.key_columns store in
    let bases = g.N.Names.base_tables names in
    let columns = g.N.Names.column_kinds names in
    let query = c.args.query.now in
    let user = c.args.call.now.user in
    let values = c.args.call.now.parameters.now in
    let found = c.in_ok-found.found.items in
    let shown = c.in_ok-shown.shown.items in
    let fitting = tables_fit bases (g.N.Names.view_queries names) columns content user tables (g.met.N.Names.kinds_of_bases names) may.there may.in_domains may.meant (g.met.N.Names.kinds_of_views names) in
    let in_store : IsInStore columns parameters content keys values tables = record { bases = bases; keys_are = c.requires.keys; not_null = c.requires.not_null; keyed = g.met.S.Store.keyed store; there = may.there; inputs = may.inputs; stored = may.meant.bases } in
    let known = c.in_ok-found.ensures.found columns parameters tables in_store well (λ t. subst (Fits AreRowsOf (columns t)) (over_none tables t) (fitting t)) in
    let served = subst (λ (l : List BaseRows). AreFitting columns (over l tables) → AreServed query columns values user l shown tables) c.as_slice.ensures.value (c.in_ok-shown.ensures.shown parameters tables may well) known.0 in
    let same = (λ i. rows (by_place (λ t. over_none tables t i)) (select_of query) (outermost (inputs_of values) user)) ∙ known.1 ∙ served.same in
    let first = c.in_ok-with_bases in (
      c.with_views.ensures.answered,
      read_found columns tables query values user c.without_views-left.result found shown c.in_ok-tables.tables c.with_views.result same served.fit
          (reads_weaker (IsNeeded c.in_ok-others.others) (λ t. is_left found t ≡ true → is_hidden shown t ≡ true → IsNeeded c.without_views-left.result t)
          (λ t h is hidden. c.without_views-left.ensures.left t (c.without.ensures.left t h (subst (λ (l : List BaseRows). is_left l t ≡ true) (sym c.as_slice-2.ensures.value) is)) (subst (λ (l : List ViewRows). is_hidden l t ≡ true) (sym c.as_slice-3.ensures.value) hidden))
          (select_of query) c.in_ok-others.ensures.reads)
          (c.in_ok-tables.ensures.meant may.in_domains tables may.meant).1
          (told (λ all. all.bases.items ≡ first.field-0.bases.items) (λ all. all.bases.items ≡ found ++ c.in_ok-tables.tables.bases.items) (λ all is. is ∙ first.ensures.bases) c.with_views.result c.with_views.ensures.bases)
          (told (λ all. all.views.items ≡ shown ++ first.field-0.views.items) (λ all. all.views.items ≡ shown ++ c.in_ok-tables.tables.views.items) (λ all is. is ∙ ap (λ (l : List ViewRows). shown ++ l) first.ensures.views) c.with_views.result c.with_views.ensures.views),
    )
