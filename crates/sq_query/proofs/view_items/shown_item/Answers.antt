-- Left open for shown_item: what its calls ask for, and the clause shown; answered by ViewItems and others.
use Rattle.std.proofs.Common.{◌≡◌, ◌∙◌, ◌<◌, ℕ, length, List, Option, Some, ◌∷◌, [], ap, subst, sym}
use Rattle.sq_meaning.specs.WellFormed.{HasValue}
use Rattle.sq_bound.specs.Condition.{cond_of}
use Rattle.sq_bound.specs.declared.condition.TablePlace.{TablePlace}
use Rattle.sq_bound.specs.declared.condition.TablePlace.TheVariants.{View}
use Rattle.sq_expression.specs.Frame.{lent, view_outcome}
use Rattle.sq_expression.specs.declared.table.BaseRows.{BaseRows}
use Rattle.sq_query.specs.Asked.{IsFalseUnder, IsUnderneath}
use Rattle.sq_query.specs.Items.{IsNamed, items_of}
use Rattle.sq_query.specs.Named.{AreTrustedIn, IsFalseOn}
use Rattle.sq_query.specs.Shown.{AreRight, IsPath, shown_of}
use Rattle.sq_query.specs.Sought.{nothing_around}
use Rattle.sq_query.specs.ViewItems.{IsViewAlone}
use Rattle.sq_query.specs.declared.named.Sure.TheVariants.{Noted}
use Rattle.sq_query.proofs.Keys.KeyNames.{place_there}
use Rattle.sq_query.proofs.Keys.KeyTests.{if_some}
use Rattle.sq_query.proofs.PlainViews.ThroughViews.{base_of_path}
use Rattle.sq_query.proofs.PlainViews.ViewItems.{item_at, item_read}
use Rattle.sq_query.proofs.view_items.shown_item.Goals as goal

pub base_under-requires-clause-known : goal.base_under-requires-clause-known
base_under-requires-clause-known g c =
    let query = c.args.query.now in
    let view = View c.in-View.view in
    item_read (λ t. HasValue (g.N.Names.column_kinds c.args.names.now t)) query c.args.item view c.requires.finds.1 (item_at query c.as_slice-tables.result.now c.args.item _ view c.as_slice-tables.ensures c.requires.item c.in-View.is)

pub rows_under-own-requires : goal.rows_under-own-requires
rows_under-own-requires g c =
    let names = c.args.names.now in
    let store = c.args.store.now in
    let columns = g.N.Names.column_kinds names in
    let queries = g.N.Names.view_queries names in
    let view = c.in-View.view in
    let under = c.in-Some.under in
    let u = if_some (IsUnderneath columns queries view) c.in_ok-under.field-0 under c.in_ok-under.ensures c.in-Some.is in
    place_there (g.N.Names.base_tables names) (g.S.Store.key_columns store) c.requires.keys (g.S.Store.content_now store) under.base (g.met.S.Store.keyed store) (c.requires.finds.0 under.base (base_of_path columns queries view under.base u.views u.path))

pub returns-in_ok-rows-in-Some-2-clause-shown : goal.returns-in_ok-rows-in-Some-2-clause-shown
returns-in_ok-rows-in-Some-2-clause-shown g c =
    let names = c.args.names.now in
    let store = c.args.store.now in
    let columns = g.N.Names.column_kinds names in
    let queries = g.N.Names.view_queries names in
    let content = g.S.Store.content_now store in
    let keys = g.S.Store.key_columns store in
    let query = c.args.query.now in
    let values = c.args.call.now.parameters.now in
    let user = c.args.call.now.user in
    let condition = c.args.condition.now in
    let view = c.in-View.view in
    let base = c.in-Some.under.base in
    let rows = c.in-Some-2.own in
    let own = c.in_ok-rows-in-Some-2.field-0 in
    let u = if_some (IsUnderneath columns queries view) c.in_ok-under.field-0 c.in-Some.under c.in_ok-under.ensures c.in-Some.is in
    let F = λ (l : List TablePlace). IsFalseOn c.args.item l c.args.found.now nothing_around values user (AreTrustedIn Noted condition) (cond_of [] condition) in
    let found = if_some (λ (b : BaseRows). (b.place ≡ base) × IsNamed (IsFalseUnder queries (view ∷ u.views) (F c.as_slice-tables.result.now)) content keys b) c.in_ok-own.field-0 rows (c.in_ok-own.ensures.found queries (view ∷ u.views) u.are) c.in-Some-2.is in
    let along = subst (λ (n : ℕ). IsPath columns queries (view ∷ u.views) n) (sym found.0) u.path in
    let here : view ≡ own.place = sym c.in_ok-rows-in-Some-2.ensures.place in record {
      item = c.args.item;
      at = item_at query c.as_slice-tables.result.now c.args.item _ (View view) c.as_slice-tables.ensures c.requires.item c.in-View.is ∙ ap (λ (n : ℕ). let o : Option TablePlace = Some (View n) in o) here;
      alone = subst (λ (n : ℕ). IsViewAlone query c.args.item n c.args.inner.now c.args.shown.now) here (c.is_view_alone.ensures c.if-not-is_view_alone.false);
      views = u.views;
      under = rows;
      path = subst (λ (n : ℕ). IsPath columns queries (n ∷ u.views) rows.place) here along;
      there = subst (λ (n : ℕ). n < length content) (sym found.0)
          (place_there (g.N.Names.base_tables names) keys c.requires.keys content base (g.met.S.Store.keyed store) (c.requires.finds.0 base (base_of_path columns queries view base u.views u.path)));
      condition = condition;
      is_where = c.requires.where_clause;
      named = subst (λ (n : ℕ). IsNamed (IsFalseUnder queries (n ∷ u.views) (F (items_of query))) content keys rows) here
          (subst (λ (l : List TablePlace). IsNamed (IsFalseUnder queries (view ∷ u.views) (F l)) content keys rows) c.as_slice-tables.ensures found.1);
      shows = λ tables. subst
          (λ (n : ℕ). AreRight (lent rows.rows.items) tables user queries rows.place (n ∷ u.views) → view_outcome own.rows.items own.failure ≡ shown_of (lent rows.rows.items) tables user queries rows.place (n ∷ u.views)) here
          (λ right. c.in_ok-rows-in-Some-2.ensures.rows tables u.views along right);
    }
