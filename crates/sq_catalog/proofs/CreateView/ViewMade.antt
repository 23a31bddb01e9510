-- The view that is made of a definition is the one that the definitions make (ISO/IEC 9075:1992, 11.19).
use Rattle.std.proofs.Common.{◌≡◌, ℕ, Bool, not, ◌&&◌, List, [], ◌∷◌, ◌++◌, length, map, Option, Some, None, Result, Ok, Err, refl, sym, ap, subst, ◌∙◌}
use Rattle.std.proofs.lemmas.List.{length-map, map-append}
use Rattle.std.specs.Option.{IsSomeAnd, option_and_then, option_map}
use Rattle.std.specs.Prelude.{IfSome, if◌then◌else◌, is_none}
use Rattle.std.specs.Result.{IfErr, IsErrAnd, OnOk}
use Rattle.sq_lex.specs.declared.name.Name.{Name}
use Rattle.sq_tree.specs.declared.schema.ViewDefinition.{ViewDefinition}
use Rattle.sq_meaning.specs.Environment.{TableName}
use Rattle.sq_meaning.specs.Spelled.{listed, select_of, table_of}
use Rattle.sq_meaning.specs.declared.refusal.SchemaFault.TheVariants as fault
use Rattle.sq_bound.specs.WellFormed.{kinds_of_columns, kinds_of_select, place_of}
use Rattle.sq_bound.specs.declared.condition.BoundCond.{BoundCond}
use Rattle.sq_bound.specs.declared.condition.BoundSpecification.{BoundSpecification, out-BoundSpecification}
use Rattle.sq_bound.specs.declared.condition.ResultColumn.{ResultColumn as BoundColumn}
use Rattle.sq_bound.specs.declared.condition.TablePlace.TheVariants.{View}
use Rattle.sq_bound.specs.declared.names.Column.{Column}
use Rattle.sq_bound.specs.declared.names.Leaf.{Leaf}
use Rattle.sq_bound.specs.declared.names.TableBody.{TableBody}
use Rattle.sq_bound.specs.declared.names.TableBody.TheVariants as body
use Rattle.sq_bound.specs.declared.names.TableDesc.{TableDesc}
use Rattle.sq_bound.specs.declared.query.UpdatableQuery.{UpdatableQuery}
use Rattle.sq_binding.proofs.Standing.SeenLevels.{columns_seen}
use Rattle.sq_binding.specs.NumberedCondition.{columns_of}
use Rattle.sq_binding.specs.Seen.{clause_if, column_of, cond_seen, select_seen}
use Rattle.sq_binding.specs.View.{NumberedView, view_bound}
use Rattle.sq_binding.specs.Catalog as definition
use Rattle.sq_binding.specs.Catalog.{names_of, with_grants}
use Rattle.sq_binding.specs.ElementOutcome.{Outcome, and_then, refused_if}
use Rattle.sq_binding.specs.Table.{has_place, is_taken}
use Rattle.sq_binding.specs.CreateView as spec
use Rattle.sq_binding.specs.CreateView.{NewView, above, column_names, create_view, declared_view, lists_twice, new_view, or_bad_view, view_columns, view_grants, view_under, with_view}
use Rattle.sq_binding.specs.Names.{descriptor_of}
use Rattle.sq_binding.specs.SeenQuery.{table_named, updatable_seen}
use Rattle.sq_binder.specs.declared.view.BoundView.{BoundView}
use Rattle.sq_catalog.specs.Catalog.{Catalog, column_kinds}
use Rattle.sq_catalog.specs.Exact.{bases_declared, declared, name_in, under_declared, view_in, views_declared, with_view_entry}
use Rattle.sq_catalog.specs.Fault.{Makes, Passes, Stops}
use Rattle.sq_catalog.specs.Held.{grant_seen}
use Rattle.sq_catalog.specs.Stored.{IsNextView, IsViewOver, query_in}
use Rattle.sq_catalog.specs.View.{IsAbove, IsOverQuery, IsViewWith, conditions_with, names_for}
use Rattle.sq_catalog.specs.ViewMade.{IsLeafUnder, IsMade, MakesView, checked_view, leaf_declared, named_view, over_alone, placed_view, view_found}
use Rattle.sq_catalog.specs.declared.catalog.FullName.{FullName}
use Rattle.sq_catalog.specs.declared.fault.ElementFault.{ElementFault}
use Rattle.sq_catalog.specs.declared.fault.ElementFault.TheVariants.{NoMemory}
use Rattle.sq_catalog.specs.declared.held.Grant.{Grant}
use Rattle.sq_catalog.specs.declared.view.NewView.{NewView as MadeView}
use Rattle.sq_catalog.proofs.CreateView.ViewNames.{names_chosen}
use Rattle.sq_catalog.proofs.OneByOne.Turns.{in_order, no_memory, stops_then, then_stops}

-- ---- its columns

described_so : (columns : List Column) (results : List BoundColumn) → map (λ (c : Column). c.kind) columns ≡ map (λ (r : BoundColumn). r.kind) results
    → map descriptor_of columns ≡ view_columns (map (λ (c : Column). c.name) columns) (map column_of results)
described_so [] [] e = refl
described_so [] (r ∷ results) e = refl
described_so (x ∷ columns) [] e = absurd cc
described_so (x ∷ columns) (r ∷ results) e =
    let one : x.kind ≡ r.kind = cc in
    let rest : map (λ (c : Column). c.kind) columns ≡ map (λ (r : BoundColumn). r.kind) results = cc in
    (λ i. record { name = x.name; kind = one i } ∷ described_so columns results rest i)

columns_are : (t : TableDesc) (names : List Name) (q : BoundSpecification) → map (λ (c : Column). c.name) t.columns ≡ names → kinds_of_columns t.columns ≡ kinds_of_select q → map descriptor_of t.columns ≡ view_columns names (columns_of (select_seen q))
columns_are t names q named kinds =
    described_so t.columns (out-BoundSpecification q).columns kinds ∙ (λ i. view_columns (named i) (sym (columns_seen q) i))

-- ---- what is under it

conditions_seen : (below : List BoundCond) (own : Option BoundCond) → map cond_seen (conditions_with below own) ≡ spec.conditions_with (map cond_seen below) (clause_if (option_map cond_seen own))
conditions_seen below None = refl
conditions_seen below (Some c) = map-append cond_seen below (c ∷ [])

above_seen : (check_option : Bool) (over : (Name × Name) × UpdatableQuery) (columns : List Column) (own : List ℕ) (l : Leaf) → IsAbove check_option over.1 columns l
    → under_declared columns l ≡ above check_option (over_alone (updatable_seen over)) (leaf_declared own over.1.target.leaf)
above_seen check_option over columns own l is =
    let below = over.1.target.leaf in
    let seen : map cond_seen l.conditions ≡ spec.conditions_with (map cond_seen below.conditions) (clause_if (option_map cond_seen over.1.target.condition)) =
    ap (map cond_seen) is.conditions ∙ conditions_seen below.conditions over.1.target.condition in
    let count : length l.conditions ≡ length (spec.conditions_with (map cond_seen below.conditions) (clause_if (option_map cond_seen over.1.target.condition))) = sym (length-map l.conditions cond_seen) ∙ ap length seen in
    let demanded = is.demanded ∙ ap (λ n. if check_option then n else below.demanded) count in
    (λ i. record { base = (is.table i).place; conditions = seen i; demanded = demanded i; columns = is.shows i })

under_seen : (d : definition.Catalog) (check_option : Bool) (updatable : Option ((Name × Name) × UpdatableQuery)) (t : TableDesc) → IsOverQuery check_option updatable t
    → IfSome updatable (λ over. IsLeafUnder d (table_named over.0) over.1.target.leaf)
    → option_map (under_declared t.columns) t.leaf ≡ option_and_then (view_under d check_option) (option_map over_alone (option_map updatable_seen updatable))
under_seen d check_option None t none under = ap (option_map (under_declared t.columns)) none
under_seen d check_option (Some over) t some under = by t.leaf some
  where
    by : (o : Option Leaf) → IsSomeAnd o (IsAbove check_option over.1 t.columns) → option_map (under_declared t.columns) o ≡ view_under d check_option (over_alone (updatable_seen over))
    by None h = absurd h
    by (Some l) h =
        ap Some (above_seen check_option over t.columns under.0 l h)
        ∙ sym (ap (option_map (above check_option (over_alone (updatable_seen over)))) under.1)

-- ---- the view

same_place : (m n : ℕ) → View m ≡ View n → m ≡ n
same_place m n e = cc

same_query : (p q : BoundSpecification) → p ∷ [] ≡ q ∷ [] → p ≡ q
same_query p q e = cc

module _ (c : Catalog) (user : Name) (v : ViewDefinition) (name : FullName) (named : name_in name ≡ table_of user v.name) (bound : BoundView) (names : List Name) where
  abbrev d : definition.Catalog
  d = declared c

  abbrev made : NewView
  made = new_view d user v (view_found bound) names

  body_made : (t : TableDesc) (b : TableBody) → query_in b ≡ bound.query ∷ [] → place_of b ≡ View (length (declared c).views) → map descriptor_of t.columns ≡ view_columns names (columns_of (select_seen bound.query))
      → option_map (under_declared t.columns) t.leaf ≡ option_and_then (view_under d v.check_option) (option_map over_alone (option_map updatable_seen bound.updatable)) → view_in (name, t) b ≡ made.view ∷ []
  body_made t (body.Base own) is at columns under = absurd cc
  body_made t (body.View own) is at columns under =
      let place : own.place ≡ length d.views = same_place own.place (length d.views) at in
      let query = same_query own.query bound.query is in
      (λ i. record { name = named i; place = place i; columns = columns i; query = select_seen (query i); under = under i } ∷ [])

  kinds_are : (t : TableDesc) (b : TableBody) (q : BoundSpecification) → query_in b ≡ q ∷ [] → IsViewOver (column_kinds c) (kinds_of_columns t.columns) b → kinds_of_columns t.columns ≡ kinds_of_select q
  kinds_are t (body.Base own) q is h = absurd h
  kinds_are t (body.View own) q is h = h.1 ∙ ap kinds_of_select (same_query own.query q is)

  pub is_made : (n : MadeView) → IsNextView c name n.table → place_of n.table.body ≡ View (length d.views) → IsViewWith names bound.query n.table → IsOverQuery v.check_option bound.updatable n.table
      → IfSome bound.updatable (λ over. IsLeafUnder d (table_named over.0) over.1.target.leaf) → map grant_seen n.grants ≡ view_grants d user (name_in name) names (view_found bound) → IsMade name n made
  is_made n next placed with_names over under grants = record {
    view = body_made n.table n.table.body with_names.stands_for placed (columns_are n.table names bound.query with_names.names_are (kinds_are n.table n.table.body bound.query with_names.stands_for next.body))
        (under_seen d v.check_option bound.updatable n.table over under);
    grants = grants ∙ ap (λ t. view_grants d user t names (view_found bound)) named;
  }

-- ---- step by step

module _ (d : definition.Catalog) (user : Name) (v : ViewDefinition) (name : FullName) (named : name_in name ≡ table_of user v.name) (bound : NumberedView) where
  pub placed_made : (names : List Name) (n : MadeView) → checked_view d user (name_in name) v.check_option bound ≡ Ok tt → IsMade name n (new_view d user v bound names) → MakesView name (placed_view d user v bound names) (Ok n)
  placed_made names n checked is =
      let here : checked_view d user (table_of user v.name) v.check_option bound ≡ Ok tt = subst (λ t. checked_view d user t v.check_option bound ≡ Ok tt) named checked in
      (new_view d user v bound names, ap (λ p. and_then p (λ _. Ok (new_view d user v bound names))) here, is)

  pub placed_stops : (names : List Name) (stop : ElementFault) → Stops (checked_view d user (name_in name) v.check_option bound) stop → Stops (placed_view d user v bound names) stop
  placed_stops names stop stops =
      stops_then (checked_view d user (table_of user v.name) v.check_option bound) (λ _. Ok (new_view d user v bound names)) stop
      (subst (λ t. Stops (checked_view d user t v.check_option bound) stop) named stops)

-- the names of its columns
chosen : (v : ViewDefinition) (q : BoundSpecification) (own : Option (List Name)) (columns : List BoundColumn) → own ≡ option_map listed v.columns → columns ≡ (out-BoundSpecification q).columns
    → names_for own (map column_of columns) ≡ column_names v.columns (columns_of (select_seen q))
chosen v q own columns list is =
    (λ i. names_for (list i) (map column_of (is i))) ∙ names_chosen v.columns (map column_of (out-BoundSpecification q).columns) ∙ ap (column_names v.columns) (sym (columns_seen q))

module _ (d : definition.Catalog) (user : Name) (v : ViewDefinition) (bound : BoundView) (own : Option (List Name)) (columns : List BoundColumn) (list : own ≡ option_map listed v.columns) (is : columns ≡ (out-BoundSpecification bound.query).columns) where
  pub named_made : (name : FullName) (names : List Name) (r : Result MadeView ElementFault) → names_for own (map column_of columns) ≡ Ok names → MakesView name (placed_view d user v (view_found bound) names) r
      → MakesView name (named_view d user v (view_found bound)) r
  named_made name names r found made =
      let here : column_names v.columns (columns_of (select_seen bound.query)) ≡ Ok names = sym (chosen v bound.query own columns list is) ∙ found in
      subst (λ o. MakesView name (and_then o (placed_view d user v (view_found bound))) r) (sym here) made

  pub named_stops : (stop : ElementFault) → Stops (names_for own (map column_of columns)) stop → Stops (named_view d user v (view_found bound)) stop
  named_stops stop stops =
      stops_then (column_names v.columns (columns_of (select_seen bound.query))) (placed_view d user v (view_found bound)) stop
      (subst (λ o. Stops o stop) (chosen v bound.query own columns list is) stops)

-- ---- the whole

pub view_handed_on : (name : FullName) (o : Outcome NewView) (r : Result MadeView ElementFault) (stop : ElementFault) → IsErrAnd r (λ s. s ≡ stop) → Stops o stop → MakesView name o r
view_handed_on name o (Ok n) stop is stops = absurd is
view_handed_on name o (Err s) stop is stops = subst (Stops o) (sym is) stops

-- the check option, the privilege, and the place
module _ (d : definition.Catalog) (user : Name) (t : TableName) (check_option : Bool) (v : NumberedView) (bad : Bool) (bad_is : bad ≡ (check_option && is_none v.updatable)) where
  abbrev rest : Outcome (Unit {0})
  rest = and_then (refused_if fault.PrivilegeMissing (not v.may_select)) (λ _. has_place d user t)

  pub option_stops : (stop : ElementFault) → Stops (refused_if fault.BadCheckOption bad) stop → Stops (checked_view d user t check_option v) stop
  option_stops stop stops =
      stops_then (refused_if fault.BadCheckOption (check_option && is_none v.updatable)) (λ _. rest) stop (subst (λ b. Stops (refused_if fault.BadCheckOption b) stop) bad_is stops)

  behind_option : refused_if fault.BadCheckOption bad ≡ Ok tt → checked_view d user t check_option v ≡ rest
  behind_option passed = ap (λ o. and_then o (λ _. rest)) (subst (λ b. refused_if fault.BadCheckOption b ≡ Ok tt) bad_is passed)

  pub privilege_stops : (stop : ElementFault) → refused_if fault.BadCheckOption bad ≡ Ok tt → Stops (refused_if fault.PrivilegeMissing (not v.may_select)) stop → Stops (checked_view d user t check_option v) stop
  privilege_stops stop passed stops =
      subst (λ o. Stops o stop) (sym (behind_option passed)) (stops_then (refused_if fault.PrivilegeMissing (not v.may_select)) (λ _. has_place d user t) stop stops)

  pub place_passes : {A : Type 0} (r : Result A ElementFault) → refused_if fault.BadCheckOption bad ≡ Ok tt → refused_if fault.PrivilegeMissing (not v.may_select) ≡ Ok tt → Passes (has_place d user t) r → Passes (checked_view d user t check_option v) r
  place_passes r passed held placed =
      subst (λ o. Passes o r) (sym (behind_option passed)) (subst (λ o. Passes (and_then o (λ _. has_place d user t)) r) (sym held) placed)

module _ (d : definition.Catalog) (user : Name) (v : ViewDefinition) where
  abbrev taken : Outcome (Unit {0})
  taken = refused_if fault.NameTwice (is_taken d user (table_of user v.name))

  abbrev twice : Outcome (Unit {0})
  twice = refused_if fault.NameTwice (lists_twice v.columns)

  abbrev query : Outcome NumberedView
  query = or_bad_view (view_bound (names_of d user) (select_of user v.query))

  -- the rules in their order, from the names of the columns on
  in_turn : (b : NumberedView) (names : List Name) → placed_view d user v b names
      ≡ and_then (refused_if fault.BadCheckOption (v.check_option && is_none b.updatable)) (λ _. and_then (refused_if fault.PrivilegeMissing (not b.may_select)) (λ _. and_then (has_place d user (table_of user v.name)) (λ _. Ok (new_view d user v b names))))
  in_turn b names =
      let option = refused_if fault.BadCheckOption (v.check_option && is_none b.updatable) in
      let privilege = refused_if fault.PrivilegeMissing (not b.may_select) in
      let place = has_place d user (table_of user v.name) in
      in_order option (λ _. and_then privilege (λ _. place)) (λ _. Ok (new_view d user v b names))
      ∙ (λ i. and_then option (λ _. in_order privilege (λ _. place) (λ _. Ok (new_view d user v b names)) i))

  whole : declared_view d user v ≡ and_then taken (λ _. and_then twice (λ _. and_then query (named_view d user v)))
  whole = (λ i. and_then taken (λ _. and_then twice (λ _. and_then query (λ b. and_then (column_names v.columns (columns_of b.query)) (λ names. sym (in_turn b names) i)))))

  pub declared_taken : (stop : ElementFault) → Stops taken stop → Stops (declared_view d user v) stop
  declared_taken stop stops = subst (λ o. Stops o stop) (sym whole) (stops_then taken (λ _. and_then twice (λ _. and_then query (named_view d user v))) stop stops)

  pub declared_twice : (stop : ElementFault) → taken ≡ Ok tt → Stops twice stop → Stops (declared_view d user v) stop
  declared_twice stop free stops =
      subst (λ o. Stops o stop) (sym whole) (then_stops taken tt (λ _. and_then twice (λ _. and_then query (named_view d user v))) stop free (stops_then twice (λ _. and_then query (named_view d user v)) stop stops))

  -- with a new name, and none listed twice
  behind_names : taken ≡ Ok tt → twice ≡ Ok tt → declared_view d user v ≡ and_then query (named_view d user v)
  behind_names free once = whole ∙ ap (λ o. and_then o (λ _. and_then twice (λ _. and_then query (named_view d user v)))) free ∙ ap (λ o. and_then o (λ _. and_then query (named_view d user v))) once

  pub declared_unbound : (stop : ElementFault) → taken ≡ Ok tt → twice ≡ Ok tt → Stops query stop → Stops (declared_view d user v) stop
  declared_unbound stop free once stops = subst (λ o. Stops o stop) (sym (behind_names free once)) (stops_then query (named_view d user v) stop stops)

  pub declared_made : (name : FullName) (b : NumberedView) (r : Result MadeView ElementFault) → taken ≡ Ok tt → twice ≡ Ok tt → query ≡ Ok b → MakesView name (named_view d user v b) r → MakesView name (declared_view d user v) r
  declared_made name b r free once is made =
      subst (λ o. MakesView name o r) (sym (behind_names free once)) (subst (λ o. MakesView name (and_then o (named_view d user v)) r) (sym is) made)

-- ---- the catalog with the view

module _ (a b c : Catalog) (name : FullName) (t : TableDesc) (n : NewView) (grants : List Grant) where
  created : declared b ≡ with_view_entry (declared a) name t → view_in (name, t) t.body ≡ n.view ∷ [] → map grant_seen grants ≡ n.grants → c.users ≡ b.users → c.base_entries ≡ b.base_entries → c.view_entries ≡ b.view_entries
      → c.grants ≡ with_grants b.grants (map grant_seen grants) → declared c ≡ with_view (declared a) n
  created added view held users bases views granted =
      let users_are : c.users ≡ (declared a).users = users ∙ ap (λ (d : definition.Catalog). d.users) added in
      let bases_are : bases_declared c.base_entries ≡ (declared a).bases = ap bases_declared bases ∙ ap (λ (d : definition.Catalog). d.bases) added in
      let views_are : views_declared c.view_entries ≡ (declared a).views ++ n.view ∷ [] =
      ap views_declared views ∙ ap (λ (d : definition.Catalog). d.views) added ∙ ap (λ l. (declared a).views ++ l) view in
      let grants_are : c.grants ≡ with_grants (declared a).grants n.grants = granted ∙ (λ i. with_grants ((added i).grants) (held i)) in
      λ i. record { users = users_are i; bases = bases_are i; views = views_are i; grants = grants_are i }

  pub create_made : (user : Name) (v : ViewDefinition) → declared_view (declared a) user v ≡ Ok n → declared b ≡ with_view_entry (declared a) name t → view_in (name, t) t.body ≡ n.view ∷ [] → map grant_seen grants ≡ n.grants
      → c.users ≡ b.users → c.base_entries ≡ b.base_entries → c.view_entries ≡ b.view_entries → c.grants ≡ with_grants b.grants (map grant_seen grants) → create_view (declared a) user v ≡ Ok (declared c)
  create_made user v is added view held users bases views granted =
      ap (λ o. and_then o (λ m. Ok (with_view (declared a) m))) is ∙ ap (λ (d : definition.Catalog). Ok d) (sym (created added view held users bases views granted))

  pub create_answered : (user : Name) (v : ViewDefinition) (r : Result (Unit {0}) ElementFault) → IfErr r (λ stop. stop ≡ NoMemory) → OnOk r (c.grants ≡ with_grants b.grants (map grant_seen grants)) → declared_view (declared a) user v ≡ Ok n
      → declared b ≡ with_view_entry (declared a) name t → view_in (name, t) t.body ≡ n.view ∷ [] → map grant_seen grants ≡ n.grants → c.users ≡ b.users → c.base_entries ≡ b.base_entries → c.view_entries ≡ b.view_entries
      → Makes (λ (x : Unit {0}). declared c) (create_view (declared a) user v) r
  create_answered user v (Ok u) memory granted is added view held users bases views = create_made user v is added view held users bases views granted
  create_answered user v (Err stop) memory granted is added view held users bases views = no_memory (create_view (declared a) user v) stop memory

pub create_stops : (d : definition.Catalog) (user : Name) (v : ViewDefinition) (stop : ElementFault) → Stops (declared_view d user v) stop → Stops (create_view d user v) stop
create_stops d user v stop stops = stops_then (declared_view d user v) (λ n. Ok (with_view d n)) stop stops
