-- Views that are made of their definitions: what is bound of the query, the rules that a definition has to meet in the order in which they
-- are asked, and what is made (ISO/IEC 9075:1992, 11.19).
use Rattle.std.specs.Prelude.{◌≡◌, ℕ, Bool, not, ◌&&◌, is_none, List, [], ◌∷◌, map, Option, Some, IfSome, Result, Ok, Err}
use Rattle.std.specs.Option.{option_and_then, option_map}
use Rattle.sq_lex.specs.declared.name.Name.{Name}
use Rattle.sq_tree.specs.declared.schema.ViewDefinition.{ViewDefinition}
use Rattle.sq_meaning.specs.Environment.{TableName}
use Rattle.sq_meaning.specs.Spelled.{select_of, table_of}
use Rattle.sq_meaning.specs.declared.refusal.SchemaFault.TheVariants as fault
use Rattle.sq_bound.specs.Known.{Under}
use Rattle.sq_bound.specs.declared.condition.BoundSpecification.{BoundSpecification}
use Rattle.sq_bound.specs.declared.names.Leaf.{Leaf}
use Rattle.sq_bound.specs.declared.query.UpdatableQuery.{UpdatableQuery}
use Rattle.sq_binding.specs.Changeable.{NumberedUpdatable}
use Rattle.sq_binding.specs.NumberedCondition.{columns_of}
use Rattle.sq_binding.specs.Seen.{cond_seen}
use Rattle.sq_binding.specs.View.{NumberedView}
use Rattle.sq_binding.specs.Catalog as definition
use Rattle.sq_binding.specs.Catalog.{DeclaredUnder, entry, entry_under}
use Rattle.sq_binding.specs.ElementOutcome.{Outcome, ◌>>=◌, ◌>>◌, refused_if}
use Rattle.sq_binding.specs.Table.{has_place}
use Rattle.sq_binding.specs.CreateView.{NewView, column_names, new_view}
use Rattle.sq_binder.specs.View.{view_seen}
use Rattle.sq_binder.specs.declared.view.BoundView.{BoundView}
use Rattle.sq_binding.specs.SeenQuery.{table_named}
use Rattle.sq_binding.specs.Written.{IsUpdatableOf, NamesAre}
use Rattle.sq_catalog.specs.Catalog.{Catalog, known}
use Rattle.sq_catalog.specs.Exact.{declared, view_in}
use Rattle.sq_catalog.specs.Fault.{Stops}
use Rattle.sq_catalog.specs.Held.{grant_seen}
use Rattle.sq_catalog.specs.Stored.{IsBoundOver}
use Rattle.sq_catalog.specs.Views.{HasQueryOf, WrittenView, names_written}
use Rattle.sq_catalog.specs.declared.catalog.FullName.{FullName}
use Rattle.sq_catalog.specs.declared.fault.ElementFault.{ElementFault}
use Rattle.sq_catalog.specs.declared.view.NewView.{NewView as MadeView}

-- ---- the query

-- The query, and what it is over where it is updatable. (Definitions pass on what is under a table without the conditions of the views in
-- between.)
abbrev pub under_alone : Under → Under
under_alone u = record { base = u.base; conditions = []; demanded = u.demanded }

abbrev pub over_alone : NumberedUpdatable → NumberedUpdatable
over_alone u = record {
  table = u.table;
  target = record {
    table = (u.target).table;
    leaf = under_alone (u.target).leaf;
    condition = (u.target).condition;
  };
  columns = u.columns;
}

abbrev pub view_alone : NumberedView → NumberedView
view_alone v = record {
  query = v.query;
  updatable = option_map over_alone v.updatable;
  may_select = v.may_select;
  may_grant_select = v.may_grant_select;
}

abbrev pub view_found : BoundView → NumberedView
view_found v = view_alone (view_seen v)

-- rows of a base table under a table with these columns
abbrev pub leaf_declared : List ℕ → Leaf → DeclaredUnder
leaf_declared columns l = record {
  base = l.table.place;
  conditions = map cond_seen l.conditions;
  demanded = l.demanded;
  columns = columns;
}

-- these rows of a base table are under the table of a name
abbrev pub IsLeafUnder : definition.Catalog → TableName → Leaf → Type 0
IsLeafUnder c t l =
    (columns : List ℕ) × (option_and_then entry_under (entry c t) ≡ Some (leaf_declared columns l))

-- A view's query that is bound is the text's, over tables and views that are there, and so is what it is over where it is updatable; that
-- has the rows under the table that is named.
pub record IsBoundView (c : Catalog) (w : WrittenView) (q : BoundSpecification)
    (updatable : Option ((Name × Name) × UpdatableQuery)) : Type 0 where
  pub stands : IsBoundOver c q updatable
  pub is_written : HasQueryOf (known c) w q
  pub names : NamesAre (names_written (known c) w) q
  pub over : IfSome updatable (λ over. IsUpdatableOf (known c) [] (select_of w.user w.view.query) over.1)
  pub under : IfSome updatable (λ over. IsLeafUnder (declared c) (table_named over.0) over.1.target.leaf)

-- ---- the rules, in their order

-- the check option, SELECT on what the query names, and the place of the view
abbrev pub checked_view : definition.Catalog → Name → TableName → (check_option : Bool) → NumberedView
    → Outcome (Unit {0})
checked_view c user t check_option v =
    refused_if fault.BadCheckOption (check_option && is_none v.updatable)
    >> (refused_if fault.PrivilegeMissing (not v.may_select) >> has_place c user t)

-- the view of a definition, with columns of these names
abbrev pub placed_view : definition.Catalog → Name → ViewDefinition → NumberedView → List Name
    → Outcome NewView
placed_view c user v bound names =
    checked_view c user (table_of user v.name) v.check_option bound >> Ok (new_view c user v bound names)

-- the view of a definition whose query is bound
abbrev pub named_view : definition.Catalog → Name → ViewDefinition → NumberedView → Outcome NewView
named_view c user v bound = column_names v.columns (columns_of bound.query) >>= placed_view c user v bound

-- ---- what is made

-- the view of a name, and what its owner holds on it
pub record IsMade (name : FullName) (n : MadeView) (made : NewView) : Type 0 where
  pub view : view_in (name, n.table) n.table.body ≡ made.view ∷ []
  pub grants : map grant_seen n.grants ≡ made.grants

abbrev pub MakesView : FullName → Outcome NewView → Result MadeView ElementFault → Type 0
MakesView name outcome (Ok n) = (made : NewView) × (outcome ≡ Ok made) × IsMade name n made
MakesView name outcome (Err fault) = Stops outcome fault
