-- CREATE VIEW (ISO/IEC 9075:1992, 11.19).
use Rattle.std.specs.Prelude.{ℕ, Bool, true, false, not, ◌&&◌, ◌==◌, if◌then◌else◌, List, [], ◌∷◌, ◌++◌, filter_map, flat_map, is_none, length, map, option_to_list, slice_get, zip, Option, Some, None, Ok, Err}
use Rattle.std.specs.Option.{option_and_then, option_map}
use Rattle.sq_lex.specs.declared.name.Name.{Name}
use Rattle.sq_tree.specs.declared.list.CommaList.{CommaList}
use Rattle.sq_tree.specs.declared.schema.ViewDefinition.{ViewDefinition}
use Rattle.sq_meaning.specs.Environment.{TableName}
use Rattle.sq_meaning.specs.Spelled.{listed, select_of, table_of}
use Rattle.sq_meaning.specs.Tables.{ColumnDescriptor}
use Rattle.sq_meaning.specs.Privilege.{Privilege}
use Rattle.sq_meaning.specs.Schema.{has_name_twice}
use Rattle.sq_meaning.specs.Words.{is_some_and}
use Rattle.sq_meaning.specs.declared.refusal.SchemaFault.TheVariants as fault
use Rattle.sq_binding.specs.Changeable.{NumberedUpdatable, shown_of}
use Rattle.sq_binding.specs.Numbered.{Numbered}
use Rattle.sq_binding.specs.NumberedCondition.{NumberedClause, NumberedCond, NumberedSelect, ResultColumn, columns_of}
use Rattle.sq_binding.specs.Outcome as binding
use Rattle.sq_binding.specs.View.{NumberedView, view_bound}
use Rattle.sq_binding.specs.Catalog.{Catalog, DeclaredUnder, DeclaredView, Grant, entry, entry_column_names, entry_under, may, names_of, with_grants}
use Rattle.sq_binding.specs.ElementOutcome.{Outcome, ◌>>=◌, ◌>>◌, refused_if}
use Rattle.sq_binding.specs.Table.{has_place, is_taken}

-- ---- its columns

abbrev pub lists_twice : Option (CommaList Name) → Bool
lists_twice columns = is_some_and (λ list. has_name_twice (listed list)) columns

abbrev pub as_many : List ResultColumn → List Name → Outcome (List Name)
as_many columns names = if length names == length columns then Ok names else Err fault.BadView

-- the names that the query's columns have
abbrev pub own_names : List ResultColumn → List Name
own_names columns = filter_map (λ c. c.name) columns

-- the names of its column list, or else of its query: a name for each column, and none of them twice
abbrev pub column_names : Option (CommaList Name) → List ResultColumn → Outcome (List Name)
column_names (Some list) columns = as_many columns (listed list)
column_names None columns =
    refused_if fault.NameTwice (has_name_twice (own_names columns)) >> as_many columns (own_names columns)

abbrev pub view_columns : List Name → List ResultColumn → List ColumnDescriptor
view_columns names columns = map (λ c. record { name = c.0; kind = (c.1).kind }) (zip names columns)

-- ---- the table under it

abbrev pub conditions_with : List NumberedCond → NumberedClause → List NumberedCond
conditions_with below NumberedClause.absent = below
conditions_with below (NumberedClause.present c) = below ++ c ∷ []

-- with the check option, new and changed rows have to meet its own condition and all conditions below it
abbrev pub above : (check_option : Bool) → NumberedUpdatable → DeclaredUnder → DeclaredUnder
above check_option over below = record {
  base = below.base;
  conditions = conditions_with below.conditions over.target.condition;
  demanded = if check_option then length (conditions_with below.conditions over.target.condition)
      else below.demanded;
  columns = over.columns;
}

abbrev pub view_under : Catalog → (check_option : Bool) → NumberedUpdatable → Option DeclaredUnder
view_under c check_option over =
    option_map (above check_option over) (option_and_then entry_under (entry c over.table))

-- ---- the privileges that its owner holds

-- a privilege on the view and, if the owner holds it with the grant option, that too
abbrev pub owner_grants : Name → TableName → (is_held can_grant : Bool) → Privilege → List Grant
owner_grants owner t false can_grant p = []
owner_grants owner t true false p =
    record { user = Some owner; table = t; privilege = p; to_grant = false } ∷ []
owner_grants owner t true true p =
    record { user = Some owner; table = t; privilege = p; to_grant = false }
    ∷ record { user = Some owner; table = t; privilege = p; to_grant = true } ∷ []

-- The owner gets the first privilege on the view if it holds the second one on the table underneath. It
-- gets the grant option if it holds the second one with it.
abbrev pub followed : Catalog → Name → (view under : TableName) → Privilege × Privilege → List Grant
followed c owner view under p =
    owner_grants owner view (may c false owner under p.1) (may c true owner under p.1) p.0

abbrev pub column_shown : Numbered → Option ℕ
column_shown (Numbered.column p) = Some p.column
column_shown _ = None

-- UPDATE of a column of the view, and of the column underneath that it shows
abbrev pub updates : List Name → Name × Numbered → List (Privilege × Privilege)
updates underneath c =
    option_to_list (option_map (λ name. (Privilege.update c.0, Privilege.update name))
    (option_and_then (slice_get underneath) (column_shown c.1)))

-- INSERT and DELETE, and UPDATE of each column, each with the privilege on the table underneath that it follows
abbrev pub privileges_followed : List Name → List Name → NumberedSelect → List (Privilege × Privilege)
privileges_followed names underneath q =
    (Privilege.insert, Privilege.insert) ∷ (Privilege.delete, Privilege.delete)
    ∷ flat_map (updates underneath) (zip names (shown_of q))

abbrev pub names_underneath : Catalog → TableName → List Name
names_underneath c t = flat_map entry_column_names (option_to_list (entry c t))

abbrev pub grants_over : Catalog → Name → (view : TableName) → List Name → NumberedSelect
    → Option NumberedUpdatable → List Grant
grants_over c owner view names q None = []
grants_over c owner view names q (Some over) =
    flat_map (followed c owner view over.table) (privileges_followed names (names_underneath c over.table) q)

-- SELECT and, if it is updatable, the privileges that follow from the table underneath
abbrev pub view_grants : Catalog → Name → TableName → List Name → NumberedView → List Grant
view_grants c owner t names v =
    owner_grants owner t true v.may_grant_select Privilege.select
    ++ grants_over c owner t names v.query v.updatable

-- ---- the view

abbrev pub or_bad_view : binding.Outcome NumberedView → Outcome NumberedView
or_bad_view (Ok v) = Ok v
or_bad_view (Err f) = Err fault.BadView

pub record NewView : Type 0 where
  pub view : DeclaredView
  pub grants : List Grant

abbrev pub new_view : Catalog → Name → ViewDefinition → NumberedView → List Name → NewView
new_view c user v bound names = record {
  view = record {
    name = table_of user v.name;
    place = length c.views;
    columns = view_columns names (columns_of bound.query);
    query = bound.query;
    under = option_and_then (view_under c v.check_option) bound.updatable;
  };
  grants = view_grants c user (table_of user v.name) names bound;
}

-- the view that a definition adds to a catalog
abbrev pub declared_view : Catalog → Name → ViewDefinition → Outcome NewView
declared_view c user v = do
  refused_if fault.NameTwice (is_taken c user (table_of user v.name))
  refused_if fault.NameTwice (lists_twice v.columns)
  bound ← or_bad_view (view_bound (names_of c user) (select_of user v.query))
  names ← column_names v.columns (columns_of bound.query)
  refused_if fault.BadCheckOption (v.check_option && is_none bound.updatable)
  refused_if fault.PrivilegeMissing (not bound.may_select)
  has_place c user (table_of user v.name)
  Ok (new_view c user v bound names)

abbrev pub with_view : Catalog → NewView → Catalog
with_view c n = record c { views = c.views ++ n.view ∷ []; grants = with_grants c.grants n.grants }

abbrev pub create_view : Catalog → Name → ViewDefinition → Outcome Catalog
create_view c user v = declared_view c user v >>= λ n. Ok (with_view c n)
