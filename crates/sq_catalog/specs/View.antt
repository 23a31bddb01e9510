-- Views as they are made, and what is under an updatable one (ISO/IEC 9075:1992, 11.19).
use Rattle.std.specs.Prelude.{◌≡◌, Bool, if◌then◌else◌, length, List, [], ◌∷◌, ◌++◌, map, Option, None, Some}
use Rattle.std.specs.Option.{IsSomeAnd}
use Rattle.sq_lex.specs.declared.name.Name.{Name}
use Rattle.sq_meaning.specs.Schema.{has_name_twice}
use Rattle.sq_meaning.specs.declared.refusal.SchemaFault.TheVariants as fault
use Rattle.sq_bound.specs.declared.condition.BoundCond.{BoundCond}
use Rattle.sq_bound.specs.declared.condition.BoundSpecification.{BoundSpecification}
use Rattle.sq_bound.specs.declared.names.Column.{Column}
use Rattle.sq_bound.specs.declared.names.Leaf.{Leaf}
use Rattle.sq_bound.specs.declared.names.TableDesc.{TableDesc}
use Rattle.sq_bound.specs.declared.query.UpdatableQuery.{UpdatableQuery}
use Rattle.sq_binding.specs.NumberedCondition.{ResultColumn}
use Rattle.sq_binding.specs.ElementOutcome.{Outcome, ◌>>◌, refused_if}
use Rattle.sq_binding.specs.CreateView.{as_many, own_names}
use Rattle.sq_catalog.specs.Stored.{query_in}

-- the names that are listed, or else the columns' own
abbrev pub names_or : Option (List Name) → List (Option Name) → List (Option Name)
names_or None own = own
names_or (Some names) own = map (λ n. Some n) names

-- the names of a query's columns: none twice, and none missing
abbrev pub names_of_query : List ResultColumn → Outcome (List Name)
names_of_query columns =
    refused_if fault.NameTwice (has_name_twice (own_names columns)) >> as_many columns (own_names columns)

-- the names that are listed, or else those of the query's columns: as many as columns
abbrev pub names_for : Option (List Name) → List ResultColumn → Outcome (List Name)
names_for (Some names) columns = as_many columns names
names_for None columns = names_of_query columns

-- a table is a view with columns of these names, and this is its query
pub record IsViewWith (names : List Name) (q : BoundSpecification) (t : TableDesc) : Type 0 where
  pub names_are : map (λ c. c.name) t.columns ≡ names
  pub stands_for : query_in t.body ≡ q ∷ []

-- the conditions below a view, and then its own if it has one
abbrev pub conditions_with : List BoundCond → Option BoundCond → List BoundCond
conditions_with below None = below
conditions_with below (Some c) = below ++ c ∷ []

-- What is under a view over an updatable query: the base table under the query's table, the conditions below and the query's own, of
-- which new and changed rows have to meet all with the check option, and else those that they have to meet below. Each column of the
-- view is the one of the base table that the query shows.
pub record IsAbove (check_option : Bool) (over : UpdatableQuery) (columns : List Column)
    (l : Leaf) : Type 0 where
  pub table : l.table ≡ over.target.leaf.table
  pub conditions : l.conditions ≡ conditions_with over.target.leaf.conditions over.target.condition
  pub demanded : l.demanded ≡ (if check_option then length l.conditions else over.target.leaf.demanded)
  pub shows : map (λ c. c.leaf_column) columns ≡ over.columns

-- a view over a query that isn't updatable has nothing under it
abbrev pub IsOverQuery : Bool → Option ((Name × Name) × UpdatableQuery) → TableDesc → Type 0
IsOverQuery check_option None t = t.leaf ≡ None
IsOverQuery check_option (Some over) t = IsSomeAnd t.leaf (IsAbove check_option over.1 t.columns)
