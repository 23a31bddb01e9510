-- The query of a view is well formed over all tables, and means the rows of the view.
use Rattle.std.proofs.Common.{◌≡◌, ℕ, nat_lt, Bool, true, false, List, [], slice_get, Some, Ok, ap, ◌∙◌}
use Rattle.std.specs.Prelude.{if◌then◌else◌}
use Rattle.sq_lex.specs.declared.name.Name.{Name}
use Rattle.sq_value.specs.declared.domain.Kind.{Kind}
use Rattle.sq_store.specs.Content.{Content}
use Rattle.sq_meaning.specs.Environment.{Row, outermost}
use Rattle.sq_meaning.specs.Placed.{by_place}
use Rattle.sq_meaning.specs.Query.{rows}
use Rattle.sq_meaning.specs.Status.{Outcome, ◌>>=◌, not_well_formed, well_formed}
use Rattle.sq_bound.specs.Condition.{select_of}
use Rattle.sq_bound.specs.WellFormed.{Extends, IsSelect, TableKinds, before_view}
use Rattle.sq_bound.specs.declared.condition.BoundSpecification.{BoundSpecification}
use Rattle.sq_bound.specs.declared.condition.TablePlace.{TablePlace}
use Rattle.sq_bound.specs.declared.condition.TablePlace.TheVariants.{Base, View}
use Rattle.sq_bound.proofs.Wider.{is_select_wider}
use Rattle.sq_query.specs.Table.{AreMeant, rows_of_view}

of_earlier : (b : Bool) (x : Outcome (List Kind)) (kinds : List Kind) → (if b then x else not_well_formed) ≡ Ok kinds → x ≡ Ok kinds
of_earlier true x kinds e = e
of_earlier false x kinds e = absurd cc

before_extends : (columns : TableKinds) (n : ℕ) → Extends (before_view n columns) columns
before_extends columns n (Base p) kinds e = e
before_extends columns n (View p) kinds e = of_earlier (nat_lt p n) (columns (View p)) kinds e

pub select_wide : (columns : TableKinds) (n : ℕ) (q : BoundSpecification) → IsSelect (before_view n columns) [] [] q → IsSelect columns [] [] q
select_wide columns n q h = is_select_wider (before_view n columns) columns [] [] (before_extends columns n) (λ m k e. e) [] q h

pub view_meant : (views : List BoundSpecification) (stored : Content) (user : Name) (tables : TablePlace → Outcome (List Row)) (place : ℕ) (q : BoundSpecification)
    → AreMeant views stored user tables → slice_get views place ≡ Some q → tables (View place) ≡ rows (by_place tables) (select_of q) (outermost [] user)
view_meant views stored user tables place q meant there =
    meant.views place ∙ ap (λ found. well_formed found >>= rows_of_view tables user) there
