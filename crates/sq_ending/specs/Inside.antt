-- Where a query ends inside the queries of its views (ISO/IEC 9075:1992, 7.4 and 11.19).
use Rattle.std.specs.Prelude.{◌≡◌, ℕ, suc, max, List, [], ◌∷◌, slice_get, Option, None, Some, Err}
use Rattle.sq_lex.specs.declared.name.Name.{Name}
use Rattle.sq_value.specs.declared.domain.Kind.{Kind}
use Rattle.sq_value.specs.declared.value.Value.{Value}
use Rattle.sq_store.specs.Content.{Content}
use Rattle.sq_meaning.specs.Environment.{Row}
use Rattle.sq_meaning.specs.Status.{Outcome}
use Rattle.sq_meaning.specs.declared.status.Status.{Status}
use Rattle.sq_bound.specs.WellFormed.{IsSelect, before_view}
use Rattle.sq_bound.specs.declared.condition.BoundSpecification.{BoundSpecification}
use Rattle.sq_bound.specs.declared.condition.TablePlace.{TablePlace}
use Rattle.sq_bound.specs.declared.condition.TablePlace.TheVariants.{Base, View}
use Rattle.sq_bound.specs.declared.names.View.{View as BoundView}
use Rattle.sq_condition.specs.Specification.{items_in}
use Rattle.sq_query.specs.MayRead.{MayRead}
use Rattle.sq_ending.specs.Ending.{IsFromEnd, IsNoEnd, IsQueryEnd, Seen, rows_of}
use Rattle.sq_ending.specs.Read.{Known}
use Rattle.sq_ending.specs.declared.ends.Clause.{Clause}
use Rattle.sq_ending.specs.declared.ends.Clause.TheVariants as clause
use Rattle.sq_ending.specs.declared.ends.QueryEnd.{QueryEnd}
use Rattle.sq_ending.specs.declared.inside.InnerEnd.{InnerEnd}

-- a view's query reads no parameter
abbrev pub inside : Seen → Seen
inside seen = record seen { values = [] }

-- The query specification ends with the status in its item of FROM that is the view at this place, which has this query.
pub record IsThrough (queries : List BoundSpecification) (seen : Seen) (q : BoundSpecification) (place : ℕ)
    (inner : BoundSpecification) (status : Status) : Type 0 where
  pub whole : rows_of seen q ≡ Err status
  pub item : ℕ
  pub at : slice_get (items_in q) item ≡ Some (View place)
  pub ends : IsFromEnd seen q item status
  pub is_query : slice_get queries place ≡ Some inner

-- From view to view, from outside in: each query ends in an item of FROM, and the last one in a clause.
abbrev pub IsInnerEnd : List BoundSpecification → Seen → BoundSpecification → List ℕ → QueryEnd → Type 0
IsInnerEnd queries seen q [] e = IsQueryEnd seen q e
IsInnerEnd queries seen q (place ∷ places) e =
    (inner : BoundSpecification) × IsThrough queries seen q place inner e.end.status
    × IsInnerEnd queries (inside seen) inner places e

abbrev pub EndsInThere : List BoundSpecification → Seen → BoundSpecification → Option InnerEnd → Type 0
EndsInThere queries seen q None = IsNoEnd seen q
EndsInThere queries seen q (Some e) = IsInnerEnd queries seen q e.views.items e.end

-- Whatever the tables are that it may read, P holds of what a well-formed query specification is evaluated over.
abbrev pub OverAll : Known → Content → Name → List Value → BoundSpecification → (Seen → Type 0) → Type 0
OverAll known content user values q P =
    (parameters : List Kind) (tables : TablePlace → Outcome (List Row))
    → MayRead known.bases known.queries known.columns content user values parameters tables
    → IsSelect known.columns parameters [] q
    → P (record { tables = tables; values = values; user = user })

abbrev pub EndsInside : Known → Content → Name → List Value → BoundSpecification → Option InnerEnd → Type 0
EndsInside known content user values q found =
    OverAll known content user values q (λ seen. EndsInThere known.queries seen q found)

-- the view is the item of FROM in which a query specification ends, if the clause is one
pub record IsViewOf (known : Known) (q : BoundSpecification) (c : Clause) (view : BoundView) : Type 0 where
  pub item : ℕ
  pub is_from : c ≡ clause.From item
  pub at : slice_get (items_in q) item ≡ Some (View view.place)
  pub well_formed : IsSelect (before_view view.place known.columns) [] [] view.query
  pub among : slice_get known.queries view.place ≡ Some view.query

-- no view in FROM stands at this place or behind it
abbrev pub views_end : List TablePlace → ℕ
views_end [] = 0
views_end (Base place ∷ from) = views_end from
views_end (View place ∷ from) = max (suc place) (views_end from)
