-- A value expression with its columns and parameters placed, by the definitions' own places (ISO/IEC 9075:1992, 6.2
-- and 6.4). Brackets change nothing.
use Rattle.std.specs.Prelude.{ℕ, List, map, slice_get, Option, None, Some, Ok}
use Rattle.std.specs.List.{position}
use Rattle.std.specs.Option.{option_map, option_and_then}
use Rattle.sq_lex.specs.declared.name.Name.{Name}
use Rattle.sq_value.specs.Domain.{kind_of}
use Rattle.sq_value.specs.declared.domain.Domain.{Domain}
use Rattle.sq_value.specs.declared.domain.Kind.{Kind}
use Rattle.sq_tree.specs.declared.names.ColumnReference.{ColumnReference}
use Rattle.sq_tree.specs.declared.names.Indicator.{Indicator}
use Rattle.sq_tree.specs.declared.names.Parameter.{Parameter}
use Rattle.sq_meaning.specs.Environment.{Item, Place, place_of, same_name}
use Rattle.sq_meaning.specs.Kind.{Kinds}
use Rattle.sq_meaning.specs.Placed.{PlacedParameter}
use Rattle.sq_meaning.specs.Spelled.{Named}
use Rattle.sq_meaning.specs.Status.{Outcome, ◌>>=◌, well_formed, not_well_formed}
use Rattle.sq_meaning.specs.Syntax.{Expr, literal, parameter, user, column, count_rows, set_function, signed, added, scaled, bracketed}
use Rattle.sq_meaning.specs.Tables.{Declared}
use Rattle.sq_bound.specs.Expression.{PlacedExpr}
use Rattle.sq_binding.specs.Scope.{ItemColumn, Scope, column_numbered, item_named}

-- the items in scope
abbrev pub heads_of : List Scope → List (List Item)
heads_of scopes = map (λ scope. map item_named scope.items) scopes

-- the column at a place
abbrev pub column_at : List Scope → Place → Option ItemColumn
column_at scopes at =
    option_and_then (λ scope. column_numbered scope (at.item, at.column)) (slice_get scopes at.depth)

-- the column that a reference means, at its position in the rows that are read
abbrev pub placed_column : List Scope → ColumnReference → Outcome Place
placed_column scopes r =
    place_of r (heads_of scopes)
    >>= λ at. well_formed (option_map (λ c. record at { column = c.position }) (column_at scopes at))

abbrev pub column_kind : List Scope → ColumnReference → Outcome Kind
column_kind scopes r =
    place_of r (heads_of scopes) >>= λ at. well_formed (option_map (λ c. c.kind) (column_at scopes at))

abbrev pub position_named : List Declared → Name → Outcome (ℕ × Domain)
position_named parameters name =
    well_formed (option_and_then (λ at. option_map (λ p. (at, p.domain)) (slice_get parameters at))
    (position (λ p. same_name p.name name) parameters))

abbrev pub indicator_named : List Declared → Option Indicator → Outcome (Option ℕ)
indicator_named parameters None = Ok None
indicator_named parameters (Some i) = position_named parameters i.name >>= λ p. Ok (Some p.0)

abbrev pub placed_parameter : List Declared → Parameter → Outcome PlacedParameter
placed_parameter parameters p =
    position_named parameters p.name
    >>= λ at. indicator_named parameters p.indicator
    >>= λ i. Ok (record { position = at.0; indicator = i })

abbrev pub placed : List Scope → List Declared → Expr Named → Outcome PlacedExpr
placed scopes parameters (literal v) = Ok (literal v)
placed scopes parameters (parameter p) = placed_parameter parameters p >>= λ q. Ok (parameter q)
placed scopes parameters user = Ok user
placed scopes parameters (column c) = placed_column scopes c >>= λ p. Ok (column p)
placed scopes parameters count_rows = Ok count_rows
placed scopes parameters (set_function f distinct e) =
    placed scopes parameters e >>= λ x. Ok (set_function f distinct x)
placed scopes parameters (signed sign e) = placed scopes parameters e >>= λ x. Ok (signed sign x)
placed scopes parameters (added sign a b) =
    placed scopes parameters a >>= λ x. placed scopes parameters b >>= λ y. Ok (added sign x y)
placed scopes parameters (scaled sign a b) =
    placed scopes parameters a >>= λ x. placed scopes parameters b >>= λ y. Ok (scaled sign x y)
placed scopes parameters (bracketed e) = placed scopes parameters e

-- the kinds of the columns in scope, and of the parameters
abbrev pub kinds_in : List Scope → List Declared → Kinds Named
kinds_in scopes parameters = record {
  column = λ c froms. column_kind scopes c;
  parameter = λ p. position_named parameters p.name >>= λ at. Ok (kind_of at.1);
  columns = λ t. not_well_formed;
}
