-- A query specification over one base table whose WHERE clause names a row by a key (ISO/IEC 9075:1992, 7.4 to 7.9; own rule).
use Rattle.std.specs.Prelude.{⊤, Bool, if◌then◌else◌, List, [], ◌∷◌, map, Option, None, Some, Ok}
use Rattle.std.specs.Borrow.{Bor}
use Rattle.sq_lex.specs.declared.name.Name.{Name}
use Rattle.sq_value.specs.declared.value.Value.{Value}
use Rattle.sq_store.specs.Content.{Content}
use Rattle.sq_store.specs.Keys.{Keys}
use Rattle.sq_meaning.specs.Environment.{Line, Row}
use Rattle.sq_meaning.specs.Placed.{by_place}
use Rattle.sq_meaning.specs.Query.{is_true, truth}
use Rattle.sq_meaning.specs.Status.{Outcome, ◌>>=◌, each, kept}
use Rattle.sq_bound.specs.Condition.{cond_of}
use Rattle.sq_bound.specs.declared.condition.BoundCond.{BoundCond}
use Rattle.sq_bound.specs.declared.condition.BoundSpecification.{BoundSpecification, out-BoundSpecification}
use Rattle.sq_bound.specs.declared.condition.Grouping.{Grouping}
use Rattle.sq_bound.specs.declared.condition.TablePlace.{TablePlace}
use Rattle.sq_bound.specs.declared.expression.BoundExpr.{BoundExpr}
use Rattle.sq_condition.specs.Specification.{HavingIsPlain, as_line, groups_shown}
use Rattle.sq_expression.specs.Lines.{line_env}
use Rattle.sq_expression.specs.Select.{row_shown, rows_left}
use Rattle.sq_expression.specs.declared.context.Context.{Context}
use Rattle.sq_query.specs.Key.{IsKeyOn}
use Rattle.sq_query.specs.Row.{outside}
use Rattle.sq_query.specs.Specification.{IsOverBase, IsWhere}
use Rattle.sq_query.specs.declared.single_row.SingleRow.{SingleRow}

-- the HAVING clause of a query specification that is grouped so, if at all, has no subquery
abbrev pub HasPlainHaving : Option Grouping → Type 0
HasPlainHaving None = ⊤
HasPlainHaving (Some grouping) = HavingIsPlain grouping

-- the WHERE clause of a query specification names a row of its only base table by a key, and HAVING has no subquery
pub record IsSingleRow (q : BoundSpecification) (content : Content) (keys : List Keys) (parameters : List Value)
    (user : Name) (single : SingleRow) : Type 0 where
  pub over : IsOverBase q single.base
  pub is_where : IsWhere q single.condition.now
  pub key : IsKeyOn single.base single.condition.now content keys parameters user single.key
  pub plain_having : HasPlainHaving (out-BoundSpecification q).grouping

-- the lines of a table's rows for which a WHERE clause is true
abbrev pub lines_left : (TablePlace → Outcome (List Row)) → BoundCond → List Value → Name → List Row
    → Outcome (List Line)
lines_left tables own values user found =
    kept (λ line. is_true (truth (by_place tables) (cond_of [] own) (outside line values user)))
    (map as_line found)

-- a row as the only line, if there is one
abbrev pub lines_of_row : Option (Bor Row) → List Line
lines_of_row None = []
lines_of_row (Some row) = (row.now ∷ []) ∷ []

-- the line of a row, if it is kept
abbrev pub line_if : Row → Bool → Outcome (List Line)
line_if row holds = Ok (if holds then (row ∷ []) ∷ [] else [])

-- the rows of a query specification for the lines that WHERE leaves: of each line, or of each group that HAVING keeps
abbrev pub listed_by : Bool → List BoundExpr → Option Grouping → Context → List Line → Outcome (List Row)
listed_by distinct list None context lines =
    each (λ line. row_shown [] list (line_env line None context) context) lines
    >>= λ rows. Ok (rows_left distinct rows)
listed_by distinct list (Some grouping) context lines = groups_shown distinct list grouping None context lines
