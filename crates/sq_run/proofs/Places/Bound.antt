-- What is bound means what its text means: binding promises that its trees are the text's with places for names (`ExprIs`,
-- `CondIs`, `SelectIs`, `QueryIs`), and these mean by places what the text means by names.
use Rattle.std.proofs.Common.{◌≡◌, List, [], ◌∷◌, map, Option, refl, sym, ap, subst, ◌∙◌, Ok, Err}
use Rattle.std.specs.Prelude.{IfOk}
use Rattle.sq_lex.specs.declared.name.Name.{Name}
use Rattle.sq_tree.specs.declared.«module».SortSpecification.{SortSpecification}
use Rattle.sq_value.specs.declared.value.Value.{Value}
use Rattle.sq_meaning.specs.Status.{Outcome, and_then}
use Rattle.sq_meaning.specs.Syntax.{Clause, Cond, Expr, Query, Select}
use Rattle.sq_meaning.specs.Environment.{Input, outermost}
use Rattle.sq_meaning.specs.Query.{clause_truth, rows, truth}
use Rattle.sq_meaning.specs.QueryExpression.{ordered_rows, query_rows}
use Rattle.sq_meaning.specs.Rows.{SortColumn, by_columns, sorted}
use Rattle.sq_meaning.specs.SortKeys.{query_names, sort_columns}
use Rattle.sq_meaning.specs.Spelled.{Named}
use Rattle.sq_bound.specs.Condition.{clause_of, cond_of, select_of}
use Rattle.sq_bound.specs.Expression.{expr_of}
use Rattle.sq_bound.specs.Query.{query_of}
use Rattle.sq_bound.specs.WellFormed.{TableKinds}
use Rattle.sq_bound.specs.declared.condition.BoundCond.{BoundCond}
use Rattle.sq_bound.specs.declared.condition.BoundSpecification.{BoundSpecification}
use Rattle.sq_bound.specs.declared.expression.BoundExpr.{BoundExpr}
use Rattle.sq_bound.specs.declared.names.ParameterDesc.{ParameterDesc}
use Rattle.sq_bound.specs.declared.query.BoundQuery.{BoundQuery}
use Rattle.sq_bound.specs.declared.query.CursorBody.TheVariants as body
use Rattle.sq_bound.specs.declared.query.SortColumn.{SortColumn as BoundSort}
use Rattle.sq_binding.specs.PlacedQuery.{clause_placed, cond_placed, expr_placed, select_placed}
use Rattle.sq_binding.specs.PlacedUnion.{query_placed}
use Rattle.sq_binding.specs.Scope.{FromItem}
use Rattle.sq_binding.specs.SeenQuery.{sort_seen}
use Rattle.sq_binding.specs.Written.{ClauseIs, CondIs, ExprIs, IsSortedBy, QueryIs, SelectIs, query_names_placed}
use Rattle.sq_expression.specs.Frame.{inputs_of}
use Rattle.sq_run.proofs.Places.ColumnKinds.{AreTyped, kinds_at_places, named_kinds}
use Rattle.sq_run.proofs.Places.Conditions.{SameCond, SameOutcome, SameRows, clause_same, cond_same, select_same}
use Rattle.sq_run.proofs.Places.Expressions.{SameExpr, SameValue, expr_same}
use Rattle.sq_run.proofs.Places.Items.{IsFit}
use Rattle.sq_run.proofs.Places.Outcomes.{known_of}
use Rattle.sq_run.proofs.Places.Parameters.{AreNamed}
use Rattle.sq_run.proofs.Places.Queries.{SameQuery, ordered_same, query_names_same, query_same}
use Rattle.sq_run.proofs.Places.Seen.{SeenEnv}
use Rattle.sq_run.proofs.Places.Setting.{Setting, around, at_places, named, names_in}
use Rattle.sq_run.proofs.Places.Specifications.{SameClause}
use Rattle.sq_run.proofs.Sites.Stars.{ClauseStars, CondStars, QueryStars, SelectStars}

-- ---- parts of a query

pub bound_value : (s : Setting) (scopes : List (List FromItem)) (e : Expr Named) (b : BoundExpr)
    → ExprIs (expr_placed (around s scopes) e) b → SameValue s scopes e (expr_of [] b)
bound_value s scopes e b h =
    (known_of (expr_placed (around s scopes) e) (SameExpr s scopes e) (expr_of [] b) (expr_same s scopes e) (h [])).value

pub bound_truth : (s : Setting) → IsFit s → (scopes : List (List FromItem)) (c : Cond Named) → CondStars c → (b : BoundCond)
    → CondIs (cond_placed (around s scopes) c) b
    → SameOutcome s scopes (truth (named s) c) (truth (at_places s) (cond_of [] b))
bound_truth s fit scopes c stars b h =
    (known_of (cond_placed (around s scopes) c) (SameCond s scopes c) (cond_of [] b) (cond_same s fit scopes c stars) (h [])).truth

pub bound_clause : (s : Setting) → IsFit s → (scopes : List (List FromItem)) (c : Clause Named) → ClauseStars c
    → (b : Option BoundCond) → ClauseIs (clause_placed (around s scopes) c) b
    → SameOutcome s scopes (clause_truth (named s) c) (clause_truth (at_places s) (clause_of [] b))
bound_clause s fit scopes c stars b h =
    (known_of (clause_placed (around s scopes) c) (SameClause s scopes c) (clause_of [] b) (clause_same s fit scopes c stars) (h [])).truth

pub bound_rows : (s : Setting) → IsFit s → (scopes : List (List FromItem)) (q : Select Named) → SelectStars q
    → (b : BoundSpecification) → SelectIs (select_placed (around s scopes) q) b → SameRows s scopes q (select_of b)
bound_rows s fit scopes q stars b h =
    known_of (select_placed (around s scopes) q) (SameRows s scopes q) (select_of b) (select_same s fit scopes q stars) h

-- ---- cursors

pub bound_query : (s : Setting) (columns : TableKinds) → IsFit s → AreTyped s columns → (q : Query Named) → QueryStars q
    → (b : BoundQuery) → QueryIs (query_placed (around s []) q) b → SameQuery s columns q (query_of b)
bound_query s columns fit typed q stars b h =
    known_of (query_placed (around s []) q) (SameQuery s columns q) (query_of b) (query_same s columns fit typed q stars) h

-- the columns that ORDER BY names
order_is : (s : Setting) (q : Query Named) (by : List SortSpecification) (order : List SortColumn)
    (o : Outcome (List (Option Name)))
    → IfOk o (λ ns. query_names s.tables q ≡ Ok ns)
    → and_then o (λ ns. sort_columns ns by) ≡ Ok order → and_then (query_names s.tables q) (λ ns. sort_columns ns by) ≡ Ok order
order_is s q by order (Ok ns) h e = ap (λ (r : Outcome (List (Option Name))). and_then r (λ names. sort_columns names by)) h ∙ e
order_is s q by order (Err status) h e = cc

-- The rows of a cursor, in the order of its ORDER BY (13.1).
pub cursor_rows_same : (s : Setting) (columns : TableKinds) → IsFit s → AreTyped s columns → (q : Query Named) → QueryStars q
    → (by : List SortSpecification) (b : BoundQuery) (sorts : List BoundSort)
    → QueryIs (query_placed (around s []) q) b → IsSortedBy (query_names_placed (names_in s) q) by (body.Rows b sorts)
    → SameOutcome s []
    (λ env. and_then (and_then (query_names s.tables q) (λ names. sort_columns names by)) (λ order. ordered_rows (named s) (named_kinds s) q order env))
    (λ other. and_then (query_rows (at_places s) (kinds_at_places s columns) (query_of b) other) (λ found. Ok (sorted (by_columns (map sort_seen sorts)) found)))
cursor_rows_same s columns fit typed q stars by b sorts h order env other seen =
    ap (λ (o : Outcome (List SortColumn)). and_then o (λ keys. ordered_rows (named s) (named_kinds s) q keys env))
    (order_is s q by (map sort_seen sorts) (query_names_placed (names_in s) q) (query_names_same s fit q) order)
    ∙ ordered_same s columns q (query_of b) (bound_query s columns fit typed q stars b h) (map sort_seen sorts) env other seen

-- ---- outside every query

values_of_inputs : (values : List Value) → values ≡ map (λ i. i.value) (inputs_of values)
values_of_inputs [] = refl
values_of_inputs (v ∷ vs) = ap (λ ws. v ∷ ws) (values_of_inputs vs)

-- a call by name has its parameters with their names, and by place their values alone
pub outside_seen : (parameters : List ParameterDesc) (inputs : List Input) (values : List Value) (user : Name)
    → AreNamed parameters inputs → map (λ i. i.value) inputs ≡ values
    → SeenEnv parameters [] (outermost inputs user) (outermost (inputs_of values) user)
outside_seen parameters inputs values user names e = record { scopes_are = tt; inputs_are = record { names = names; values = e ∙ values_of_inputs values }; user_is = refl }

-- the rows of a view, whose text knows no parameters (11.19)
pub view_rows_same : (s : Setting) → IsFit s → s.parameters ≡ [] → (q : Select Named) → SelectStars q → (b : BoundSpecification)
    → SelectIs (select_placed (around s []) q) b
    → (user : Name) → rows (named s) q (outermost [] user) ≡ rows (at_places s) (select_of b) (outermost [] user)
view_rows_same s fit none q stars b h user =
    bound_rows s fit [] q stars b h (outermost [] user) (outermost [] user)
    (record { scopes_are = tt; inputs_are = record { names = subst (λ ps. AreNamed ps []) (sym none) tt; values = refl }; user_is = refl })
