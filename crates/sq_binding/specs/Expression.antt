-- The bound form of a value expression (ISO/IEC 9075:1992, 6.2 to 6.5 and 6.11 to 6.13).
use Rattle.std.specs.Prelude.{ℕ, ◌+◌, Bool, true, false, not, ◌&&◌, ◌||◌, nat_lt, nat_eq, if◌then◌else◌, List, [], ◌∷◌, ◌++◌, length, slice_get, Option, Some, None, Ok, Err}
use Rattle.std.specs.List.{position}
use Rattle.std.specs.Option.{option_map, option_and_then}
use Rattle.std.specs.Result.{result_ok}
use Rattle.sq_lex.specs.declared.name.Name.{Name}
use Rattle.sq_value.specs.Domain.{kind_of}
use Rattle.sq_value.specs.declared.domain.Domain.{Domain}
use Rattle.sq_value.specs.declared.domain.Kind.{Kind}
use Rattle.sq_value.specs.declared.domain.Kind.TheVariants.{Num, Chars}
use Rattle.sq_value.specs.declared.value.Value.{Value}
use Rattle.sq_tree.specs.declared.expr.SetFunction.{SetFunction}
use Rattle.sq_tree.specs.declared.expr.Sign.{Sign}
use Rattle.sq_tree.specs.declared.expr.Sign.TheVariants.{Plus, Minus}
use Rattle.sq_tree.specs.declared.expr.TimesSign.{TimesSign}
use Rattle.sq_tree.specs.declared.expr.TimesSign.TheVariants.{Times, Over}
use Rattle.sq_tree.specs.declared.names.ColumnReference.{ColumnReference}
use Rattle.sq_tree.specs.declared.names.Indicator.{Indicator}
use Rattle.sq_tree.specs.declared.names.Parameter.{Parameter}
use Rattle.sq_meaning.specs.Environment.{Place, same_name}
use Rattle.sq_meaning.specs.Kind.{function_kind, kind_of_value, product_kind, sum_kind}
use Rattle.sq_meaning.specs.Spelled.{Named}
use Rattle.sq_meaning.specs.Status as status
use Rattle.sq_meaning.specs.Sure.{is_extreme}
use Rattle.sq_meaning.specs.Syntax.{Expr, literal, parameter, user, column, count_rows, set_function, signed, added, scaled, bracketed}
use Rattle.sq_meaning.specs.Syntax as tree
use Rattle.sq_meaning.specs.Tables.{Declared}
use Rattle.sq_meaning.specs.WellFormed.{is_text}
use Rattle.sq_bound.specs.Expression.{PlacedExpr}
use Rattle.sq_bound.specs.declared.expression.Operator.{Operator}
use Rattle.sq_bound.specs.declared.expression.Operator.TheVariants as operator
use Rattle.sq_meaning.specs.Binding.{is_indicator_domain}
use Rattle.sq_meaning.specs.declared.fault.BindingFault.TheVariants as fault
use Rattle.sq_binding.specs.Findings.{Findings, both, failing, none}
use Rattle.sq_binding.specs.Numbered.{Numbered, tree_of}
use Rattle.sq_binding.specs.Outcome.{Outcome, ◌>>=◌, or_fault}
use Rattle.sq_binding.specs.Scope.{FoundColumn, Scope, column_meant}

-- The bound form of an expression: its tree and kind, and the set functions that it adds to its query, in the order of the
-- text. Whether computing one of these may answer a status, and the findings in it.
pub record Bound : Type 0 where
  pub tree : Numbered
  pub kind : Kind
  pub calls : List PlacedExpr
  pub calls_can_fail : Bool
  pub findings : Findings

-- a part without set functions
abbrev pub plain : Numbered → Kind → Findings → Bound
plain t k findings = record { tree = t; kind = k; calls = []; calls_can_fail = false; findings = findings }

-- ---- literals (5.3)

-- no text spells the null value, which has no kind
abbrev pub literal_bound : Value → Outcome Bound
literal_bound v =
    or_fault fault.KindMismatch (result_ok (kind_of_value v)) >>= λ k. Ok (plain (Numbered.literal v) k none)

abbrev pub user_findings : Findings
user_findings = record none { has_user = true }

-- ---- parameters (6.2)

-- the position and the domain of the parameter of a name
abbrev pub parameter_named : List Declared → Name → Outcome (ℕ × Domain)
parameter_named parameters name =
    or_fault fault.UnknownParameter
    (option_and_then (λ at. option_map (λ p. (at, p.domain)) (slice_get parameters at))
    (position (λ p. same_name p.name name) parameters))

abbrev pub as_indicator : ℕ × Domain → Outcome (Option ℕ)
as_indicator p = if is_indicator_domain p.1 then Ok (Some p.0) else Err fault.BadIndicator

abbrev pub indicator_bound : List Declared → Option Indicator → Outcome (Option ℕ)
indicator_bound parameters None = Ok None
indicator_bound parameters (Some i) = parameter_named parameters i.name >>= as_indicator

abbrev pub parameter_as : ℕ × Domain → Option ℕ → Bound
parameter_as at indicator =
    plain (Numbered.parameter (record { position = at.0; indicator = indicator })) (kind_of at.1) none

abbrev pub parameter_bound : List Declared → Parameter → Outcome Bound
parameter_bound parameters p = do
  at ← parameter_named parameters p.name
  indicator ← indicator_bound parameters p.indicator
  Ok (parameter_as at indicator)

-- ---- columns (6.4)

abbrev pub place_of_found : FoundColumn → Place
place_of_found found = record { depth = found.depth; item = found.item; column = found.column.position }

-- n if the column is so many queries further out, and else 0
abbrev pub if_at : (depth : ℕ) → ℕ → ℕ → ℕ
if_at depth at n = if nat_eq at depth then n else 0

abbrev pub place_findings : (depth item : ℕ) → (grouped outermost : Bool) → Findings
place_findings depth item grouped outermost = record {
  items = if_at 0 depth (item + 1);
  outer_items = if_at 1 depth (item + 1);
  reach = depth;
  reads_outermost = outermost;
  can_fail = false;
  has_ungrouped = nat_eq depth 0 && not grouped;
  has_user = false;
}

abbrev pub column_findings : FoundColumn → Findings
column_findings found = place_findings found.depth found.item found.is_grouped found.is_outermost

abbrev pub column_bound : FoundColumn → Bound
column_bound found = plain (Numbered.column (place_of_found found)) found.column.kind (column_findings found)

-- In a query around, a column that is no grouping column is a fault here. In the query itself it is one if the query is grouped.
abbrev pub column_allowed : (in_function : Bool) → FoundColumn → Outcome Bound
column_allowed inside found =
    if nat_lt 0 found.depth && not found.is_grouped && not inside
    then Err fault.UngroupedColumn
    else Ok (column_bound found)

abbrev pub column_value : List Scope → (in_function : Bool) → ColumnReference → Outcome Bound
column_value scopes inside c = column_meant c scopes >>= column_allowed inside

-- ---- operations (6.12)

abbrev pub signed_by : Sign → Bound → Bound
signed_by sign x = record x { tree = Numbered.signed sign x.tree }

abbrev pub signed_as : Sign → Bound → Outcome Bound
signed_as sign x = if is_text x.kind then Err fault.KindMismatch else Ok (signed_by sign x)

abbrev pub sum_operator : Sign → Operator
sum_operator Plus = operator.Plus
sum_operator Minus = operator.Minus

abbrev pub product_operator : TimesSign → Operator
product_operator Times = operator.Times
product_operator Over = operator.Over

abbrev pub operated_kind : Operator → Kind → Kind → status.Outcome Kind
operated_kind operator.Plus left right = sum_kind left right
operated_kind operator.Minus left right = sum_kind left right
operated_kind operator.Times left right = product_kind Times left right
operated_kind operator.Over left right = product_kind Over left right

-- both are numbers, and the scale is at most 18
abbrev pub kind_operated : Operator → Kind → Kind → Outcome Kind
kind_operated op left right =
    if is_text left || is_text right
    then Err fault.KindMismatch
    else or_fault fault.LimitExceeded (result_ok (operated_kind op left right))

abbrev pub operands : Operator → Bound → Bound → Kind → Bound
operands op x y k = record {
  tree = Numbered.operation op x.tree y.tree;
  kind = k;
  calls = x.calls ++ y.calls;
  calls_can_fail = x.calls_can_fail || y.calls_can_fail;
  findings = failing (both x.findings y.findings);
}

abbrev pub operated_as : Operator → Bound → Bound → Outcome Bound
operated_as op x y = kind_operated op x.kind y.kind >>= λ k. Ok (operands op x y k)

-- ---- set functions (6.5)

-- the set function of this number
abbrev pub called : ℕ → PlacedExpr → Kind → (can_fail : Bool) → Bound
called n call k can_fail = record {
  tree = Numbered.set_function n;
  kind = k;
  calls = call ∷ [];
  calls_can_fail = can_fail;
  findings = none;
}

abbrev pub count_bound : (allowed : Bool) → ℕ → Outcome Bound
count_bound allowed n =
    if allowed then Ok (called n tree.count_rows (Num 0) true) else Err fault.MisplacedSetFunction

-- SUM and AVG are of numbers
abbrev pub kind_of_call : SetFunction → Kind → Outcome Kind
kind_of_call function k = or_fault fault.KindMismatch (result_ok (function_kind function k))

-- A set function may answer a status if its operand may. It may also be out of range, unless its value is one of the values
-- that it is over.
abbrev pub function_call : ℕ → SetFunction → (distinct : Bool) → Bound → Kind → Bound
function_call n function distinct x k =
    called n (tree.set_function function distinct (tree_of [] x.tree)) k
    (x.findings.can_fail || not (is_extreme function))

-- the operand of a set function reads columns of its own query alone
abbrev pub function_over : (allowed : Bool) → ℕ → SetFunction → (distinct : Bool) → Bound → Outcome Bound
function_over allowed n function distinct x =
    if not allowed || nat_lt 0 x.findings.reach
    then Err fault.MisplacedSetFunction
    else kind_of_call function x.kind >>= λ k. Ok (function_call n function distinct x k)

-- ---- value expressions (6.11)

-- A value expression in these scopes. Set functions may be allowed; it may be the operand of one. The last number says how many
-- set functions of the query come before it.
module _ (scopes : List Scope) (parameters : List Declared) where
  abbrev pub bound : (allowed in_function : Bool) → Expr Named → ℕ → Outcome Bound
  bound allowed inside (literal v) n = literal_bound v
  bound allowed inside (parameter p) n = parameter_bound parameters p
  bound allowed inside user n = Ok (plain Numbered.user (Chars 18) user_findings)
  bound allowed inside (column c) n = column_value scopes inside c
  bound allowed inside count_rows n = count_bound allowed n
  bound allowed inside (set_function function distinct e) n =
      bound false true e 0 >>= function_over allowed n function distinct
  bound allowed inside (signed sign e) n = bound allowed inside e n >>= signed_as sign
  bound allowed inside (added sign a b) n =
      bound allowed inside a n >>= λ x. bound allowed inside b (n + length x.calls)
      >>= operated_as (sum_operator sign) x
  bound allowed inside (scaled sign a b) n =
      bound allowed inside a n >>= λ x. bound allowed inside b (n + length x.calls)
      >>= operated_as (product_operator sign) x
  bound allowed inside (bracketed e) n = bound allowed inside e n
