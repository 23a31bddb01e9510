-- The value of a value expression in an environment (ISO/IEC 9075:1992, 6.2, 6.5 and 6.11 to 6.13). Operands are
-- evaluated from left to right, and the first status met is the outcome.
use Rattle.std.specs.Prelude.{ℕ, ◌+◌, ◌-◌, max, nat_le, pos, Bool, true, false, ◌==◌, if◌then◌else◌, List, [], ◌∷◌, ◌++◌, length, Result, Ok}
use Rattle.std.specs.List.{list_all}
use Rattle.sq_lex.specs.declared.name.Name.{Name}
use Rattle.sq_value.specs.Number.{Number}
use Rattle.sq_value.specs.Arithmetic as number
use Rattle.sq_value.specs.Arithmetic.{in_range, negated}
use Rattle.sq_value.specs.Comparison.{is_same}
use Rattle.sq_value.specs.SetFunctions.{number_or_fault, summed, averaged, extreme, without_nulls}
use Rattle.sq_value.specs.Text.{of_length}
use Rattle.sq_value.specs.declared.fault.ArithmeticFault.{ArithmeticFault}
use Rattle.sq_value.specs.declared.set_functions.Extreme.TheVariants.{Least, Greatest}
use Rattle.sq_value.specs.declared.value.Value.{Value}
use Rattle.sq_value.specs.declared.value.Value.TheVariants.{Null, Num, Chars}
use Rattle.sq_tree.specs.declared.expr.Sign.{Sign}
use Rattle.sq_tree.specs.declared.expr.Sign.TheVariants.{Plus, Minus}
use Rattle.sq_tree.specs.declared.expr.TimesSign.{TimesSign}
use Rattle.sq_tree.specs.declared.expr.TimesSign.TheVariants.{Times, Over}
use Rattle.sq_tree.specs.declared.expr.SetFunction.{SetFunction}
use Rattle.sq_tree.specs.declared.expr.SetFunction.TheVariants.{Count, Sum, Avg, Min, Max}
use Rattle.sq_meaning.specs.Status.{Outcome, ◌>>=◌, each, not_well_formed, with_status, arithmetic_status}
use Rattle.sq_meaning.specs.Syntax.{Naming, Expr, literal, parameter, user, column, count_rows, set_function, signed, added, scaled, bracketed}
use Rattle.sq_meaning.specs.Environment.{Row, Input, Scope, Env, Place, within, alone, items_in, value_at}
use Rattle.sq_meaning.specs.Rows.{firsts}

-- The readings of the parts of a tree that refer to something. They give the place of a column if these items are in
-- scope, a parameter's value, the head of an item of FROM, and its rows.
pub record Reading (N : Naming) : Type 0 where
  pub place : N.Column → List (List N.Item) → Outcome Place
  pub input : N.Parameter → List Input → Outcome Value
  pub item : N.Table → Outcome N.Item
  pub rows : N.Table → Outcome (List Row)

-- ---- arithmetic (6.12)

abbrev pub number_outcome : Result Number ArithmeticFault → Outcome Value
number_outcome result = with_status arithmetic_status (number_or_fault result)

-- between numbers; null if an operand is null
abbrev pub calculated : (Number → Number → Outcome Value) → Value → Value → Outcome Value
calculated operation (Num a) (Num b) = operation a b
calculated operation Null Null = Ok Null
calculated operation Null (Num b) = Ok Null
calculated operation (Num a) Null = Ok Null
calculated operation _ _ = not_well_formed

abbrev pub sum_of : Sign → Value → Value → Outcome Value
sum_of Plus = calculated (λ a b. number_outcome (number.added a b))
sum_of Minus = calculated (λ a b. number_outcome (number.subtracted a b))

-- no more than 18 digits are made after the point (own rule)
abbrev pub with_places : ℕ → Outcome Value → Outcome Value
with_places places outcome = if nat_le places 18 then outcome else not_well_formed

-- the scale of a product is the sum of both; a dividend is brought to as many places as its quotient needs
abbrev pub product_of : TimesSign → Value → Value → Outcome Value
product_of Times =
    calculated (λ a b. with_places (a.scale + b.scale) (number_outcome (number.multiplied a b)))
product_of Over =
    calculated
    (λ a b. with_places (max a.scale b.scale + b.scale - a.scale) (number_outcome (number.divided a b)))

abbrev pub with_sign : Sign → Value → Outcome Value
with_sign sign Null = Ok Null
with_sign Plus (Num n) = Ok (Num n)
with_sign Minus (Num n) = Ok (Num (negated n))
with_sign sign (Chars t) = not_well_formed

-- ---- set functions (6.5)

abbrev pub count_of : {A : Type 0} → List A → Outcome Value
count_of xs = number_outcome (in_range 0 (pos (length xs)))

-- null, or a number of the scale
abbrev pub is_of_scale : ℕ → Value → Bool
is_of_scale scale Null = true
is_of_scale scale (Num n) = n.scale == scale
is_of_scale scale (Chars t) = false

-- the scale of the first number, and 0 if there is none
abbrev pub first_scale : List Value → ℕ
first_scale [] = 0
first_scale (Null ∷ vs) = first_scale vs
first_scale (Num n ∷ vs) = n.scale
first_scale (Chars t ∷ vs) = first_scale vs

-- nulls aside, numbers of one scale
abbrev pub are_of_one_scale : List Value → Bool
are_of_one_scale vs = list_all (is_of_scale (first_scale vs)) vs

abbrev pub if_of_one_scale : List Value → Outcome Value → Outcome Value
if_of_one_scale vs outcome = if are_of_one_scale vs then outcome else not_well_formed

-- the value of a set function over the values of its operand: nulls are left out. Numbers that are added up are of one
-- scale, as the values of one expression are
abbrev pub function_value : SetFunction → List Value → Outcome Value
function_value Count values = count_of (without_nulls values)
function_value Sum values = if_of_one_scale values (with_status arithmetic_status (summed values))
function_value Avg values = if_of_one_scale values (with_status arithmetic_status (averaged values))
function_value Min values = Ok (extreme Least values)
function_value Max values = Ok (extreme Greatest values)

-- DISTINCT drops repeats first
abbrev pub distinct_values : Bool → List Value → List Value
distinct_values distinct values = if distinct then firsts is_same values else values

-- the result of a function on the nearest scope, within the scopes around it
abbrev pub of_nearest : {H A : Type 0} → Env H → (Scope H → Env H → Outcome A) → Outcome A
of_nearest env f =
    elim env.scopes [ [] ↦ not_well_formed | scope ∷ outer ↦ f scope (record env { scopes = outer }) ]

-- the operand's value for each line of the group in the nearest scope
abbrev pub over_group : {H : Type 0} → Env H → (Env H → Outcome Value) → Outcome (List Value)
over_group env operand =
    of_nearest env (λ scope outer. each (λ line. operand (within (alone scope.items line) outer)) scope.group)

-- ---- the value

-- USER has 18 characters (own rule)
abbrev pub user_value : Name → Value
user_value name = Chars (of_length 18 name)

abbrev pub value : {N : Naming} → Reading N → Expr N → Env N.Item → Outcome Value
value m (literal v) env = Ok v
value m (parameter p) env = m.input p env.inputs
value m user env = Ok (user_value env.user)
value m (column c) env = m.place c (items_in env) >>= value_at env
value m count_rows env = of_nearest env (λ scope outer. count_of scope.group)
value m (set_function function distinct operand) env =
    over_group env (value m operand) >>= λ values. function_value function (distinct_values distinct values)
value m (signed sign e) env = value m e env >>= with_sign sign
value m (added sign a b) env = value m a env >>= λ x. value m b env >>= λ y. sum_of sign x y
value m (scaled sign a b) env = value m a env >>= λ x. value m b env >>= λ y. product_of sign x y
value m (bracketed e) env = value m e env

-- ---- the set functions of an expression, in the order of the text

abbrev pub set_functions : {N : Naming} → Expr N → List (Expr N)
set_functions (literal v) = []
set_functions (parameter p) = []
set_functions user = []
set_functions (column c) = []
set_functions count_rows = count_rows ∷ []
set_functions (set_function function distinct operand) = set_function function distinct operand ∷ []
set_functions (signed sign e) = set_functions e
set_functions (added sign a b) = set_functions a ++ set_functions b
set_functions (scaled sign a b) = set_functions a ++ set_functions b
set_functions (bracketed e) = set_functions e
