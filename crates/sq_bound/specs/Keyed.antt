-- Searches that name a row by a key (own rule: such a search reads one row at most; ISO/IEC 9075:1992 asks nothing of how rows are
-- found).
use Rattle.std.specs.List.{list_all, list_any}
use Rattle.std.specs.Prelude.{◌≡◌, ℕ, Bool, true, false, not, ◌&&◌, ◌||◌, nat_eq, nat_le, nat_lt, List, [], ◌∷◌, get_or, length, map, slice_get, take, if◌then◌else◌, Option, Some, None, option_to_list}
use Rattle.sq_tree.specs.declared.cond.Comparison.TheVariants.{Equal}
use Rattle.sq_meaning.specs.Syntax.{column, compare, literal, parameter, signed}
use Rattle.sq_bound.specs.Condition.{PlacedCond, test_of}
use Rattle.sq_bound.specs.Expression.{PlacedExpr}
use Rattle.sq_bound.specs.Names.{option_all}
use Rattle.sq_bound.specs.declared.condition.BoundCond.{BoundCond, out-BoundCond}
use Rattle.sq_bound.specs.declared.condition.BoundConj.{BoundConj, out-BoundConj}
use Rattle.sq_bound.specs.declared.condition.BoundTest.{BoundTest}
use Rattle.sq_bound.specs.declared.condition.Predicate.TheVariants as bound
use Rattle.sq_bound.specs.declared.expression.BoundExpr.{BoundExpr}
use Rattle.sq_bound.specs.declared.names.Leaf.{Leaf}
use Rattle.sq_bound.specs.declared.names.TableBody.{TableBody}
use Rattle.sq_bound.specs.declared.names.TableBody.TheVariants as body

abbrev pub is_literal : PlacedExpr → Bool
is_literal (literal v) = true
is_literal _ = false

-- a literal, with or without a sign, or a parameter
abbrev pub is_constant : PlacedExpr → Bool
is_constant (literal v) = true
is_constant (signed sign e) = is_literal e
is_constant (parameter p) = true
is_constant _ = false

-- the column of the row that an expression is
abbrev pub own_column : PlacedExpr → Option ℕ
own_column (column p) = if nat_eq p.depth 0 then Some p.column else None
own_column _ = None

-- a test `left = right`
abbrev pub AreEqualled : BoundTest → BoundExpr → BoundExpr → Type 0
AreEqualled test left right = (test.negated ≡ false) × (test.predicate ≡ bound.Compare Equal left right)

-- a test `column = x` on the row with such an x names the column
abbrev pub column_named : PlacedCond → Option ℕ
column_named (compare Equal (column p) x) = if nat_eq p.depth 0 && is_constant x then Some p.column else None
column_named _ = None

-- the test names this column
abbrev pub names_column : ℕ → PlacedCond → Bool
names_column n c = list_any (nat_eq n) (option_to_list (column_named c))

-- the test names one of these columns
abbrev pub names_one_of : List ℕ → PlacedCond → Bool
names_one_of key c = list_any (λ n. names_column n c) key

-- the first tests, as many as the key has columns, name its columns and no other, and leave none of them out
abbrev pub start_with_key : List ℕ → List PlacedCond → Bool
start_with_key key tests =
    nat_le (length key) (length tests)
    && list_all (names_one_of key) (take (length key) tests)
    && list_all (λ n. list_any (names_column n) (take (length key) tests)) key

-- the condition is one term, whose tests start so
abbrev pub names_key : List ℕ → List BoundConj → Bool
names_key key [] = false
names_key key (term ∷ []) = start_with_key key (map (test_of []) (out-BoundConj term).tests)
names_key key (term ∷ next ∷ terms) = false

-- a condition on a base table, with no view between, names a row by the key with this number
abbrev pub is_named_by : Leaf → Option BoundCond → ℕ → Bool
is_named_by leaf None k = false
is_named_by leaf (Some own) k =
    nat_eq (length leaf.conditions) 0
    && nat_lt k (length leaf.table.keys)
    && names_key (get_or leaf.table.keys k []) (out-BoundCond own).terms

-- a key that fits has as many columns as this one, or more
abbrev pub has_no_fewer : (List ℕ → Bool) → List ℕ → List ℕ → Bool
has_no_fewer fits key other = not (fits other) || nat_le (length key) (length other)

-- The number of a key that fits and has no more columns than any other that fits, or none if no key fits. The tests that name the columns
-- of a key are the first of the tests that name the columns of a longer one. So if one of the values compared is null for the shorter key,
-- it is for the longer one too.
abbrev pub IsShortest : (List ℕ → Bool) → List (List ℕ) → Option ℕ → Type 0
IsShortest fits keys None = list_any fits keys ≡ false
IsShortest fits keys (Some k) =
    (key : List ℕ) × (slice_get keys k ≡ Some key) × (fits key ≡ true)
    × (list_all (has_no_fewer fits key) keys ≡ true)

-- the number of the shortest of these keys by which the condition names a row
abbrev pub IsShortestKey : List (List ℕ) → BoundCond → Option ℕ → Type 0
IsShortestKey keys own = IsShortest (λ key. names_key key (out-BoundCond own).terms) keys

-- no key of the base table by which the condition names a row has fewer columns than the one with this number
abbrev pub is_shortest_of : Leaf → Option BoundCond → ℕ → Bool
is_shortest_of leaf None k = false
is_shortest_of leaf (Some own) k =
    list_all (has_no_fewer (λ key. names_key key (out-BoundCond own).terms) (get_or leaf.table.keys k []))
    leaf.table.keys

-- nothing is between a base table and itself
abbrev pub is_plain_base : TableBody → Option Leaf → Bool
is_plain_base (body.Base b) leaf = option_all (λ l. nat_eq (length l.conditions) 0) leaf
is_plain_base (body.View v) leaf = true
