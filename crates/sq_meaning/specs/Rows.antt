-- Lists of rows: products, classes, and the stable order (ISO/IEC 9075:1992, 3.1, 7.4, 7.7, 7.9 and 13.1). In which
-- order rows come is an own rule.
use Rattle.std.specs.Prelude.{ℕ, Bool, if◌then◌else◌, not, List, [], ◌∷◌, filter, map, slice_index_or}
use Rattle.std.specs.List.{flat_map}
use Rattle.std.specs.Cmp.Lexicographic.{pointwise}
use Rattle.std.specs.declared.cmp.Ordering.{Ordering}
use Rattle.std.specs.declared.cmp.Ordering.TheVariants.{Equal}
use Rattle.std.specs.Ordering.{is_gt, on, flip_args, then_cmp}
use Rattle.sq_value.specs.Comparison.{is_same, ordered}
use Rattle.sq_value.specs.declared.value.Value.{Value}
use Rattle.sq_value.specs.declared.value.Value.TheVariants.{Null}

-- every way to take one of each, the first slowest (7.4)
abbrev pub product : {A : Type 0} → List (List A) → List (List A)
product [] = [] ∷ []
product (xs ∷ others) = flat_map (λ x. map (λ line. x ∷ line) (product others)) xs

-- not distinct: the same in each place, null the same as null (3.1)
abbrev pub same_row : List Value → List Value → Bool
same_row = pointwise is_same

-- the first of each class of elements that are the same, in the order in which they come
abbrev pub firsts : {A : Type 0} → (A → A → Bool) → List A → List A
firsts same [] = []
firsts same (x ∷ xs) = x ∷ filter (λ y. not (same x y)) (firsts same xs)

-- the classes, by first occurrence
abbrev pub classes : {A : Type 0} → (A → A → Bool) → List A → List (List A)
classes same xs = map (λ first. filter (same first) xs) (firsts same xs)

-- ---- order

-- before all that are not lower
abbrev pub before_higher : {A : Type 0} → (A → A → Ordering) → A → List A → List A
before_higher cmp x [] = x ∷ []
before_higher cmp x (y ∷ ys) = if is_gt (cmp x y) then y ∷ before_higher cmp x ys else x ∷ y ∷ ys

-- in order, and ties as they were
abbrev pub sorted : {A : Type 0} → (A → A → Ordering) → List A → List A
sorted cmp [] = []
sorted cmp (x ∷ xs) = before_higher cmp x (sorted cmp xs)

-- a column to sort by, from 0, and whether it goes down
pub record SortColumn : Type 0 where
  pub column : ℕ
  pub descending : Bool

-- the value of a row in a column
abbrev pub in_column : ℕ → List Value → Value
in_column c row = slice_index_or row c Null

-- null is lowest (own rule); down is the other way round
abbrev pub by_column : SortColumn → List Value → List Value → Ordering
by_column s =
    if s.descending then flip_args (on (in_column s.column) ordered) else on (in_column s.column) ordered

-- by the first column, and among ties by the others
abbrev pub by_columns : List SortColumn → List Value → List Value → Ordering
by_columns [] = λ r t. Equal
by_columns (s ∷ others) = then_cmp (by_column s) (by_columns others)
