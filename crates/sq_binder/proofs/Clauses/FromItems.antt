-- Items of FROM: their columns, and whether two are exposed by one name.
use Rattle.std.proofs.Common.{◌≡◌, ℕ, suc, ◌+◌, ◌-◌, ◌<◌, ◌≤◌, Bool, ◌||◌, List, [], ◌∷◌, ◌++◌, length, length-take-le, take, take_all, drop, map, get_or, Option, None, Some, refl, sym, ap, ◌∙◌, arith, add-zero, zero-add}
use Rattle.std.proofs.lemmas.List.{length-map, map-append, take_more}
use Rattle.std.specs.List.{cons_option, enumerate_from, filter_map, list_any}
use Rattle.std.specs.Prelude.{filter}
use Rattle.sq_value.proofs.Truths.{or_assoc, or_swap}
use Rattle.sq_lex.specs.declared.name.Name.{Name}
use Rattle.sq_meaning.specs.Environment.{TableName, TableReference, same_name, same_table}
use Rattle.sq_bound.specs.declared.names.Column.{Column}
use Rattle.sq_meaning.specs.Binding.{has_item_twice, is_uncorrelated}
use Rattle.sq_meaning.specs.Words.{has_twice}
use Rattle.sq_binding.specs.From.{column_over}
use Rattle.sq_binder.specs.From.{clashes, columns_over, exposed, same_names}
use Rattle.sq_binder.specs.Surroundings.{descriptor_of}
use Rattle.sq_binder.specs.declared.scope.FromItem.{FromItem}
use Rattle.sq_binder.proofs.OneByOne.Positions.{list_any-map}

-- ---- exposed twice

abbrev correlations : List TableReference → List Name
correlations rs = filter_map (λ r. r.correlation) rs

abbrev uncorrelated : List TableReference → List TableName
uncorrelated rs = map (λ r. r.table) (filter is_uncorrelated rs)

module _ (t : TableName) where
  names_at : (m : Name) (names : List Name) (b : Bool) → list_any (same_name m) names ≡ b → (o : Option Name) (u : TableName) → list_any (same_name m) (cons_option o names) ≡ (same_names (Some m) o (same_table t u) || b)
  names_at m names b same None u = same
  names_at m names b same (Some n) u = ap (λ (b : Bool). same_name m n || b) same

  any_names : (m : Name) (rs : List TableReference) → list_any (same_name m) (correlations rs) ≡ list_any (clashes (record { table = t; correlation = Some m })) rs
  any_names m [] = refl
  any_names m (s ∷ rs) = names_at m (correlations rs) (list_any (clashes (record { table = t; correlation = Some m })) rs) (any_names m rs) s.correlation s.table

  tables_at : (rs : List TableReference) (b : Bool) → list_any (same_table t) (uncorrelated rs) ≡ b → (o : Option Name) (u : TableName)
      → list_any (same_table t) (uncorrelated (record { table = u; correlation = o } ∷ rs)) ≡ (same_names None o (same_table t u) || b)
  tables_at rs b same None u = ap (λ (b : Bool). same_table t u || b) same
  tables_at rs b same (Some n) u = same

  any_tables : (rs : List TableReference) → list_any (same_table t) (uncorrelated rs) ≡ list_any (clashes (record { table = t; correlation = None })) rs
  any_tables [] = refl
  any_tables (s ∷ rs) = tables_at rs (list_any (clashes (record { table = t; correlation = None })) rs) (any_tables rs) s.correlation s.table

twice_at : (t : TableName) (o : Option Name) (rs : List TableReference) → let r : TableReference = record { table = t; correlation = o } in has_item_twice (r ∷ rs) ≡ (list_any (clashes r) rs || has_item_twice rs)
twice_at t (Some m) rs =
    let names = has_twice same_name (correlations rs) in
    let tables = has_twice same_table (uncorrelated rs) in
    or_assoc (list_any (same_name m) (correlations rs)) names tables ∙ ap (λ (b : Bool). b || (names || tables)) (any_names t m rs)
twice_at t None rs =
    let names = has_twice same_name (correlations rs) in
    let tables = has_twice same_table (uncorrelated rs) in
    or_swap names (list_any (same_table t) (uncorrelated rs)) tables ∙ ap (λ (b : Bool). b || (names || tables)) (any_tables t rs)

-- one of them is exposed by the name of a later one, or two later ones are by one name
pub twice_step : (r : TableReference) (rs : List TableReference) → has_item_twice (r ∷ rs) ≡ (list_any (clashes r) rs || has_item_twice rs)
twice_step r rs = twice_at r.table r.correlation rs

-- the items behind the first
abbrev pub later : List FromItem → List FromItem
later items = take (length items - 1) (drop 1 items)

all_later : (x : FromItem) (xs : List FromItem) → later (x ∷ xs) ≡ xs
all_later x xs =
    let others : length (x ∷ xs) - 1 ≡ length xs = omega arith in
    ap (λ n. take n xs) others ∙ take_all (length xs) xs (omega arith)

pub twice_split : (items : List FromItem) (item : FromItem) → 1 ≤ length items → item ≡ get_or items 0 item
    → has_item_twice (map exposed items) ≡ (list_any (λ other. clashes (exposed item) (exposed other)) (later items) || has_item_twice (map exposed (later items)))
twice_split [] item some at = absurd (omega arith)
twice_split (x ∷ xs) item some at =
    twice_step (exposed x) (map exposed xs) ∙ ap (λ (b : Bool). b || has_item_twice (map exposed xs)) (list_any-map exposed (clashes (exposed x)) xs)
    ∙ (λ i. list_any (λ other. clashes (exposed (sym at i)) (exposed other)) (sym (all_later x xs) i) || has_item_twice (map exposed (sym (all_later x xs) i)))

-- ---- columns

pub enumerate_from-append : {X : Type 0} (n : ℕ) (xs ys : List X) → enumerate_from n (xs ++ ys) ≡ enumerate_from n xs ++ enumerate_from (n + length xs) ys
enumerate_from-append n [] ys = ap (λ k. enumerate_from k ys) (sym (add-zero n))
enumerate_from-append n (x ∷ xs) ys =
    let next : (n + 1) + length xs ≡ n + suc (length xs) = omega arith in
    ap (λ rest. (n, x) ∷ rest) (enumerate_from-append (n + 1) xs ys ∙ ap (λ k. enumerate_from (n + 1) xs ++ enumerate_from k ys) next)

pub columns_next : (columns : List Column) (i : ℕ) (column : Column) → i < length columns → get_or columns i column ≡ column
    → columns_over (take (i + 1) columns) ≡ columns_over (take i columns) ++ column_over (i, descriptor_of column) ∷ []
columns_next columns i column lt at =
    let before = map descriptor_of (take i columns) in
    let long : length before ≡ i = length-map (take i columns) descriptor_of ∙ length-take-le i columns (omega (arith, lt)) in
    ap columns_over (take_more columns i column lt ∙ ap (λ x. take i columns ++ x ∷ []) at)
    ∙ ap (λ cs. map column_over (enumerate_from 0 cs)) (map-append descriptor_of (take i columns) (column ∷ []))
    ∙ ap (map column_over) (enumerate_from-append 0 before (descriptor_of column ∷ []))
    ∙ map-append column_over (enumerate_from 0 before) (enumerate_from (0 + length before) (descriptor_of column ∷ []))
    ∙ ap (λ n. columns_over (take i columns) ++ column_over (n, descriptor_of column) ∷ []) (zero-add (length before) ∙ long)
