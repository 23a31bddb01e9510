-- All columns of all items, one after the other.
use Rattle.std.proofs.Common.{◌≡◌, ℕ, ◌+◌, ◌<◌, List, [], ◌∷◌, ◌++◌, length, length-take-le, take, map, get_or, sym, ap, ◌∙◌, append_assoc, arith, zero-add}
use Rattle.std.proofs.lemmas.List.{flat_map_more, length-map, map-append, take_more}
use Rattle.std.specs.List.{enumerate_from, flat_map}
use Rattle.sq_binding.specs.Select.{ShownColumn, column_of_item, columns_of_item, columns_of_items}
use Rattle.sq_binder.specs.Scope.{column_of, item_of}
use Rattle.sq_binder.specs.SelectList.{Shown, behind, split, with_shown}
use Rattle.sq_binder.specs.declared.column.ItemColumn.{ItemColumn}
use Rattle.sq_binder.specs.declared.scope.FromItem.{FromItem}
use Rattle.sq_binder.proofs.Clauses.FromItems.{enumerate_from-append}

-- ---- one more column

one_more : (s : Shown) (xs : List ShownColumn) (x : ShownColumn) → with_shown (behind s xs) x ≡ behind s (xs ++ x ∷ [])
one_more s xs x = λ i. (
  (append_assoc s.0 (map (λ c. c.tree) xs) (x.tree ∷ []) ∙ ap (λ l. s.0 ++ l) (sym (map-append (λ c. c.tree) xs (x ∷ [])))) i,
  (append_assoc s.1 (map (λ c. c.column) xs) (x.column ∷ []) ∙ ap (λ l. s.1 ++ l) (sym (map-append (λ c. c.column) xs (x ∷ [])))) i,
)

abbrev pub columns_so_far : ℕ → List ItemColumn → List ShownColumn
columns_so_far n columns = map (column_of_item n) (map column_of columns)

pub column_next : (s : Shown) (n : ℕ) (columns : List ItemColumn) (i : ℕ) (column : ItemColumn) → i < length columns → column ≡ get_or columns i column
    → with_shown (behind s (columns_so_far n (take i columns))) (column_of_item n (column_of column)) ≡ behind s (columns_so_far n (take (i + 1) columns))
column_next s n columns i column lt at =
    one_more s (columns_so_far n (take i columns)) (column_of_item n (column_of column))
    ∙ ap (behind s) (sym (ap (columns_so_far n) (take_more columns i column lt ∙ ap (λ x. take i columns ++ x ∷ []) (sym at))
    ∙ ap (map (column_of_item n)) (map-append column_of (take i columns) (column ∷ [])) ∙ map-append (column_of_item n) (map column_of (take i columns)) (column_of column ∷ [])))

-- ---- one more item

abbrev pub items_so_far : List FromItem → List ShownColumn
items_so_far items = columns_of_items (map item_of items)

pub item_next : (items : List FromItem) (i : ℕ) (item : FromItem) → i < length items → item ≡ get_or items i item
    → behind (split (items_so_far (take i items))) (columns_of_item (i, item_of item)) ≡ split (items_so_far (take (i + 1) items))
item_next items i item lt at =
    let before = map item_of (take i items) in
    let long : length before ≡ i = length-map (take i items) item_of ∙ length-take-le i items (omega (arith, lt)) in
    let more : items_so_far (take (i + 1) items) ≡ items_so_far (take i items) ++ columns_of_item (i, item_of item) =
    ap items_so_far (take_more items i item lt ∙ ap (λ x. take i items ++ x ∷ []) (sym at))
    ∙ ap columns_of_items (map-append item_of (take i items) (item ∷ []))
    ∙ ap (flat_map columns_of_item) (enumerate_from-append 0 before (item_of item ∷ []))
    ∙ sym (flat_map_more columns_of_item [] (enumerate_from 0 before) (0 + length before, item_of item))
    ∙ ap (λ n. items_so_far (take i items) ++ columns_of_item (n, item_of item)) (zero-add (length before) ∙ long) in
    (λ j. (sym (map-append (λ c. c.tree) (items_so_far (take i items)) (columns_of_item (i, item_of item))) j, sym (map-append (λ c. c.column) (items_so_far (take i items)) (columns_of_item (i, item_of item))) j))
    ∙ ap split (sym more)
