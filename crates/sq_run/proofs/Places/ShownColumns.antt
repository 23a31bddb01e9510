-- Which columns an updatable query shows (ISO/IEC 9075:1992, 7.9): by name each select item is a column of the only item, by place
-- it is placed at the position of that column.
use Rattle.std.proofs.Common.{◌≡◌, ℕ, zero, suc, ◌+◌, List, [], ◌∷◌, ◌++◌, map, Option, Some, None, refl, sym, ap, ◌∙◌, Ok, Err}
use Rattle.std.specs.Prelude.{⊤, IfOk, slice_get, slice_index}
use Rattle.std.specs.List.{AllZip, enumerate_from, filter_map}
use Rattle.std.specs.Option.{option_map}
use Rattle.sq_tree.specs.declared.names.ColumnReference.{ColumnReference}
use Rattle.sq_meaning.specs.Status.{Outcome, and_then, each, not_well_formed, well_formed, well_formed_if}
use Rattle.sq_meaning.specs.Syntax.{Expr, literal, parameter, user, column, count_rows, set_function, signed, added, scaled, bracketed, SelectList, all_columns, expressions}
use Rattle.sq_meaning.specs.Environment.{Place, TableReference, column_in, nearest}
use Rattle.sq_meaning.specs.Spelled.{Named}
use Rattle.sq_meaning.specs.Target.{are_distinct, shown_column, shown_columns}
use Rattle.sq_bound.specs.Expression.{PlacedExpr}
use Rattle.sq_bound.specs.Known.{KnownTable}
use Rattle.sq_bound.specs.declared.names.Column.{Column}
use Rattle.sq_binding.specs.From.{column_over}
use Rattle.sq_binding.specs.Placed.{column_at, placed, placed_column}
use Rattle.sq_binding.specs.PlacedQuery.{expr_placed, list_placed}
use Rattle.sq_binding.specs.Scope.{FromItem, ItemColumn, item_named}
use Rattle.sq_binding.specs.Names.{declared, descriptor_of, leaf_positions}
use Rattle.sq_binding.specs.Written.{IsShownAt}
use Rattle.sq_run.proofs.Places.Items.{IsInOrder}
use Rattle.sq_run.proofs.Places.Lists as lists
use Rattle.sq_run.proofs.Places.Outcomes.{if_any, if_one, if_then}
use Rattle.sq_run.proofs.Places.Setting.{Setting, around, known_item, scopes_with}

-- an expression is the column at this number
abbrev pub IsColumnAt : PlacedExpr → ℕ → Type 0
IsColumnAt e k = e ≡ column (record { depth = 0; item = 0; column = k })

-- ---- one column

abbrev Shows : FromItem → Expr Named → PlacedExpr → Type 0
Shows item e x = IfOk (shown_column (item_named item) e) (IsColumnAt x)

column_shown : (item : FromItem) → IsInOrder item → (r : ColumnReference)
    → IfOk (placed_column (scopes_with ((item ∷ []) ∷ [])) r) (λ p. Shows item (column r) (column p))
column_shown item order r = by_column (column_in r (item_named item))
  where
    AtPlace : Option ℕ → Place → Type 0
    AtPlace o p = IfOk (well_formed o) (IsColumnAt (column p))

    by_found : (k : ℕ) (o : Option ItemColumn) → slice_get item.columns k ≡ o
        → IfOk (well_formed (option_map (λ c. record { depth = 0; item = 0; column = c.position }) o)) (AtPlace (Some k))
    by_found k None e = tt
    by_found k (Some c) e = ap (λ n. column (record { depth = 0; item = 0; column = n })) (order k c e)

    by_column : (o : Option ℕ)
        → IfOk (and_then (nearest (filter_map (λ i. i) (option_map (λ k. (0, k)) o ∷ [])) not_well_formed) (λ at. well_formed (option_map (λ c. record at { column = c.position })
        (column_at (scopes_with ((item ∷ []) ∷ [])) at)))) (AtPlace o)
    by_column None = tt
    by_column (Some k) = by_found k (slice_get item.columns k) refl

expr_shown : (s : Setting) (item : FromItem) → IsInOrder item → (e : Expr Named)
    → IfOk (placed (scopes_with ((item ∷ []) ∷ [])) (declared s.parameters) e) (Shows item e)
expr_shown s item order (column c) =
    if_one (placed_column (scopes_with ((item ∷ []) ∷ [])) c) (λ p. column p) (λ p. Shows item (column c) (column p)) (Shows item (column c))
    (column_shown item order c) (λ p h. h)
expr_shown s item order (literal v) = tt
expr_shown s item order (parameter p) = any_shown (placed (scopes_with ((item ∷ []) ∷ [])) (declared s.parameters) (parameter p))
  where
    any_shown : (o : Outcome PlacedExpr) → IfOk o (λ x. ⊤)
    any_shown o = if_any o
expr_shown s item order user = tt
expr_shown s item order count_rows = tt
expr_shown s item order (set_function f distinct e) = if_any (placed (scopes_with ((item ∷ []) ∷ [])) (declared s.parameters) (set_function f distinct e))
expr_shown s item order (signed sign e) = if_any (placed (scopes_with ((item ∷ []) ∷ [])) (declared s.parameters) (signed sign e))
expr_shown s item order (added sign a b) = if_any (placed (scopes_with ((item ∷ []) ∷ [])) (declared s.parameters) (added sign a b))
expr_shown s item order (scaled sign a b) = if_any (placed (scopes_with ((item ∷ []) ∷ [])) (declared s.parameters) (scaled sign a b))
expr_shown s item order (bracketed e) = if_any (placed (scopes_with ((item ∷ []) ∷ [])) (declared s.parameters) e)

-- ---- all of a select list

each_shown : (s : Setting) (item : FromItem) → IsInOrder item → (es : List (Expr Named))
    → IfOk (each (placed (scopes_with ((item ∷ []) ∷ [])) (declared s.parameters)) es)
    (λ xs. IfOk (each (shown_column (item_named item)) es) (AllZip IsColumnAt xs))
each_shown s item order [] = tt
each_shown s item order (e ∷ es) =
    if_then (placed (scopes_with ((item ∷ []) ∷ [])) (declared s.parameters) e)
    (λ x. and_then (each (placed (scopes_with ((item ∷ []) ∷ [])) (declared s.parameters)) es) (λ xs. Ok (x ∷ xs))) (Shows item e)
    (λ xs. IfOk (each (shown_column (item_named item)) (e ∷ es)) (AllZip IsColumnAt xs)) (expr_shown s item order e)
    (λ x one. if_one (each (placed (scopes_with ((item ∷ []) ∷ [])) (declared s.parameters)) es) (λ xs. x ∷ xs) (λ xs. IfOk (each (shown_column (item_named item)) es) (AllZip IsColumnAt xs)) (λ xs. IfOk (each (shown_column (item_named item)) (e ∷ es)) (AllZip IsColumnAt xs)) (each_shown s item order es)
    (λ xs others. if_then (shown_column (item_named item) e) (λ k. and_then (each (shown_column (item_named item)) es) (λ ks. Ok (k ∷ ks))) (IsColumnAt x) (AllZip IsColumnAt (x ∷ xs)) one
    (λ k at. if_one (each (shown_column (item_named item)) es) (λ ks. k ∷ ks) (AllZip IsColumnAt xs) (AllZip IsColumnAt (x ∷ xs)) others (λ ks rest. (at, rest)))))

all_shown : (n : ℕ) (columns : List Column)
    → AllZip IsColumnAt (lists.shown_columns 0 (map column_over (enumerate_from n (map descriptor_of columns))) ++ [])
    (map (λ p. p.0) (enumerate_from n (map (λ c. c.name) (map column_over (enumerate_from n (map descriptor_of columns))))))
all_shown n [] = tt
all_shown n (c ∷ cs) = (refl, all_shown (n + 1) cs)

-- each once, which has no bearing here
if_distinct : (o : Outcome (List ℕ)) (xs : List PlacedExpr) → IfOk o (AllZip IsColumnAt xs)
    → IfOk (and_then o (λ ks. and_then (well_formed_if (are_distinct ks)) (λ _. Ok ks))) (AllZip IsColumnAt xs)
if_distinct (Err status) xs h = tt
if_distinct (Ok ks) xs h =
    if_then (well_formed_if (are_distinct ks)) (λ _. Ok ks) (λ _. ⊤) (AllZip IsColumnAt xs)
    (if_any (well_formed_if (are_distinct ks))) (λ _ any. h)

pub list_shown : (s : Setting) (r : TableReference) (t : KnownTable) → IsInOrder (known_item r t).item → (list : SelectList Named)
    → IfOk (list_placed (around s (((known_item r t).item ∷ []) ∷ [])) ((known_item r t).item ∷ []) list)
    (λ xs. IfOk (shown_columns (item_named (known_item r t).item) list) (AllZip IsColumnAt xs))
list_shown s r t order all_columns = all_shown 0 t.columns
list_shown s r t order (expressions es) =
    if_then_distinct (each (expr_placed (around s (((known_item r t).item ∷ []) ∷ []))) es)
    (each_shown s (known_item r t).item order es)
  where
    if_then_distinct : (o : Outcome (List PlacedExpr))
        → IfOk o (λ xs. IfOk (each (shown_column (item_named (known_item r t).item)) es) (AllZip IsColumnAt xs))
        → IfOk o (λ xs. IfOk (shown_columns (item_named (known_item r t).item) (expressions es)) (AllZip IsColumnAt xs))
    if_then_distinct (Err status) h = tt
    if_then_distinct (Ok xs) h = if_distinct (each (shown_column (item_named (known_item r t).item)) es) xs h

-- ---- the columns of the base table

pub get_some : (ks : List ℕ) (n k : ℕ) → slice_get ks n ≡ Some k → slice_index ks n ≡ k
get_some [] n k e = cc
get_some (x ∷ xs) zero k e = cc
get_some (x ∷ xs) (suc n) k e = get_some xs n k e

place_is : (p : Place) (k : ℕ) → IsColumnAt (column p) k → p.column ≡ k
place_is p k e = let same : p ≡ record { depth = 0; item = 0; column = k } = cc in ap (λ (q : Place). q.column) same

pub positions_same : (columns : List Column) (xs : List PlacedExpr) (ks positions : List ℕ) → AllZip IsColumnAt xs ks
    → AllZip (IsShownAt columns) xs positions → map (λ k. slice_index (leaf_positions columns) k) ks ≡ positions
positions_same columns [] [] [] h r = refl
positions_same columns [] [] (p ∷ ps) h r = absurd r
positions_same columns [] (k ∷ ks) ps h r = absurd h
positions_same columns (x ∷ xs) [] ps h r = absurd h
positions_same columns (x ∷ xs) (k ∷ ks) [] h r = absurd r
positions_same columns (x ∷ xs) (k ∷ ks) (position ∷ ps) h r =
    (λ i. get_some (leaf_positions columns) k position (ap (slice_get (leaf_positions columns)) (sym (place_is r.0.0 k (sym r.0.1 ∙ h.0))) ∙ r.0.2) i ∷ positions_same columns xs ks ps h.1 r.1 i)
