-- Select items that are columns, one after the other.
use Rattle.std.proofs.Common.{◌≡◌, ◌∙◌, ℕ, zero, suc, ◌+◌, ◌<◌, ◌≤◌, Bool, true, false, not, ◌&&◌, List, [], ◌∷◌, ◌++◌, length, get_or, drop, drop-cons, map, Option, Some, None, refl, ap, sym, arith}
use Rattle.std.specs.Prelude.{option_to_list}
use Rattle.std.specs.List.{list_any}
use Rattle.sq_lex.specs.declared.name.Name.{Name}
use Rattle.sq_tree.specs.declared.expr.Expr.{Expr}
use Rattle.sq_meaning.specs.Environment.{same_name}
use Rattle.sq_meaning.specs.Words.{is_some_and}
use Rattle.sq_check.specs.Rule.{are_new_columns, column_of}

abbrev is_new_in : List Name → Option Name → Bool
is_new_in names item = is_some_and (λ name. not (list_any (same_name name) names)) item

-- the first item is no new column
first_fails : (names : List Name) (item : Option Name) (items : List (Option Name)) → is_new_in names item ≡ false → are_new_columns names (item ∷ items) ≡ false
first_fails names None items isnt = refl
first_fails names (Some name) items isnt = ap (λ b. b && are_new_columns (names ++ name ∷ []) items) isnt

-- an item that is a new column
first_holds : (names new : List Name) (item : Option Name) (items : List (Option Name)) → is_new_in names item ≡ true → new ≡ names ++ option_to_list item
    → are_new_columns names (item ∷ items) ≡ are_new_columns new items
first_holds names new None items so added = cc
first_holds names new (Some name) items so added =
    ap (λ b. b && are_new_columns (names ++ name ∷ []) items) so ∙ ap (λ l. are_new_columns l items) (sym added)

at_place : (items : List Expr) (i : ℕ) (item : Expr) → i < length items → item ≡ get_or items i item → map column_of (drop i items) ≡ column_of item ∷ map column_of (drop (i + 1) items)
at_place items i item lt is =
    let next : suc i ≡ i + 1 = omega arith in
    ap (map column_of) (drop-cons items i item lt ∙ (λ j. sym is j ∷ drop (next j) items))

pub first_is_none : (names : List Name) (first : Expr) (rest : List Expr) (is : Bool) → is ≡ is_new_in names (column_of first) → is ≡ false → are_new_columns names (map column_of (first ∷ rest)) ≡ false
first_is_none names first rest is answer isnt = first_fails names (column_of first) (map column_of rest) (sym answer ∙ isnt)

pub first_is_one : (names new : List Name) (first : Expr) (rest : List Expr) (is : Bool) → is ≡ is_new_in names (column_of first) → is ≡ true → new ≡ names ++ option_to_list (column_of first)
    → are_new_columns names (map column_of (first ∷ rest)) ≡ are_new_columns new (map column_of rest)
first_is_one names new first rest is answer so added = first_holds names new (column_of first) (map column_of rest) (sym answer ∙ so) added

pub next_is_none : (names : List Name) (items : List Expr) (i : ℕ) (item : Expr) (is : Bool) → i < length items → item ≡ get_or items i item → is ≡ is_new_in names (column_of item) → is ≡ false
    → are_new_columns names (map column_of (drop i items)) ≡ false
next_is_none names items i item is lt at answer isnt =
    ap (are_new_columns names) (at_place items i item lt at) ∙ first_is_none names item (drop (i + 1) items) is answer isnt

pub next_is_one : (names new : List Name) (items : List Expr) (i : ℕ) (item : Expr) (is : Bool) → i < length items → item ≡ get_or items i item → is ≡ is_new_in names (column_of item) → is ≡ true
    → new ≡ names ++ option_to_list (column_of item) → are_new_columns new (map column_of (drop (i + 1) items)) ≡ are_new_columns names (map column_of (drop i items))
next_is_one names new items i item is lt at answer so added =
    sym (ap (are_new_columns names) (at_place items i item lt at) ∙ first_is_one names new item (drop (i + 1) items) is answer so added)

pub none_left : (names : List Name) (items : List Expr) (i : ℕ) → length items ≤ i → are_new_columns names (map column_of (drop i items)) ≡ true
none_left names [] zero le = refl
none_left names [] (suc i) le = refl
none_left names (x ∷ items) zero le = absurd (omega (arith, le))
none_left names (x ∷ items) (suc i) le = none_left names items i (omega (arith, le))
