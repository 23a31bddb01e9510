-- The columns of a query specification have the names of its select list (ISO/IEC 9075:1992, 7.9).
use Rattle.std.proofs.Common.{◌≡◌, ℕ, ◌+◌, List, [], ◌∷◌, ◌++◌, map, Option, Some, Ok, refl, sym, ap, ◌∙◌}
use Rattle.std.specs.List.{enumerate_from, flat_map}
use Rattle.std.specs.Prelude.{⊤}
use Rattle.sq_lex.specs.declared.name.Name.{Name}
use Rattle.sq_meaning.specs.SortKeys.{item_name}
use Rattle.sq_meaning.specs.Spelled.{Named}
use Rattle.sq_meaning.specs.Status as status
use Rattle.sq_meaning.specs.Syntax.{SelectList, all_columns, expressions, Select, select}
use Rattle.sq_binding.specs.ColumnNames.{item_names, list_names, names_placed}
use Rattle.sq_binding.specs.Condition.{clause_bound, select_bound}
use Rattle.sq_binding.specs.Found.{Counts, Found, each}
use Rattle.sq_binding.specs.From.{NamedItem, from_bound, items_of}
use Rattle.sq_binding.specs.NumberedCondition.{NumberedSelect, ResultColumn, columns_of}
use Rattle.sq_binding.specs.Scope.{FromItem, ItemColumn}
use Rattle.sq_binding.specs.Select.{ShownColumn, Surroundings, column_of_item, columns_of_item, list_bound, of_groups, shown_column}
use Rattle.sq_binding.proofs.Inductions.Pieces.{list_holds, shown_holds, star_holds}
use Rattle.sq_binding.proofs.Placing.PlacedParts.{from_binds}
use Rattle.sq_binding.proofs.Inductions.QueryCases.{at_first, whole_holds}
use Rattle.sq_binding.proofs.Inductions.Turns.{anything, each_holds, it_is}

abbrev pub names_of : List ResultColumn → List (Option Name)
names_of columns = map (λ c. c.name) columns

abbrev shown_names : List ShownColumn → List (Option Name)
shown_names shown = names_of (map (λ c. c.column) shown)

names_append : (xs ys : List ShownColumn) → shown_names (xs ++ ys) ≡ shown_names xs ++ shown_names ys
names_append [] ys = refl
names_append (x ∷ xs) ys = ap (λ l. x.column.name ∷ l) (names_append xs ys)

item_shown : (n : ℕ) (cs : List ItemColumn) → shown_names (map (column_of_item n) cs) ≡ map (λ c. Some c.name) cs
item_shown n [] = refl
item_shown n (c ∷ cs) = ap (λ l. Some c.name ∷ l) (item_shown n cs)

items_shown : (n : ℕ) (items : List FromItem) → shown_names (flat_map columns_of_item (enumerate_from n items)) ≡ flat_map item_names items
items_shown n [] = refl
items_shown n (item ∷ items) =
    names_append (columns_of_item (n, item)) (flat_map columns_of_item (enumerate_from (n + 1) items)) ∙ (λ i. item_shown n item.columns i ++ items_shown (n + 1) items i)

list_shown : (a : Surroundings) (items : List FromItem) (list : SelectList Named) (counts : Counts) (x : Found (List ShownColumn)) → list_bound a items list counts ≡ Ok x → shown_names x.part ≡ list_names items list
list_shown a items all_columns counts x is =
    it_is (λ x. shown_names x.part ≡ flat_map item_names items) (list_bound a items all_columns counts) x is (star_holds a counts (λ x. shown_names x.part ≡ flat_map item_names items) items (items_shown 0 items))
list_shown a items (expressions es) counts x is =
    it_is (λ x. shown_names x.part ≡ map item_name es) (list_bound a items (expressions es) counts) x is
    (list_holds a counts (λ x. shown_names x.part ≡ map item_name es) items es
    (λ y so. it_is (λ y. shown_names y.part ≡ map item_name es) (each (shown_column a) es counts) y so
    (each_holds (λ counts e y. y.part.column.name ≡ item_name e) (λ counts es ys. shown_names ys.part ≡ map item_name es) (shown_column a)
    (λ counts e. shown_holds a counts (λ y. y.part.column.name ≡ item_name e) e (λ z also. refl)) (λ counts. refl) (λ counts e es y ys p q i. p i ∷ q i) es counts)))

-- the columns have the names of the text
pub names_are : (s : Select Named) (a : Surroundings) (counts : Counts) (x : Found NumberedSelect) → select_bound a s counts ≡ Ok x → names_placed a.names s ≡ Ok (names_of (columns_of x.part))
names_are (select distinct list from filter by having) a counts x is =
    it_is P (select_bound a (select distinct list from filter by having) counts) x is
    (whole_holds (λ a counts c x. ⊤) a counts distinct list from filter by having (λ a counts. anything (clause_bound a filter counts)) (λ a counts. anything (clause_bound a having counts)) P
    (λ items kept places shown groups parts right.
    let from_is = (it_is _ (from_bound a.names from (at_first counts.subqueries)) items parts.from_is (from_binds a.names from (at_first counts.subqueries))).is_so [] [] refl in
    ap (λ (o : status.Outcome (List NamedItem)). status.and_then o (λ items. Ok (list_names (items_of items) list))) from_is
    ∙ ap Ok (sym (list_shown (of_groups (items_of items.part) places.part a) (items_of items.part) list (at_first kept.subqueries) shown parts.list_is))))
  where
    P : Found NumberedSelect → Type 0
    P x = names_placed a.names (select distinct list from filter by having) ≡ Ok (names_of (columns_of x.part))
