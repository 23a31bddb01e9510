-- The select lists, FROM items and grouping columns of query specifications are bound to trees by place. These are well formed at the
-- levels of their scopes (ISO/IEC 9075:1992, 7.4, 7.7 and 7.9).
use Rattle.std.proofs.Common.{◌≡◌, ◌⊎◌, inl, inr, ℕ, zero, suc, ◌+◌, Bool, true, false, not, ◌&&◌, ◌||◌, List, [], ◌∷◌, ◌++◌, map, Some, Ok, Err, arith, refl, sym, ap, subst, ◌∙◌, add-zero, append_assoc, zero-add}
use Rattle.std.specs.Prelude.{IsTrue, nat_eq, nat_lt, slice_get}
use Rattle.std.specs.List.{AllByRecursion, AllZip, enumerate_from, flat_map}
use Rattle.sq_value.specs.declared.domain.Kind.{Kind}
use Rattle.sq_tree.specs.declared.names.ColumnReference.{ColumnReference}
use Rattle.sq_meaning.specs.Environment.{Place, Row, TableReference}
use Rattle.sq_meaning.specs.Expression.{set_functions}
use Rattle.sq_meaning.specs.Kind.{kind}
use Rattle.sq_meaning.specs.Placed.{Placed, by_place}
use Rattle.sq_meaning.specs.Query.{is_some_of}
use Rattle.sq_meaning.specs.SortKeys.{item_name}
use Rattle.sq_meaning.specs.Spelled.{Named}
use Rattle.sq_meaning.specs.Status as status
use Rattle.sq_meaning.specs.Syntax.{Expr, column, SelectList, all_columns, expressions}
use Rattle.sq_meaning.specs.WellFormed.{Has, HasValue, IsDeclaredAt, Level, WellFormedColumn, WellFormedExprs, WellFormedTable, froms}
use Rattle.sq_bound.specs.Expression.{PlacedExpr}
use Rattle.sq_bound.specs.WellFormed.{Levels, TableKinds}
use Rattle.sq_bound.specs.declared.condition.TablePlace.{TablePlace}
use Rattle.sq_binding.specs.Found.{Counts, Found, each, joined}
use Rattle.sq_binding.specs.From.{NamedItem, NamedTables, from_bound, item_bound, item_over, items_of, tables_of}
use Rattle.sq_binding.specs.NumberedCondition.{NumberedClause}
use Rattle.sq_binding.specs.PlacedQuery.{columns_placed, expr_placed, list_placed}
use Rattle.sq_binding.specs.Scope.{FromItem, ItemColumn}
use Rattle.sq_binding.specs.Select.{Parts, ShownColumn, Surroundings, Typed, column_of_item, columns_of_item, grouping_column, groups_by, is_star, list_bound, of_groups, shown_column, value}
use Rattle.sq_binding.proofs.Standing.CondsStand.{K, value_stands, well_expr}
use Rattle.sq_binding.proofs.Standing.ExprsStand.{column_there}
use Rattle.sq_binding.proofs.Standing.Levels.{AreLevels, HasKind, IsItemOver, MayStandAt, NamesKnow, Stands, column_stands, is_no_column, item_is_over, kinds_declared, may_first, may_read, may_second}
use Rattle.sq_binding.proofs.Inductions.Pieces.{from_holds, grouping_holds, item_holds, kinds_shown, list_holds, shown_holds, star_holds}
use Rattle.sq_binding.proofs.Placing.PlacedParts.{around}
use Rattle.sq_binding.proofs.Inductions.QueryCases.{IsGroupedRightly}
use Rattle.sq_binding.proofs.Inductions.Steps.{two_steps}
use Rattle.sq_binding.proofs.Inductions.Turns.{each_holds, it_is, put}

-- ---- lists side by side

zip_append : {A B : Type 0} (R : A → B → Type 0) (xs more : List A) (ys others : List B) → AllZip R xs ys → AllZip R more others → AllZip R (xs ++ more) (ys ++ others)
zip_append R [] more [] others h g = g
zip_append R [] more (y ∷ ys) others h g = absurd h
zip_append R (x ∷ xs) more [] others h g = absurd h
zip_append R (x ∷ xs) more (y ∷ ys) others h g = (h.0, zip_append R xs more ys others h.1 g)

-- a part is what is left of nothing
pub none_left : {A : Type 0} (xs ys : List A) → xs ++ ys ≡ [] → xs ≡ []
none_left [] ys e = refl
none_left (x ∷ xs) ys e = cc

module _ (columns : TableKinds) (a : Surroundings) where
  abbrev parameters : List Kind
  parameters = kinds_declared a.parameters

  -- a column of a select list, by its tree
  abbrev pub IsShown : Levels → PlacedExpr → ShownColumn → Type 0
  IsShown levels t c = HasKind columns parameters levels t c.column.kind × Stands columns parameters levels t

  -- ---- `*`

  abbrev columns_at : ℕ → List ItemColumn → List PlacedExpr
  columns_at n cs = map (λ c. column (record { depth = 0; item = n; column = c.position })) cs

  column_zip : (level : Level (Placed TablePlace)) (levels : Levels) (n : ℕ) (t : TablePlace) (cs : List ItemColumn) → slice_get level.from n ≡ Some t → (o : status.Outcome (List Kind)) → columns t ≡ o
      → Has (λ kinds. AllByRecursion (λ c. slice_get kinds c.position ≡ Some c.kind) cs) o → IsTrue level.has_line
      → AllZip (IsShown (level ∷ levels)) (columns_at n cs) (map (column_of_item n) cs)
  column_zip level levels n t [] there o is h line = tt
  column_zip level levels n t (c ∷ cs) there (Err s) is h line = absurd h
  column_zip level levels n t (c ∷ cs) there (Ok kinds) is h line = (
    (
      ap (λ o. status.and_then (status.well_formed o) (λ t. status.and_then (columns t) (λ kinds. status.well_formed (slice_get kinds c.position)))) there
          ∙ ap (λ o. status.and_then o (λ kinds. status.well_formed (slice_get kinds c.position))) is ∙ ap status.well_formed h.0,
      column_stands columns parameters (level ∷ levels) (record { depth = 0; item = n; column = c.position }) line,
    ),
    column_zip level levels n t cs there (Ok kinds) is h.1 line,
  )

  items_zip : (level : Level (Placed TablePlace)) (levels : Levels) (from : List TablePlace) (items : List FromItem) (n : ℕ) → ((k : ℕ) → slice_get level.from (n + k) ≡ slice_get from k) → AllZip (IsItemOver columns) from items
      → IsTrue level.has_line → AllZip (IsShown (level ∷ levels)) (flat_map columns_placed (enumerate_from n items)) (flat_map columns_of_item (enumerate_from n items))
  items_zip level levels [] [] n at h line = tt
  items_zip level levels [] (item ∷ items) n at h line = absurd h
  items_zip level levels (t ∷ from) [] n at h line = absurd h
  items_zip level levels (t ∷ from) (item ∷ items) n at h line =
      let next : (k : ℕ) → n + 1 + k ≡ n + suc k = λ k. omega arith in
      zip_append (IsShown (level ∷ levels)) (columns_placed (n, item)) (flat_map columns_placed (enumerate_from (n + 1) items)) (columns_of_item (n, item)) (flat_map columns_of_item (enumerate_from (n + 1) items))
      (column_zip level levels n t item.columns (ap (slice_get level.from) (sym (add-zero n)) ∙ at zero) (columns t) refl h.0 line)
      (items_zip level levels from items (n + 1) (λ k. ap (slice_get level.from) (next k) ∙ at (suc k)) h.1 line)

  none_in_columns : (n : ℕ) (cs : List ItemColumn) → flat_map set_functions (columns_at n cs) ≡ []
  none_in_columns n [] = refl
  none_in_columns n (c ∷ cs) = none_in_columns n cs

  flat_append : (xs ys : List PlacedExpr) → flat_map set_functions (xs ++ ys) ≡ flat_map set_functions xs ++ flat_map set_functions ys
  flat_append [] ys = refl
  flat_append (x ∷ xs) ys = ap (λ l. set_functions x ++ l) (flat_append xs ys) ∙ sym (append_assoc (set_functions x) (flat_map set_functions xs) (flat_map set_functions ys))

  none_in_items : (items : List (ℕ × FromItem)) → flat_map set_functions (flat_map columns_placed items) ≡ []
  none_in_items [] = refl
  none_in_items (i ∷ items) = flat_append (columns_placed i) (flat_map columns_placed items) ∙ (λ k. none_in_columns i.0 i.1.columns k ++ none_in_items items k)

  -- ---- expressions of a select list

  record ShownStand (es : List (Expr Named)) (ys : Found (List ShownColumn)) : Type 0 where
    pub trees : List PlacedExpr
    pub are_placed : status.each (expr_placed (around a)) es ≡ Ok trees
    pub in_order : flat_map set_functions trees ≡ ys.calls
    pub stand : (levels : Levels) → MayStandAt columns levels a.scopes a.functions_allowed ys.findings.values.has_ungrouped → AllZip (IsShown levels) trees ys.part

  abbrev ShownIs : Counts → Expr Named → Found ShownColumn → Type 0
  ShownIs counts e y = (x : Found Typed) × (value a e counts ≡ Ok x) × (y ≡ put (record { tree = x.part.tree; column = record { name = item_name e; kind = x.part.kind } }) x)

  shown_next : (counts : Counts) (e : Expr Named) (es : List (Expr Named)) (x : Found Typed) (ys : Found (List ShownColumn)) → value a e counts ≡ Ok x → ShownStand es ys
      → (let y : Found ShownColumn = put (record { tree = x.part.tree; column = record { name = item_name e; kind = x.part.kind } }) x in ShownStand (e ∷ es) (joined y (put (y.part ∷ ys.part) ys)))
  shown_next counts e es x ys is rest =
      let v = value_stands columns a counts e x is in
      record {
        trees = v.tree ∷ rest.trees;
        are_placed = two_steps (λ t ts. t ∷ ts) (expr_placed (around a) e) (status.each (expr_placed (around a)) es) v.tree rest.trees v.is_placed rest.are_placed;
        in_order = λ i. v.in_order i ++ rest.in_order i;
        stand = λ levels m. (
          v.stands levels (may_first columns levels a.scopes a.functions_allowed x.findings.values.has_ungrouped ys.findings.values.has_ungrouped m),
          rest.stand levels (may_second columns levels a.scopes a.functions_allowed x.findings.values.has_ungrouped ys.findings.values.has_ungrouped m),
        );
      }

  shown_stand : (es : List (Expr Named)) (counts : Counts) (ys : Found (List ShownColumn)) → each (shown_column a) es counts ≡ Ok ys → ShownStand es ys
  shown_stand es counts ys is =
      it_is (ShownStand es) (each (shown_column a) es counts) ys is
      (each_holds ShownIs (λ counts es ys. ShownStand es ys) (shown_column a) (λ counts e. shown_holds a counts (ShownIs counts e) e (λ x so. (x, so, refl)))
      (λ counts. record { trees = []; are_placed = refl; in_order = refl; stand = λ levels m. tt })
      (λ counts e es y ys p q. subst (λ y. ShownStand (e ∷ es) (joined y (put (y.part ∷ ys.part) ys))) (sym p.2) (shown_next counts e es p.0 ys p.1 q))
      es counts)

-- ---- select lists, where the scope of the query is this one

module _ (columns : TableKinds) (a : Surroundings) (items : List FromItem) (places : List Place) where
  abbrev here : Surroundings
  here = of_groups items places a

  -- A select list by place; `*` reads all columns.
  pub record ListStands (list : SelectList Named) (x : Found (List ShownColumn)) : Type 0 where
    pub trees : List PlacedExpr
    pub are_placed : list_placed (around here) items list ≡ Ok trees
    pub in_order : flat_map set_functions trees ≡ x.calls
    pub stand : (level : Level (Placed TablePlace)) (levels : Levels) → MayStandAt columns (level ∷ levels) here.scopes true (is_star list || x.findings.values.has_ungrouped)
        → AllZip (IsShown columns a (level ∷ levels)) trees x.part

  line_of : (line u : Bool) → (line || not (true || u)) ≡ true → line ≡ true
  line_of true u e = refl
  line_of false u e = cc

  pub list_stands_by : (list : SelectList Named) (counts : Counts) (x : Found (List ShownColumn)) → list_bound here items list counts ≡ Ok x → ListStands list x
  list_stands_by all_columns counts x is =
      it_is (ListStands all_columns) (list_bound here items all_columns counts) x is
      (star_holds here counts (ListStands all_columns) items
      (record {
        trees = flat_map columns_placed (enumerate_from 0 items);
        are_placed = refl;
        in_order = none_in_items columns a (enumerate_from 0 items);
        stand = λ level levels m.
            items_zip columns a level levels level.from items 0 (λ k. ap (slice_get level.from) (zero-add k)) m.are_levels.0.over (line_of level.has_line false m.reads);
      }))
  list_stands_by (expressions es) counts x is =
      it_is (ListStands (expressions es)) (list_bound here items (expressions es) counts) x is
      (list_holds here counts (ListStands (expressions es)) items es
      (λ y so.
      let s = shown_stand columns here es counts y so in
      record { trees = s.trees; are_placed = s.are_placed; in_order = s.in_order; stand = λ level levels m. s.stand (level ∷ levels) m }))

-- ---- FROM and GROUP BY

module _ (columns : TableKinds) where
  pub from_over : (names : NamedTables) (from : List TableReference) (counts : Counts) (x : Found (List NamedItem)) → from_bound names from counts ≡ Ok x → NamesKnow columns names
      → AllZip (IsItemOver columns) (tables_of x.part) (items_of x.part)
  from_over names from counts x is know =
      it_is (λ x. AllZip (IsItemOver columns) (tables_of x.part) (items_of x.part)) (from_bound names from counts) x is
      (from_holds names counts (λ x. AllZip (IsItemOver columns) (tables_of x.part) (items_of x.part)) from
      (λ x so few. it_is (λ x. AllZip (IsItemOver columns) (tables_of x.part) (items_of x.part)) (each (item_bound names) from counts) x so
      (each_holds (λ counts r y. IsItemOver columns y.part.table y.part.item) (λ counts from ys. AllZip (IsItemOver columns) (tables_of ys.part) (items_of ys.part)) (item_bound names)
      (λ counts r. item_holds names counts (λ y. IsItemOver columns y.part.table y.part.item) r (λ t there. item_is_over columns t (item_over r t).item (know r.table t there) refl))
      (λ counts. tt) (λ counts r from y ys p q. (p, q)) from counts)))

  abbrev pub IsColumnAt : Surroundings → Levels → Place → Type 0
  IsColumnAt a levels p = (k : Kind) × (HasKind columns (kinds_declared a.parameters) levels (column p) k × Stands columns (kinds_declared a.parameters) levels (column p))

  grouped_may : (far grouped inside : Bool) → grouped ≡ true → (far && not grouped && not inside) ≡ false
  grouped_may true true inside e = refl
  grouped_may true false inside e = cc
  grouped_may false grouped inside e = refl

  pub grouping_stands : (a : Surroundings) (by : List ColumnReference) (counts : Counts) (x : Found (List Place)) → each (grouping_column a) by counts ≡ Ok x → (levels : Levels) → AreLevels columns levels a.scopes
      → ((u : Bool) → IsTrue (may_read levels u)) → AllByRecursion (IsColumnAt a levels) x.part
  grouping_stands a by counts x is levels are reads =
      it_is (λ x. AllByRecursion (IsColumnAt a levels) x.part) (each (grouping_column a) by counts) x is
      (each_holds (λ counts c y. IsColumnAt a levels y.part) (λ counts by ys. AllByRecursion (IsColumnAt a levels) ys.part) (grouping_column a)
      (λ counts c. grouping_holds a counts (λ y. IsColumnAt a levels y.part) c
      (λ found so grouped. (
        found.column.kind,
        column_there columns a.scopes a.parameters false false c found so (grouped_may (nat_lt 0 found.depth) found.is_grouped false grouped) levels are
            (reads (nat_eq found.depth 0 && not found.is_grouped)) (λ no. cc),
      )))
      (λ counts. tt) (λ counts c by y ys p q. (p, q)) by counts)

  -- ---- whether the columns of a query may be read as its select list sees it

  pub line_or_grouped : (star : Bool) (by : List Place) (having : NumberedClause) (functions : List PlacedExpr) (w : Found Parts) (line : Bool) → (by ≡ [] → having ≡ NumberedClause.absent → functions ≡ [] → line ≡ true)
      → IsGroupedRightly star (groups_by by having functions) w → (line ≡ true) ⊎ ((star ≡ false) × (w.findings.values.has_ungrouped ≡ false))
  line_or_grouped star [] NumberedClause.absent [] w line h right = inl (h refl refl refl)
  line_or_grouped star [] NumberedClause.absent (f ∷ functions) w line h right = inr right
  line_or_grouped star [] (NumberedClause.present c) functions w line h right = inr right
  line_or_grouped star (p ∷ by) having functions w line h right = inr right

  pub reads_by : (line star u v : Bool) → (line ≡ true) ⊎ ((star ≡ false) × (v ≡ false)) → (u ≡ true → v ≡ true) → (line || not (star || u)) ≡ true
  reads_by true star u v h more = refl
  reads_by false star u v (inl e) more = cc
  reads_by false true u v (inr e) more = let no : true ≡ false = e.0 in cc
  reads_by false false true v (inr e) more = let no : true ≡ false = sym (more refl) ∙ e.1 in cc
  reads_by false false false v (inr e) more = refl

  pub line_or_none : (line : Bool) (by : List Place) → ((line || is_some_of by) || is_no_column by) ≡ true
  line_or_none true [] = refl
  line_or_none false [] = refl
  line_or_none true (p ∷ by) = refl
  line_or_none false (p ∷ by) = refl

  pub tables_stand : (a : Surroundings) (rows_of : TablePlace → status.Outcome (List Row)) (tables : List TablePlace) (items : List FromItem) → AllZip (IsItemOver columns) tables items
      → AllByRecursion (WellFormedTable (by_place rows_of) (K columns a) (IsDeclaredAt (kinds_declared a.parameters))) tables
  tables_stand a rows_of [] [] h = tt
  tables_stand a rows_of [] (item ∷ items) h = absurd h
  tables_stand a rows_of (t ∷ tables) [] h = absurd h
  tables_stand a rows_of (t ∷ tables) (item ∷ items) h = ((value_of (columns t) h.0, tt), tables_stand a rows_of tables items h.1)
    where
      value_of : (o : status.Outcome (List Kind)) → Has (λ kinds. AllByRecursion (λ c. slice_get kinds c.position ≡ Some c.kind) item.columns) o → HasValue o
      value_of (Ok kinds) g = tt
      value_of (Err s) g = absurd g

  pub list_well : (a : Surroundings) (levels : Levels) (rows_of : TablePlace → status.Outcome (List Row)) (trees : List PlacedExpr) (shown : List ShownColumn) → AllZip (IsShown columns a levels) trees shown
      → WellFormedExprs (by_place rows_of) (K columns a) (IsDeclaredAt (kinds_declared a.parameters)) levels trees
  list_well a levels rows_of [] [] h = tt
  list_well a levels rows_of [] (c ∷ shown) h = absurd h
  list_well a levels rows_of (t ∷ trees) [] h = absurd h
  list_well a levels rows_of (t ∷ trees) (c ∷ shown) h = (well_expr columns a levels rows_of t c.column.kind h.0, list_well a levels rows_of trees shown h.1)

  pub kinds_known : (a : Surroundings) (levels : Levels) (trees : List PlacedExpr) (shown : List ShownColumn) → AllZip (IsShown columns a levels) trees shown
      → status.each (kind (K columns a) (froms levels)) trees ≡ Ok (kinds_shown (map (λ c. c.column) shown))
  kinds_known a levels [] [] h = refl
  kinds_known a levels [] (c ∷ shown) h = absurd h
  kinds_known a levels (t ∷ trees) [] h = absurd h
  kinds_known a levels (t ∷ trees) (c ∷ shown) h =
      two_steps (λ k ks. k ∷ ks) (kind (K columns a) (froms levels) t) (status.each (kind (K columns a) (froms levels)) trees) c.column.kind (kinds_shown (map (λ c. c.column) shown)) h.0.0 (kinds_known a levels trees shown h.1)

  pub by_well : (a : Surroundings) (levels : Levels) (rows_of : TablePlace → status.Outcome (List Row)) (by : List Place) → AllByRecursion (IsColumnAt a levels) by
      → AllByRecursion (WellFormedColumn (by_place rows_of) (K columns a) (IsDeclaredAt (kinds_declared a.parameters)) levels) by
  by_well a levels rows_of [] h = tt
  by_well a levels rows_of (p ∷ by) h = (well_expr columns a levels rows_of (column p) h.0.0 h.0.1, by_well a levels rows_of by h.1)
