-- Query specifications, made of their parts, one after the other.
use Rattle.std.proofs.Common.{◌≡◌, Bool, true, false, List, Ok, Err, refl, sym, ap, ◌∙◌}
use Rattle.sq_tree.specs.declared.names.ColumnReference.{ColumnReference}
use Rattle.sq_meaning.specs.Environment.{Place, TableReference}
use Rattle.sq_meaning.specs.Spelled.{Named}
use Rattle.sq_meaning.specs.Syntax.{Clause, SelectList, select}
use Rattle.std.specs.Prelude.{if◌then◌else◌}
use Rattle.sq_meaning.specs.declared.fault.BindingFault.TheVariants as fault
use Rattle.sq_binding.specs.Condition.{clause_bound, select_bound}
use Rattle.sq_binding.specs.Found.{Binding, Counts, Found, ◌>>=◌, after, each, from_first, pure}
use Rattle.sq_binding.specs.From.{NamedItem, from_bound, items_of, tables_of}
use Rattle.sq_binding.specs.NumberedCondition.{NumberedClause, NumberedGroups}
use Rattle.sq_binding.specs.Outcome.{Outcome, and_then}
use Rattle.sq_binding.specs.Select.{Parts, ShownColumn, Surroundings, grouping_column, groups_of, is_star, list_bound, of_groups, of_lines, rightly_grouped, select_found}
use Rattle.sq_binder.specs.Found.{paired, pairs}
use Rattle.sq_binder.specs.From.{from_split}
use Rattle.sq_binder.specs.SelectList.{list_split, split}
use Rattle.sq_binder.specs.Specification.{AllParts, clauses_bound, groups_bound, grouping_fault, is_grouped, shown_bound, specification_of, specified, unless}
use Rattle.sq_binder.proofs.OneByOne.Behind.{Makes, behind, itself, made, made_of, with_part}

-- ---- parts that are made of others

second_at : {A B C D : Type 0} (m : A → C) (n : A → B → D) (x : Found A) (o : Outcome (Found B))
    → and_then (made_of (n x.part) o) (λ y. Ok (paired (with_part (m x.part) x) y)) ≡ made_of (λ z. (m z.0, n z.0 z.1)) (and_then o (λ y. Ok (paired x y)))
second_at m n x (Ok y) = refl
second_at m n x (Err f) = refl

pairs_at : {A B C D : Type 0} (f : A → Binding B) (q : C → Binding D) (m : A → C) (n : A → B → D) → ((a : A) → Makes (q (m a)) (f a) (n a)) → (counts : Counts) (o : Outcome (Found A))
    → and_then (made_of m o) (λ x. and_then (q x.part (after counts x)) (λ y. Ok (paired x y))) ≡ made_of (λ z. (m z.0, n z.0 z.1)) (and_then o (λ x. and_then (f x.part (after counts x)) (λ y. Ok (paired x y))))
pairs_at f q m n rest counts (Err fault) = refl
pairs_at f q m n rest counts (Ok x) =
    ap (λ o. and_then o (λ y. Ok (paired (with_part (m x.part) x) y))) ((rest x.part).is (after counts x)) ∙ second_at m n x (f x.part (after counts x))

-- two parts that are made of two others
pairs_made : {A B C D : Type 0} (b : Binding A) (c : Binding C) (f : A → Binding B) (q : C → Binding D) (m : A → C) (n : A → B → D) → Makes c b m → ((a : A) → Makes (q (m a)) (f a) (n a))
    → Makes (pairs c q) (pairs b f) (λ z. (m z.0, n z.0 z.1))
pairs_made b c f q m n first rest = record {
  is = λ counts. ap (λ o. and_then o (λ x. and_then (q x.part (after counts x)) (λ y. Ok (paired x y)))) (first.is counts) ∙ pairs_at f q m n rest counts (b counts);
}

-- ---- the parts of a query specification

module _ (a : Surroundings) (distinct : Bool) (list : SelectList Named) (from : List TableReference) (filter : Clause Named) (by : List ColumnReference) (having : Clause Named) where
  abbrev Shown_ : Type 0
  Shown_ = List ShownColumn × NumberedClause

  abbrev Groups_ : Type 0
  Groups_ = List Place × Shown_

  abbrev Clauses_ : Type 0
  Clauses_ = NumberedClause × Groups_

  abbrev shown : List NamedItem → List Place → Binding Shown_
  shown items columns = pairs (list_bound (of_groups (items_of items) columns a) (items_of items) list) (λ s. clause_bound (of_groups (items_of items) columns a) having)

  abbrev groups : List NamedItem → Binding Groups_
  groups items = pairs (each (grouping_column (of_lines (items_of items) a)) by) (shown items)

  abbrev clauses : List NamedItem → Binding Clauses_
  clauses items = pairs (from_first (clause_bound (of_lines (items_of items) a) filter)) (λ kept. groups items)

  abbrev all : Binding (List NamedItem × Clauses_)
  all = pairs (from_bound a.names from) clauses

  abbrev parts : List NamedItem → NumberedClause → List Place → List ShownColumn → NumberedClause → Parts
  parts items kept columns shown groups = record { distinct = distinct; from = tables_of items; filter = kept; by = columns; shown = shown; having = groups }

  abbrev in_order : Binding Parts
  in_order =
      from_bound a.names from >>= λ items.
      from_first (clause_bound (of_lines (items_of items) a) filter) >>= λ kept.
      each (grouping_column (of_lines (items_of items) a)) by >>= λ columns.
      list_bound (of_groups (items_of items) columns a) (items_of items) list >>= λ shown.
      clause_bound (of_groups (items_of items) columns a) having >>= λ groups.
      pure (parts items kept columns shown groups)

  -- as the definition has them
  in_order_made : Makes in_order all (λ z. parts z.0 z.1.0 z.1.1.0 z.1.1.1.0 z.1.1.1.1)
  in_order_made =
      behind (from_bound a.names from) clauses _ (λ items z. parts items z.0 z.1.0 z.1.1.0 z.1.1.1) (λ items.
      behind (from_first (clause_bound (of_lines (items_of items) a) filter)) (λ kept. groups items) _ (λ kept z. parts items kept z.0 z.1.0 z.1.1) (λ kept.
      behind (each (grouping_column (of_lines (items_of items) a)) by) (shown items) _ (λ columns z. parts items kept columns z.0 z.1) (λ columns.
      behind (list_bound (of_groups (items_of items) columns a) (items_of items) list) (λ s. clause_bound (of_groups (items_of items) columns a) having) _ (λ shown groups. parts items kept columns shown groups) (λ shown.
      made (clause_bound (of_groups (items_of items) columns a) having) (λ groups. parts items kept columns shown groups)))))

  -- with tables and items apart, and the columns of the select list
  abbrev apart : List NamedItem × Clauses_ → AllParts
  apart z = ((tables_of z.0, items_of z.0), (z.1.0, (z.1.1.0, (split z.1.1.1.0, z.1.1.1.1))))

  apart_made : Makes (pairs (from_split a.names from) (λ f. clauses_bound a f.1 filter by list having)) all apart
  apart_made =
      pairs_made (from_bound a.names from) (from_split a.names from) clauses (λ f. clauses_bound a f.1 filter by list having) (λ items. (tables_of items, items_of items)) (λ items z. (z.0, (z.1.0, (split z.1.1.0, z.1.1.1))))
      (made (from_bound a.names from) (λ items. (tables_of items, items_of items))) (λ items.
      pairs_made (from_first (clause_bound (of_lines (items_of items) a) filter)) (from_first (clause_bound (of_lines (items_of items) a) filter)) (λ kept. groups items) (λ kept. groups_bound a (items_of items) by list having)
      (λ kept. kept) (λ kept z. (z.0, (split z.1.0, z.1.1))) (itself (from_first (clause_bound (of_lines (items_of items) a) filter))) (λ kept.
      pairs_made (each (grouping_column (of_lines (items_of items) a)) by) (each (grouping_column (of_lines (items_of items) a)) by) (shown items)
      (λ columns. shown_bound (of_groups (items_of items) columns a) (items_of items) list having) (λ columns. columns) (λ columns z. (split z.0, z.1)) (itself (each (grouping_column (of_lines (items_of items) a)) by)) (λ columns.
      pairs_made (list_bound (of_groups (items_of items) columns a) (items_of items) list) (list_split (of_groups (items_of items) columns a) (items_of items) list)
      (λ s. clause_bound (of_groups (items_of items) columns a) having) (λ s. clause_bound (of_groups (items_of items) columns a) having) split (λ s groups. groups)
      (made (list_bound (of_groups (items_of items) columns a) (items_of items) list) split) (λ s. itself (clause_bound (of_groups (items_of items) columns a) having)))))

  rightly : (star : Bool) (g : NumberedGroups) (u : Bool) (x : Found Parts) → x.findings.values.has_ungrouped ≡ u → rightly_grouped star g x ≡ unless (grouping_fault star (is_grouped g) u) (select_found x)
  rightly true NumberedGroups.not_grouped u x is = refl
  rightly false NumberedGroups.not_grouped u x is = refl
  rightly true (NumberedGroups.grouped by functions having) u x is = refl
  rightly false (NumberedGroups.grouped by functions having) true x is = ap (λ (b : Bool). if b then Err fault.UngroupedColumn else Ok (select_found x)) is
  rightly false (NumberedGroups.grouped by functions having) false x is = ap (λ (b : Bool). if b then Err fault.UngroupedColumn else Ok (select_found x)) is

  specified_at : (o : Outcome (Found (List NamedItem × Clauses_)))
      → and_then (made_of (λ z. parts z.0 z.1.0 z.1.1.0 z.1.1.1.0 z.1.1.1.1) o) (λ x. rightly_grouped (is_star list) (groups_of x) x) ≡ and_then (made_of apart o) (specified (is_star list) distinct)
  specified_at (Err f) = refl
  specified_at (Ok x) =
      let p : Found Parts = with_part (parts x.part.0 x.part.1.0 x.part.1.1.0 x.part.1.1.1.0 x.part.1.1.1.1) x in
      rightly (is_star list) (groups_of p) x.findings.values.has_ungrouped p refl

  -- a query specification is one of its parts, one behind the other
  pub select_is : (counts : Counts) → select_bound a (select distinct list from filter by having) counts
      ≡ specification_of (is_star list) distinct (pairs (from_split a.names from) (λ f. clauses_bound a f.1 filter by list having)) counts
  select_is counts =
      let none : Counts = record { functions = 0; subqueries = counts.subqueries } in
      ap (λ o. and_then o (λ x. rightly_grouped (is_star list) (groups_of x) x)) (in_order_made.is none)
      ∙ specified_at (all none) ∙ ap (λ o. and_then o (specified (is_star list) distinct)) (sym (apart_made.is none))
