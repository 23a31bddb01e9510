-- A property of the bound values, subqueries, FROM items, grouping columns and select lists, from their parts (ISO/IEC 9075:1992, 7.4,
-- 7.7, 7.9, 7.11 and clause 8).
use Rattle.std.proofs.Common.{◌≡◌, ℕ, ◌+◌, Bool, true, false, List, [], ◌∷◌, length, map, Option, Some, None, Ok, Err, refl, sym, ap, subst}
use Rattle.std.specs.Prelude.{nat_eq, nat_lt, not, IsTrue, if◌then◌else◌}
use Rattle.sq_value.specs.declared.domain.Kind.{Kind}
use Rattle.sq_tree.specs.declared.names.ColumnReference.{ColumnReference}
use Rattle.sq_meaning.specs.Environment.{Place, TableReference}
use Rattle.sq_meaning.specs.SortKeys.{item_name}
use Rattle.sq_meaning.specs.Spelled.{Named}
use Rattle.sq_meaning.specs.Syntax.{Expr, all_columns, expressions}
use Rattle.sq_meaning.specs.WellFormed.{IsOnlyKind, is_comparable, is_text}
use Rattle.sq_meaning.specs.Binding.{has_item_twice}
use Rattle.sq_meaning.specs.declared.fault.BindingFault.TheVariants as fault
use Rattle.sq_binding.specs.Condition.{agreeing, as_subquery, beside, escape_bound, must_be_beside, scalar, subquery, text}
use Rattle.sq_binding.specs.Expression.{Bound, bound, column_findings, place_of_found}
use Rattle.sq_binding.specs.Found.{Binding, Counts, Found, ◌>>=◌, ◌>>◌, after, each, joined, must, pure}
use Rattle.sq_binding.specs.From.{NamedItem, NamedTable, NamedTables, from_bound, item_bound, item_over, table_findings}
use Rattle.sq_binding.specs.Numbered.{Numbered}
use Rattle.sq_binding.specs.NumberedCondition.{NumberedSelect, ResultColumn, columns_of, with_number}
use Rattle.sq_binding.specs.Outcome.{Outcome, and_then, or_fault}
use Rattle.sq_binding.specs.QueryFindings.{a_status, most_items, nothing, of_subquery, of_values}
use Rattle.sq_binding.specs.Scope.{FoundColumn, FromItem, column_meant}
use Rattle.sq_binding.specs.Select.{ShownColumn, Surroundings, Typed, columns_of_items, grouping_column, list_bound, most_columns, shown_column, value, value_found}
use Rattle.sq_binding.proofs.Inductions.Parts.{IfFound}
use Rattle.sq_binding.proofs.Inductions.Turns.{asked_holds, asked_outcome_holds, at_most_holds, found_holds, found_too, it_is, made_holds, next_holds, only, outcome_holds, put, put_last}

-- ---- values

value_step : (counts : Counts) (P : Found Typed → Type 0) (o : Outcome Bound) → ((b : Bound) → o ≡ Ok b → P (value_found counts b)) → IfFound P (and_then o (λ b. Ok (value_found counts b)))
value_step counts P (Err f) h = tt
value_step counts P (Ok b) h = h b refl

module _ (a : Surroundings) (counts : Counts) where
  pub value_holds : (P : Found Typed → Type 0) (e : Expr Named) → ((b : Bound) → bound a.scopes a.parameters a.functions_allowed false e counts.functions ≡ Ok b → P (value_found counts b)) → IfFound P (value a e counts)
  value_holds P e h = value_step counts P (bound a.scopes a.parameters a.functions_allowed false e counts.functions) h

  pub agreeing_holds : (P : Found Numbered → Type 0) (k : Kind) (e : Expr Named) → ((x : Found Typed) → value a e counts ≡ Ok x → is_comparable k x.part.kind ≡ true → P (put x.part.tree x)) → IfFound P (agreeing a k e counts)
  agreeing_holds P k e h = asked_holds P counts (value a e) (λ x. is_comparable k x.kind) fault.KindMismatch (λ x. x.tree) h

  pub text_holds : (P : Found Numbered → Type 0) (e : Expr Named) → ((x : Found Typed) → value a e counts ≡ Ok x → is_text x.part.kind ≡ true → P (put x.part.tree x)) → IfFound P (text a e counts)
  text_holds P e h = asked_holds P counts (value a e) (λ x. is_text x.kind) fault.KindMismatch (λ x. x.tree) h

  -- with an escape character evaluation may answer a status
  pub escape_holds : (P : Found (Option Numbered) → Type 0) (e : Expr Named) → ((x : Found Typed) → value a e counts ≡ Ok x → is_text x.part.kind ≡ true → P (found_too a_status (put (Some x.part.tree) x)))
      → IfFound P (escape_bound a (Some e) counts)
  escape_holds P e h =
      found_holds P counts (text a e) a_status (λ x. Some x)
      (λ y is. it_is (λ y. P (found_too a_status (put (Some y.part) y))) (text a e counts) y is (text_holds (λ y. P (found_too a_status (put (Some y.part) y))) e h))

  -- a column of a select list
  pub shown_holds : (P : Found ShownColumn → Type 0) (e : Expr Named) → ((x : Found Typed) → value a e counts ≡ Ok x → P (put (record { tree = x.part.tree; column = record { name = item_name e; kind = x.part.kind } }) x))
      → IfFound P (shown_column a e counts)
  shown_holds P e h = made_holds P counts (value a e) (λ x. record { tree = x.tree; column = record { name = item_name e; kind = x.kind } }) h

-- ---- subqueries

abbrev pub kinds_shown : List ResultColumn → List Kind
kinds_shown columns = map (λ c. c.kind) columns

abbrev pub kinds_of_part : Found NumberedSelect → List Kind
kinds_of_part q = kinds_shown (columns_of q.part)

columns_numbered : (number : Option ℕ) (q : NumberedSelect) → columns_of (with_number number q) ≡ columns_of q
columns_numbered number (NumberedSelect.select distinct list from filter groups columns can_fail unnumbered) = refl

pub columns_same : (q : Found NumberedSelect) → columns_of (as_subquery q).part ≡ columns_of q.part
columns_same q = if_closed (nat_eq q.findings.values.reach 0)
  where
    if_closed : (closed : Bool)
        → columns_of (if closed then record q { part = with_number (Some q.subqueries) q.part; findings = of_subquery q.findings; subqueries = q.subqueries + 1 } else record q { findings = of_subquery q.findings }).part ≡ columns_of q.part
    if_closed true = columns_numbered (Some q.subqueries) q.part
    if_closed false = refl

subquery_step : (P : Found NumberedSelect → Type 0) (o : Outcome (Found NumberedSelect)) → ((x : Found NumberedSelect) → o ≡ Ok x → P (as_subquery x)) → IfFound P (and_then o (λ x. Ok (as_subquery x)))
subquery_step P (Err f) h = tt
subquery_step P (Ok x) h = h x refl

module _ (q : Binding NumberedSelect) (counts : Counts) where
  pub subquery_holds : (P : Found NumberedSelect → Type 0) → ((x : Found NumberedSelect) → q counts ≡ Ok x → P (as_subquery x)) → IfFound P (subquery q counts)
  subquery_holds P h = subquery_step P (q counts) h

  beside_part : (P : Found NumberedSelect → Type 0) (k : Kind) (columns : List ResultColumn) (y : Found NumberedSelect) → (IsOnlyKind k (kinds_shown columns) → P y)
      → IfFound (λ z. P (joined y z)) ((must_be_beside k columns >> pure y.part) (after counts y))
  beside_part P k [] y h = tt
  beside_part P k (c ∷ d ∷ columns) y h = tt
  beside_part P k (c ∷ []) y h = if_asked (is_comparable k c.kind) h
    where
      if_asked : (t : Bool) → (IsTrue t → P y) → IfFound (λ z. P (joined y z)) ((must t fault.KindMismatch >> pure y.part) (after counts y))
      if_asked true g = subst P (sym (put_last y y.part)) (g refl)
      if_asked false g = tt

  -- compared with a value of a kind
  pub beside_holds : (P : Found NumberedSelect → Type 0) (k : Kind) → ((x : Found NumberedSelect) → q counts ≡ Ok x → IsOnlyKind k (kinds_of_part x) → P (as_subquery x)) → IfFound P (beside k q counts)
  beside_holds P k h =
      next_holds P counts (subquery q) (λ y. must_be_beside k (columns_of y) >> pure y)
      (λ y is. it_is (λ y. IfFound (λ z. P (joined y z)) ((must_be_beside k (columns_of y.part) >> pure y.part) (after counts y))) (subquery q counts) y is
      (subquery_holds (λ y. IfFound (λ z. P (joined y z)) ((must_be_beside k (columns_of y.part) >> pure y.part) (after counts y)))
      (λ x so. beside_part P k (columns_of (as_subquery x).part) (as_subquery x) (λ only. h x so (subst (λ columns. IsOnlyKind k (kinds_shown columns)) (columns_same x) only)))))

  -- with one row at most, which is a status
  pub scalar_holds : (P : Found NumberedSelect → Type 0) (k : Kind) → ((x : Found NumberedSelect) → q counts ≡ Ok x → IsOnlyKind k (kinds_of_part x) → P (found_too a_status (as_subquery x)))
      → IfFound P (scalar k q counts)
  scalar_holds P k h =
      found_holds P counts (beside k q) a_status (λ y. y)
      (λ y is. it_is (λ y. P (found_too a_status y)) (beside k q counts) y is (beside_holds (λ y. P (found_too a_status y)) k h))

-- ---- FROM items

module _ (names : NamedTables) (counts : Counts) where
  there : (t : Option NamedTable) (n : NamedTable) → or_fault fault.UnknownTable t ≡ Ok n → t ≡ Some n
  there None n is = cc
  there (Some m) n is = let same : m ≡ n = cc in ap Some same

  pub item_holds : (P : Found NamedItem → Type 0) (r : TableReference) → ((t : NamedTable) → names r.table ≡ Some t → P (only counts.subqueries (table_findings t) (item_over r t))) → IfFound P (item_bound names r counts)
  item_holds P r h = outcome_holds P counts (or_fault fault.UnknownTable (names r.table)) table_findings (item_over r) (λ t is. h t (there (names r.table) t is))

  pub from_holds : (P : Found (List NamedItem) → Type 0) (from : List TableReference) → ((x : Found (List NamedItem)) → each (item_bound names) from counts ≡ Ok x → nat_lt most_items (length from) ≡ false → P x)
      → IfFound P (from_bound names from counts)
  from_holds P from h =
      at_most_holds P most_items (length from) (each (item_bound names) from >>= λ items. must (not (has_item_twice from)) fault.AmbiguousName >> pure items) counts
      (λ few. asked_holds P counts (each (item_bound names) from) (λ items. not (has_item_twice from)) fault.AmbiguousName (λ items. items) (λ x is once. h x is few))

-- ---- grouping columns

module _ (a : Surroundings) (counts : Counts) where
  pub grouping_holds : (P : Found Place → Type 0) (c : ColumnReference)
      → ((found : FoundColumn) → column_meant c a.scopes ≡ Ok found → found.is_grouped ≡ true → P (only counts.subqueries (of_values (column_findings found)) (place_of_found found))) → IfFound P (grouping_column a c counts)
  grouping_holds P c h = asked_outcome_holds P counts (column_meant c a.scopes) (λ found. of_values (column_findings found)) place_of_found (λ found. found.is_grouped) fault.UngroupedColumn h

  -- ---- select lists

  pub star_holds : (P : Found (List ShownColumn) → Type 0) (items : List FromItem) → P (only counts.subqueries nothing (columns_of_items items)) → IfFound P (list_bound a items all_columns counts)
  star_holds P items h = at_most_holds P most_columns (length (columns_of_items items)) (pure (columns_of_items items)) counts (λ few. h)

  pub list_holds : (P : Found (List ShownColumn) → Type 0) (items : List FromItem) (es : List (Expr Named)) → ((x : Found (List ShownColumn)) → each (shown_column a) es counts ≡ Ok x → P x)
      → IfFound P (list_bound a items (expressions es) counts)
  list_holds P items es h = at_most_holds P most_columns (length es) (each (shown_column a) es) counts (λ few. of_each (each (shown_column a) es counts) h)
    where
      of_each : (o : Outcome (Found (List ShownColumn))) → ((x : Found (List ShownColumn)) → o ≡ Ok x → P x) → IfFound P o
      of_each (Err f) g = tt
      of_each (Ok x) g = g x refl
