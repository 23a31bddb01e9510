-- The text of a query specification over one table whose rows are rows of that table. It has no DISTINCT, groups and HAVING; its select
-- list is placed (ISO/IEC 9075:1992, 7.9).
use Rattle.std.proofs.Common.{◌≡◌, ℕ, Bool, true, false, List, [], ◌∷◌, Option, Ok, Err, refl, sym, ap, ◌∙◌}
use Rattle.sq_tree.specs.declared.names.ColumnReference.{ColumnReference}
use Rattle.sq_meaning.specs.Environment.{Place, TableReference}
use Rattle.sq_meaning.specs.Spelled.{Named}
use Rattle.sq_meaning.specs.Status.{Outcome, and_then, each}
use Rattle.sq_meaning.specs.Syntax.{Clause, Select, SelectList, absent, expressions, present, select}
use Rattle.sq_bound.specs.Condition.{PlacedClause, PlacedSelect}
use Rattle.sq_bound.specs.Expression.{PlacedExpr}
use Rattle.sq_bound.specs.declared.condition.TablePlace.{TablePlace}
use Rattle.sq_binding.specs.Changeable.{filter_of, from_of, has_plain_rows, list_of, shown_of}
use Rattle.sq_binding.specs.From.{NamedItem, NamedTable, item_over, items_of, tables_of}
use Rattle.sq_binding.specs.Numbered.{Numbered}
use Rattle.sq_binding.specs.NumberedCondition.{NumberedClause, NumberedGroups, NumberedSelect, ResultColumn, clause_of, select_of, trees_of}
use Rattle.sq_binding.specs.Placed.{placed_column}
use Rattle.sq_binding.specs.PlacedQuery.{clause_placed, cond_placed, item_placed, list_placed, select_placed}
use Rattle.sq_binding.specs.Scope.{FromItem}
use Rattle.sq_binding.specs.Select.{Surroundings, of_lines}

-- ---- steps

pub goes_on : {A B : Type 0} (o : Outcome A) (f : A → Outcome B) (y : B) → and_then o f ≡ Ok y → (x : A) × ((o ≡ Ok x) × (f x ≡ Ok y))
goes_on (Ok x) f y e = (x, (refl, e))
goes_on (Err status) f y e = cc

none_each : {A B : Type 0} (f : A → Outcome B) (xs : List A) → each f xs ≡ Ok [] → xs ≡ []
none_each f [] e = refl
none_each {A} {B} f (x ∷ xs) e =
    let first = goes_on (f x) (λ y. and_then (each f xs) (λ ys. Ok (y ∷ ys))) [] e in
    let rest = goes_on (each f xs) (λ ys. Ok (first.0 ∷ ys)) [] first.1.1 in
    let made : Ok (first.0 ∷ rest.0) ≡ Ok [] = rest.1.1 in cc

no_clause : (a : Surroundings) (c : Clause Named) → clause_placed a c ≡ Ok absent → c ≡ absent
no_clause a absent e = refl
no_clause a (present c) e =
    let x = goes_on (cond_placed a c) (λ p. Ok (present p)) absent e in
    let made : Ok (present x.0) ≡ Ok absent = x.1.1 in cc

-- ---- plain rows

pub record IsPlainText (a : Surroundings) (q : Select Named) (s : NumberedSelect) (r : TableReference) (t : NamedTable) : Type 0 where
  pub text : q ≡ select false (list_of q) (r ∷ []) (filter_of q) [] absent
  pub filter : PlacedClause
  pub tree : select_of s ≡ select false (expressions (trees_of [] (shown_of s))) (t.place ∷ []) filter [] absent
  pub list_is : list_placed (of_lines ((item_over r t).item ∷ []) a) ((item_over r t).item ∷ []) (list_of q) ≡ Ok (trees_of [] (shown_of s))

module _ (a : Surroundings) (r : TableReference) (t : NamedTable) (named : item_placed a.names r ≡ Ok (item_over r t)) where
  abbrev items : List FromItem
  items = (item_over r t).item ∷ []

  abbrev here : Surroundings
  here = of_lines items a

  abbrev whole : Bool → PlacedClause → List Place → List PlacedExpr → PlacedClause → Outcome PlacedSelect
  whole distinct kept columns shown groups = Ok (select distinct (expressions shown) (t.place ∷ []) kept columns groups)

  abbrev after_list : Bool → Clause Named → PlacedClause → List Place → List PlacedExpr → Outcome PlacedSelect
  after_list distinct having kept columns shown = and_then (clause_placed here having) (whole distinct kept columns shown)

  abbrev after_columns : Bool → SelectList Named → Clause Named → PlacedClause → List Place → Outcome PlacedSelect
  after_columns distinct list having kept columns = and_then (list_placed here items list) (after_list distinct having kept columns)

  abbrev after_filter : Bool → SelectList Named → List ColumnReference → Clause Named → PlacedClause → Outcome PlacedSelect
  after_filter distinct list by having kept = and_then (each (placed_column here.scopes) by) (after_columns distinct list having kept)

  one_item : each (item_placed a.names) (r ∷ []) ≡ Ok (item_over r t ∷ [])
  one_item = ap (λ (o : Outcome NamedItem). and_then o (λ i. and_then (each (item_placed a.names) []) (λ is. Ok (i ∷ is)))) named

  placed_is : (distinct : Bool) (list : SelectList Named) (filter : Clause Named) (by : List ColumnReference) (having : Clause Named)
      → select_placed a (select distinct list (r ∷ []) filter by having) ≡ and_then (clause_placed here filter) (after_filter distinct list by having)
  placed_is distinct list filter by having =
      ap (λ (o : Outcome (List NamedItem)). and_then o (λ tables. and_then (clause_placed (of_lines (items_of tables) a) filter) (λ kept. and_then (each (placed_column (of_lines (items_of tables) a).scopes) by)
      (λ columns. and_then (list_placed (of_lines (items_of tables) a) (items_of tables) list) (λ shown. and_then (clause_placed (of_lines (items_of tables) a) having)
      (λ groups. Ok (select distinct (expressions shown) (tables_of tables) kept columns groups))))))) one_item

  plain_of : (d distinct : Bool) (list : SelectList Named) (from : List TableReference) (filter : Clause Named) (by : List ColumnReference) (having : Clause Named) (l : List Numbered) (fr : List TablePlace) (w : NumberedClause)
      (groups : NumberedGroups) (columns : List ResultColumn) (can_fail : Bool) (number : Option ℕ) → from ≡ r ∷ [] → has_plain_rows (NumberedSelect.select d l fr w groups columns can_fail number) ≡ true
      → select_placed a (select distinct list from filter by having) ≡ Ok (select_of (NumberedSelect.select d l fr w groups columns can_fail number))
      → IsPlainText a (select distinct list from filter by having) (NumberedSelect.select d l fr w groups columns can_fail number) r t
  plain_of true distinct list from filter by having l fr w groups columns can_fail number one plain is = cc
  plain_of false distinct list from filter by having l fr w (NumberedGroups.grouped c f h) columns can_fail number one plain is = cc
  plain_of false distinct list from filter by having l fr w NumberedGroups.not_grouped columns can_fail number one plain is =
      let tree : PlacedSelect = select false (expressions (trees_of [] l)) fr (clause_of [] w) [] absent in
      let e : and_then (clause_placed here filter) (after_filter distinct list by having) ≡ Ok tree =
      sym (placed_is distinct list filter by having) ∙ ap (λ (f : List TableReference). select_placed a (select distinct list f filter by having)) (sym one) ∙ is in
      let kept = goes_on (clause_placed here filter) (after_filter distinct list by having) tree e in
      let places = goes_on (each (placed_column here.scopes) by) (after_columns distinct list having kept.0) tree kept.1.1 in
      let shown = goes_on (list_placed here items list) (after_list distinct having kept.0 places.0) tree places.1.1 in
      let groups = goes_on (clause_placed here having) (whole distinct kept.0 places.0 shown.0) tree shown.1.1 in
      let made : select distinct (expressions shown.0) (t.place ∷ []) kept.0 places.0 groups.0 ≡ tree = cc in
      let its_distinct : distinct ≡ false = cc (made) in
      let its_list : shown.0 ≡ trees_of [] l = cc (made) in
      let its_tables : t.place ∷ [] ≡ fr = cc (made) in
      let its_places : places.0 ≡ [] = cc (made) in
      let its_groups : groups.0 ≡ absent = cc (made) in
      let no_columns : by ≡ [] = none_each (placed_column here.scopes) by (places.1.0 ∙ ap (λ (ps : List Place). Ok ps) its_places) in
      let no_having : having ≡ absent = no_clause here having (groups.1.0 ∙ ap (λ (c : PlacedClause). Ok c) its_groups) in
      record {
        text = λ i. select (its_distinct i) list (one i) filter (no_columns i) (no_having i);
        filter = clause_of [] w;
        tree = ap (λ (ts : List TablePlace). select false (expressions (trees_of [] l)) ts (clause_of [] w) [] absent) (sym its_tables);
        list_is = shown.1.0 ∙ ap (λ (es : List PlacedExpr). Ok es) its_list;
      }

  pub is_plain_text : (q : Select Named) (s : NumberedSelect) → from_of q ≡ r ∷ [] → has_plain_rows s ≡ true → select_placed a q ≡ Ok (select_of s) → IsPlainText a q s r t
  is_plain_text (select distinct list from filter by having) (NumberedSelect.select d l fr w groups columns can_fail number) one plain is =
      plain_of d distinct list from filter by having l fr w groups columns can_fail number one plain is
