-- A cursor that is bound has the columns, the words and the table that the rules know (ISO/IEC 9075:1992, 13.1).
use Rattle.std.proofs.Common.{◌≡◌, Bool, true, false, List, [], length, map, Option, Some, None, Ok, Err, refl, sym, ap, subst, ◌∙◌}
use Rattle.std.specs.Option.{option_and_then, option_map}
use Rattle.std.specs.Prelude.{⊤, if◌then◌else◌}
use Rattle.sq_tree.specs.declared.«module».Cursor.{Cursor}
use Rattle.sq_tree.specs.declared.«module».SortSpecification.{SortSpecification}
use Rattle.sq_meaning.specs.Environment.{TableName}
use Rattle.sq_meaning.specs.Rows.{SortColumn}
use Rattle.sq_meaning.specs.Spelled.{Named, listed_if_any, query_of}
use Rattle.sq_meaning.specs.Syntax.{Query, Select, specification, union}
use Rattle.sq_meaning.specs.Binding.{Judged}
use Rattle.sq_meaning.specs.Privileges.{updatable_here}
use Rattle.sq_meaning.specs.Site.{query_count, query_kinds_of, query_sites}
use Rattle.sq_meaning.specs.WellFormedStatement.{is_plain, only_specification}
use Rattle.sq_meaning.specs.declared.fault.BindingFault.TheVariants as fault
use Rattle.sq_binding.specs.Changeable.{NumberedUpdatable, UserNames, updatable_bound}
use Rattle.sq_binding.specs.Condition.{select_bound}
use Rattle.sq_binding.specs.Cursor.{NumberedCursor, behind, cursor_bound, cursor_of, cursor_over, select_cursor, sorted_bound, sorted_cursor}
use Rattle.sq_binding.specs.Found.{Found, ◌>>=◌, outcome, pure}
use Rattle.sq_binding.specs.NumberedCondition.{NumberedSelect, columns_of}
use Rattle.sq_binding.specs.Order.{names_of, order_bound}
use Rattle.sq_binding.specs.Outcome.{Outcome, and_then}
use Rattle.sq_binding.specs.QueryExpression.{NumberedQuery, columns_of_query, query_bound}
use Rattle.sq_binding.specs.Select.{Surroundings}
use Rattle.sq_binding.specs.Whole.{at_first, permitted, whole}
use Rattle.sq_binding.proofs.Exactly.ChangedTold.{TablesFit}
use Rattle.sq_binding.proofs.Faultless.Clean.{steps_of}
use Rattle.sq_binding.proofs.Faultless.CleanConds.{KnownIf, known_of}
use Rattle.sq_binding.proofs.Faultless.CleanExprs.{if_ok}
use Rattle.sq_binding.proofs.Faultless.CleanQuery.{pure_known, then_known}
use Rattle.sq_binding.proofs.FaultsFound.CondFaults.{SelectSpellsNoNull}
use Rattle.sq_binding.proofs.FaultsFound.PredicateFaults.{surrounded}
use Rattle.sq_binding.proofs.Exactly.RowAccepted.{select_known}
use Rattle.sq_binding.proofs.FaultsFound.UnionFaults.{IsQuery, QuerySpellsNoNull, query_faults}
use Rattle.sq_binding.proofs.OneTable.UpdatableRule.{ColumnsFit}
use Rattle.sq_binding.proofs.OneTable.UpdatableSame.{updatable_same}

module _ (names : UserNames) (j : Judged) (fits : TablesFit names j) (once : ColumnsFit names) where
  abbrev here : Surroundings
  here = surrounded names.tables j [] false

  abbrev query_table : Option (Select Named) → Option TableName
  query_table o = option_map (λ source. source.item.reference.table) (option_and_then (updatable_here j.known.tables) o)

  -- What the rules know of a cursor that is bound.
  pub record IsCursor (c : Cursor) (q : Query Named) (n : NumberedCursor) : Type 0 where
    pub scrolls : n.scroll ≡ c.scroll
    pub kinds : query_kinds_of j.known q ≡ Ok (map (λ k. k.kind) n.columns)
    pub count : query_count j.known.tables q ≡ length n.columns
    pub table : n.table ≡ query_table (if is_plain c then only_specification q else None)

  abbrev IfCursor : Cursor → Query Named → Outcome NumberedCursor → Type 0
  IfCursor c q (Ok n) = IsCursor c q n
  IfCursor c q (Err f) = ⊤

  -- ---- in the order of ORDER BY

  sorted_known : (q : Query Named) → QuerySpellsNoNull q → (order : List SortSpecification) → KnownIf (λ x. IsQuery j q x.0) (sorted_bound here q order)
  sorted_known q null order =
      then_known (IsQuery j q) (λ (x : NumberedQuery × List SortColumn). IsQuery j q x.0) (query_bound here q) (λ x. outcome (order_bound (names_of (columns_of_query x)) order) >>= λ by. pure (x, by))
      (known_of j (query_sites j.known q) ⊥ (false ≡ true) (IsQuery j q) (query_bound here q) (query_faults names.tables j fits.tables q null))
      (λ x h. then_known (λ by. ⊤) (λ (x : NumberedQuery × List SortColumn). IsQuery j q x.0) (outcome (order_bound (names_of (columns_of_query x)) order)) (λ by. pure (x, by)) (λ counts z is. tt)
      (λ by u. pure_known (λ (x : NumberedQuery × List SortColumn). IsQuery j q x.0) (x, by) h))

  permitted_is : {A : Type 0} (x : Found A) (y : A) → permitted x ≡ Ok y → x.part ≡ y
  permitted_is x y is = let e = (if_ok x.findings.lacks_privilege fault.PrivilegeMissing (Ok x.part) y is).1 in let same : x.part ≡ y = cc in same

  sorted_cursor_known : (c : Cursor) (q : Query Named) → QuerySpellsNoNull q → (n : NumberedCursor) → cursor_of names here c q None ≡ Ok n → query_table (if is_plain c then only_specification q else None) ≡ None → IsCursor c q n
  sorted_cursor_known c q null n is none =
      let s = steps_of (whole (sorted_bound here q (listed_if_any c.order_by))) (λ x. Ok (sorted_cursor c x.0 x.1)) n is in
      let t = steps_of (sorted_bound here q (listed_if_any c.order_by) at_first) permitted s.step s.first in
      let h = subst (λ (x : NumberedQuery × List SortColumn). IsQuery j q x.0) (permitted_is t.step s.step t.second) (sorted_known q null (listed_if_any c.order_by) at_first t.step t.first) in
      let made = s.second in
      let same : sorted_cursor c s.step.0 s.step.1 ≡ n = cc in
      subst (IsCursor c q) same (record { scrolls = refl; kinds = h.kinds; count = h.count; table = sym none })

  -- ---- a query specification alone

  over_known : (c : Cursor) (q : Select Named) (s : NumberedSelect) (o : Option NumberedUpdatable) → query_kinds_of j.known (specification q) ≡ Ok (map (λ k. k.kind) (columns_of s)) → query_count j.known.tables (specification q) ≡ length (columns_of s)
      → option_map (λ u. u.table) o ≡ query_table (if is_plain c then only_specification (specification q) else None) → IsCursor c (specification q) (cursor_over c s o)
  over_known c q s None kinds count table = record { scrolls = refl; kinds = kinds; count = count; table = table }
  over_known c q s (Some u) kinds count table = record { scrolls = refl; kinds = kinds; count = count; table = table }

  select_cursor_known : (c : Cursor) (q : Select Named) → SelectSpellsNoNull q → is_plain c ≡ true → (n : NumberedCursor) → cursor_of names here c (specification q) (Some q) ≡ Ok n → IsCursor c (specification q) n
  select_cursor_known c q null plain n is =
      let s = steps_of (select_bound here q at_first) (select_cursor names here c q) n is in
      let t = steps_of (permitted s.step) (λ x. and_then (updatable_bound names here q x (behind s.step)) (λ y. Ok (cursor_over c x y.part))) n s.second in
      let part = permitted_is s.step t.step t.first in
      let u = steps_of (updatable_bound names here q t.step (behind s.step)) (λ y. Ok (cursor_over c t.step y.part)) n t.second in
      let shown = select_known names j fits.tables q null at_first s.step s.first in
      let same_table = updatable_same names j fits once q null at_first s.step s.first (behind s.step) u.step (subst (λ x. updatable_bound names here q x (behind s.step) ≡ Ok u.step) (sym part) u.first) in
      let made = u.second in
      let same : cursor_over c t.step u.step.part ≡ n = cc in
      subst (IsCursor c (specification q)) same
      (over_known c q t.step u.step.part (shown.kinds ∙ ap (λ s. Ok (map (λ k. k.kind) (columns_of s))) part) (shown.count ∙ ap (λ s. length (columns_of s)) part)
      (same_table ∙ ap (λ b. query_table (if b then only_specification (specification q) else None)) (sym plain)))

  -- ---- both

  any_known : (c : Cursor) (q : Query Named) → QuerySpellsNoNull q → (plain : Bool) → is_plain c ≡ plain → (n : NumberedCursor) → cursor_of names here c q (if plain then only_specification q else None) ≡ Ok n → IsCursor c q n
  any_known c q null false e n is = sorted_cursor_known c q null n is (ap (λ b. query_table (if b then only_specification q else None)) e)
  any_known c (union all left right) null true e n is = sorted_cursor_known c (union all left right) null n is (ap (λ b. query_table (if b then only_specification (union all left right) else None)) e)
  any_known c (specification q) null true e n is = select_cursor_known c q null e n is

  pub cursor_known : (c : Cursor) → QuerySpellsNoNull (query_of names.user c.query) → (n : NumberedCursor) → cursor_bound names j.known.parameters c ≡ Ok n → IsCursor c (query_of names.user c.query) n
  cursor_known c null n is = any_known c (query_of names.user c.query) null (is_plain c) refl n is
