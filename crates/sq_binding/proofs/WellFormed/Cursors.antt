-- A cursor that is bound as the definitions compute it fits the base tables and is well formed. Its subqueries have numbers of their own,
-- and it is the written one (ISO/IEC 9075:1992, 7.9, 7.10 and 13.1).
use Rattle.std.proofs.Common.{◌≡◌, ℕ, Bool, true, false, not, ◌&&◌, List, [], ◌∷◌, map, Option, Some, None, Ok, refl, sym, ap, subst, ◌∙◌}
use Rattle.std.specs.List.{AllByRecursion}
use Rattle.std.specs.Prelude.{fold, is_none, if◌then◌else◌}
use Rattle.sq_lex.specs.declared.name.Name.{Name}
use Rattle.sq_tree.specs.declared.list.CommaList.{CommaList}
use Rattle.sq_tree.specs.declared.«module».Cursor.{Cursor}
use Rattle.sq_tree.specs.declared.«module».SortSpecification.{SortSpecification}
use Rattle.sq_meaning.specs.Environment.{TableName}
use Rattle.sq_meaning.specs.Kind.{select_kinds}
use Rattle.sq_meaning.specs.Rows.{SortColumn}
use Rattle.sq_meaning.specs.SortKeys.{sort_columns}
use Rattle.sq_meaning.specs.Spelled.{Named, listed_if_any, query_of as query_spelled}
use Rattle.sq_meaning.specs.Status as status
use Rattle.sq_meaning.specs.Syntax.{Query, Select, specification, union}
use Rattle.sq_meaning.specs.WellFormed.{kinds_by_place}
use Rattle.sq_meaning.specs.Privilege.{Privilege}
use Rattle.sq_meaning.specs.WellFormedStatement.{is_plain, only_specification}
use Rattle.sq_bound.proofs.QueryLaws.{query_of-out, term_of-Bracketed, term_of-Specification, union_of-out}
use Rattle.sq_bound.specs.Fits as fits_spec
use Rattle.sq_bound.specs.Fits.{FitsCursor, IsBase}
use Rattle.sq_bound.specs.Known.{KnownTables}
use Rattle.sq_bound.specs.NumberedQuery.{CursorHasNumbers}
use Rattle.sq_bound.specs.Query as bound_query
use Rattle.sq_bound.specs.Query.{PlacedQuery}
use Rattle.sq_bound.specs.WellFormed as well_formed
use Rattle.sq_bound.specs.WellFormed.{IsCursor, TableKinds, kinds_of_parameters, kinds_of_query, kinds_of_results}
use Rattle.sq_bound.specs.declared.names.BaseTable.{BaseTable}
use Rattle.sq_bound.specs.declared.names.ParameterDesc.{ParameterDesc}
use Rattle.sq_bound.specs.declared.query.BoundCursor.{BoundCursor}
use Rattle.sq_bound.specs.declared.query.BoundQuery.{BoundQuery, out-BoundQuery}
use Rattle.sq_bound.specs.declared.query.BoundTerm.{BoundTerm}
use Rattle.sq_bound.specs.declared.query.BoundUnion.{BoundUnion}
use Rattle.sq_bound.specs.declared.query.CursorBody.{CursorBody}
use Rattle.sq_bound.specs.declared.query.CursorBody.TheVariants as body
use Rattle.sq_bound.specs.declared.query.UpdatableQuery.{UpdatableQuery}
use Rattle.sq_binding.specs.Changeable as changeable
use Rattle.sq_binding.specs.Changeable.{NumberedUpdatable, updatable_bound}
use Rattle.sq_binding.specs.Condition.{select_bound}
use Rattle.sq_binding.specs.Cursor.{NumberedCursor, NumberedRows, behind, cursor_bound, cursor_of, cursor_over, plain_specification, select_cursor, sorted_bound, sorted_cursor}
use Rattle.sq_binding.specs.Found.{Counts, Found, ◌>>=◌, after, outcome, pure}
use Rattle.sq_binding.specs.NumberedCondition.{NumberedSelect, ResultColumn, columns_of, select_of}
use Rattle.sq_binding.specs.Order.{names_of, order_bound}
use Rattle.sq_binding.specs.Outcome.{and_then}
use Rattle.sq_binding.specs.PlacedQuery.{select_placed}
use Rattle.sq_binding.specs.QueryExpression.{NumberedQuery, columns_of_query, query_bound, query_of}
use Rattle.sq_binding.specs.Seen.{column_of}
use Rattle.sq_binding.specs.Select.{Surroundings}
use Rattle.sq_binding.specs.Whole.{at_first, permitted, whole}
use Rattle.sq_binding.proofs.Faultless.Clean.{steps_of}
use Rattle.sq_binding.proofs.Faultless.CleanConds.{after_of}
use Rattle.sq_binding.proofs.Notes.ColumnNames.{names_are}
use Rattle.sq_binding.proofs.Standing.CondsStand.{select_there}
use Rattle.sq_binding.proofs.Placing.PlacedCursor.{HasRows, cursor_is_placed}
use Rattle.sq_binding.proofs.Standing.QueriesStand.{select_stands}
use Rattle.sq_binding.proofs.Standing.SeenTrees as seen
use Rattle.sq_binding.specs.Names.{NamesMean, declared, outside, tables_of}
use Rattle.sq_binding.specs.SeenQuery as seen_spec
use Rattle.sq_binding.specs.SeenQuery.{BodyHasColumns, HaveTheirColumns, cursor_seen, over_table, query_seen, sort_seen, term_seen, union_seen, updatable_seen}
use Rattle.sq_binding.specs.There.{BodyIsThere}
use Rattle.sq_binding.specs.Written.{HasRowsOf, HasWordsOf, IsCursorOf, IsSortedBy, IsUpdatableOf, query_names_placed}
use Rattle.sq_binding.proofs.WellFormed.Inserts.{permitted_is, whole_of}
use Rattle.sq_binding.proofs.WellFormed.Joined.{Good, kinds_in, kinds_of_columns, kinds_of_seen, names_in, query_is_good, query_stands}
use Rattle.sq_binding.proofs.WellFormed.Named as named
use Rattle.sq_binding.proofs.WellFormed.Named.{names_know}
use Rattle.sq_binding.proofs.WellFormed.Over as over_spec
use Rattle.sq_binding.proofs.WellFormed.Over.{IsOver, is_over, updatable_fits, updatable_is_written, updatable_stands}
use Rattle.sq_binding.proofs.WellFormed.Rows.{part_of, pure_part}
use Rattle.sq_binding.proofs.Standing.SeenQueries.{QueryCases, query_all, query_seen-out, term_seen-Bracketed, term_seen-Specification, union_seen-out}
use Rattle.sq_binding.proofs.Placing.Unprivileged.{query_names_same, query_same}

-- ---- what a query expression means is what the definitions see of it

abbrev TermSame : BoundTerm → Type 0
TermSame t = bound_query.term_of t ≡ query_of (term_seen t)

abbrev QuerySame : BoundQuery → Type 0
QuerySame q = bound_query.query_of q ≡ query_of (query_seen q)

rest_same : (rest : List BoundUnion) → AllByRecursion (λ (u : BoundUnion). TermSame u.term) rest → (left : PlacedQuery) (l : NumberedQuery) → left ≡ query_of l
    → fold (λ (q : PlacedQuery) (u : BoundUnion). bound_query.union_of u q) left rest ≡ query_of (fold (λ (q : NumberedQuery) (u : BoundUnion). union_seen u q) l rest)
rest_same [] is left l e = e
rest_same (u ∷ rest) is left l e =
    rest_same rest is.1 (bound_query.union_of u left) (union_seen u l) (union_of-out u left ∙ (λ i. union u.all (e i) (is.0 i)) ∙ ap query_of (sym (union_seen-out u l)))

same_cases : QueryCases TermSame QuerySame
same_cases = record {
  of_specification = λ s. term_of-Specification s ∙ ap specification (seen.select_tree s) ∙ ap query_of (sym (term_seen-Specification s));
  of_bracketed = λ q e. term_of-Bracketed q ∙ e ∙ ap query_of (sym (term_seen-Bracketed q));
  of_query = λ q first rest. query_of-out q ∙ rest_same (out-BoundQuery q).rest rest (bound_query.term_of (out-BoundQuery q).first) (term_seen (out-BoundQuery q).first) first ∙ ap query_of (sym (query_seen-out q));
}

pub query_tree : (q : BoundQuery) → bound_query.query_of q ≡ query_of (query_seen q)
query_tree = query_all TermSame QuerySame same_cases

-- ---- plain cursors

order_none : (insensitive scroll : Bool) (order : Option (CommaList SortSpecification)) → (not insensitive && not scroll && is_none order) ≡ true → listed_if_any order ≡ []
order_none true scroll order e = cc
order_none false true order e = cc
order_none false false None e = refl
order_none false false (Some order) e = cc

only_is : (query : Query Named) (q : Select Named) → only_specification query ≡ Some q → query ≡ specification q
only_is (specification s) q e = let same : s ≡ q = cc in ap specification same
only_is (union all left right) q e = cc

plain_is : (test : Bool) (query : Query Named) (q : Select Named) → (if test then only_specification query else None) ≡ Some q → (test ≡ true) × (query ≡ specification q)
plain_is true query q e = (refl, only_is query q e)
plain_is false query q e = cc

-- what is asked of a bound cursor
pub record IsSo (bases : List BaseTable) (kinds : TableKinds) (known : KnownTables) (user : Name) (parameters : List ParameterDesc) (c : Cursor) (b : BoundCursor) : Type 0 where
  pub fits : FitsCursor bases b
  pub stands : IsCursor kinds (kinds_of_parameters parameters) b
  pub numbered : CursorHasNumbers b.body
  pub is_written : IsCursorOf known user parameters c b

module _ (bases : List BaseTable) (kinds : TableKinds) (known : KnownTables) (mean : NamesMean bases kinds known) (user : Name) (selects grants : TableName → Bool) (holds : TableName → Privilege → Bool) (parameters : List ParameterDesc)
    (c : Cursor) (b : BoundCursor) where
  abbrev mine : changeable.UserNames
  mine = over_spec.names known user selects grants holds

  abbrev a : Surroundings
  a = over_spec.here known user selects grants holds parameters

  abbrev query : Query Named
  query = query_spelled user c.query

  abbrev So : Type 0
  So = IsSo bases kinds known user parameters c b

  -- a query expression in an order
  record IsSorted (q : NumberedQuery) : Type 0 where
    pub first : ℕ
    pub last : ℕ
    pub good : Good a q first last
    pub names : query_names_placed a.names query ≡ Ok (names_in (columns_of_query q))

  -- an updatable query specification
  record IsChanged (u : NumberedUpdatable) : Type 0 where
    pub text : Select Named
    pub is_text : query ≡ specification text
    pub plain : listed_if_any c.order_by ≡ []
    pub shown : NumberedSelect
    pub kinds_are : select_kinds (kinds_by_place kinds (kinds_of_parameters parameters)) [] (select_of shown) ≡ Ok (kinds_in (columns_of shown))
    pub placed : select_placed a text ≡ Ok (select_of shown)
    pub over : IsOver known user selects grants holds parameters text shown u
    pub columns : map column_of b.columns ≡ columns_of shown

  abbrev RowsAre : NumberedRows → Type 0
  RowsAre (NumberedRows.sorted q order) = IsSorted q × (map column_of b.columns ≡ columns_of_query q)
  RowsAre (NumberedRows.updatable u) = IsChanged u

  -- ---- a plain query specification

  plain_rows : (q : Select Named) → (is_plain c ≡ true) × (query ≡ specification q) → cursor_of mine a c query (Some q) ≡ Ok (cursor_seen b) → RowsAre (cursor_seen b).rows
  plain_rows q plain is =
      let s = steps_of (select_bound a q at_first) (select_cursor mine a c q) (cursor_seen b) is in
      let t = steps_of (permitted s.step) (λ x. and_then (updatable_bound mine a q x (behind s.step)) (λ y. Ok (cursor_over c x y.part))) (cursor_seen b) s.second in
      let u = steps_of (updatable_bound mine a q t.step (behind s.step)) (λ y. Ok (cursor_over c t.step y.part)) (cursor_seen b) t.second in
      let made = u.second in
      let same : cursor_over c t.step u.step.part ≡ cursor_seen b = cc in
      let part : s.step.part ≡ t.step = permitted_is s.step t.step t.first in
      by_over s.step s.first t.step part (behind s.step) u.step u.first u.step.part refl same
    where
      by_over : (x : Found NumberedSelect) → select_bound a q at_first ≡ Ok x → (s : NumberedSelect) → x.part ≡ s → (counts : Counts) (y : Found (Option NumberedUpdatable)) → updatable_bound mine a q s counts ≡ Ok y
          → (o : Option NumberedUpdatable) → y.part ≡ o → cursor_over c s o ≡ cursor_seen b → RowsAre (cursor_seen b).rows
      by_over x is s part counts y over None e same =
          let sorted : IsSorted (NumberedQuery.select s) = record {
            first = 0;
            last = x.subqueries;
            good = record { text = q; counts = at_first; found = x; is_found = is; part = part; first = refl; last = refl };
            names = ap (query_names_placed a.names) plain.1 ∙ names_are q a at_first x is ∙ ap (λ (s : NumberedSelect). Ok (names_in (columns_of s))) part;
          } in
          subst RowsAre (ap (λ (n : NumberedCursor). n.rows) same) (sorted, sym (ap (λ (n : NumberedCursor). n.columns) same))
      by_over x is s part counts y over (Some u) e same =
          let stands = select_stands kinds q a at_first x is in
          let changed : IsChanged u = record {
            text = q;
            is_text = plain.1;
            plain = order_none c.insensitive c.scroll c.order_by plain.0;
            shown = s;
            kinds_are =
                subst (λ (s : NumberedSelect). select_kinds (kinds_by_place kinds (kinds_of_parameters parameters)) [] (select_of s) ≡ Ok (kinds_in (columns_of s))) part
                (subst (λ ks. select_kinds (kinds_by_place kinds ks) [] (select_of x.part) ≡ Ok (kinds_in (columns_of x.part))) (named.kinds_of_declared parameters)
                (stands.kinds_are [] (names_know bases kinds known mean selects grants) tt));
            placed = select_there q a at_first x is ∙ ap (λ (s : NumberedSelect). Ok (select_of s)) part;
            over = is_over known user selects grants holds parameters q s u counts y over e;
            columns = sym (ap (λ (n : NumberedCursor). n.columns) same);
          } in
          subst RowsAre (ap (λ (n : NumberedCursor). n.rows) same) changed

  -- ---- any other query

  sorted_rows : cursor_of mine a c query None ≡ Ok (cursor_seen b) → RowsAre (cursor_seen b).rows
  sorted_rows is =
      let s = steps_of (whole (sorted_bound a query (listed_if_any c.order_by))) (λ x. Ok (sorted_cursor c x.0 x.1)) (cursor_seen b) is in
      let made = s.second in
      let same : sorted_cursor c s.step.0 s.step.1 ≡ cursor_seen b = cc in
      let w = whole_of (sorted_bound a query (listed_if_any c.order_by)) s.step s.first in
      let x = after_of (query_bound a query) (λ x. outcome (order_bound (names_of (columns_of_query x)) (listed_if_any c.order_by)) >>= λ by. pure (x, by)) at_first w.found w.is_found in
      let o = after_of (outcome (order_bound (names_of (columns_of_query x.first.part)) (listed_if_any c.order_by))) (λ by. pure (x.first.part, by)) (after at_first x.first) x.second x.is_second in
      let part : (x.first.part, o.first.part) ≡ s.step = sym (pure_part (x.first.part, o.first.part) (after (after at_first x.first) o.first) o.second o.is_second) ∙ sym (part_of o) ∙ sym (part_of x) ∙ w.part in
      let query_is : x.first.part ≡ s.step.0 = ap (λ (p : NumberedQuery × List SortColumn). p.0) part in
      let h = query_is_good a query at_first x.first x.is_first in
      let sorted : IsSorted s.step.0 = subst IsSorted query_is (record { first = 0; last = x.first.subqueries; good = h.good; names = h.names }) in
      subst RowsAre (ap (λ (n : NumberedCursor). n.rows) same) (sorted, sym (ap (λ (n : NumberedCursor). n.columns) same))

  any_rows : (o : Option (Select Named)) → plain_specification c query ≡ o → cursor_of mine a c query o ≡ Ok (cursor_seen b) → RowsAre (cursor_seen b).rows
  any_rows None e is = sorted_rows is
  any_rows (Some q) e is = plain_rows q (plain_is (is_plain c) query q e) is

  -- ---- the words of its declaration

  words_of : (n : NumberedCursor) → (n.insensitive ≡ c.insensitive) × (n.scroll ≡ c.scroll) → n ≡ cursor_seen b → HasWordsOf c b
  words_of n h e = (sym (ap (λ (n : NumberedCursor). n.insensitive) e) ∙ h.0, sym (ap (λ (n : NumberedCursor). n.scroll) e) ∙ h.1)

  over_words : (s : NumberedSelect) (o : Option NumberedUpdatable) → ((cursor_over c s o).insensitive ≡ c.insensitive) × ((cursor_over c s o).scroll ≡ c.scroll)
  over_words s None = (refl, refl)
  over_words s (Some u) = (refl, refl)

  any_words : (o : Option (Select Named)) → cursor_of mine a c query o ≡ Ok (cursor_seen b) → HasWordsOf c b
  any_words None is =
      let s = steps_of (whole (sorted_bound a query (listed_if_any c.order_by))) (λ x. Ok (sorted_cursor c x.0 x.1)) (cursor_seen b) is in
      let made = s.second in
      words_of (sorted_cursor c s.step.0 s.step.1) (refl, refl) cc
  any_words (Some q) is =
      let s = steps_of (select_bound a q at_first) (select_cursor mine a c q) (cursor_seen b) is in
      let t = steps_of (permitted s.step) (λ x. and_then (updatable_bound mine a q x (behind s.step)) (λ y. Ok (cursor_over c x y.part))) (cursor_seen b) s.second in
      let u = steps_of (updatable_bound mine a q t.step (behind s.step)) (λ y. Ok (cursor_over c t.step y.part)) (cursor_seen b) t.second in
      let made = u.second in
      words_of (cursor_over c t.step u.step.part) (over_words t.step u.step.part) cc

  -- ---- the whole

  own_kinds : (columns : List ResultColumn) → map column_of b.columns ≡ columns → kinds_of_results b.columns ≡ kinds_in columns
  own_kinds columns e = sym (kinds_of_seen b.columns) ∙ ap kinds_in e

  record Parts (made : CursorBody) : Type 0 where
    pub fits : fits_spec.FitsBody bases made
    pub stands : well_formed.IsCursorBody kinds (kinds_of_parameters parameters) (kinds_of_results b.columns) made
    pub numbered : CursorHasNumbers made
    pub rows : HasRowsOf known parameters query made
    pub order : IsSortedBy (query_names_placed (tables_of known) query) (listed_if_any c.order_by) made

  updatable_rows : (t : Query Named) (s : Select Named) (u : UpdatableQuery) → t ≡ specification s → IsUpdatableOf known parameters s u → HasRowsOf known parameters t (body.Updatable u)
  updatable_rows t s u e h = subst (λ (t : Query Named). HasRowsOf known parameters t (body.Updatable u)) (sym e) h

  parts_are : (made : CursorBody) → RowsAre (seen_spec.rows_seen (over_table b.table) made) → HasRows mine a c query (seen_spec.rows_seen (over_table b.table) made) → BodyHasColumns made → BodyIsThere bases made → Parts made
  parts_are (body.Rows q order) rows placed has there =
      let h = query_stands bases kinds known mean user selects grants holds parameters q rows.0.first rows.0.last rows.0.good has in
      record {
        fits = tt;
        stands = (h.0, own_kinds (columns_of_query (query_seen q)) rows.1 ∙ kinds_of_columns bases kinds known mean user selects grants holds parameters q has);
        numbered = (rows.0.first, (rows.0.last, h.1));
        rows = sym (query_same known selects grants query (outside known parameters)) ∙ placed.0 ∙ ap (λ (t : PlacedQuery). Ok t) (sym (query_tree q));
        order =
            ap (λ (o : status.Outcome (List (Option Name))). status.and_then o (λ ns. sort_columns ns (listed_if_any c.order_by))) (sym (query_names_same known selects grants query) ∙ rows.0.names)
            ∙ placed.1;
      }
  parts_are (body.Updatable u) rows placed has there =
      let t : TableName = over_table b.table in
      let over : (Name × Name) × UpdatableQuery = ((t.user, t.name), u) in record {
        fits = updatable_fits known user selects grants holds parameters bases kinds mean rows.text rows.shown (kinds_in (columns_of rows.shown)) rows.kinds_are rows.placed over rows.over there;
        stands =
            subst (λ ks. well_formed.IsUpdatable kinds (kinds_of_parameters parameters) ks u) (sym (own_kinds (columns_of rows.shown) rows.columns))
            (updatable_stands known user selects grants holds parameters bases kinds mean rows.text rows.shown (kinds_in (columns_of rows.shown)) rows.kinds_are rows.placed over rows.over there);
        numbered = tt;
        rows =
            updatable_rows query rows.text u rows.is_text
            (updatable_is_written known user selects grants holds parameters bases kinds mean rows.text rows.shown (kinds_in (columns_of rows.shown)) rows.kinds_are rows.placed over rows.over there);
        order = rows.plain;
      }

  -- a cursor that is seen as the definition answers, and whose parts are there
  pub cursor_is_so : cursor_bound mine (declared parameters) c ≡ Ok (cursor_seen b) → BodyHasColumns b.body → BodyIsThere bases b.body → So
  cursor_is_so is has there =
      let p = parts_are b.body (any_rows (plain_specification c query) refl is) (cursor_is_placed mine (declared parameters) c (cursor_seen b) is) has there in record {
        fits = p.fits;
        stands = p.stands;
        numbered = p.numbered;
        is_written = record { words = any_words (plain_specification c query) is; rows = p.rows; order = p.order };
      }
