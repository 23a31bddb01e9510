-- Lines of a FROM clause, and the rows in them, of which some are left out (ISO/IEC 9075:1992, 7.4).
use Rattle.std.proofs.Common.{◌≡◌, ◌∙◌, ◌<◌, ◌+◌, ℕ, zero, suc, Bool, true, false, true≢false, ◌&&◌, ◌||◌, List, [], ◌∷◌, cond, drop, find, length, map, nat_eq, take, slice_get, Option, Some, None, refl, sym, ap, subst, arith, Ok, Err}
use Rattle.std.specs.Prelude.{IfSome, filter, option_to_list}
use Rattle.std.specs.List.{AllByRecursion, AllZip, Contains, list_any}
use Rattle.std.specs.Option.{option_map}
use Rattle.std.proofs.lemmas.Bool.{eq-eqb, eqb-true}
use Rattle.sq_value.proofs.Truths.{neither_left, neither_right}
use Rattle.sq_value.specs.declared.domain.Kind.{Kind}
use Rattle.sq_store.specs.declared.table.Numbered.{Numbered}
use Rattle.sq_meaning.specs.Environment.{Env, Line, Row, alone, within}
use Rattle.sq_meaning.specs.Placed.{Placed, by_place}
use Rattle.sq_meaning.specs.Query.{clause_truth, is_true, rows}
use Rattle.sq_meaning.specs.Rows.{product}
use Rattle.sq_meaning.specs.Status.{Outcome, and_then, each, kept}
use Rattle.sq_meaning.specs.Syntax.{SelectList, expressions}
use Rattle.sq_meaning.specs.WellFormed.{AreRowsOf, Fits, IsRowOf}
use Rattle.sq_meaning.proofs.AnswerLaws.{all_filtered, all_weaker}
use Rattle.sq_bound.specs.Condition.{Groups, PlacedClause, PlacedSelect, clause_of, groups_if, groups_of, select_of}
use Rattle.sq_bound.specs.Expression.{expr_of}
use Rattle.sq_bound.specs.declared.condition.BoundSpecification.{BoundSpecification, out-BoundSpecification}
use Rattle.sq_bound.specs.declared.condition.TablePlace.{TablePlace}
use Rattle.sq_bound.specs.declared.condition.TablePlace.TheVariants.{Base, View}
use Rattle.sq_bound.proofs.ConditionLaws.{select_of-out}
use Rattle.sq_expression.specs.declared.table.BaseRows.{BaseRows}
use Rattle.sq_expression.specs.Frame.{lent}
use Rattle.sq_query.specs.Items.{IsOnce, is_empty_item, is_empty_of, is_found, is_table, items_of, over}
use Rattle.sq_query.specs.Sought.{IsLineAmong, IsRowAmong, found_of}
use Rattle.sq_query.specs.Needed.{ReadsInside}
use Rattle.sq_query.proofs.Keys.OnlyOne.{AtMostOne}
use Rattle.sq_query.proofs.Keys.KeySearch.{no_element}
use Rattle.sq_query.proofs.FoundByKey.LeftOut.{filter_all, same_by_lines, stays}

-- ---- lists

pub zip_weaker : {A B : Type 0} (P Q : A → B → Type 0) → ((x : A) (y : B) → P x y → Q x y) → (xs : List A) (ys : List B) → AllZip P xs ys → AllZip Q xs ys
zip_weaker P Q so [] [] h = tt
zip_weaker P Q so [] (y ∷ ys) h = absurd h
zip_weaker P Q so (x ∷ xs) [] h = absurd h
zip_weaker P Q so (x ∷ xs) (y ∷ ys) h = (so x y h.0, zip_weaker P Q so xs ys h.1)

pub zip_at : {A B : Type 0} (P : A → B → Type 0) (xs : List A) (ys : List B) (i : ℕ) (x : A) → AllZip P xs ys → slice_get xs i ≡ Some x → (y : B) × P x y × (slice_get ys i ≡ Some y)
zip_at P [] ys i x h e = absurd cc
zip_at P (a ∷ xs) [] i x h e = absurd h
zip_at {A} P (a ∷ xs) (b ∷ ys) zero x h e = let same : a ≡ x = cc in (b, subst (λ (z : A). P z b) same h.0, refl)
zip_at P (a ∷ xs) (b ∷ ys) (suc i) x h e = zip_at P xs ys i x h.1 e

pub one_of_all : {A : Type 0} (P : A → Type 0) (xs : List A) (i : ℕ) (x : A) → AllByRecursion P xs → slice_get xs i ≡ Some x → P x
one_of_all P [] i x h e = absurd cc
one_of_all {A} P (a ∷ xs) zero x h e = let same : a ≡ x = cc in subst P same h.0
one_of_all P (a ∷ xs) (suc i) x h e = one_of_all P xs i x h.1 e

pub all_if : {A : Type 0} (C : Type 0) (Q : A → Type 0) (xs : List A) → (C → AllByRecursion Q xs) → AllByRecursion (λ x. C → Q x) xs
all_if C Q [] h = tt
all_if C Q (x ∷ xs) h = (λ c. (h c).0, all_if C Q xs (λ c. (h c).1))

pub contained : {A : Type 0} (xs : List A) → AllByRecursion (Contains xs) xs
contained [] = tt
contained (x ∷ xs) = ((0, omega arith, refl), all_weaker (Contains xs) (Contains (x ∷ xs)) (λ y c. let within : c.0 < length xs = c.1 in (suc c.0, omega arith, c.2)) xs (contained xs))

pub rows_mapped : (P : Row → Type 0) (found : List Numbered) → AllByRecursion (λ (r : Numbered). P r.row) found → AllByRecursion P (map (λ (r : Numbered). r.row) found)
rows_mapped P [] h = tt
rows_mapped P (r ∷ found) h = (h.0, rows_mapped P found h.1)

none_filtered : {A : Type 0} (has : A → Bool) (xs : List A) → list_any has xs ≡ false → filter has xs ≡ []
none_filtered has [] h = refl
none_filtered has (x ∷ xs) h =
    ap (λ b. cond b (x ∷ filter has xs) (filter has xs)) (neither_left (has x) (list_any has xs) h) ∙ none_filtered has xs (neither_right (has x) (list_any has xs) h)

pub filter_one : {A : Type 0} (has : A → Bool) (xs : List A) → AtMostOne has xs → filter has xs ≡ option_to_list (find has xs)
filter_one has [] h = refl
filter_one {A} has (x ∷ xs) h = by (has x) refl (filter_one has xs h.1)
  where
    by : (b : Bool) → has x ≡ b → filter has xs ≡ option_to_list (find has xs) → cond b (x ∷ filter has xs) (filter has xs) ≡ option_to_list (cond b (Some x) (find has xs))
    by true e rest = ap (λ (ys : List A). x ∷ ys) (none_filtered has xs (h.0 e))
    by false e rest = rest

pushed : {A B : Type 0} (f : A → B) (b : Bool) (x : A) (xs : List A) → cond b (f x ∷ map f xs) (map f xs) ≡ map f (cond b (x ∷ xs) xs)
pushed f true x xs = refl
pushed f false x xs = refl

pub filter_mapped : {A B : Type 0} (f : A → B) (test : B → Bool) (xs : List A) → filter test (map f xs) ≡ map f (filter (λ x. test (f x)) xs)
filter_mapped f test [] = refl
filter_mapped {A} {B} f test (x ∷ xs) =
    ap (λ (ys : List B). cond (test (f x)) (f x ∷ ys) ys) (filter_mapped f test xs) ∙ pushed f (test (f x)) x (filter (λ y. test (f y)) xs)

pub filter_nothing : {A : Type 0} (xs : List A) → filter (λ x. false) xs ≡ []
filter_nothing [] = refl
filter_nothing (x ∷ xs) = filter_nothing xs

-- a line that is left out has a row that is
pub row_lacks : (at : TablePlace → Row → Bool) (ts : List TablePlace) (line : Line) → stays (map at ts) line ≡ false
    → (i : ℕ) × (t : TablePlace) × (row : Row) × (slice_get ts i ≡ Some t) × (slice_get line i ≡ Some row) × (at t row ≡ false)
row_lacks at [] line h = absurd (true≢false h)
row_lacks at (t ∷ ts) [] h = absurd (true≢false h)
row_lacks at (t ∷ ts) (row ∷ line) h = by (at t row) refl h (row_lacks at ts line)
  where
    by : (b : Bool) → at t row ≡ b → (b && stays (map at ts) line) ≡ false
        → (stays (map at ts) line ≡ false → (i : ℕ) × (u : TablePlace) × (r : Row) × (slice_get ts i ≡ Some u) × (slice_get line i ≡ Some r) × (at u r ≡ false))
        → (i : ℕ) × (u : TablePlace) × (r : Row) × (slice_get (t ∷ ts) i ≡ Some u) × (slice_get (row ∷ line) i ≡ Some r) × (at u r ≡ false)
    by false e k rest = (0, t, row, refl, refl, e)
    by true e k rest = let later = rest k in (suc later.0, later.1, later.2, later.3, later.4, later.5)

-- ---- a table that stands in one item

pub is_itself : (t : TablePlace) → is_table t t ≡ true
is_itself (Base n) = eq-eqb n n refl
is_itself (View n) = eq-eqb n n refl

pub same_place : (t u : TablePlace) → is_table t u ≡ true → t ≡ u
same_place (Base m) (Base n) h = ap (λ k. Base k) (eqb-true m n h)
same_place (Base m) (View n) h = cc
same_place (View m) (Base n) h = cc
same_place (View m) (View n) h = ap (λ k. View k) (eqb-true m n h)

none_there : (t : TablePlace) (ts : List TablePlace) (i : ℕ) → list_any (is_table t) ts ≡ false → slice_get ts i ≡ Some t → ⊥
none_there t [] i none e = cc
none_there t (u ∷ ts) zero none e =
    let same : u ≡ t = cc in
    true≢false (sym (is_itself t) ∙ ap (is_table t) (sym same) ∙ neither_left (is_table t u) (list_any (is_table t) ts) none)
none_there t (u ∷ ts) (suc i) none e = none_there t ts i (neither_right (is_table t u) (list_any (is_table t) ts) none) e

at_once : (t : TablePlace) (ts : List TablePlace) (item i : ℕ) → list_any (is_table t) (take item ts) ≡ false → list_any (is_table t) (drop (suc item) ts) ≡ false → slice_get ts i ≡ Some t → i ≡ item
at_once t [] item i before behind e = absurd cc
at_once t (u ∷ ts) zero zero before behind e = refl
at_once t (u ∷ ts) zero (suc i) before behind e = absurd (none_there t ts i behind e)
at_once t (u ∷ ts) (suc item) zero before behind e = absurd (none_there t (u ∷ take item ts) zero before e)
at_once t (u ∷ ts) (suc item) (suc i) before behind e =
    ap suc (at_once t ts item i (neither_right (is_table t u) (list_any (is_table t) (take item ts)) before) behind e)

pub only_item : (t : TablePlace) (ts : List TablePlace) (item i : ℕ) → IsOnce t item ts → slice_get ts i ≡ Some t → i ≡ item
only_item t ts item i once e =
    let next : item + 1 ≡ suc item = omega arith in
    at_once t ts item i once.0 (subst (λ n. list_any (is_table t) (drop n ts) ≡ false) next once.1) e

pub found_none : (place : ℕ) (found : List BaseRows) → is_found place found ≡ false → found_of place found ≡ None
found_none place [] h = refl
found_none place (own ∷ found) h =
    ap (λ b. cond b (Some own) (found_of place found)) (neither_left (nat_eq own.place place) (is_found place found) h) ∙ found_none place found (neither_right (nat_eq own.place place) (is_found place found) h)

-- there is no line where a table was found that has no row
none_among : (found : List BaseRows) (t : TablePlace) (row : Row) → is_empty_item found t ≡ true → IsRowAmong found t row → ⊥
none_among found (View p) row e h = true≢false (sym e)
none_among found (Base p) row e h = by (found_of p found) e h
  where
    by : (o : Option BaseRows) → is_empty_of o ≡ true → IfSome o (λ other. Contains (lent other.rows.items) row) → ⊥
    by None e h = true≢false (sym e)
    by (Some other) e h =
        let none : lent other.rows.items ≡ [] = ap lent (no_element other.rows.items e) in
        let less : h.0 < 0 = subst (λ (l : List Row). h.0 < length l) none h.1 in
        omega (arith, less)

pub no_line_among : (found : List BaseRows) (ts : List TablePlace) (line : Line) → list_any (is_empty_item found) ts ≡ true → IsLineAmong found ts line → ⊥
no_line_among found [] line h is = true≢false (sym h)
no_line_among found (t ∷ ts) [] h is = is
no_line_among found (t ∷ ts) (row ∷ line) h is = so (is_empty_item found t) refl h (λ some. no_line_among found ts line some is.1)
  where
    so : (b : Bool) → is_empty_item found t ≡ b → (b || list_any (is_empty_item found) ts) ≡ true → (list_any (is_empty_item found) ts ≡ true → ⊥) → ⊥
    so true e some later = none_among found t row e is.0
    so false e some later = later some

-- ---- tables

pub over_none : (tables : TablePlace → Outcome (List Row)) (t : TablePlace) → tables t ≡ over [] tables t
over_none tables (Base n) = refl
over_none tables (View n) = refl

pub all_stay : (o : Outcome (List Row)) → o ≡ and_then o (λ found. Ok (filter (λ row. true) found))
all_stay (Ok found) = ap (λ (rs : List Row). let is : Outcome (List Row) = Ok rs in is) (sym (filter_all found))
all_stay (Err s) = refl

pub fewer_fit : (o : Outcome (List Kind)) (p : Outcome (List Row)) (test : Row → Bool) → Fits AreRowsOf o p → Fits AreRowsOf o (and_then p (λ found. Ok (filter test found)))
fewer_fit (Err s) p test h = tt
fewer_fit (Ok ks) (Ok found) test h = all_filtered (IsRowOf ks) test found h
fewer_fit (Ok ks) (Err s) test h = h

module _ (q : BoundSpecification) where
  abbrev pub groups_in : Groups
  groups_in = groups_if (option_map groups_of (out-BoundSpecification q).grouping)

  abbrev pub list_in : SelectList (Placed TablePlace)
  list_in = expressions (map (expr_of groups_in.functions) (out-BoundSpecification q).list)

  abbrev pub where_in : PlacedClause
  where_in = clause_of [] (out-BoundSpecification q).condition

  pub same_over_lines : (f g : TablePlace → Outcome (List Row)) (env : Env (Unit {0})) → ReadsInside (λ t. f t ≡ g t) (select_of q)
      → ((heads : List (Unit {0}))
      → and_then (each f (items_of q)) (λ ts. kept (λ line. is_true (clause_truth (by_place f) where_in (within (alone heads line) env))) (product ts))
      ≡ and_then (each g (items_of q)) (λ ts. kept (λ line. is_true (clause_truth (by_place f) where_in (within (alone heads line) env))) (product ts)))
      → rows (by_place f) (select_of q) env ≡ rows (by_place g) (select_of q) env
  same_over_lines f g env inside same =
      let tree = select_of-out q in
      let others = subst (ReadsInside (λ t. f t ≡ g t)) tree inside in
      subst (λ (s : PlacedSelect). rows (by_place f) s env ≡ rows (by_place g) s env) (sym tree)
      (same_by_lines f g (out-BoundSpecification q).distinct list_in (items_of q) where_in groups_in.columns groups_in.having env others.0 others.1 same)
