-- Of the base table of one item of FROM rows may be left out: a query specification has the same rows over those that are left, if WHERE is
-- false on each line with one that is not (ISO/IEC 9075:1992, 7.4 to 7.6).
use Rattle.std.proofs.Common.{◌≡◌, ◌∙◌, ◌<◌, ℕ, Bool, true, false, List, ◌∷◌, cond, length, nat_eq, slice_get, Option, Some, None, refl, sym, ap, subst, Ok, Err}
use Rattle.std.specs.Prelude.{IfSome, filter, if◌then◌else◌}
use Rattle.std.specs.List.{AllByRecursion, AllZip, Contains}
use Rattle.std.proofs.lemmas.Bool.{eqb-true}
use Rattle.sq_lex.specs.declared.name.Name.{Name}
use Rattle.sq_value.specs.declared.domain.Kind.{Kind}
use Rattle.sq_value.specs.declared.value.Value.{Value}
use Rattle.sq_store.specs.Content.{Content, table_at}
use Rattle.sq_store.specs.declared.table.Table.{Table}
use Rattle.sq_meaning.specs.Environment.{Env, Line, Row, Scope}
use Rattle.sq_meaning.specs.Placed.{by_place}
use Rattle.sq_meaning.specs.Query.{clause_truth, is_true, rows}
use Rattle.sq_meaning.specs.Status.{Outcome, and_then}
use Rattle.sq_meaning.specs.Tables.{rows_in}
use Rattle.sq_meaning.specs.WellFormed.{AreRowsOf, Answers, Fits, Has, HasValue, IsDeclaredAt, IsRowOf, WellFormedSelect, WellFormedTable, kinds_by_place}
use Rattle.sq_meaning.proofs.AnswerLaws.{all_true, all_weaker, fits_there}
use Rattle.sq_bound.specs.Condition.{select_of}
use Rattle.sq_bound.specs.Fits.{has_its_values, not_nulls_hold}
use Rattle.sq_bound.specs.WellFormed.{BasesAreThere, Levels, TableKinds}
use Rattle.sq_bound.specs.declared.condition.BoundSpecification.{BoundSpecification}
use Rattle.sq_bound.specs.declared.condition.TablePlace.{TablePlace}
use Rattle.sq_bound.specs.declared.condition.TablePlace.TheVariants.{Base, View}
use Rattle.sq_bound.specs.declared.names.BaseTable.{BaseTable}
use Rattle.sq_bound.proofs.ConditionLaws.{select_of-out}
use Rattle.sq_expression.specs.Frame.{inputs_of, lent}
use Rattle.sq_expression.specs.declared.table.BaseRows.{BaseRows}
use Rattle.sq_expression.proofs.Kept.{ok_same}
use Rattle.sq_query.specs.Around.{beneath}
use Rattle.sq_query.specs.Items.{IsAlone, items_of, over, rows_or}
use Rattle.sq_query.specs.Needed.{IsNeeded, ReadsInside}
use Rattle.sq_query.specs.Sought.{IsRowAmong, found_of}
use Rattle.sq_query.specs.Table.{stored_rows}
use Rattle.sq_query.specs.Union.{AreFitting}
use Rattle.sq_query.specs.declared.needed.Needed.{Needed}
use Rattle.sq_query.proofs.FoundByKey.ItemRows.{all_if, all_stay, contained, fewer_fit, found_none, one_of_all, rows_mapped, where_in}
use Rattle.sq_query.proofs.FoundByKey.OneTable as one
use Rattle.sq_query.proofs.Keys.KeyColumns.{rows_have_values}
use Rattle.sq_query.proofs.Keys.KeyNames.{element_at}
use Rattle.sq_query.proofs.Keys.KeyOut.{all_both}
use Rattle.sq_query.proofs.Needs.NeededViews.{inside_weaker}
use Rattle.sq_query.proofs.Targets.WalkedRows.{there_within}

-- ---- what is known of the rows of a table

pub kinds_of : (columns : TableKinds) (now : TablePlace → Outcome (List Row)) → AreFitting columns now → (t : TablePlace) (rs : List Row) → HasValue (columns t) → now t ≡ Ok rs → AllByRecursion (λ row. Has (λ ks. IsRowOf ks row) (columns t)) rs
kinds_of columns now fitting t rs there is = by (columns t) (subst (Answers (λ found_rows. Has (λ ks. AreRowsOf ks found_rows) (columns t))) is (fits_there AreRowsOf (columns t) (now t) there (fitting t)))
  where
    by : (o : Outcome (List Kind)) → Has (λ ks. AreRowsOf ks rs) o → AllByRecursion (λ row. Has (λ ks. IsRowOf ks row) o) rs
    by (Ok ks) h = h
    by (Err s) h = absurd h

pub among_found : (found : List BaseRows) (tables : TablePlace → Outcome (List Row)) (t : TablePlace) (rs : List Row) → over found tables t ≡ Ok rs → AllByRecursion (IsRowAmong found t) rs
among_found found tables (View n) rs is = all_true rs
among_found found tables (Base n) rs is = by (found_of n found) is
  where
    by : (o : Option BaseRows) → rows_or o (tables (Base n)) ≡ Ok rs → AllByRecursion (λ row. IfSome o (λ other. Contains (lent other.rows.items) row)) rs
    by None e = all_true rs
    by (Some other) e = subst (λ (l : List Row). AllByRecursion (Contains (lent other.rows.items)) l) (ok_same (lent other.rows.items) rs e) (contained (lent other.rows.items))

-- ---- one item

module _ (bases : List BaseTable) (columns : TableKinds) (content : Content) (nulls : not_nulls_hold bases content ≡ true) (bases_there : BasesAreThere bases columns) (parameters : List Kind) (values : List Value) (caller : Name)
    (tables : TablePlace → Outcome (List Row)) (q : BoundSpecification) (around : Levels) (stands : WellFormedSelect (by_place tables) (kinds_by_place columns parameters) (IsDeclaredAt parameters) around (select_of q))
    (inner : Needed) (inside : ReadsInside (IsNeeded inner) (select_of q)) (stored : (n : ℕ) → (IsNeeded inner (Base n) → ⊥) → tables (Base n) ≡ stored_rows content n)
    (found : List BaseRows) (own : BaseRows) (item : ℕ) (at_item : slice_get (items_of q) item ≡ Some (Base own.place)) (there : own.place < length content) (alone_there : IsAlone q item own.place inner found)
    (fitting : AreFitting columns (over found tables)) where
  abbrev ts : List TablePlace
  ts = items_of q

  abbrev env : List (Scope (Unit {0})) → Env (Unit {0})
  env scopes = record { scopes = scopes; inputs = inputs_of values; user = caller }

  abbrev place : ℕ
  place = own.place

  abbrev now : TablePlace → Outcome (List Row)
  now = over found tables

  abbrev next : TablePlace → Outcome (List Row)
  next = over (own ∷ found) tables

  abbrev all_rows : List Row
  all_rows = rows_in (table_at content place)

  -- the tables of the FROM clause are known
  tables_known : AllByRecursion (λ t. HasValue (columns t)) ts
  tables_known =
      all_weaker (WellFormedTable (by_place tables) (kinds_by_place columns parameters) (IsDeclaredAt parameters)) (λ t. HasValue (columns t)) (λ t h. h.0) ts
      (subst (WellFormedSelect (by_place tables) (kinds_by_place columns parameters) (IsDeclaredAt parameters) around) (select_of-out q) stands).0

  pub base : (b : BaseTable) × (slice_get bases place ≡ Some b)
  base = element_at bases place (bases_there place (one_of_all (λ t. HasValue (columns t)) ts item (Base place) tables_known at_item))

  whole : now (Base place) ≡ Ok all_rows
  whole =
      ap (λ (o : Option BaseRows). rows_or o (tables (Base place))) (found_none place found alone_there.fresh)
      ∙ stored place alone_there.apart ∙ ap (λ (o : Outcome Table). and_then o (λ t. Ok (rows_in t))) (there_within content place there)

  -- what is known of a row in a line
  abbrev pub IsIn : TablePlace → Row → Type 0
  IsIn t row = Has (λ ks. IsRowOf ks row) (columns t) × IsRowAmong found t row × (t ≡ Base place → has_its_values base.0 row ≡ true)

  have_values : AllByRecursion (λ row. has_its_values base.0 row ≡ true) all_rows
  have_values = rows_mapped (λ row. has_its_values base.0 row ≡ true) (table_at content place).rows (rows_have_values content bases place base.0 nulls base.1)

  values_there : (t : TablePlace) (rs : List Row) → now t ≡ Ok rs → AllByRecursion (λ row. t ≡ Base place → has_its_values base.0 row ≡ true) rs
  values_there t rs is =
      all_if (t ≡ Base place) (λ row. has_its_values base.0 row ≡ true) rs
      (λ same. subst (λ (l : List Row). AllByRecursion (λ row. has_its_values base.0 row ≡ true) l) (ok_same all_rows rs (sym whole ∙ ap now (sym same) ∙ is)) have_values)

  rows_in_lines : (us : List TablePlace) → AllByRecursion (λ t. HasValue (columns t)) us → AllByRecursion (λ t. (rs : List Row) → now t ≡ Ok rs → AllByRecursion (IsIn t) rs) us
  rows_in_lines us =
      all_weaker (λ t. HasValue (columns t)) (λ t. (rs : List Row) → now t ≡ Ok rs → AllByRecursion (IsIn t) rs)
      (λ t known rs is.
      all_both (λ row. Has (λ ks. IsRowOf ks row) (columns t)) (λ row. IsRowAmong found t row × (t ≡ Base place → has_its_values base.0 row ≡ true)) (IsIn t) (λ row p q. (p, q.0, q.1)) rs (kinds_of columns now fitting t rs known is)
      (all_both (IsRowAmong found t) (λ row. t ≡ Base place → has_its_values base.0 row ≡ true) (λ row. IsRowAmong found t row × (t ≡ Base place → has_its_values base.0 row ≡ true)) (λ row p q. (p, q)) rs
      (among_found found tables t rs is) (values_there t rs is))) us

  -- what stands elsewhere is read as before
  pub still : (t : TablePlace) → IsNeeded inner t → now t ≡ next t
  still (View n) needed = refl
  still (Base n) needed = by (nat_eq place n) refl
    where
      by : (b : Bool) → nat_eq place n ≡ b → now (Base n) ≡ rows_or (cond b (Some own) (found_of n found)) (tables (Base n))
      by false e = refl
      by true e = absurd (alone_there.apart (subst (λ m. IsNeeded inner (Base m)) (sym (eqb-true place n e)) needed))

  module _ (has : Row → Bool) (few_are : lent own.rows.items ≡ filter has all_rows) where
    abbrev left : TablePlace → Row → Bool
    left = one.left now next q (Base place) item alone_there.once has

    abbrev if_own : Bool → Row → Bool
    if_own b row = if b then has row else true

    next_is : (t : TablePlace) → next t ≡ and_then (now t) (λ rs. Ok (filter (left t) rs))
    next_is (View n) = all_stay (tables (View n))
    next_is (Base n) = by (nat_eq place n) refl
      where
        by : (b : Bool) → nat_eq place n ≡ b → rows_or (cond b (Some own) (found_of n found)) (tables (Base n)) ≡ and_then (now (Base n)) (λ rs. Ok (filter (if_own b) rs))
        by false e = all_stay (now (Base n))
        by true e =
            ap (λ (rs : List Row). let is : Outcome (List Row) = Ok rs in is) few_are
            ∙ sym (ap (λ (o : Outcome (List Row)). and_then o (λ rs. Ok (filter has rs))) (ap (λ m. now (Base m)) (sym (eqb-true place n e)) ∙ whole))

    pub fewer : AreFitting columns next
    fewer t = subst (Fits AreRowsOf (columns t)) (sym (next_is t)) (fewer_fit (columns t) (now t) (left t) (fitting t))

    module _ (scopes : List (Scope (Unit {0}))) where
      abbrev pub wanted : Line → Outcome Bool
      wanted line = is_true (clause_truth (by_place now) (where_in q) (beneath scopes line values caller))

      module _ (out : (line : Line) → AllZip IsIn ts line → (row : Row) → slice_get line item ≡ Some row → has row ≡ false → wanted line ≡ Ok false) where
        pub same_next : rows (by_place now) (select_of q) (env scopes) ≡ rows (by_place next) (select_of q) (env scopes)
        same_next =
            one.same_next now next q (Base place) item alone_there.once has next_is (inside_weaker (IsNeeded inner) (λ t. now t ≡ next t) still (select_of q) inside) values caller scopes IsIn (rows_in_lines ts tables_known) out
