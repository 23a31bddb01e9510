-- What the search for rows by the rows of a subquery finds.
use Rattle.std.proofs.Common.{◌≡◌, ◌∙◌, ◌+◌, inl, inr, ℕ, zero, suc, Bool, true, false, true≢false, not, ◌||◌, List, [], ◌∷◌, ◌++◌, cond, find, length, nat_eq, take, slice_get, Option, Some, None, Result, Vec, Global, refl, sym, ap, subst, arith, Ok, Err}
use Rattle.std.specs.Prelude.{IfOk, IfSome, IsSome, option_to_list}
use Rattle.std.specs.List.{AllByRecursion, AllZip, list_any}
use Rattle.sq_lex.specs.declared.name.Name.{Name}
use Rattle.sq_value.specs.declared.value.Value.{Value}
use Rattle.sq_tree.specs.declared.cond.Comparison.TheVariants.{Equal}
use Rattle.sq_store.specs.Content.{Content}
use Rattle.sq_store.specs.Keys.{Keys}
use Rattle.sq_meaning.specs.Environment.{Row}
use Rattle.sq_meaning.specs.Placed.{by_place}
use Rattle.sq_meaning.specs.Query.{rows}
use Rattle.sq_meaning.specs.Status.{Outcome, and_then, well_formed}
use Rattle.sq_bound.specs.Columns.{IsClosed}
use Rattle.sq_bound.specs.Condition.{select_of}
use Rattle.sq_bound.specs.Numbered.{HaveNumbers, IsNumbered, SelectWith, number_of}
use Rattle.sq_bound.specs.declared.condition.BoundSpecification.{BoundSpecification}
use Rattle.sq_bound.specs.declared.condition.BoundTest.{BoundTest}
use Rattle.sq_bound.specs.declared.condition.Compared.{Compared}
use Rattle.sq_bound.specs.declared.condition.Compared.TheVariants.{Scalar, Any}
use Rattle.sq_bound.specs.declared.condition.Predicate.TheVariants as bound
use Rattle.sq_bound.specs.declared.condition.TablePlace.{TablePlace}
use Rattle.sq_bound.specs.declared.condition.TablePlace.TheVariants.{Base, View}
use Rattle.sq_bound.specs.declared.expression.BoundExpr.{BoundExpr}
use Rattle.sq_bound.specs.declared.expression.Place.{Place}
use Rattle.sq_bound.proofs.ClosedQueries.{closed_rows}
use Rattle.sq_bound.proofs.Nested.{select_itself}
use Rattle.sq_condition.specs.Memo.{Meant}
use Rattle.sq_condition.specs.Specification.{rows_meant}
use Rattle.sq_condition.specs.Subquery.{KnowsQuery}
use Rattle.sq_expression.specs.Fault.{IsRight, MeansRows}
use Rattle.sq_expression.specs.Frame.{lent, reading, table_rows}
use Rattle.sq_expression.specs.Lines.{env_around}
use Rattle.sq_expression.specs.declared.context.Context.{Context}
use Rattle.sq_expression.specs.declared.fault.Fault.{Fault}
use Rattle.sq_expression.specs.declared.table.BaseRows.{BaseRows}
use Rattle.sq_query.specs.Items.{is_found, is_left, over, rows_or}
use Rattle.sq_query.specs.Known.{AreOnlyTests, AreValuesOf, IsAmongRows, IsBaseAlone, IsCountFor, IsOnlyKeyColumn, HasRowsOver, IsReadByRows, ServesOutside, within_scopes}
use Rattle.sq_query.specs.Named.{IsColumnOf}
use Rattle.sq_query.specs.Needed.{IsNeeded, NeedsNone, ReadsInside, ReadsSelect}
use Rattle.sq_query.specs.Several.{rows_by_values}
use Rattle.sq_query.specs.Sought.{IsKnownIn, found_of}
use Rattle.sq_query.specs.Table.{rows_among}
use Rattle.sq_query.specs.declared.needed.Needed.{Needed}
use Rattle.sq_query.proofs.FoundByKey.KnownRows.{both_serve, rows_of_subquery_serve}
use Rattle.sq_query.proofs.Needs.KnownQueries.{known_of}
use Rattle.sq_query.proofs.Needs.NeededViews.{reads_weaker}
use Rattle.sq_query.proofs.Needs.ReadAs.{table_same}
use Rattle.sq_query.proofs.Needs.SameTables.{same_rows}

-- ---- the rows of the subquery

found_read : (found : List BaseRows) (tables : TablePlace → Outcome (List Row)) (t : TablePlace) → is_left found t ≡ false → rows_among found [] t ≡ over found tables t
found_read found tables (View n) h = absurd (true≢false h)
found_read [] tables (Base n) h = absurd (true≢false h)
found_read (first ∷ found) tables (Base n) h = by (nat_eq first.place n) h (found_read found tables (Base n))
  where
    by : (b : Bool) → not (b || is_found n found) ≡ false → (not (is_found n found) ≡ false → rows_among found [] (Base n) ≡ over found tables (Base n))
        → and_then (well_formed (cond b (Some first) (find (λ (t : BaseRows). nat_eq t.place n) found))) (λ t. Ok (lent t.rows.items)) ≡ rows_or (cond b (Some first) (found_of n found)) (tables (Base n))
    by true k rest = refl
    by false k rest = rest k

-- all tables that a subquery reads were found, if none is left
pub all_found : (found : List BaseRows) (s : BoundSpecification) (tables left : Needed) → ReadsSelect (IsNeeded tables) (select_of s) → ((t : TablePlace) → IsNeeded tables t → is_left found t ≡ true → IsNeeded left t) → NeedsNone left
    → ReadsSelect (λ t. is_left found t ≡ false) (select_of s)
all_found found s tables left reads kept none = reads_weaker (IsNeeded tables) (λ t. is_left found t ≡ false) (λ t needed. by t (is_left found t) refl (kept t needed)) (select_of s) reads
  where
    never : (t : TablePlace) → IsNeeded left t → ⊥
    never (Base n) h = true≢false (sym h ∙ ap (list_any (λ (other : ℕ). nat_eq other n)) none.0)
    never (View n) h = true≢false (sym h ∙ ap (list_any (λ (other : ℕ). nat_eq other n)) none.1)

    by : (t : TablePlace) (b : Bool) → is_left found t ≡ b → (is_left found t ≡ true → IsNeeded left t) → is_left found t ≡ false
    by t false e h = e
    by t true e h = absurd (never t (h e))

rightly_numbered : (s : BoundSpecification) → HaveNumbers SelectWith s → IfSome (number_of s) (λ n. IsClosed (select_of s))
rightly_numbered s (first, (next, (order, (named, numbers)))) = (select_itself (IsNumbered first next named) s numbers).rightly

closed_with : (s : BoundSpecification) (number : Option ℕ) → IsSome number → IfSome number (λ n. IsClosed (select_of s)) → IsClosed (select_of s)
closed_with s None some h = absurd (true≢false (sym some))
closed_with s (Some n) some h = h

-- a subquery with a number has the rows that it has outside every query, over the rows that were found
pub rows_found : (context : Context) (found : List BaseRows) → context.bases.now ≡ found → context.views.now ≡ [] → (s : BoundSpecification) → IsSome (number_of s) → ReadsSelect (λ t. is_left found t ≡ false) (select_of s)
    → (r : Result (Vec (List Value) Global) Fault) → ((meant : Meant) → KnowsQuery context s meant → MeansRows r (rows_meant s None context)) → IfOk r (λ rs. HasRowsOver found context.parameters.now context.user s rs.items)
rows_found context found bases_are views_are s some reads (Err f) h = tt
rows_found context found bases_are views_are s some reads (Ok rs) h = λ notes numbers tables scopes right.
    let now = over found tables in
    let known = known_of context s notes numbers in
    let as_found = reads_weaker (λ t. is_left found t ≡ false) (λ t. table_rows context t ≡ now t) (λ t k. table_same context t ∙ (λ j. rows_among (bases_are j) (views_are j) t) ∙ found_read found tables t k) (select_of s) reads in
    let outside = env_around None context in
    let here = within_scopes scopes context.parameters.now context.user in
    let closed = closed_with s (number_of s) some (rightly_numbered s numbers) in
    let same : rows (reading context) (select_of s) outside ≡ rows (by_place now) (select_of s) here =
    same_rows (table_rows context) now (select_of s) as_found outside ∙ closed_rows now (select_of s) outside scopes closed in
    sym same ∙ h known.0 known.1 (subst IsRight (sym same) right)

-- the values of its rows
pub values_so : (found : List BaseRows) (values : List Value) (caller : Name) (k : Compared) (s : BoundSpecification) (rs given : List Row) (o : Option (Vec Value Global)) → given ≡ rs → HasRowsOver found values caller s rs
    → IfSome o (λ vs. AllZip (IsKnownIn 0) given vs.items) → IfSome o (λ vs. IsCountFor k (length given)) → IfSome o (λ vs. AreValuesOf found values caller k s vs.items)
values_so found values caller k s rs given None are rows_are firsts count = tt
values_so found values caller k s rs given (Some vs) are rows_are firsts count = record {
  rs = rs;
  rows_are = rows_are;
  firsts = subst (λ (l : List Row). AllZip (IsKnownIn 0) l vs.items) are firsts;
  count = subst (λ (l : List Row). IsCountFor k (length l)) are count;
}

-- ---- the test

pub in_so : (test : BoundTest) (written : Bool) (e : BoundExpr) (s : BoundSpecification) (item n : ℕ) → test.negated ≡ false → test.predicate ≡ bound.InQuery written e s → written ≡ false → IsColumnOf item n e → IsAmongRows item n Any s test
in_so test written e s item n plain is not column = record { own = e; is_column = column; plain = plain; says = inr (is ∙ ap (λ (b : Bool). bound.InQuery b e s) not) }

pub any_so : (test : BoundTest) (e : BoundExpr) (s : BoundSpecification) (item n : ℕ) → test.negated ≡ false → test.predicate ≡ bound.CompareQuery Equal Any e s → IsColumnOf item n e → IsAmongRows item n Any s test
any_so test e s item n plain is column = record { own = e; is_column = column; plain = plain; says = inl is }

pub scalar_so : (test : BoundTest) (e : BoundExpr) (s : BoundSpecification) (item n : ℕ) → test.negated ≡ false → test.predicate ≡ bound.CompareQuery Equal Scalar e s → IsColumnOf item n e → IsAmongRows item n Scalar s test
scalar_so test e s item n plain is column = record { own = e; is_column = column; plain = plain; says = is }

-- ---- tests one after another

pub never_more : (xs : List BoundTest) (i : ℕ) (x : BoundTest) → slice_get xs i ≡ Some x → x.can_fail ≡ false → AllByRecursion (λ y. y.can_fail ≡ false) (take i xs) → AllByRecursion (λ y. y.can_fail ≡ false) (take (i + 1) xs)
never_more xs i x at never all = let next : i + 1 ≡ suc i = omega arith in subst (λ n. AllByRecursion (λ y. y.can_fail ≡ false) (take n xs)) (sym next) (more xs i at all)
  where
    more : (ys : List BoundTest) (n : ℕ) → slice_get ys n ≡ Some x → AllByRecursion (λ y. y.can_fail ≡ false) (take n ys) → AllByRecursion (λ y. y.can_fail ≡ false) (take (suc n) ys)
    more [] n e all = absurd cc
    more (y ∷ ys) zero e all = let same : x ≡ y = cc in (subst (λ (z : BoundTest). z.can_fail ≡ false) same never, tt)
    more (y ∷ ys) (suc n) e all = (all.0, more ys n e all.1)

module _ (q : BoundSpecification) (content : Content) (keys : List Keys) (values : List Value) (caller : Name) (inner : Needed) where
  abbrev Serve : List BaseRows → List BaseRows → Type 0
  Serve = ServesOutside q content keys values caller

  -- the rows of a test
  pub read_so : (test : BoundTest) (found : List BaseRows) (p : Place) (k : Compared) (s : BoundSpecification) (base key : ℕ) (vs : Vec Value Global) (own : BaseRows) → IsAmongRows p.item p.column k s test → IsBaseAlone q p.item base inner content found
      → IsOnlyKeyColumn keys base p.column key → AreValuesOf found values caller k s vs.items → own.place ≡ base → lent own.rows.items ≡ rows_by_values content keys base (record { key = key; values = vs }) → IsReadByRows q test inner content keys values caller found own
  read_so test found p k s base key vs own among alone_there only known is are =
      let here = sym is in record {
        item = p.item;
        base = subst (λ (b : ℕ). IsBaseAlone q p.item b inner content found) here alone_there;
        n = p.column;
        known = record { key = key; values = vs };
        key = subst (λ (b : ℕ). IsOnlyKeyColumn keys b p.column key) here only;
        k = k;
        subquery = s;
        among = among;
        values = known;
        are = are ∙ ap (λ (b : ℕ). rows_by_values content keys b (record { key = key; values = vs })) here;
      }

  -- with the rows of a test, if it names some
  pub one_serves : ReadsInside (IsNeeded inner) (select_of q) → (tests : List BoundTest) → AreOnlyTests q tests → (i : ℕ) (test : BoundTest) → slice_get tests i ≡ Some test → AllByRecursion (λ x. x.can_fail ≡ false) (take i tests)
      → (before found next : List BaseRows) (o : Option BaseRows) → Serve before found → IfSome o (IsReadByRows q test inner content keys values caller found) → next ≡ option_to_list o ++ found → Serve before next
  one_serves inside tests only i test at never before found next None so_far h is = subst (Serve before) (sym is) so_far
  one_serves inside tests only i test at never before found next (Some own) so_far h is =
      subst (Serve before) (sym is) (both_serve q content keys values caller before found (own ∷ found) so_far (rows_of_subquery_serve q content keys values caller inner inside tests only i test at never found own h))
