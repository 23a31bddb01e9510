-- The base tables and views that a statement needs are read as they are meant (ISO/IEC 9075:1992, 11.19).
use Rattle.std.proofs.Common.{◌≡◌, arith, ℕ, ◌+◌, ◌<◌, ◌≤◌, nat_eq, Bool, true, false, List, [], ◌∷◌, ◌++◌, length, map, find, cond, Option, Some, None, Result, Vec, refl, sym, ap, subst, ◌∙◌, Ok, Err, slice_get, ⊎_elim, nat_lt}
use Rattle.std.proofs.Math.Nat.{eq-or-lt_of_le}
use Rattle.std.proofs.lemmas.Bool.{eqb-true, eq-eqb, or_right}
use Rattle.std.proofs.lemmas.Bool.Decides.{nat_tests}
use Rattle.std.specs.declared.alloc.Global.{Global}
use Rattle.std.specs.List.{AllByRecursion, list_any}
use Rattle.std.specs.Option.{option_map}
use Rattle.std.specs.Prelude.{IfOk, IsErrAnd, ◌||◌, IfSome, if◌then◌else◌}
use Rattle.sq_lex.specs.declared.name.Name.{Name}
use Rattle.sq_store.specs.Content.{Content, table_at}
use Rattle.sq_store.specs.declared.table.Table.{Table}
use Rattle.sq_meaning.specs.Environment.{Row}
use Rattle.sq_meaning.specs.Placed.{by_place}
use Rattle.sq_meaning.specs.Query.{rows}
use Rattle.sq_meaning.specs.Status.{Outcome, and_then, each, well_formed, not_well_formed}
use Rattle.sq_meaning.specs.Tables.{rows_in}
use Rattle.sq_meaning.specs.WellFormed.{HasValue}
use Rattle.sq_bound.specs.Condition.{PlacedSelect, select_of}
use Rattle.sq_bound.specs.Noted.{SelectIsNoted}
use Rattle.sq_bound.specs.Numbered.{HaveNumbers, SelectWith}
use Rattle.sq_bound.specs.WellFormed.{TableKinds, before_view}
use Rattle.sq_bound.specs.declared.condition.BoundSpecification.{BoundSpecification}
use Rattle.sq_bound.specs.declared.condition.TablePlace.{TablePlace}
use Rattle.sq_bound.specs.declared.condition.TablePlace.TheVariants.{Base, View}
use Rattle.sq_bound.specs.declared.names.View.{View as BoundView}
use Rattle.sq_expression.specs.Fault.{HasRows, IsAnswered, IsRight, MeansRows, MeetsAs}
use Rattle.sq_expression.specs.Frame.{lent, table_rows, view_outcome}
use Rattle.sq_expression.specs.Lines.{env_around}
use Rattle.sq_condition.specs.Memo.{Meant}
use Rattle.sq_query.specs.Needed.{IsNeeded, NeedsMore, ReadsSelect, select_tables}
use Rattle.sq_condition.specs.Specification.{rows_meant}
use Rattle.sq_condition.specs.Subquery.{KnowsQuery}
use Rattle.sq_query.specs.Table.{CanBeRead, IsViewAt, ReadsAsMeant, base_seen, rows_among, rows_read, rows_of_view, stored_base, table_there, stored_rows}
use Rattle.sq_expression.specs.declared.context.Context.{Context}
use Rattle.sq_expression.specs.declared.fault.Fault.{Fault}
use Rattle.sq_expression.specs.declared.fault.Fault.TheVariants as fault
use Rattle.sq_query.specs.declared.needed.Needed.{Needed}
use Rattle.sq_expression.specs.declared.table.BaseRows.{BaseRows}
use Rattle.sq_expression.specs.declared.table.ViewRows.{ViewRows}
use Rattle.sq_query.specs.declared.view.Tables.{Tables}
use Rattle.sq_query.proofs.Needs.Added.{is, select_listed, select_read}
use Rattle.sq_query.proofs.Needs.Bases.{stored_by}
use Rattle.sq_expression.proofs.Kept.{ok_same}
use Rattle.sq_query.proofs.Needs.KnownQueries.{known_of}
use Rattle.sq_query.proofs.Needs.NeededViews.{reads_known, reads_weaker, stands_before}
use Rattle.sq_query.proofs.Needs.SameTables.{same_rows}

-- ---- a query over tables that are read as they are meant

pub among_of_context : (context : Context) (t : TablePlace) → table_rows context t ≡ rows_among context.bases.now context.views.now t
among_of_context context (Base p) = found (find (λ t. nat_eq t.place p) context.bases.now)
  where
    found : (o : Option BaseRows) → well_formed (option_map (λ (t : BaseRows). lent t.rows.items) o) ≡ and_then (well_formed o) (λ t. Ok (lent t.rows.items))
    found None = refl
    found (Some t) = refl
among_of_context context (View p) = refl

pub rows_of_known : (context : Context) (q : BoundSpecification) (tables : TablePlace → Outcome (List Row)) (r : Result (Vec Row Global) Fault)
    → ((meant : Meant) → KnowsQuery context q meant → MeansRows r (rows_meant q None context)) → SelectIsNoted q → HaveNumbers SelectWith q
    → ReadsSelect (λ t. rows_among context.bases.now context.views.now t ≡ tables t) (select_of q) → IsRight (rows (by_place tables) (select_of q) (env_around None context))
    → HasRows r (rows (by_place tables) (select_of q) (env_around None context))
rows_of_known context q tables r means notes numbers reads right =
    let known = known_of context q notes numbers in
    let here : ReadsSelect (λ t. table_rows context t ≡ tables t) (select_of q) =
    reads_weaker (λ t. rows_among context.bases.now context.views.now t ≡ tables t) (λ t. table_rows context t ≡ tables t) (λ t h. among_of_context context t ∙ h) (select_of q) reads in
    let same : rows_meant q None context ≡ rows (by_place tables) (select_of q) (env_around None context) = same_rows (table_rows context) tables (select_of q) here (env_around None context) in
    subst (HasRows r) same (means known.0 known.1 (subst IsRight (sym same) right))

-- ---- what is found by its place

find_kept : {A : Type 0} (test : A → Bool) (xs : List A) (x : A) → test x ≡ false → find test (xs ++ x ∷ []) ≡ find test xs
find_kept test [] x fails = ap (λ b. cond b (Some x) None) fails
find_kept test (y ∷ ys) x fails = ap (cond (test y) (Some y)) (find_kept test ys x fails)

find_last : {A : Type 0} (test : A → Bool) (xs : List A) (x : A) → test x ≡ true → AllByRecursion (λ y. test y ≡ false) xs → find test (xs ++ x ∷ []) ≡ Some x
find_last test [] x holds fail = ap (λ b. cond b (Some x) None) holds
find_last test (y ∷ ys) x holds fail = ap (λ b. cond b (Some y) (find test (ys ++ x ∷ []))) fail.0 ∙ find_last test ys x holds fail.1

other : (m n : ℕ) → m < n → nat_eq m n ≡ false
other m n lt = grind (arith, nat_tests)

another : (m n : ℕ) → m < n → nat_eq n m ≡ false
another m n lt = grind (arith, nat_tests)

-- ---- views, by rising places

abbrev pub AreBelow : ℕ → List ViewRows → Type 0
AreBelow end views = AllByRecursion (λ v. v.place < end) views

pub below_more : (end : ℕ) (views : List ViewRows) → AreBelow end views → AreBelow (end + 1) views
below_more end [] h = tt
below_more end (v ∷ views) h = let lt : v.place < end = h.0 in (omega arith, below_more end views h.1)

pub below_with : (end : ℕ) (views : List ViewRows) (v : ViewRows) → AreBelow end views → v.place ≡ end → AreBelow (end + 1) (views ++ v ∷ [])
below_with end [] v h at = (omega arith, tt)
below_with end (x ∷ views) v h at = let lt : x.place < end = h.0 in (omega arith, below_with end views v h.1 at)

none_at : (end : ℕ) (views : List ViewRows) → AreBelow end views → AllByRecursion (λ v. nat_eq v.place end ≡ false) views
none_at end [] h = tt
none_at end (v ∷ views) h = (other v.place end h.0, none_at end views h.1)

module _ (needed : Needed) (bases : List BaseRows) (tables : TablePlace → Outcome (List Row)) where
  -- the needed views before a place were read
  abbrev pub ReadBelow : ℕ → List ViewRows → Type 0
  ReadBelow end views = (p : ℕ) → p < end → IsNeeded needed (View p) → rows_among bases views (View p) ≡ tables (View p)

  pub read_skipped : (end : ℕ) (views : List ViewRows) → ReadBelow end views → (IsNeeded needed (View end) → ⊥) → ReadBelow (end + 1) views
  read_skipped end views so_far none p lt here =
      let most : p ≤ end = omega arith in
      ⊎_elim (λ (same : p ≡ end). absurd (none (subst (λ n. IsNeeded needed (View n)) same here))) (λ (before : p < end). so_far p before here) (eq-or-lt_of_le most)

  pub read_with : (end : ℕ) (views : List ViewRows) (v : ViewRows) → AreBelow end views → v.place ≡ end → view_outcome v.rows.items v.failure ≡ tables (View end) → ReadBelow end views → ReadBelow (end + 1) (views ++ v ∷ [])
  read_with end views v below at is so_far p lt here =
      let most : p ≤ end = omega arith in
      ⊎_elim
      (λ (same : p ≡ end). subst (λ n. rows_among bases (views ++ v ∷ []) (View n) ≡ tables (View n)) (sym same)
      (ap (λ o. and_then (well_formed o) (λ t. view_outcome t.rows.items t.failure)) (find_last (λ t. nat_eq t.place end) views v (eq-eqb v.place end at) (none_at end views below)) ∙ is))
      (λ (before : p < end).
      let lower : p < v.place = omega arith in
      ap (λ o. and_then (well_formed o) (λ t. view_outcome t.rows.items t.failure)) (find_kept (λ t. nat_eq t.place p) views v (another p v.place lower)) ∙ so_far p before here)
      (eq-or-lt_of_le most)

-- ---- the query of a view

all_both : (P Q R : TablePlace → Type 0) → ((t : TablePlace) → P t → Q t → R t) → (ts : List TablePlace) → AllByRecursion P ts → AllByRecursion Q ts → AllByRecursion R ts
all_both P Q R f [] p q = tt
all_both P Q R f (t ∷ ts) p q = (f t p.0 q.0, all_both P Q R f ts p.1 q.1)

reads_both : (P Q R : TablePlace → Type 0) → ((t : TablePlace) → P t → Q t → R t) → (q : PlacedSelect) → ReadsSelect P q → ReadsSelect Q q → ReadsSelect R q
reads_both P Q R f q p r = select_read R q (all_both P Q R f (select_tables q) (select_listed P q p) (select_listed Q q r))

module _ (columns : TableKinds) (queries : List BoundSpecification) (user : Name) (needed : Needed) (tables : TablePlace → Outcome (List Row)) (can : CanBeRead columns queries user needed tables)
    (bases : List BaseRows) (are : (place : ℕ) → IsNeeded needed (Base place) → rows_among bases [] (Base place) ≡ tables (Base place)) where
  table_read : (views : List ViewRows) (place : ℕ) → ReadBelow needed bases tables place views → (t : TablePlace) → IsNeeded needed t → HasValue (before_view place columns t) → rows_among bases views t ≡ tables t
  table_read views place so_far (Base p) here known = are p here
  table_read views place so_far (View p) here known = so_far p (stands_before columns place (View p) known) here

  pub reads_view : (views : List ViewRows) (place : ℕ) (view : BoundView) → IsViewAt columns place view → slice_get queries place ≡ Some view.query → IsNeeded needed (View place) → ReadBelow needed bases tables place views
      → ReadsSelect (λ t. rows_among bases views t ≡ tables t) (select_of view.query)
  reads_view views place view is there here so_far =
      let closed : ReadsSelect (IsNeeded needed) (select_of view.query) = subst (λ o. IfSome o (λ q. ReadsSelect (IsNeeded needed) (select_of q))) there (can.closed place here) in
      reads_both (IsNeeded needed) (λ t. HasValue (before_view place columns t)) (λ t. rows_among bases views t ≡ tables t) (table_read views place so_far) (select_of view.query) closed
      (reads_known (before_view place columns) [] [] view.query is.0)

  pub view_is : (place : ℕ) (q : BoundSpecification) → slice_get queries place ≡ Some q → tables (View place) ≡ rows_of_view tables user q
  view_is place q there = can.views place ∙ ap (λ o. and_then (well_formed o) (rows_of_view tables user)) there

  pub view_right : (place : ℕ) (q : BoundSpecification) → slice_get queries place ≡ Some q → IsNeeded needed (View place) → IsRight (rows_of_view tables user q)
  view_right place q there here = subst IsRight (view_is place q there) (can.right (View place) (can.known (View place) here))

  -- the view at a place is read, after what its query reads
  pub place_read : (views seen : List ViewRows) (place : ℕ) (view : BoundView) (v : ViewRows) → seen ≡ views → IsViewAt columns place view → slice_get queries place ≡ Some view.query → IsNeeded needed (View place)
      → AreBelow place views → v.place ≡ place
      → (ReadsSelect (λ t. rows_among bases seen t ≡ tables t) (select_of view.query) → IsRight (rows_of_view tables user view.query) → view_outcome v.rows.items v.failure ≡ rows_of_view tables user view.query)
      → ReadBelow needed bases tables place views → ReadBelow needed bases tables (place + 1) (views ++ v ∷ [])
  place_read views seen place view v same is there here below at outcome so_far =
      let reads = subst (λ (vs : List ViewRows). ReadsSelect (λ t. rows_among bases vs t ≡ tables t) (select_of view.query)) (sym same) (reads_view views place view is there here so_far) in
      read_with needed bases tables place views v below at (outcome reads (view_right place view.query there here) ∙ sym (view_is place view.query there)) so_far

  pub all_read : (views : List ViewRows) (last : ℕ) → ((place : ℕ) → IsNeeded needed (View place) → place ≤ last) → ReadBelow needed bases tables (last + 1) views → ReadsAsMeant needed (rows_among bases views) tables
  all_read views last ends so_far (Base p) here = are p here
  all_read views last ends so_far (View p) here = let most : p ≤ last = ends p here in let within : p < last + 1 = omega arith in so_far p within here

  pub all_read_by : (views : List ViewRows) (last stop : ℕ) → ((place : ℕ) → IsNeeded needed (View place) → place ≤ last) → last < stop → ReadBelow needed bases tables stop views → ReadsAsMeant needed (rows_among bases views) tables
  all_read_by views last stop ends past so_far (Base p) here = are p here
  all_read_by views last stop ends past so_far (View p) here = let most : p ≤ last = ends p here in let within : p < stop = omega arith in so_far p within here

-- ---- base tables

module _ (content : Content) where
  abbrev stored_pair : ℕ → ℕ × List Row
  stored_pair p = (p, rows_in (table_at content p))

  pub each_stored : (places : List ℕ) → ((p : ℕ) → list_any (is p) places ≡ true → table_there content p ≡ Ok (table_at content p)) → each (stored_base content) places ≡ Ok (map stored_pair places)
  each_stored [] h = refl
  each_stored (p ∷ ps) h =
      let here : table_there content p ≡ Ok (table_at content p) = h p (ap (λ b. b || list_any (is p) ps) (eq-eqb p p refl)) in
      let later : each (stored_base content) ps ≡ Ok (map stored_pair ps) = each_stored ps (λ n among. h n (or_right (nat_eq p n) (list_any (is n) ps) among)) in
      (λ i. and_then (stored_by p (here i)) (λ y. and_then (later i) (λ ys. Ok (y ∷ ys))))

  pair_place : (b : BaseRows) (q : ℕ) → base_seen b ≡ stored_pair q → b.place ≡ q
  pair_place b q e = ap (λ (x : ℕ × List Row). x.0) e

  pair_rows : (b : BaseRows) (q : ℕ) → base_seen b ≡ stored_pair q → lent b.rows.items ≡ rows_in (table_at content q)
  pair_rows b q e = ap (λ (x : ℕ × List Row). x.1) e

  pub base_read : (bases : List BaseRows) (places : List ℕ) (p : ℕ) → map base_seen bases ≡ map stored_pair places → list_any (is p) places ≡ true → rows_among bases [] (Base p) ≡ Ok (rows_in (table_at content p))
  base_read bases [] p same among = absurd cc
  base_read [] (q ∷ qs) p same among = absurd cc
  base_read (b ∷ bs) (q ∷ qs) p same among =
      let head : base_seen b ≡ stored_pair q = cc in
      let tail : map base_seen bs ≡ map stored_pair qs = cc in
      split b q head (λ later. base_read bs qs p tail later) (nat_eq q p) refl among
    where
      split : (b : BaseRows) (q : ℕ) → base_seen b ≡ stored_pair q → (list_any (is p) qs ≡ true → rows_among bs [] (Base p) ≡ Ok (rows_in (table_at content p))) → (here : Bool) → nat_eq q p ≡ here → (here || list_any (is p) qs) ≡ true
          → and_then (well_formed (cond (nat_eq b.place p) (Some b) (find (λ t. nat_eq t.place p) bs))) (λ t. Ok (lent t.rows.items)) ≡ Ok (rows_in (table_at content p))
      split b q e later true is_here any =
          let at : nat_eq b.place p ≡ true = ap (λ n. nat_eq n p) (pair_place b q e) ∙ is_here in
          ap (λ x. and_then (well_formed (cond x (Some b) (find (λ t. nat_eq t.place p) bs))) (λ t. Ok (lent t.rows.items))) at
          ∙ ap (λ rs. let read : Outcome (List Row) = Ok rs in read) (pair_rows b q e ∙ ap (λ n. rows_in (table_at content n)) (eqb-true q p is_here))
      split b q e later false is_here any =
          let at : nat_eq b.place p ≡ false = ap (λ n. nat_eq n p) (pair_place b q e) ∙ is_here in
          ap (λ x. and_then (well_formed (cond x (Some b) (find (λ t. nat_eq t.place p) bs))) (λ t. Ok (lent t.rows.items))) at ∙ later any

abbrev table_if : Content → ℕ → Bool → Outcome Table
table_if content p b = if b then Ok (table_at content p) else not_well_formed

module _ (content : Content) where
  there_if_right : (p : ℕ) → IsRight (stored_rows content p) → table_there content p ≡ Ok (table_at content p)
  there_if_right p right = by (nat_lt p (length content)) right
    where
      by : (b : Bool) → IsRight (and_then (table_if content p b) (λ found. Ok (rows_in found))) → table_if content p b ≡ Ok (table_at content p)
      by true right = refl
      by false right = absurd (right refl)

  -- the needed base tables have the rows of the store
  module _ (tables : TablePlace → Outcome (List Row)) (stored : (p : ℕ) → tables (Base p) ≡ stored_rows content p) (needed : Needed) (right : (p : ℕ) → IsNeeded needed (Base p) → IsRight (tables (Base p))) where
    needed_there : (p : ℕ) → IsNeeded needed (Base p) → table_there content p ≡ Ok (table_at content p)
    needed_there p here = there_if_right p (subst IsRight (stored p) (right p here))

    pub bases_there : each (stored_base content) needed.bases.items ≡ Ok (map (stored_pair content) needed.bases.items)
    bases_there = each_stored content needed.bases.items needed_there

    pub bases_read : (bases : List BaseRows) → each (stored_base content) needed.bases.items ≡ Ok (map base_seen bases) → (p : ℕ) → IsNeeded needed (Base p) → rows_among bases [] (Base p) ≡ tables (Base p)
    bases_read bases read p here =
        base_read content bases needed.bases.items p (ok_same (map base_seen bases) (map (stored_pair content) needed.bases.items) (sym read ∙ bases_there)) here
        ∙ sym (stored p ∙ ap (λ (o : Outcome Table). and_then o (λ found. Ok (rows_in found))) (needed_there p here))

pub answered_as : {A B : Type 0} (view : A → B) (f : Fault) (x : B) (o : Outcome B) → o ≡ Ok x → MeetsAs {A = A} view (Err f) o → IsAnswered {A = A} (Err f)
answered_as view fault.NoMemory x o is h = tt
answered_as view (fault.Status s) x o is h = absurd cc

-- what more was read as it is meant
pub first_read : {E : Type 0} (r : Result Tables Fault) (s : Result Needed E) (n after : Needed) (tables : TablePlace → Outcome (List Row)) → s ≡ Ok n → NeedsMore n after
    → IfOk r (λ read. ReadsAsMeant after (rows_read read) tables) → IfOk r (λ read. IfOk s (λ m. ReadsAsMeant m (rows_read read) tables))
first_read (Err f) s n after tables is more as_meant = tt
first_read {E} (Ok read) s n after tables is more as_meant =
    subst (λ (o : Result Needed E). IfOk o (λ m. ReadsAsMeant m (rows_read read) tables)) (sym is) (λ t h. as_meant t (more t h))

-- a fault that is handed on, and is no status
pub handed : {A : Type 0} (B : Type 0) (r : Result A Fault) (e : Fault) (P : A → Type 0) → IsErrAnd r (λ g. g ≡ e) → IsAnswered {A = B} (Err e) → IsAnswered r × IfOk r P
handed B (Ok a) e P is h = absurd is
handed {A} B (Err g) e P is h = (subst (λ (x : Fault). IsAnswered {A = A} (Err x)) (sym is) (as_kind e h), tt)
  where
    as_kind : (e : Fault) → IsAnswered {A = B} (Err e) → IsAnswered {A = A} (Err e)
    as_kind fault.NoMemory h = tt
    as_kind (fault.Status s) h = absurd h
