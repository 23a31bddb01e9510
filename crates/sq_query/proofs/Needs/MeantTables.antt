-- There are tables that mean what the store's rows and the views' queries give, where each view reads base tables and earlier
-- views alone (ISO/IEC 9075:1992, 11.19).
use Rattle.std.proofs.Common.{◌≡◌, arith, ℕ, zero, suc, ◌<◌, nat_lt, Bool, true, false, List, [], ◌∷◌, Option, Some, None, refl, sym, subst, Ok, Err, slice_get}
use Rattle.std.proofs.lemmas.Bool.{ltb-true}
use Rattle.std.proofs.Math.Logic.{∥∥₁_elim}
use Rattle.std.specs.Coded.{×_prop, Unit-prop, le_prop}
use Rattle.std.specs.List.{AllByRecursion}
use Rattle.std.specs.Prelude.{⊤, if◌then◌else◌, IfSome}
use Rattle.sq_lex.specs.declared.name.Name.{Name}
use Rattle.sq_value.specs.declared.domain.Kind.{Kind}
use Rattle.sq_store.specs.Content.{Content}
use Rattle.sq_meaning.specs.Status.{Outcome, and_then, well_formed, not_well_formed}
use Rattle.sq_meaning.specs.Syntax.{Conds, compare, compare_subquery, compare_quantified, between, in_subquery, in_list, like, is_null, exists, negated, conjunction, disjunction, no_cond, a_cond, absent, present, select}
use Rattle.sq_meaning.specs.Environment.{Row, outermost}
use Rattle.sq_meaning.specs.Placed.{Placed}
use Rattle.sq_meaning.specs.WellFormed.{Has, HasValue}
use Rattle.sq_bound.specs.Condition.{PlacedCond, PlacedClause, PlacedSelect, select_of}
use Rattle.sq_bound.specs.WellFormed.{IsSelect, IsViewQuery, TableKinds, before_view, kinds_of_select}
use Rattle.sq_bound.specs.declared.condition.BoundSpecification.{BoundSpecification}
use Rattle.sq_bound.specs.declared.condition.TablePlace.{TablePlace}
use Rattle.sq_bound.specs.declared.condition.TablePlace.TheVariants.{Base, View}
use Rattle.sq_query.specs.Needed.{ReadsClause, ReadsCond, ReadsConds, ReadsSelect}
use Rattle.sq_query.specs.Table.{AreMeant, rows_of_view, stored_rows}
use Rattle.sq_query.proofs.Needs.NeededViews.{reads_known, reads_weaker}
use Rattle.sq_query.proofs.Needs.SameTables.{same_rows}

-- a base table, or a view that stands before a place
abbrev pub StandsBefore : ℕ → TablePlace → Type 0
StandsBefore place (Base n) = ⊤
StandsBefore place (View n) = n < place

-- each view's query reads base tables and earlier views
abbrev pub AreInOrder : List BoundSpecification → Type 0
AreInOrder queries = (place : ℕ) → IfSome (slice_get queries place) (λ q. ReadsSelect (StandsBefore place) (select_of q))

module _ (queries : List BoundSpecification) (content : Content) (user : Name) (in_order : AreInOrder queries) where
  -- the rows of a table, where this many steps from view to view may be gone
  tables_within : ℕ → TablePlace → Outcome (List Row)
  tables_within steps (Base n) = stored_rows content n
  tables_within zero (View n) = not_well_formed
  tables_within (suc steps) (View n) = and_then (well_formed (slice_get queries n)) (rows_of_view (tables_within steps) user)

  query_same : (f g : TablePlace → Outcome (List Row)) (n : ℕ) → ((t : TablePlace) → StandsBefore n t → f t ≡ g t) → (found : Option BoundSpecification) → IfSome found (λ q. ReadsSelect (StandsBefore n) (select_of q))
      → and_then (well_formed found) (rows_of_view f user) ≡ and_then (well_formed found) (rows_of_view g user)
  query_same f g n same None reads = refl
  query_same f g n same (Some q) reads = same_rows f g (select_of q) (reads_weaker (StandsBefore n) (λ t. f t ≡ g t) same (select_of q) reads) (outermost [] user)

  earlier_same : (f g : TablePlace → Outcome (List Row)) (n : ℕ) → ((m : ℕ) → f (Base m) ≡ g (Base m)) → ((m : ℕ) → m < n → f (View m) ≡ g (View m)) → (t : TablePlace) → StandsBefore n t → f t ≡ g t
  earlier_same f g n bases views (Base m) before = bases m
  earlier_same f g n bases views (View m) before = views m before

  -- enough steps give the same
  steps_same : (bound n a b : ℕ) → n < bound → n < a → n < b → tables_within a (View n) ≡ tables_within b (View n)
  unfolding tables_within
  steps_same zero n a b less there here = absurd (omega arith)
  steps_same (suc bound) n zero b less there here = absurd (omega arith)
  steps_same (suc bound) n (suc a) zero less there here = absurd (omega arith)
  steps_same (suc bound) n (suc a) (suc b) less there here =
      query_same (tables_within a) (tables_within b) n
      (earlier_same (tables_within a) (tables_within b) n (λ m. refl) (λ m before. steps_same bound m a b (omega arith) (omega arith) (omega arith))) (slice_get queries n) (in_order n)

  meant_tables : TablePlace → Outcome (List Row)
  meant_tables (Base n) = stored_rows content n
  meant_tables (View n) = tables_within (suc n) (View n)

  pub tables_there : (tables : TablePlace → Outcome (List Row)) × AreMeant queries content user tables
  unfolding meant_tables tables_within
  tables_there = (
    meant_tables,
    record {
      bases = λ n. refl;
      views = λ n. query_same (tables_within n) meant_tables n (earlier_same (tables_within n) meant_tables n (λ m. refl) (λ m before. steps_same (suc m) m n (suc m) (omega arith) before (omega arith))) (slice_get queries n) (in_order n);
    },
  )

-- ---- the views of well-formed schemas stand in order

module _ (P : TablePlace → Type 0) (prop : (t : TablePlace) → IsProp (P t)) where
  from_prop : (from : List TablePlace) → IsProp (AllByRecursion P from)
  from_prop [] = Unit-prop
  from_prop (t ∷ from) = ×_prop (prop t) (from_prop from)

  mutual
    cond_prop : (c : PlacedCond) → IsProp (ReadsCond P c)
    cond_prop (compare op a b) = Unit-prop
    cond_prop (compare_subquery op a q) = select_prop q
    cond_prop (compare_quantified op quantifier a q) = select_prop q
    cond_prop (between a low high) = Unit-prop
    cond_prop (in_subquery a q) = select_prop q
    cond_prop (in_list a es) = Unit-prop
    cond_prop (like text pattern escape) = Unit-prop
    cond_prop (is_null a) = Unit-prop
    cond_prop (exists q) = select_prop q
    cond_prop (negated c) = cond_prop c
    cond_prop (conjunction cs) = conds_prop cs
    cond_prop (disjunction cs) = conds_prop cs

    conds_prop : (cs : Conds (Placed TablePlace)) → IsProp (ReadsConds P cs)
    conds_prop no_cond = Unit-prop
    conds_prop (a_cond c cs) = ×_prop (cond_prop c) (conds_prop cs)

    clause_prop : (c : PlacedClause) → IsProp (ReadsClause P c)
    clause_prop absent = Unit-prop
    clause_prop (present c) = cond_prop c

    select_prop : (q : PlacedSelect) → IsProp (ReadsSelect P q)
    select_prop (select distinct list from filter by having) = λ x y i. (from_prop from x.0 y.0 i, clause_prop filter x.1 y.1 i, clause_prop having x.2 y.2 i)

before_prop : (place : ℕ) (t : TablePlace) → IsProp (StandsBefore place t)
before_prop place (Base n) = Unit-prop
before_prop place (View n) = le_prop

module _ (columns : TableKinds) (queries : List BoundSpecification) (kinds_of_views : (place : ℕ) (kinds : List Kind) → columns (View place) ≡ Ok kinds → IsViewQuery columns queries place kinds)
    (known : (place : ℕ) → HasValue (well_formed (slice_get queries place)) → HasValue (columns (View place))) where
  stands_before : (place : ℕ) (t : TablePlace) → HasValue (before_view place columns t) → StandsBefore place t
  stands_before place (Base n) h = tt
  stands_before place (View n) h = if_before (nat_lt n place) refl h
    where
      if_before : (b : Bool) → nat_lt n place ≡ b → HasValue (if b then columns (View n) else not_well_formed) → n < place
      if_before true e h = ltb-true n place e
      if_before false e h = absurd h

  query_before : (place : ℕ) (kinds : List Kind) (q : BoundSpecification) → Has (λ s. IsSelect (before_view place columns) [] [] s × (kinds ≡ kinds_of_select s)) (Ok q) → ReadsSelect (StandsBefore place) (select_of q)
  query_before place kinds q h =
      reads_weaker (λ t. HasValue (before_view place columns t)) (StandsBefore place) (stands_before place) (select_of q) (reads_known (before_view place columns) [] [] q h.0)

  view_before : (place : ℕ) (q : BoundSpecification) → slice_get queries place ≡ Some q → (o : Outcome (List Kind)) → columns (View place) ≡ o → ReadsSelect (StandsBefore place) (select_of q)
  view_before place q is (Err s) e = absurd (subst HasValue e (known place (subst (λ (found : Option BoundSpecification). HasValue (well_formed found)) (sym is) tt)))
  view_before place q is (Ok kinds) e =
      ∥∥₁_elim (kinds_of_views place kinds e) (select_prop (StandsBefore place) (before_prop place) (select_of q))
      (λ h. query_before place kinds q (subst (λ (found : Option BoundSpecification). Has (λ s. IsSelect (before_view place columns) [] [] s × (kinds ≡ kinds_of_select s)) (well_formed found)) is h))

  -- where each view's columns are known, and its query is over the tables before it
  pub views_in_order : AreInOrder queries
  views_in_order place = by (slice_get queries place) refl
    where
      by : (found : Option BoundSpecification) → slice_get queries place ≡ found → IfSome found (λ q. ReadsSelect (StandsBefore place) (select_of q))
      by None is = tt
      by (Some q) is = view_before place q is (columns (View place)) refl
