-- The rows of a query expression, UNION by UNION (ISO/IEC 9075:1992, 7.10).
use Rattle.std.proofs.Common.{◌≡◌, ℕ, zero, suc, ◌+◌, ◌<◌, ◌≤◌, Bool, List, [], ◌∷◌, ◌++◌, length, take, get_or, true, sym, subst, ap, ◌∙◌, Option, Some, Result, Ok, Err}
use Rattle.std.proofs.lemmas.List.Sums.{fold_more}
use Rattle.std.proofs.lemmas.List.{take_all}
use Rattle.std.specs.Prelude.{fold, flat_map, Vec, IfOk, IsErrAnd}
use Rattle.std.specs.List.{AllByRecursion}
use Rattle.std.specs.declared.alloc.Global.{Global}
use Rattle.sq_lex.specs.declared.name.Name.{Name}
use Rattle.sq_value.specs.declared.domain.Kind.{Kind}
use Rattle.sq_value.specs.declared.value.Value.{Value}
use Rattle.sq_store.specs.Content.{Content}
use Rattle.sq_store.specs.Keys.{Keys}
use Rattle.sq_meaning.specs.Status.{Outcome, and_then}
use Rattle.sq_meaning.specs.declared.status.Status.{Status}
use Rattle.sq_meaning.specs.Syntax.{union}
use Rattle.sq_meaning.specs.Environment.{Row, Env, outermost}
use Rattle.sq_meaning.specs.Expression.{Reading}
use Rattle.sq_meaning.specs.Kind.{Kinds as KindsBefore, common_kinds, query_kinds}
use Rattle.sq_meaning.specs.Placed.{Placed, by_place}
use Rattle.sq_meaning.specs.Query.{rows}
use Rattle.sq_meaning.specs.QueryExpression.{query_rows}
use Rattle.sq_meaning.specs.WellFormed.{Answers, HasValue, AreRowsOf, WellFormedQuery, kinds_by_place, IsDeclaredAt}
use Rattle.sq_meaning.proofs.AnswerLaws.{all_appended}
use Rattle.sq_bound.specs.Condition.{select_of}
use Rattle.sq_bound.specs.Fits.{keys_of_bases, not_nulls_hold}
use Rattle.sq_bound.specs.Joined.{Kinds, kept_kinds, specifications_of, term_specifications, union_specifications, joined_kinds, term_kinds, union_kinds}
use Rattle.sq_bound.specs.Query.{PlacedQuery, query_of, term_of, union_of}
use Rattle.sq_bound.specs.WellFormed.{TableKinds, IsSelect, IsQuery, kinds_of_results, kinds_of_select, kinds_of_query}
use Rattle.sq_bound.specs.declared.condition.BoundSpecification.{BoundSpecification}
use Rattle.sq_bound.specs.declared.condition.TablePlace.{TablePlace}
use Rattle.sq_bound.specs.declared.names.BaseTable.{BaseTable}
use Rattle.sq_bound.specs.declared.query.BoundQuery.{BoundQuery, out-BoundQuery}
use Rattle.sq_bound.specs.declared.query.BoundTerm.{BoundTerm}
use Rattle.sq_bound.specs.declared.query.BoundTerm.TheVariants.{Specification, Bracketed}
use Rattle.sq_bound.specs.declared.query.BoundUnion.{BoundUnion}
use Rattle.sq_bound.proofs.JoinedLaws.{specifications_of-out, union_specifications-out, term_specifications-Specification, term_specifications-Bracketed, joined_kinds-out, term_kinds-Specification, term_kinds-Bracketed}
use Rattle.sq_bound.proofs.QueryLaws.{query_of-out, union_of-out, term_of-Specification, term_of-Bracketed}
use Rattle.sq_expression.specs.Fault.{MeetsAs, HasRows, rows_in}
use Rattle.sq_expression.specs.Frame.{inputs_of}
use Rattle.sq_query.specs.MayRead.{MayRead}
use Rattle.sq_query.specs.Needed.{FindsQuery, ReadsSelect}
use Rattle.sq_query.specs.Order.{HasQueryRows, HasTermRows}
use Rattle.sq_query.specs.Specification.{AreReadable}
use Rattle.sq_query.specs.Union.{AreBringable, AreBrought, AreFitting, IsJoinedTo, WereJoined, joined_rows, rows_behind, rows_left}
use Rattle.sq_expression.specs.declared.fault.Fault.{Fault}
use Rattle.sq_expression.specs.declared.fault.Fault.TheVariants as fault
use Rattle.sq_query.proofs.ByUnion.Bringable.{both_bringable}
use Rattle.sq_query.proofs.ByUnion.JoinedTerms.{IsJoined, all_left, all_right, all_within, opened, kept_are, sides, kinds_so_far, query_of_term}
use Rattle.sq_query.proofs.Needs.Fitting.{query_fits}
use Rattle.sq_expression.proofs.Kept.{ok_same}
use Rattle.sq_query.proofs.ByUnion.Terms.{HasParts, every_term}

abbrev with_union : PlacedQuery → BoundUnion → PlacedQuery
with_union left u = union_of u left

abbrev with_kinds : Kinds → BoundUnion → Kinds
with_kinds left u = union_kinds u left

-- ---- columns are known beforehand

module _ (columns : TableKinds) (parameters : List Kind) (tables : TablePlace → Outcome (List Row)) where
  -- a query expression is well formed, and its columns are of these kinds
  abbrev pub AreKinds : PlacedQuery → List Kind → Type 0
  AreKinds q ks = (query_kinds (kinds_by_place columns parameters) q ≡ Ok ks) × WellFormedQuery (by_place tables) (kinds_by_place columns parameters) (IsDeclaredAt parameters) q

  abbrev IsTermKnown : BoundTerm → Type 0
  IsTermKnown t = AllByRecursion (IsSelect columns parameters []) (term_specifications t) → (ks : List Kind) → term_kinds t ≡ Ok ks → AreKinds (term_of t) ks

  one_known : (s : BoundSpecification) → IsTermKnown (Specification s)
  one_known s all ks is =
      let known = subst (AllByRecursion (IsSelect columns parameters [])) (term_specifications-Specification s) all in
      subst (λ (p : PlacedQuery). AreKinds p ks) (sym (term_of-Specification s))
      (known.0.kinds_are ∙ ap Ok (ok_same (kinds_of_select s) ks (sym (term_kinds-Specification s) ∙ is)), known.0.stands tables)

  union_known : (u : BoundUnion) (left : Kinds) (q : PlacedQuery) → IsTermKnown u.term → ((ls : List Kind) → left ≡ Ok ls → AreKinds q ls) → AllByRecursion (IsSelect columns parameters []) (union_specifications u)
      → (ks : List Kind) → union_kinds u left ≡ Ok ks → AreKinds (union_of u q) ks
  union_known u left q term so_far all ks is =
      let s = sides u left ks is in
      let l = so_far s.ls s.lefts in
      let r = term (subst (AllByRecursion (IsSelect columns parameters [])) (union_specifications-out u) all) s.rs s.rights in
      let both : query_kinds (kinds_by_place columns parameters) (union u.all q (term_of u.term)) ≡ Ok ks = (λ i. and_then (l.0 i) (λ ls. and_then (r.0 i) (common_kinds ls))) ∙ s.common in
      subst (λ (p : PlacedQuery). AreKinds p ks) (sym (union_of-out u q)) (both, (l.1, r.1, subst HasValue (sym both) tt))

  unions_known : (us : List BoundUnion) (left : Kinds) (q : PlacedQuery) → AllByRecursion (λ u. IsTermKnown u.term) us → ((ls : List Kind) → left ≡ Ok ls → AreKinds q ls)
      → AllByRecursion (IsSelect columns parameters []) (flat_map union_specifications us) → (ks : List Kind) → fold with_kinds left us ≡ Ok ks → AreKinds (fold with_union q us) ks
  unions_known [] left q terms so_far all ks is = so_far ks is
  unions_known (u ∷ us) left q terms so_far all ks is =
      unions_known us (union_kinds u left) (union_of u q) terms.1
      (union_known u left q terms.0 so_far (all_left (IsSelect columns parameters []) (union_specifications u) (flat_map union_specifications us) all))
      (all_right (IsSelect columns parameters []) (union_specifications u) (flat_map union_specifications us) all) ks is

  more_known : (q : BoundQuery) → HasParts IsTermKnown q → IsTermKnown (Bracketed q)
  more_known q parts all ks is =
      let o = out-BoundQuery q in
      let known = subst (AllByRecursion (IsSelect columns parameters [])) (term_specifications-Bracketed q ∙ specifications_of-out q) all in
      let found = opened (fold with_kinds (term_kinds o.first) o.rest) (kept_kinds o.columns) ks (sym (joined_kinds-out q) ∙ sym (term_kinds-Bracketed q) ∙ is) in
      let are = unions_known o.rest (term_kinds o.first) (term_of o.first) parts.1 (parts.0 (all_left (IsSelect columns parameters []) (term_specifications o.first) (flat_map union_specifications o.rest) known))
      (all_right (IsSelect columns parameters []) (term_specifications o.first) (flat_map union_specifications o.rest) known) found.0 found.1 in
      let kept = kept_are o.columns found.0 ks found.2 in
      subst (λ (p : PlacedQuery). AreKinds p ks) (sym (term_of-Bracketed q ∙ query_of-out q)) (subst (AreKinds (fold with_union (term_of o.first) o.rest)) kept.0 are)

  pub term_known : (t : BoundTerm) → IsTermKnown t
  term_known t = every_term IsTermKnown one_known more_known t

  -- a well-formed query expression
  pub query_known : (q : BoundQuery) → IsQuery columns parameters q → AreKinds (query_of q) (kinds_of_query q)
  query_known q well =
      subst (λ (p : PlacedQuery). AreKinds p (kinds_of_query q)) (term_of-Bracketed q)
      (term_known (Bracketed q) (subst (AllByRecursion (IsSelect columns parameters [])) (sym (term_specifications-Bracketed q)) well.specifications) (kinds_of_query q) (term_kinds-Bracketed q ∙ well.kinds_are))

-- ---- the first ones of several

still_known : (us : List BoundUnion) (left : Kinds) (ks : List Kind) → fold with_kinds left us ≡ Ok ks → (ls : List Kind) × (left ≡ Ok ls)
still_known [] left ks is = (ks, is)
still_known (u ∷ us) left ks is =
    let next = still_known us (union_kinds u left) ks is in
    let s = sides u left next.0 next.1 in
    (s.ls, s.lefts)

first_known : (us : List BoundUnion) (left : Kinds) (i : ℕ) (ks : List Kind) → fold with_kinds left us ≡ Ok ks → (ls : List Kind) × (fold with_kinds left (take i us) ≡ Ok ls)
first_known us left zero ks is = still_known us left ks is
first_known [] left (suc i) ks is = (ks, is)
first_known (u ∷ us) left (suc i) ks is = first_known us (union_kinds u left) i ks is

-- ---- both sides

module _ (m : Reading (Placed TablePlace)) (k : KindsBefore (Placed TablePlace)) (env : Env (Unit {0})) where
  both_meant : (all : Bool) (l r : PlacedQuery) (ls rs : List Row) (ks : List Kind) → query_rows m k l env ≡ Ok ls → query_rows m k r env ≡ Ok rs → query_kinds k (union all l r) ≡ Ok ks
      → query_rows m k (union all l r) env ≡ joined_rows all ks (ls ++ rs)
  both_meant all l r ls rs ks left right known =
      λ i. and_then (left i) (λ xs. and_then (right i) (λ ys. and_then (known i) (λ cs. joined_rows all cs (xs ++ ys))))

  left_fails : (all : Bool) (l r : PlacedQuery) (s : Status) → query_rows m k l env ≡ Err s → query_rows m k (union all l r) env ≡ Err s
  left_fails all l r s left =
      λ i. and_then (left i) (λ xs. and_then (query_rows m k r env) (λ ys. and_then (query_kinds k (union all l r)) (λ cs. joined_rows all cs (xs ++ ys))))

  right_fails : (all : Bool) (l r : PlacedQuery) (ls : List Row) (s : Status) → query_rows m k l env ≡ Ok ls → query_rows m k r env ≡ Err s → query_rows m k (union all l r) env ≡ Err s
  right_fails all l r ls s left right =
      λ i. and_then (left i) (λ xs. and_then (right i) (λ ys. and_then (query_kinds k (union all l r)) (λ cs. joined_rows all cs (xs ++ ys))))

  still_fails : (us : List BoundUnion) (l : PlacedQuery) (s : Status) → query_rows m k l env ≡ Err s → query_rows m k (fold with_union l us) env ≡ Err s
  still_fails [] l s h = h
  still_fails (u ∷ us) l s h = still_fails us (union_of u l) s (ap (λ q. query_rows m k q env) (union_of-out u l) ∙ left_fails u.all l (term_of u.term) s h)

  -- where the first ones fail, all do
  first_fail : (us : List BoundUnion) (l : PlacedQuery) (i : ℕ) (s : Status) → query_rows m k (fold with_union l (take i us)) env ≡ Err s → query_rows m k (fold with_union l us) env ≡ Err s
  first_fail us l zero s h = still_fails us l s h
  first_fail [] l (suc i) s h = h
  first_fail (u ∷ us) l (suc i) s h = first_fail us (union_of u l) i s h

-- ---- answers

-- a fault that one outcome is, and another with it
pub passed_on : {A B C D : Type 0} (view : A → B) (shown : C → D) (e : Fault) (o : Outcome B) (p : Outcome D) → ((s : Status) → o ≡ Err s → p ≡ Err s) → MeetsAs {A = A} view (Err e) o → MeetsAs {A = C} shown (Err e) p
passed_on view shown fault.NoMemory o p step h = tt
passed_on view shown (fault.Status f) o p step h = step _ h

-- ---- what is read is there

pub all_readable : (bases : List BaseTable) (columns : TableKinds) (content : Content) (own_keys : List Keys) (q : BoundQuery) → FindsQuery bases columns q → own_keys ≡ keys_of_bases bases → not_nulls_hold bases content ≡ true
    → AreReadable bases columns content own_keys (specifications_of q)
all_readable bases columns content own_keys q finds keys not_null = by (specifications_of q) finds.1
  where
    by : (ss : List BoundSpecification) → AllByRecursion (λ s. ReadsSelect (λ t. HasValue (columns t)) (select_of s)) ss → AreReadable bases columns content own_keys ss
    by [] h = tt
    by (s ∷ ss) h = (record { finds = (finds.0, h.0); keys = keys; not_null = not_null }, by ss h.1)

-- what holds of a term's query specifications

pub of_specification : (P : BoundSpecification → Type 0) (term : BoundTerm) (s : BoundSpecification) → term ≡ Specification s → AllByRecursion P (term_specifications term) → P s
of_specification P term s is h = (subst (AllByRecursion P) (ap term_specifications is ∙ term_specifications-Specification s) h).0

pub of_bracketed : (P : BoundSpecification → Type 0) (term : BoundTerm) (q got : BoundQuery) → term ≡ Bracketed q → got ≡ q → AllByRecursion P (term_specifications term) → AllByRecursion P (specifications_of got)
of_bracketed P term q got is same h = subst (λ (x : BoundQuery). AllByRecursion P (specifications_of x)) (sym same) (subst (AllByRecursion P) (ap term_specifications is ∙ term_specifications-Bracketed q) h)

module _ (P : BoundSpecification → Type 0) (q : BoundQuery) where
  pub in_first : AllByRecursion P (specifications_of q) → AllByRecursion P (term_specifications (out-BoundQuery q).first)
  in_first h =
      let o = out-BoundQuery q in
      all_left P (term_specifications o.first) (flat_map union_specifications o.rest) (subst (AllByRecursion P) (specifications_of-out q) h)

  in_rest : AllByRecursion P (specifications_of q) → AllByRecursion P (flat_map union_specifications (out-BoundQuery q).rest)
  in_rest h =
      let o = out-BoundQuery q in
      all_right P (term_specifications o.first) (flat_map union_specifications o.rest) (subst (AllByRecursion P) (specifications_of-out q) h)

  pub in_union : (unions : List BoundUnion) (i : ℕ) (u : BoundUnion) → unions ≡ (out-BoundQuery q).rest → i < length unions → u ≡ get_or unions i u → AllByRecursion P (specifications_of q) → AllByRecursion P (term_specifications u.term)
  in_union unions i u are_rest lt at h =
      subst (AllByRecursion P) (union_specifications-out u) (all_within P union_specifications unions i u (subst (λ us. AllByRecursion P (flat_map union_specifications us)) (sym are_rest) (in_rest h)) lt at)

-- the terms so far
abbrev pub query_so_far : BoundQuery → ℕ → PlacedQuery
query_so_far q i = fold with_union (term_of (out-BoundQuery q).first) (take i (out-BoundQuery q).rest)

of_first : (P : BoundSpecification → Type 0) (us : List BoundUnion) (i : ℕ) → AllByRecursion P (flat_map union_specifications us) → AllByRecursion P (flat_map union_specifications (take i us))
of_first P us zero h = tt
of_first P [] (suc i) h = tt
of_first P (u ∷ us) (suc i) h =
    all_appended P (union_specifications u) (flat_map union_specifications (take i us)) (all_left P (union_specifications u) (flat_map union_specifications us) h)
    (of_first P us i (all_right P (union_specifications u) (flat_map union_specifications us) h))

-- ---- terms

module _ (bases : List BaseTable) (queries : List BoundSpecification) (columns : TableKinds) (content : Content) (user : Name) (values : List Value) where
  abbrev MayReadThese : List Kind → (TablePlace → Outcome (List Row)) → Type 0
  MayReadThese parameters tables = MayRead bases queries columns content user values parameters tables

  abbrev AreTermRows : Result (Vec (List Value) Global) Fault → BoundTerm → Type 0
  AreTermRows result term = HasTermRows result bases queries columns content user values term

  abbrev AreQueryRows : Result (Vec (List Value) Global) Fault → BoundQuery → Type 0
  AreQueryRows result q = HasQueryRows result bases queries columns content user values q

  abbrev query_meant : List Kind → (TablePlace → Outcome (List Row)) → PlacedQuery → Outcome (List Row)
  query_meant parameters tables q = query_rows (by_place tables) (kinds_by_place columns parameters) q (outermost (inputs_of values) user)

  -- the tables that may be read have rows of their kinds
  abbrev pub AreFittingThere : Type 0
  AreFittingThere = (parameters : List Kind) (tables : TablePlace → Outcome (List Row)) → MayReadThese parameters tables → AreFitting columns tables

  pub union_handed_on : (r : Result (Vec (List Value) Global) Fault) (e : Fault) (q : BoundQuery) → IsErrAnd r (λ g. g ≡ e) → AreQueryRows (Err e) q → AreQueryRows r q
  union_handed_on (Ok v) e q is h = absurd is
  union_handed_on (Err g) e q is h = subst (λ (x : Fault). AreQueryRows (Err x) q) (sym is) h

  module _ (result : Result (Vec (List Value) Global) Fault) (term : BoundTerm) where
    pub rows_of_select_term : (s : BoundSpecification) → term ≡ Specification s
        → ((parameters : List Kind) (tables : TablePlace → Outcome (List Row)) → MayReadThese parameters tables → IsSelect columns parameters [] s → HasRows result (rows (by_place tables) (select_of s) (outermost (inputs_of values) user)))
        → AreTermRows result term
    rows_of_select_term s is h parameters tables may well kinds known =
        subst (λ (q : PlacedQuery). HasRows result (query_meant parameters tables q)) (sym (ap term_of is ∙ term_of-Specification s))
        (h parameters tables may (of_specification (IsSelect columns parameters []) term s is well))

    pub rows_of_bracketed : (q : BoundQuery) → term ≡ Bracketed q → AreQueryRows result q → AreTermRows result term
    rows_of_bracketed q is h parameters tables may well kinds known =
        subst (λ (p : PlacedQuery). HasRows result (query_meant parameters tables p)) (sym (ap term_of is ∙ term_of-Bracketed q))
        (h parameters tables may
        (query_of_term columns parameters q (subst (λ (t : BoundTerm). AllByRecursion (IsSelect columns parameters []) (term_specifications t)) is well) kinds (ap term_kinds (sym is) ∙ known)))

  -- ---- the terms so far

  -- the rows so far are as the UNION before has left them
  abbrev pub AreLeft : BoundQuery → Option BoundUnion → List Row → Type 0
  AreLeft q before rows =
      (parameters : List Kind) (tables : TablePlace → Outcome (List Row)) → MayReadThese parameters tables → IsQuery columns parameters q → WereJoined before rows

  -- the rows so far are those that the terms so far have together
  abbrev pub AreMeant : BoundQuery → ℕ → List Row → Type 0
  AreMeant q i rows =
      (parameters : List Kind) (tables : TablePlace → Outcome (List Row)) → MayReadThese parameters tables → IsQuery columns parameters q → query_meant parameters tables (query_so_far q i) ≡ Ok rows

  module _ (fits : AreFittingThere) (q : BoundQuery) where
    known_so_far : joined_kinds q ≡ Ok (kinds_of_query q) → (i : ℕ) → (ks : List Kind) × (kinds_so_far q i ≡ Ok ks)
    known_so_far noted i =
        let o = out-BoundQuery q in
        let found = opened (fold with_kinds (term_kinds o.first) o.rest) (kept_kinds o.columns) (kinds_of_query q) (sym (joined_kinds-out q) ∙ noted) in
        first_known o.rest (term_kinds o.first) i found.0 found.1

    are_kinds : (parameters : List Kind) (tables : TablePlace → Outcome (List Row)) → AllByRecursion (IsSelect columns parameters []) (specifications_of q)
        → (i : ℕ) (ks : List Kind) → kinds_so_far q i ≡ Ok ks → AreKinds columns parameters tables (query_so_far q i) ks
    are_kinds parameters tables well i ks is =
        let o = out-BoundQuery q in
        unions_known columns parameters tables (take i o.rest) (term_kinds o.first) (term_of o.first) (terms (take i o.rest))
        (term_known columns parameters tables o.first (in_first (IsSelect columns parameters []) q well)) (of_first (IsSelect columns parameters []) o.rest i (in_rest (IsSelect columns parameters []) q well)) ks is
      where
        terms : (us : List BoundUnion) → AllByRecursion (λ (u : BoundUnion). IsTermKnown columns parameters tables u.term) us
        terms [] = tt
        terms (u ∷ us) = (term_known columns parameters tables u.term, terms us)

    pub first_meant : (rows : Vec (List Value) Global) → AreTermRows (Ok rows) (out-BoundQuery q).first → AreMeant q 0 rows.items
    first_meant rows term parameters tables may well =
        let known = known_so_far well.kinds_are 0 in
        term parameters tables may (in_first (IsSelect columns parameters []) q well.specifications) known.0 known.1

    pub first_failed : (e : Fault) → AreTermRows (Err e) (out-BoundQuery q).first → AreQueryRows (Err e) q
    first_failed e term parameters tables may well =
        let o = out-BoundQuery q in
        let m = by_place tables in
        let k = kinds_by_place columns parameters in
        let env = outermost (inputs_of values) user in
        let known = known_so_far well.kinds_are 0 in
        passed_on rows_in rows_in e (query_rows m k (term_of o.first) env) (query_rows m k (query_of q) env)
        (λ s h. ap (λ p. query_rows m k p env) (query_of-out q) ∙ still_fails m k env o.rest (term_of o.first) s h)
        (term parameters tables may (in_first (IsSelect columns parameters []) q well.specifications) known.0 known.1)

    pub all_meant : (unions : List BoundUnion) (i : ℕ) (rows : List Row) (result : Result (Vec (List Value) Global) Fault) → unions ≡ (out-BoundQuery q).rest → length unions ≤ i → AreMeant q i rows
        → HasRows result (Ok rows) → AreQueryRows result q
    all_meant unions i rows result are_rest over so_far is parameters tables may well =
        let o = out-BoundQuery q in
        let past = subst (λ (us : List BoundUnion). length us ≤ i) are_rest over in
        let all = ap (λ p. query_rows (by_place tables) (kinds_by_place columns parameters) p (outermost (inputs_of values) user)) (query_of-out q ∙ ap (fold with_union (term_of o.first)) (sym (take_all i o.rest past)))
        ∙ so_far parameters tables may well in
        subst (HasRows result) (sym all) is

    -- one UNION more
    module _ (unions : List BoundUnion) (i : ℕ) (u : BoundUnion) (left : List Row) (are_rest : unions ≡ (out-BoundQuery q).rest) (within : i < length unions) (at : u ≡ get_or unions i u) (so_far : AreMeant q i left) where
      lt : i < length (out-BoundQuery q).rest
      lt = subst (λ (us : List BoundUnion). i < length us) are_rest within

      is : u ≡ get_or (out-BoundQuery q).rest i u
      is = at ∙ ap (λ (us : List BoundUnion). get_or us i u) are_rest

      next_query : query_so_far q (i + 1) ≡ union u.all (query_so_far q i) (term_of u.term)
      next_query =
          let o = out-BoundQuery q in
          fold_more with_union (term_of o.first) o.rest i u lt ∙ ap (λ w. union_of w (query_so_far q i)) (sym is) ∙ union_of-out u (query_so_far q i)

      next_kinds : kinds_so_far q (i + 1) ≡ union_kinds u (kinds_so_far q i)
      next_kinds =
          let o = out-BoundQuery q in
          fold_more with_kinds (term_kinds o.first) o.rest i u lt ∙ ap (λ w. union_kinds w (kinds_so_far q i)) (sym is)

      module _ (parameters : List Kind) (tables : TablePlace → Outcome (List Row)) (may : MayReadThese parameters tables) (well : IsQuery columns parameters q) where
        term_well : AllByRecursion (IsSelect columns parameters []) (term_specifications u.term)
        term_well = in_union (IsSelect columns parameters []) q unions i u are_rest within at well.specifications

        joined : IsJoined u (kinds_so_far q i) (known_so_far well.kinds_are (i + 1)).0
        joined = sides u (kinds_so_far q i) (known_so_far well.kinds_are (i + 1)).0 (sym next_kinds ∙ (known_so_far well.kinds_are (i + 1)).1)

        -- the rows of both sides, brought to the columns of the UNION
        next_rows : (right : Vec (List Value) Global) → AreTermRows (Ok right) u.term
            → query_rows (by_place tables) (kinds_by_place columns parameters) (query_so_far q (i + 1)) (outermost (inputs_of values) user) ≡ joined_rows u.all (kinds_of_results u.columns) (left ++ right.items)
        next_rows right term =
            let m = by_place tables in
            let k = kinds_by_place columns parameters in
            let env = outermost (inputs_of values) user in
            let known = known_so_far well.kinds_are (i + 1) in
            ap (λ p. query_rows m k p env) next_query
            ∙ both_meant m k env u.all (query_so_far q i) (term_of u.term) left right.items (kinds_of_results u.columns)
            (so_far parameters tables may well)
            (term parameters tables may term_well joined.rs joined.rights)
            (ap (query_kinds k) (sym next_query) ∙ (are_kinds parameters tables well.specifications (i + 1) known.0 known.1).0 ∙ ap Ok joined.noted)

        fails_at : (s : Status) → query_rows (by_place tables) (kinds_by_place columns parameters) (query_so_far q (i + 1)) (outermost (inputs_of values) user) ≡ Err s
            → query_rows (by_place tables) (kinds_by_place columns parameters) (query_of q) (outermost (inputs_of values) user) ≡ Err s
        fails_at s h =
            let o = out-BoundQuery q in
            let m = by_place tables in
            let k = kinds_by_place columns parameters in
            ap (λ p. query_rows m k p (outermost (inputs_of values) user)) (query_of-out q) ∙ first_fail m k (outermost (inputs_of values) user) o.rest (term_of o.first) (i + 1) s h

        -- rows that were found are of the kinds of their query
        found_kinds : (p : PlacedQuery) (ks : List Kind) (rows : List Row) → AreKinds columns parameters tables p ks → query_rows (by_place tables) (kinds_by_place columns parameters) p (outermost (inputs_of values) user) ≡ Ok rows → AreRowsOf ks rows
        found_kinds p ks rows are found = subst (Answers (AreRowsOf ks)) found (query_fits columns parameters tables (fits parameters tables may) values may.inputs user p ks are.0 are.1)

        bringable : (right : Vec (List Value) Global) → AreTermRows (Ok right) u.term → AreBringable (kinds_of_results u.columns) (left ++ right.items)
        bringable right term =
            let known = known_so_far well.kinds_are (i + 1) in
            let lefts = found_kinds (query_so_far q i) joined.ls left (are_kinds parameters tables well.specifications i joined.ls joined.lefts) (so_far parameters tables may well) in
            let rights = found_kinds (term_of u.term) joined.rs right.items (term_known columns parameters tables u.term term_well joined.rs joined.rights) (term parameters tables may term_well joined.rs joined.rights) in
            subst (λ (ks : List Kind). AreBringable ks (left ++ right.items)) joined.noted (both_bringable joined.ls joined.rs known.0 left right.items lefts rights joined.common)

      pub term_failed : (e : Fault) → AreTermRows (Err e) u.term → AreQueryRows (Err e) q
      term_failed e term parameters tables may well =
          let m = by_place tables in
          let k = kinds_by_place columns parameters in
          let env = outermost (inputs_of values) user in
          let s = joined parameters tables may well in
          passed_on rows_in rows_in e (query_rows m k (term_of u.term) env) (query_rows m k (query_of q) env)
          (λ status h. fails_at parameters tables may well status
          (ap (λ p. query_rows m k p env) next_query ∙ right_fails m k env u.all (query_so_far q i) (term_of u.term) left status (so_far parameters tables may well) h))
          (term parameters tables may (term_well parameters tables may well) s.rs s.rights)

    -- a UNION joins its term to the rows that it is given, of which repeats may be left
    module _ (unions : List BoundUnion) (i : ℕ) (u : BoundUnion) (before : Option BoundUnion) (left : List Row) (are_rest : unions ≡ (out-BoundQuery q).rest) (within : i < length unions) (at : u ≡ get_or unions i u)
        (so_far : AreMeant q i (rows_behind before left)) (were : AreLeft q before left) where
      module _ (right : Vec (List Value) Global) (term : AreTermRows (Ok right) u.term) (result : Result (Vec (List Value) Global) Fault) (join : IsJoinedTo before u left right.items result)
          (parameters : List Kind) (tables : TablePlace → Outcome (List Row)) (may : MayReadThese parameters tables) (well : IsQuery columns parameters q) where
        all_joined : (MeetsAs (rows_left u) result (joined_rows u.all (kinds_of_results u.columns) (rows_behind before left ++ right.items))) × (IfOk result (λ rows. AreBrought (kinds_of_results u.columns) rows.items))
        all_joined =
            join (were parameters tables may well)
            (bringable unions i u (rows_behind before left) are_rest within at so_far parameters tables may well right term)

      pub next_meant : (right out : Vec (List Value) Global) → AreTermRows (Ok right) u.term → IsJoinedTo before u left right.items (Ok out) → AreMeant q (i + 1) (rows_behind (Some u) out.items)
      next_meant right out term join parameters tables may well =
          next_rows unions i u (rows_behind before left) are_rest within at so_far parameters tables may well right term
          ∙ (all_joined right term (Ok out) join parameters tables may well).0

      pub next_left : (right out : Vec (List Value) Global) → AreTermRows (Ok right) u.term → IsJoinedTo before u left right.items (Ok out) → AreLeft q (Some u) out.items
      next_left right out term join parameters tables may well = (all_joined right term (Ok out) join parameters tables may well).1

      pub join_failed : (e : Fault) (right : Vec (List Value) Global) → AreTermRows (Ok right) u.term → IsJoinedTo before u left right.items (Err e) → AreQueryRows (Err e) q
      join_failed e right term join parameters tables may well =
          passed_on (rows_left u) rows_in e (joined_rows u.all (kinds_of_results u.columns) (rows_behind before left ++ right.items)) (query_rows (by_place tables) (kinds_by_place columns parameters) (query_of q) (outermost (inputs_of values) user))
          (λ status h. fails_at unions i u (rows_behind before left) are_rest within at so_far parameters tables may well status
          (next_rows unions i u (rows_behind before left) are_rest within at so_far parameters tables may well right term ∙ h))
          (all_joined right term (Err e) join parameters tables may well).0
