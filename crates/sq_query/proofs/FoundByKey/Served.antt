-- A condition has the truth that it has over the one row at most of each base table that was found in its subqueries (ISO/IEC 9075:1992,
-- 7.6, 7.11 and 8.4 to 8.12).
use Rattle.std.proofs.Common.{◌≡◌, ◌∙◌, ◌+◌, ◌<◌, inl, inr, ℕ, zero, suc, Bool, true, false, List, [], ◌∷◌, drop, get_or, length, map, take, slice_get, Some, Result, refl, sym, ap, subst, arith, Ok, Err}
use Rattle.std.specs.Prelude.{IfOk, Vec}
use Rattle.std.specs.List.{AllByRecursion}
use Rattle.std.specs.declared.alloc.Global.{Global}
use Rattle.sq_lex.specs.declared.name.Name.{Name}
use Rattle.sq_value.specs.Truth.{negation, known}
use Rattle.sq_value.specs.declared.domain.Kind.{Kind}
use Rattle.sq_value.specs.declared.value.Value.{Value}
use Rattle.sq_tree.specs.declared.cond.Comparison.TheVariants.{Equal}
use Rattle.sq_tree.specs.declared.cond.Comparison.{Comparison}
use Rattle.sq_tree.specs.declared.cond.Quantifier.TheVariants as quantifier
use Rattle.sq_store.specs.Content.{Content}
use Rattle.sq_store.specs.Keys.{Keys}
use Rattle.sq_meaning.specs.Environment.{Env, Row}
use Rattle.sq_meaning.specs.Placed.{by_place}
use Rattle.sq_meaning.specs.Query.{and_also, compared_with_rows, comparison, has_rows, only_value, or_else, rows, truth}
use Rattle.sq_meaning.specs.Status.{Outcome, and_then}
use Rattle.sq_meaning.specs.Syntax.{conds, conjunction, disjunction, exists, in_subquery}
use Rattle.sq_meaning.specs.WellFormed.{IsDeclaredAt, WellFormedCond, WellFormedConds, WellFormedSelect, kinds_by_place}
use Rattle.sq_meaning.proofs.AnswerLaws.{all_weaker}
use Rattle.sq_bound.specs.Condition.{PlacedCond, PlacedSelect, compared_with, cond_of, conj_of, not_if, predicate_of, select_of, test_of}
use Rattle.sq_bound.specs.Expression.{PlacedExpr, expr_of}
use Rattle.sq_bound.specs.Noted.{CondIsNoted, IsNoted, SelectIsNoted}
use Rattle.sq_bound.specs.Numbered.{ConjWith, PredicateWith, TestWith}
use Rattle.sq_bound.specs.WellFormed.{Levels, TableKinds}
use Rattle.sq_bound.specs.declared.condition.BoundCond.{BoundCond, out-BoundCond}
use Rattle.sq_bound.specs.declared.condition.BoundConj.{BoundConj, out-BoundConj}
use Rattle.sq_bound.specs.declared.condition.BoundSpecification.{BoundSpecification}
use Rattle.sq_bound.specs.declared.condition.BoundTest.{BoundTest}
use Rattle.sq_bound.specs.declared.condition.Compared.{Compared}
use Rattle.sq_bound.specs.declared.condition.Compared.TheVariants.{Scalar, All, Any}
use Rattle.sq_bound.specs.declared.condition.Predicate.{Predicate}
use Rattle.sq_bound.specs.declared.condition.Predicate.TheVariants as bound
use Rattle.sq_bound.specs.declared.condition.TablePlace.{TablePlace}
use Rattle.sq_bound.proofs.ConditionLaws.{cond_of-out, conj_of-out, predicate_of-Bracketed, predicate_of-CompareQuery, predicate_of-Exists, predicate_of-InQuery, test_of-out}
use Rattle.sq_bound.proofs.Nested.{among_one, bracketed_one, compared_with_one, cond_held, conj_held, existing_one, test_held}
use Rattle.sq_expression.specs.Frame.{inputs_of}
use Rattle.sq_expression.specs.declared.fault.Fault.{Fault}
use Rattle.sq_expression.specs.declared.table.BaseRows.{BaseRows}
use Rattle.sq_query.specs.Inner.{AreOfOtherParts, IsSubqueryOf, Serves, ServesCond, ServesSelect, StandsCond}
use Rattle.sq_query.specs.Items.{over}
use Rattle.sq_query.specs.Needed.{IsNeeded, ReadsCond}
use Rattle.sq_query.specs.declared.around.Around.{Around}
use Rattle.sq_query.specs.declared.needed.Needed.{Needed}
use Rattle.sq_query.proofs.Needs.AnyTables.{value_over}
use Rattle.sq_query.proofs.FoundByKey.ItemRows.{one_of_all}
use Rattle.sq_query.proofs.FoundByKey.ItemSearch.{at_index}
use Rattle.sq_query.proofs.Needs.NeededViews.{cond_reads_weaker}
use Rattle.sq_query.proofs.Needs.SameTables.{same_truth}

-- ---- a predicate with a subquery

module _ (f g : TablePlace → Outcome (List Row)) (env : Env (Unit {0})) where
  same_not : (b : Bool) (c : PlacedCond) → truth (by_place f) c env ≡ truth (by_place g) c env → truth (by_place f) (not_if b c) env ≡ truth (by_place g) (not_if b c) env
  same_not true c h = λ i. and_then (h i) (λ t. Ok (negation t))
  same_not false c h = h

  module _ (q : PlacedSelect) (same : rows (by_place f) q env ≡ rows (by_place g) q env) where
    same_compared : (k : Compared) (op : Comparison) (a : PlacedExpr) → truth (by_place f) (compared_with k op a q) env ≡ truth (by_place g) (compared_with k op a q) env
    same_compared Scalar op a = λ i. and_then (value_over f g a env i) (λ x. and_then (same i) (λ rs. and_then (only_value rs) (λ y. Ok (comparison op x y))))
    same_compared All op a = λ i. and_then (value_over f g a env i) (λ x. and_then (same i) (λ rs. Ok (compared_with_rows op quantifier.All x rs)))
    same_compared Any op a = λ i. and_then (value_over f g a env i) (λ x. and_then (same i) (λ rs. Ok (compared_with_rows op quantifier.Any x rs)))

    same_in : (a : PlacedExpr) → truth (by_place f) (in_subquery a q) env ≡ truth (by_place g) (in_subquery a q) env
    same_in a = λ i. and_then (value_over f g a env i) (λ x. and_then (same i) (λ rs. Ok (compared_with_rows Equal quantifier.Any x rs)))

    same_exists : truth (by_place f) (exists q) env ≡ truth (by_place g) (exists q) env
    same_exists = λ i. and_then (same i) (λ rs. Ok (known (has_rows rs)))

  module _ (functions : List PlacedExpr) where
    -- a predicate with a subquery that has the same rows has the same truth
    pub same_predicate : (p : Predicate) (s : BoundSpecification) → IsSubqueryOf p s → rows (by_place f) (select_of s) env ≡ rows (by_place g) (select_of s) env
        → truth (by_place f) (predicate_of functions p) env ≡ truth (by_place g) (predicate_of functions p) env
    same_predicate p s (inl (op, k, e, is)) same =
        let tree : predicate_of functions p ≡ compared_with k op (expr_of functions e) (select_of s) = ap (predicate_of functions) is ∙ predicate_of-CompareQuery functions op k e s in
        subst (λ (c : PlacedCond). truth (by_place f) c env ≡ truth (by_place g) c env) (sym tree) (same_compared (select_of s) same k op (expr_of functions e))
    same_predicate p s (inr (inl (n, e, is))) same =
        let tree : predicate_of functions p ≡ not_if n (in_subquery (expr_of functions e) (select_of s)) = ap (predicate_of functions) is ∙ predicate_of-InQuery functions n e s in
        subst (λ (c : PlacedCond). truth (by_place f) c env ≡ truth (by_place g) c env) (sym tree) (same_not n (in_subquery (expr_of functions e) (select_of s)) (same_in (select_of s) same (expr_of functions e)))
    same_predicate p s (inr (inr is)) same =
        let tree : predicate_of functions p ≡ exists (select_of s) = ap (predicate_of functions) is ∙ predicate_of-Exists functions s in
        subst (λ (c : PlacedCond). truth (by_place f) c env ≡ truth (by_place g) c env) (sym tree) (same_exists (select_of s) same)

    -- a test has the truth of its predicate, or the opposite
    pub same_test : (t : BoundTest) → truth (by_place f) (predicate_of functions t.predicate) env ≡ truth (by_place g) (predicate_of functions t.predicate) env → truth (by_place f) (test_of functions t) env ≡ truth (by_place g) (test_of functions t) env
    same_test t same = subst (λ (c : PlacedCond). truth (by_place f) c env ≡ truth (by_place g) c env) (sym (test_of-out functions t)) (same_not t.negated (predicate_of functions t.predicate) same)

    pub same_bracketed : (p : Predicate) (c : BoundCond) → p ≡ bound.Bracketed c → truth (by_place f) (cond_of functions c) env ≡ truth (by_place g) (cond_of functions c) env → truth (by_place f) (predicate_of functions p) env ≡ truth (by_place g) (predicate_of functions p) env
    same_bracketed p c is same = subst (λ (d : PlacedCond). truth (by_place f) d env ≡ truth (by_place g) d env) (sym (ap (predicate_of functions) is ∙ predicate_of-Bracketed functions c)) same

  -- conditions with the same truths have it together
  pub same_together : {A : Type 0} (tree : A → PlacedCond) (parts : List A) → AllByRecursion (λ x. truth (by_place f) (tree x) env ≡ truth (by_place g) (tree x) env) parts
      → truth (by_place f) (conjunction (conds (map tree parts))) env ≡ truth (by_place g) (conjunction (conds (map tree parts))) env
  same_together tree [] h = refl
  same_together tree (x ∷ parts) h = λ i. and_also (h.0 i) (same_together tree parts h.1 i)

  pub same_either : {A : Type 0} (tree : A → PlacedCond) (parts : List A) → AllByRecursion (λ x. truth (by_place f) (tree x) env ≡ truth (by_place g) (tree x) env) parts
      → truth (by_place f) (disjunction (conds (map tree parts))) env ≡ truth (by_place g) (disjunction (conds (map tree parts))) env
  same_either tree [] h = refl
  same_either tree (x ∷ parts) h = λ i. or_else (h.0 i) (same_either tree parts h.1 i)

-- ---- what is known of the parts of a well-formed condition

module _ (now : TablePlace → Outcome (List Row)) (columns : TableKinds) (parameters : List Kind) (levels : Levels) where
  abbrev pub IsWell : PlacedCond → Type 0
  IsWell = WellFormedCond (by_place now) (kinds_by_place columns parameters) (IsDeclaredAt parameters) levels

  abbrev IsWellSelect : PlacedSelect → Type 0
  IsWellSelect = WellFormedSelect (by_place now) (kinds_by_place columns parameters) (IsDeclaredAt parameters) levels

  unnegated : (b : Bool) (c : PlacedCond) → IsWell (not_if b c) → IsWell c
  unnegated true c h = h
  unnegated false c h = h

  compared_well : (k : Compared) (op : Comparison) (a : PlacedExpr) (q : PlacedSelect) → IsWell (compared_with k op a q) → IsWellSelect q
  compared_well Scalar op a q h = h.2
  compared_well All op a q h = h.2
  compared_well Any op a q h = h.2

  module _ (functions : List PlacedExpr) where
    pub subquery_well : (p : Predicate) (s : BoundSpecification) → IsSubqueryOf p s → IsWell (predicate_of functions p) → IsWellSelect (select_of s)
    subquery_well p s (inl (op, k, e, is)) h = compared_well k op (expr_of functions e) (select_of s) (subst IsWell (ap (predicate_of functions) is ∙ predicate_of-CompareQuery functions op k e s) h)
    subquery_well p s (inr (inl (n, e, is))) h =
        let well : IsWell (in_subquery (expr_of functions e) (select_of s)) = unnegated n (in_subquery (expr_of functions e) (select_of s)) (subst IsWell (ap (predicate_of functions) is ∙ predicate_of-InQuery functions n e s) h) in
        well.2
    subquery_well p s (inr (inr is)) h = subst IsWell (ap (predicate_of functions) is ∙ predicate_of-Exists functions s) h

    pub bracketed_well : (p : Predicate) (c : BoundCond) → p ≡ bound.Bracketed c → IsWell (predicate_of functions p) → IsWell (cond_of functions c)
    bracketed_well p c is h = subst IsWell (ap (predicate_of functions) is ∙ predicate_of-Bracketed functions c) h

    pub tested_well : (t : BoundTest) → IsWell (test_of functions t) → IsWell (predicate_of functions t.predicate)
    tested_well t h = unnegated t.negated (predicate_of functions t.predicate) (subst IsWell (test_of-out functions t) h)

  pub part_well : {A : Type 0} (tree : A → PlacedCond) (parts : List A) (n : ℕ) (x : A) → WellFormedConds (by_place now) (kinds_by_place columns parameters) (IsDeclaredAt parameters) levels (conds (map tree parts)) → slice_get parts n ≡ Some x → IsWell (tree x)
  part_well tree [] n x h e = absurd cc
  part_well {A} tree (y ∷ parts) zero x h e = let same : y ≡ x = cc in subst (λ (z : A). IsWell (tree z)) same h.0
  part_well tree (y ∷ parts) (suc n) x h e = part_well tree parts n x h.1 e

pub subquery_noted : (p : Predicate) (s : BoundSpecification) → IsSubqueryOf p s → PredicateWith IsNoted p → SelectIsNoted s
subquery_noted p s (inl (op, k, e, is)) h = compared_with_one IsNoted p op k e s is h
subquery_noted p s (inr (inl (n, e, is))) h = among_one IsNoted p n e s is h
subquery_noted p s (inr (inr is)) h = existing_one IsNoted p s is h

-- ---- lists

pub all_about : {A : Type 0} (P : A → Type 0) (xs : List A) (n : ℕ) (x : A) → AllByRecursion P (take n xs) → slice_get xs n ≡ Some x → P x → AllByRecursion P (drop (suc n) xs) → AllByRecursion P xs
all_about P [] n x before at p behind = tt
all_about {A} P (y ∷ xs) zero x before at p behind = let same : x ≡ y = cc in (subst P same p, behind)
all_about P (y ∷ xs) (suc n) x before at p behind = (before.0, all_about P xs n x before.1 at p behind)

-- ---- rows that serve

abbrev Found : Type 0
Found = Result (Vec BaseRows Global) Fault

module _ (content : Content) (keys : List Keys) (values : List Value) (caller : Name) (elsewhere : Needed) (a : Around) where
  module _ (Stands : TableKinds → List Kind → Levels → Type 0) (Same : (before after : TablePlace → Outcome (List Row)) → Env (Unit {0}) → Type 0)
      (alike : (f : TablePlace → Outcome (List Row)) (env : Env (Unit {0})) → Same f f env) (joined : (f g h : TablePlace → Outcome (List Row)) (env : Env (Unit {0})) → Same f g env → Same g h env → Same f h env) where
    abbrev Serve : List BaseRows → List BaseRows → Type 0
    Serve = Serves Stands Same elsewhere a content keys values caller

    pub none_serve : (before : List BaseRows) → Serve before before
    none_serve before columns parameters levels tables given stands fitting = record {
      fit = fitting;
      apart = λ t h. refl;
      same = λ scopes is rows_around. alike (over before tables) (record { scopes = scopes; inputs = inputs_of values; user = caller });
    }

    pub both_serve : (before now after : List BaseRows) → Serve before now → Serve now after → Serve before after
    both_serve before now after first second columns parameters levels tables given stands fitting =
        let one = first columns parameters levels tables given stands fitting in
        let two = second columns parameters levels tables given stands one.fit in record {
          fit = two.fit;
          apart = λ t h. one.apart t h ∙ two.apart t h;
          same = λ scopes is rows_around.
              joined (over before tables) (over now tables) (over after tables) (record { scopes = scopes; inputs = inputs_of values; user = caller }) (one.same scopes is rows_around) (two.same scopes is rows_around);
        }

  -- ---- conditions

  module _ (c : PlacedCond) (Notes : Type 0) where
    abbrev SameTruth : (before after : TablePlace → Outcome (List Row)) → Env (Unit {0}) → Type 0
    SameTruth f g env = truth (by_place f) c env ≡ truth (by_place g) c env

    abbrev ServeCond : List BaseRows → List BaseRows → Type 0
    ServeCond = ServesCond c Notes elsewhere a content keys values caller

    pub cond_none : (before : List BaseRows) → ServeCond before before
    cond_none = none_serve (StandsCond c Notes) SameTruth (λ f env. refl) (λ f g h env p q. p ∙ q)

    pub cond_both : (before now after : List BaseRows) → ServeCond before now → ServeCond now after → ServeCond before after
    cond_both = both_serve (StandsCond c Notes) SameTruth (λ f env. refl) (λ f g h env p q. p ∙ q)

  -- what serves a part of a condition serves all of it, where the other parts stand elsewhere
  module _ {A : Type 0} (tree : A → PlacedCond) (parts : List A) (n : ℕ) (x : A) (at : slice_get parts n ≡ Some x) (all : Needed) (beside : AreOfOtherParts tree parts n elsewhere all) (NotesAll Notes : Type 0) (part : NotesAll → Notes) (before after : List BaseRows) where
    module _ (f g : TablePlace → Outcome (List Row)) (apart : (t : TablePlace) → IsNeeded all t → f t ≡ g t) (env : Env (Unit {0})) where
      abbrev SamePart : A → Type 0
      SamePart y = truth (by_place f) (tree y) env ≡ truth (by_place g) (tree y) env

      others_same : (ys : List A) → AllByRecursion (λ y. ReadsCond (IsNeeded all) (tree y)) ys → AllByRecursion SamePart ys
      others_same =
          all_weaker (λ y. ReadsCond (IsNeeded all) (tree y)) SamePart
          (λ y reads. same_truth f g (tree y) (cond_reads_weaker (IsNeeded all) (λ u. f u ≡ g u) apart (tree y) reads) env)

      parts_same : SamePart x → AllByRecursion SamePart parts
      parts_same same =
          let later : n + 1 ≡ suc n = omega arith in
          let behind = subst (λ m. AllByRecursion (λ y. ReadsCond (IsNeeded all) (tree y)) (drop m parts)) later beside.behind in
          all_about SamePart parts n x (others_same (take n parts) beside.before) at same (others_same (drop (suc n) parts) behind)

    module _ (serves : ServesCond (tree x) Notes all a content keys values caller before after) where
      pub serves_all : ServesCond (conjunction (conds (map tree parts))) NotesAll elsewhere a content keys values caller before after
      serves_all columns parameters levels tables given stands fitting =
          let s = serves columns parameters levels tables given ((λ now. part_well now columns parameters levels tree parts n x (stands.0 now) at), part stands.1) fitting in record {
            fit = s.fit;
            apart = λ t h. s.apart t (beside.more t h);
            same = λ scopes is rows_around.
                let env : Env (Unit {0}) = record { scopes = scopes; inputs = inputs_of values; user = caller } in
                same_together (over before tables) (over after tables) env tree parts (parts_same (over before tables) (over after tables) s.apart env (s.same scopes is rows_around));
          }

      pub serves_any : ServesCond (disjunction (conds (map tree parts))) NotesAll elsewhere a content keys values caller before after
      serves_any columns parameters levels tables given stands fitting =
          let s = serves columns parameters levels tables given ((λ now. part_well now columns parameters levels tree parts n x (stands.0 now) at), part stands.1) fitting in record {
            fit = s.fit;
            apart = λ t h. s.apart t (beside.more t h);
            same = λ scopes is rows_around.
                let env : Env (Unit {0}) = record { scopes = scopes; inputs = inputs_of values; user = caller } in
                same_either (over before tables) (over after tables) env tree parts (parts_same (over before tables) (over after tables) s.apart env (s.same scopes is rows_around));
          }

  module _ (functions : List PlacedExpr) where
    -- a term of a condition
    pub term_serves : (c : BoundCond) (terms : List BoundConj) → terms ≡ (out-BoundCond c).terms → (n : ℕ) (term : BoundConj) → slice_get terms n ≡ Some term → (all : Needed) → AreOfOtherParts (conj_of functions) terms n elsewhere all → (before after : List BaseRows)
        → ServesCond (conj_of functions term) (ConjWith IsNoted term) all a content keys values caller before after → ServesCond (cond_of functions c) (CondIsNoted c) elsewhere a content keys values caller before after
    term_serves c terms are n term at all beside before after serves =
        let tree : cond_of functions c ≡ disjunction (conds (map (conj_of functions) terms)) = cond_of-out functions c ∙ ap (λ (ts : List BoundConj). disjunction (conds (map (conj_of functions) ts))) (sym are) in
        let noted : CondIsNoted c → ConjWith IsNoted term = λ notes. one_of_all (ConjWith IsNoted) terms n term (subst (AllByRecursion (ConjWith IsNoted)) (sym are) (cond_held IsNoted c notes)) at in
        subst (λ (d : PlacedCond). ServesCond d (CondIsNoted c) elsewhere a content keys values caller before after) (sym tree)
        (serves_any (conj_of functions) terms n term at all beside (CondIsNoted c) (ConjWith IsNoted term) noted before after serves)

    -- a test of a term
    pub test_serves : (c : BoundConj) (tests : List BoundTest) → tests ≡ (out-BoundConj c).tests → (n : ℕ) (test : BoundTest) → slice_get tests n ≡ Some test → (all : Needed) → AreOfOtherParts (test_of functions) tests n elsewhere all → (before after : List BaseRows)
        → ServesCond (predicate_of functions test.predicate) (PredicateWith IsNoted test.predicate) all a content keys values caller before after → ServesCond (conj_of functions c) (ConjWith IsNoted c) elsewhere a content keys values caller before after
    test_serves c tests are n test at all beside before after serves =
        let tree : conj_of functions c ≡ conjunction (conds (map (test_of functions) tests)) = conj_of-out functions c ∙ ap (λ (ts : List BoundTest). conjunction (conds (map (test_of functions) ts))) (sym are) in
        let noted : ConjWith IsNoted c → PredicateWith IsNoted test.predicate = λ notes. test_held IsNoted test (one_of_all (TestWith IsNoted) tests n test (subst (AllByRecursion (TestWith IsNoted)) (sym are) (conj_held IsNoted c notes)) at) in
        subst (λ (d : PlacedCond). ServesCond d (ConjWith IsNoted c) elsewhere a content keys values caller before after) (sym tree)
        (serves_all (test_of functions) tests n test at all beside (ConjWith IsNoted c) (PredicateWith IsNoted test.predicate) noted before after (as_test serves))
      where
        as_test : ServesCond (predicate_of functions test.predicate) (PredicateWith IsNoted test.predicate) all a content keys values caller before after → ServesCond (test_of functions test) (PredicateWith IsNoted test.predicate) all a content keys values caller before after
        as_test serves columns parameters levels tables given stands fitting =
            let s = serves columns parameters levels tables given ((λ now. tested_well now columns parameters levels functions test (stands.0 now)), stands.1) fitting in record {
              fit = s.fit;
              apart = s.apart;
              same = λ scopes is rows_around. same_test (over before tables) (over after tables) (record { scopes = scopes; inputs = inputs_of values; user = caller }) functions test (s.same scopes is rows_around);
            }

    -- one part more
    pub term_more : (c : BoundCond) (terms : List BoundConj) → terms ≡ (out-BoundCond c).terms → (n : ℕ) (term : BoundConj) → n < length terms → term ≡ get_or terms n term → (all : Needed) → AreOfOtherParts (conj_of functions) terms n elsewhere all → (before now after : List BaseRows)
        → ServesCond (cond_of functions c) (CondIsNoted c) elsewhere a content keys values caller before now → ServesCond (conj_of functions term) (ConjWith IsNoted term) all a content keys values caller now after → ServesCond (cond_of functions c) (CondIsNoted c) elsewhere a content keys values caller before after
    term_more c terms are n term within at all beside before now after so_far serves =
        cond_both (cond_of functions c) (CondIsNoted c) before now after so_far (term_serves c terms are n term (at_index terms n term term within (sym at)) all beside now after serves)

    pub test_more : (c : BoundConj) (tests : List BoundTest) → tests ≡ (out-BoundConj c).tests → (n : ℕ) (test : BoundTest) → n < length tests → test ≡ get_or tests n test → (all : Needed) → AreOfOtherParts (test_of functions) tests n elsewhere all → (before now after : List BaseRows)
        → ServesCond (conj_of functions c) (ConjWith IsNoted c) elsewhere a content keys values caller before now → ServesCond (predicate_of functions test.predicate) (PredicateWith IsNoted test.predicate) all a content keys values caller now after → ServesCond (conj_of functions c) (ConjWith IsNoted c) elsewhere a content keys values caller before after
    test_more c tests are n test within at all beside before now after so_far serves =
        cond_both (conj_of functions c) (ConjWith IsNoted c) before now after so_far (test_serves c tests are n test (at_index tests n test test within (sym at)) all beside now after serves)

    -- a predicate with a subquery, and one in brackets
    module _ (p : Predicate) where
      abbrev ServePredicate : List BaseRows → List BaseRows → Type 0
      ServePredicate = ServesCond (predicate_of functions p) (PredicateWith IsNoted p) elsewhere a content keys values caller

      pub subquery_serves : (s : BoundSpecification) → IsSubqueryOf p s → (before : List BaseRows) (r : Found) → IfOk r (λ found. ServesSelect s elsewhere a content keys values caller before found.items) → IfOk r (λ found. ServePredicate before found.items)
      subquery_serves s is before (Err e) serves = tt
      subquery_serves s is before (Ok found) serves = λ columns parameters levels tables given stands fitting.
          let after = found.items in
          let t = serves columns parameters levels tables given ((λ now. subquery_well now columns parameters levels functions p s is (stands.0 now)), subquery_noted p s is stands.1) fitting in record {
            fit = t.fit;
            apart = t.apart;
            same = λ scopes around rows_around. same_predicate (over before tables) (over after tables) (record { scopes = scopes; inputs = inputs_of values; user = caller }) functions p s is (t.same scopes around rows_around);
          }

      pub bracketed_serves : (c : BoundCond) → p ≡ bound.Bracketed c → (before : List BaseRows) (r : Found) → IfOk r (λ found. ServesCond (cond_of functions c) (CondIsNoted c) elsewhere a content keys values caller before found.items) → IfOk r (λ found. ServePredicate before found.items)
      bracketed_serves c is before (Err e) serves = tt
      bracketed_serves c is before (Ok found) serves = λ columns parameters levels tables given stands fitting.
          let after = found.items in
          let t = serves columns parameters levels tables given ((λ now. bracketed_well now columns parameters levels functions p c is (stands.0 now)), bracketed_one IsNoted p c is stands.1) fitting in record {
            fit = t.fit;
            apart = t.apart;
            same = λ scopes around rows_around. same_bracketed (over before tables) (over after tables) (record { scopes = scopes; inputs = inputs_of values; user = caller }) functions p c is (t.same scopes around rows_around);
          }
