-- Search conditions, made of their terms and tests.
use Rattle.std.proofs.Common.{◌≡◌, Bool, true, false, List, ◌∷◌, map, Option, Some, None, Ok, Err, refl, sym, ap, subst, ◌∙◌}
use Rattle.std.specs.Prelude.{Result}
use Rattle.std.specs.Option.{option_map}
use Rattle.sq_lex.specs.declared.name.Name.{Name}
use Rattle.sq_tree.specs.declared.cond.Comparison.{Comparison}
use Rattle.sq_tree.specs.declared.cond.Quantifier.{Quantifier}
use Rattle.sq_tree.specs.declared.cond.Cond.{Cond as SpelledCond, out-Cond, roll-out-Cond}
use Rattle.sq_tree.specs.declared.cond.Conj.{Conj, out-Conj, roll-out-Conj}
use Rattle.sq_tree.specs.declared.cond.Test.{Test}
use Rattle.sq_tree.specs.declared.cond.TableExpression.{TableExpression, out-TableExpression, roll-out-TableExpression}
use Rattle.sq_tree.specs.declared.cond.QuerySpecification.{QuerySpecification, out-QuerySpecification, roll-out-QuerySpecification}
use Rattle.sq_tree.specs.declared.cond.SelectList.{SelectList as SpelledList}
use Rattle.sq_tree.specs.declared.expr.SetQuantifier.{SetQuantifier}
use Rattle.sq_meaning.specs.Spelled.{Named, body_of, clause, cond_of, conj_of, is_distinct_word, list_of, listed, listed_if_any, reference_of, select_of, select_of_parts, table_expression_of, tail_of, test_of}
use Rattle.sq_meaning.specs.Spelled as spelled
use Rattle.sq_meaning.specs.Syntax.{Cond, Expr, Select, conds, conjunction, disjunction, in_subquery, select}
use Rattle.sq_meaning.proofs.SpelledLevels.{cond_of-roll, conj_of-roll, select_of-roll, table_expression_of-roll, test_of-out}
use Rattle.sq_binding.specs.Condition.{cond_bound, noted, select_bound, terms_bound, test, tests_bound}
use Rattle.sq_binding.specs.Found.{Binding, each}
use Rattle.sq_binding.specs.NumberedCondition.{NumberedCond}
use Rattle.sq_binding.specs.Outcome.{and_then}
use Rattle.sq_binding.specs.Seen.{conds_in, not_if, predicate_seen, test_seen}
use Rattle.sq_binding.specs.Select.{Surroundings, value}
use Rattle.sq_binding.proofs.Inductions.Lists.{terms_in_turn, tests_in_turn}
use Rattle.sq_binding.proofs.Standing.SeenLevels.{test_seen-out}
use Rattle.sq_bound.specs.declared.condition.BoundTest.{BoundTest}
use Rattle.sq_bound.specs.declared.condition.Predicate.{Predicate}
use Rattle.sq_binder.specs.Binds.{Stops}
use Rattle.sq_binder.specs.Found.{Finds, counts_of, found_of}
use Rattle.sq_binder.specs.Subquery.{among_query, negated_if, query_compared}
use Rattle.sq_binder.specs.declared.found.Counts.{Counts}
use Rattle.sq_binder.specs.declared.found.Found.{Found}
use Rattle.sq_binder.specs.declared.stop.Stop.{Stop}
use Rattle.sq_binder.proofs.OneByOne.Behind.{Makes, itself, made, made_of, made_twice, with_part}
use Rattle.sq_binder.proofs.OneByOne.Finds.{makes_stop}
use Rattle.sq_binder.proofs.Clauses.Predicates.{negated_is, negated_made}
use Rattle.sq_binder.proofs.OneByOne.Steps.{stops_here}

module _ (a : Surroundings) where
  -- ---- terms and tests

  pub conj_made : (cs : List (Cond Named)) → Makes (cond_bound a (conjunction (conds cs))) (each (λ c. test (cond_bound a c)) cs) (λ xs. NumberedCond.conjunction (conds_in xs))
  conj_made cs = record {
    is = λ counts.
        (made (tests_bound a (conds cs)) (λ xs. NumberedCond.conjunction xs)).is counts
        ∙ ap (made_of (λ xs. NumberedCond.conjunction xs)) (tests_in_turn a cs counts)
        ∙ made_twice conds_in (λ xs. NumberedCond.conjunction xs) (each (λ c. test (cond_bound a c)) cs counts);
  }

  pub cond_made : (cs : List (Cond Named)) → Makes (cond_bound a (disjunction (conds cs))) (each (cond_bound a) cs) (λ xs. NumberedCond.disjunction (conds_in xs))
  cond_made cs = record {
    is = λ counts.
        (made (terms_bound a (conds cs)) (λ xs. NumberedCond.disjunction xs)).is counts
        ∙ ap (made_of (λ xs. NumberedCond.disjunction xs)) (terms_in_turn a cs counts)
        ∙ made_twice conds_in (λ xs. NumberedCond.disjunction xs) (each (cond_bound a) cs counts);
  }

  made_as : {A : Type 0} (c d : Cond Named) (b : Binding A) (make : A → NumberedCond) → c ≡ d → Makes (cond_bound a d) b make → Makes (cond_bound a c) b make
  made_as c d b make is m = record { is = λ counts. ap (λ c. cond_bound a c counts) is ∙ m.is counts }

  module _ (own : Name) where
    pub conj_is : (c : Conj) → Makes (cond_bound a (conj_of own c)) (each (λ c. test (cond_bound a c)) (map (test_of own) ((out-Conj c).first ∷ (out-Conj c).rest))) (λ xs. NumberedCond.conjunction (conds_in xs))
    conj_is c =
        let tests = map (test_of own) ((out-Conj c).first ∷ (out-Conj c).rest) in
        made_as (conj_of own c) (conjunction (conds tests)) (each (λ c. test (cond_bound a c)) tests) (λ xs. NumberedCond.conjunction (conds_in xs))
        (ap (conj_of own) (sym (roll-out-Conj c)) ∙ conj_of-roll own (out-Conj c).first (out-Conj c).rest) (conj_made tests)

    pub cond_is : (c : SpelledCond) → Makes (cond_bound a (cond_of own c)) (each (cond_bound a) (map (conj_of own) ((out-Cond c).first ∷ (out-Cond c).rest))) (λ xs. NumberedCond.disjunction (conds_in xs))
    cond_is c =
        let terms = map (conj_of own) ((out-Cond c).first ∷ (out-Cond c).rest) in
        made_as (cond_of own c) (disjunction (conds terms)) (each (cond_bound a) terms) (λ xs. NumberedCond.disjunction (conds_in xs))
        (ap (cond_of own) (sym (roll-out-Cond c)) ∙ cond_of-roll own (out-Cond c).first (out-Cond c).rest) (cond_made terms)

    pub test_is : (t : Test) (before : Counts) (r : Result (Found BoundTest) Stop) → Finds test_seen (test (negated_if t.negated (cond_bound a (body_of own t.body)))) before r
        → Finds test_seen (test (cond_bound a (test_of own t))) before r
    test_is t before r found =
        subst (λ (b : Binding NumberedCond). Finds test_seen (test b) before r) (sym (ap (cond_bound a) (test_of-out own t) ∙ negated_is a t.negated (body_of own t.body))) found

  -- ---- subqueries

  pub compared_is : (op : Comparison) (k : Option Quantifier) (e : Expr Named) (q : Select Named) → cond_bound a (spelled.compared_with k op e q) ≡ query_compared op k (value a e) (select_bound a q)
  compared_is op None e q = refl
  compared_is op (Some k) e q = refl

  pub among_is : (n : Bool) (e : Expr Named) (q : Select Named) → cond_bound a (spelled.not_if n (in_subquery e q)) ≡ among_query n (value a e) (select_bound a q)
  among_is true e q = refl
  among_is false e q = refl

-- ---- query specifications

pub parts_of : (own : Name) (quantifier : Option SetQuantifier) (list : SpelledList) (t : TableExpression) → let o = out-TableExpression t in
    select_of_parts own quantifier list t
    ≡ select (is_distinct_word quantifier) (list_of list) (map (reference_of own) (listed o.from)) (clause (option_map (cond_of own) o.where_clause)) (listed_if_any o.group_by) (clause (option_map (cond_of own) o.having))
parts_of own quantifier list t =
    let o = out-TableExpression t in
    ap (λ t. table_expression_of own t (is_distinct_word quantifier) (list_of list)) (sym (roll-out-TableExpression t))
    ∙ table_expression_of-roll own o.from o.where_clause o.group_by o.having (is_distinct_word quantifier) (list_of list)

pub select_of-out : (own : Name) (q : QuerySpecification) → let o = out-QuerySpecification q in select_of own q ≡ select_of_parts own o.quantifier o.list o.table
select_of-out own q = let o = out-QuerySpecification q in ap (select_of own) (sym (roll-out-QuerySpecification q)) ∙ select_of-roll own o.quantifier o.list o.table

-- ---- tests

pub test_found : (n : Bool) (b : Binding NumberedCond) (before : Counts) (x : Found Predicate) → Finds predicate_seen b before (Ok x)
    → Finds test_seen (test (negated_if n b)) before (Ok (record { part = record { negated = n; predicate = x.part; items = x.brought.findings.values.items; can_fail = x.brought.findings.values.can_fail }; brought = x.brought }))
test_found n b before x found =
    let t : BoundTest = record { negated = n; predicate = x.part; items = x.brought.findings.values.items; can_fail = x.brought.findings.values.can_fail } in (
      ap (λ o. and_then o (λ x. Ok (noted x))) ((negated_made n b b (λ x. x) (itself b)).is (counts_of before) ∙ ap (made_of (not_if n)) found.0)
          ∙ (λ i. Ok (with_part (sym (test_seen-out t) i) (found_of predicate_seen x))),
      found.1,
    )

pub test_stops : (n : Bool) (b : Binding NumberedCond) (before : Counts) (stop : Stop) → Finds predicate_seen b before (Err stop) → Stops (test (negated_if n b) (counts_of before)) stop
test_stops n b before stop found =
    stops_here (negated_if n b (counts_of before)) (λ x. Ok (noted x)) stop
    (makes_stop predicate_seen predicate_seen (negated_if n b) b (not_if n) (negated_made n b b (λ x. x) (itself b)) before stop found)
