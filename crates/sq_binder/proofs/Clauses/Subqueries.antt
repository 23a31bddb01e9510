-- Subqueries of predicates: their numbers, the columns that they may have, and what is made of them.
use Rattle.std.proofs.Common.{◌≡◌, ℕ, ◌+◌, Bool, true, false, List, [], ◌∷◌, Option, Some, None, Ok, Err, refl, sym, ap, ◌∙◌}
use Rattle.std.specs.Prelude.{nat_eq, if◌then◌else◌}
use Rattle.sq_value.specs.declared.domain.Kind.{Kind}
use Rattle.sq_tree.specs.declared.cond.Comparison.{Comparison}
use Rattle.sq_tree.specs.declared.cond.Quantifier.{Quantifier}
use Rattle.sq_meaning.specs.WellFormed.{is_comparable}
use Rattle.sq_meaning.specs.declared.fault.BindingFault.{BindingFault}
use Rattle.sq_meaning.specs.declared.fault.BindingFault.TheVariants as fault
use Rattle.sq_bound.specs.declared.condition.BoundSpecification.{BoundSpecification}
use Rattle.sq_binding.specs.Condition.{as_subquery, beside, must_be_beside, scalar, subquery}
use Rattle.sq_binding.specs.Found.{Binding, Counts, ◌>>=◌, after, has_found, pure, then_joined}
use Rattle.sq_binding.specs.Found as binding
use Rattle.sq_binding.specs.NumberedCondition.{NumberedCond, NumberedSelect, ResultColumn, columns_of, with_number}
use Rattle.sq_binding.specs.Outcome.{Outcome, and_then}
use Rattle.sq_binding.specs.QueryFindings.{a_status}
use Rattle.sq_binding.specs.Seen.{not_if, predicate_seen, select_seen}
use Rattle.sq_binding.specs.Select.{Typed}
use Rattle.sq_binder.specs.Binds.{Stops}
use Rattle.sq_binder.specs.Found.{Finds, both_of, brought_of, counts_of, failing, found_of, outward, pairs, with_brought}
use Rattle.sq_binder.specs.Subquery.{among_query, compared_as, compared_side, fault_beside, query_compared, query_exists}
use Rattle.sq_binder.specs.Surroundings.{typed_of}
use Rattle.sq_binder.specs.declared.found.Brought.{Brought}
use Rattle.sq_binder.specs.declared.found.Counts.{Counts as CodeCounts}
use Rattle.sq_binder.specs.declared.found.Found.{Found}
use Rattle.sq_binder.specs.declared.stop.Stop.{Stop}
use Rattle.sq_binder.proofs.OneByOne.Behind.{Makes, made, passed, two_made, with_status}
use Rattle.sq_binder.proofs.OneByOne.Finds.{makes_stop, pairs_stop}
use Rattle.sq_binder.proofs.Clauses.Predicates.{negated_made}

-- ---- numbers

-- where no column of a query around is read
pub numbered_is : (query : Found BoundSpecification) (s : NumberedSelect) (b : Brought) (subqueries : ℕ) → query.brought.findings.values.reach ≡ 0 → s ≡ with_number (Some query.brought.next.subqueries) (select_seen query.part)
    → brought_of b ≡ outward (brought_of query.brought) → subqueries ≡ query.brought.next.subqueries + 1
    → with_brought s (record b { next = record b.next { subqueries = subqueries } }) ≡ as_subquery (found_of select_seen query)
numbered_is query s b subqueries none is e next =
    let x = found_of select_seen query in
    (λ i. record { part = is i; calls = (e i).calls; calls_can_fail = (e i).calls_can_fail; findings = (e i).findings; subqueries = next i })
    ∙ ap (λ (t : Bool). if t then outward (record x { part = with_number (Some x.subqueries) x.part; subqueries = x.subqueries + 1 }) else outward x) (sym (ap (λ r. nat_eq r 0) none))

-- ---- columns

no_fault : (b : Bool) (f : BindingFault) → (if b then None else Some f) ≡ None → b ≡ true
no_fault true f e = refl
no_fault false f e = cc

the_fault : (b : Bool) (f g : BindingFault) → (if b then None else Some f) ≡ Some g → b ≡ false
the_fault true f g e = cc
the_fault false f g e = refl

same_fault : (b : Bool) (f g : BindingFault) → (if b then None else Some f) ≡ Some g → f ≡ g
same_fault true f g e = cc
same_fault false f g e = cc

failed_by : {A B : Type 0} (p : B) (f g : BindingFault) (counts : Counts) (x : binding.Found A) (test : Bool) → (if test then None else Some f) ≡ Some g
    → then_joined x ((binding.must test f >>= λ u. pure p) (after counts x)) ≡ Err g
failed_by p f g counts x true e = cc
failed_by p f g counts x false e = ap Err (same_fault false f g e)

module _ (k : Kind) (counts : Counts) (x : binding.Found NumberedSelect) where
  abbrev behind_columns : List ResultColumn → Outcome (binding.Found NumberedSelect)
  behind_columns columns = then_joined x ((must_be_beside k columns >>= λ u. pure x.part) (after counts x))

  passes : (columns : List ResultColumn) → fault_beside k columns ≡ None → behind_columns columns ≡ Ok x
  passes [] e = cc
  passes (c ∷ []) e = passed x.part fault.KindMismatch counts x (is_comparable k c.kind) (no_fault (is_comparable k c.kind) fault.KindMismatch e)
  passes (c ∷ d ∷ cs) e = cc

  fails : (columns : List ResultColumn) (f : BindingFault) → fault_beside k columns ≡ Some f → behind_columns columns ≡ Err f
  fails [] f e = cc
  fails (c ∷ []) f e = failed_by x.part fault.KindMismatch f counts x (is_comparable k c.kind) e
  fails (c ∷ d ∷ cs) f e = cc

  abbrev checked : binding.Found NumberedSelect → Outcome (binding.Found NumberedSelect)
  checked y = then_joined y ((must_be_beside k (columns_of y.part) >>= λ u. pure y.part) (after counts y))

  pub beside_found : (q : Binding NumberedSelect) (columns : List ResultColumn) → columns_of x.part ≡ columns → subquery q counts ≡ Ok x → fault_beside k columns ≡ None → beside k q counts ≡ Ok x
  beside_found q columns are is none =
      ap (λ (o : Outcome (binding.Found NumberedSelect)). and_then o checked) is ∙ passes (columns_of x.part) (ap (fault_beside k) are ∙ none)

  pub beside_fails : (q : Binding NumberedSelect) (columns : List ResultColumn) (f : BindingFault) → columns_of x.part ≡ columns → subquery q counts ≡ Ok x → fault_beside k columns ≡ Some f → beside k q counts ≡ Err f
  beside_fails q columns f are is some =
      ap (λ (o : Outcome (binding.Found NumberedSelect)). and_then o checked) is ∙ fails (columns_of x.part) f (ap (fault_beside k) are ∙ some)

  pub scalar_found : (q : Binding NumberedSelect) → beside k q counts ≡ Ok x → scalar k q counts ≡ Ok (failing x)
  scalar_found q is =
      ap (λ (o : Outcome (binding.Found NumberedSelect)). and_then o (λ y. then_joined y ((has_found a_status >>= λ u. pure y.part) (after counts y)))) is
      ∙ with_status x.part counts x

pub failing_seen : {A B : Type 0} (image : B → A) (part : B) (b c : Brought) → brought_of b ≡ failing (brought_of c) → with_brought (image part) b ≡ failing (with_brought (image part) c)
failing_seen image part b c e = λ i. record { part = image part; calls = (e i).calls; calls_can_fail = (e i).calls_can_fail; findings = (e i).findings; subqueries = (e i).subqueries }

-- ---- predicates

pub compared_made : (op : Comparison) (quantifier : Option Quantifier) (left : Binding Typed) (q : Binding NumberedSelect)
    → Makes (query_compared op quantifier left q) (pairs left (λ x. compared_side quantifier x.kind q)) (λ z. NumberedCond.compare_query (compared_as quantifier) op z.0.tree z.1)
compared_made op quantifier left q = two_made left (λ x. compared_side quantifier x.kind q) (λ x y. NumberedCond.compare_query (compared_as quantifier) op x.tree y)

pub among_made : (n : Bool) (left : Binding Typed) (q : Binding NumberedSelect) → Makes (among_query n left q) (pairs left (λ x. beside x.kind q)) (λ z. not_if n (NumberedCond.in_query z.0.tree z.1))
among_made n left q =
    negated_made n (left >>= λ x. beside x.kind q >>= λ y. pure (NumberedCond.in_query x.tree y)) (pairs left (λ x. beside x.kind q)) (λ z. NumberedCond.in_query z.0.tree z.1)
    (two_made left (λ x. beside x.kind q) (λ x y. NumberedCond.in_query x.tree y))

pub exists_made : (q : Binding NumberedSelect) → Makes (query_exists q) (subquery q) (λ y. NumberedCond.exists y)
exists_made q = made (subquery q) (λ y. NumberedCond.exists y)

-- where binding stops at the left expression
pub compared_stops : (op : Comparison) (k : Option Quantifier) (left : Binding Typed) (q : Binding NumberedSelect) (before : CodeCounts) (stop : Stop) → Finds typed_of left before (Err stop) → Stops (query_compared op k left q (counts_of before)) stop
compared_stops op k left q before stop found =
    makes_stop (both_of typed_of select_seen) predicate_seen (query_compared op k left q) (pairs left (λ x. compared_side k x.kind q)) (λ z. NumberedCond.compare_query (compared_as k) op z.0.tree z.1) (compared_made op k left q) before stop
    (pairs_stop typed_of select_seen left (λ x. compared_side k x.kind q) before stop found)

pub among_stops : (n : Bool) (left : Binding Typed) (q : Binding NumberedSelect) (before : CodeCounts) (stop : Stop) → Finds typed_of left before (Err stop) → Stops (among_query n left q (counts_of before)) stop
among_stops n left q before stop found =
    makes_stop (both_of typed_of select_seen) predicate_seen (among_query n left q) (pairs left (λ x. beside x.kind q)) (λ z. not_if n (NumberedCond.in_query z.0.tree z.1)) (among_made n left q) before stop
    (pairs_stop typed_of select_seen left (λ x. beside x.kind q) before stop found)
