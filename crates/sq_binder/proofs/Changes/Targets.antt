-- Rows under tables that may be changed, and the updatable queries over them.
use Rattle.std.proofs.Common.{◌≡◌, ℕ, Bool, true, false, ◌||◌, not, List, length, Option, None, Some, Ok, Err, refl, sym, ap, ◌∙◌}
use Rattle.std.specs.Prelude.{nat_eq}
use Rattle.sq_meaning.specs.declared.fault.BindingFault.{BindingFault}
use Rattle.sq_bound.proofs.Keys.{shortest_named, shortest_so}
use Rattle.sq_bound.specs.Keyed.{is_named_by, is_shortest_of}
use Rattle.sq_bound.specs.Names.{option_all}
use Rattle.sq_bound.specs.declared.condition.BoundCond.{BoundCond}
use Rattle.sq_bound.specs.declared.names.Leaf.{Leaf}
use Rattle.sq_binding.specs.Changeable.{ChangedTable, NumberedTarget, NumberedUpdatable, made, target_over, updatable_where}
use Rattle.sq_binding.specs.Found.{Binding, Found, after}
use Rattle.sq_binding.specs.Found as binding
use Rattle.sq_binding.specs.NumberedCondition.{NumberedClause}
use Rattle.sq_binding.specs.Outcome.{Outcome, and_then}
use Rattle.sq_binder.specs.Found.{Finds, counts_of, found_of}
use Rattle.sq_binder.specs.declared.found.Counts.{Counts}
use Rattle.sq_binder.specs.declared.found.Found.{Found as FoundPart}
use Rattle.sq_binder.specs.declared.stop.Stop.{Stop}
use Rattle.sq_binder.specs.declared.stop.Stop.TheVariants.{Fault, NoMemory}
use Rattle.sq_binder.specs.Binds.{Stops}
use Rattle.sq_binder.proofs.OneByOne.Behind.{made_of, with_part}
use Rattle.sq_binder.proofs.OneByOne.Behind as behind
use Rattle.sq_binder.specs.Changeable.{IsNotedKey, target_made}
use Rattle.sq_binder.specs.Updatable.{updatable_if, updatable_made}

abbrev part_of : {A : Type 0} → A → Outcome A → A
part_of d (Ok x) = x
part_of d (Err f) = d

pub ok_same : {A : Type 0} (x y : A) (o : Outcome A) → o ≡ Ok x → o ≡ Ok y → x ≡ y
ok_same x y o is same = ap (part_of x) (sym is ∙ same)

-- ---- the key that is noted

-- nothing is between a base table and itself
pub is_plain : (is_base : Bool) (leaf : Leaf) → (not is_base || nat_eq (length leaf.conditions) 0) ≡ true → is_base ≡ true → nat_eq (length leaf.conditions) 0 ≡ true
is_plain true leaf plain is = plain
is_plain false leaf plain is = cc

module _ (leaf : Leaf) where
  pub noted_named : (is_base has_subquery : Bool) (own : Option BoundCond) (noted : Option ℕ) → (not is_base || nat_eq (length leaf.conditions) 0) ≡ true → IsNotedKey is_base has_subquery leaf own noted
      → option_all (is_named_by leaf own) noted ≡ true
  noted_named true false (Some own) noted plain is = shortest_named leaf own leaf.table noted plain is
  noted_named true false None noted plain is = ap (option_all (is_named_by leaf None)) is
  noted_named true true own noted plain is = ap (option_all (is_named_by leaf own)) is
  noted_named false has_subquery own noted plain is = ap (option_all (is_named_by leaf own)) is

  pub noted_shortest : (is_base has_subquery : Bool) (own : Option BoundCond) (noted : Option ℕ) → IsNotedKey is_base has_subquery leaf own noted → option_all (is_shortest_of leaf own) noted ≡ true
  noted_shortest true false (Some own) noted is = shortest_so leaf own noted is
  noted_shortest true false None noted is = ap (option_all (is_shortest_of leaf None)) is
  noted_shortest true true own noted is = ap (option_all (is_shortest_of leaf own)) is
  noted_shortest false has_subquery own noted is = ap (option_all (is_shortest_of leaf own)) is

-- ---- updatable queries

module _ (t : ChangedTable) (columns : Option (List ℕ)) where
  abbrev shown : Found NumberedTarget → Found (Option NumberedUpdatable)
  shown y = with_part (updatable_if t.reference.table columns y.findings.has_subquery y.part) y

  where_is : (columns : Option (List ℕ)) (x : Found NumberedClause)
      → made (updatable_where t columns) x ≡ with_part (updatable_if t.reference.table columns x.findings.has_subquery (target_over t x.part)) x
  where_is None x = refl
  where_is (Some list) x = refl

  updatable_at : (o : Outcome (Found NumberedClause)) (y : Found NumberedTarget) → made_of (target_over t) o ≡ Ok y → and_then o (λ x. Ok (made (updatable_where t columns) x)) ≡ Ok (shown y)
  updatable_at (Ok x) y is = ap Ok (where_is columns x) ∙ ap (λ (z : Found NumberedTarget). Ok (shown z)) (ok_same (with_part (target_over t x.part) x) y (made_of (target_over t) (Ok x)) refl is)
  updatable_at (Err f) y is = cc

  made_at : (b : Binding NumberedClause) (counts : binding.Counts) → target_made t b counts ≡ made_of (target_over t) (b counts)
  made_at b counts = (behind.made b (target_over t)).is counts

  pub updatable_found : {B D : Type 0} (image : B → NumberedTarget) (seen : D → Option NumberedUpdatable) (b : Binding NumberedClause) (before : Counts) (x : FoundPart B) (y : FoundPart D)
      → Finds image (target_made t b) before (Ok x) → y.brought ≡ x.brought → seen y.part ≡ updatable_if t.reference.table columns x.brought.findings.has_subquery (image x.part) → Finds seen (updatable_made t columns b) before (Ok y)
  updatable_found image seen b before x y found same is = (
    updatable_at (b (counts_of before)) (found_of image x) (sym (made_at b (counts_of before)) ∙ found.0)
        ∙ (λ i. Ok (with_part (sym is i) (found_of image (record { part = x.part; brought = sym same i })))),
    (λ i. counts_of (same i).next) ∙ found.1 ∙ (λ i. after (counts_of before) (found_of seen (record { part = y.part; brought = sym same i }))),
  )

  made_stops : (o : Outcome (Found NumberedClause)) (fault : BindingFault) → made_of (target_over t) o ≡ Err fault → and_then o (λ x. Ok (made (updatable_where t columns) x)) ≡ Err fault
  made_stops (Err f) fault is = ap (λ (o : Outcome (Found NumberedTarget)). and_then o (λ x. Ok (shown x))) is
  made_stops (Ok x) fault is = cc

  pub updatable_stops : (b : Binding NumberedClause) (before : Counts) (stop : Stop) → Stops (target_made t b (counts_of before)) stop → Stops (updatable_made t columns b (counts_of before)) stop
  updatable_stops b before NoMemory s = tt
  updatable_stops b before (Fault f) s = made_stops (b (counts_of before)) f.rule (sym (made_at b (counts_of before)) ∙ s)
