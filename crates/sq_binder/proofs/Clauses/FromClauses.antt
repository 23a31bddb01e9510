-- FROM clauses, made of their items.
use Rattle.std.proofs.Common.{◌≡◌, ℕ, suc, ◌<◌, Bool, true, false, not, List, [], ◌∷◌, length, map, Option, None, Some, Ok, Err, refl, sym, ap, ◌∙◌, arith}
use Rattle.std.proofs.lemmas.Bool.Decides.{nat_tests}
use Rattle.std.proofs.lemmas.List.{length-map}
use Rattle.std.proofs.lemmas.Simd.{map-map}
use Rattle.std.specs.Prelude.{⊤, nat_lt, if◌then◌else◌}
use Rattle.sq_meaning.specs.Environment.{TableReference}
use Rattle.sq_bound.specs.declared.condition.TablePlace.{TablePlace}
use Rattle.sq_meaning.specs.Binding.{has_item_twice}
use Rattle.sq_meaning.specs.declared.fault.BindingFault.TheVariants as fault
use Rattle.sq_binding.specs.Found.{Binding, Counts, Found, ◌>>=◌, ◌>>◌, after, each, has_found, joined, must, outcome, pure, refused, then_joined}
use Rattle.sq_binding.specs.From.{NamedItem, NamedTable, NamedTables, from_bound, item_bound, item_over, items_of, table_findings, tables_of}
use Rattle.sq_binding.specs.Outcome.{Outcome, and_then, or_fault}
use Rattle.sq_binding.specs.QueryFindings.{most_items, nothing}
use Rattle.sq_binding.specs.Scope as scope
use Rattle.sq_binder.specs.From.{exposed, from_split, named_item_of}
use Rattle.sq_binder.specs.Scope.{item_of}
use Rattle.sq_binder.specs.declared.scope.FromItem.{FromItem}
use Rattle.sq_binder.proofs.OneByOne.Behind.{failed, made_at, made_of, passed, with_part}

-- tables and items apart
abbrev pub both : List NamedItem → List TablePlace × List scope.FromItem
both items = (tables_of items, items_of items)

abbrev pub seen : List TablePlace → List FromItem → List TablePlace × List scope.FromItem
seen tables items = (tables, map item_of items)

-- ---- items are exposed as the text says

abbrev references : List NamedItem → List TableReference
references items = map (λ i. i.item.reference) items

abbrev AreOf : List TableReference → Outcome (Found (List NamedItem)) → Type 0
AreOf from (Ok x) = references x.part ≡ from
AreOf from (Err fault) = ⊤

item_behind : (y : Found NamedItem) (counts : Counts) (rs : List TableReference) (o : Outcome (Found (List NamedItem))) → AreOf rs o
    → AreOf (y.part.item.reference ∷ rs) (then_joined y (and_then o (λ ys. then_joined ys (pure (y.part ∷ ys.part) (after counts ys)))))
item_behind y counts rs (Ok ys) are = ap (λ (l : List TableReference). y.part.item.reference ∷ l) are
item_behind y counts rs (Err fault) are = tt

-- what is bound of an item
abbrev found_of_item : TableReference → NamedTable → Counts → Found NamedItem
found_of_item r t counts =
    joined {A = NamedTable} (record { part = t; calls = []; calls_can_fail = false; findings = nothing; subqueries = counts.subqueries })
    (joined {A = Unit {0}} (record { part = tt; calls = []; calls_can_fail = false; findings = table_findings t; subqueries = counts.subqueries })
    (record { part = item_over r t; calls = []; calls_can_fail = false; findings = nothing; subqueries = counts.subqueries }))

first_of : (r : TableReference) (o : Option NamedTable) (rs : List TableReference) (rest : Binding (List NamedItem)) → ((counts : Counts) → AreOf rs (rest counts)) → (counts : Counts)
    → AreOf (r ∷ rs) (((outcome (or_fault fault.UnknownTable o) >>= λ t. has_found (table_findings t) >> pure (item_over r t)) >>= λ y. rest >>= λ ys. pure (y ∷ ys)) counts)
first_of r None rs rest are counts = tt
first_of r (Some t) rs rest are counts =
    let y = found_of_item r t counts in
    let next = after counts y in
    item_behind y next rs (rest next) (are next)

are_of : (names : NamedTables) (from : List TableReference) (counts : Counts) → AreOf from (each (item_bound names) from counts)
are_of names [] counts = refl
are_of names (r ∷ rs) counts = first_of r (names r.table) rs (each (item_bound names) rs) (are_of names rs) counts

all_of : (from : List TableReference) (o : Outcome (Found (List NamedItem))) (x : Found (List NamedItem)) → AreOf from o → o ≡ Ok x → references x.part ≡ from
all_of from (Ok y) x are is = let same : y ≡ x = cc in ap (λ (y : Found (List NamedItem)). references y.part) (sym same) ∙ are
all_of from (Err fault) x are is = cc

same_names : (items : List FromItem) → references (map named_item_of items) ≡ map exposed items
same_names [] = refl
same_names (i ∷ items) = ap (λ (l : List TableReference). exposed i ∷ l) (same_names items)

pub are_exposed : (names : NamedTables) (from : List TableReference) (counts : Counts) (items : List FromItem) (x : Found (List NamedItem)) → each (item_bound names) from counts ≡ Ok x → x.part ≡ map named_item_of items → map exposed items ≡ from
are_exposed names from counts items x is same =
    sym (same_names items) ∙ ap references (sym same) ∙ all_of from (each (item_bound names) from counts) x (are_of names from counts) is

pub clause_seen : (items : List FromItem) (tables : List TablePlace) → tables ≡ map (λ i. i.place) items → both (map named_item_of items) ≡ seen tables items
clause_seen items tables are = λ i. ((map-map (λ (i : NamedItem). i.table) named_item_of items ∙ sym are) i, map-map (λ (i : NamedItem). i.item) named_item_of items i)

-- ---- the whole clause

few_tested : (n : ℕ) → n < 16 → nat_lt 16 (suc n) ≡ false
few_tested n few = grind (arith, nat_tests)

-- fewer than 16 items behind the first
pub few_items : {A : Type 0} (f : A → TableReference) (first : A) (rest : List A) (n : ℕ) → n ≡ length rest → n < 16 → nat_lt most_items (length (map f (first ∷ rest))) ≡ false
few_items f first rest n is few = ap (λ (m : ℕ). nat_lt 16 (suc m)) (length-map rest f ∙ sym is) ∙ few_tested n few

pub some_of : (items : List FromItem) (r : TableReference) (rs : List TableReference) → map exposed items ≡ r ∷ rs → nat_lt 0 (length items) ≡ true
some_of [] r rs e = cc
some_of (i ∷ items) r rs e = grind (arith, nat_tests)

module _ (names : NamedTables) (from : List TableReference) (counts : Counts) (few : nat_lt most_items (length from) ≡ false) where
  abbrev checked : Found (List NamedItem) → Outcome (Found (List NamedItem))
  checked x = then_joined x ((must (not (has_item_twice from)) fault.AmbiguousName >>= λ u. pure x.part) (after counts x))

  as_items : from_bound names from counts ≡ and_then (each (item_bound names) from counts) checked
  as_items = ap (λ (t : Bool). (if t then refused fault.LimitExceeded else (each (item_bound names) from >>= λ items. must (not (has_item_twice from)) fault.AmbiguousName >>= λ u. pure items)) counts) few

  split_as : (o : Outcome (Found (List NamedItem))) → from_bound names from counts ≡ o → from_split names from counts ≡ made_of both o
  split_as o is = made_at both counts (from_bound names from counts) ∙ ap (made_of both) is

  pub from_found : (x : Found (List NamedItem)) → each (item_bound names) from counts ≡ Ok x → has_item_twice from ≡ false → from_split names from counts ≡ Ok (with_part (both x.part) x)
  from_found x is once =
      split_as (Ok x) (as_items ∙ ap (λ (o : Outcome (Found (List NamedItem))). and_then o checked) is ∙ passed x.part fault.AmbiguousName counts x (not (has_item_twice from)) (ap not once))

  pub from_twice : (x : Found (List NamedItem)) → each (item_bound names) from counts ≡ Ok x → has_item_twice from ≡ true → from_split names from counts ≡ Err fault.AmbiguousName
  from_twice x is twice =
      split_as (Err fault.AmbiguousName) (as_items ∙ ap (λ (o : Outcome (Found (List NamedItem))). and_then o checked) is ∙ failed x.part fault.AmbiguousName counts x (not (has_item_twice from)) (ap not twice))
