-- Select lists, column by column, with trees and columns apart.
use Rattle.std.proofs.Common.{◌≡◌, ℕ, suc, ◌+◌, ◌<◌, ◌≤◌, ◌||◌, Bool, true, false, List, [], ◌∷◌, ◌++◌, length, drop, map, get_or, Ok, Err, refl, sym, ap, subst, ◌∙◌, arith}
use Rattle.std.proofs.lemmas.Bool.Decides.{nat_tests}
use Rattle.std.proofs.lemmas.List.{length-map, map-append}
use Rattle.std.specs.Prelude.{Result, nat_lt, if◌then◌else◌}
use Rattle.sq_tree.specs.declared.expr.Expr.{Expr as SpelledExpr}
use Rattle.sq_meaning.specs.Spelled.{Named, expr_of}
use Rattle.sq_meaning.specs.Syntax.{Expr, expressions}
use Rattle.sq_bound.specs.declared.condition.ResultColumn.{ResultColumn as BoundColumn}
use Rattle.sq_bound.specs.declared.expression.BoundExpr.{BoundExpr}
use Rattle.sq_meaning.specs.declared.fault.BindingFault.TheVariants as fault
use Rattle.sq_binding.specs.Found.{Binding, after, each, pure, refused, then_joined, with_next}
use Rattle.sq_binding.specs.Found as binding
use Rattle.sq_binding.specs.Outcome.{Outcome, and_then}
use Rattle.sq_binding.specs.QueryFindings.{both}
use Rattle.sq_binding.specs.Scope.{FromItem}
use Rattle.sq_binding.specs.Select.{ShownColumn, Surroundings, most_columns, shown_column}
use Rattle.sq_binder.specs.Binds.{Stops}
use Rattle.sq_binder.specs.Found.{Finds, counts_of, found_of}
use Rattle.sq_binder.specs.SelectList.{BeginsList, Shown, Shows, list_seen, list_split, shown_of, split, with_shown}
use Rattle.sq_binder.specs.declared.found.Counts.{Counts}
use Rattle.sq_binder.specs.declared.found.Found.{Found}
use Rattle.sq_binder.specs.declared.select_list.SelectedList.{SelectedList}
use Rattle.sq_binder.specs.declared.stop.Stop.{Stop}
use Rattle.sq_binder.specs.declared.stop.Stop.TheVariants.{Fault, NoMemory}
use Rattle.sq_binder.proofs.OneByOne.Behind.{each_stepped, made_at, made_of, next_step, one_part, with_part}
use Rattle.sq_binder.proofs.OneByOne.Finds.{behind_counts}
use Rattle.sq_binder.proofs.OneByOne.Steps.{all_done, step_done, step_stops, stepped, stepped_fault, stops_as, stops_here}

abbrev apart : binding.Found (List ShownColumn) → binding.Found Shown
apart x = with_part (split x.part) x

abbrev shown_next : binding.Found Shown → binding.Found ShownColumn → binding.Found Shown
shown_next z y = record {
  part = with_shown z.part y.part;
  calls = z.calls ++ y.calls;
  calls_can_fail = z.calls_can_fail || y.calls_can_fail;
  findings = both z.findings y.findings;
  subqueries = y.subqueries;
}

next_apart : (x : binding.Found (List ShownColumn)) (y : binding.Found ShownColumn) → apart (with_next x y) ≡ shown_next (apart x) y
next_apart x y = λ i. record {
  part = (map-append (λ c. c.tree) x.part (y.part ∷ []) i, map-append (λ c. c.column) x.part (y.part ∷ []) i);
  calls = x.calls ++ y.calls;
  calls_can_fail = x.calls_can_fail || y.calls_can_fail;
  findings = both x.findings y.findings;
  subqueries = y.subqueries;
}

module _ {A : Type 0} (f : A → Binding ShownColumn) (counts : binding.Counts) where
  abbrev pub shown_step : binding.Found Shown → A → Outcome (binding.Found Shown)
  shown_step z e = and_then (f e (after counts z)) (λ y. Ok (shown_next z y))

  one_apart : (es : List A) → ((x : binding.Found (List ShownColumn)) → made_of split (stepped (next_step f counts) (Ok x) es) ≡ stepped shown_step (Ok (apart x)) es) → (x : binding.Found (List ShownColumn)) (o : Outcome (binding.Found ShownColumn))
      → made_of split (stepped (next_step f counts) (and_then o (λ y. Ok (with_next x y))) es) ≡ stepped shown_step (and_then o (λ y. Ok (shown_next (apart x) y))) es
  one_apart es rest x (Err fault) = ap (made_of split) (stepped_fault (next_step f counts) fault es) ∙ sym (stepped_fault shown_step fault es)
  one_apart es rest x (Ok y) = rest (with_next x y) ∙ ap (λ z. stepped shown_step (Ok z) es) (next_apart x y)

  apart_stepped : (es : List A) (x : binding.Found (List ShownColumn)) → made_of split (stepped (next_step f counts) (Ok x) es) ≡ stepped shown_step (Ok (apart x)) es
  apart_stepped [] x = refl
  apart_stepped (e ∷ es) x = one_apart es (apart_stepped es) x (f e (after counts x))

  first_apart : (es : List A) (o : Outcome (binding.Found ShownColumn)) → made_of split (and_then o (λ x. stepped (next_step f counts) (Ok (one_part x)) es)) ≡ and_then o (λ x. stepped shown_step (Ok (apart (one_part x))) es)
  first_apart es (Err fault) = refl
  first_apart es (Ok x) = apart_stepped es (one_part x)

  pub list_stepped : (e : A) (es : List A) → made_of split (each f (e ∷ es) counts) ≡ and_then (f e counts) (λ x. stepped shown_step (Ok (apart (one_part x))) es)
  list_stepped e es = ap (made_of split) (each_stepped f counts e es) ∙ first_apart es (f e counts)

-- ---- a loop that binds the columns in turn

pub record SoFarShown {A E : Type 0} (f : A → Binding ShownColumn) (g : E → A) (before : Counts) (whole : Outcome (binding.Found Shown)) (list : Found SelectedList) (rest : List E) : Type 0 where
  pub is : whole ≡ stepped (shown_step f (counts_of before)) (Ok (found_of list_seen list)) (map g rest)
  pub counted : counts_of list.brought.next ≡ after (counts_of before) (found_of list_seen list)

module _ {A E : Type 0} (f : A → Binding ShownColumn) (g : E → A) (before : Counts) where
  abbrev step : binding.Found Shown → A → Outcome (binding.Found Shown)
  step = shown_step f (counts_of before)

  module _ (first : E) (rest : List E) where
    abbrev whole : Outcome (binding.Found Shown)
    whole = made_of split (each f (g first ∷ map g rest) (counts_of before))

    abbrev others : binding.Found ShownColumn → Outcome (binding.Found Shown)
    others x = stepped step (Ok (apart (one_part x))) (map g rest)

    begun_as : whole ≡ and_then (f (g first) (counts_of before)) others
    begun_as = list_stepped f (counts_of before) (g first) (map g rest)

    pub begun_shown : (items : List E) (r : Result (Found (BoundExpr × BoundColumn)) Stop) (all : Found SelectedList) → items ≡ rest → Finds shown_of (f (g first)) before r → BeginsList r (Ok all) → SoFarShown f g before whole all items
    begun_shown items (Ok x) all same found is =
        let seen : found_of list_seen all ≡ apart (one_part (found_of shown_of x)) = λ i. found_of (λ (p : Shown). p) (record { part = is.0 i; brought = is.1 i }) in
        record {
          is = begun_as ∙ ap (λ o. and_then o others) found.0 ∙ (λ i. stepped step (Ok (sym seen i)) (map g (sym same i)));
          counted = (λ i. counts_of (is.1 i).next) ∙ found.1 ∙ ap (after (counts_of before)) (sym seen);
        }
    begun_shown items (Err stop) all same found is = absurd is

    pub begun_shown_stop : (r : Result (Found (BoundExpr × BoundColumn)) Stop) (stop : Stop) → Finds shown_of (f (g first)) before r → BeginsList r (Err stop) → Stops whole stop
    begun_shown_stop (Ok x) stop found is = subst (λ (s : Stop). Stops whole s) (sym is) tt
    begun_shown_stop (Err earlier) stop found is =
        subst (λ (s : Stop). Stops whole s) (sym is)
        (stops_as whole (and_then (f (g first) (counts_of before)) others) earlier begun_as (stops_here (f (g first) (counts_of before)) others earlier found))

  module _ (whole : Outcome (binding.Found Shown)) (xs : List E) (i : ℕ) (list : Found SelectedList) (e : E) where
    next_seen : (next : Found (BoundExpr × BoundColumn)) (more : Found SelectedList) → Shows list (Ok next) (Ok more) → shown_next (found_of list_seen list) (found_of shown_of next) ≡ found_of list_seen more
    next_seen next more is = λ j. record {
      part = sym is.0 j;
      calls = (sym is.1 j).calls;
      calls_can_fail = (sym is.1 j).calls_can_fail;
      findings = (sym is.1 j).findings;
      subqueries = (sym is.1 j).subqueries;
    }

    stepped_to : (o : Outcome (binding.Found ShownColumn)) → SoFarShown f g before whole list (drop i xs) → f (g e) (counts_of list.brought.next) ≡ o
        → step (found_of list_seen list) (g e) ≡ and_then o (λ y. Ok (shown_next (found_of list_seen list) y))
    stepped_to o so_far is =
        ap (λ d. and_then (f (g e) d) (λ y. Ok (shown_next (found_of list_seen list) y))) (sym so_far.counted) ∙ ap (λ o. and_then o (λ y. Ok (shown_next (found_of list_seen list) y))) is

    pub next_shown : (r : Result (Found (BoundExpr × BoundColumn)) Stop) (more : Found SelectedList) → i < length xs → e ≡ get_or xs i e → SoFarShown f g before whole list (drop i xs) → Finds shown_of (f (g e)) list.brought.next r → Shows list r (Ok more)
        → SoFarShown f g before whole more (drop (i + 1) xs)
    next_shown (Ok next) more within at so_far found is = record {
      is = step_done step g whole xs i (found_of list_seen list) e (found_of list_seen more) within at so_far.is (stepped_to (Ok (found_of shown_of next)) so_far found.0 ∙ ap Ok (next_seen next more is));
      counted = ap counts_of is.2 ∙ found.1 ∙ behind_counts (counts_of before) (counts_of list.brought.next) (found_of list_seen list) (found_of shown_of next) so_far.counted
          ∙ ap (after (counts_of before)) (next_seen next more is);
    }
    next_shown (Err stop) more within at so_far found is = absurd is

    pub next_shown_stop : (r : Result (Found (BoundExpr × BoundColumn)) Stop) (stop : Stop) → i < length xs → e ≡ get_or xs i e → SoFarShown f g before whole list (drop i xs) → Finds shown_of (f (g e)) list.brought.next r → Shows list r (Err stop) → Stops whole stop
    next_shown_stop (Ok next) stop within at so_far found is = subst (λ (s : Stop). Stops whole s) (sym is) tt
    next_shown_stop (Err NoMemory) stop within at so_far found is = subst (λ (s : Stop). Stops whole s) (sym is) tt
    next_shown_stop (Err (Fault broken)) stop within at so_far found is =
        subst (λ (s : Stop). Stops whole s) (sym is)
        (step_stops step g whole xs i (found_of list_seen list) e (Fault broken) within at so_far.is (stepped_to (Err broken.rule) so_far found))

  pub all_shown : (b : Binding Shown) (xs : List E) (i : ℕ) (list : Found SelectedList) → length xs ≤ i → SoFarShown f g before (b (counts_of before)) list (drop i xs) → Finds list_seen b before (Ok list)
  all_shown b xs i list past so_far = (all_done step g (b (counts_of before)) xs i (found_of list_seen list) past so_far.is, so_far.counted)

-- ---- no more columns than the greatest number

module _ (a : Surroundings) (items : List FromItem) (es : List (Expr Named)) (counts : binding.Counts) where
  tested : (t : Bool) → nat_lt most_columns (length es) ≡ t → list_split a items (expressions es) counts ≡ made_of split ((if t then refused fault.LimitExceeded else each (shown_column a) es) counts)
  tested t is =
      made_at split counts _ ∙ ap (λ (t : Bool). made_of split ((if t then refused fault.LimitExceeded else each (shown_column a) es) counts)) is

  pub few_columns : nat_lt most_columns (length es) ≡ false → list_split a items (expressions es) counts ≡ made_of split (each (shown_column a) es counts)
  few_columns is = tested false is

  pub many_columns : nat_lt most_columns (length es) ≡ true → list_split a items (expressions es) counts ≡ Err fault.LimitExceeded
  many_columns is = tested true is

few_tested : (n : ℕ) → n < 64 → nat_lt 64 (suc n) ≡ false
few_tested n few = grind (arith, nat_tests)

-- fewer than 64 columns behind the first
pub few_listed : (first : SpelledExpr) (rest : List SpelledExpr) (n : ℕ) → n ≡ length rest → n < 64 → nat_lt most_columns (length (map expr_of (first ∷ rest))) ≡ false
few_listed first rest n is few = ap (λ (m : ℕ). nat_lt 64 (suc m)) (length-map rest expr_of ∙ sym is) ∙ few_tested n few
