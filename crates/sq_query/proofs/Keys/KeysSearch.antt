-- What a target means among the rows that have one of several keys is what it means among all rows: the conditions of the views between have a
-- truth on each row, and the target's own condition is false on each row with none of the keys.
use Rattle.std.proofs.Common.{◌≡◌, ◌∙◌, ℕ, Bool, true, false, ◌&&◌, List, [], ◌∷◌, ◌++◌, cond, slice_index_or, Option, Some, None, Vec, Global, Bor, Result, refl, sym, ap, subst, arith, Ok, Err}
use Rattle.std.specs.Prelude.{IfErr, IfOk, IfSome, filter, if◌then◌else◌}
use Rattle.std.specs.List.{AllByRecursion, Contains}
use Rattle.sq_lex.specs.declared.name.Name.{Name}
use Rattle.sq_value.specs.Comparison.{is_same}
use Rattle.sq_value.specs.declared.domain.Kind.{Kind}
use Rattle.sq_value.specs.declared.truth.Truth.{Truth}
use Rattle.sq_value.specs.declared.value.Value.{Value}
use Rattle.sq_value.specs.declared.value.Value.TheVariants.{Null}
use Rattle.sq_store.specs.Content.{Content, table_at}
use Rattle.sq_store.specs.Keys.{Keys, has_key, key_at}
use Rattle.sq_store.specs.declared.table.Numbered.{Numbered}
use Rattle.sq_meaning.specs.Environment.{Row}
use Rattle.sq_meaning.specs.Query.{is_true}
use Rattle.sq_meaning.specs.Status.{Outcome, and_then}
use Rattle.sq_meaning.specs.WellFormed.{Has, HasValue, IsRowOf}
use Rattle.sq_bound.specs.Condition.{cond_of}
use Rattle.sq_bound.specs.Fits.{IsBase, has_its_values, keys_of_bases, not_nulls_hold}
use Rattle.sq_bound.specs.WellFormed.{IsTarget, TableKinds, base_kinds}
use Rattle.sq_bound.specs.declared.condition.BoundCond.{BoundCond}
use Rattle.sq_bound.specs.declared.condition.TablePlace.{TablePlace}
use Rattle.sq_bound.specs.declared.condition.TablePlace.TheVariants.{Base}
use Rattle.sq_bound.specs.declared.names.BaseTable.{BaseTable}
use Rattle.sq_bound.specs.declared.query.Target.{Target}
use Rattle.sq_expression.specs.Fault.{MeetsAs}
use Rattle.sq_expression.specs.declared.fault.Fault.{Fault}
use Rattle.sq_expression.specs.declared.fault.Fault.TheVariants as fault
use Rattle.sq_condition.proofs.Conditions.{neither_left, neither_right}
use Rattle.sq_query.specs.Key.{AreKeysOn}
use Rattle.sq_query.specs.Several.{AreKeysUnder, has_one_of, rows_with}
use Rattle.sq_query.specs.Table.{numbered_in}
use Rattle.sq_query.specs.Target.{and_own, chosen, conditions_of, is_true_of, rows_of_target}
use Rattle.sq_query.specs.declared.key.KnownKeys.{KnownKeys}
use Rattle.sq_query.proofs.Keys.KeyColumns.{key_not_null, key_value, rows_have_values}
use Rattle.sq_query.proofs.Keys.KeyNames.{base_under}
use Rattle.sq_query.proofs.Keys.KeyOut.{all_both, on_row}
use Rattle.sq_query.proofs.Keys.KeyedRows.{there_so}
use Rattle.sq_query.proofs.FoundByKey.LeftOut.{kept_filtered}
use Rattle.sq_query.proofs.Targets.TargetKeys.{own_on_base}
use Rattle.sq_query.proofs.Targets.TargetSearch.{HaveAnswers, HaveTruths, kept_passing, passing, passing_all, is_passed, tested, truth_at, view_truths}
use Rattle.sq_meaning.proofs.AnswerLaws.{all_weaker}

-- ---- some rows are left out before the conditions are tried

module _ (stays : Numbered → Bool) where
  filtered : (P : Numbered → Type 0) (rows : List Numbered) → AllByRecursion P rows → AllByRecursion P (filter stays rows)
  filtered P [] all = tt
  filtered P (r ∷ rows) all = by (stays r) (filtered P rows all.1)
    where
      by : (b : Bool) → AllByRecursion P (filter stays rows) → AllByRecursion P (cond b (r ∷ filter stays rows) (filter stays rows))
      by true later = (all.0, later)
      by false later = later

  passing_filtered : (test : Numbered → Outcome Bool) (rows : List Numbered) → passing test (filter stays rows) ≡ filter stays (passing test rows)
  passing_filtered test [] = refl
  passing_filtered test (r ∷ rows) = by (stays r) refl (is_passed (test r)) refl (passing_filtered test rows)
    where
      left : List Numbered
      left = filter stays (passing test rows)

      by : (b : Bool) → stays r ≡ b → (p : Bool) → is_passed (test r) ≡ p → passing test (filter stays rows) ≡ filter stays (passing test rows)
          → passing test (cond b (r ∷ filter stays rows) (filter stays rows)) ≡ filter stays (if p then r ∷ passing test rows else passing test rows)
      by true is true passed later = (λ i. if passed i then r ∷ later i else later i) ∙ sym (ap (λ c. cond c (r ∷ left) left) is)
      by true is false passed later = λ i. if passed i then r ∷ later i else later i
      by false is true passed later = later ∙ sym (ap (λ c. cond c (r ∷ left) left) is)
      by false is false passed later = later

  module _ {X : Type 0} (truth_of : X → Numbered → Outcome Truth) (own : X) where
    chosen_filtered : (xs : List X) (rows : List Numbered) → HaveTruths truth_of rows xs → AllByRecursion (λ r. stays r ≡ false → tested truth_of own r ≡ Ok false) rows
        → chosen (tested truth_of) (xs ++ own ∷ []) (filter stays rows) ≡ chosen (tested truth_of) (xs ++ own ∷ []) rows
    chosen_filtered [] rows truths out = ap (λ (o : Outcome (List Numbered)). and_then o (chosen (tested truth_of) [])) (kept_filtered (tested truth_of own) stays rows out)
    chosen_filtered (x ∷ xs) rows truths out =
        let test = tested truth_of x in
        let left = passing test rows in
        let rest = chosen (tested truth_of) (xs ++ own ∷ []) in
        ap (λ (o : Outcome (List Numbered)). and_then o rest) (kept_passing test (filter stays rows) (filtered (λ r. HasValue (test r)) rows truths.0))
        ∙ ap rest (passing_filtered test rows)
        ∙ chosen_filtered xs left
        (all_weaker (λ y. HaveAnswers (tested truth_of y) rows) (λ y. HaveAnswers (tested truth_of y) left) (λ y. passing_all test (λ r. HasValue (tested truth_of y r)) rows) xs truths.1)
        (passing_all test (λ r. stays r ≡ false → tested truth_of own r ≡ Ok false) rows out)
        ∙ sym (ap (λ (o : Outcome (List Numbered)). and_then o rest) (kept_passing test rows truths.0))

-- ---- a row with none of the keys

and_so : (b : Bool) → (b && true) ≡ false → b ≡ false
and_so true h = cc
and_so false h = refl

pub none_same : (n : ℕ) (values : List Value) (r : Numbered) → has_one_of (n ∷ []) values r ≡ false → AllByRecursion (λ v. is_same v (slice_index_or r.row n Null) ≡ false) values
none_same n [] r none = tt
none_same n (v ∷ values) r none = (
  and_so (is_same v (slice_index_or r.row n Null)) (neither_left (has_key (n ∷ []) (v ∷ []) r) (has_one_of (n ∷ []) values r) none),
  none_same n values r (neither_right (has_key (n ∷ []) (v ∷ []) r) (has_one_of (n ∷ []) values r) none),
)

pub only_one : (columns : List ℕ) (n : ℕ) → columns ≡ n ∷ [] → Contains columns n
only_one columns n is = subst (λ (ns : List ℕ). Contains ns n) (sym is) (0, omega arith, refl)

-- ---- the rows that a target means

module _ (tables : TablePlace → Outcome (List Row)) (columns : TableKinds) (parameters : List Kind) (values : List Value) (caller : Name) (given : IsRowOf parameters values)
    (bases : List BaseTable) (content : Content) (keys : List Keys) (t : Target) (known : KnownKeys) (k : AreKeysUnder t content keys values caller known)
    (well : IsTarget columns parameters t) (base : IsBase bases t.leaf.table) (keys_are : keys ≡ keys_of_bases bases) (nulls : not_nulls_hold bases content ≡ true)
    (rows_are : AllByRecursion (λ (r : Numbered). IsRowOf (base_kinds t.leaf.table) r.row) (table_at content t.base).rows) where
  abbrev rows_here : List Numbered
  rows_here = (table_at content t.base).rows

  abbrev key_columns : List ℕ
  key_columns = key_at keys t.base known.key

  abbrev has_one : Numbered → Bool
  has_one = has_one_of key_columns known.values.items

  kinds_are : columns (Base t.base) ≡ Ok (base_kinds t.leaf.table)
  kinds_are = ap (λ (p : ℕ). columns (Base p)) t.is_under ∙ well.leaf.kinds_are

  row_out : (r : Numbered) → IsRowOf (base_kinds t.leaf.table) r.row → has_its_values t.leaf.table r.row ≡ true → has_one r ≡ false → tested (truth_at tables columns parameters values caller given) k.own r ≡ Ok false
  row_out r is_row has_values none =
      let n = k.on.named.0 in
      let only = k.on.named.1 in
      ap is_true (on_row values caller (Base t.base) (cond_of [] k.own) n known.values.items k.on.named.2 tables columns parameters r.row given (own_on_base columns parameters t k.own well k.is_own) (subst (Has (λ ks. IsRowOf ks r.row)) (sym kinds_are) is_row)
      (record {
        not_null = λ x there. key_value t.leaf.table key_columns r.row (key_not_null bases keys t.base t.leaf.table known.key keys_are (base_under bases keys t base keys_are) k.on.key) has_values n x (only_one key_columns n only) there;
        differs = none_same n known.values.items r (ap (λ (ns : List ℕ). has_one_of ns known.values.items r) (sym only) ∙ none);
      }))

  rows_out : AllByRecursion (λ r. has_one r ≡ false → tested (truth_at tables columns parameters values caller given) k.own r ≡ Ok false) rows_here
  rows_out =
      all_both (λ (r : Numbered). IsRowOf (base_kinds t.leaf.table) r.row) (λ (r : Numbered). has_its_values t.leaf.table r.row ≡ true)
      (λ r. has_one r ≡ false → tested (truth_at tables columns parameters values caller given) k.own r ≡ Ok false) row_out rows_here rows_are
      (rows_have_values content bases t.base t.leaf.table nulls (base_under bases keys t base keys_are))

  -- among the rows with one of the keys a target means what it means among all
  pub few_chosen : chosen (is_true_of tables values caller) (conditions_of t) (rows_with content keys t.base known) ≡ rows_of_target tables content values caller t
  few_chosen =
      let few = rows_with content keys t.base known in
      ap (λ (own : Option BoundCond). chosen (is_true_of tables values caller) (and_own t.leaf.conditions own) few) k.is_own
      ∙ chosen_filtered has_one (truth_at tables columns parameters values caller given) k.own t.leaf.conditions rows_here
      (view_truths tables columns parameters values caller given t.leaf.table well.leaf.kinds_are rows_here rows_are t.leaf.conditions well.leaf.conditions k.sure) rows_out
      ∙ sym (ap (λ (own : Option BoundCond). chosen (is_true_of tables values caller) (and_own t.leaf.conditions own) rows_here) k.is_own)
      ∙ sym (ap (λ (o : Outcome (List Numbered)). and_then o (chosen (is_true_of tables values caller) (conditions_of t))) (there_so content t.base k.on.table))

-- keys are found through views whose conditions are never a fault
pub keys_through_views : (t : Target) (content : Content) (keys : List Keys) (parameters : List Value) (user : Name) (own : BoundCond) (r : Result (Option KnownKeys) Fault) → t.condition ≡ Some own → t.leaf.is_quiet ≡ true
    → IfOk r (λ found. IfSome found (AreKeysOn t.base own content keys parameters user)) → IfOk r (λ found. IfSome found (AreKeysUnder t content keys parameters user))
keys_through_views t content keys parameters user own (Err e) is quiet h = tt
keys_through_views t content keys parameters user own (Ok None) is quiet h = tt
keys_through_views t content keys parameters user own (Ok (Some known)) is quiet h = record { own = own; is_own = is; sure = sym t.leaf.quiet ∙ quiet; on = h }

-- rows that were found as they are to be
pub found_as : (r : Result (Vec (ℕ × Bor Row) Global) Fault) (rows : List Numbered) → IfOk r (λ found. numbered_in found ≡ rows) → IfErr r (λ f. f ≡ fault.NoMemory) → MeetsAs numbered_in r (Ok rows)
found_as (Ok found) rows is memory = ap (λ (l : List Numbered). let o : Outcome (List Numbered) = Ok l in o) (sym is)
found_as (Err fault.NoMemory) rows is memory = tt
found_as (Err (fault.Status f)) rows is memory = absurd cc
