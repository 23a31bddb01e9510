-- Quiet targets: their conditions have no subquery, and are tested without any table.
use Rattle.std.proofs.Common.{◌≡◌, ℕ, zero, suc, ◌<◌, Bool, true, false, ◌&&◌, List, [], ◌∷◌, ◌++◌, length, get_or, refl, sym, ◌∙◌, ap, subst, arith, Option, Some, None, Result, Ok, Err}
use Rattle.std.proofs.lemmas.List.Folds.{list_any-append}
use Rattle.std.specs.Prelude.{if◌then◌else◌, IfSome, IsErrAnd}
use Rattle.std.specs.List.{AllByRecursion, list_any}
use Rattle.sq_value.proofs.Truths.{neither_left, neither_right}
use Rattle.sq_lex.specs.declared.name.Name.{Name}
use Rattle.sq_value.specs.declared.truth.Truth.{Truth}
use Rattle.sq_value.specs.declared.value.Value.{Value}
use Rattle.sq_meaning.specs.Status.{Outcome, ◌>>=◌}
use Rattle.sq_meaning.specs.Environment.{Row}
use Rattle.sq_meaning.specs.Query.{is_true}
use Rattle.sq_meaning.specs.Target.{has_subquery}
use Rattle.sq_bound.specs.Condition.{cond_of}
use Rattle.sq_bound.specs.Names.{option_all}
use Rattle.sq_bound.specs.Quiet.{are_quiet_conds, is_quiet_cond}
use Rattle.sq_bound.specs.declared.condition.BoundCond.{BoundCond}
use Rattle.sq_bound.specs.declared.condition.TablePlace.{TablePlace}
use Rattle.sq_bound.specs.declared.query.Target.{Target}
use Rattle.sq_bound.proofs.QuietTruths.{both_left, both_right, quiet_plain}
use Rattle.sq_expression.specs.Fault.{Meets}
use Rattle.sq_expression.specs.declared.fault.Fault.{Fault}
use Rattle.sq_expression.specs.declared.fault.Fault.TheVariants as fault
use Rattle.sq_expression.proofs.Expressions.{handed_on}
use Rattle.sq_query.specs.Keyed.{IsKeyedTarget, ReadsNoTable}
use Rattle.sq_query.specs.Row.{truth_on_row}
use Rattle.sq_query.specs.Target.{IsChosen, and_own, are_true, conditions_of}
use Rattle.sq_query.proofs.Keys.KeyedRows.{both_are}

-- ---- no subquery

sure_plain : (cs : List BoundCond) → are_quiet_conds cs ≡ true → AllByRecursion (λ c. has_subquery (cond_of [] c) ≡ false) cs
sure_plain [] h = tt
sure_plain (c ∷ cs) h = (quiet_plain (cond_of [] c) (both_left (is_quiet_cond c) (are_quiet_conds cs) h), sure_plain cs (both_right (is_quiet_cond c) (are_quiet_conds cs) h))

own_plain : (own : Option BoundCond) → option_all is_quiet_cond own ≡ true → IfSome own (λ c. has_subquery (cond_of [] c) ≡ false)
own_plain None h = tt
own_plain (Some c) h = quiet_plain (cond_of [] c) h

no_subquery : (cs : List BoundCond) → AllByRecursion (λ c. has_subquery (cond_of [] c) ≡ false) cs → list_any (λ c. has_subquery (cond_of [] c)) cs ≡ false
no_subquery [] h = refl
no_subquery (c ∷ cs) h = rw h.0 (no_subquery cs h.1)

pub are_plain : (t : Target) → t.is_quiet ≡ true → list_any (λ c. has_subquery (cond_of [] c)) (conditions_of t) ≡ false
are_plain t h =
    let sure : (are_quiet_conds t.leaf.conditions && option_all is_quiet_cond t.condition) ≡ true = sym t.quiet ∙ h in
    no_subquery (conditions_of t) (both_are (λ c. has_subquery (cond_of [] c) ≡ false) t.leaf.conditions t.condition
    (sure_plain t.leaf.conditions (both_left (are_quiet_conds t.leaf.conditions) (option_all is_quiet_cond t.condition) sure))
    (own_plain t.condition (both_right (are_quiet_conds t.leaf.conditions) (option_all is_quiet_cond t.condition) sure)))

-- where a key of a target has known values, no table is read for a row of it
pub keyed_reads_none : (t : Target) (parameters : List Value) (user : Name) → IsKeyedTarget t parameters user → ReadsNoTable t
keyed_reads_none t parameters user keyed none =
    no_subquery (conditions_of t) (both_are (λ c. has_subquery (cond_of [] c) ≡ false) t.leaf.conditions t.condition (sure_plain t.leaf.conditions (sym t.leaf.quiet ∙ keyed.quiet_views))
    (subst (λ (own : Option BoundCond). IfSome own (λ c. has_subquery (cond_of [] c) ≡ false)) (sym keyed.under.is_own) (keyed.plain none)))

-- what is answered without any table is what is meant, whatever the tables are
pub quiet_meant : (r : Result Bool Fault) (t : Target) (row : Row) (values : List Value) (user : Name) → t.is_quiet ≡ true → IsChosen r (conditions_of t) row values user
    → (tables : TablePlace → Outcome (List Row)) → Meets r (are_true (truth_on_row tables values user row) (conditions_of t))
quiet_meant r t row values user q h tables = h (are_plain t q) tables

-- ---- the conditions of the views, and then the target's own

-- after others, one is tested where they are true
abbrev after : Outcome Bool → Outcome Bool → Outcome Bool
after others rest = others >>= λ holds. if holds then rest else Ok false

after_true : (o : Outcome Bool) → o ≡ after o (Ok true)
after_true (Ok true) = refl
after_true (Ok false) = refl
after_true (Err s) = refl

after_after : (o p rest : Outcome Bool) → after o (after p rest) ≡ after (after o p) rest
after_after (Ok true) p rest = refl
after_after (Ok false) p rest = refl
after_after (Err s) p rest = refl

own_after : (test : BoundCond → Outcome Truth) (cs : List BoundCond) (own : Option BoundCond) → are_true test (and_own cs own) ≡ after (are_true test cs) (are_true test (and_own [] own))
own_after test cs None = after_true (are_true test cs)
own_after test cs (Some c) = behind cs
  where
    behind : (ds : List BoundCond) → are_true test (ds ++ c ∷ []) ≡ after (are_true test ds) (are_true test (c ∷ []))
    behind [] = refl
    behind (d ∷ ds) = ap (after (is_true (test d))) (behind ds) ∙ after_after (is_true (test d)) (are_true test ds) (are_true test (c ∷ []))

plain_parts : (p : BoundCond → Bool) (cs : List BoundCond) (own : Option BoundCond) → list_any p (and_own cs own) ≡ false → (list_any p cs ≡ false) × (list_any p (and_own [] own) ≡ false)
plain_parts p cs None h = (h, refl)
plain_parts p cs (Some c) h =
    let apart = sym (list_any-append p cs (c ∷ [])) ∙ h in
    (neither_left (list_any p cs) (list_any p (c ∷ [])) apart, neither_right (list_any p cs) (list_any p (c ∷ [])) apart)

module _ (cs : List BoundCond) (own : Option BoundCond) (row : Row) (values : List Value) (user : Name) where
  pub views_true : (r : Result Bool Fault) → IsChosen (Ok true) cs row values user → IsChosen r (and_own [] own) row values user → IsChosen r (and_own cs own) row values user
  views_true r h g none tables =
      let test = truth_on_row tables values user row in
      let parts = plain_parts (λ c. has_subquery (cond_of [] c)) cs own none in
      subst (λ (o : Outcome Bool). Meets r o) (sym (own_after test cs own ∙ ap (λ o. after o (are_true test (and_own [] own))) (h parts.0 tables))) (g parts.1 tables)

  pub views_false : IsChosen (Ok false) cs row values user → IsChosen (Ok false) (and_own cs own) row values user
  views_false h none tables =
      let test = truth_on_row tables values user row in
      let parts = plain_parts (λ c. has_subquery (cond_of [] c)) cs own none in
      own_after test cs own ∙ ap (λ o. after o (are_true test (and_own [] own))) (h parts.0 tables)

  pub views_fail : (r : Result Bool Fault) (e : Fault) → IsErrAnd r (λ g. g ≡ e) → IsChosen (Err e) cs row values user → IsChosen r (and_own cs own) row values user
  views_fail r e is h none tables = handed_on r e (are_true test (and_own cs own)) is (ends e (h parts.0 tables))
    where
      test : BoundCond → Outcome Truth
      test = truth_on_row tables values user row

      parts : (list_any (λ c. has_subquery (cond_of [] c)) cs ≡ false) × (list_any (λ c. has_subquery (cond_of [] c)) (and_own [] own) ≡ false)
      parts = plain_parts (λ c. has_subquery (cond_of [] c)) cs own none

      ends : (f : Fault) → Meets {A = Bool} (Err f) (are_true test cs) → Meets {A = Bool} (Err f) (are_true test (and_own cs own))
      ends fault.NoMemory k = tt
      ends (fault.Status s) k = own_after test cs own ∙ ap (λ o. after o (are_true test (and_own [] own))) k

-- ---- one of them

pub one_chosen : (c : BoundCond) (row : Row) (values : List Value) (user : Name) (r : Result Bool Fault)
    → (has_subquery (cond_of [] c) ≡ false → (tables : TablePlace → Outcome (List Row)) → Meets r (is_true (truth_on_row tables values user row c))) → IsChosen r (c ∷ []) row values user
one_chosen c row values user r h none tables =
    subst (λ (o : Outcome Bool). Meets r o) (after_true (is_true (truth_on_row tables values user row c))) (h (neither_left (has_subquery (cond_of [] c)) false none) tables)

-- where no element passes a test, the one at an index does not
pub none_of : {X : Type 0} (p : X → Bool) (xs : List X) (i : ℕ) (x : X) → i < length xs → x ≡ get_or xs i x → list_any p xs ≡ false → p x ≡ false
none_of p [] i x within is none = absurd (omega (arith, within))
none_of {X} p (y ∷ xs) zero x within is none = subst (λ (z : X). p z ≡ false) (sym is) (neither_left (p y) (list_any p xs) none)
none_of p (y ∷ xs) (suc i) x within is none = none_of p xs i x (omega (arith, within)) is (neither_right (p y) (list_any p xs) none)
