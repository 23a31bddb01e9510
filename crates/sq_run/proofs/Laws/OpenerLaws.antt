-- Where one procedure alone opens a cursor, the parameters of the cursor's query are that procedure's (own rule).
use Rattle.std.proofs.Common.{ap, arith, cond, subst, sym, ◌∙◌}
use Rattle.std.proofs.lemmas.List.{append-nil}
use Rattle.std.proofs.lemmas.List.Sums.{sum_by-cons}
use Rattle.std.specs.List.{count_by}
use Rattle.std.specs.Prelude.{◌≡◌, ℕ, ◌+◌, Bool, true, false, if◌then◌else◌, List, [], ◌∷◌, ◌++◌, filter, find, flat_map, Option, Some, refl}
use Rattle.sq_lex.specs.declared.name.Name.{Name}
use Rattle.sq_tree.specs.declared.module.ModuleText.{ModuleText}
use Rattle.sq_tree.specs.declared.module.Procedure.{Procedure}
use Rattle.sq_meaning.specs.Environment.{same_name}
use Rattle.sq_meaning.specs.Module.{declared_parameters, opener_count, opens, procedure_named, procedures}
use Rattle.sq_meaning.specs.WellFormedStatement.{opener_parameters}

no_more : (b : Bool) (n : ℕ) → b ≡ true → cond b 1 0 + n ≡ 0 → ⊥
no_more true n p h = omega (arith, h)
no_more false n p h = cc

rest_none : (b : Bool) (n : ℕ) → cond b 1 0 + n ≡ 0 → n ≡ 0
rest_none true n h = omega (arith, h)
rest_none false n h = omega (arith, h)

module _ {A : Type 0} (test : A → Bool) where
  first_none : (b : Bool) (y : A) (ys : List A) → cond b 1 0 + count_by test ys ≡ 0 → (count_by test ys ≡ 0 → filter test ys ≡ []) → (if b then y ∷ filter test ys else filter test ys) ≡ []
  first_none true y ys h kept = absurd (no_more true (count_by test ys) refl h)
  first_none false y ys h kept = kept (rest_none false (count_by test ys) h)

  none_kept : (xs : List A) → count_by test xs ≡ 0 → filter test xs ≡ []
  none_kept [] e = refl
  none_kept (y ∷ ys) e = first_none (test y) y ys (sym (sum_by-cons (λ x. cond (test x) 1 0) y ys) ∙ e) (none_kept ys)

  first_found : (b : Bool) (x y : A) (o : Option A) (n : ℕ) → cond b (Some y) o ≡ Some x → test x ≡ true → cond (test y) 1 0 + n ≡ 0 → (o ≡ Some x → ⊥) → ⊥
  first_found true x y o n found passes h others = let same : y ≡ x = cc in no_more (test y) n (subst (λ z. test z ≡ true) (sym same) passes) h
  first_found false x y o n found passes h others = others found

  -- what is found and passes is counted
  found_counted : (which : A → Bool) (x : A) (xs : List A) → find which xs ≡ Some x → test x ≡ true → count_by test xs ≡ 0 → ⊥
  found_counted which x [] there passes e = cc
  found_counted which x (y ∷ ys) there passes e =
      let all = sym (sum_by-cons (λ z. cond (test z) 1 0) y ys) ∙ e in
      first_found (which y) x y (find which ys) (count_by test ys) there passes all (λ found. found_counted which x ys found passes (rest_none (test y) (count_by test ys) all))

  only_first : {B : Type 0} (f : A → List B) (b : Bool) (x y : A) (ys : List A) → b ≡ true → y ≡ x → cond b 1 0 + count_by test ys ≡ 1 → flat_map f (if b then y ∷ filter test ys else filter test ys) ≡ f x
  only_first f true x y ys p same h =
      let none : count_by test ys ≡ 0 = omega (arith, h) in ap (λ (zs : List A). f y ++ flat_map f zs) (none_kept ys none) ∙ append-nil (f y) ∙ ap f same
  only_first f false x y ys p same h = cc

  only_later : {B : Type 0} (f : A → List B) (b : Bool) (x y : A) (ys : List A) → cond b 1 0 + count_by test ys ≡ 1 → (count_by test ys ≡ 0 → ⊥) → (count_by test ys ≡ 1 → flat_map f (filter test ys) ≡ f x)
      → flat_map f (if b then y ∷ filter test ys else filter test ys) ≡ f x
  only_later f true x y ys h counted others = let none : count_by test ys ≡ 0 = omega (arith, h) in absurd (counted none)
  only_later f false x y ys h counted others = let one : count_by test ys ≡ 1 = omega (arith, h) in others one

  by_first : {B : Type 0} (f : A → List B) (b : Bool) (x y : A) (o : Option A) (ys : List A) → cond b (Some y) o ≡ Some x → test x ≡ true → cond (test y) 1 0 + count_by test ys ≡ 1
      → (o ≡ Some x → flat_map f (filter test (y ∷ ys)) ≡ f x) → flat_map f (filter test (y ∷ ys)) ≡ f x
  by_first f true x y o ys found passes h others = let same : y ≡ x = cc in only_first f (test y) x y ys (subst (λ z. test z ≡ true) (sym same) passes) same h
  by_first f false x y o ys found passes h others = others found

  -- where one of a list passes, and it is this one, what is made of those that pass is made of it
  only_one : {B : Type 0} (f : A → List B) (which : A → Bool) (x : A) (xs : List A) → find which xs ≡ Some x → test x ≡ true → count_by test xs ≡ 1 → flat_map f (filter test xs) ≡ f x
  only_one f which x [] there passes e = cc
  only_one f which x (y ∷ ys) there passes e =
      let all = sym (sum_by-cons (λ z. cond (test z) 1 0) y ys) ∙ e in
      by_first f (which y) x y (find which ys) ys there passes all
      (λ found. only_later f (test y) x y ys all (found_counted which x ys found passes) (only_one f which x ys found passes))

-- the parameters of a cursor's query are those of the procedure that opens it
pub opener_is : (m : ModuleText) (name cursor : Name) (p : Procedure) → procedure_named m name ≡ Some p → opens cursor p.statement ≡ true → opener_count m cursor ≡ 1 → opener_parameters m cursor ≡ declared_parameters p
opener_is m name cursor p there does once = only_one (λ (q : Procedure). opens cursor q.statement) declared_parameters (λ q. same_name q.name name) p (procedures m) there does once
