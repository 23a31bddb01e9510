-- The sets of the cursors that procedures open.
use Rattle.std.proofs.Common.{◌≡◌, ℕ, ◌+◌, Bool, true, false, cond, ◌||◌, List, [], ◌∷◌, ◌++◌, Option, Some, None, OnOk, Result, Ok, Err, if◌then◌else◌, refl, ap, sym, subst, ◌∙◌, arith}
use Rattle.std.proofs.lemmas.Bool.Decides.{nat_tests}
use Rattle.std.proofs.lemmas.List.Folds.{list_any-append}
use Rattle.std.proofs.lemmas.List.Sums.{sum_by-append}
use Rattle.std.specs.List.{list_any}
use Rattle.std.specs.Prelude.{nat_lt}
use Rattle.sq_value.proofs.Truths.{or_false, or_true}
use Rattle.indexmap.specs.IndexSet.{insert_key}
use Rattle.sq_lex.specs.declared.name.Name.{Name}
use Rattle.sq_tree.specs.declared.module.ModuleItem.{ModuleItem}
use Rattle.sq_meaning.specs.Environment.{same_name}
use Rattle.sq_binding.proofs.Placing.SameParameters.{names_equal}
use Rattle.sq_module.specs.declared.opener.Openers.{Openers}
use Rattle.sq_module.specs.Refusal.{AreOpeners, is_some_name, opened_in, opener_count}

-- a name is among those with one more if it was, or is that one
inserted : (keys : List Name) (name c : Name) → list_any (same_name c) (insert_key same_name keys name) ≡ (list_any (same_name c) keys || same_name c name)
inserted keys name c = by (list_any (same_name name) keys) refl
  where
    there : (b : Bool) → same_name c name ≡ b → list_any (same_name name) keys ≡ true → list_any (same_name c) keys ≡ (list_any (same_name c) keys || b)
    there true same h =
        let is : list_any (same_name c) keys ≡ true = subst (λ (n : Name). list_any (same_name n) keys ≡ true) (sym (names_equal c name same)) h in
        is ∙ sym (or_true (list_any (same_name c) keys))
    there false same h = sym (or_false (list_any (same_name c) keys))

    by : (b : Bool) → list_any (same_name name) keys ≡ b → list_any (same_name c) (if b then keys else keys ++ name ∷ []) ≡ (list_any (same_name c) keys || same_name c name)
    by true h = there (same_name c name) refl h
    by false h = list_any-append (same_name c) keys (name ∷ []) ∙ ap (λ b. list_any (same_name c) keys || b) (or_false (same_name c name))

-- ---- one item more

count_next : (items : List ModuleItem) (i : ModuleItem) (c : Name) (o : Option Name) → opened_in i ≡ o → opener_count (items ++ i ∷ []) c ≡ opener_count items c + cond (is_some_name c o) 1 0
count_next items i c o is =
    let added = sum_by-append (λ j. cond (is_some_name c (opened_in j)) 1 0) items (i ∷ []) in
    let one : ◌≡◌ {A = ℕ} (cond (is_some_name c (opened_in i)) 1 0) (cond (is_some_name c o) 1 0) = ap (λ p. cond (is_some_name c p) 1 0) is in
    omega (arith, added, one)

more_than_none : (n : ℕ) (b : Bool) → (nat_lt 0 n || b) ≡ nat_lt 0 (n + cond b 1 0)
more_than_none n true = or_true (nat_lt 0 n) ∙ grind (arith, nat_tests)
more_than_none n false = or_false (nat_lt 0 n) ∙ ap (nat_lt 0) (omega arith)

more_than_one : (n : ℕ) (k b : Bool) → (b ≡ true → k ≡ nat_lt 0 n) → (if k then nat_lt 1 n || b else nat_lt 1 n) ≡ nat_lt 1 (n + cond b 1 0)
more_than_one n true true h = let some = h refl in or_true (nat_lt 1 n) ∙ grind (arith, nat_tests, some)
more_than_one n true false h = or_false (nat_lt 1 n) ∙ ap (nat_lt 1) (omega arith)
more_than_one n false true h = let none = h refl in grind (arith, nat_tests, none)
more_than_one n false false h = ap (nat_lt 1) (omega arith)

pub openers_next : (items : List ModuleItem) (i : ModuleItem) (old new : Openers) (name : Name) → opened_in i ≡ Some name → new.opened.keys ≡ insert_key same_name old.opened.keys name
    → new.shared.keys ≡ (if list_any (same_name name) old.opened.keys then insert_key same_name old.shared.keys name else old.shared.keys) → AreOpeners items old → AreOpeners (items ++ i ∷ []) new
openers_next items i old new name is opened shared are = record { opened = opened_are; shared = shared_are }
  where
    opened_are : (c : Name) → list_any (same_name c) new.opened.keys ≡ nat_lt 0 (opener_count (items ++ i ∷ []) c)
    opened_are c =
        ap (list_any (same_name c)) opened ∙ inserted old.opened.keys name c ∙ ap (λ b. b || same_name c name) (are.opened c)
        ∙ more_than_none (opener_count items c) (same_name c name) ∙ sym (ap (nat_lt 0) (count_next items i c (Some name) is))

    chosen : (c : Name) (k : Bool) → list_any (same_name c) (if k then insert_key same_name old.shared.keys name else old.shared.keys)
        ≡ (if k then nat_lt 1 (opener_count items c) || same_name c name else nat_lt 1 (opener_count items c))
    chosen c true = inserted old.shared.keys name c ∙ ap (λ b. b || same_name c name) (are.shared c)
    chosen c false = are.shared c

    known : (c : Name) → same_name c name ≡ true → list_any (same_name name) old.opened.keys ≡ nat_lt 0 (opener_count items c)
    known c same = subst (λ (n : Name). list_any (same_name n) old.opened.keys ≡ nat_lt 0 (opener_count items c)) (names_equal c name same) (are.opened c)

    shared_are : (c : Name) → list_any (same_name c) new.shared.keys ≡ nat_lt 1 (opener_count (items ++ i ∷ []) c)
    shared_are c =
        ap (list_any (same_name c)) shared ∙ chosen c (list_any (same_name name) old.opened.keys)
        ∙ more_than_one (opener_count items c) (list_any (same_name name) old.opened.keys) (same_name c name) (known c)
        ∙ sym (ap (nat_lt 1) (count_next items i c (Some name) is))

-- an item that opens none
pub openers_same : (items : List ModuleItem) (i : ModuleItem) (openers : Openers) → opened_in i ≡ None → AreOpeners items openers → AreOpeners (items ++ i ∷ []) openers
openers_same items i openers is are = record {
  opened = λ c. are.opened c ∙ ap (nat_lt 0) (same c);
  shared = λ c. are.shared c ∙ ap (nat_lt 1) (same c);
}
  where
    same : (c : Name) → opener_count items c ≡ opener_count (items ++ i ∷ []) c
    same c = let more = count_next items i c None is in omega (arith, more)

-- two facts of a success
pub on_both : {X E A B C : Type 0} (r : Result X E) → OnOk r A → OnOk r B → (A → B → C) → OnOk r C
on_both (Ok x) a b f = f a b
on_both (Err e) a b f = tt
