-- In modules that the definitions do not refuse each module, procedure and cursor is found by its name,
-- each cursor is opened by exactly one procedure, and the parameters of a procedure have different names
-- and a domain each (ISO/IEC 9075:1992, 12.1 to 12.3 and 13.1).
use Rattle.std.proofs.Common.{◌≡◌, ℕ, zero, suc, ◌+◌, ◌<◌, Bool, true, false, cond, not, ◌||◌, List, [], ◌∷◌, length, map, take, Option, Some, None, refl, sym, ap, subst, ◌∙◌, arith, ltb-true, eqb-true}
use Rattle.std.proofs.lemmas.Bool.{lt-ltb, or_parts}
use Rattle.std.proofs.lemmas.Cmp.{nat_list_eq_equiv}
use Rattle.std.specs.List.{AllByRecursion, IsAmong, cons_option, enumerate_from, list_any, position_or_len}
use Rattle.std.specs.Option.{option_or}
use Rattle.std.specs.Prelude.{◌==◌, filter_map, find, if◌then◌else◌, nat_lt, option_map, position, slice_get, slice_index_or}
use Rattle.sq_lex.specs.declared.name.Name.{Name}
use Rattle.sq_tree.specs.declared.«module».Cursor.{Cursor}
use Rattle.sq_tree.specs.declared.«module».ModuleItem.{ModuleItem}
use Rattle.sq_tree.specs.declared.«module».ModuleItem.TheVariants as item
use Rattle.sq_tree.specs.declared.«module».ModuleText.{ModuleText}
use Rattle.sq_tree.specs.declared.«module».Procedure.{Procedure}
use Rattle.sq_meaning.specs.Environment.{same_name}
use Rattle.sq_meaning.specs.Module.{cursor_in, cursor_named, module_named, opener_count, parameter_declarations, procedure_in, procedure_named}
use Rattle.sq_meaning.specs.ModuleRefusal.{ModuleRefusal, at_item, cursor_name, first_module_refusal, first_repeated, has_bad_declared, has_bad_parameter, has_open_count, has_status_fault, module_refusal, modules_before, name_refusal, names_before, procedure_name}
use Rattle.sq_meaning.specs.declared.refusal.ModuleFault.{ModuleFault}
use Rattle.sq_meaning.specs.declared.refusal.ModuleFault.TheVariants as module_fault
use Rattle.sq_meaning.specs.Schema.{is_among}
use Rattle.sq_meaning.specs.Words.{first_some, is_some_and}
use Rattle.sq_change.proofs.Changes.RowsChanged.{all_unmapped}

-- ---- lists

-- what is among a list stands at a place
pub among_at : {A : Type 0} (xs : List A) (x : A) → IsAmong xs x → (i : ℕ) × (slice_get xs i ≡ Some x)
among_at {A} xs x h = (h.0, at xs h.0 h.1.0 ∙ ap Some (sym h.1.1))
  where
    at : (ys : List A) (i : ℕ) → i < length ys → slice_get ys i ≡ Some (slice_index_or ys i x)
    at [] i lt = absurd (omega (arith, lt))
    at (y ∷ ys) zero lt = refl
    at (y ∷ ys) (suc i) lt = at ys i (omega (arith, lt))

none_of_first : {A : Type 0} (os : List (Option A)) → first_some os ≡ None → AllByRecursion (λ o. o ≡ None) os
none_of_first [] e = tt
none_of_first {A} (o ∷ os) e = let parts = split o (first_some os) e in (parts.0, none_of_first os parts.1)
  where
    split : (a b : Option A) → option_or a b ≡ None → (a ≡ None) × (b ≡ None)
    split None b e = (refl, e)
    split (Some x) b e = cc

some_is_there : {A : Type 0} (x : A) → Some x ≡ None → ⊥
some_is_there x e = cc

-- what has no place passes nowhere
pub none_placed : {A : Type 0} (test : A → Bool) (xs : List A) → position test xs ≡ None → AllByRecursion (λ x. test x ≡ false) xs
none_placed test [] e = tt
none_placed {A} test (x ∷ xs) e = by_test (test x) refl (none_placed test xs) e
  where
    behind : (b : Bool) → nat_lt (position_or_len test xs) (length xs) ≡ b
        → cond (nat_lt (1 + position_or_len test xs) (suc (length xs))) (Some (1 + position_or_len test xs)) None ≡ None
        → cond b (Some (position_or_len test xs)) None ≡ None
    behind false is e = refl
    behind true is e =
        let before : position_or_len test xs < length xs = ltb-true (position_or_len test xs) (length xs) is in
        let further : nat_lt (1 + position_or_len test xs) (suc (length xs)) ≡ true = lt-ltb (1 + position_or_len test xs) (suc (length xs)) (omega (arith, before)) in
        let never : Some (1 + position_or_len test xs) ≡ None = sym (ap (λ b. cond b (Some (1 + position_or_len test xs)) None) further) ∙ e in cc

    by_test : (b : Bool) → test x ≡ b → (position test xs ≡ None → AllByRecursion (λ y. test y ≡ false) xs)
        → cond (nat_lt (cond (not b) (1 + position_or_len test xs) 0) (suc (length xs))) (Some (cond (not b) (1 + position_or_len test xs) 0)) None ≡ None
        → (test x ≡ false) × AllByRecursion (λ y. test y ≡ false) xs
    by_test true is others e =
        let there : nat_lt 0 (suc (length xs)) ≡ true = lt-ltb 0 (suc (length xs)) (omega arith) in
        absurd (some_is_there 0 (sym (ap (λ b. cond b (Some 0) None) there) ∙ e))
    by_test false is others e = (is, others (behind (nat_lt (position_or_len test xs) (length xs)) refl e))

-- what passes, and none before it, is found
pub found_at : {A : Type 0} (test : A → Bool) (xs : List A) (i : ℕ) (x : A) → slice_get xs i ≡ Some x → test x ≡ true
    → list_any test (take i xs) ≡ false → find test xs ≡ Some x
found_at test [] i x at is none = cc
found_at test (y ∷ xs) zero x at is none =
    let same : y ≡ x = cc in ap (λ b. cond b (Some y) (find test xs)) (ap test same ∙ is) ∙ ap Some same
found_at {A} test (y ∷ xs) (suc i) x at is none = by_test (test y) (found_at test xs i x at is) none
  where
    by_test : (b : Bool) → (list_any test (take i xs) ≡ false → find test xs ≡ Some x) → (b || list_any test (take i xs)) ≡ false
        → cond b (Some y) (find test xs) ≡ Some x
    by_test true others none = cc
    by_test false others none = others none

pub itself : (name : Name) → same_name name name ≡ true
itself name = nat_list_eq_equiv.refl name

pub never_both : (b : Bool) → b ≡ true → b ≡ false → ⊥
never_both b e f = cc

-- none of them has the name
none_among : {A : Type 0} (name_of : A → Name) (name : Name) (xs : List A) → is_among (map name_of xs) name ≡ false
    → list_any (λ x. same_name (name_of x) name) xs ≡ false
none_among name_of name [] e = refl
none_among name_of name (x ∷ xs) e =
    let parts = or_parts (same_name name (name_of x)) (is_among (map name_of xs) name) e in
    (λ i. (nat_list_eq_equiv.symm (name_of x) name ∙ parts.0) i || none_among name_of name xs parts.1 i)

pub mapped_before : {A B : Type 0} (f : A → B) (i : ℕ) (xs : List A) → take i (map f xs) ≡ map f (take i xs)
mapped_before f zero xs = refl
mapped_before f (suc i) [] = refl
mapped_before f (suc i) (x ∷ xs) = ap (λ l. f x ∷ l) (mapped_before f i xs)

-- among items that are some of them, the one is found that has the name first
found_among : {A : Type 0} (of : ModuleItem → Option A) (name_of : A → Name) (items : List ModuleItem) (i : ℕ) (x : ModuleItem) (a : A)
    → slice_get items i ≡ Some x → of x ≡ Some a
    → is_among (names_before (map (λ y. option_map name_of (of y)) items) i) (name_of a) ≡ false
    → find (λ b. same_name (name_of b) (name_of a)) (filter_map of items) ≡ Some a
found_among of name_of [] i x a at is none = cc
found_among of name_of (y ∷ items) zero x a at is none =
    let same : y ≡ x = cc in
    ap (λ o. find (λ b. same_name (name_of b) (name_of a)) (cons_option o (filter_map of items))) (ap of same ∙ is)
    ∙ ap (λ b. cond b (Some a) (find (λ c. same_name (name_of c) (name_of a)) (filter_map of items))) (itself (name_of a))
found_among {A} of name_of (y ∷ items) (suc i) x a at is none = by_item (of y) (found_among of name_of items i x a at is) none
  where
    by_item : (o : Option A)
        → (is_among (names_before (map (λ z. option_map name_of (of z)) items) i) (name_of a) ≡ false → find (λ b. same_name (name_of b) (name_of a)) (filter_map of items) ≡ Some a)
        → is_among (cons_option (option_map name_of o) (names_before (map (λ z. option_map name_of (of z)) items) i)) (name_of a) ≡ false
        → find (λ b. same_name (name_of b) (name_of a)) (cons_option o (filter_map of items)) ≡ Some a
    by_item None others none = others none
    by_item (Some b) others none =
        let parts = or_parts (same_name (name_of a) (name_of b)) (is_among (names_before (map (λ z. option_map name_of (of z)) items) i) (name_of a)) none in
        ap (λ t. cond t (Some b) (find (λ c. same_name (name_of c) (name_of a)) (filter_map of items))) (nat_list_eq_equiv.symm (name_of b) (name_of a) ∙ parts.0)
        ∙ others parts.1

-- The item at a place of a list that is numbered by places.
at_enumerated : {A : Type 0} (P : ℕ × A → Type 0) (k : ℕ) (xs : List A) → AllByRecursion P (enumerate_from k xs) → (i : ℕ) (x : A)
    → slice_get xs i ≡ Some x → P (k + i, x)
at_enumerated P k [] h i x e = cc
at_enumerated P k (y ∷ xs) h zero x e =
    let same : y ≡ x = cc in let here : k ≡ k + 0 = omega arith in subst (λ n. P (n, x)) here (subst (λ z. P (k, z)) same h.0)
at_enumerated P k (y ∷ xs) h (suc i) x e =
    let there : k + 1 + i ≡ k + suc i = omega arith in subst (λ n. P (n, x)) there (at_enumerated P (k + 1) xs h.1 i x e)

pub at_mapped : {A B : Type 0} (f : A → B) (xs : List A) (i : ℕ) (x : A) → slice_get xs i ≡ Some x → slice_get (map f xs) i ≡ Some (f x)
at_mapped f [] i x e = cc
at_mapped f (y ∷ xs) zero x e = let same : y ≡ x = cc in ap (λ z. Some (f z)) same
at_mapped f (y ∷ xs) (suc i) x e = at_mapped f xs i x e

pub each_of_all : {A : Type 0} (P : A → Type 0) (xs : List A) → AllByRecursion P xs → (i : ℕ) (x : A) → slice_get xs i ≡ Some x → P x
each_of_all P [] h i x at = cc
each_of_all P (y ∷ xs) h zero x at = let same : y ≡ x = cc in subst P same h.0
each_of_all P (y ∷ xs) h (suc i) x at = each_of_all P xs h.1 i x at

-- ---- the rules of a module

pub record IsAdmitted (modules : List ModuleText) (i : ℕ) (m : ModuleText) : Type 0 where
  pub new : is_among (modules_before modules i) m.name ≡ false
  pub procedures : AllByRecursion (λ n. is_some_and (is_among (names_before (map procedure_name m.items) n.0)) n.1 ≡ false) (enumerate_from 0 (map procedure_name m.items))
  pub cursors : AllByRecursion (λ n. is_some_and (is_among (names_before (map cursor_name m.items) n.0)) n.1 ≡ false) (enumerate_from 0 (map cursor_name m.items))
  pub opened : AllByRecursion (λ x. has_open_count m x ≡ false) m.items
  pub parameters : AllByRecursion (λ x. has_bad_parameter x ≡ false) m.items

none_at : (text : ℕ) (fault : ModuleFault) (o : Option ℕ) → at_item text fault o ≡ None → o ≡ None
none_at text fault None e = refl
none_at text fault (Some i) e = cc

is_new : (earlier : List Name) (text : ℕ) (m : ModuleText) → name_refusal earlier text m ≡ None → is_among earlier m.name ≡ false
is_new earlier text m e = by_test (is_among earlier m.name) e
  where
    by_test : (b : Bool) → (let refused : ModuleRefusal = record { text = text; item = None; fault = module_fault.TwoModules } in if b then Some refused else None) ≡ None → b ≡ false
    by_test true e = cc
    by_test false e = refl

admitted_by : (modules : List ModuleText) (i : ℕ) (m : ModuleText) → module_refusal (modules_before modules i) i m ≡ None → IsAdmitted modules i m
admitted_by modules i m e =
    let none = none_of_first (
    name_refusal (modules_before modules i) i m
    ∷ at_item i module_fault.TwoProcedures (first_repeated (map procedure_name m.items))
    ∷ at_item i module_fault.TwoCursors (first_repeated (map cursor_name m.items))
    ∷ at_item i module_fault.OpenCount (position (has_open_count m) m.items)
    ∷ at_item i module_fault.StatusParameter (position has_status_fault m.items)
    ∷ at_item i module_fault.BadParameter (position has_bad_parameter m.items) ∷ []) e in
    record {
      new = is_new (modules_before modules i) i m none.0;
      procedures =
          none_placed (λ n. is_some_and (is_among (names_before (map procedure_name m.items) n.0)) n.1) (enumerate_from 0 (map procedure_name m.items))
          (none_at i module_fault.TwoProcedures (first_repeated (map procedure_name m.items)) none.1.0);
      cursors =
          none_placed (λ n. is_some_and (is_among (names_before (map cursor_name m.items) n.0)) n.1) (enumerate_from 0 (map cursor_name m.items))
          (none_at i module_fault.TwoCursors (first_repeated (map cursor_name m.items)) none.1.1.0);
      opened = none_placed (has_open_count m) m.items (none_at i module_fault.OpenCount (position (has_open_count m) m.items) none.1.1.1.0);
      parameters = none_placed has_bad_parameter m.items (none_at i module_fault.BadParameter (position has_bad_parameter m.items) none.1.1.1.1.1.0);
    }

pub admitted_at : (modules : List ModuleText) → first_module_refusal modules ≡ None → (i : ℕ) (m : ModuleText) → slice_get modules i ≡ Some m
    → IsAdmitted modules i m
admitted_at modules e i m at =
    let none : 0 + i ≡ i = omega arith in
    let all = none_of_first (map (λ n. module_refusal (modules_before modules n.0) n.0 n.1) (enumerate_from 0 modules)) e in
    let here = at_enumerated (λ n. module_refusal (modules_before modules n.0) n.0 n.1 ≡ None) 0 modules
    (all_unmapped (λ o. o ≡ None) (λ n. module_refusal (modules_before modules n.0) n.0 n.1) (enumerate_from 0 modules) all) i m at in
    admitted_by modules i m (subst (λ n. module_refusal (modules_before modules n) n m ≡ None) none here)

-- ---- what is found

-- a module under its name
pub module_found : (modules : List ModuleText) → first_module_refusal modules ≡ None → (m : ModuleText) → IsAmong modules m
    → module_named modules m.name ≡ Some m
module_found modules e m among =
    let at = among_at modules m among in
    found_at (λ k. same_name k.name m.name) modules at.0 m at.1 (itself m.name)
    (none_among (λ k. k.name) m.name (take at.0 modules) (admitted_at modules e at.0 m at.1).new)

module _ (modules : List ModuleText) (e : first_module_refusal modules ≡ None) (m : ModuleText) (among : IsAmong modules m) where
  admitted : IsAdmitted modules (among_at modules m among).0 m
  admitted = admitted_at modules e (among_at modules m among).0 m (among_at modules m among).1

  -- The procedures and cursors of a module are found by their names.
  pub procedure_found : (p : Procedure) → IsAmong m.items (item.Procedure p) → procedure_named m p.name ≡ Some p
  procedure_found p h =
      let at = among_at m.items (item.Procedure p) h in
      let none : 0 + at.0 ≡ at.0 = omega arith in
      found_among procedure_in (λ q. q.name) m.items at.0 (item.Procedure p) p at.1 refl
      (subst (λ n. is_among (names_before (map procedure_name m.items) n) p.name ≡ false) none
      (at_enumerated (λ n. is_some_and (is_among (names_before (map procedure_name m.items) n.0)) n.1 ≡ false) 0 (map procedure_name m.items) admitted.procedures at.0 (Some p.name)
      (at_mapped procedure_name m.items at.0 (item.Procedure p) at.1)))

  pub cursor_found : (c : Cursor) → IsAmong m.items (item.Cursor c) → cursor_named m c.name ≡ Some c
  cursor_found c h =
      let at = among_at m.items (item.Cursor c) h in
      let none : 0 + at.0 ≡ at.0 = omega arith in
      found_among cursor_in (λ k. k.name) m.items at.0 (item.Cursor c) c at.1 refl
      (subst (λ n. is_among (names_before (map cursor_name m.items) n) c.name ≡ false) none
      (at_enumerated (λ n. is_some_and (is_among (names_before (map cursor_name m.items) n.0)) n.1 ≡ false) 0 (map cursor_name m.items) admitted.cursors at.0 (Some c.name)
      (at_mapped cursor_name m.items at.0 (item.Cursor c) at.1)))

  -- exactly one procedure opens each of its cursors
  pub opened_once : (c : Cursor) → IsAmong m.items (item.Cursor c) → opener_count m c.name ≡ 1
  opened_once c h =
      let at = among_at m.items (item.Cursor c) h in
      by_test (opener_count m c.name == 1) refl (each_of_all (λ x. has_open_count m x ≡ false) m.items admitted.opened at.0 (item.Cursor c) at.1)
    where
      by_test : (b : Bool) → (opener_count m c.name == 1) ≡ b → not b ≡ false → opener_count m c.name ≡ 1
      by_test true is e = eqb-true (opener_count m c.name) 1 is
      by_test false is e = cc

  -- the parameters of a procedure are good ones
  pub parameters_good : (p : Procedure) → IsAmong m.items (item.Procedure p) → has_bad_declared (parameter_declarations p) ≡ false
  parameters_good p h =
      let at = among_at m.items (item.Procedure p) h in
      each_of_all (λ x. has_bad_parameter x ≡ false) m.items admitted.parameters at.0 (item.Procedure p) at.1
