-- Cursors that differ in their modules or their names: each is added with the only procedure that opens it.
use Rattle.std.proofs.Common.{◌≡◌, ℕ, zero, suc, ◌+◌, ◌<◌, ◌≤◌, Bool, true, false, cond, not, ◌&&◌, ◌||◌, List, [], ◌∷◌, ◌++◌, Option, None, Some, IfSome, if◌then◌else◌, length, get_or, take, map, flat_map, refl, ap, ap₂, sym, subst, ◌∙◌, true≢false, append_assoc, arith}
use Rattle.std.proofs.lemmas.Bool.{eqb-true, not-false, or_parts}
use Rattle.std.proofs.lemmas.List.{append-nil, map-append, take_more}
use Rattle.std.proofs.lemmas.List.Folds.{list_any-append}
use Rattle.std.proofs.lemmas.List.Sums.{sum_by-append}
use Rattle.std.specs.Borrow.{Bor}
use Rattle.std.specs.List.{AllByRecursion, list_any}
use Rattle.std.specs.Map.{lookup}
use Rattle.std.specs.Prelude.{◌==◌, count_by}
use Rattle.sq_value.proofs.Truths.{or_true}
use Rattle.sq_lex.specs.declared.name.Name.{Name}
use Rattle.sq_tree.specs.declared.module.Cursor.{Cursor}
use Rattle.sq_tree.specs.declared.module.ModuleItem.{ModuleItem}
use Rattle.sq_tree.specs.declared.module.ModuleItem.TheVariants as item
use Rattle.sq_tree.specs.declared.statement.Statement.TheVariants as tree
use Rattle.sq_meaning.specs.Environment.{same_name}
use Rattle.sq_module.specs.Admitted.{AreAdmitted, OpensEachOnce, opened_of, opening_in, openings}
use Rattle.sq_bound.specs.WellFormed.{kinds_of_parameters}
use Rattle.sq_binding.proofs.Placing.SameParameters.{name_itself, names_equal}
use Rattle.sq_module.specs.Opened.{AreOfOthers, OpenedBy, is_in}
use Rattle.sq_module.specs.Refusal.{has_open_count, is_some_name, opened_by, opened_in, opener_count}
use Rattle.sq_module.specs.Written.{AreApart, IsCursorIn, is_cursor}
use Rattle.sq_module.specs.declared.admission.AdmittedModule.{AdmittedModule}
use Rattle.sq_module.specs.declared.admission.AdmittedProcedure.{AdmittedProcedure}
use Rattle.sq_module.specs.declared.program.DeclaredCursor.{DeclaredCursor}
use Rattle.sq_module.proofs.Fitting.{all_last}
use Rattle.sq_module.proofs.Opening.{HaveKinds}

-- a cursor of the module that a procedure opens is opened with no other parameters
abbrev pub IsOnlyOpener : AdmittedModule → List AdmittedProcedure → AdmittedProcedure → Type 0
IsOnlyOpener a procedures p = IfSome (opened_of p)
    (λ name. IfSome (lookup (same_name name) a.cursors.entries)
    (λ c. HaveKinds name (kinds_of_parameters p.parameters) procedures))

-- the cursor of this name in the module is not there
abbrev pub IsNew : Name → List DeclaredCursor → Name → Type 0
IsNew «module» cursors name = list_any (is_cursor «module» name) cursors ≡ false

-- the cursor that a procedure opens is not there, if the module has one of that name
abbrev pub OpensNew : AdmittedModule → List DeclaredCursor → AdmittedProcedure → Type 0
OpensNew a cursors p =
    IfSome (opened_of p) (λ name. IfSome (lookup (same_name name) a.cursors.entries)
    (λ c. IsNew a.name cursors name))

-- ---- names and tests

-- ---- cursors

apart_last : (before cursors : List DeclaredCursor) (d : DeclaredCursor) → AreApart before cursors → list_any (is_cursor d.«module» d.name) (before ++ cursors) ≡ false → AreApart before (cursors ++ d ∷ [])
apart_last before [] d are one = (rw (append-nil before) at one, tt)
apart_last before (c ∷ cursors) d are one = (are.0, apart_last (before ++ c ∷ []) cursors d are.1 (rw (← append_assoc before (c ∷ []) cursors) at one))

pub apart_next : (cursors new : List DeclaredCursor) («module» name : Name) (d : DeclaredCursor) → new ≡ cursors ++ d ∷ [] → d.«module» ≡ «module» → d.name ≡ name → IsNew «module» cursors name
    → AreApart [] cursors → AreApart [] new
apart_next cursors new «module» name d is of_module of_name one are =
    let none : list_any (is_cursor d.«module» d.name) cursors ≡ false = ap₂ (λ (m n : Name). list_any (is_cursor m n) cursors) of_module of_name ∙ one in
    subst (AreApart []) (sym is) (apart_last [] cursors d are none)

pub others_next : (n : Name) (cursors new : List DeclaredCursor) («module» : Name) (d : DeclaredCursor) → new ≡ cursors ++ d ∷ [] → d.«module» ≡ «module» → same_name n «module» ≡ false → AreOfOthers n cursors → AreOfOthers n new
others_next n cursors new «module» d is of_module other are =
    let last : is_in n d ≡ false = ap (same_name n) of_module ∙ other in
    ap (list_any (is_in n)) is ∙ list_any-append (is_in n) cursors (d ∷ []) ∙ ap₂ (λ a b. a || (b || false)) are last

-- ---- the procedures that open them

pub opened_by_next : (n : Name) (procedures : List AdmittedProcedure) (cursors new : List DeclaredCursor) (name : Name) (d : DeclaredCursor) → new ≡ cursors ++ d ∷ [] → d.name ≡ name
    → list_any (is_some_name name) (openings procedures) ≡ true → OpenedBy n procedures cursors → OpenedBy n procedures new
opened_by_next n procedures cursors new name d is of_name some all =
    let one : list_any (is_some_name d.name) (openings procedures) ≡ true = ap (λ (x : Name). list_any (is_some_name x) (openings procedures)) of_name ∙ some in
    subst (OpenedBy n procedures) (sym is) (all_last (λ c. is_in n c ≡ true → list_any (is_some_name c.name) (openings procedures) ≡ true) cursors d all (λ _. one))

-- one procedure more
pub opened_by_more : (n : Name) (before : List AdmittedProcedure) (p : AdmittedProcedure) (cursors : List DeclaredCursor) → OpenedBy n before cursors → OpenedBy n (before ++ p ∷ []) cursors
opened_by_more n before p [] all = tt
opened_by_more n before p (c ∷ cursors) all = ((λ own. wide (all.0 own)), opened_by_more n before p cursors all.1)
  where
    wide : list_any (is_some_name c.name) (openings before) ≡ true → list_any (is_some_name c.name) (openings (before ++ p ∷ [])) ≡ true
    wide some =
        ap (list_any (is_some_name c.name)) (map-append opened_of before (p ∷ [])) ∙ list_any-append (is_some_name c.name) (openings before) (openings (p ∷ []))
        ∙ ap (λ b. b || list_any (is_some_name c.name) (openings (p ∷ []))) some

-- the last procedure opens it
pub opens_last : (before : List AdmittedProcedure) (p : AdmittedProcedure) (name : Name) → opened_of p ≡ Some name → list_any (is_some_name name) (openings (before ++ p ∷ [])) ≡ true
opens_last before p name is =
    let one : is_some_name name (opened_of p) ≡ true = ap (is_some_name name) is ∙ name_itself name in
    ap (list_any (is_some_name name)) (map-append opened_of before (p ∷ [])) ∙ list_any-append (is_some_name name) (openings before) (openings (p ∷ []))
    ∙ ap (λ b. list_any (is_some_name name) (openings before) || (b || false)) one ∙ or_true (list_any (is_some_name name) (openings before))

pub opened_by_turn : (n : Name) (procedures : List AdmittedProcedure) (i : ℕ) (p : AdmittedProcedure) (cursors : List DeclaredCursor) → i < length procedures → p ≡ get_or procedures i p
    → OpenedBy n (take i procedures ++ p ∷ []) cursors → OpenedBy n (take (i + 1) procedures) cursors
opened_by_turn n procedures i p cursors lt is all =
    subst (λ ps. OpenedBy n ps cursors) (ap (λ q. take i procedures ++ q ∷ []) is ∙ sym (take_more procedures i p lt)) all

-- where no cursor is of the module
pub opened_by_none : (n : Name) (cursors : List DeclaredCursor) → AreOfOthers n cursors → OpenedBy n [] cursors
opened_by_none n [] none = tt
opened_by_none n (c ∷ cursors) none =
    let both = or_parts (is_in n c) (list_any (is_in n) cursors) none in
    ((λ own. absurd (true≢false (sym own ∙ both.0))), opened_by_none n cursors both.1)

-- a cursor that none of these procedures opens isn't there
not_there : (n name : Name) (procedures : List AdmittedProcedure) (cursors : List DeclaredCursor) → list_any (is_some_name name) (openings procedures) ≡ false → OpenedBy n procedures cursors → IsNew n cursors name
not_there n name procedures [] none all = refl
not_there n name procedures (c ∷ cursors) none all = by (is_in n c) (same_name name c.name) refl refl (not_there n name procedures cursors none all.1)
  where
    by : (a b : Bool) → is_in n c ≡ a → same_name name c.name ≡ b → IsNew n cursors name → IsNew n (c ∷ cursors) name
    by true true own same rest =
        let some : list_any (is_some_name name) (openings procedures) ≡ true = subst (λ (x : Name). list_any (is_some_name x) (openings procedures) ≡ true) (sym (names_equal name c.name same)) (all.0 own) in
        absurd (true≢false (sym some ∙ none))
    by true false own same rest = ap₂ (λ a b. (a && b) || list_any (is_cursor n name) cursors) own same ∙ rest
    by false b own same rest = ap (λ a. (a && same_name name c.name) || list_any (is_cursor n name) cursors) own ∙ rest

-- ---- each is opened once

pub count_cons : {X : Type 0} (p : X → Bool) (y : X) (ys : List X) → count_by p (y ∷ ys) ≡ cond (p y) 1 0 + count_by p ys
count_cons p y ys = let more = sum_by-append (λ x. cond (p x) 1 0) (y ∷ []) ys in omega (arith, more)

pub count_some : {X : Type 0} (p : X → Bool) (xs : List X) (i : ℕ) (x : X) → i < length xs → x ≡ get_or xs i x → p x ≡ true → 1 ≤ count_by p xs
count_some p [] i x lt is passes = let no : ⊥ = omega (arith, lt) in absurd no
count_some p (y ∷ ys) zero x lt is passes =
    let one : ◌≡◌ {A = ℕ} (cond (p y) 1 0) 1 = ap (λ b. cond b 1 0) (ap p (sym is) ∙ passes) in
    let more = count_cons p y ys in omega (arith, one, more)
count_some p (y ∷ ys) (suc i) x lt is passes =
    let rest : 1 ≤ count_by p ys = count_some p ys i x (omega (arith, lt)) is passes in
    let more = count_cons p y ys in omega (arith, rest, more)

pub none_before : {X : Type 0} (p : X → Bool) (xs : List X) (i : ℕ) (x : X) → i < length xs → x ≡ get_or xs i x → p x ≡ true → count_by p xs ≡ 1 → list_any p (take i xs) ≡ false
none_before p [] i x lt is passes once = let no : ⊥ = omega (arith, lt) in absurd no
none_before p (y ∷ ys) zero x lt is passes once = refl
none_before p (y ∷ ys) (suc i) x lt is passes once =
    let rest : 1 ≤ count_by p ys = count_some p ys i x (omega (arith, lt)) is passes in
    by (p y) refl rest (count_cons p y ys) (λ left. none_before p ys i x (omega (arith, lt)) is passes left)
  where
    by : (b : Bool) → p y ≡ b → 1 ≤ count_by p ys → count_by p (y ∷ ys) ≡ cond (p y) 1 0 + count_by p ys → (count_by p ys ≡ 1 → list_any p (take i ys) ≡ false)
        → list_any p (take (suc i) (y ∷ ys)) ≡ false
    by true h rest more before =
        let one : ◌≡◌ {A = ℕ} (cond (p y) 1 0) 1 = ap (λ b. cond b 1 0) h in
        let no : ⊥ = omega (arith, one, rest, more, once) in absurd no
    by false h rest more before =
        let zero_here : ◌≡◌ {A = ℕ} (cond (p y) 1 0) 0 = ap (λ b. cond b 1 0) h in
        let left : count_by p ys ≡ 1 = omega (arith, zero_here, more, once) in
        ap (λ b. b || list_any p (take i ys)) h ∙ before left

pub none_counted : {X : Type 0} (p : X → Bool) (xs : List X) → count_by p xs ≡ 0 → list_any p xs ≡ false
none_counted p [] none = refl
none_counted p (y ∷ ys) none = by (p y) refl (count_cons p y ys) (λ left. none_counted p ys left)
  where
    by : (b : Bool) → p y ≡ b → count_by p (y ∷ ys) ≡ cond (p y) 1 0 + count_by p ys → (count_by p ys ≡ 0 → list_any p ys ≡ false) → list_any p (y ∷ ys) ≡ false
    by true h more rest = let one : ◌≡◌ {A = ℕ} (cond (p y) 1 0) 1 = ap (λ b. cond b 1 0) h in let no : ⊥ = omega (arith, one, more, none) in absurd no
    by false h more rest =
        let zero_here : ◌≡◌ {A = ℕ} (cond (p y) 1 0) 0 = ap (λ b. cond b 1 0) h in
        let left : count_by p ys ≡ 0 = omega (arith, zero_here, more, none) in ap (λ b. b || list_any p ys) h ∙ rest left

none_pass : {X : Type 0} (p : X → Bool) (x : X) (xs : List X) → list_any p xs ≡ false → AllByRecursion (λ y. p y ≡ true → y ≡ x) xs
none_pass p x [] none = tt
none_pass p x (y ∷ ys) none = let both = or_parts (p y) (list_any p ys) none in ((λ passes. absurd (true≢false (sym passes ∙ both.0))), none_pass p x ys both.1)

-- where one passes, and it is this one, no other does
pub only_passes : {X : Type 0} (p : X → Bool) (xs : List X) (i : ℕ) (x : X) → i < length xs → x ≡ get_or xs i x → p x ≡ true → count_by p xs ≡ 1 → AllByRecursion (λ y. p y ≡ true → y ≡ x) xs
only_passes p [] i x lt is passes once = let no : ⊥ = omega (arith, lt) in absurd no
only_passes p (y ∷ ys) zero x lt is passes once =
    let more = count_cons p y ys in
    let one : ◌≡◌ {A = ℕ} (cond (p y) 1 0) 1 = ap (λ b. cond b 1 0) (ap p (sym is) ∙ passes) in
    let left : count_by p ys ≡ 0 = omega (arith, one, more, once) in
    ((λ _. sym is), none_pass p x ys (none_counted p ys left))
only_passes p (y ∷ ys) (suc i) x lt is passes once =
    let rest : 1 ≤ count_by p ys = count_some p ys i x (omega (arith, lt)) is passes in
    by (p y) refl rest (count_cons p y ys) (λ left. only_passes p ys i x (omega (arith, lt)) is passes left)
  where
    by : (b : Bool) → p y ≡ b → 1 ≤ count_by p ys → count_by p (y ∷ ys) ≡ cond (p y) 1 0 + count_by p ys → (count_by p ys ≡ 1 → AllByRecursion (λ z. p z ≡ true → z ≡ x) ys)
        → (p y ≡ true → y ≡ x) × AllByRecursion (λ z. p z ≡ true → z ≡ x) ys
    by true h rest more others =
        let one : ◌≡◌ {A = ℕ} (cond (p y) 1 0) 1 = ap (λ b. cond b 1 0) h in
        let no : ⊥ = omega (arith, one, rest, more, once) in absurd no
    by false h rest more others =
        let zero_here : ◌≡◌ {A = ℕ} (cond (p y) 1 0) 0 = ap (λ b. cond b 1 0) h in
        let left : count_by p ys ≡ 1 = omega (arith, zero_here, more, once) in ((λ passes. absurd (true≢false (sym passes ∙ h))), others left)

pub counted_any : {X : Type 0} (p : X → Bool) (xs : List X) → count_by p xs ≡ 1 → list_any p xs ≡ true
counted_any {X} p xs once = by (list_any p xs) refl
  where
    counted_none : (ys : List X) → list_any p ys ≡ false → count_by p ys ≡ 0
    counted_none [] none = refl
    counted_none (y ∷ ys) none =
        let both = or_parts (p y) (list_any p ys) none in
        let more = count_cons p y ys in
        let zero_here : ◌≡◌ {A = ℕ} (cond (p y) 1 0) 0 = ap (λ b. cond b 1 0) both.0 in
        let rest : count_by p ys ≡ 0 = counted_none ys both.1 in omega (arith, zero_here, more, rest)

    by : (b : Bool) → list_any p xs ≡ b → list_any p xs ≡ true
    by true some = some
    by false none = let zero_all : count_by p xs ≡ 0 = counted_none xs none in let no : ⊥ = omega (arith, zero_all, once) in absurd no

pub count_mapped : {X Y : Type 0} (f : X → Y) (p : Y → Bool) (xs : List X) → count_by p (map f xs) ≡ count_by (λ x. p (f x)) xs
count_mapped f p [] = refl
count_mapped f p (x ∷ xs) =
    let first = count_cons p (f x) (map f xs) in
    let second = count_cons (λ y. p (f y)) x xs in
    let rest = count_mapped f p xs in omega (arith, first, second, rest)

pub any_mapped : {X Y : Type 0} (f : X → Y) (p : Y → Bool) (xs : List X) → list_any p (map f xs) ≡ list_any (λ x. p (f x)) xs
any_mapped f p [] = refl
any_mapped f p (x ∷ xs) = ap (λ b. p (f x) || b) (any_mapped f p xs)

-- the entry under a name
pub once_found : {V : Type 0} (procedures : List AdmittedProcedure) (entries : List (Name × V)) (name : Name) (v : V) → AllByRecursion (λ e. count_by (is_some_name e.0) (openings procedures) ≡ 1) entries
    → lookup (same_name name) entries ≡ Some v → count_by (is_some_name name) (openings procedures) ≡ 1
once_found procedures [] name v all is = cc
once_found procedures (e ∷ es) name v all is = by (same_name name e.0) refl is (λ found. once_found procedures es name v all.1 found)
  where
    by : (b : Bool) → same_name name e.0 ≡ b → (if b then Some e.1 else lookup (same_name name) es) ≡ Some v
        → (lookup (same_name name) es ≡ Some v → count_by (is_some_name name) (openings procedures) ≡ 1) → count_by (is_some_name name) (openings procedures) ≡ 1
    by true same found rest = subst (λ (x : Name). count_by (is_some_name x) (openings procedures) ≡ 1) (sym (names_equal name e.0 same)) all.0
    by false same found rest = rest found

-- the cursor that the next procedure opens isn't there
pub opens_new : (a : AdmittedModule) (i : ℕ) (p : AdmittedProcedure) (cursors : List DeclaredCursor) → i < length a.procedures.items → p ≡ get_or a.procedures.items i p → OpensEachOnce a
    → OpenedBy a.name (take i a.procedures.items) cursors → OpensNew a cursors p
opens_new a i p cursors lt is once all = by (opened_of p) refl
  where
    ps : List AdmittedProcedure
    ps = a.procedures.items

    found : (name : Name) → opened_of p ≡ Some name → (r : Option (Bor Cursor)) → lookup (same_name name) a.cursors.entries ≡ r → IfSome r (λ c. IsNew a.name cursors name)
    found name opens None there = tt
    found name opens (Some c) there =
        let count : count_by (λ q. is_some_name name (opened_of q)) ps ≡ 1 = sym (count_mapped opened_of (is_some_name name) ps) ∙ once_found ps a.cursors.entries name c once there in
        let own : is_some_name name (opened_of p) ≡ true = ap (is_some_name name) opens ∙ name_itself name in
        let none : list_any (is_some_name name) (openings (take i ps)) ≡ false = any_mapped opened_of (is_some_name name) (take i ps) ∙ none_before (λ q. is_some_name name (opened_of q)) ps i p lt is own count in
        not_there a.name name (take i ps) cursors none all

    by : (o : Option Name) → opened_of p ≡ o → IfSome o (λ name. IfSome (lookup (same_name name) a.cursors.entries) (λ c. IsNew a.name cursors name))
    by None opens = tt
    by (Some name) opens = found name opens (lookup (same_name name) a.cursors.entries) refl

-- a cursor of the module that a procedure opens is opened with no other parameters
pub only_opener : (a : AdmittedModule) (i : ℕ) (p : AdmittedProcedure) → i < length a.procedures.items → p ≡ get_or a.procedures.items i p → OpensEachOnce a → IsOnlyOpener a a.procedures.items p
only_opener a i p lt is once = by (opened_of p) refl
  where
    ps : List AdmittedProcedure
    ps = a.procedures.items

    same_kinds : (name : Name) (qs : List AdmittedProcedure) → AllByRecursion (λ q. is_some_name name (opened_of q) ≡ true → q ≡ p) qs → HaveKinds name (kinds_of_parameters p.parameters) qs
    same_kinds name [] all = tt
    same_kinds name (q ∷ qs) all = ((λ opens. ap (λ (x : AdmittedProcedure). kinds_of_parameters x.parameters) (all.0 opens)), same_kinds name qs all.1)

    found : (name : Name) → opened_of p ≡ Some name → (r : Option (Bor Cursor)) → lookup (same_name name) a.cursors.entries ≡ r → IfSome r (λ c. HaveKinds name (kinds_of_parameters p.parameters) ps)
    found name opens None there = tt
    found name opens (Some c) there =
        let count : count_by (λ q. is_some_name name (opened_of q)) ps ≡ 1 = sym (count_mapped opened_of (is_some_name name) ps) ∙ once_found ps a.cursors.entries name c once there in
        same_kinds name ps (only_passes (λ q. is_some_name name (opened_of q)) ps i p lt is (ap (is_some_name name) opens ∙ name_itself name) count)

    by : (o : Option Name) → opened_of p ≡ o → IfSome o (λ name. IfSome (lookup (same_name name) a.cursors.entries) (λ c. HaveKinds name (kinds_of_parameters p.parameters) ps))
    by None opens = tt
    by (Some name) opens = found name opens (lookup (same_name name) a.cursors.entries) refl

pub kinds_found : (a : AdmittedModule) (ps : List AdmittedProcedure) (p : AdmittedProcedure) (name : Name) (c : Bor Cursor) → p.procedure.now.statement ≡ tree.Open name
    → lookup (same_name name) a.cursors.entries ≡ Some c → IsOnlyOpener a ps p → HaveKinds name (kinds_of_parameters p.parameters) ps
kinds_found a ps p name c opens found h =
    let named : IfSome (lookup (same_name name) a.cursors.entries) (λ b. HaveKinds name (kinds_of_parameters p.parameters) ps)
    = subst (λ (o : Option Name). IfSome o (λ n. IfSome (lookup (same_name n) a.cursors.entries) (λ b. HaveKinds n (kinds_of_parameters p.parameters) ps))) (ap opened_by opens) h in
    subst (λ (o : Option (Bor Cursor)). IfSome o (λ b. HaveKinds name (kinds_of_parameters p.parameters) ps)) found named

pub new_found : (a : AdmittedModule) (cursors : List DeclaredCursor) (p : AdmittedProcedure) (name : Name) (c : Bor Cursor) → p.procedure.now.statement ≡ tree.Open name
    → lookup (same_name name) a.cursors.entries ≡ Some c → OpensNew a cursors p → IsNew a.name cursors name
new_found a cursors p name c opens found h =
    let named : IfSome (lookup (same_name name) a.cursors.entries) (λ b. IsNew a.name cursors name)
    = subst (λ (o : Option Name). IfSome o (λ n. IfSome (lookup (same_name n) a.cursors.entries) (λ b. IsNew a.name cursors n))) (ap opened_by opens) h in
    subst (λ (o : Option (Bor Cursor)). IfSome o (λ b. IsNew a.name cursors name)) found named

-- ---- what is admitted

count_opened : (items : List ModuleItem) (name : Name) → count_by (is_some_name name) (flat_map opening_in items) ≡ opener_count items name
count_opened [] name = refl
count_opened (item.Procedure p ∷ items) name =
    let first = count_cons (is_some_name name) (opened_by p.statement) (flat_map opening_in items) in
    let second = count_cons (λ (i : ModuleItem). is_some_name name (opened_in i)) (item.Procedure p) items in
    let rest = count_opened items name in omega (arith, first, second, rest)
count_opened (item.Cursor c ∷ items) name =
    let second = count_cons (λ (i : ModuleItem). is_some_name name (opened_in i)) (item.Cursor c) items in
    let rest = count_opened items name in omega (arith, second, rest)

none_among : {X : Type 0} (p : X → Bool) (xs : List X) (i : ℕ) (x : X) → i < length xs → x ≡ get_or xs i x → list_any p xs ≡ false → p x ≡ false
none_among p [] i x lt is none = let no : ⊥ = omega (arith, lt) in absurd no
none_among p (y ∷ ys) zero x lt is none = ap p is ∙ (or_parts (p y) (list_any p ys) none).0
none_among p (y ∷ ys) (suc i) x lt is none = none_among p ys i x (omega (arith, lt)) is (or_parts (p y) (list_any p ys) none).1

pub admitted_once : (items : List ModuleItem) (procedures : List AdmittedProcedure) (cursors : List (Name × Bor Cursor)) → openings procedures ≡ flat_map opening_in items
    → list_any (has_open_count items) items ≡ false → AllByRecursion (IsCursorIn items) cursors → AllByRecursion (λ e. count_by (is_some_name e.0) (openings procedures) ≡ 1) cursors
admitted_once items procedures [] are none all = tt
admitted_once items procedures (e ∷ es) are none all =
    let among = all.0.0 in
    let counted : not (opener_count items e.1.now.name == 1) ≡ false = none_among (has_open_count items) items among.0 (item.Cursor e.1.now) among.1.0 among.1.1 none in
    let one : opener_count items e.1.now.name ≡ 1 = eqb-true (opener_count items e.1.now.name) 1 (not-false (opener_count items e.1.now.name == 1) counted) in (
      ap (count_by (is_some_name e.0)) are ∙ count_opened items e.0 ∙ ap (opener_count items) all.0.1 ∙ one,
      admitted_once items procedures es are none all.1,
    )

admitted_last : (before : List Name) (modules : List AdmittedModule) (a : AdmittedModule) → AreAdmitted before modules → list_any (same_name a.name) (before ++ map (λ x. x.name) modules) ≡ false
    → OpensEachOnce a → AreAdmitted before (modules ++ a ∷ [])
admitted_last before [] a are one own = (rw (append-nil before) at one, own, tt)
admitted_last before (x ∷ modules) a are one own =
    (are.0, are.1, admitted_last (before ++ x.name ∷ []) modules a are.2 (rw (← append_assoc before (x.name ∷ []) (map (λ y. y.name) modules)) at one) own)

-- one module more
pub admitted_next : (admitted new : List AdmittedModule) (a : AdmittedModule) (name : Name) (keys more : List Name) → new ≡ admitted ++ a ∷ [] → a.name ≡ name → OpensEachOnce a
    → keys ≡ map (λ x. x.name) admitted → list_any (same_name name) keys ≡ false → more ≡ keys ++ name ∷ [] → AreAdmitted [] admitted
    → (more ≡ map (λ x. x.name) new) × AreAdmitted [] new
admitted_next admitted new a name keys more is named once are none last all =
    let own : list_any (same_name a.name) (map (λ x. x.name) admitted) ≡ false = ap₂ (λ (n : Name) (l : List Name). list_any (same_name n) l) named (sym are) ∙ none in (
      last ∙ ap₂ (λ l n. l ++ n ∷ []) are (sym named) ∙ sym (map-append (λ x. x.name) admitted (a ∷ [])) ∙ sym (ap (map (λ x. x.name)) is),
      subst (AreAdmitted []) (sym is) (admitted_last [] admitted a all own once),
    )

-- ---- modules, one after the other

-- the module at a place has a name that those before it don't have, and one procedure opens each of its cursors
pub admitted_at : (before : List Name) (modules : List AdmittedModule) (i : ℕ) (a : AdmittedModule) → AreAdmitted before modules → i < length modules → a ≡ get_or modules i a
    → (list_any (same_name a.name) (before ++ map (λ x. x.name) (take i modules)) ≡ false) × OpensEachOnce a
admitted_at before [] i a are lt is = let no : ⊥ = omega (arith, lt) in absurd no
admitted_at before (x ∷ modules) zero a are lt is =
    let name : a.name ≡ x.name = ap (λ (y : AdmittedModule). y.name) is in
    (ap₂ (λ (n : Name) (l : List Name). list_any (same_name n) l) name (append-nil before) ∙ are.0, subst OpensEachOnce (sym is) are.1)
admitted_at before (x ∷ modules) (suc i) a are lt is =
    let rest = admitted_at (before ++ x.name ∷ []) modules i a are.2 (omega (arith, lt)) is in
    (ap (list_any (same_name a.name)) (sym (append_assoc before (x.name ∷ []) (map (λ y. y.name) (take i modules)))) ∙ rest.0, rest.1)

-- cursors are of the modules so far alone
abbrev pub AreOfSome : List Name → List DeclaredCursor → Type 0
AreOfSome names cursors = (n : Name) → list_any (same_name n) names ≡ false → AreOfOthers n cursors

pub some_next : (modules : List AdmittedModule) (i : ℕ) (a : AdmittedModule) (cursors new : List DeclaredCursor) → i < length modules → a ≡ get_or modules i a
    → ((n : Name) → same_name n a.name ≡ false → AreOfOthers n cursors → AreOfOthers n new) → AreOfSome (map (λ x. x.name) (take i modules)) cursors
    → AreOfSome (map (λ x. x.name) (take (i + 1) modules)) new
some_next modules i a cursors new lt is others of n none =
    let more : take (i + 1) modules ≡ take i modules ++ a ∷ [] = take_more modules i a lt ∙ ap (λ x. take i modules ++ x ∷ []) (sym is) in
    let split : (list_any (same_name n) (map (λ x. x.name) (take i modules)) || (same_name n a.name || false)) ≡ false =
    sym (list_any-append (same_name n) (map (λ x. x.name) (take i modules)) (a.name ∷ [])) ∙ sym (ap (list_any (same_name n)) (map-append (λ x. x.name) (take i modules) (a ∷ [])))
    ∙ sym (ap (λ l. list_any (same_name n) (map (λ x. x.name) l)) more) ∙ none in
    let both = or_parts (list_any (same_name n) (map (λ x. x.name) (take i modules))) (same_name n a.name || false) split in
    others n (or_parts (same_name n a.name) false both.1).0 (of n both.0)
