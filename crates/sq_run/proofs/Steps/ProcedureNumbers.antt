-- The number of a procedure in a session is its place in the order of the texts (ISO/IEC 9075:1992, 12.1 to 12.3).
use Rattle.std.proofs.Common.{◌≡◌, ◌⊎◌, ℕ, zero, suc, ◌+◌, ◌<◌, cond, not, ◌&&◌, Bool, true, List, [], ◌∷◌, ◌++◌, length, map, Some, None, refl, sym, ap, subst, inl, inr, ◌∙◌, arith}
use Rattle.std.proofs.lemmas.List.{map-append}
use Rattle.std.specs.List.{IsAmong, position_or_len}
use Rattle.std.specs.Prelude.{filter_map, flat_map, position, slice_get, nat_lt}
use Rattle.sq_lex.specs.declared.name.Name.{Name}
use Rattle.sq_tree.specs.declared.«module».ModuleItem.{ModuleItem}
use Rattle.sq_tree.specs.declared.«module».ModuleItem.TheVariants as item
use Rattle.sq_tree.specs.declared.«module».ModuleText.{ModuleText}
use Rattle.sq_tree.specs.declared.«module».Procedure.{Procedure}
use Rattle.sq_meaning.specs.Environment.{same_name}
use Rattle.sq_meaning.specs.Module.{procedure_in, procedures}
use Rattle.sq_module.specs.Program as program
use Rattle.sq_module.specs.Program.{declared_procedures, module_procedures}
use Rattle.sq_module.specs.declared.program.ProcedureName.{ProcedureName}
use Rattle.sq_session.specs.Kind.{Procedure as SessionProcedure}
use Rattle.sq_session.specs.Session.{is_procedure, name_of, names_of, procedure_number}
use Rattle.sq_run.specs.Processor.{is_called, with_module}
use Rattle.sq_run.proofs.Steps.Agrees.{unmapped_at}
use Rattle.sq_run.proofs.Steps.Found.{at_mapped, itself}

-- ---- places in mapped lists

or_len_mapped : {A B : Type 0} (f : A → B) (test : B → Bool) (xs : List A) → position_or_len test (map f xs) ≡ position_or_len (λ x. test (f x)) xs
or_len_mapped f test [] = refl
or_len_mapped f test (x ∷ xs) = ap (λ n. cond (not (test (f x))) (1 + n) 0) (or_len_mapped f test xs)

length_mapped : {A B : Type 0} (f : A → B) (xs : List A) → length (map f xs) ≡ length xs
length_mapped f [] = refl
length_mapped f (x ∷ xs) = ap suc (length_mapped f xs)

pub position_mapped : {A B : Type 0} (f : A → B) (test : B → Bool) (xs : List A) → position test (map f xs) ≡ position (λ x. test (f x)) xs
position_mapped f test xs =
    (λ i. cond (nat_lt (or_len_mapped f test xs i) (length_mapped f xs i)) (Some (or_len_mapped f test xs i)) None)

-- ---- the names of all procedures

abbrev named : ModuleText × Procedure → ProcedureName
named e = record { «module» = e.0.name; name = e.1.name }

names_in : (m : ModuleText) (items : List ModuleItem)
    → flat_map (program.procedure_in m.name) items ≡ map named (map (λ p. (m, p)) (filter_map procedure_in items))
names_in m [] = refl
names_in m (item.Cursor c ∷ items) = names_in m items
names_in m (item.Procedure p ∷ items) = ap (λ l. record { «module» = m.name; name = p.name } ∷ l) (names_in m items)

pub names_declared : (modules : List ModuleText) → declared_procedures modules ≡ map named (flat_map with_module modules)
names_declared [] = refl
names_declared (m ∷ modules) =
    (λ i. names_in m m.items i ++ names_declared modules i) ∙ sym (map-append named (with_module m) (flat_map with_module modules))

-- ---- what stands at a number

-- the module and the procedure are of the texts
pub record IsOf (modules : List ModuleText) (e : ModuleText × Procedure) : Type 0 where
  pub among : IsAmong modules e.0
  pub is_item : IsAmong e.0.items (item.Procedure e.1)

first_among : {A : Type 0} (x : A) (xs : List A) → IsAmong (x ∷ xs) x
first_among x xs = (0, (omega arith, refl))

later_among : {A : Type 0} (y x : A) (xs : List A) → IsAmong xs x → IsAmong (y ∷ xs) x
later_among y x xs h = let within : h.0 < length xs = h.1.0 in (suc h.0, (omega (arith, within), h.1.1))

is_item : (items : List ModuleItem) (n : ℕ) (p : Procedure) → slice_get (filter_map procedure_in items) n ≡ Some p → IsAmong items (item.Procedure p)
is_item [] n p at = cc
is_item (item.Cursor c ∷ items) n p at = later_among (item.Cursor c) (item.Procedure p) items (is_item items n p at)
is_item (item.Procedure q ∷ items) zero p at =
    let same : q ≡ p = cc in subst (λ r. IsAmong (item.Procedure q ∷ items) (item.Procedure r)) same (first_among (item.Procedure q) items)
is_item (item.Procedure q ∷ items) (suc n) p at = later_among (item.Procedure q) (item.Procedure p) items (is_item items n p at)

either : {A : Type 0} (xs ys : List A) (n : ℕ) (x : A) → slice_get (xs ++ ys) n ≡ Some x
    → (slice_get xs n ≡ Some x) ⊎ ((k : ℕ) × (slice_get ys k ≡ Some x))
either [] ys n x at = inr (n, at)
either (y ∷ xs) ys zero x at = inl at
either (y ∷ xs) ys (suc n) x at = either xs ys n x at

of_module : (modules : List ModuleText) (m : ModuleText) (e : ModuleText × Procedure) (n : ℕ) → slice_get (with_module m) n ≡ Some e → IsOf (m ∷ modules) e
of_module modules m e n at =
    let found = unmapped_at (λ p. (m, p)) (procedures m) n e at in
    subst (IsOf (m ∷ modules)) found.2
    (record { among = first_among m modules; is_item = is_item m.items n found.0 found.1 })

of_later : (modules : List ModuleText) (m : ModuleText) (e : ModuleText × Procedure) → IsOf modules e → IsOf (m ∷ modules) e
of_later modules m e h = record { among = later_among m e.0 modules h.among; is_item = h.is_item }

pub stands_at : (modules : List ModuleText) (n : ℕ) (e : ModuleText × Procedure) → slice_get (flat_map with_module modules) n ≡ Some e → IsOf modules e
stands_at [] n e at = cc
stands_at (m ∷ modules) n e at =
    by_place (λ k there. stands_at modules k e there) (either (with_module m) (flat_map with_module modules) n e at)
  where
    by_place : ((k : ℕ) → slice_get (flat_map with_module modules) k ≡ Some e → IsOf modules e)
        → (slice_get (with_module m) n ≡ Some e) ⊎ ((k : ℕ) × (slice_get (flat_map with_module modules) k ≡ Some e)) → IsOf (m ∷ modules) e
    by_place others (inl here) = of_module modules m e n here
    by_place others (inr there) = of_later modules m e (others there.0 there.1)

-- ---- a session with the procedures of the texts, in their order

-- a procedure of the session and the one of the texts under its number
pub record StandAt (modules : List ModuleText) (procs : List SessionProcedure) (number : ℕ) (e : ModuleText × Procedure)
    (q : SessionProcedure) : Type 0 where
  pub there : slice_get (flat_map with_module modules) number ≡ Some e
  pub called : slice_get procs number ≡ Some q
  pub same : name_of q ≡ named e
  pub is_named : is_procedure e.0.name e.1.name q ≡ true

module _ (modules : List ModuleText) (procs : List SessionProcedure) (are : names_of procs ≡ declared_procedures modules) where
  abbrev all : List (ModuleText × Procedure)
  all = flat_map with_module modules

  same_names : names_of procs ≡ map named all
  same_names = are ∙ names_declared modules

  abbrev is_name : Name → Name → ProcedureName → Bool
  is_name in_module name k = same_name in_module k.«module» && same_name name k.name

  -- A name has the same number.
  pub number_same : (in_module name : Name) → procedure_number procs in_module name ≡ position (is_called in_module name) all
  number_same in_module name =
      sym (position_mapped name_of (is_name in_module name) procs) ∙ ap (position (is_name in_module name)) same_names
      ∙ position_mapped named (is_name in_module name) all

  itself_named : (e : ModuleText × Procedure) (q : SessionProcedure) → name_of q ≡ named e → is_procedure e.0.name e.1.name q ≡ true
  itself_named e q same =
      (λ i. same_name e.0.name (same i).«module» && same_name e.1.name (same i).name) ∙ (λ i. itself e.0.name i && itself e.1.name i)

  pub of_session : (number : ℕ) (q : SessionProcedure) → slice_get procs number ≡ Some q → (e : ModuleText × Procedure) × StandAt modules procs number e q
  of_session number q called =
      let found = unmapped_at named all number (name_of q) (ap (λ l. slice_get l number) (sym same_names) ∙ at_mapped name_of procs number q called) in
      (found.0, record { there = found.1; called = called; same = sym found.2; is_named = itself_named found.0 q (sym found.2) })

  pub of_texts : (number : ℕ) (e : ModuleText × Procedure) → slice_get all number ≡ Some e → (q : SessionProcedure) × StandAt modules procs number e q
  of_texts number e there =
      let found = unmapped_at name_of procs number (named e) (ap (λ l. slice_get l number) same_names ∙ at_mapped named all number e there) in
      (found.0, record { there = there; called = found.1; same = found.2; is_named = itself_named e found.0 found.2 })
