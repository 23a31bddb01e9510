-- No procedure is left out: each that a module has is bound in the program, or has its fault there.
use Rattle.std.proofs.Common.{◌≡◌, ◌∙◌, ℕ, zero, suc, ◌<◌, Bool, true, false, ◌||◌, ◌&&◌, List, [], ◌∷◌, length, get_or, flat_map, Option, Some, None, is_some, refl, ap, ap₂, sym, arith}
use Rattle.std.proofs.lemmas.List.Folds.{list_any-append}
use Rattle.std.proofs.lemmas.Map.Made.{is_some-lookup}
use Rattle.std.specs.List.{IsAmong, list_any}
use Rattle.std.specs.Map.{keys_of, lookup}
use Rattle.std.proofs.lemmas.Cmp.{nat_list_eq_equiv}
use Rattle.sq_lex.specs.declared.name.Name.{Name}
use Rattle.sq_tree.specs.declared.module.ModuleItem.TheVariants as item
use Rattle.sq_tree.specs.declared.module.ModuleText.{ModuleText}
use Rattle.sq_tree.specs.declared.module.Procedure.{Procedure}
use Rattle.sq_catalog.specs.Catalog.{Catalog}
use Rattle.sq_module.specs.Program.{module_procedures, procedure_in, same_procedure}
use Rattle.sq_module.specs.declared.program.BoundProcedure.{BoundProcedure}
use Rattle.sq_check.specs.Modules.{AreChecked}
use Rattle.sq_check.specs.Remark.{named, procedure_of}
use Rattle.sq_check.specs.declared.mark.Mark.{Mark}

or_true : (b : Bool) → (b || true) ≡ true
or_true true = refl
or_true false = refl

any_there : {A B : Type 0} (t : B → Bool) (f : A → List B) (xs : List A) (i : ℕ) (x : A) → i < length xs → x ≡ get_or xs i x → list_any t (f x) ≡ true → list_any t (flat_map f xs) ≡ true
any_there t f [] i x lt is h = absurd (omega (arith, lt))
any_there t f (y ∷ xs) zero x lt is h =
    list_any-append t (f y) (flat_map f xs) ∙ ap (λ b. b || list_any t (flat_map f xs)) (ap (λ z. list_any t (f z)) (sym is) ∙ h)
any_there t f (y ∷ xs) (suc i) x lt is h =
    list_any-append t (f y) (flat_map f xs) ∙ ap (λ b. list_any t (f y) || b) (any_there t f xs i x (omega (arith, lt)) is h) ∙ or_true (list_any t (f y))

itself : (m q : Name) → list_any (same_procedure (named m q)) (named m q ∷ []) ≡ true
itself m q = ap₂ (λ a b. (a && b) || false) (nat_list_eq_equiv.refl m) (nat_list_eq_equiv.refl q)

some_found : {A : Type 0} (o : Option A) → is_some o ≡ true → (x : A) × (o ≡ Some x)
some_found None h = cc
some_found (Some x) h = (x, refl)

pub all_bound : (catalog : Catalog) (modules : List ModuleText) (marks : List (List Mark)) (checked : AreChecked catalog modules marks) (m : ModuleText) (q : Procedure) → IsAmong modules m
    → IsAmong m.items (item.Procedure q) → (b : BoundProcedure) × (procedure_of checked.program m.name q.name ≡ Some b)
all_bound catalog modules marks checked m q among there =
    let t = same_procedure (named m.name q.name) in
    let entries = checked.program.procedures.entries in
    let in_module : list_any t (module_procedures m) ≡ true = any_there t (procedure_in m.name) m.items there.0 (item.Procedure q) there.1.0 there.1.1 (itself m.name q.name) in
    let in_all : list_any t (keys_of entries) ≡ true = ap (list_any t) checked.procedures ∙ any_there t module_procedures modules among.0 m among.1.0 among.1.1 in_module in
    some_found (lookup t entries) (is_some-lookup t entries ∙ in_all)
