-- The remarks on the items of modules, each at its first token (ISO/IEC 9075:1992, 12.1 and 13.1).
use Rattle.std.specs.Prelude.{◌≡◌, ℕ, suc, ◌-◌, ◌^◌, min, ⊤, List, [], ◌∷◌, ◌++◌}
use Rattle.std.specs.List.{AllByRecursion, AllZip}
use Rattle.std.specs.Map.{keys_of}
use Rattle.std.specs.Borrow.{Bor}
use Rattle.sq_lex.specs.declared.name.Name.{Name}
use Rattle.sq_tree.specs.Starts.{module_item_start}
use Rattle.sq_tree.specs.declared.module.ModuleItem.{ModuleItem}
use Rattle.sq_tree.specs.declared.module.ModuleItem.TheVariants as item
use Rattle.sq_tree.specs.declared.module.ModuleText.{ModuleText}
use Rattle.sq_catalog.specs.Catalog.{Catalog, column_kinds, known}
use Rattle.sq_module.specs.Program.{ProgramIsWellFormed, declared_procedures}
use Rattle.sq_module.specs.Written.{IsOfTexts}
use Rattle.sq_module.specs.declared.program.BoundProcedure.{BoundProcedure}
use Rattle.sq_module.specs.declared.program.Program.{Program}
use Rattle.sq_check.specs.Remark.{IsItemRemark, IsOpener}
use Rattle.sq_check.specs.declared.mark.Mark.{Mark}

-- a number as far as it is counted
abbrev pub counted : ℕ → ℕ
counted n = min n (2 ^ 64 - 1)

abbrev pub item_name : ModuleItem → Name
item_name (item.Cursor c) = c.name
item_name (item.Procedure p) = p.name

-- an item at this token, by its names, with the remark on it
pub record IsMarkAt (catalog : Catalog) (p : Program) (m : ModuleText) (here : ℕ) (i : ModuleItem)
    (mark : Mark) : Type 0 where
  pub token : mark.token ≡ here
  pub owner : mark.owner ≡ m.name
  pub name : mark.name ≡ item_name i
  pub remark : IsItemRemark catalog p m i mark.remark

-- the item at a place, at its first token
abbrev pub IsMark : Catalog → Program → ModuleText → ℕ → ModuleItem → Mark → Type 0
IsMark catalog p m place i mark = IsMarkAt catalog p m (counted (module_item_start m place)) i mark

-- a relation holds for each element, its place from this one on, and the element of the other list at the same place
abbrev pub AllAt : {A B : Type 0} → (ℕ → A → B → Type 0) → ℕ → List A → List B → Type 0
AllAt P place [] [] = ⊤
AllAt P place (x ∷ xs) (y ∷ ys) = P place x y × AllAt P (suc place) xs ys
AllAt P place _ _ = ⊥

-- one mark for each item, in the order of the text
abbrev pub AreMarks : Catalog → Program → ModuleText → List Mark → Type 0
AreMarks catalog p m marks = AllAt (IsMark catalog p m) 0 m.items marks

-- The modules are bound as a program. Its procedures are the procedures that they declare, each bound as it is written or with a
-- fault. And these are the remarks on the items of each.
pub record AreChecked (catalog : Catalog) (modules : List ModuleText)
    (marks : List (List Mark)) : Type 0 where
  pub program : Program
  pub procedures : keys_of program.procedures.entries ≡ declared_procedures modules
  pub written : IsOfTexts (known catalog) modules program
  pub well_formed : ProgramIsWellFormed (column_kinds catalog) program
  pub are : AllZip (AreMarks catalog program) modules marks

-- ---- while a module is looked at

-- procedures, each with the name of a cursor that it opens
abbrev pub AreOpeners : Program → ModuleText → List (Name × Bor BoundProcedure) → Type 0
AreOpeners p m openers = AllByRecursion (λ e. IsOpener p m e.0 e.1.now) openers

-- the mark of an item at this token comes after the marks before
abbrev pub IsMarkAdded : Catalog → Program → ModuleText → ℕ → ModuleItem → List Mark → List Mark → Type 0
IsMarkAdded catalog p m token i before after =
    (mark : Mark) × (after ≡ before ++ mark ∷ []) × IsMarkAt catalog p m token i mark
