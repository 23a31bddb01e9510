-- The guards of two modules in C are the same only if their names are.
use Rattle.std.proofs.Common.{◌≡◌, ◌∙◌, ◌++◌, refl, sym, ap, codes}
use Rattle.std.proofs.lemmas.List.{append-nil, append_cancel_left}
use Rattle.sq_tree.specs.declared.module.ModuleText.{ModuleText}
use Rattle.sq_bindings.specs.Binding.{filling_of}
use Rattle.sq_bindings.specs.Template.{Text, filled}
use Rattle.sq_bindings.specs.declared.language.Naming.{Naming}

-- the mark that the guard of a module has in the first template of C
abbrev pub guard : Naming → ModuleText → Text
guard n t = filled (filling_of n t) (codes "SQMOD_BOUND_~")

pub guard-is : (n : Naming) (t : ModuleText) → guard n t ≡ codes "SQMOD_BOUND_" ++ t.name
guard-is n t = ap (λ (l : Text). codes "SQMOD_BOUND_" ++ l) (append-nil t.name)

pub guards_apart : (n : Naming) (t u : ModuleText) → guard n t ≡ guard n u → t.name ≡ u.name
guards_apart n t u same = append_cancel_left (codes "SQMOD_BOUND_") t.name u.name (sym (guard-is n t) ∙ same ∙ guard-is n u)
