-- The text that binds modules to a host's language.
use Rattle.std.specs.Prelude.{◌≡◌, ℕ, List, Vec}
use Rattle.std.specs.declared.alloc.Global.{Global}
use Rattle.sq_bindings.specs.Binding.{bound_text}
use Rattle.sq_bindings.specs.declared.language.Language.{Language}
use Rattle.sq_perform.specs.Texts.{AllSpell}
use Rattle.sq_tree.specs.Module.{module_tokens, module_depth}
use Rattle.sq_tree.specs.declared.module.ModuleText.{ModuleText}

-- This is the text that binds the trees that the module texts spell.
pub record Binds (language : Language) (modules : List (List ℕ)) (text : Vec ℕ Global) : Type 0 where
  pub trees : List ModuleText
  pub spelled : AllSpell module_tokens module_depth modules trees
  pub bound : text.items ≡ bound_text language trees
