-- The text that binds modules to a host's language: templates, filled in along the tree.
use Rattle.std.specs.Prelude.{ℕ, ◌+◌, ◌-◌, ◌/◌, ◌%◌, Bool, true, false, List, [], ◌∷◌, ◌++◌, map, codes, nat_le, nat_lt, if◌then◌else◌}
use Rattle.std.specs.List.{flat_map, list_any}
use Rattle.sq_lex.specs.declared.name.Name.{Name}
use Rattle.sq_tree.specs.declared.list.CommaList.{CommaList}
use Rattle.sq_tree.specs.declared.module.ModuleText.{ModuleText}
use Rattle.sq_tree.specs.declared.module.ModuleItem.{ModuleItem}
use Rattle.sq_tree.specs.declared.module.ModuleItem.TheVariants as item
use Rattle.sq_tree.specs.declared.module.Procedure.{Procedure}
use Rattle.sq_tree.specs.declared.module.Declarations.{Declarations}
use Rattle.sq_tree.specs.declared.module.Declarations.TheVariants.{Bracketed, Bare}
use Rattle.sq_tree.specs.declared.module.BareDeclaration.{BareDeclaration}
use Rattle.sq_tree.specs.declared.module.Declaration.{Declaration}
use Rattle.sq_tree.specs.declared.module.Declaration.TheVariants.{Parameter, Sqlcode, Sqlstate}
use Rattle.sq_tree.specs.declared.statement.Statement.{Statement}
use Rattle.sq_bindings.specs.Language.{missing_sqlcode, missing_sqlstate, template_of}
use Rattle.sq_bindings.specs.Called.{name_in, procedure_in}
use Rattle.sq_bindings.specs.Parameter.{kind_of, role_in}
use Rattle.sq_bindings.specs.Picture.{digits_of, picture_of, scale_of, size_of}
use Rattle.sq_bindings.specs.Template.{Text, Filling, filled}
use Rattle.sq_bindings.specs.declared.language.Language.{Language}
use Rattle.sq_bindings.specs.declared.language.Naming.{Naming}
use Rattle.sq_bindings.specs.declared.language.Part.{Part}
use Rattle.sq_bindings.specs.declared.language.Pass.{Pass}
use Rattle.sq_bindings.specs.declared.parameter.Kind.{Kind}

-- ---- a parameter

abbrev pub parameter_text : Naming → Filling → Name → Kind → Text → Text
parameter_text h m name k template =
    filled (record m {
      parameter = name;
      parameter_name = name_in h name;
      picture = picture_of k;
      size = digits_of (size_of k);
      scale = digits_of (scale_of k);
    }) template

abbrev pub declaration_text : Naming → Filling → Statement → Part → Declaration → Text
declaration_text h m s p (Parameter name data_type) =
    let k = kind_of data_type in
    parameter_text h m name k (template_of p k (role_in s name))
declaration_text h m s p Sqlcode = filled m p.sqlcode.now
declaration_text h m s p Sqlstate = filled m p.sqlstate.now

-- ---- a procedure

-- the declarations, in their order
abbrev pub declared_in : Declarations → List Declaration
declared_in (Bracketed list) = list.first ∷ list.rest
declared_in (Bare first rest) = first ∷ map (λ (b : BareDeclaration). b.declaration) rest

-- a part: a template for each declaration, for what isn't declared, and for the end
abbrev pub part_text : Naming → Filling → Statement → List Declaration → Part → Text
part_text h m s ds p = flat_map (declaration_text h m s p) ds ++ filled m (missing_sqlstate p ds)
    ++ filled m (missing_sqlcode p ds) ++ filled m p.end.now

abbrev pub procedure_text : Naming → Filling → List Part → Name → Procedure → Text
procedure_text h m parts «module» p =
    let own = record m {
      procedure = p.name;
      procedure_name = procedure_in h «module» p.name;
    } in
    flat_map (part_text h own p.statement (declared_in p.declarations)) parts

-- ---- a module

-- a cursor is nothing to a host
abbrev pub item_text : Naming → Filling → List Part → Name → ModuleItem → Text
item_text h m parts «module» (item.Cursor cursor) = []
item_text h m parts «module» (item.Procedure procedure) = procedure_text h m parts «module» procedure

abbrev pub items_text : Naming → Filling → List Part → ModuleText → Text
items_text h m parts t = flat_map (item_text h m parts t.name) t.items

-- a pass makes of a module its start, and the texts of the procedures in their order
abbrev pub pass_text : Naming → Filling → ModuleText → Pass → Text
pass_text h m t p = filled m p.start.now ++ items_text h m p.parts.now t

abbrev pub passes_text : Language → Filling → ModuleText → Text
passes_text l m t = flat_map (pass_text l.naming m t) l.passes.now

abbrev pub filling_of : Naming → ModuleText → Filling
filling_of n t = record {
  owner = t.name;
  procedure = [];
  parameter = [];
  owner_name = name_in n t.name;
  procedure_name = [];
  parameter_name = [];
  picture = [];
  size = [];
  scale = [];
}

abbrev pub module_text : Language → ModuleText → Text
module_text l t = passes_text l (filling_of l.naming t) t ++ filled (filling_of l.naming t) l.end.now

-- ---- a text

-- the text that binds modules to a host's language
abbrev pub bound_text : Language → List ModuleText → Text
bound_text l modules = l.start.now ++ flat_map (module_text l) modules
