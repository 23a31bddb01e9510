-- Module texts: the depth of each tree, from the depth of its parts.
use Rattle.std.specs.Prelude.{ℕ, ◌+◌, max}
use Rattle.sq_tree.proofs.ListDepth.{comma_depth, row_depth}
use Rattle.sq_tree.proofs.DataTypeDepth.{data_type_depth}
use Rattle.sq_tree.proofs.QueryDepth.{query_depth}
use Rattle.sq_tree.proofs.StatementDepth.{statement_depth}
use Rattle.sq_tree.specs.declared.module.ModuleText.{ModuleText}
use Rattle.sq_tree.specs.declared.module.ModuleItem.{ModuleItem}
use Rattle.sq_tree.specs.declared.module.ModuleItem.TheVariants as item
use Rattle.sq_tree.specs.declared.module.Cursor.{Cursor}
use Rattle.sq_tree.specs.declared.module.Procedure.{Procedure}
use Rattle.sq_tree.specs.declared.module.Declarations.{Declarations}
use Rattle.sq_tree.specs.declared.module.Declarations.TheVariants.{Bracketed, Bare}
use Rattle.sq_tree.specs.declared.module.BareDeclaration.{BareDeclaration}
use Rattle.sq_tree.specs.declared.module.Declaration.{Declaration}
use Rattle.sq_tree.specs.declared.module.Declaration.TheVariants.{Parameter}

abbrev pub declaration_depth : Declaration → ℕ
declaration_depth (Parameter name data_type) = data_type_depth data_type
declaration_depth _ = 0

abbrev pub bare_declaration_depth : BareDeclaration → ℕ
bare_declaration_depth b = declaration_depth b.declaration

abbrev pub declarations_depth : Declarations → ℕ
declarations_depth (Bracketed declarations) = comma_depth declaration_depth declarations + 1
declarations_depth (Bare first rest) = max (declaration_depth first) (row_depth bare_declaration_depth rest)

abbrev pub cursor_depth : Cursor → ℕ
cursor_depth c = query_depth c.query

abbrev pub procedure_depth : Procedure → ℕ
procedure_depth p = max (declarations_depth p.declarations) (statement_depth p.statement)

abbrev pub module_item_depth : ModuleItem → ℕ
module_item_depth (item.Cursor cursor) = cursor_depth cursor
module_item_depth (item.Procedure procedure) = procedure_depth procedure

abbrev pub module_text_depth : ModuleText → ℕ
module_text_depth m = row_depth module_item_depth m.items
