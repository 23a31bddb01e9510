-- Module texts close the brackets that they open, and are as deep as their parts say.
use Rattle.std.proofs.Common.{◌≡◌, [], ◌∷◌, refl, arith}
use Rattle.sq_tree.specs.Module.{sort_key_token, direction_tokens, sort_specification_tokens, order_by_tokens, cursor_tokens, declaration_tokens, bare_declaration_tokens, declarations_tokens, procedure_tokens, module_item_tokens, module_tokens, module_depth}
use Rattle.sq_tree.proofs.ModuleDepth.{declaration_depth, bare_declaration_depth, declarations_depth, cursor_depth, procedure_depth, module_item_depth, module_text_depth}
use Rattle.sq_tree.proofs.Nests.{Nests, IsPlain, nests-deepest, nests-as, nests-plain, nests-append, nests-bracketed, nests-if_written, nests-none, nests-row, nests-optional0, nests-comma, nests-comma0}
use Rattle.sq_tree.proofs.QueryNests.{query_nests}
use Rattle.sq_tree.proofs.StatementNests.{data_type_nests, statement_nests}
use Rattle.sq_lex.specs.declared.lexeme.Lexeme.TheVariants as lexeme
use Rattle.sq_lex.specs.declared.symbol.Symbol.TheVariants as symbol
use Rattle.sq_lex.specs.declared.word.Word.TheVariants as word
use Rattle.sq_tree.specs.declared.list.CommaList.{CommaList}
use Rattle.sq_tree.specs.declared.module.ModuleText.{ModuleText}
use Rattle.sq_tree.specs.declared.module.ModuleItem.{ModuleItem}
use Rattle.sq_tree.specs.declared.module.ModuleItem.TheVariants as item
use Rattle.sq_tree.specs.declared.module.Cursor.{Cursor}
use Rattle.sq_tree.specs.declared.module.SortSpecification.{SortSpecification}
use Rattle.sq_tree.specs.declared.module.SortKey.{SortKey}
use Rattle.sq_tree.specs.declared.module.SortKey.TheVariants.{Column, Position}
use Rattle.sq_tree.specs.declared.module.SortDirection.{SortDirection}
use Rattle.sq_tree.specs.declared.module.SortDirection.TheVariants.{Asc, Desc}
use Rattle.sq_tree.specs.declared.module.Procedure.{Procedure}
use Rattle.sq_tree.specs.declared.module.Declarations.{Declarations}
use Rattle.sq_tree.specs.declared.module.Declarations.TheVariants.{Bracketed, Bare}
use Rattle.sq_tree.specs.declared.module.BareDeclaration.{BareDeclaration}
use Rattle.sq_tree.specs.declared.module.Declaration.{Declaration}
use Rattle.sq_tree.specs.declared.module.Declaration.TheVariants.{Parameter, Sqlcode, Sqlstate}

sort_key_plain : (k : SortKey) → IsPlain (sort_key_token k)
sort_key_plain (Column name) n = refl
sort_key_plain (Position number) n = refl

direction_nests : (d : SortDirection) → Nests (direction_tokens d) 0
direction_nests Asc = (nests-plain _ (λ n. refl) nests-none)
direction_nests Desc = (nests-plain _ (λ n. refl) nests-none)

sort_nests : (s : SortSpecification) → Nests (sort_specification_tokens s) 0
sort_nests s = nests-plain _ (sort_key_plain s.key) (nests-optional0 direction_tokens direction_nests s.direction)

order_by_nests : (sorts : CommaList SortSpecification) → Nests (order_by_tokens sorts) 0
order_by_nests sorts = (nests-plain _ (λ n. refl) (nests-plain _ (λ n. refl) (nests-comma0 sort_specification_tokens sort_nests sorts)))

cursor_nests : (c : Cursor) → Nests (cursor_tokens c) (cursor_depth c)
cursor_nests c = nests-as (nests-plain _ (λ n. refl) (nests-plain _ (λ n. refl) (nests-append (nests-append (nests-append (nests-append (nests-if_written {ts = lexeme.Word word.Insensitive ∷ []} c.insensitive (nests-plain _ (λ n. refl) nests-none)) (nests-if_written {ts = lexeme.Word word.Scroll ∷ []} c.scroll (nests-plain _ (λ n. refl) nests-none))) (nests-plain _ (λ n. refl) (nests-plain _ (λ n. refl) (query_nests c.query)))) (nests-optional0 order_by_tokens order_by_nests c.order_by)) (nests-if_written {ts = lexeme.Symbol symbol.Semicolon ∷ []} c.semicolon (nests-plain _ (λ n. refl) nests-none))))) (omega arith)

declaration_nests : (d : Declaration) → Nests (declaration_tokens d) (declaration_depth d)
declaration_nests (Parameter name data_type) = (nests-plain _ (λ n. refl) (nests-plain _ (λ n. refl) (data_type_nests data_type)))
declaration_nests Sqlcode = (nests-plain _ (λ n. refl) nests-none)
declaration_nests Sqlstate = (nests-plain _ (λ n. refl) nests-none)

bare_declaration_nests : (b : BareDeclaration) → Nests (bare_declaration_tokens b) (bare_declaration_depth b)
bare_declaration_nests b = nests-as (nests-append (nests-if_written {ts = lexeme.Symbol symbol.Comma ∷ []} b.comma (nests-plain _ (λ n. refl) nests-none)) (declaration_nests b.declaration)) (omega arith)

declarations_nests : (d : Declarations) → Nests (declarations_tokens d) (declarations_depth d)
declarations_nests (Bracketed declarations) = nests-bracketed (nests-comma declaration_tokens declaration_depth declaration_nests declarations)
declarations_nests (Bare first rest) = nests-append (declaration_nests first) (nests-row bare_declaration_tokens bare_declaration_depth bare_declaration_nests rest)

procedure_nests : (p : Procedure) → Nests (procedure_tokens p) (procedure_depth p)
procedure_nests p = nests-as (nests-plain _ (λ n. refl) (nests-plain _ (λ n. refl) (nests-append (nests-append (declarations_nests p.declarations) (nests-plain _ (λ n. refl) (statement_nests p.statement))) (nests-plain _ (λ n. refl) nests-none)))) (omega arith)

module_item_nests : (i : ModuleItem) → Nests (module_item_tokens i) (module_item_depth i)
module_item_nests (item.Cursor cursor) = cursor_nests cursor
module_item_nests (item.Procedure procedure) = procedure_nests procedure

-- the depth of a module text, by that of its parts
pub module_depth-parts : (m : ModuleText) → module_depth m ≡ module_text_depth m
module_depth-parts m = nests-deepest {ts = module_tokens m} (nests-plain _ (λ n. refl) (nests-plain _ (λ n. refl) (nests-plain _ (λ n. refl) (nests-plain _ (λ n. refl) (nests-plain _ (λ n. refl) (nests-plain _ (λ n. refl) (nests-row module_item_tokens module_item_depth module_item_nests m.items)))))))
