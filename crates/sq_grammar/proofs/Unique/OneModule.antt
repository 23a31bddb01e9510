-- Two module texts with one list of tokens are one, and so for their parts.
use Rattle.std.proofs.Common.{◌≡◌, ℕ, suc, max, [], ◌∷◌, Option, Some, None, refl, arith}
use Rattle.sq_lex.specs.declared.lexeme.Lexeme.{Lexeme}
use Rattle.sq_lex.specs.declared.lexeme.Lexeme.TheVariants as lexeme
use Rattle.sq_tree.specs.declared.module.ModuleText.{ModuleText}
use Rattle.sq_tree.specs.declared.module.ModuleItem.{ModuleItem}
use Rattle.sq_tree.specs.declared.module.Cursor.{Cursor}
use Rattle.sq_tree.specs.declared.module.SortSpecification.{SortSpecification}
use Rattle.sq_tree.specs.declared.module.SortDirection.{SortDirection}
use Rattle.sq_tree.specs.declared.module.SortKey.{SortKey}
use Rattle.sq_tree.specs.declared.module.SortKey.TheVariants.{Column, Position}
use Rattle.sq_tree.specs.declared.module.Procedure.{Procedure}
use Rattle.sq_tree.specs.declared.module.Declarations.{Declarations}
use Rattle.sq_tree.specs.declared.module.BareDeclaration.{BareDeclaration}
use Rattle.sq_tree.specs.declared.module.Declaration.{Declaration}
use Rattle.sq_tree.specs.Module.{direction_tokens, sort_key_token, sort_specification_tokens, cursor_tokens, declaration_tokens, bare_declaration_tokens, declarations_tokens, procedure_tokens, module_item_tokens, module_tokens, module_depth}
use Rattle.sq_tree.proofs.ModuleDepth.{declaration_depth, bare_declaration_depth, declarations_depth, cursor_depth, procedure_depth, module_item_depth}
use Rattle.sq_grammar.proofs.Sound.Spells.{some_is}
use Rattle.sq_grammar.proofs.Taken.QueryTakes.{query_takes}
use Rattle.sq_grammar.proofs.Taken.ModuleTakes.{EndsSort, EndsCursor, declaration_takes, bare_declaration_takes, declarations_takes, direction_takes, sort_specification_takes, cursor_takes, procedure_takes, item_takes}
use Rattle.sq_grammar.proofs.Taken.TextTakes.{end_of_query, statement_taken, module_taken}
use Rattle.sq_grammar.proofs.Unique.OneToken.{one_token}
use Rattle.sq_grammar.proofs.Unique.OneTree.{one_tree, behind_first}
use Rattle.sq_grammar.proofs.Unique.OneType.{end_of_type}

end_of_sort : EndsSort []
end_of_sort = record { asc = refl; desc = refl }

end_of_cursor : EndsCursor []
end_of_cursor = record { query = end_of_query; order = refl; sort = end_of_sort; semicolon = refl }

-- ---- declarations of parameters

pub one_declaration : (a b : Declaration) → declaration_tokens a ≡ declaration_tokens b → a ≡ b
one_declaration a b same =
    let left : ℕ = suc (max (declaration_depth a) (declaration_depth b)) in
    one_tree (declaration_takes a {a = 0} {left = left} (omega arith) end_of_type) (declaration_takes b (omega arith) end_of_type) (omega arith) (omega arith) same

pub one_bare_declaration : (a b : BareDeclaration) → bare_declaration_tokens a ≡ bare_declaration_tokens b → a ≡ b
one_bare_declaration a b same =
    let left : ℕ = suc (max (bare_declaration_depth a) (bare_declaration_depth b)) in
    some_is a b (one_tree (bare_declaration_takes a {a = 0} {left = left} (omega arith) end_of_type) (bare_declaration_takes b (omega arith) end_of_type) (omega arith) (omega arith) same)

-- before the semicolon that ends them
pub one_declarations : (a b : Declarations) → declarations_tokens a ≡ declarations_tokens b → a ≡ b
one_declarations a b same =
    let left : ℕ = suc (suc (max (declarations_depth a) (declarations_depth b))) in
    one_tree (declarations_takes left (omega arith) a []) (declarations_takes left (omega arith) b []) (omega arith) (omega arith) same

-- ---- the order of a cursor's rows

pub one_sort_direction : (a b : SortDirection) → direction_tokens a ≡ direction_tokens b → a ≡ b
one_sort_direction a b same = some_is a b (one_tree (direction_takes (Some a) {a = 0} {left = 0} end_of_sort) (direction_takes (Some b) end_of_sort) (omega arith) (omega arith) same)

abbrev key_of : Lexeme → Option SortKey
key_of (lexeme.Name n) = Some (Column n)
key_of (lexeme.Number n) = Some (Position n)
key_of _ = None

key_is : (k : SortKey) → key_of (sort_key_token k) ≡ Some k
key_is (Column n) = refl
key_is (Position n) = refl

pub one_sort_key : (a b : SortKey) → sort_key_token a ∷ [] ≡ sort_key_token b ∷ [] → a ≡ b
one_sort_key a b same = one_token key_of sort_key_token key_is a b same

pub one_sort_specification : (a b : SortSpecification) → sort_specification_tokens a ≡ sort_specification_tokens b → a ≡ b
one_sort_specification a b same = one_tree (sort_specification_takes a {a = 0} {left = 0} end_of_sort) (sort_specification_takes b end_of_sort) (omega arith) (omega arith) same

-- ---- items and texts

pub one_cursor : (a b : Cursor) → cursor_tokens a ≡ cursor_tokens b → a ≡ b
one_cursor a b same =
    let left : ℕ = max (cursor_depth a) (cursor_depth b) in
    let takes = cursor_takes query_takes statement_taken left in
    one_tree (takes a [] end_of_cursor) (takes b [] end_of_cursor) (omega arith) (omega arith) (behind_first same)

pub one_procedure : (a b : Procedure) → procedure_tokens a ≡ procedure_tokens b → a ≡ b
one_procedure a b same =
    let left : ℕ = suc (suc (max (procedure_depth a) (procedure_depth b))) in
    let takes = procedure_takes query_takes statement_taken left (omega arith) in
    one_tree (takes a []) (takes b []) (omega arith) (omega arith) (behind_first same)

pub one_module_item : (a b : ModuleItem) → module_item_tokens a ≡ module_item_tokens b → a ≡ b
one_module_item a b same =
    let left : ℕ = suc (suc (max (module_item_depth a) (module_item_depth b))) in
    let takes = item_takes query_takes statement_taken left (omega arith) in
    some_is a b (one_tree (takes a [] end_of_cursor) (takes b [] end_of_cursor) (omega arith) (omega arith) same)

pub one_module_text : (a b : ModuleText) → module_tokens a ≡ module_tokens b → a ≡ b
one_module_text a b same =
    let left : ℕ = suc (suc (max (module_depth a) (module_depth b))) in
    one_tree (module_taken left (omega arith) a) (module_taken left (omega arith) b) (omega arith) (omega arith) same
