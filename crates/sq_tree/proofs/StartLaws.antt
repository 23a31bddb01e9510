-- The tokens before a part are the text's tokens up to it; the part's own tokens come after them.
use Rattle.std.proofs.Common.{◌≡◌, ℕ, List, [], ◌∷◌, ◌++◌, take, drop, sym, ◌∙◌, ap, append_assoc}
use Rattle.std.specs.List.{flat_map}
use Rattle.std.proofs.lemmas.List.{take-append-drop}
use Rattle.std.proofs.lemmas.Grind.{flat_map-append}
use Rattle.sq_lex.specs.declared.lexeme.Lexeme.TheVariants as lexeme
use Rattle.sq_lex.specs.declared.symbol.Symbol.TheVariants as symbol
use Rattle.sq_tree.specs.Tree.{Tokens, if_written}
use Rattle.sq_tree.specs.Schema.{schema_element_tokens, schema_definition_tokens, schema_tokens}
use Rattle.sq_tree.specs.Module.{module_item_tokens, module_tokens}
use Rattle.sq_tree.specs.Script.{ended_item_tokens, script_tokens}
use Rattle.sq_tree.specs.Starts.{tokens_of_first, schemas, schema_head, module_head}
use Rattle.sq_tree.specs.declared.schema.SchemaDefinition.{SchemaDefinition}
use Rattle.sq_tree.specs.declared.schema.SchemaText.{SchemaText}
use Rattle.sq_tree.specs.declared.module.ModuleText.{ModuleText}
use Rattle.sq_tree.specs.declared.script.ScriptText.{ScriptText}

split_at : {A : Type 0} (tokens : A → Tokens) (n : ℕ) (parts : List A) → flat_map tokens parts ≡ tokens_of_first tokens n parts ++ flat_map tokens (drop n parts)
split_at tokens n parts = ap (flat_map tokens) (sym (take-append-drop n parts)) ∙ flat_map-append tokens (take n parts) (drop n parts)

pub schema_begins : (s : SchemaText) (n : ℕ) → schema_tokens s ≡ tokens_of_first schema_definition_tokens n (schemas s) ++ flat_map schema_definition_tokens (drop n (schemas s))
schema_begins s n = split_at schema_definition_tokens n (schemas s)

pub element_begins : (s : SchemaDefinition) (n : ℕ) → schema_definition_tokens s ≡ (schema_head s ++ tokens_of_first schema_element_tokens n s.elements) ++ (flat_map schema_element_tokens (drop n s.elements) ++ if_written s.semicolon (lexeme.Symbol symbol.Semicolon ∷ []))
element_begins s n =
    let end : Tokens = if_written s.semicolon (lexeme.Symbol symbol.Semicolon ∷ []) in
    ap (λ ts. schema_head s ++ (ts ++ end)) (split_at schema_element_tokens n s.elements)
    ∙ ap (λ ts. schema_head s ++ ts) (append_assoc (tokens_of_first schema_element_tokens n s.elements) (flat_map schema_element_tokens (drop n s.elements)) end)
    ∙ sym (append_assoc (schema_head s) (tokens_of_first schema_element_tokens n s.elements) (flat_map schema_element_tokens (drop n s.elements) ++ end))

pub module_item_begins : (m : ModuleText) (n : ℕ) → module_tokens m ≡ (module_head m ++ tokens_of_first module_item_tokens n m.items) ++ flat_map module_item_tokens (drop n m.items)
module_item_begins m n =
    ap (λ ts. module_head m ++ ts) (split_at module_item_tokens n m.items)
    ∙ sym (append_assoc (module_head m) (tokens_of_first module_item_tokens n m.items) (flat_map module_item_tokens (drop n m.items)))

pub script_item_begins : (s : ScriptText) (n : ℕ) → script_tokens s ≡ tokens_of_first ended_item_tokens n s.items ++ flat_map ended_item_tokens (drop n s.items)
script_item_begins s n = split_at ended_item_tokens n s.items
