-- The beginnings of the parts of a text: the number of tokens of the text before each. Schemas, elements and items count from 0.
use Rattle.std.specs.Prelude.{ℕ, ◌+◌, List, [], ◌∷◌, ◌++◌, length, take, drop}
use Rattle.std.specs.List.{flat_map}
use Rattle.sq_lex.specs.declared.lexeme.Lexeme.TheVariants as lexeme
use Rattle.sq_lex.specs.declared.word.Word.TheVariants as word
use Rattle.sq_tree.specs.Tree.{Tokens}
use Rattle.sq_tree.specs.Schema.{schema_element_tokens, schema_definition_tokens}
use Rattle.sq_tree.specs.Module.{module_item_tokens}
use Rattle.sq_tree.specs.Script.{ended_item_tokens}
use Rattle.sq_tree.specs.declared.schema.SchemaDefinition.{SchemaDefinition}
use Rattle.sq_tree.specs.declared.schema.SchemaText.{SchemaText}
use Rattle.sq_tree.specs.declared.module.ModuleText.{ModuleText}
use Rattle.sq_tree.specs.declared.script.ScriptText.{ScriptText}

-- the tokens of the first n parts
abbrev pub tokens_of_first : {A : Type 0} → (A → Tokens) → ℕ → List A → Tokens
tokens_of_first tokens n parts = flat_map tokens (take n parts)

abbrev pub schemas : SchemaText → List SchemaDefinition
schemas s = s.first ∷ s.rest

-- CREATE SCHEMA AUTHORIZATION name
abbrev pub schema_head : SchemaDefinition → Tokens
schema_head s = lexeme.Word word.Create ∷ lexeme.Word word.Schema ∷ lexeme.Word word.Authorization
    ∷ lexeme.Name s.authorization ∷ []

-- MODULE name LANGUAGE name AUTHORIZATION name
abbrev pub module_head : ModuleText → Tokens
module_head m = lexeme.Word word.Module ∷ lexeme.Name m.name ∷ lexeme.Word word.Language
    ∷ lexeme.Name m.language ∷ lexeme.Word word.Authorization ∷ lexeme.Name m.authorization ∷ []

-- the first token of a schema
abbrev pub schema_start : SchemaText → ℕ → ℕ
schema_start s n = length (tokens_of_first schema_definition_tokens n (schemas s))

-- the number of a schema's tokens before one of its elements
abbrev pub before_element : SchemaDefinition → ℕ → ℕ
before_element s n = length (schema_head s ++ tokens_of_first schema_element_tokens n s.elements)

-- the number of tokens of the first of these schemas before one of its elements
abbrev pub before_element_of_first : List SchemaDefinition → ℕ → ℕ
before_element_of_first [] n = 0
before_element_of_first (s ∷ ss) n = before_element s n

-- the first token of an element of a schema
abbrev pub schema_element_start : SchemaText → ℕ → ℕ → ℕ
schema_element_start s schema element =
    schema_start s schema + before_element_of_first (drop schema (schemas s)) element

-- the first token of a cursor or a procedure
abbrev pub module_item_start : ModuleText → ℕ → ℕ
module_item_start m n = length (module_head m ++ tokens_of_first module_item_tokens n m.items)

-- the first token of an item of a script
abbrev pub script_item_start : ScriptText → ℕ → ℕ
script_item_start s n = length (tokens_of_first ended_item_tokens n s.items)
