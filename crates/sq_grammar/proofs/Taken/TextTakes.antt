-- The tokens of a statement and of a whole text are read as it: the laws of the parts, put together.
use Rattle.std.proofs.Common.{◌≡◌, ℕ, suc, ◌≤◌, false, [], ◌∷◌, refl, sym, subst}
use Rattle.sq_lex.specs.declared.lexeme.Lexeme.TheVariants as lexeme
use Rattle.sq_lex.specs.declared.symbol.Symbol.TheVariants as symbol
use Rattle.sq_lex.specs.declared.word.Word.TheVariants as word
use Rattle.sq_tree.specs.DataType.{data_type_tokens}
use Rattle.sq_tree.specs.Statement.{statement_tokens}
use Rattle.sq_tree.proofs.StatementDepth.{statement_depth}
use Rattle.sq_tree.specs.Module.{module_tokens, module_depth}
use Rattle.sq_tree.specs.Schema.{schema_tokens, schema_depth}
use Rattle.sq_tree.specs.Script.{script_tokens, script_depth}
use Rattle.sq_tree.specs.declared.data_type.DataType.{DataType}
use Rattle.sq_tree.specs.declared.statement.Statement.{Statement}
use Rattle.sq_tree.specs.declared.module.ModuleText.{ModuleText}
use Rattle.sq_tree.specs.declared.schema.SchemaText.{SchemaText}
use Rattle.sq_tree.specs.declared.script.ScriptText.{ScriptText}
use Rattle.sq_tree.proofs.ModuleNests.{module_depth-parts}
use Rattle.sq_tree.proofs.SchemaNests.{schema_depth-parts}
use Rattle.sq_tree.proofs.ScriptNests.{script_depth-parts}
use Rattle.sq_grammar.specs.Reading.{Tokens, sees}
use Rattle.sq_grammar.specs.DataType.{data_type}
use Rattle.sq_grammar.specs.Statement.{statement}
use Rattle.sq_grammar.specs.Module.{module_text}
use Rattle.sq_grammar.specs.Schema.{schema_text}
use Rattle.sq_grammar.specs.Script.{script_text}
use Rattle.sq_grammar.proofs.Taken.Takes.{Takes}
use Rattle.sq_grammar.proofs.Ends.Follows.{EndsQuery, ends_table}
use Rattle.sq_grammar.proofs.Taken.DataTypeTakes.{flat_type_takes}
use Rattle.sq_grammar.proofs.Taken.CondTakes.{cond_takes, inner_cond_takes}
use Rattle.sq_grammar.proofs.Taken.QueryTakes.{specification_takes, table_expression_takes, select_list_takes, query_takes}
use Rattle.sq_grammar.proofs.Taken.StatementTakes.{statement_takes}
use Rattle.sq_grammar.proofs.Taken.ModuleTakes.{module_takes}
use Rattle.sq_grammar.proofs.Taken.SchemaTakes.{schema_takes}
use Rattle.sq_grammar.proofs.Taken.ScriptTakes.{script_takes}

-- nothing follows
pub end_of_query : EndsQuery []
end_of_query = record {
  table = ends_table _ refl refl;
  union = refl;
}

-- a data type, in the form that the laws of tables ask for
pub type_taken : (t : DataType) (a left : ℕ) (rest : Tokens) → sees (lexeme.Symbol symbol.Open) rest ≡ false → sees (lexeme.Word word.Varying) rest ≡ false → Takes data_type (data_type_tokens t) a a 0 left t rest
type_taken t a left rest no_open no_varying = flat_type_takes t (record { open_bracket = no_open; varying = no_varying })

pub statement_taken : (left : ℕ) → 1 ≤ left → (s : Statement) (rest : Tokens) → Takes (statement left) (statement_tokens s) 0 0 (statement_depth s) left s (lexeme.Symbol symbol.Semicolon ∷ rest)
statement_taken left room s rest = statement_takes cond_takes specification_takes table_expression_takes select_list_takes left room s rest

pub module_taken : (left : ℕ) → 2 ≤ left → (m : ModuleText) → Takes (module_text left) (module_tokens m) 0 0 (module_depth m) left m []
module_taken left room m = subst (λ d. Takes (module_text left) (module_tokens m) 0 0 d left m []) (sym (module_depth-parts m)) (module_takes query_takes statement_taken left room m)

-- `inner` more brackets may be open behind a table's own
pub schema_taken : (inner : ℕ) → 1 ≤ inner → (s : SchemaText) → Takes (schema_text (suc inner) inner) (schema_tokens s) 0 0 (schema_depth s) (suc inner) s []
schema_taken inner room s = subst (λ d. Takes (schema_text (suc inner) inner) (schema_tokens s) 0 0 d (suc inner) s []) (sym (schema_depth-parts s)) (schema_takes type_taken inner_cond_takes specification_takes inner room s)

pub script_taken : (left : ℕ) → 1 ≤ left → (s : ScriptText) → Takes script_text (script_tokens s) 0 0 (script_depth s) left s []
script_taken left room s = subst (λ d. Takes script_text (script_tokens s) 0 0 d left s []) (sym (script_depth-parts s)) (script_takes s left room)
