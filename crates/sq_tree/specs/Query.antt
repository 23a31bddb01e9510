-- Query expressions (ISO/IEC 9075:1992, 7.10): their tokens.
use Rattle.std.specs.Prelude.{[], ◌∷◌, ◌++◌}
use Rattle.std.specs.List.{flat_map}
use Rattle.sq_lex.specs.declared.lexeme.Lexeme.TheVariants as lexeme
use Rattle.sq_lex.specs.declared.word.Word.TheVariants as word
use Rattle.sq_tree.specs.Tree.{Tokens, if_written, bracketed}
use Rattle.sq_tree.specs.Cond.{query_specification_tokens}
use Rattle.sq_tree.specs.declared.query.QueryTerm.{QueryTerm, fold-QueryTerm, QueryTerm-F}
use Rattle.sq_tree.specs.declared.query.QueryTerm.TheOpen as layer
use Rattle.sq_tree.specs.declared.query.Query.{Query, fold-Query, Query-F}
use Rattle.sq_tree.specs.declared.query.UnionTerm.{UnionTerm, fold-UnionTerm, UnionTerm-F}

-- One level of a tree, with the tokens of each part in its place.

-- query-term = specification | "(" query ")"
abbrev pub query_term_layer : QueryTerm-F Tokens Tokens Tokens → Tokens
query_term_layer (layer.Specification spec) = query_specification_tokens spec
query_term_layer (layer.Bracketed query) = bracketed query

-- UNION [ ALL ] query-term
abbrev pub union_term_layer : UnionTerm-F Tokens Tokens Tokens → Tokens
union_term_layer u = lexeme.Word word.Union ∷ if_written u.all (lexeme.Word word.All ∷ []) ++ u.term

-- query = query-term { UNION [ ALL ] query-term }
abbrev pub query_layer : Query-F Tokens Tokens Tokens → Tokens
query_layer q = q.first ++ flat_map (λ ts. ts) q.rest

unfoldable pub query_term_tokens : QueryTerm → Tokens
query_term_tokens = fold-QueryTerm Tokens Tokens Tokens query_term_layer query_layer union_term_layer

unfoldable pub union_term_tokens : UnionTerm → Tokens
union_term_tokens = fold-UnionTerm Tokens Tokens Tokens query_term_layer query_layer union_term_layer

unfoldable pub query_tokens : Query → Tokens
query_tokens = fold-Query Tokens Tokens Tokens query_term_layer query_layer union_term_layer
