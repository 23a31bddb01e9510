-- Query expressions: the depth of each tree, from the depth of its parts.
use Rattle.std.specs.Prelude.{ℕ, ◌+◌, max}
use Rattle.sq_tree.proofs.TreeDepth.{greatest}
use Rattle.sq_tree.proofs.CondDepth.{query_specification_depth}
use Rattle.sq_tree.specs.declared.query.QueryTerm.{QueryTerm, fold-QueryTerm, QueryTerm-F}
use Rattle.sq_tree.specs.declared.query.QueryTerm.TheOpen as layer
use Rattle.sq_tree.specs.declared.query.Query.{Query, fold-Query, Query-F}
use Rattle.sq_tree.specs.declared.query.UnionTerm.{UnionTerm, fold-UnionTerm, UnionTerm-F}

abbrev pub query_term_height : QueryTerm-F ℕ ℕ ℕ → ℕ
query_term_height (layer.Specification spec) = query_specification_depth spec
query_term_height (layer.Bracketed query) = query + 1

abbrev pub union_term_height : UnionTerm-F ℕ ℕ ℕ → ℕ
union_term_height u = u.term

abbrev pub query_height : Query-F ℕ ℕ ℕ → ℕ
query_height q = max q.first (greatest q.rest)

unfoldable pub query_term_depth : QueryTerm → ℕ
query_term_depth = fold-QueryTerm ℕ ℕ ℕ query_term_height query_height union_term_height

unfoldable pub union_term_depth : UnionTerm → ℕ
union_term_depth = fold-UnionTerm ℕ ℕ ℕ query_term_height query_height union_term_height

unfoldable pub query_depth : Query → ℕ
query_depth = fold-Query ℕ ℕ ℕ query_term_height query_height union_term_height
