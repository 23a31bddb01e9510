use Rattle.std.proofs.Common.{◌≡◌, ◌++◌, take}
use Rattle.std.specs.Prelude.{fold}
use Rattle.std.specs.List.{flat_map}
use Rattle.sq_tree.specs.Query.{query_term_tokens, union_term_tokens}
use Rattle.sq_tree.specs.declared.query.Query.{out-Query}
use Rattle.sq_spell.proofs.query.+walk_query.Given as goal

abbrev pub invariant-QueryTree::walk-loop-union : goal.invariant-QueryTree::walk-loop-union
invariant-QueryTree::walk-loop-union g l = l.sink ≡ fold g.S.Sink.after l.fn.sink (query_term_tokens (out-Query l.self).first ++ flat_map union_term_tokens (take l.union-index l.union-items))
