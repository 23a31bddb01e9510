use Rattle.std.proofs.Common.{◌≡◌, ◌++◌, take}
use Rattle.std.specs.Prelude.{fold}
use Rattle.std.specs.List.{flat_map}
use Rattle.sq_tree.specs.Expr.{term_tokens, added_tokens, factor_tokens, scaled_tokens}
use Rattle.sq_tree.specs.declared.expr.Expr.{out-Expr}
use Rattle.sq_tree.specs.declared.expr.Term.{out-Term}
use Rattle.sq_spell.proofs.expr.+walk_expr.Given as goal

abbrev pub invariant-ExprTree::walk-loop-added : goal.invariant-ExprTree::walk-loop-added
invariant-ExprTree::walk-loop-added g l = l.sink ≡ fold g.S.Sink.after l.fn.sink (term_tokens (out-Expr l.self).first ++ flat_map added_tokens (take l.added-index l.added-items))

abbrev pub invariant-TermTree::walk-loop-scaled : goal.invariant-TermTree::walk-loop-scaled
invariant-TermTree::walk-loop-scaled g l = l.sink ≡ fold g.S.Sink.after l.fn.sink (factor_tokens (out-Term l.self).first ++ flat_map scaled_tokens (take l.scaled-index l.scaled-items))
