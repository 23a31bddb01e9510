use Rattle.std.proofs.Common.{◌≡◌, drop, map}
use Rattle.sq_binding.specs.Changeable.{leaf_columns}
use Rattle.sq_binding.specs.Seen.{numbered_of}
use Rattle.sq_binder.specs.Names.{beneath_of, under_table}
use Rattle.sq_binder.proofs.Changes.Updatables.{behind}
use Rattle.sq_binder.proofs.updatable.leaf_columns.Given as goal

abbrev pub invariant-loop-expr : goal.invariant-loop-expr
invariant-loop-expr l =
    let u = under_table (beneath_of l.under) in
    leaf_columns u (map numbered_of l.exprs) ≡ behind u l.columns (drop l.expr-index l.exprs)
