-- Left open for leaf_columns: that the loop starts with its invariant; answered by Updatables.
use Rattle.sq_binder.specs.Names.{beneath_of, under_table}
use Rattle.sq_binder.proofs.Changes.Updatables.{leaf_begun}
use Rattle.sq_binder.proofs.updatable.leaf_columns.Goals as goal

pub loop-expr-init : goal.loop-expr-init
loop-expr-init c = leaf_begun (under_table (beneath_of c.args.under.now)) c.args.exprs.now c.new-columns.result c.new-columns.ensures
