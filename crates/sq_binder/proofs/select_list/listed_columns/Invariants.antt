use Rattle.std.proofs.Common.{drop, map}
use Rattle.sq_meaning.specs.Spelled.{expr_of, listed}
use Rattle.sq_binding.specs.Found.{each}
use Rattle.sq_binding.specs.Select.{shown_column}
use Rattle.sq_binder.specs.Found.{counts_of}
use Rattle.sq_binder.specs.SelectList.{split}
use Rattle.sq_binder.specs.Surroundings.{surroundings}
use Rattle.sq_binder.proofs.OneByOne.Behind.{made_of}
use Rattle.sq_binder.proofs.Clauses.SelectLists.{SoFarShown}
use Rattle.sq_binder.proofs.select_list.listed_columns.Given as goal

abbrev pub invariant-loop-expr : goal.invariant-loop-expr
invariant-loop-expr g l =
    let f = shown_column (surroundings g.T.Tables.named l.at) in
    SoFarShown f expr_of l.fn.before (made_of split (each f (map expr_of (listed l.list)) (counts_of l.fn.before))) l.shown (drop l.expr-index l.expr-items)
