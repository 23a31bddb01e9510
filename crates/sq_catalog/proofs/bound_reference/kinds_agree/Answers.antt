-- Left open for kinds_agree: its result, and that the loop keeps its invariant; answered by ReferencesBound.
use Rattle.std.proofs.Common.{sym, ◌∙◌}
use Rattle.sq_bound.specs.WellFormed.{kinds_of_columns}
use Rattle.sq_binding.specs.Reference.{are_of_one_sort}
use Rattle.sq_catalog.proofs.CreateTable.ReferencesBound.{pairs_end, pairs_step}
use Rattle.sq_catalog.proofs.bound_reference.kinds_agree.Goals as goal

pub returns-then-not-are_of_one_sort : goal.returns-then-not-are_of_one_sort
returns-then-not-are_of_one_sort c =
    let own = kinds_of_columns c.args.own.now in
    let target = kinds_of_columns c.args.target.now in
    let columns = c.args.columns.now in
    let listed = c.args.listed.now in
    let i = c.loop-pair.pair in
    let pair = (λ j. are_of_one_sort (sym c.kind_at-referencing.ensures j) (sym c.kind_at-referenced.ensures j)) ∙ sym c.are_of_one_sort.ensures ∙ c.if-not-are_of_one_sort.true in
    sym (c.loop-pair.invariant ∙ pairs_step own target columns listed i c.requires.pairs _ c.loop-pair-test.true pair)

pub loop-pair-preserved : goal.loop-pair-preserved
loop-pair-preserved c =
    let own = kinds_of_columns c.args.own.now in
    let target = kinds_of_columns c.args.target.now in
    let columns = c.args.columns.now in
    let listed = c.args.listed.now in
    let i = c.loop-pair.pair in
    let pair = (λ j. are_of_one_sort (sym c.kind_at-referencing.ensures j) (sym c.kind_at-referenced.ensures j)) ∙ sym c.are_of_one_sort.ensures ∙ c.if-not-are_of_one_sort.false in
    c.loop-pair.invariant ∙ pairs_step own target columns listed i c.requires.pairs _ c.loop-pair-test.true pair

pub returns : goal.returns
returns c =
    sym (c.loop-pair.invariant ∙ pairs_end (kinds_of_columns c.args.own.now) (kinds_of_columns c.args.target.now) c.args.columns.now c.args.listed.now c.loop-pair.pair c.requires.pairs c.loop-pair-test.false)
