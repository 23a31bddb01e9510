-- Left open for end_with: its result; answered by QueryEnds.
use Rattle.std.proofs.Common.{◌∙◌, List, Vec, Bor, subst, sym}
use Rattle.std.specs.declared.alloc.Global.{Global}
use Rattle.std.proofs.lemmas.List.{length-map}
use Rattle.sq_meaning.specs.Environment.{Row}
use Rattle.sq_expression.specs.Group.{rows_of_line}
use Rattle.sq_ending.specs.Ending.{HaveRows, seen_in}
use Rattle.sq_ending.specs.Walk.{tables_in}
use Rattle.sq_ending.proofs.QueryEnds.{from_ends}
use Rattle.sq_ending.proofs.ending.end_with.Goals as goal

pub returns-in-Ok : goal.returns-in-Ok
returns-in-Ok c = λ none meant knows right.
    c.line_end.ensures meant knows right
    (subst (λ (items : List (Vec (Bor Row) Global)). HaveRows (seen_in c.args.context.now) c.args.query.now (tables_in items)) (sym c.as_slice.ensures.value)
    (rw c.in-Ok.is at c.add_items.ensures none))

pub returns-in-Err-Status : goal.returns-in-Err-Status
returns-in-Err-Status c = λ none meant knows right.
    let items = c.add_items.new.items.items in
    from_ends c.args.context.now c.args.query.now (tables_in items) c.in-Err-Status.failure c.len.result c.from_end.result (rw c.in-Err-Status.field-0-is at (rw c.in-Err-Status.is at c.add_items.ensures none))
    (c.len.ensures ∙ c.add_items.new.items.ok.0 ∙ sym (length-map items rows_of_line)) c.from_end.ensures.clause c.from_end.ensures.status c.from_end.ensures.line
