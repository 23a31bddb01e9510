-- Left open for add_items: its result, and that the loop keeps its invariant; answered by ItemsRead.
use Rattle.std.proofs.Common.{List, Ok, Vec, Bor, ap, length, sym}
use Rattle.std.specs.declared.alloc.Global.{Global}
use Rattle.sq_meaning.specs.Environment.{Row}
use Rattle.sq_meaning.specs.Status.{Outcome}
use Rattle.sq_bound.specs.declared.condition.TablePlace.TheVariants.{Base}
use Rattle.sq_condition.specs.Specification.{items_in}
use Rattle.sq_expression.specs.Frame.{table_rows}
use Rattle.sq_ending.specs.Walk.{tables_in}
use Rattle.sq_ending.proofs.ItemsRead.{item_added, item_stops, items_all}
use Rattle.sq_ending.proofs.ending.add_items.Goals as goal

pub loop-table-init : goal.loop-table-init
loop-table-init c = λ none. (ap (λ (items : List (Vec (Bor Row) Global)). let o : Outcome (List (List Row)) = Ok (tables_in items) in o) (sym none), ap length none)

pub loop-table-preserved : goal.loop-table-preserved
loop-table-preserved c = λ none.
    item_added (table_rows c.args.context.now) c.as_slice-table-items.result.now c.loop-table.table-index c.loop-table.items.items (c.loop-table.invariant none) (Base 0) c.loop-table-test.true
    c.in_ok-rows.rows c.in_ok-rows.ensures c.push.new.self.items c.in_ok-push.ensures.items

pub returns-in_err-rows : goal.returns-in_err-rows
returns-in_err-rows c = λ none.
    item_stops (table_rows c.args.context.now) c.as_slice-table-items.result.now c.loop-table.table-index c.loop-table.items.items (c.loop-table.invariant none) (Base 0) c.loop-table-test.true
    c.in_err-rows.field-0.0 c.in_err-rows.ensures c.from_residual.result c.from_residual.ensures.1 (items_in c.args.query.now) c.as_slice-table-items.ensures

pub returns : goal.returns
returns c = λ none.
    items_all (table_rows c.args.context.now) c.as_slice-table-items.result.now c.loop-table.table-index c.loop-table.items.items (c.loop-table.invariant none) c.loop-table-test.false
    (items_in c.args.query.now) c.as_slice-table-items.ensures
