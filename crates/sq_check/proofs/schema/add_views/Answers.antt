-- Left open for add_views: that the loop keeps its invariant; answered by Places and Walk.
use Rattle.std.proofs.Common.{◌≡◌, ◌+◌, ap, arith}
use Rattle.sq_tree.specs.Schema.{schema_element_tokens}
use Rattle.sq_tree.specs.Starts.{schema_head}
use Rattle.sq_catalog.specs.Catalog.{known}
use Rattle.sq_check.specs.Schemas.{element_marks, marks_at}
use Rattle.sq_check.proofs.Places.{added_next}
use Rattle.sq_check.proofs.Walk.{next_start}
use Rattle.sq_check.proofs.schema.add_views.Goals as goal

pub loop-element-preserved : goal.loop-element-preserved
loop-element-preserved c =
    let names = known c.args.catalog.now in
    let schema = c.args.schema.now in
    let index = c.loop-element.element-index in
    let element = c.element-item.result in
    let items = c.as_slice-element-items.ensures in
    let lt = rw items at c.loop-element-test.true in
    let is = rw items at c.element-item.is in
    let same : index ≡ 0 + index = omega arith in
    record {
      token = next_start schema_element_tokens (schema_head schema) schema.elements c.args.start index element c.loop-element.token c.token_count.result c.saturating_add-token-in-loop-element.result lt is
          c.loop-element.invariant.token c.token_count.ensures c.saturating_add-token-in-loop-element.ensures;
      marks = added_next (element_marks names c.args.start schema) 0 schema.elements index element index c.args.marks.now c.loop-element.marks c.add_view.new.marks
          (marks_at names schema.authorization c.loop-element.token element) lt is same c.loop-element.invariant.marks c.in_ok-add_view.ensures
          (ap (λ n. marks_at names schema.authorization n element) c.loop-element.invariant.token);
    }
