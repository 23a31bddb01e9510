-- Left open for views_of: that the loop keeps its invariant; answered by Places and Walk.
use Rattle.std.proofs.Common.{◌≡◌, ◌∙◌, ◌+◌, ◌++◌, suc, ap, arith, length}
use Rattle.sq_tree.specs.Schema.{schema_definition_tokens}
use Rattle.sq_tree.specs.Starts.{schema_start, tokens_of_first}
use Rattle.sq_catalog.specs.Catalog.{known}
use Rattle.sq_check.specs.Schemas.{schema_marks}
use Rattle.sq_check.proofs.Places.{added_next}
use Rattle.sq_check.proofs.Walk.{counted_start, next_part}
use Rattle.sq_check.proofs.schema.views_of.Goals as goal

pub loop-schema-preserved : goal.loop-schema-preserved
loop-schema-preserved c =
    let names = known c.args.catalog.now in
    let text = c.args.text.now in
    let index = c.loop-schema.schema-index in
    let schema = c.schema-item.result in
    let items = c.as_slice-schema-items.ensures in
    let lt = rw items at c.loop-schema-test.true in
    let is = rw items at c.schema-item.is in
    let same : suc index ≡ 1 + index = omega arith in
    let before = length (schema_definition_tokens text.first ++ tokens_of_first schema_definition_tokens index text.rest) in
    record {
      start = next_part schema_definition_tokens (schema_definition_tokens text.first) text.rest index schema c.loop-schema.start c.token_count.result c.saturating_add-start.result lt is
          c.loop-schema.invariant.start c.token_count.ensures c.saturating_add-start.ensures;
      marks = added_next (λ n s. schema_marks names (schema_start text n) s) 1 text.rest index schema (suc index) (schema_marks names 0 text.first) c.loop-schema.marks c.add_views-in-loop-schema.new.marks
          (schema_marks names c.loop-schema.start schema) lt is same c.loop-schema.invariant.marks c.in_ok-add_views-2.ensures
          (ap (λ n. schema_marks names n schema) c.loop-schema.invariant.start ∙ counted_start names before schema);
    }
