use Rattle.std.proofs.Common.{◌≡◌, ◌∷◌, ◌++◌, length, take}
use Rattle.sq_tree.specs.Schema.{schema_definition_tokens}
use Rattle.sq_tree.specs.Starts.{schema_start, tokens_of_first}
use Rattle.sq_catalog.specs.Catalog.{known}
use Rattle.sq_check.specs.Modules.{counted}
use Rattle.sq_check.specs.Schemas.{all_at, schema_marks}
use Rattle.sq_check.proofs.schema.views_of.Given as goal

abbrev pub invariant-loop-schema : goal.invariant-loop-schema
invariant-loop-schema l = record {
  start : l.start ≡ counted (length (schema_definition_tokens l.text.first ++ tokens_of_first schema_definition_tokens l.schema-index l.text.rest));
  marks : l.marks ≡ all_at (λ n s. schema_marks (known l.catalog) (schema_start l.text n) s) 0 (l.text.first ∷ take l.schema-index l.text.rest);
}
