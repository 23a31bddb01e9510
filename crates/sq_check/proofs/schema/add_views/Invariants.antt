use Rattle.std.proofs.Common.{◌≡◌, ◌+◌, ◌++◌, take}
use Rattle.sq_tree.specs.Starts.{before_element}
use Rattle.sq_catalog.specs.Catalog.{known}
use Rattle.sq_check.specs.Modules.{counted}
use Rattle.sq_check.specs.Schemas.{all_at, element_marks}
use Rattle.sq_check.proofs.schema.add_views.Given as goal

abbrev pub invariant-loop-element : goal.invariant-loop-element
invariant-loop-element l = record {
  token : l.token ≡ counted (l.start + before_element l.schema l.element-index);
  marks : l.marks ≡ l.fn.marks ++ all_at (element_marks (known l.catalog) l.start l.schema) 0 (take l.element-index l.schema.elements);
}
