-- Left open for schema_notes: what the call of all_notes asks for; answered by Noted.
use Rattle.std.proofs.Common.{ap, ◌∙◌, length}
use Rattle.sq_tree.specs.Schema.{schema_tokens, schema_depth}
use Rattle.sq_catalog.specs.Catalog.{known}
use Rattle.sq_check.specs.Schemas.{text_marks}
use Rattle.sq_perform.specs.Texts.{texts}
use Rattle.sq_perform.proofs.Noted.{all_read, as_many_schemas}
use Rattle.sq_perform.proofs.checked.schema_notes.Goals as goal

pub all_notes-notes-requires-clause-read : goal.all_notes-notes-requires-clause-read
all_notes-notes-requires-clause-read c = all_read schema_tokens schema_depth (texts c.args.schemas.now) c.args.trees.now c.requires.spelled

pub all_notes-notes-requires-clause-count : goal.all_notes-notes-requires-clause-count
all_notes-notes-requires-clause-count c =
    rw c.as_slice.ensures.value
    (ap length c.in_ok-marks.ensures ∙ as_many_schemas c.args.schemas.now c.args.trees.now (text_marks (known c.args.catalog.now)) c.requires.spelled)
