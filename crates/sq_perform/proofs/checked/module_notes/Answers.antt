-- Left open for module_notes: what the call of marked_notes asks for; answered by Noted.
use Rattle.sq_tree.specs.Module.{module_tokens, module_depth}
use Rattle.sq_perform.specs.Texts.{texts}
use Rattle.sq_perform.proofs.Noted.{all_read, as_many_modules}
use Rattle.sq_perform.proofs.checked.module_notes.Goals as goal

pub marked_notes-requires-clause-read : goal.marked_notes-requires-clause-read
marked_notes-requires-clause-read c = all_read module_tokens module_depth (texts c.args.modules.now) c.args.trees.now c.requires.spelled

pub marked_notes-requires-clause-count : goal.marked_notes-requires-clause-count
marked_notes-requires-clause-count c = as_many_modules c.args.catalog.now c.args.modules.now c.args.trees.now c.in-Ok.marks.items c.requires.spelled c.in-Ok.ensures.checked
