-- Script texts: the depth of each tree, from the depth of its parts.
use Rattle.std.specs.Prelude.{ℕ}
use Rattle.sq_tree.proofs.ListDepth.{row_depth}
use Rattle.sq_tree.specs.declared.script.ScriptText.{ScriptText}
use Rattle.sq_tree.specs.declared.script.ScriptItem.{ScriptItem}
use Rattle.sq_tree.specs.declared.script.ScriptItem.TheVariants.{Call, Table}
use Rattle.sq_tree.specs.declared.script.Arguments.{Arguments}
use Rattle.sq_tree.specs.declared.script.Arguments.TheVariants.{Unwritten, Empty, Listed}

abbrev pub arguments_depth : Arguments → ℕ
arguments_depth Unwritten = 0
arguments_depth Empty = 1
arguments_depth (Listed arguments) = 1

abbrev pub script_item_depth : ScriptItem → ℕ
script_item_depth (Call «module» procedure arguments) = arguments_depth arguments
script_item_depth (Table schema table) = 0

abbrev pub script_text_depth : ScriptText → ℕ
script_text_depth s = row_depth script_item_depth s.items
