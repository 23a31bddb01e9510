-- A run: the machine over the items of a script (own form: a script represents the calls of a host program).
use Rattle.std.specs.Prelude.{ℕ, List, fold}
use Rattle.sq_tree.specs.declared.module.ModuleText.{ModuleText}
use Rattle.sq_tree.specs.declared.schema.SchemaText.{SchemaText}
use Rattle.sq_tree.specs.declared.script.ScriptItem.{ScriptItem}
use Rattle.sq_tree.specs.declared.script.ScriptItem.TheVariants as script
use Rattle.sq_meaning.specs.Environment.{TableName}
use Rattle.sq_meaning.specs.Machine.{Call, Program, State, stepped}
use Rattle.sq_meaning.specs.SchemaRefusal.{elements_of}
use Rattle.sq_meaning.specs.Script.{argument_values}

-- a call, or a base table that is shown
pub data RunItem : Type 0 where
  call : Call → RunItem
  show : TableName → RunItem

abbrev pub item_of_script : ScriptItem → RunItem
item_of_script (script.Call «module» procedure arguments) =
    RunItem.call (record { in_module = «module»; procedure = procedure; values = argument_values arguments })
item_of_script (script.Table user table) = RunItem.show (record { user = user; name = table })

-- the program of texts: all schemas, then all modules
abbrev pub program_of : List SchemaText → List ModuleText → ℕ → Program
program_of schemas modules row_numbers = record {
  elements = elements_of schemas;
  modules = modules;
  row_numbers = row_numbers;
}

abbrev pub after_item : Program → State → RunItem → State
after_item p s (RunItem.call c) = stepped p s c
after_item p s (RunItem.show name) = s

-- the state after some items
abbrev pub after : Program → State → List RunItem → State
after p s items = fold (after_item p) s items
