-- What a script asks a session for.
use Rattle.std.specs.Prelude.{◌≡◌, List, map}
use Rattle.std.specs.List.{All}
use Rattle.sq_tree.specs.Script.{script_tokens, script_depth}
use Rattle.sq_tree.specs.declared.script.ScriptItem.{ScriptItem}
use Rattle.sq_tree.specs.declared.script.ScriptText.{ScriptText}
use Rattle.sq_meaning.specs.Report.{Bytes}
use Rattle.sq_meaning.specs.Run.{item_of_script}
use Rattle.sq_session.specs.Session.{Session}
use Rattle.sq_perform.specs.Action.{item_of}
use Rattle.sq_perform.specs.Items.{IsTaken}
use Rattle.sq_perform.specs.Texts.{SpellsTree}
use Rattle.sq_perform.specs.declared.action.Action.{Action}

-- The actions are what the items ask a session for, one by one.
abbrev pub AreActions : Session → List ScriptItem → List Action → Type 0
AreActions s items actions = map (item_of s.procedures s.tables) actions ≡ map item_of_script items

-- the items of a tree that the script spells, all of which the session takes
pub record AreAsked (start : Session) (script : Bytes) (actions : List Action) : Type 0 where
  pub tree : ScriptText
  pub spells : SpellsTree script_tokens script_depth script tree
  pub taken : All (IsTaken start) tree.items
  pub are_items : AreActions start tree.items actions
