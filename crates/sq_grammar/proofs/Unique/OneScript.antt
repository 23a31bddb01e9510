-- Two script texts with one list of tokens are one, and so for their parts.
use Rattle.std.proofs.Common.{◌≡◌, ℕ, suc, max, [], refl, arith}
use Rattle.sq_tree.specs.declared.script.ScriptText.{ScriptText}
use Rattle.sq_tree.specs.declared.script.ScriptItem.{ScriptItem}
use Rattle.sq_tree.specs.declared.script.Arguments.{Arguments}
use Rattle.sq_tree.specs.declared.script.Argument.{Argument}
use Rattle.sq_tree.specs.Script.{argument_tokens, arguments_tokens, ended_item_tokens, script_tokens, script_depth}
use Rattle.sq_grammar.proofs.Sound.Spells.{some_is}
use Rattle.sq_grammar.proofs.Taken.ScriptTakes.{argument_takes, arguments_takes, item_takes}
use Rattle.sq_grammar.proofs.Taken.TextTakes.{script_taken}
use Rattle.sq_grammar.proofs.Unique.OneTree.{one_tree}

pub one_argument : (a b : Argument) → argument_tokens a ≡ argument_tokens b → a ≡ b
one_argument a b same = one_tree (argument_takes a {a = 0} {left = 0} {rest = []}) (argument_takes b) (omega arith) (omega arith) same

pub one_arguments : (a b : Arguments) → arguments_tokens a ≡ arguments_tokens b → a ≡ b
one_arguments a b same = one_tree (arguments_takes a {a = 0} {left = 0} {rest = []} refl) (arguments_takes b refl) (omega arith) (omega arith) same

pub one_script_item : (a b : ScriptItem) → ended_item_tokens a ≡ ended_item_tokens b → a ≡ b
one_script_item a b same = some_is a b (one_tree (item_takes a {a = 0} {left = 0} {rest = []}) (item_takes b) (omega arith) (omega arith) same)

pub one_script_text : (a b : ScriptText) → script_tokens a ≡ script_tokens b → a ≡ b
one_script_text a b same =
    let left : ℕ = suc (max (script_depth a) (script_depth b)) in
    one_tree (script_taken left (omega arith) a) (script_taken left (omega arith) b) (omega arith) (omega arith) same
