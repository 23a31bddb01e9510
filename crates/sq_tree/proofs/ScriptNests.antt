-- Script texts close the brackets that they open, and are as deep as their parts say.
use Rattle.std.proofs.Common.{◌≡◌, refl, arith}
use Rattle.sq_tree.specs.Script.{argument_tokens, arguments_tokens, script_item_tokens, ended_item_tokens, script_tokens, script_depth}
use Rattle.sq_tree.proofs.ScriptDepth.{arguments_depth, script_item_depth, script_text_depth}
use Rattle.sq_tree.proofs.Nests.{Nests, nests-deepest, nests-as, nests-plain, nests-append, nests-bracketed, nests-none, nests-row, nests-comma0}
use Rattle.sq_tree.proofs.ExprNests.{signed_number_nests}
use Rattle.sq_tree.specs.declared.script.ScriptText.{ScriptText}
use Rattle.sq_tree.specs.declared.script.ScriptItem.{ScriptItem}
use Rattle.sq_tree.specs.declared.script.ScriptItem.TheVariants.{Call, Table}
use Rattle.sq_tree.specs.declared.script.Arguments.{Arguments}
use Rattle.sq_tree.specs.declared.script.Arguments.TheVariants.{Unwritten, Empty, Listed}
use Rattle.sq_tree.specs.declared.script.Argument.{Argument}
use Rattle.sq_tree.specs.declared.script.Argument.TheVariants as argument

argument_nests : (a : Argument) → Nests (argument_tokens a) 0
argument_nests (argument.Number n) = signed_number_nests n
argument_nests (argument.Text characters) = (nests-plain _ (λ n. refl) nests-none)
argument_nests argument.Null = (nests-plain _ (λ n. refl) nests-none)

arguments_nests : (a : Arguments) → Nests (arguments_tokens a) (arguments_depth a)
arguments_nests Unwritten = nests-none
arguments_nests Empty = nests-bracketed nests-none
arguments_nests (Listed arguments) = nests-bracketed (nests-comma0 argument_tokens argument_nests arguments)

item_nests : (i : ScriptItem) → Nests (script_item_tokens i) (script_item_depth i)
item_nests (Call «module» procedure arguments) = (nests-plain _ (λ n. refl) (nests-plain _ (λ n. refl) (nests-plain _ (λ n. refl) (nests-plain _ (λ n. refl) (arguments_nests arguments)))))
item_nests (Table schema table) = (nests-plain _ (λ n. refl) (nests-plain _ (λ n. refl) (nests-plain _ (λ n. refl) (nests-plain _ (λ n. refl) nests-none))))

ended_item_nests : (i : ScriptItem) → Nests (ended_item_tokens i) (script_item_depth i)
ended_item_nests i = nests-as (nests-append (item_nests i) (nests-plain _ (λ n. refl) nests-none)) (omega arith)

-- the depth of a script text, by that of its parts
pub script_depth-parts : (s : ScriptText) → script_depth s ≡ script_text_depth s
script_depth-parts s = nests-deepest {ts = script_tokens s} (nests-row ended_item_tokens script_item_depth ended_item_nests s.items)
