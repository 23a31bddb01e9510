-- Left open: the clauses spelled, shallow, no_tree, parsed and only; answered by Parsed and NoTree.
use Rattle.std.proofs.Common.{Err, lit≤, sym, subst, ◌∙◌}
use Rattle.sq_grammar.proofs.Sound.Spells.{whole_is}
use Rattle.sq_grammar.proofs.Sound.ModuleSound.{module_sound}
use Rattle.sq_grammar.specs.Module.{module_text}
use Rattle.sq_grammar.proofs.Taken.TextTakes.{module_taken}
use Rattle.sq_tree.specs.Module.{module_tokens, module_depth}
use Rattle.sq_parse.specs.Refusal.{Answers, HasNoTree, parsed}
use Rattle.sq_parse.proofs.Parsed.{answers_tree, answers_stop}
use Rattle.sq_parse.proofs.NoTree.{no_tree}
use Rattle.sq_grammar.specs.declared.brackets.TheConstants.{MAX_DEPTH}
use Rattle.sq_grammar.proofs.Unique.OneModule.{one_module_text}
use Rattle.sq_lex.specs.Token.{lexemes}
use Rattle.sq_parse.proofs.text.parse_module.Goals as goal

pub returns-in-Ok-clause-spelled : goal.returns-in-Ok-clause-spelled
returns-in-Ok-clause-spelled c = (whole_is _ (module_sound MAX_DEPTH (lit≤ tt)) _ _ _ (rw c.new.ensures at c.in-Ok.ensures)).0

pub returns-in-Ok-clause-shallow : goal.returns-in-Ok-clause-shallow
returns-in-Ok-clause-shallow c = (whole_is _ (module_sound MAX_DEPTH (lit≤ tt)) _ _ _ c.in-Ok.ensures).1

pub returns-in-Err-clause-no_tree : goal.returns-in-Err-clause-no_tree
returns-in-Err-clause-no_tree c =
    subst (HasNoTree module_tokens module_depth (lexemes c.args.tokens.now)) (sym c.refusal.ensures)
    (no_tree (module_text MAX_DEPTH) module_tokens module_depth (module_taken MAX_DEPTH (lit≤ tt)) (lexemes c.args.tokens.now) c.in-Err.stop (rw c.new.ensures at c.in-Err.ensures))

pub returns-in-Ok-clause-parsed : goal.returns-in-Ok-clause-parsed
returns-in-Ok-clause-parsed c = answers_tree (module_text MAX_DEPTH) (lexemes c.args.tokens.now) _ _ (rw c.new.ensures at c.in-Ok.ensures)

pub returns-in-Err-clause-parsed : goal.returns-in-Err-clause-parsed
returns-in-Err-clause-parsed c =
    subst (λ e. Answers (parsed (module_text MAX_DEPTH) (lexemes c.args.tokens.now)) (Err e)) (sym c.refusal.ensures)
    (answers_stop (module_text MAX_DEPTH) (lexemes c.args.tokens.now) c.in-Err.stop (rw c.new.ensures at c.in-Err.ensures))

pub returns-in-Ok-clause-only : goal.returns-in-Ok-clause-only
returns-in-Ok-clause-only c = λ other same. one_module_text other c.in-Ok.tree (same ∙ (whole_is _ (module_sound MAX_DEPTH (lit≤ tt)) _ _ _ (rw c.new.ensures at c.in-Ok.ensures)).0)
