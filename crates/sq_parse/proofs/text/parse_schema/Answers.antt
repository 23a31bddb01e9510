-- Left open: the clauses spelled, shallow, no_tree, parsed and only; answered by Parsed and NoTree.
use Rattle.std.proofs.Common.{Err, ◌-◌, lit≤, sym, subst, ◌∙◌}
use Rattle.sq_grammar.proofs.Sound.Spells.{whole_is}
use Rattle.sq_grammar.proofs.Sound.SchemaSound.{schema_sound}
use Rattle.sq_grammar.specs.Schema.{schema_text}
use Rattle.sq_grammar.proofs.Taken.TextTakes.{schema_taken}
use Rattle.sq_tree.specs.Schema.{schema_tokens, schema_depth}
use Rattle.sq_parse.specs.Refusal.{Answers, HasNoTree, parsed}
use Rattle.sq_parse.proofs.Parsed.{answers_tree, answers_stop}
use Rattle.sq_parse.proofs.NoTree.{no_tree}
use Rattle.sq_grammar.specs.declared.brackets.TheConstants.{MAX_DEPTH}
use Rattle.sq_grammar.proofs.Unique.OneSchema.{one_schema_text}
use Rattle.sq_lex.specs.Token.{lexemes}
use Rattle.sq_parse.proofs.text.parse_schema.Goals as goal

pub returns-in-Ok-clause-spelled : goal.returns-in-Ok-clause-spelled
returns-in-Ok-clause-spelled c = (whole_is _ (schema_sound MAX_DEPTH (lit≤ tt)) _ _ _ (rw c.new.ensures at c.in-Ok.ensures)).0

pub returns-in-Ok-clause-shallow : goal.returns-in-Ok-clause-shallow
returns-in-Ok-clause-shallow c = (whole_is _ (schema_sound MAX_DEPTH (lit≤ tt)) _ _ _ c.in-Ok.ensures).1

pub returns-in-Err-clause-no_tree : goal.returns-in-Err-clause-no_tree
returns-in-Err-clause-no_tree c =
    subst (HasNoTree schema_tokens schema_depth (lexemes c.args.tokens.now)) (sym c.refusal.ensures)
    (no_tree (schema_text MAX_DEPTH (MAX_DEPTH - 1)) schema_tokens schema_depth (schema_taken 31 (lit≤ tt)) (lexemes c.args.tokens.now) c.in-Err.stop (rw c.new.ensures at c.in-Err.ensures))

pub returns-in-Ok-clause-parsed : goal.returns-in-Ok-clause-parsed
returns-in-Ok-clause-parsed c = answers_tree (schema_text MAX_DEPTH (MAX_DEPTH - 1)) (lexemes c.args.tokens.now) _ _ (rw c.new.ensures at c.in-Ok.ensures)

pub returns-in-Err-clause-parsed : goal.returns-in-Err-clause-parsed
returns-in-Err-clause-parsed c =
    subst (λ e. Answers (parsed (schema_text MAX_DEPTH (MAX_DEPTH - 1)) (lexemes c.args.tokens.now)) (Err e)) (sym c.refusal.ensures)
    (answers_stop (schema_text MAX_DEPTH (MAX_DEPTH - 1)) (lexemes c.args.tokens.now) c.in-Err.stop (rw c.new.ensures at c.in-Err.ensures))

pub returns-in-Ok-clause-only : goal.returns-in-Ok-clause-only
returns-in-Ok-clause-only c = λ other same. one_schema_text other c.in-Ok.tree (same ∙ (whole_is _ (schema_sound MAX_DEPTH (lit≤ tt)) _ _ _ (rw c.new.ensures at c.in-Ok.ensures)).0)
