-- Left open: what the call of refused_text asks for, and the clause first; answered by Located and Spelled.
use Rattle.std.proofs.Common.{arith}
use Rattle.sq_tree.specs.Module.{module_tokens, module_depth}
use Rattle.sq_perform.specs.Texts.{texts}
use Rattle.sq_perform.proofs.Located.{of_module}
use Rattle.sq_perform.proofs.Spelled.{spelled_count}
use Rattle.sq_perform.proofs.prepare.refused_module.Goals as goal

pub refused_text-requires-clause-spelled : goal.refused_text-requires-clause-spelled
refused_text-requires-clause-spelled c = (c.args.trees.now, c.requires.spelled)

pub refused_text-requires-clause-there : goal.refused_text-requires-clause-there
refused_text-requires-clause-there c =
    let count = spelled_count module_tokens module_depth c.args.modules.now c.args.trees.now c.requires.spelled in
    omega (arith, count, c.requires.there)

pub returns-clause-first : goal.returns-clause-first
returns-clause-first c =
    of_module (texts c.args.modules.now) c.args.trees.now c.args.refusal c.index-trees-text.result c.refused_start-token.result c.refused_text.result c.requires.spelled c.requires.first
    c.requires.there c.index-trees-text.is c.refused_start-token.ensures c.refused_text.ensures.what c.refused_text.ensures.placed
