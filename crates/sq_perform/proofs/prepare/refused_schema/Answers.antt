-- Left open: what the call of refused_text asks for, and the clause first; answered by Parts and Spelled.
use Rattle.std.proofs.Common.{arith}
use Rattle.sq_tree.specs.Schema.{schema_tokens, schema_depth}
use Rattle.sq_perform.specs.Texts.{texts}
use Rattle.sq_perform.proofs.Parts.{of_schema}
use Rattle.sq_perform.proofs.Spelled.{spelled_count}
use Rattle.sq_perform.proofs.prepare.refused_schema.Goals as goal

pub refused_text-requires-clause-spelled : goal.refused_text-requires-clause-spelled
refused_text-requires-clause-spelled c = (c.args.trees.now, c.requires.spelled)

pub refused_text-requires-clause-there : goal.refused_text-requires-clause-there
refused_text-requires-clause-there c =
    let count = spelled_count schema_tokens schema_depth c.args.schemas.now c.args.trees.now c.requires.spelled in
    omega (arith, count, c.requires.there)

pub returns-clause-first : goal.returns-clause-first
returns-clause-first c =
    of_schema (texts c.args.schemas.now) c.args.trees.now c.args.refusal c.index-trees-text.result c.refused_part-token.result c.refused_text.result c.requires.spelled c.requires.first
    c.requires.there c.index-trees-text.is c.refused_part-token.ensures c.refused_text.ensures.what c.refused_text.ensures.placed
