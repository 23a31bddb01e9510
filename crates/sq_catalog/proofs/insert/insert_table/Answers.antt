-- Left open for insert_table: the clauses names and added; answered by Gains.
use Rattle.std.proofs.Common.{ap, ◌∙◌}
use Rattle.std.specs.Map.{keys_of}
use Rattle.sq_catalog.proofs.Growth.Gains.{entry_last, key_last}
use Rattle.sq_catalog.proofs.insert.insert_table.Goals as goal

pub returns-in-Ok-clause-names : goal.returns-in-Ok-clause-names
returns-in-Ok-clause-names c = ap keys_of c.in-Ok.ensures.entries ∙ key_last _ c.args.tables.now c.args.name c.args.table c.requires

pub returns-in-Ok-clause-added : goal.returns-in-Ok-clause-added
returns-in-Ok-clause-added c = c.in-Ok.ensures.entries ∙ entry_last _ c.args.tables.now c.args.name c.args.table c.requires
