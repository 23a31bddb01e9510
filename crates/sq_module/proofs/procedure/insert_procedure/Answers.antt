-- Left open for insert_procedure: the clause keys; answered by Names.
use Rattle.std.proofs.Common.{ap, ◌∙◌}
use Rattle.std.specs.Map.{keys_of}
use Rattle.sq_module.proofs.Names.{keys_insert}
use Rattle.sq_module.proofs.procedure.insert_procedure.Goals as goal

pub returns-in-Ok-clause-keys : goal.returns-in-Ok-clause-keys
returns-in-Ok-clause-keys g c = ap keys_of c.in-Ok.ensures.entries ∙ keys_insert _ c.args.named.now.entries c.args.name c.args.value
