-- Left open: what the call of beneath_table asks for, and the result; answered without a law.
use Rattle.std.proofs.Common.{ap, ◌∙◌}
use Rattle.std.specs.Option.{option_and_then}
use Rattle.sq_catalog.specs.UserTables.{beneath_in}
use Rattle.sq_catalog.proofs.user_tables.UserTablesChangeableTables.beneath.Goals as goal

pub beneath_table-requires : goal.beneath_table-requires
beneath_table-requires c = c.in-Some.ensures.of.stored.itself

pub returns-in-None : goal.returns-in-None
returns-in-None c = ap (option_and_then beneath_in) c.in-None.ensures.described

pub returns-in-Some : goal.returns-in-Some
returns-in-Some c = c.beneath_table.ensures ∙ ap (option_and_then beneath_in) c.in-Some.ensures.described
