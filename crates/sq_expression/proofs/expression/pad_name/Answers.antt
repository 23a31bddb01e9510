-- Left open for pad_name: the clauses value and text; answered by UserText.
use Rattle.sq_expression.proofs.UserText.{padded_is, padded_is_text}
use Rattle.sq_expression.proofs.expression.pad_name.Goals as goal

pub returns-clause-value : goal.returns-clause-value
returns-clause-value c =
    padded_is c.args.name c.copy_from_slice.new.self c.codes-spelled.result.now c.codes-spelled.ensures.value c.copy_from_slice.ensures.after c.codes-spelled.ensures.short

pub returns-clause-text : goal.returns-clause-text
returns-clause-text c =
    padded_is_text c.args.name c.copy_from_slice.new.self c.codes-spelled.result.now c.codes-spelled.ensures.value c.copy_from_slice.ensures.after c.codes-spelled.ensures.short
    c.codes-spelled.ensures.printable
