-- Left open for are_of_one_scale: the clause kind; answered without a law.
use Rattle.sq_value.specs.declared.domain.Kind.TheVariants.{Num}
use Rattle.sq_expression.proofs.set_function.are_of_one_scale.Goals as goal

pub returns-clause-kind : goal.returns-clause-kind
returns-clause-kind c = λ holds. (Num c.first_scale.result, c.are_of_scale.ensures.kind holds)
