-- Left open for Number::new: the invariant of its result; answered by Spelled.
use Rattle.sq_lex.proofs.Spelled.{number_in_place}
use Rattle.sq_lex.proofs.number.Number.new.Goals as goal

pub invariant_of-result : goal.invariant_of-result
invariant_of-result c = number_in_place _ _ c.copy_from_slice.ensures.after c.requires
