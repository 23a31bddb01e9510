-- Left open for Name::new: the invariant of its result; answered by Spelled.
use Rattle.sq_lex.proofs.Spelled.{name_in_place}
use Rattle.sq_lex.proofs.name.Name.new.Goals as goal

pub invariant_of-result : goal.invariant_of-result
invariant_of-result c = name_in_place _ _ c.copy_from_slice.ensures.after c.requires
