-- Left open for only_one: its result; answered by Updatables.
use Rattle.std.proofs.Common.{◌≡◌, true, false, sym, ◌∙◌}
use Rattle.sq_meaning.specs.Spelled.{reference_of}
use Rattle.sq_binder.proofs.Changes.Updatables.{one_alone, one_of_several}
use Rattle.sq_binder.proofs.updatable.only_one.Goals as goal

pub returns-then-is_empty : goal.returns-then-is_empty
returns-then-is_empty c = λ own. one_alone (reference_of own) c.args.from.now.first c.args.from.now.rest (c.is_empty.ensures.0 c.if-is_empty.true)

pub returns-else-is_empty : goal.returns-else-is_empty
returns-else-is_empty c = λ own.
    one_of_several (reference_of own) c.args.from.now.first c.args.from.now.rest (λ none. let no : true ≡ false = sym (c.is_empty.ensures.1 none) ∙ c.if-is_empty.false in cc)
