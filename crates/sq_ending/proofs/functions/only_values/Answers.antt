-- Left open for only_values: its result; answered by GroupLines.
use Rattle.std.proofs.Common.{◌≡◌, ◌++◌, List, Option, Some, Ok, ap, subst, sym}
use Rattle.std.specs.Prelude.{option_to_list}
use Rattle.sq_value.specs.declared.value.Value.{Value}
use Rattle.sq_meaning.specs.Status.{Outcome}
use Rattle.sq_expression.specs.declared.frame.Group.{Group}
use Rattle.sq_ending.proofs.GroupLines.{last_of, none_left}
use Rattle.sq_ending.proofs.functions.only_values.Goals as goal

pub returns-in-Some : goal.returns-in-Some
returns-in-Some c = λ line values is.
    let groups = c.args.groups.items in
    let rest = c.pop-group.new.self.items in
    let split = subst (λ (f : Option Group). groups ≡ rest ++ option_to_list f) c.in-Some.is c.pop-group.ensures.items in
    ap (λ (vs : List Value). let o : Outcome (List Value) = Ok vs in o) (sym (last_of groups rest (Some c.in-Some.field-0) line values split is))

pub returns-in-None : goal.returns-in-None
returns-in-None c = λ line values is.
    let groups = c.args.groups.items in
    let rest = c.pop-group.new.self.items in
    let split = subst (λ (f : Option Group). groups ≡ rest ++ option_to_list f) c.in-None.is c.pop-group.ensures.items in
    absurd (none_left groups rest _ line values c.args.groups.ok.0 c.pop-group.ensures.rest split is)
