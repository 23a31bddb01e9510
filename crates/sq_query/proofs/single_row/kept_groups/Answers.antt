-- Left open: what the call of groups_of_which asks for, and the result; answered by Groups of sq_expression and OutcomeLaws.
use Rattle.std.proofs.Common.{◌≡◌, ◌∙◌, List, Option, None, false, map, ap, subst}
use Rattle.sq_value.specs.declared.value.Value.{Value}
use Rattle.sq_meaning.specs.Environment.{Line}
use Rattle.sq_meaning.specs.Query.{clause_truth, is_true}
use Rattle.sq_meaning.specs.Status.{Outcome, kept}
use Rattle.sq_meaning.specs.Syntax.{literal}
use Rattle.sq_meaning.specs.Target.{clause_has_subquery}
use Rattle.sq_meaning.proofs.OutcomeLaws.{kept_all}
use Rattle.sq_bound.specs.Condition.{clause_of}
use Rattle.sq_bound.specs.declared.condition.BoundCond.{BoundCond}
use Rattle.sq_expression.specs.Frame.{reading}
use Rattle.sq_expression.specs.Group.{group_seen, groups_in}
use Rattle.sq_expression.specs.Lines.{line_env}
use Rattle.sq_expression.specs.declared.context.Context.{Context}
use Rattle.sq_expression.proofs.Groups.{meets_as_same}
use Rattle.sq_query.proofs.single_row.kept_groups.Goals as goal

abbrev kept_by : Context → List (Line × List Value) → Option BoundCond → Outcome (List (Line × List Value))
kept_by context groups h = kept (λ group. is_true (clause_truth (reading context) (clause_of (map literal group.1) h) (line_env group.0 None context))) groups

pub groups_of_which-requires : goal.groups_of_which-requires
groups_of_which-requires c = λ functions. subst (λ (h : Option BoundCond). clause_has_subquery (clause_of functions h) ≡ false) c.in-Some.is (c.requires functions)

pub returns-in-Some : goal.returns-in-Some
returns-in-Some c =
    meets_as_same groups_in c.groups_of_which.result _ _ (ap (kept_by c.args.call.now (map group_seen c.args.groups.items)) c.in-Some.is) c.groups_of_which.ensures

pub returns-in-None : goal.returns-in-None
returns-in-None c =
    let groups = map group_seen c.args.groups.items in
    ap (kept_by c.args.call.now groups) c.in-None.is ∙ kept_all groups
