-- Query specifications of parts that are bound: their groups, and which may not be grouped.
use Rattle.std.proofs.Common.{◌≡◌, Bool, true, false, List, [], ◌∷◌, Option, None, Some, Ok, Err, refl, ap, ◌∙◌}
use Rattle.std.specs.Option.{is_some, option_map}
use Rattle.sq_meaning.specs.Environment.{Place}
use Rattle.sq_meaning.specs.declared.fault.BindingFault.{BindingFault}
use Rattle.sq_bound.specs.Expression.{PlacedExpr}
use Rattle.sq_bound.specs.declared.condition.Grouping.{Grouping}
use Rattle.sq_binding.specs.Found.{Binding, Counts, Found, from_first}
use Rattle.sq_binding.specs.NumberedCondition.{NumberedClause, NumberedGroups}
use Rattle.sq_binding.specs.Outcome.{and_then}
use Rattle.sq_binding.specs.Seen.{grouping_seen, groups_if}
use Rattle.sq_binding.specs.Select.{groups_by}
use Rattle.sq_binding.proofs.Standing.SeenLevels.{grouping_seen-out}
use Rattle.sq_binder.specs.Specification.{AllParts, groups_found, grouping_fault, is_grouped, selected, specification_of, specified, unless}

-- ---- groups

pub ungrouped : (by : List Place) (having : NumberedClause) (functions : List PlacedExpr) → is_grouped (groups_by by having functions) ≡ false → groups_by by having functions ≡ NumberedGroups.not_grouped
ungrouped [] NumberedClause.absent [] e = refl
ungrouped [] NumberedClause.absent (f ∷ fs) e = cc
ungrouped [] (NumberedClause.present c) functions e = cc
ungrouped (p ∷ ps) having functions e = cc

pub grouped_by : (by : List Place) (having : NumberedClause) (functions : List PlacedExpr) → is_grouped (groups_by by having functions) ≡ true → groups_by by having functions ≡ NumberedGroups.grouped by functions having
grouped_by [] NumberedClause.absent [] e = cc
grouped_by [] NumberedClause.absent (f ∷ fs) e = refl
grouped_by [] (NumberedClause.present c) functions e = refl
grouped_by (p ∷ ps) having functions e = refl

pub grouped_is : (o : Option Grouping) → is_grouped (groups_if (option_map grouping_seen o)) ≡ is_some o
grouped_is None = refl
grouped_is (Some g) = ap is_grouped (grouping_seen-out g)

-- ---- the whole

module _ (star distinct : Bool) (b : Binding AllParts) (counts : Counts) (x : Found AllParts) (found : from_first b counts ≡ Ok x) where
  specified_as : specification_of star distinct b counts ≡ specified star distinct x
  specified_as = ap (λ o. and_then o (specified star distinct)) found

  pub specified_fault : (f : BindingFault) → grouping_fault star (is_grouped (groups_found x)) x.findings.values.has_ungrouped ≡ Some f → specification_of star distinct b counts ≡ Err f
  specified_fault f is = specified_as ∙ ap (λ o. unless o (selected distinct x)) is

  pub specified_found : grouping_fault star (is_grouped (groups_found x)) x.findings.values.has_ungrouped ≡ None → specification_of star distinct b counts ≡ Ok (selected distinct x)
  specified_found is = specified_as ∙ ap (λ o. unless o (selected distinct x)) is
