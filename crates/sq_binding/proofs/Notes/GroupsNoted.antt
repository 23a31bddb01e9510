-- The grouping of a query specification is noted (ISO/IEC 9075:1992, 6.5, 7.7 to 7.9). It is its set functions in the order of
-- the text, if it is grouped by GROUP BY, by HAVING or by a set function.
use Rattle.std.proofs.Common.{◌≡◌, true, List, [], ◌∷◌, ◌++◌, refl, sym, ap, ◌∙◌}
use Rattle.std.proofs.lemmas.List.{append-nil}
use Rattle.std.specs.Prelude.{⊤}
use Rattle.sq_meaning.specs.Environment.{Place}
use Rattle.sq_meaning.specs.Query.{clause_functions, is_grouped, is_some_of, list_functions}
use Rattle.sq_meaning.specs.Syntax.{expressions}
use Rattle.sq_bound.specs.Expression.{PlacedExpr}
use Rattle.sq_binding.specs.Numbered.{Numbered}
use Rattle.sq_binding.specs.NumberedCondition.{NumberedClause, NumberedGroups, NumberedSelect, absent, present, clause_of, grouped, not_grouped, select, trees_of}
use Rattle.sq_binding.specs.Select.{groups_by}

-- The set functions of the select list and of HAVING, in this order, are those of the groups.
pub record AreGroupsOf (list : List Numbered) (columns : List Place) (functions : List PlacedExpr) (having : NumberedClause) : Type 0 where
  pub in_order : list_functions (expressions (trees_of functions list)) ++ clause_functions (clause_of functions having) ≡ functions
  pub is_grouped_by : is_grouped (expressions (trees_of functions list)) columns (clause_of functions having) ≡ true

abbrev pub AreGroupsIfAny : List Numbered → NumberedGroups → Type 0
AreGroupsIfAny list not_grouped = ⊤
AreGroupsIfAny list (grouped columns functions having) = AreGroupsOf list columns functions having

abbrev pub HasGroups : NumberedSelect → Type 0
HasGroups (select distinct list from filter groups columns can_fail number) = AreGroupsIfAny list groups

pub groups_are : (list : List Numbered) (by : List Place) (having : NumberedClause) (functions : List PlacedExpr)
    → list_functions (expressions (trees_of functions list)) ++ clause_functions (clause_of functions having) ≡ functions → AreGroupsIfAny list (groups_by by having functions)
groups_are list [] absent [] h = tt
groups_are list [] absent (f ∷ functions) h =
    record { in_order = h; is_grouped_by = ap is_some_of (sym (append-nil (list_functions (expressions (trees_of (f ∷ functions) list)))) ∙ h) }
groups_are list [] (present c) functions h = record { in_order = h; is_grouped_by = refl }
groups_are list (p ∷ by) having functions h = record { in_order = h; is_grouped_by = refl }
