-- The parts of a query specification, one after the other, and the query specification made of them (ISO/IEC
-- 9075:1992, 7.4 to 7.9).
use Rattle.std.specs.Prelude.{Bool, true, false, ◌||◌, List, [], Option, None, Some, map, Ok, Err}
use Rattle.std.specs.Option.{option_map}
use Rattle.sq_lex.specs.declared.name.Name.{Name}
use Rattle.sq_tree.specs.declared.cond.TableExpression.{TableExpression, out-TableExpression}
use Rattle.sq_tree.specs.declared.names.ColumnReference.{ColumnReference}
use Rattle.sq_meaning.specs.Environment.{Place}
use Rattle.sq_meaning.specs.Spelled.{Named, clause, cond_of, listed_if_any}
use Rattle.sq_meaning.specs.Syntax.{Clause, SelectList}
use Rattle.sq_meaning.specs.declared.fault.BindingFault.{BindingFault}
use Rattle.sq_meaning.specs.declared.fault.BindingFault.TheVariants as fault
use Rattle.sq_bound.specs.Expression.{place_meant}
use Rattle.sq_bound.specs.declared.condition.BoundCond.{BoundCond}
use Rattle.sq_bound.specs.declared.condition.TablePlace.{TablePlace}
use Rattle.sq_bound.specs.declared.expression.Place.{Place as BoundPlace}
use Rattle.sq_binding.specs.Condition.{clause_bound}
use Rattle.sq_binding.specs.Found.{Binding, Found, ◌>>=◌, each, from_first, pure}
use Rattle.sq_binding.specs.NumberedCondition.{NumberedClause, NumberedCond, NumberedGroups, NumberedSelect}
use Rattle.sq_binding.specs.Outcome.{Outcome, and_then}
use Rattle.sq_binding.specs.Scope.{FromItem}
use Rattle.sq_binding.specs.Seen.{clause_if, cond_seen}
use Rattle.sq_binding.specs.Select.{Surroundings, grouping_column, groups_by, of_groups, of_lines}
use Rattle.sq_binder.specs.Found.{both_of, pairs}
use Rattle.sq_binder.specs.From.{clause_of}
use Rattle.sq_binder.specs.SelectList.{Shown, list_seen, list_split}
use Rattle.sq_binder.specs.declared.found.Counts.{Counts}
use Rattle.sq_binder.specs.declared.from.FromClause.{FromClause}
use Rattle.sq_binder.specs.declared.select_list.SelectedList.{SelectedList}

-- the counts at the start of a query: none of its set functions comes before
abbrev pub first : Counts → Counts
first counts = record { functions = 0; subqueries = counts.subqueries }

-- ---- the clauses, one after the other

abbrev pub Groups : Type 0
Groups = List Place × (Shown × NumberedClause)

abbrev pub Clauses : Type 0
Clauses = NumberedClause × Groups

abbrev pub AllParts : Type 0
AllParts = (List TablePlace × List FromItem) × Clauses

-- the select list and HAVING
abbrev pub shown_bound : Surroundings → List FromItem → SelectList Named → Clause Named
    → Binding (Shown × NumberedClause)
shown_bound a items list having = pairs (list_split a items list) (λ shown. clause_bound a having)

-- GROUP BY, the select list and HAVING
abbrev pub groups_bound : Surroundings → List FromItem → List ColumnReference → SelectList Named
    → Clause Named → Binding Groups
groups_bound a items by list having =
    pairs (each (grouping_column (of_lines items a)) by)
    (λ columns. shown_bound (of_groups items columns a) items list having)

-- WHERE, GROUP BY, the select list and HAVING
abbrev pub clauses_bound : Surroundings → List FromItem → Clause Named → List ColumnReference
    → SelectList Named → Clause Named → Binding Clauses
clauses_bound a items filter by list having =
    pairs (from_first (clause_bound (of_lines items a) filter)) (λ kept. groups_bound a items by list having)

-- the clauses of a table expression that a text of this user spells
abbrev pub clauses_of : Name → TableExpression → Surroundings → List FromItem → SelectList Named
    → Binding Clauses
clauses_of own table a items list =
    let t = out-TableExpression table in
    clauses_bound a items (clause (option_map (cond_of own) t.where_clause)) (listed_if_any t.group_by) list
    (clause (option_map (cond_of own) t.having))

-- ---- the clauses, as the definitions see them

abbrev pub clause_seen : Option BoundCond → NumberedClause
clause_seen c = clause_if (option_map cond_seen c)

abbrev pub shown_seen : SelectedList × Option BoundCond → Shown × NumberedClause
shown_seen = both_of list_seen clause_seen

abbrev pub groups_seen : List BoundPlace × (SelectedList × Option BoundCond) → Groups
groups_seen = both_of (map place_meant) shown_seen

abbrev pub clauses_seen : Option BoundCond × (List BoundPlace × (SelectedList × Option BoundCond)) → Clauses
clauses_seen = both_of clause_seen groups_seen

abbrev pub parts_seen : FromClause
    × (Option BoundCond × (List BoundPlace × (SelectedList × Option BoundCond))) → AllParts
parts_seen = both_of clause_of clauses_seen

-- a clause that is written
abbrev pub clause_present : Binding NumberedCond → Binding NumberedClause
clause_present b = b >>= λ x. pure (NumberedClause.present x)

-- ---- the whole

abbrev pub groups_found : Found AllParts → NumberedGroups
groups_found x = groups_by x.part.1.1.0 x.part.1.1.1.1 x.calls

abbrev pub is_grouped : NumberedGroups → Bool
is_grouped NumberedGroups.not_grouped = false
is_grouped (NumberedGroups.grouped by functions having) = true

abbrev pub parts_can_fail : Found AllParts → Bool
parts_can_fail x = x.findings.values.can_fail || x.calls_can_fail

-- the query specification of these parts
abbrev pub selected : (distinct : Bool) → Found AllParts → Found NumberedSelect
selected distinct x = record {
  part = NumberedSelect.select distinct x.part.1.1.1.0.0 x.part.0.0 x.part.1.0
      (groups_found x) x.part.1.1.1.0.1 (parts_can_fail x) None;
  calls = [];
  calls_can_fail = false;
  findings = record x.findings { values = record x.findings.values { can_fail = parts_can_fail x } };
  subqueries = x.subqueries;
}

abbrev pub grouping_fault : (star grouped has_ungrouped : Bool) → Option BindingFault
grouping_fault true true u = Some fault.CountMismatch
grouping_fault false true true = Some fault.UngroupedColumn
grouping_fault false true false = None
grouping_fault star false u = None

abbrev pub unless : {A : Type 0} → Option BindingFault → A → Outcome A
unless None x = Ok x
unless (Some f) x = Err f

abbrev pub specified : (star distinct : Bool) → Found AllParts → Outcome (Found NumberedSelect)
specified star distinct x =
    unless (grouping_fault star (is_grouped (groups_found x)) x.findings.values.has_ungrouped)
    (selected distinct x)

abbrev pub specification_of : (star distinct : Bool) → Binding AllParts → Binding NumberedSelect
specification_of star distinct b = λ counts. and_then (from_first b counts) (specified star distinct)
