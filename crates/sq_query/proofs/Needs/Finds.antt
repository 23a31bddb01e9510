-- The tables that well-formed queries and conditions name are there.
use Rattle.std.proofs.Common.{List, [], Option, Some, None, sym, subst}
use Rattle.std.specs.Prelude.{IfSome}
use Rattle.std.specs.List.{AllByRecursion}
use Rattle.sq_value.specs.declared.domain.Kind.{Kind}
use Rattle.sq_meaning.specs.Status.{not_well_formed}
use Rattle.sq_meaning.specs.WellFormed.{HasValue}
use Rattle.sq_meaning.proofs.AnswerLaws.{all_weaker}
use Rattle.sq_bound.specs.Condition.{cond_of, select_of}
use Rattle.sq_bound.specs.Joined.{specifications_of}
use Rattle.sq_bound.specs.WellFormed.{BasesAreThere, IsCond, IsCondOn, IsLeaf, IsQuery, IsSelect, IsTarget, Levels, TableKinds, of_base}
use Rattle.sq_bound.specs.declared.condition.BoundCond.{BoundCond}
use Rattle.sq_bound.specs.declared.condition.BoundSpecification.{BoundSpecification}
use Rattle.sq_bound.specs.declared.names.BaseTable.{BaseTable}
use Rattle.sq_bound.specs.declared.names.Leaf.{Leaf}
use Rattle.sq_bound.specs.declared.query.BoundQuery.{BoundQuery}
use Rattle.sq_bound.specs.declared.query.Target.{Target}
use Rattle.sq_query.specs.Needed.{FindsConds, FindsQuery, FindsSelect, ReadsCond, ReadsSelect}
use Rattle.sq_query.specs.Target.{conditions_of}
use Rattle.sq_query.proofs.Keys.KeyedRows.{both_are}
use Rattle.sq_query.proofs.Needs.NeededViews.{cond_reads, reads_known}

abbrev pub Reads : TableKinds → BoundCond → Type 0
Reads columns c = ReadsCond (λ t. HasValue (columns t)) (cond_of [] c)

pub cond_finds : (columns : TableKinds) (parameters : List Kind) (levels : Levels) (c : BoundCond) → IsCond columns parameters levels [] c → Reads columns c
cond_finds columns parameters levels c well =
    subst (ReadsCond (λ t. HasValue (columns t))) (sym (well.is_tree [])) (cond_reads (λ t. not_well_formed) columns parameters well.tree levels (well.stands (λ t. not_well_formed)))

module _ (bases : List BaseTable) (columns : TableKinds) (there : BasesAreThere bases columns) where
  pub select_finds : (parameters : List Kind) (s : BoundSpecification) → IsSelect columns parameters [] s → FindsSelect bases columns s
  select_finds parameters s well = (there, reads_known columns parameters [] s well)

  pub query_finds : (parameters : List Kind) (q : BoundQuery) → IsQuery columns parameters q → FindsQuery bases columns q
  query_finds parameters q well =
      (there, all_weaker (IsSelect columns parameters []) (λ s. ReadsSelect (λ t. HasValue (columns t)) (select_of s)) (reads_known columns parameters []) (specifications_of q) well.specifications)

  -- conditions on the rows of a base table
  conditions_find : (b : BaseTable) (cs : List BoundCond) → AllByRecursion (IsCondOn columns b) cs → AllByRecursion (Reads columns) cs
  conditions_find b cs well = all_weaker (IsCondOn columns b) (Reads columns) (cond_finds columns [] (of_base b)) cs well

  pub leaf_finds : (l : Leaf) → IsLeaf columns l → FindsConds bases columns l.conditions × FindsConds bases columns l.table.checks
  leaf_finds l well = ((there, conditions_find l.table l.conditions well.conditions), (there, conditions_find l.table l.table.checks well.checks))

  pub target_finds : (parameters : List Kind) (t : Target) → IsTarget columns parameters t → FindsConds bases columns (conditions_of t)
  target_finds parameters t well =
      (there, both_are (Reads columns) t.leaf.conditions t.condition (conditions_find t.leaf.table t.leaf.conditions well.leaf.conditions) (if_own t.condition well.condition))
    where
      if_own : (o : Option BoundCond) → IfSome o (IsCond columns parameters (of_base t.leaf.table) []) → IfSome o (Reads columns)
      if_own None h = tt
      if_own (Some c) h = cond_finds columns parameters (of_base t.leaf.table) c h
