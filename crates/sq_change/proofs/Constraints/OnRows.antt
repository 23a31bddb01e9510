-- Check options and CHECKs are well formed on each row that is put in a base table (ISO/IEC 9075:1992, 11.4, 11.9, 11.19).
use Rattle.std.proofs.Common.{◌≡◌, List, [], Ok}
use Rattle.std.specs.List.{AllByRecursion}
use Rattle.sq_value.specs.declared.domain.Kind.{Kind}
use Rattle.sq_store.specs.declared.change.Change.{Change}
use Rattle.sq_store.specs.Change.{rows_put}
use Rattle.sq_meaning.specs.Environment.{Row}
use Rattle.sq_meaning.proofs.AnswerLaws.{all_weaker}
use Rattle.sq_bound.specs.Fits.{IsRowIn, under}
use Rattle.sq_bound.specs.WellFormed.{TableKinds, IsChangeTarget, IsCondOn, IsLeaf, base_kinds, of_base}
use Rattle.sq_bound.specs.declared.condition.BoundCond.{BoundCond}
use Rattle.sq_bound.specs.declared.condition.TablePlace.TheVariants.{Base}
use Rattle.sq_bound.specs.declared.names.BaseTable.{BaseTable}
use Rattle.sq_bound.specs.declared.names.Leaf.{Leaf}
use Rattle.sq_bound.specs.declared.statement.ChangeTarget.{ChangeTarget}
use Rattle.sq_bound.specs.declared.statement.ChangeTarget.TheVariants as target
use Rattle.sq_bound.proofs.Wider.{is_cond_wider}
use Rattle.sq_query.specs.Row.{IsOnRow}
use Rattle.sq_change.specs.Changed.{AreOnRowsPut, AreRowsPut}
use Rattle.sq_change.proofs.NewRows.Fitting.{row_fits}

module _ (columns : TableKinds) (parameters : List Kind) (b : BaseTable) (known : columns (Base b.place) ≡ Ok (base_kinds b)) where
  -- conditions that read no parameter
  on_row : (cs : List BoundCond) (row : Row) → AllByRecursion (IsCondOn columns b) cs → IsRowIn b.columns row
      → AllByRecursion (IsOnRow columns parameters row) cs
  on_row cs row h is =
      all_weaker (IsCondOn columns b) (IsOnRow columns parameters row)
      (λ c well. record {
        place = b.place;
        well = is_cond_wider columns columns [] parameters (λ t kinds e. e) (λ n k e. cc) (of_base b) [] c well;
        fits = row_fits columns b row known is;
      }) cs h

  on_rows : (cs : List BoundCond) (changes : List Change) → AllByRecursion (IsCondOn columns b) cs → AreRowsPut b.columns changes
      → AreOnRowsPut columns parameters cs changes
  on_rows cs changes h put =
      all_weaker (IsRowIn b.columns) (λ row. AllByRecursion (IsOnRow columns parameters row) cs) (λ row is. on_row cs row h is) (rows_put changes) put

-- what is under the table that a well-formed statement changes
pub leaf_well : (columns : TableKinds) (parameters : List Kind) (t : ChangeTarget) → IsChangeTarget columns parameters t → IsLeaf columns (under t)
leaf_well columns parameters (target.Searched t) well = well.leaf
leaf_well columns parameters (target.Positioned p) well = well

module _ (columns : TableKinds) (parameters : List Kind) (l : Leaf) (changes : List Change) (well : IsLeaf columns l)
    (put : AreRowsPut l.table.columns changes) where
  pub conditions_on_rows : AreOnRowsPut columns parameters l.conditions changes
  conditions_on_rows = on_rows columns parameters l.table well.kinds_are l.conditions changes well.conditions put

  pub checks_on_rows : AreOnRowsPut columns parameters l.table.checks changes
  checks_on_rows = on_rows columns parameters l.table well.kinds_are l.table.checks changes well.checks put
