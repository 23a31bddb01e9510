-- A condition of CHECK is well formed on a row of its table, and is the text with its names placed (ISO/IEC 9075:1992, 11.9).
use Rattle.std.proofs.Common.{◌≡◌, ℕ, Bool, true, false, ◌||◌, List, [], map, None, Ok, Err, refl, sym, ap, ◌∙◌, eq-eqb}
use Rattle.std.specs.Prelude.{Result, if◌then◌else◌}
use Rattle.sq_value.specs.declared.domain.Kind.{Kind}
use Rattle.sq_tree.specs.declared.cond.Cond.{Cond}
use Rattle.sq_meaning.specs.Environment.{TableName}
use Rattle.sq_meaning.specs.Spelled.{cond_of}
use Rattle.sq_meaning.specs.Status as status
use Rattle.sq_bound.specs.WellFormed as well_formed
use Rattle.sq_bound.specs.WellFormed.{IsCond, kinds_of_columns, of_base_at, only}
use Rattle.sq_bound.specs.declared.condition.BoundCond.{BoundCond}
use Rattle.sq_bound.specs.declared.condition.TablePlace.TheVariants.{Base}
use Rattle.sq_bound.specs.declared.names.Column.{Column}
use Rattle.sq_binding.specs.Condition.{cond_bound}
use Rattle.sq_binding.specs.Found.{Found}
use Rattle.sq_binding.specs.From.{NamedTable, NamedTables}
use Rattle.sq_binding.specs.NumberedCondition.{NumberedCond}
use Rattle.sq_binding.specs.Outcome.{Outcome}
use Rattle.sq_binding.specs.Scope.{FromItem}
use Rattle.sq_binding.specs.Seen.{cond_seen}
use Rattle.sq_binding.specs.View.{CheckFault, beside_columns, check_bound, checked, own_item}
use Rattle.sq_binding.specs.Whole.{at_first}
use Rattle.sq_binding.proofs.Standing.Levels.{IsItemOver, NamesKnow, item_is_over}
use Rattle.sq_binding.specs.Names.{descriptor_of}
use Rattle.sq_binding.specs.Written.{CondIs, check_placed}
use Rattle.sq_binding.proofs.WellFormed.Named.{kinds_described}
use Rattle.sq_binding.proofs.WellFormed.OnRows.{cond_on_rows, cond_written}

-- ---- a condition that is not refused is bound

pub record IsKept (o : Outcome (Found NumberedCond)) (c : NumberedCond) : Type 0 where
  pub found : Found NumberedCond
  pub is_found : o ≡ Ok found
  pub part : c ≡ found.part

kept_if : (x : Found NumberedCond) (refused : Bool) (c : NumberedCond) (made : Result NumberedCond CheckFault) → made ≡ (if refused then Err CheckFault.not_in_check else Ok x.part) → made ≡ Ok c → IsKept (Ok x) c
kept_if x true c made e is = cc
kept_if x false c made e is = record { found = x; is_found = refl; part = let same : Ok x.part ≡ made = sym e in cc }

pub is_kept : (o : Outcome (Found NumberedCond)) (c : NumberedCond) → checked o ≡ Ok c → IsKept o c
is_kept (Ok x) c is = kept_if x (x.findings.values.has_user || x.findings.has_subquery) c (checked (Ok x)) refl is
is_kept (Err f) c is = cc

-- ---- the table that is defined

module _ (t : TableName) (place : ℕ) (columns : List Column) (text : Cond) (c : BoundCond) (is : check_bound t (map descriptor_of columns) (cond_of t.user text) ≡ Ok (cond_seen c)) where
  abbrev no_names : NamedTables
  no_names = λ name. None

  abbrev kinds : well_formed.TableKinds
  kinds = only place (kinds_of_columns columns)

  none_known : NamesKnow kinds no_names
  none_known name t known = cc

  abbrev item : FromItem
  item = own_item t (map descriptor_of columns)

  its_kinds : kinds (Base place) ≡ Ok (kinds_of_columns columns)
  its_kinds = ap (λ b. if b then Ok (kinds_of_columns columns) else status.not_well_formed) (eq-eqb place place refl)

  abbrev own : NamedTable
  own = record { place = Base place; columns = map descriptor_of columns; may_select = true; may_grant = true }

  is_over : IsItemOver kinds (Base place) item
  is_over = item_is_over kinds own item (its_kinds ∙ ap (λ (ks : List Kind). Ok ks) (sym (kinds_described columns))) refl

  kept : IsKept (cond_bound (beside_columns t (map descriptor_of columns)) (cond_of t.user text) at_first) (cond_seen c)
  kept = is_kept (cond_bound (beside_columns t (map descriptor_of columns)) (cond_of t.user text) at_first) (cond_seen c) is

  -- the bound condition is well formed
  pub check_stands : IsCond (only place (kinds_of_columns columns)) [] (of_base_at place) [] c
  check_stands = cond_on_rows kinds no_names [] none_known place item is_over (cond_of t.user text) at_first kept.found refl kept.is_found c kept.part

  -- the bound condition is the one that is written
  pub check_is_written : CondIs (check_placed t columns text) c
  check_is_written = cond_written kinds no_names [] none_known place item is_over (cond_of t.user text) at_first kept.found refl kept.is_found c kept.part
