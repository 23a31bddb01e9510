-- Views and conditions of CHECK are bound to what is written, with their names placed (ISO/IEC 9075:1992, 11.9 and 11.19).
use Rattle.std.proofs.Common.{◌≡◌, Bool, true, false, ◌||◌, List, [], Ok, Err, refl, subst}
use Rattle.std.specs.Prelude.{if◌then◌else◌, Result}
use Rattle.sq_meaning.specs.Environment.{TableName}
use Rattle.sq_meaning.specs.Spelled.{Named}
use Rattle.sq_meaning.specs.Status as status
use Rattle.sq_meaning.specs.Syntax.{Cond, Select}
use Rattle.sq_meaning.specs.Tables.{ColumnDescriptor}
use Rattle.sq_bound.specs.Condition.{PlacedCond}
use Rattle.sq_bound.specs.Expression.{PlacedExpr}
use Rattle.sq_binding.specs.Changeable.{UserNames, only_table, outside, updatable_bound}
use Rattle.sq_binding.specs.Condition.{cond_bound, select_bound}
use Rattle.sq_binding.specs.Cursor.{behind}
use Rattle.sq_binding.specs.Found.{Found}
use Rattle.sq_binding.specs.NumberedCondition.{NumberedCond, cond_of, select_of}
use Rattle.sq_binding.specs.Outcome.{Outcome, and_then}
use Rattle.sq_binding.specs.PlacedQuery.{cond_placed, select_placed}
use Rattle.sq_binding.specs.Select.{Surroundings}
use Rattle.sq_binding.specs.View.{CheckFault, NumberedView, beside_columns, check_bound, checked, view_bound, view_of}
use Rattle.sq_binding.specs.Whole.{at_first}
use Rattle.sq_binding.proofs.Faultless.Clean.{steps_of}
use Rattle.sq_binding.proofs.Inductions.Parts.{IfFound, IsPart, whole_part}
use Rattle.sq_binding.proofs.Placing.PlacedCursor.{IfAny, over_placed}
use Rattle.sq_binding.proofs.Placing.PlacedParts.{SelectIs, around}
use Rattle.sq_binding.proofs.Placing.PlacedQuery.{cond_is_placed, select_is_placed}

-- ---- views

-- a view has its query, placed; where it is updatable, its rows are those of a base table
abbrev pub IsView : UserNames → Select Named → NumberedView → Type 0
IsView names q v = (select_placed (around (outside names [])) q ≡ Ok (select_of v.query)) × IfAny names (outside names []) q v.query v.updatable

pub view_is_placed : (names : UserNames) (q : Select Named) (v : NumberedView) → view_bound names q ≡ Ok v → IsView names q v
view_is_placed names q v is =
    let a : Surroundings = outside names [] in
    let x = steps_of (select_bound a q at_first) (λ x. and_then (updatable_bound names a q x.part (behind x)) (λ y. Ok (view_of x y))) v is in
    let y = steps_of (updatable_bound names a q x.step.part (behind x.step)) (λ y. Ok (view_of x.step y)) v x.second in
    let part = subst (IfFound (IsPart false at_first (SelectIs (select_placed (around a) q)))) x.first (select_is_placed q a at_first) in
    let made = y.second in
    let same : view_of x.step y.step ≡ v = cc in
    subst (IsView names q) same
    (whole_part false at_first (SelectIs (select_placed (around a) q)) x.step part, over_placed names a q x.step.part (only_table names q x.step.part) refl x.step.subqueries y.step y.first)

-- ---- CHECK

abbrev answered : NumberedCond → Bool → Result NumberedCond CheckFault
answered x refused = if refused then Err CheckFault.not_in_check else Ok x

if_kept : (refused : Bool) (y x : NumberedCond) → answered y refused ≡ Ok x → y ≡ x
if_kept true y x is = cc
if_kept false y x is = cc

check_of : (placed : status.Outcome PlacedCond) (o : Outcome (Found NumberedCond)) → IfFound (IsPart false at_first (λ functions c. placed ≡ Ok (cond_of functions c))) o → (x : NumberedCond) → checked o ≡ Ok x → placed ≡ Ok (cond_of [] x)
check_of placed (Err f) h x is = cc
check_of placed (Ok y) h x is =
    subst (λ (x : NumberedCond). placed ≡ Ok (cond_of [] x)) (if_kept (y.findings.values.has_user || y.findings.has_subquery) y.part x is)
    (subst (λ (calls : List PlacedExpr). placed ≡ Ok (cond_of calls y.part)) (h.none_forbidden refl) (whole_part false at_first (λ functions c. placed ≡ Ok (cond_of functions c)) y h))

pub check_is_placed : (t : TableName) (columns : List ColumnDescriptor) (c : Cond Named) (x : NumberedCond) → check_bound t columns c ≡ Ok x → cond_placed (around (beside_columns t columns)) c ≡ Ok (cond_of [] x)
check_is_placed t columns c x is =
    check_of (cond_placed (around (beside_columns t columns)) c) (cond_bound (beside_columns t columns) c at_first) (cond_is_placed c (beside_columns t columns) at_first) x is
