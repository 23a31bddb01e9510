-- The conditions of a target on a row of its base table.
use Rattle.std.proofs.Common.{List, [], ◌∷◌, Bool, false, Option, Some, None, sym, subst, Ok, Err}
use Rattle.std.specs.Prelude.{⊤, if◌then◌else◌, IfSome}
use Rattle.std.specs.List.{AllByRecursion}
use Rattle.sq_value.specs.declared.domain.Kind.{Kind}
use Rattle.sq_value.specs.declared.truth.Truth.{Truth}
use Rattle.sq_value.specs.declared.truth.Truth.TheVariants.{False, Unknown, True}
use Rattle.sq_meaning.specs.Status.{Outcome, and_then}
use Rattle.sq_meaning.specs.Environment.{Row}
use Rattle.sq_meaning.specs.Query.{is_true}
use Rattle.sq_meaning.specs.WellFormed.{Answers, Has, IsRowOf}
use Rattle.sq_bound.specs.WellFormed.{TableKinds, IsCond, IsCondOn, IsTarget, base_kinds, of_base}
use Rattle.sq_bound.specs.declared.condition.BoundCond.{BoundCond}
use Rattle.sq_bound.specs.declared.condition.TablePlace.TheVariants.{Base}
use Rattle.sq_bound.specs.declared.names.BaseTable.{BaseTable}
use Rattle.sq_bound.specs.declared.query.Target.{Target}
use Rattle.sq_bound.proofs.Wider.{is_cond_wider}
use Rattle.sq_query.specs.Row.{IsOnRow}
use Rattle.sq_query.specs.Target.{are_true, conditions_of}
use Rattle.sq_query.proofs.Keys.KeyedRows.{both_are}

module _ (columns : TableKinds) (parameters : List Kind) (row : Row) (b : BaseTable) (fits : Has (λ kinds. IsRowOf kinds row) (columns (Base b.place))) where
  on_row : (c : BoundCond) → IsCond columns parameters (of_base b) [] c → IsOnRow columns parameters row c
  on_row c well = record { place = b.place; well = well; fits = fits }

  -- the conditions of views read no parameter
  all_on_row : (cs : List BoundCond) → AllByRecursion (IsCondOn columns b) cs → AllByRecursion (IsOnRow columns parameters row) cs
  all_on_row [] h = tt
  all_on_row (c ∷ cs) h = (on_row c (is_cond_wider columns columns [] parameters (λ t kinds e. e) (λ n k e. cc) (of_base b) [] c h.0), all_on_row cs h.1)

  own_on_row : (own : Option BoundCond) → IfSome own (IsCond columns parameters (of_base b) []) → IfSome own (IsOnRow columns parameters row)
  own_on_row None h = tt
  own_on_row (Some c) h = on_row c h

pub conditions_on_row : (columns : TableKinds) (parameters : List Kind) (t : Target) (row : Row) → IsTarget columns parameters t → IsRowOf (base_kinds t.leaf.table) row → AllByRecursion (IsOnRow columns parameters row) (conditions_of t)
conditions_on_row columns parameters t row h is_row =
    let fits = subst (Has (λ kinds. IsRowOf kinds row)) (sym h.leaf.kinds_are) is_row in
    both_are (IsOnRow columns parameters row) t.leaf.conditions t.condition (all_on_row columns parameters row t.leaf.table fits t.leaf.conditions h.leaf.conditions) (own_on_row columns parameters row t.leaf.table fits t.condition h.condition)

-- whether each in turn is true, where each has an answer
true_answers : (r : Outcome Truth) (rest : Outcome Bool) → Answers (λ t. ⊤) r → Answers (λ b. ⊤) rest → Answers (λ b. ⊤) (and_then (is_true r) (λ holds. if holds then rest else Ok false))
true_answers (Ok True) rest h k = k
true_answers (Ok False) rest h k = tt
true_answers (Ok Unknown) rest h k = tt
true_answers (Err s) rest h k = h

pub all_true_answers : {X : Type 0} (test : X → Outcome Truth) (cs : List X) → AllByRecursion (λ c. Answers (λ t. ⊤) (test c)) cs → Answers (λ b. ⊤) (are_true test cs)
all_true_answers test [] h = tt
all_true_answers test (c ∷ cs) h = true_answers (test c) (are_true test cs) h.0 (all_true_answers test cs h.1)
