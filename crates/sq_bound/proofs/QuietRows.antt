-- Well-formed conditions on a row of a base table whose truth is never a fault have a truth on each row of its kinds.
use Rattle.std.proofs.Common.{◌≡◌, ℕ, true, ◌&&◌, List, [], ◌∷◌, Option, Some, None, sym, subst, ◌∙◌, Ok, Err}
use Rattle.std.specs.Prelude.{IfSome}
use Rattle.std.specs.List.{AllByRecursion}
use Rattle.sq_lex.specs.declared.name.Name.{Name}
use Rattle.sq_value.specs.declared.domain.Kind.{Kind}
use Rattle.sq_meaning.specs.Status.{Outcome}
use Rattle.sq_meaning.specs.declared.status.Status.TheVariants.{NoData}
use Rattle.sq_meaning.specs.Environment.{Row, Input, Env, alone}
use Rattle.sq_meaning.specs.Placed.{by_place}
use Rattle.sq_meaning.specs.Query.{truth}
use Rattle.sq_meaning.specs.Quiet.{is_quiet}
use Rattle.sq_meaning.specs.WellFormed.{Has, HasValue, Fits, IsRowOf, AreRowsOf, kinds_by_place, IsDeclaredAt, AreInputsOf}
use Rattle.sq_meaning.proofs.ReadingKinds.{places_agree, env_by_place}
use Rattle.sq_bound.specs.Condition.{PlacedCond, cond_of}
use Rattle.sq_bound.specs.Names.{option_all}
use Rattle.sq_bound.specs.Quiet.{is_quiet_cond, are_quiet_conds}
use Rattle.sq_bound.specs.WellFormed.{TableKinds, IsCond, IsCondOn, IsTarget, base_kinds, of_base, of_base_at}
use Rattle.sq_bound.specs.declared.condition.BoundCond.{BoundCond}
use Rattle.sq_bound.specs.declared.condition.TablePlace.{TablePlace}
use Rattle.sq_bound.specs.declared.condition.TablePlace.TheVariants.{Base}
use Rattle.sq_bound.specs.declared.names.BaseTable.{BaseTable}
use Rattle.sq_bound.specs.declared.query.Target.{Target}
use Rattle.sq_bound.proofs.QuietTruths.{both_left, both_right, has_truth}
use Rattle.sq_bound.proofs.Wider.{is_cond_wider}

-- where no table is read, tables have no rows to show
abbrev pub no_tables : TablePlace → Outcome (List Row)
no_tables t = Err NoData

none_fit : (o : Outcome (List Kind)) → Fits AreRowsOf o (Err NoData)
none_fit (Ok kinds) = tt
none_fit (Err status) = tt

-- where a row alone is seen, with these parameters
abbrev pub on_row : Row → List Input → Name → Env (Unit {0})
on_row row inputs user = record { scopes = alone [] (row ∷ []) ∷ []; inputs = inputs; user = user }

abbrev pub HasTruthOnRow : Row → List Input → Name → BoundCond → Type 0
HasTruthOnRow row inputs user c = HasValue (truth (by_place no_tables) (cond_of [] c) (on_row row inputs user))

module _ (columns : TableKinds) (parameters : List Kind) (row : Row) (inputs : List Input) (user : Name) (given : AreInputsOf parameters inputs) where
  pub truth_on_row : (place : ℕ) (kinds : List Kind) (c : BoundCond) → columns (Base place) ≡ Ok kinds → IsRowOf kinds row → IsCond columns parameters (of_base_at place) [] c → is_quiet_cond c ≡ true → HasTruthOnRow row inputs user c
  truth_on_row place kinds c there is_row h sure =
      let line : Has (λ ks. IsRowOf ks row) (columns (Base place)) = subst (Has (λ ks. IsRowOf ks row)) (sym there) is_row in
      subst (λ (t : PlacedCond). HasValue (truth (by_place no_tables) t (on_row row inputs user))) (sym (h.is_tree []))
      (has_truth no_tables (kinds_by_place columns parameters) (IsDeclaredAt parameters) (places_agree no_tables columns parameters (λ t. none_fit (columns t))) h.tree (of_base_at place) (on_row row inputs user)
      (h.stands no_tables)
      (env_by_place no_tables columns parameters (of_base_at place) (alone [] (row ∷ []) ∷ []) inputs user (record { line = (line, tt); group = tt }, tt) given)
      (subst (λ (t : PlacedCond). is_quiet t ≡ true) (h.is_tree []) sure))

  all_on_row : (place : ℕ) (kinds : List Kind) (cs : List BoundCond) → columns (Base place) ≡ Ok kinds → IsRowOf kinds row → AllByRecursion (IsCond columns parameters (of_base_at place) []) cs → are_quiet_conds cs ≡ true
      → AllByRecursion (HasTruthOnRow row inputs user) cs
  all_on_row place kinds [] there is_row h sure = tt
  all_on_row place kinds (c ∷ cs) there is_row h sure =
      (truth_on_row place kinds c there is_row h.0 (both_left (is_quiet_cond c) (are_quiet_conds cs) sure), all_on_row place kinds cs there is_row h.1 (both_right (is_quiet_cond c) (are_quiet_conds cs) sure))

  -- the conditions of views read no parameter
  wider : (b : BaseTable) (cs : List BoundCond) → AllByRecursion (IsCondOn columns b) cs → AllByRecursion (IsCond columns parameters (of_base b) []) cs
  wider b [] h = tt
  wider b (c ∷ cs) h = (is_cond_wider columns columns [] parameters (λ t kinds e. e) (λ n k e. cc) (of_base b) [] c h.0, wider b cs h.1)

  own_on_row : (place : ℕ) (kinds : List Kind) (own : Option BoundCond) → columns (Base place) ≡ Ok kinds → IsRowOf kinds row → IfSome own (IsCond columns parameters (of_base_at place) []) → option_all is_quiet_cond own ≡ true
      → IfSome own (HasTruthOnRow row inputs user)
  own_on_row place kinds None there is_row h sure = tt
  own_on_row place kinds (Some c) there is_row h sure = truth_on_row place kinds c there is_row h sure

  -- the conditions of a target that is quiet: those of the views, and then its own
  pub target_on_row : (t : Target) → t.is_quiet ≡ true → IsTarget columns parameters t → IsRowOf (base_kinds t.leaf.table) row
      → AllByRecursion (HasTruthOnRow row inputs user) t.leaf.conditions × IfSome t.condition (HasTruthOnRow row inputs user)
  target_on_row t quiet h is_row =
      let sure : (are_quiet_conds t.leaf.conditions && option_all is_quiet_cond t.condition) ≡ true = sym t.quiet ∙ quiet in (
        all_on_row t.leaf.table.place (base_kinds t.leaf.table) t.leaf.conditions h.leaf.kinds_are is_row (wider t.leaf.table t.leaf.conditions h.leaf.conditions) (both_left (are_quiet_conds t.leaf.conditions) (option_all is_quiet_cond t.condition) sure),
        own_on_row t.leaf.table.place (base_kinds t.leaf.table) t.condition h.leaf.kinds_are is_row h.condition (both_right (are_quiet_conds t.leaf.conditions) (option_all is_quiet_cond t.condition) sure),
      )
