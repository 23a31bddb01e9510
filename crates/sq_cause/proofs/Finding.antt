-- What the conditions of statements and cursors read is there.
use Rattle.std.proofs.Common.{◌≡◌, ◌∙◌, ℕ, List, [], Option, Some, None, Result, IfOk, IfSome, slice_get, ap, subst, sym}
use Rattle.std.specs.Option.{option_map}
use Rattle.std.specs.declared.alloc.AllocError.{AllocError}
use Rattle.sq_value.specs.declared.domain.Kind.{Kind}
use Rattle.sq_meaning.specs.Status.{well_formed}
use Rattle.sq_meaning.specs.WellFormed.{Has}
use Rattle.sq_bound.specs.WellFormed.{BasesAreThere, IsChangeTarget, IsCond, IsCursor, IsCursorBody, IsTarget, TableKinds, kinds_of_results, of_base}
use Rattle.sq_bound.specs.declared.condition.BoundCond.{BoundCond}
use Rattle.sq_bound.specs.declared.names.BaseTable.{BaseTable}
use Rattle.sq_bound.specs.declared.query.CursorBody.{CursorBody}
use Rattle.sq_bound.specs.declared.query.CursorBody.TheVariants as body
use Rattle.sq_bound.specs.declared.query.Target.{Target}
use Rattle.sq_bound.specs.declared.query.UpdatableQuery.{UpdatableQuery}
use Rattle.sq_bound.specs.declared.statement.BoundStatement.TheVariants as statement
use Rattle.sq_bound.specs.declared.statement.ChangeTarget.{ChangeTarget}
use Rattle.sq_bound.specs.declared.statement.ChangeTarget.TheVariants as target
use Rattle.sq_module.specs.Program.{OpensWellFormed}
use Rattle.sq_module.specs.declared.program.DeclaredCursor.{DeclaredCursor}
use Rattle.sq_query.specs.Needed.{FindsCond, FindsConds}
use Rattle.sq_query.proofs.Needs.Finds.{cond_finds, leaf_finds}
use Rattle.sq_change.specs.Made.{Seen}
use Rattle.sq_session.specs.Kind.{body_at}
use Rattle.sq_session.specs.Schemas.{Schemas}
use Rattle.sq_cause.specs.Clause.{FindsTarget, IsBodyEnd}
use Rattle.sq_cause.specs.TargetEnd.{IsTargetEnd}
use Rattle.sq_cause.specs.declared.cause.ClauseCause.{ClauseCause}

module _ (bases : List BaseTable) (columns : TableKinds) (there : BasesAreThere bases columns) where
  if_own : (kinds : List Kind) (b : BaseTable) (o : Option BoundCond) → IfSome o (IsCond columns kinds (of_base b) []) → IfSome o (FindsCond bases columns)
  if_own kinds b None h = tt
  if_own kinds b (Some c) h = (there, cond_finds columns kinds (of_base b) c h)

  pub target_parts : (kinds : List Kind) (t : Target) → IsTarget columns kinds t → FindsConds bases columns t.leaf.conditions × IfSome t.condition (FindsCond bases columns)
  target_parts kinds t h = ((leaf_finds bases columns there t.leaf h.leaf).0, if_own kinds t.leaf.table t.condition h.condition)

  pub change_finds : (kinds : List Kind) (t : ChangeTarget) → IsChangeTarget columns kinds t → FindsTarget bases columns t
  change_finds kinds (target.Searched t) h = target_parts kinds t h
  change_finds kinds (target.Positioned p) h = tt

-- an updatable cursor that is opened has a target that is well formed
pub declared_target : (columns : TableKinds) (kinds : List Kind) (ds : List DeclaredCursor) (n : ℕ) (d : DeclaredCursor) (u : UpdatableQuery) → OpensWellFormed columns ds kinds (statement.Open n) → slice_get ds n ≡ Some d
    → d.cursor.body ≡ body.Updatable u → IsTarget columns kinds u.target
declared_target columns kinds ds n d u h at is =
    let there : IsCursor columns kinds d.cursor = subst (λ (o : Option DeclaredCursor). Has (λ c. IsCursor columns kinds c.cursor) (well_formed o)) at h in
    (subst (λ (b : CursorBody). IsCursorBody columns kinds (kinds_of_results d.cursor.columns) b) is there).0

-- what is found of the target is found of the cursor's body
pub body_end : (s : Schemas) (seen : Seen) (ds : List DeclaredCursor) (n : ℕ) (d : DeclaredCursor) (u : UpdatableQuery) (r : Result (Option ClauseCause) AllocError) → slice_get ds n ≡ Some d → d.cursor.body ≡ body.Updatable u
    → IfOk r (λ found. IfSome found (IsTargetEnd s seen u.target)) → IfOk r (λ found. IfSome found (IsBodyEnd s seen (body_at ds n)))
body_end s seen ds n d u r at is h =
    let e : body_at ds n ≡ Some (body.Updatable u) = ap (λ (o : Option DeclaredCursor). option_map (λ c. c.cursor.body) o) at ∙ ap (λ (b : CursorBody). Some b) is in
    subst (λ (b : Option CursorBody). IfOk r (λ found. IfSome found (IsBodyEnd s seen b))) (sym e) h
