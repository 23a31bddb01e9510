-- What a statement changes, and the causes that are found in its changes.
use Rattle.std.proofs.Common.{◌≡◌, List, Option, Some, None, Result, Ok, Err, IfOk, IfSome, refl, sym, subst, ap}
use Rattle.std.specs.declared.alloc.AllocError.{AllocError}
use Rattle.sq_lex.specs.declared.name.Name.{Name}
use Rattle.sq_value.specs.declared.domain.Kind.{Kind as ValueKind}
use Rattle.sq_value.specs.declared.value.Value.{Value}
use Rattle.sq_store.specs.declared.change.Change.{Change}
use Rattle.sq_bound.specs.Fits.{under}
use Rattle.sq_bound.specs.WellFormed.{IsChangeTarget, IsLeaf, IsStatement, TableKinds}
use Rattle.sq_bound.specs.declared.names.Leaf.{Leaf}
use Rattle.sq_bound.specs.declared.names.ParameterDesc.{ParameterDesc}
use Rattle.sq_bound.specs.declared.statement.BoundStatement.{BoundStatement}
use Rattle.sq_bound.specs.declared.statement.BoundStatement.TheVariants as statement
use Rattle.sq_bound.specs.declared.statement.ChangeTarget.{ChangeTarget}
use Rattle.sq_bound.specs.declared.statement.ChangeTarget.TheVariants as target
use Rattle.sq_module.specs.declared.program.DeclaredCursor.{DeclaredCursor}
use Rattle.sq_session.specs.Kind.{Caller, Kind, Updating, caller_of, delete_kind, kind_of, update_kind, updating}
use Rattle.sq_session.specs.Schemas.{Schemas}
use Rattle.sq_session.specs.State.{State}
use Rattle.sq_cause.specs.Broken.{seen_of, user_of}
use Rattle.sq_cause.specs.Cause.{ChangeCause, IsChangeCause, IsStatementCause}
use Rattle.sq_cause.specs.Made.{IsLeafOf, IsMade, leaf_of}
use Rattle.sq_cause.specs.declared.cause.Cause.{Cause}
use Rattle.sq_cause.specs.declared.cause.Cause.TheVariants as cause

-- ---- the leaf is well formed

under_well : (columns : TableKinds) (kinds : List ValueKind) (t : ChangeTarget) → IsChangeTarget columns kinds t → IsLeaf columns (under t)
under_well columns kinds (target.Searched t) h = h.leaf
under_well columns kinds (target.Positioned p) h = h

pub leaf_well : (columns : TableKinds) (cursors : List (List ValueKind)) (kinds : List ValueKind) (s : BoundStatement) (leaf : Leaf) → IsStatement columns cursors kinds s → IsLeafOf s leaf → IsLeaf columns leaf
leaf_well columns cursors kinds (statement.Open n) leaf h of = absurd of
leaf_well columns cursors kinds (statement.Fetch f) leaf h of = absurd of
leaf_well columns cursors kinds (statement.Close n) leaf h of = absurd of
leaf_well columns cursors kinds (statement.Select s) leaf h of = absurd of
leaf_well columns cursors kinds (statement.Insert i) leaf h of = subst (λ (l : Leaf). IsLeaf columns l) (sym of) h.0
leaf_well columns cursors kinds (statement.Update u) leaf h of = subst (λ (l : Leaf). IsLeaf columns l) (sym of) (under_well columns kinds u.target h.0)
leaf_well columns cursors kinds (statement.Delete t) leaf h of = subst (λ (l : Leaf). IsLeaf columns l) (sym of) (under_well columns kinds t h)
leaf_well columns cursors kinds statement.Commit leaf h of = absurd of
leaf_well columns cursors kinds statement.Rollback leaf h of = absurd of

-- ---- the leaf and the user of a statement's kind

update_leaf : (u : Updating) (t : ChangeTarget) → leaf_of (update_kind u t) ≡ Some (under u.statement.target)
update_leaf u (target.Searched t) = refl
update_leaf u (target.Positioned p) = refl

delete_leaf : (caller : Caller) (t : ChangeTarget) → leaf_of (delete_kind caller t) ≡ Some (under t)
delete_leaf caller (target.Searched t) = refl
delete_leaf caller (target.Positioned p) = refl

pub leaf_is : (cs : List DeclaredCursor) (user : Name) (ps : List ParameterDesc) (s : BoundStatement) (leaf : Leaf) → IsLeafOf s leaf → leaf_of (kind_of cs user ps s) ≡ Some leaf
leaf_is cs user ps (statement.Open n) leaf of = absurd of
leaf_is cs user ps (statement.Fetch f) leaf of = absurd of
leaf_is cs user ps (statement.Close n) leaf of = absurd of
leaf_is cs user ps (statement.Select s) leaf of = absurd of
leaf_is cs user ps (statement.Insert i) leaf of = ap (λ (l : Leaf). Some l) (sym of)
leaf_is cs user ps (statement.Update u) leaf of = rw of (update_leaf (updating cs (caller_of user ps) u) u.target)
leaf_is cs user ps (statement.Delete t) leaf of = rw of (delete_leaf (caller_of user ps) t)
leaf_is cs user ps statement.Commit leaf of = absurd of
leaf_is cs user ps statement.Rollback leaf of = absurd of

update_user : (u : Updating) (t : ChangeTarget) → user_of (update_kind u t) ≡ u.caller.user
update_user u (target.Searched t) = refl
update_user u (target.Positioned p) = refl

delete_user : (caller : Caller) (t : ChangeTarget) → user_of (delete_kind caller t) ≡ caller.user
delete_user caller (target.Searched t) = refl
delete_user caller (target.Positioned p) = refl

pub user_is : (cs : List DeclaredCursor) (user : Name) (ps : List ParameterDesc) (s : BoundStatement) (leaf : Leaf) → IsLeafOf s leaf → user_of (kind_of cs user ps s) ≡ user
user_is cs user ps (statement.Open n) leaf of = absurd of
user_is cs user ps (statement.Fetch f) leaf of = absurd of
user_is cs user ps (statement.Close n) leaf of = absurd of
user_is cs user ps (statement.Select s) leaf of = absurd of
user_is cs user ps (statement.Insert i) leaf of = refl
user_is cs user ps (statement.Update u) leaf of = update_user (updating cs (caller_of user ps) u) u.target
user_is cs user ps (statement.Delete t) leaf of = delete_user (caller_of user ps) t
user_is cs user ps statement.Commit leaf of = absurd of
user_is cs user ps statement.Rollback leaf of = absurd of

-- ---- causes

pub change_cause : (s : Schemas) (k : Kind) (values : List Value) (state : State) (leaf : Leaf) (changes : List Change) (r : Result (Option Cause) AllocError) → leaf_of k ≡ Some leaf → IsMade s k values state changes
    → IfOk r (λ found. IfSome found (IsChangeCause s (seen_of s k values state) state.keys leaf changes)) → IfOk r (λ found. IfSome found (ChangeCause s k values state))
change_cause s k values state leaf changes (Err e) is made h = tt
change_cause s k values state leaf changes (Ok None) is made h = tt
change_cause s k values state leaf changes (Ok (Some c)) is made h = record { leaf = leaf; leaf_is = is; changes = changes; made = made; broken = h }

one_cause : (s : Schemas) (k : Kind) (values : List Value) (state : State) (c : Cause) → ChangeCause s k values state c → IsStatementCause s k values state c
one_cause s k values state (cause.Fault f) h = absurd h.broken
one_cause s k values state (cause.Cursor c) h = absurd h.broken
one_cause s k values state (cause.Breach table b) h = h
one_cause s k values state (cause.CheckOption table b) h = h
one_cause s k values state (cause.Value v) h = absurd h.broken
one_cause s k values state (cause.Target t) h = absurd h.broken
one_cause s k values state (cause.Select c) h = absurd h.broken
one_cause s k values state (cause.NoRow c) h = absurd h.broken
one_cause s k values state (cause.NoNumber table) h = absurd h.broken
one_cause s k values state (cause.Clause c) h = absurd h.broken
one_cause s k values state (cause.RowEnd r) h = h
one_cause s k values state (cause.Query q) h = absurd h.broken
one_cause s k values state (cause.General st) h = tt

pub statement_cause : (s : Schemas) (k : Kind) (values : List Value) (state : State) (r : Result (Option Cause) AllocError) → IfOk r (λ found. IfSome found (ChangeCause s k values state)) → IfOk r (λ found. IfSome found (IsStatementCause s k values state))
statement_cause s k values state (Err e) h = tt
statement_cause s k values state (Ok None) h = tt
statement_cause s k values state (Ok (Some c)) h = one_cause s k values state c h
