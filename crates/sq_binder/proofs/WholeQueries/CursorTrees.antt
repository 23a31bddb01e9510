-- Cursors and views: the parts in no query, and the results made of the parts.
use Rattle.std.proofs.Common.{◌≡◌, Bool, true, false, List, [], Option, None, Some, Ok, Err, refl, sym, ap, subst, ◌∙◌}
use Rattle.std.specs.Prelude.{Result, IfSome, if◌then◌else◌}
use Rattle.sq_lex.specs.declared.name.Name.{Name}
use Rattle.sq_meaning.specs.Tables.{Declared}
use Rattle.sq_meaning.specs.declared.fault.BindingFault.TheVariants as fault
use Rattle.sq_bound.specs.declared.query.CursorBody.{CursorBody}
use Rattle.sq_bound.specs.declared.query.CursorBody.TheVariants as body
use Rattle.sq_bound.specs.declared.query.UpdatableQuery.{UpdatableQuery}
use Rattle.sq_binding.specs.Found.{Binding, Counts as BindingCounts, ◌>>=◌, after, outcome, pure}
use Rattle.sq_binding.specs.Found as binding
use Rattle.sq_binding.specs.From.{NamedTables}
use Rattle.sq_binding.specs.Order.{names_of, order_bound}
use Rattle.sq_binding.specs.Outcome.{Outcome}
use Rattle.sq_binding.specs.QueryExpression.{NumberedQuery, columns_of_query}
use Rattle.sq_binding.specs.Select.{Surroundings}
use Rattle.sq_binding.specs.Whole.{permitted}
use Rattle.sq_binder.specs.Binds.{Stops, broken}
use Rattle.sq_binder.specs.Found.{found_of, pairs}
use Rattle.sq_binder.specs.Scope.{parameters_in, scopes_in}
use Rattle.sq_binder.specs.declared.found.Found.{Found}
use Rattle.sq_binder.specs.declared.scope.Environment.{Environment}
use Rattle.sq_binder.specs.declared.stop.Stop.{Stop}
use Rattle.sq_binder.proofs.OneByOne.Behind.{made_of, two_made}
use Rattle.sq_binder.proofs.Clauses.Inside.{at}
use Rattle.sq_binder.specs.Cursor.{IsOver, IsOverPart, in_order}
use Rattle.sq_binder.specs.Names.{Changes, IsUnder}
use Rattle.sq_binding.specs.SeenQuery.{table_named}
use Rattle.sq_tree.specs.declared.«module».SortSpecification.{SortSpecification}

-- in no query
pub in_none : (P : Name → Surroundings → Type 0) (names : NamedTables) (environment : Environment) (user : Name) (parameters : List Declared) → scopes_in environment ≡ [] → parameters_in environment ≡ parameters
    → environment.user ≡ user → P environment.user (at names environment false) → P user (record { names = names; parameters = parameters; scopes = []; functions_allowed = false })
in_none P names environment user parameters none same own p =
    subst (λ (z : Name × Surroundings). P z.0 z.1) (λ i. (own i, record { names = names; parameters = same i; scopes = none i; functions_allowed = false })) p

-- ---- privileges

abbrev stop_in : {B : Type 0} → Stop → Result B Stop → Stop
stop_in d (Ok x) = d
stop_in d (Err stop) = stop

abbrev part_in : {B : Type 0} → B → Result B Stop → B
part_in d (Ok x) = x
part_in d (Err stop) = d

lacking : {A B : Type 0} (lacks : Bool) (part : B) (seen : A) (stop : Stop) → (if lacks then Err (broken fault.PrivilegeMissing) else Ok part) ≡ Err stop → Stops (if lacks then Err fault.PrivilegeMissing else Ok seen) stop
lacking {A} true part seen stop is = subst (λ (s : Stop). Stops {A = A} (Err fault.PrivilegeMissing) s) (ap (stop_in stop) is) refl
lacking false part seen stop is = cc

holding : {A B : Type 0} (image : B → A) (lacks : Bool) (part x : B) → (if lacks then Err (broken fault.PrivilegeMissing) else Ok part) ≡ Ok x → (if lacks then Err fault.PrivilegeMissing else Ok (image part)) ≡ Ok (image x)
holding image true part x is = cc
holding image false part x is = ap (λ p. Ok (image p)) (ap (part_in x) is)

module _ {A B : Type 0} (image : B → A) (x : Found B) where
  abbrev granted : Result B Stop
  granted = if x.brought.findings.lacks_privilege then Err (broken fault.PrivilegeMissing) else Ok x.part

  pub permitted_stops : (stop : Stop) → granted ≡ Err stop → Stops (permitted (found_of image x)) stop
  permitted_stops stop is = lacking x.brought.findings.lacks_privilege x.part (image x.part) stop is

  pub permitted_is : (part : B) → granted ≡ Ok part → permitted (found_of image x) ≡ Ok (image part)
  permitted_is part is = holding image x.brought.findings.lacks_privilege x.part part is

-- ---- ORDER BY

same_pair : {A B : Type 0} (o : Outcome (binding.Found (A × B))) → made_of (λ z. (z.0, z.1)) o ≡ o
same_pair (Ok x) = refl
same_pair (Err f) = refl

pub in_order_as : (b : Binding NumberedQuery) (order : List SortSpecification) (counts : BindingCounts) → in_order b order counts ≡ pairs b (λ x. outcome (order_bound (names_of (columns_of_query x)) order)) counts
in_order_as b order counts =
    let by = λ (x : NumberedQuery). outcome (order_bound (names_of (columns_of_query x)) order) in
    (two_made b by (λ x y. (x, y))).is counts ∙ same_pair (pairs b by counts)

-- ---- what an updatable cursor is over

pub over_as : (changes : Changes) (over : Option ((Name × Name) × UpdatableQuery)) (table : Option (Name × Name)) (b : CursorBody) → IsOverPart over table b
    → IfSome over (λ o. IsUnder changes (table_named o.0) o.1.target.leaf) → IsOver changes table b
over_as changes None table (body.Rows q order) is under = tt
over_as changes None table (body.Updatable u) is under = absurd is
over_as changes (Some over) table (body.Rows q order) is under = absurd is
over_as changes (Some over) table (body.Updatable u) is under =
    subst (λ (t : Option (Name × Name)). IsOver changes t (body.Updatable u)) (sym is.0)
    (subst (λ (u : UpdatableQuery). IsUnder changes (table_named over.0) u.target.leaf) (sym is.1) under)
