-- What is well formed and reads tables and parameters of their kinds never ends with 42000 (ISO/IEC 9075:1992, 7.9 and 7.10).
use Rattle.std.proofs.Common.{◌≡◌, List, [], subst, Result, Ok, Err}
use Rattle.std.specs.Prelude.{IfOk, IfErr}
use Rattle.sq_lex.specs.declared.name.Name.{Name}
use Rattle.sq_value.specs.declared.domain.Kind.{Kind}
use Rattle.sq_value.specs.declared.value.Value.{Value}
use Rattle.sq_meaning.specs.Status.{Outcome}
use Rattle.sq_meaning.specs.Environment.{Row, outermost}
use Rattle.sq_meaning.specs.Kind.{query_kinds}
use Rattle.sq_meaning.specs.Placed.{by_place}
use Rattle.sq_meaning.specs.QueryExpression.{query_rows}
use Rattle.sq_meaning.specs.WellFormed.{Answers, Has, IsRowOf, AreRowsOf, WellFormedQuery, IsEnvOf, kinds_by_place, IsDeclaredAt}
use Rattle.sq_meaning.proofs.ReadingKinds.{places_agree, env_by_place}
use Rattle.sq_meaning.proofs.UnionKinds.{query_of_kinds}
use Rattle.sq_bound.specs.Query.{PlacedQuery}
use Rattle.sq_bound.specs.WellFormed.{TableKinds}
use Rattle.sq_bound.specs.declared.condition.TablePlace.{TablePlace}
use Rattle.sq_expression.specs.Fault.{IsAnswered, IsRight, Meets, MeetsAs, MeansAs}
use Rattle.sq_expression.specs.Frame.{inputs_of}
use Rattle.sq_query.specs.MayRead.{MayEnd}
use Rattle.sq_query.specs.Union.{AreFitting}
use Rattle.sq_expression.specs.declared.fault.Fault.{Fault}
use Rattle.sq_expression.specs.declared.fault.Fault.TheVariants as fault
use Rattle.sq_query.proofs.Keys.KeyedRows.{inputs_are}

-- ---- outcomes

pub answers_right : {A : Type 0} (P : A → Type 0) (o : Outcome A) → Answers P o → IsRight o
answers_right P o h is = subst (Answers P) is h

-- an answer that is the outcome where that is right is the outcome
pub exact : {A B : Type 0} (view : A → B) (r : Result A Fault) (P : B → Type 0) (o : Outcome B) → MeansAs view r o → Answers P o → MeetsAs view r o
exact view r P o means h = means (answers_right P o h)

-- ---- outside every query

module _ (columns : TableKinds) (parameters : List Kind) (tables : TablePlace → Outcome (List Row)) (fitting : AreFitting columns tables) (values : List Value) (inputs : IsRowOf parameters values) (user : Name) where
  outside_is : IsEnvOf (by_place tables) (kinds_by_place columns parameters) (IsDeclaredAt parameters) [] (outermost (inputs_of values) user)
  outside_is = env_by_place tables columns parameters [] [] (inputs_of values) user tt (inputs_are parameters values inputs)

  pub query_fits : (q : PlacedQuery) (ks : List Kind) → query_kinds (kinds_by_place columns parameters) q ≡ Ok ks → WellFormedQuery (by_place tables) (kinds_by_place columns parameters) (IsDeclaredAt parameters) q
      → Answers (AreRowsOf ks) (query_rows (by_place tables) (kinds_by_place columns parameters) q (outermost (inputs_of values) user))
  query_fits q ks known well =
      subst (λ (o : Outcome (List Kind)). Answers (λ found. Has (λ kinds. AreRowsOf kinds found) o) (query_rows (by_place tables) (kinds_by_place columns parameters) q (outermost (inputs_of values) user))) known
      (query_of_kinds (by_place tables) (kinds_by_place columns parameters) (IsDeclaredAt parameters) (places_agree tables columns parameters fitting) q (outermost (inputs_of values) user) well outside_is)

-- ---- answers

-- what was found is of the kinds of the outcome
pub found_so : {A B : Type 0} (view : A → B) (r : Result A Fault) (P : B → Type 0) (o : Outcome B) → Answers P o → MeetsAs view r o → IfOk r (λ a. P (view a))
found_so view (Ok a) P o h is = subst (Answers P) is h
found_so view (Err f) P o h is = tt

pub never_ends : {A B : Type 0} (view : A → B) (r : Result A Fault) (P : B → Type 0) (o : Outcome B) → Answers P o → MeetsAs view r o → IfErr r MayEnd
never_ends view (Ok a) P o h is = tt
never_ends {A} view (Err f) P o h is = λ e. subst (Answers P) (subst (λ (g : Fault). MeetsAs {A = A} view (Err g) o) e is) h

-- a refusal of memory, the only fault of an answered call, meets any outcome
pub no_answer : (A : Type 0) {B C : Type 0} (view : B → C) (f : Fault) (o : Outcome C) → IsAnswered {A = A} (Err f) → MeetsAs {A = B} view (Err f) o
no_answer A view fault.NoMemory o h = tt
no_answer A view (fault.Status s) o h = absurd h

-- a refusal of memory meets any outcome of the value itself
pub fails_so : (A : Type 0) {B : Type 0} (f : Fault) (o : Outcome B) → IsAnswered {A = A} (Err f) → Meets {A = B} (Err f) o
fails_so A fault.NoMemory o h = tt
fails_so A (fault.Status s) o h = absurd h

pub ends_right : {A : Type 0} (r : Result A Fault) (P : A → Type 0) (o : Outcome A) → Answers P o → Meets r o → IfErr r MayEnd
ends_right (Ok a) P o h is = tt
ends_right {A} (Err f) P o h is = λ e. subst (Answers P) (subst (λ (g : Fault). Meets {A = A} (Err g) o) e is) h
