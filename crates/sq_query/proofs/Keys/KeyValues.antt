-- What the tests by which a condition names a row compare its columns with has a value: a literal, with or without a sign, or a parameter.
use Rattle.std.proofs.Common.{◌≡◌, ℕ, zero, suc, ◌<◌, Bool, true, false, List, [], ◌∷◌, length, map, take, slice_index_or, Option, Some, None, Result, refl, sym, ap, subst, ◌∙◌, arith, Ok, Err}
use Rattle.std.specs.Prelude.{⊤, IfErr, IfSome, if◌then◌else◌, nat_eq, option_to_list}
use Rattle.std.specs.List.{AllByRecursion, Contains, list_all, list_any}
use Rattle.std.specs.Result.{IsErrAnd}
use Rattle.std.proofs.lemmas.List.Folds.{list_all-map}
use Rattle.sq_lex.specs.declared.name.Name.{Name}
use Rattle.sq_value.specs.Domain.{IsOfKind}
use Rattle.sq_value.specs.declared.domain.Kind.{Kind}
use Rattle.sq_value.specs.declared.value.Value.{Value}
use Rattle.sq_value.specs.declared.value.Value.TheVariants.{Null, Num, Chars}
use Rattle.sq_tree.specs.declared.cond.Comparison.TheVariants.{Equal}
use Rattle.sq_tree.specs.declared.expr.Sign.{Sign}
use Rattle.sq_tree.specs.declared.expr.Sign.TheVariants.{Plus, Minus}
use Rattle.sq_meaning.specs.Status.{Outcome, and_then}
use Rattle.sq_meaning.specs.Syntax.{added, bracketed, column, compare, conds, conjunction, count_rows, disjunction, literal, parameter, scaled, set_function, signed, user}
use Rattle.sq_meaning.specs.Environment.{Env, Row, alone}
use Rattle.sq_meaning.specs.Expression.{value, with_sign}
use Rattle.sq_meaning.specs.Kind.{Kinds, kind, kind_of_value, signed_kind}
use Rattle.sq_meaning.specs.Placed.{Placed, PlacedParameter, by_place}
use Rattle.sq_meaning.specs.WellFormed.{Answers, Fits, HasValue, IsDeclaredAt, IsEnvOf, IsRowOf, Level, MayStand, WellFormedCond, WellFormedConds, froms, kinds_by_place, of_lines}
use Rattle.sq_meaning.proofs.ReadingKinds.{places_agree, env_by_place}
use Rattle.sq_meaning.proofs.SureLaws.{all_passed, sure_value}
use Rattle.sq_meaning.proofs.ValueKinds.{value_fits}
use Rattle.sq_bound.specs.Condition.{PlacedCond, cond_of, conj_of, test_of}
use Rattle.sq_bound.specs.Expression.{PlacedExpr, expr_of}
use Rattle.sq_bound.specs.Keyed.{is_constant, names_key, names_one_of}
use Rattle.sq_bound.specs.WellFormed.{IsCond, IsTarget, TableKinds, of_base_at}
use Rattle.sq_bound.specs.declared.condition.BoundCond.{BoundCond, out-BoundCond}
use Rattle.sq_bound.specs.declared.condition.BoundConj.{BoundConj, out-BoundConj}
use Rattle.sq_bound.specs.declared.condition.BoundTest.{BoundTest}
use Rattle.sq_bound.specs.declared.condition.TablePlace.{TablePlace}
use Rattle.sq_bound.specs.declared.condition.TablePlace.TheVariants.{Base}
use Rattle.sq_bound.specs.declared.expression.BoundExpr.{BoundExpr}
use Rattle.sq_bound.specs.declared.query.Target.{Target}
use Rattle.sq_bound.proofs.ConditionLaws.{cond_of-out, conj_of-out}
use Rattle.sq_bound.proofs.QuietRows.{no_tables}
use Rattle.sq_bound.proofs.QuietTruths.{valued_so}
use Rattle.sq_expression.specs.Fault.{Meets, MeetsAs}
use Rattle.sq_expression.specs.Frame.{inputs_of}
use Rattle.sq_expression.specs.declared.fault.Fault.{Fault}
use Rattle.sq_expression.specs.declared.fault.Fault.TheVariants as fault
use Rattle.sq_query.specs.Key.{AreFirstTests, HaveValues, IsEquality, StandsOn, on_rows_of}
use Rattle.sq_query.specs.Row.{outside}
use Rattle.sq_query.proofs.Keys.KeyLacked.{none_fit}
use Rattle.sq_query.proofs.Keys.KeyNames.{first_tests_start, firsts_name}
use Rattle.sq_query.proofs.Keys.KeyedRows.{inputs_are}

-- ---- lists

pub all_first : {A : Type 0} (P : A → Type 0) (n : ℕ) (xs : List A) → AllByRecursion P xs → AllByRecursion P (take n xs)
all_first P zero xs all = tt
all_first P (suc n) [] all = tt
all_first P (suc n) (x ∷ xs) all = (all.0, all_first P n xs all.1)

pub all_contained : {A : Type 0} (P : A → Type 0) (xs : List A) (k : ℕ) (x : A) → AllByRecursion P xs → k < length xs → slice_index_or xs k x ≡ x → P x
all_contained P [] k x all within at = absurd (omega arith)
all_contained P (y ∷ ys) zero x all within at = subst P at all.0
all_contained P (y ∷ ys) (suc k) x all within at = all_contained P ys k x all.1 (omega arith) at

-- ---- the condition of a target is well formed, test by test

pub term_tree : (own : BoundCond) (term : BoundConj) → (out-BoundCond own).terms ≡ term ∷ [] → cond_of [] own ≡ disjunction (conds (conjunction (conds (map (test_of []) (out-BoundConj term).tests)) ∷ []))
term_tree own term only =
    cond_of-out [] own ∙ ap (λ (ts : List BoundConj). disjunction (conds (map (conj_of []) ts))) only
    ∙ ap (λ (c : PlacedCond). disjunction (conds (c ∷ []))) (conj_of-out [] term)

module _ (columns : TableKinds) (parameters : List Kind) where
  abbrev known_kinds : Kinds (Placed TablePlace)
  known_kinds = kinds_by_place columns parameters

  abbrev pub IsTestAt : TablePlace → PlacedCond → Type 0
  IsTestAt place = WellFormedCond (by_place no_tables) known_kinds (IsDeclaredAt parameters) (on_rows_of place)

  tests_at : (place : TablePlace) (ts : List BoundTest) → WellFormedConds (by_place no_tables) known_kinds (IsDeclaredAt parameters) (on_rows_of place) (conds (map (test_of []) ts)) → AllByRecursion (λ x. IsTestAt place (test_of [] x)) ts
  tests_at place [] h = tt
  tests_at place (x ∷ ts) h = (h.0, tests_at place ts h.1)

  own_well : (t : Target) (own : BoundCond) → IsTarget columns parameters t → t.condition ≡ Some own → IsCond columns parameters (of_base_at t.leaf.table.place) [] own
  own_well t own well is = by t.condition well.condition is
    where
      by : (o : Option BoundCond) → IfSome o (IsCond columns parameters (of_base_at t.leaf.table.place) []) → o ≡ Some own → IsCond columns parameters (of_base_at t.leaf.table.place) [] own
      by None h e = cc
      by (Some d) h e = let same : d ≡ own = cc in subst (IsCond columns parameters (of_base_at t.leaf.table.place) []) same h

  -- a target's own condition stands on the rows of the base table
  pub own_stands : (t : Target) (own : BoundCond) → IsTarget columns parameters t → t.condition ≡ Some own → StandsOn columns parameters (Base t.leaf.table.place) own
  own_stands t own well is rows_of =
      let c = own_well t own well is in
      subst (WellFormedCond (by_place rows_of) known_kinds (IsDeclaredAt parameters) (of_base_at t.leaf.table.place)) (sym (c.is_tree [])) (c.stands rows_of)

  pub tests_stand : (place : TablePlace) (own : BoundCond) (term : BoundConj) → (out-BoundCond own).terms ≡ term ∷ [] → IsTestAt place (cond_of [] own) → AllByRecursion (λ x. IsTestAt place (test_of [] x)) (out-BoundConj term).tests
  tests_stand place own term only whole =
      let taken : IsTestAt place (disjunction (conds (conjunction (conds (map (test_of []) (out-BoundConj term).tests)) ∷ []))) = subst (IsTestAt place) (term_tree own term only) whole in
      tests_at place (out-BoundConj term).tests taken.0

-- ---- what a test that names a column compares it with

abbrev pub among : List ℕ → Option ℕ → Bool
among key o = list_any (λ n. list_any (nat_eq n) (option_to_list o)) key

pub none_among : (key : List ℕ) → among key None ≡ false
none_among [] = refl
none_among (n ∷ key) = none_among key

-- what a test of a key compares a column with is a literal or a parameter
constant_in : (key : List ℕ) (n item : ℕ) (x : PlacedExpr) → names_one_of key (compare Equal (column (record { depth = 0; item = item; column = n })) x) ≡ true → is_constant x ≡ true
constant_in key n item x h = by (is_constant x) refl h
  where
    by : (b : Bool) → is_constant x ≡ b → among key (if b then Some n else None) ≡ true → is_constant x ≡ true
    by true e named = e
    by false e named = let none : among key None ≡ false = none_among key in cc

-- ---- the value of a literal or a parameter, on no row

pub answered : (known : Outcome Kind) (o : Outcome Value) → HasValue known → Fits IsOfKind known o → Answers (λ x. ⊤) o
answered (Err s) o there fits = absurd there
answered (Ok k) (Ok v) there fits = tt
answered (Ok k) (Err s) there fits = fits

signed_there : (sign : Sign) (v : Value) → HasValue (and_then (kind_of_value v) signed_kind) → HasValue (with_sign sign v)
signed_there sign Null there = absurd there
signed_there Plus (Num n) there = tt
signed_there Minus (Num n) there = tt
signed_there sign (Chars t) there = absurd there

module _ (columns : TableKinds) (parameters : List Kind) (values : List Value) (caller : Name) (given : IsRowOf parameters values) where
  abbrev kinds_there : Kinds (Placed TablePlace)
  kinds_there = kinds_by_place columns parameters

  abbrev nowhere : Env (Unit {0})
  nowhere = outside [] values caller

  -- in a query over no table
  abbrev no_row : List (Level (Placed TablePlace))
  no_row = of_lines [] ∷ []

  env_is : IsEnvOf (by_place no_tables) kinds_there (IsDeclaredAt parameters) no_row nowhere
  env_is = env_by_place no_tables columns parameters no_row (alone [] [] ∷ []) (inputs_of values) caller (record { line = tt; group = tt }, tt) (inputs_are parameters values given)

  parameter_there : (p : PlacedParameter) → HasValue (kinds_there.parameter p) → IsDeclaredAt parameters p → HasValue (value (by_place no_tables) (parameter p) nowhere)
  parameter_there p known declared =
      valued_so (value (by_place no_tables) (parameter p) nowhere) (sure_value no_tables (parameter p) nowhere refl)
      (answered (kinds_there.parameter p) (value (by_place no_tables) (parameter p) nowhere) known
      (value_fits (by_place no_tables) kinds_there (IsDeclaredAt parameters) (places_agree no_tables columns parameters (λ t. none_fit (columns t))) no_row (parameter p) nowhere declared env_is))

  constant_there : (levels : List (Level (Placed TablePlace))) (tables : TablePlace → Outcome (List Row)) (x : PlacedExpr) → is_constant x ≡ true → HasValue (kind kinds_there (froms levels) x)
      → MayStand (by_place no_tables) kinds_there (IsDeclaredAt parameters) levels x → HasValue (value (by_place tables) x nowhere)
  constant_there levels tables (literal v) h known stands = tt
  constant_there levels tables (parameter p) h known stands = parameter_there p known stands
  constant_there levels tables (signed s (literal v)) h known stands = signed_there s v known
  constant_there levels tables user h known stands = cc
  constant_there levels tables (column p) h known stands = cc
  constant_there levels tables count_rows h known stands = cc
  constant_there levels tables (set_function f d e) h known stands = cc
  constant_there levels tables (signed s (parameter p)) h known stands = cc
  constant_there levels tables (signed s user) h known stands = cc
  constant_there levels tables (signed s (column p)) h known stands = cc
  constant_there levels tables (signed s count_rows) h known stands = cc
  constant_there levels tables (signed s (set_function f d e)) h known stands = cc
  constant_there levels tables (signed s (signed r e)) h known stands = cc
  constant_there levels tables (signed s (added r a b)) h known stands = cc
  constant_there levels tables (signed s (scaled r a b)) h known stands = cc
  constant_there levels tables (signed s (bracketed e)) h known stands = cc
  constant_there levels tables (added s a b) h known stands = cc
  constant_there levels tables (scaled s a b) h known stands = cc
  constant_there levels tables (bracketed e) h known stands = cc

  -- ---- and of all that the tests of a target compare columns with

  named_value : (place : TablePlace) (key : List ℕ) (tables : TablePlace → Outcome (List Row)) (test : BoundTest) (n : ℕ) (e : BoundExpr) → IsEquality n e test → names_one_of key (test_of [] test) ≡ true
      → IsTestAt columns parameters place (test_of [] test) → HasValue (value (by_place tables) (expr_of [] e) nowhere)
  named_value place key tables test n e is names well =
      let pair = subst (IsTestAt columns parameters place) is.1 well in
      constant_there (on_rows_of place) tables (expr_of [] e) (constant_in key n is.0 (expr_of [] e) (sym (ap (names_one_of key) is.1) ∙ names)) pair.1.0 pair.1.1

  all_names : (key : List ℕ) (ts : List BoundTest) → list_all (names_one_of key) (map (test_of []) ts) ≡ true → AllByRecursion (λ x. names_one_of key (test_of [] x) ≡ true) ts
  all_names key ts h = all_passed (λ x. names_one_of key (test_of [] x)) ts (sym (list_all-map (names_one_of key) (test_of []) ts) ∙ h)

  firsts_valued : (place : TablePlace) (own : BoundCond) (term : BoundConj) (key : List ℕ) (count : ℕ) → StandsOn columns parameters place own → (out-BoundCond own).terms ≡ term ∷ []
      → list_all (names_one_of key) (map (test_of []) (take count (out-BoundConj term).tests)) ≡ true → HaveValues (take count (out-BoundConj term).tests) values caller
  firsts_valued place own term key count stands only names tables test n e among is_test =
      let firsts : List BoundTest = take count (out-BoundConj term).tests in
      named_value place key tables test n e is_test
      (all_contained (λ x. names_one_of key (test_of [] x) ≡ true) firsts among.0 test (all_names key firsts names) among.1 among.2)
      (all_contained (λ x. IsTestAt columns parameters place (test_of [] x)) firsts among.0 test (all_first _ count (out-BoundConj term).tests (tests_stand columns parameters place own term only (stands no_tables))) among.1 among.2)

  pub first_tests_valued : (place : TablePlace) (own : BoundCond) (key : List ℕ) (tests : List BoundTest) → StandsOn columns parameters place own → names_key key (out-BoundCond own).terms ≡ true → AreFirstTests key own tests
      → HaveValues tests values caller
  first_tests_valued place own key tests stands named r =
      subst (λ (firsts : List BoundTest). HaveValues firsts values caller) (sym r.firsts)
      (firsts_valued place own r.term key (length key) stands r.only_term (firsts_name key (out-BoundConj r.term).tests (first_tests_start own key tests named r)))

-- ---- a fault

-- where there is a value, memory alone may be refused
only_memory : (f : Fault) (o : Outcome Value) → HasValue o → Meets {A = Value} (Err f) o → f ≡ fault.NoMemory
only_memory fault.NoMemory o there meets = refl
only_memory (fault.Status s) o there meets = absurd (subst HasValue meets there)

pub handed_memory : {A : Type 0} (r : Result A Fault) (f : Fault) → IsErrAnd r (λ g. g ≡ f) → f ≡ fault.NoMemory → IfErr r (λ g. g ≡ fault.NoMemory)
handed_memory (Ok x) f is memory = tt
handed_memory (Err g) f is memory = is ∙ memory

pub memory_meets : {A B : Type 0} (view : A → B) (r : Result A Fault) (f : Fault) → IsErrAnd r (λ g. g ≡ f) → f ≡ fault.NoMemory → (o : Outcome B) → MeetsAs view r o
memory_meets view (Ok x) f is memory o = absurd is
memory_meets {A} view (Err g) f is memory o = subst (λ (x : Fault). MeetsAs {A = A} view (Err x) o) (sym (is ∙ memory)) tt

pub valued_memory : {A : Type 0} (r : Result A Fault) (f : Fault) (tests : List BoundTest) (values : List Value) (caller : Name) (n : ℕ) (e : BoundExpr) → (test : BoundTest) × Contains tests test × IsEquality n e test
    → HaveValues tests values caller → ((tables : TablePlace → Outcome (List Row)) → Meets {A = Value} (Err f) (value (by_place tables) (expr_of [] e) (outside [] values caller)))
    → IsErrAnd r (λ g. g ≡ f) → IfErr r (λ g. g ≡ fault.NoMemory)
valued_memory r f tests values caller n e found valued meets is =
    handed_memory r f is (only_memory f (value (by_place no_tables) (expr_of [] e) (outside [] values caller)) (valued no_tables found.0 n e found.1 found.2) (meets no_tables))
